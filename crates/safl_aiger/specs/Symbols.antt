-- Symbol lines, as the code reads them.
use Rattle.std.specs.Prelude.{◌≡◌, ◌≢◌, ℕ, ◌+◌, ◌^◌, ◌<◌, List, [], ◌++◌, length, drop, Some, slice_get, slice_set}
use Rattle.safl_aiger.specs.declared.circuit.Names.{Names}
use Rattle.safl_aiger.specs.declared.symbols.Sort.{Sort}
use Rattle.safl_aiger.specs.declared.symbols.Symbol.{Symbol}
use Rattle.safl_aiger.specs.declared.symbols.SymbolErr.{SymbolErr}
use Rattle.safl_aiger.specs.declared.symbols.SymbolErr.TheVariants as failures
use Rattle.safl_aiger.specs.declared.symbols.SymbolsErr.{SymbolsErr}
use Rattle.safl_aiger.specs.declared.symbols.SymbolsErr.TheVariants.{Stopped, NoMemory}
use Rattle.safl_aiger.specs.Circuits.{names_of}
use Rattle.safl_aiger.specs.Reads.{Named, NamePlaces, RefusesLine, SymbolFault, symbol_line, EndsSymbols}

-- the names that the code keeps
abbrev pub named : Names → Named
named n = record { inputs = names_of n.inputs.items; latches = names_of n.latches.items; outputs = names_of n.outputs.items }

-- there are no more names of a sort than a header can count
pub record IsSmall (n : Named) : Type 0 where
  pub inputs : length n.inputs < 2 ^ 31
  pub latches : length n.latches < 2 ^ 31
  pub outputs : length n.outputs < 2 ^ 31

-- the line is this symbol, with a name of at least one byte
pub record IsSymbol (line : List ℕ) (s : Symbol) : Type 0 where
  pub few : s.place < 2 ^ 31
  pub within : s.start < length line
  pub is : line ≡ symbol_line s.sort s.place (drop s.start line)

pub record IsSymbolLine (line : List ℕ) : Type 0 where
  pub sort : Sort
  pub place : ℕ
  pub name : List ℕ
  pub few : place < 2 ^ 31
  pub some : name ≢ []
  pub is : line ≡ symbol_line sort place name

-- the list after number k, which had no name, got this one
pub record Sets (old : List (List ℕ)) (k : ℕ) (name : List ℕ) (new : List (List ℕ)) : Type 0 where
  pub free : slice_get old k ≡ Some []
  pub some : name ≢ []
  pub sets : new ≡ slice_set old k name

-- why number k gets no name: it has one already, or there is no such number
abbrev pub IsTaken : List (List ℕ) → ℕ → SymbolErr → Type 0
IsTaken old k failures.Refused = ¬ (slice_get old k ≡ Some [])
IsTaken old k failures.NoMemory = Unit {0}

abbrev pub IsRefused : List ℕ → Named → SymbolErr → Type 0
IsRefused line old failures.Refused = RefusesLine line old
IsRefused line old failures.NoMemory = Unit {0}

-- these lines give names, up to the ones that are left
pub record NamesUpTo (ls : List (List ℕ)) (old new : Named) (left : List (List ℕ)) : Type 0 where
  pub symbols : List (List ℕ)
  pub lines_are : ls ≡ symbols ++ left
  pub names : NamePlaces symbols old new

-- all lines give names, up to the end or a line `c`
abbrev pub SymbolsPass : List (List ℕ) → Named → Named → Type 0
SymbolsPass ls old new = (left : List (List ℕ)) × NamesUpTo ls old new left × EndsSymbols left

-- The number of the first line that gives no name. So many lines of the text come before these.
abbrev pub SymbolsFail : List (List ℕ) → ℕ → Named → SymbolsErr → Type 0
SymbolsFail ls before old (Stopped n) = (k : ℕ) × SymbolFault ls old k × (n ≡ before + k + 1)
SymbolsFail ls before old NoMemory = Unit {0}
