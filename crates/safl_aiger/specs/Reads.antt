-- Which circuit a text reads as, and its first fault.
use Rattle.std.specs.Prelude.{◌≡◌, ◌≢◌, ◌⊎◌, ℕ, zero, suc, ◌+◌, ◌*◌, ◌<◌, ◌≤◌, List, [], ◌∷◌, ◌++◌, map, length, replicate, Some, slice_get, slice_set, codes, decimal}
use Rattle.safl_aiger.specs.declared.literal.Lit.{Lit}
use Rattle.safl_aiger.specs.declared.reading.AigRule.{AigRule}
use Rattle.safl_aiger.specs.declared.reading.AigRule.TheVariants.{B01, B02, B03, B04}
use Rattle.safl_aiger.specs.declared.reading.LineKind.{LineKind}
use Rattle.safl_aiger.specs.declared.reading.LineKind.TheVariants.{Input, Latch, Output, And}
use Rattle.safl_aiger.specs.declared.symbols.Sort.{Sort}
use Rattle.safl_aiger.specs.declared.symbols.Sort.TheVariants as sorts
use Rattle.safl_aiger.specs.declared.reading.Header.{Header}
use Rattle.safl_aiger.specs.declared.reading.Found.{Found}
use Rattle.safl_aiger.specs.Circuits.{Circuit, latches, variables, base}
use Rattle.safl_aiger.specs.Lines.{text_lines, HasNumbers}

-- the counts of a header, without the number of variables
pub record Counts : Type 0 where
  pub inputs : ℕ
  pub latches : ℕ
  pub outputs : ℕ
  pub ands : ℕ

abbrev pub total : Counts → ℕ
total c = c.inputs + c.latches + c.ands

-- the counts that the code keeps
abbrev pub counts : Header → Counts
counts h = record { inputs = h.inputs; latches = h.latches; outputs = h.outputs; ands = h.ands }

-- how many numbers a line of this kind has
abbrev pub size : LineKind → ℕ
size (Input v) = 1
size (Latch v) = 2
size Output = 1
size (And v) = 3

-- the numbers that the code has found in a line of this kind
abbrev pub numbers_found : LineKind → Found → List ℕ
numbers_found (Input v) f = f.first ∷ []
numbers_found (Latch v) f = f.first ∷ f.second ∷ []
numbers_found Output f = f.first ∷ []
numbers_found (And v) f = f.first ∷ f.second ∷ f.third ∷ []

-- what the numbers of a line have to be: its own literal, literals of the circuit, and, for an AND, operands below its own literal
abbrev pub IsGood : ℕ → LineKind → List ℕ → Type 0
IsGood most (Input v) (x ∷ []) = x ≡ 2 * v
IsGood most (Latch v) (x ∷ (n ∷ [])) = (x ≡ 2 * v) × (n ≤ 2 * most + 1)
IsGood most Output (x ∷ []) = x ≤ 2 * most + 1
IsGood most (And v) (x ∷ (a ∷ (b ∷ []))) = (x ≡ 2 * v) × (a < 2 * v) × (b < 2 * v)
IsGood most w ns = ⊥

abbrev pub kinds_from : (ℕ → LineKind) → ℕ → ℕ → List LineKind
kinds_from f first zero = []
kinds_from f first (suc k) = f first ∷ kinds_from f (suc first) k

-- the kinds of the lines after the header
abbrev pub line_kinds : Counts → List LineKind
line_kinds c =
    kinds_from Input 1 c.inputs ++ (kinds_from Latch (1 + c.inputs) c.latches ++ (replicate c.outputs Output ++ kinds_from And (1 + c.inputs + c.latches) c.ands))

-- the lines are of these kinds, and their numbers are good
abbrev pub AreGood : ℕ → List LineKind → List (List ℕ) → List (List ℕ) → Type 0
AreGood most [] [] [] = Unit {0}
AreGood most (w ∷ ws) (l ∷ ls) (ns ∷ nss) = HasNumbers l ns × IsGood most w ns × AreGood most ws ls nss
AreGood most _ _ _ = ⊥

-- the numbers that the lines of a circuit have
abbrev pub own_numbers : ℕ → ℕ → List (List ℕ)
own_numbers first zero = []
own_numbers first (suc k) = (2 * first ∷ []) ∷ own_numbers (suc first) k

abbrev pub latch_numbers : ℕ → List Lit → List (List ℕ)
latch_numbers first [] = []
latch_numbers first (l ∷ ls) = (2 * first ∷ l.0 ∷ []) ∷ latch_numbers (suc first) ls

abbrev pub and_numbers : ℕ → List (Lit × Lit) → List (List ℕ)
and_numbers first [] = []
and_numbers first (p ∷ ps) = (2 * first ∷ p.0.0 ∷ p.1.0 ∷ []) ∷ and_numbers (suc first) ps

abbrev pub body_numbers : Circuit → List (List ℕ)
body_numbers a = own_numbers 1 a.inputs ++ (latch_numbers (1 + a.inputs) a.nexts ++ (map (λ (l : Lit). l.0 ∷ []) a.outputs ++ and_numbers (base a) a.ands))

-- those of the lines of outputs
abbrev pub output_numbers : List Lit → List (List ℕ)
output_numbers ls = map (λ (l : Lit). l.0 ∷ []) ls

-- the names of inputs, latches and outputs given so far
pub record Named : Type 0 where
  pub inputs : List (List ℕ)
  pub latches : List (List ℕ)
  pub outputs : List (List ℕ)

abbrev pub unnamed : Counts → Named
unnamed c = record { inputs = replicate c.inputs []; latches = replicate c.latches []; outputs = replicate c.outputs [] }

-- the names of one sort; and the names of all sorts, with those of one sort replaced
abbrev pub names_for : Sort → Named → List (List ℕ)
names_for sorts.Input n = n.inputs
names_for sorts.Latch n = n.latches
names_for sorts.Output n = n.outputs

abbrev pub with_name : Sort → ℕ → List ℕ → Named → Named
with_name sorts.Input k name n = record n { inputs = slice_set n.inputs k name }
with_name sorts.Latch k name n = record n { latches = slice_set n.latches k name }
with_name sorts.Output k name n = record n { outputs = slice_set n.outputs k name }

abbrev pub letter : Sort → ℕ
letter sorts.Input = 105
letter sorts.Latch = 108
letter sorts.Output = 111

-- a symbol line, which is a letter, a number, a space and a name, gives a name to something of the circuit that has no name yet
pub record NamesPlace (line : List ℕ) (old new : Named) : Type 0 where
  pub sort : Sort
  pub place : ℕ
  pub name : List ℕ
  pub is : line ≡ (letter sort ∷ decimal place) ++ 32 ∷ name
  pub free : slice_get (names_for sort old) place ≡ Some []
  pub some : name ≢ []
  pub sets : new ≡ with_name sort place name old

-- such a line
abbrev pub symbol_line : Sort → ℕ → List ℕ → List ℕ
symbol_line sort k name = (letter sort ∷ decimal k) ++ 32 ∷ name

-- each of these lines gives a name
abbrev pub NamePlaces : List (List ℕ) → Named → Named → Type 0
NamePlaces [] old new = new ≡ old
NamePlaces (l ∷ ls) old new = (middle : Named) × NamesPlace l old middle × NamePlaces ls middle new

-- there are no more lines, or the next line is `c`
abbrev pub EndsSymbols : List (List ℕ) → Type 0
EndsSymbols [] = Unit {0}
EndsSymbols (l ∷ ls) = l ≡ codes "c"

-- The first line is `aag` and five numbers; the first is the sum of inputs, latches and ANDs, and these lines follow it.
pub record HasHeader (text : List ℕ) (c : Counts) (ls : List (List ℕ)) : Type 0 where
  pub head : List ℕ
  pub lines_are : text_lines text ≡ head ∷ ls
  pub header : (rest : List ℕ) × (head ≡ codes "aag " ++ rest) × HasNumbers rest (total c ∷ c.inputs ∷ c.latches ∷ c.outputs ∷ c.ands ∷ [])

-- such a first line
abbrev pub IsHeader : List ℕ → Counts → Type 0
IsHeader line c = (rest : List ℕ) × (line ≡ codes "aag " ++ rest) × HasNumbers rest (total c ∷ c.inputs ∷ c.latches ∷ c.outputs ∷ c.ands ∷ [])

abbrev pub counts_of : Circuit → Counts
counts_of a = record { inputs = a.inputs; latches = latches a; outputs = length a.outputs; ands = length a.ands }

abbrev pub named_of : Circuit → Named
named_of a = record { inputs = a.input_names; latches = a.latch_names; outputs = a.output_names }

-- the text is a header, the lines of a body, symbol lines, and anything from a line `c` on
pub record AigReads (text : List ℕ) (a : Circuit) : Type 0 where
  pub body : List (List ℕ)
  pub symbols : List (List ℕ)
  pub rest : List (List ℕ)
  pub begins : HasHeader text (counts_of a) (body ++ (symbols ++ rest))
  pub good : AreGood (variables a) (line_kinds (counts_of a)) body (body_numbers a)
  pub names : NamePlaces symbols (unnamed (counts_of a)) (named_of a)
  pub ends : EndsSymbols rest

-- there is no next line, or it does not have as many numbers as its kind, or they are not good
abbrev pub BreaksLine : ℕ → LineKind → List (List ℕ) → AigRule → Type 0
BreaksLine most w [] e = e ≡ B02
BreaksLine most w (l ∷ ls) e =
    ((e ≡ B02) × (¬ ((ns : List ℕ) × (length ns ≡ size w) × HasNumbers l ns)))
    ⊎ ((e ≡ B03) × ((ns : List ℕ) × HasNumbers l ns × (length ns ≡ size w) × (¬ (IsGood most w ns))))

-- the line does not have as many numbers as its kind, or they are not good
abbrev pub IsBad : ℕ → LineKind → List ℕ → AigRule → Type 0
IsBad most w l e =
    ((e ≡ B02) × (¬ ((ns : List ℕ) × (length ns ≡ size w) × HasNumbers l ns)))
    ⊎ ((e ≡ B03) × ((ns : List ℕ) × HasNumbers l ns × (length ns ≡ size w) × (¬ (IsGood most w ns))))

-- this many lines are of their kinds, and the line after them breaks this rule
abbrev pub LineFault : ℕ → List LineKind → List (List ℕ) → AigRule → ℕ → Type 0
LineFault most (w ∷ ws) ls e zero = BreaksLine most w ls e
LineFault most (w ∷ ws) (l ∷ ls) e (suc k) = (ns : List ℕ) × HasNumbers l ns × IsGood most w ns × LineFault most ws ls e k
LineFault most _ _ e _ = ⊥

-- this many lines give names, and the line after them gives none and is not `c`
abbrev pub SymbolFault : List (List ℕ) → Named → ℕ → Type 0
SymbolFault [] old k = ⊥
SymbolFault (l ∷ ls) old zero = (l ≢ codes "c") × ((new : Named) → ¬ (NamesPlace l old new))
SymbolFault (l ∷ ls) old (suc k) = (new : Named) × NamesPlace l old new × SymbolFault ls new k

-- the number of the first line that breaks a rule, counted from 1, and that rule
pub data HasAigFault (text : List ℕ) (e : AigRule) (n : ℕ) : Type 0 where
  bad_header : ((c : Counts) (ls : List (List ℕ)) → ¬ (HasHeader text c ls)) → e ≡ B01 → n ≡ 1 → HasAigFault text e n
  bad_line : (c : Counts) (ls : List (List ℕ)) (k : ℕ) → HasHeader text c ls
      → LineFault (total c) (line_kinds c) ls e k → n ≡ 2 + k → HasAigFault text e n
  bad_symbol : (c : Counts) (body ls : List (List ℕ)) (nss : List (List ℕ)) (k : ℕ) → HasHeader text c (body ++ ls)
      → AreGood (total c) (line_kinds c) body nss → SymbolFault ls (unnamed c) k → e ≡ B04 → n ≡ 2 + length body + k
      → HasAigFault text e n

-- ---- parts by name

abbrev pub RefusesLine : List ℕ → Named → Type 0
RefusesLine line old = (new : Named) → ¬ (NamesPlace line old new)
