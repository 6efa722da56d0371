-- The headline: what `build` comes to, said of words, files and the status alone.
use Rattle.std.specs.Prelude.{◌≡◌, ◌≤◌, ◌⊎◌, ℕ, List, [], ◌∷◌, map, length, IsSomeAnd, codes, string_bytes}
use Rattle.std.specs.declared.string.String.{String}
use Rattle.std.specs.declared.alloc.Global.{Global}
use Rattle.safl_word.specs.Limits.{source_max}
use Rattle.safl_io.specs.Shelf.{Files, ShelfState, file_of}
use Rattle.safl_io.specs.Told.{TellsOn}
use Rattle.safl_net.specs.Netlist.{Netlist}
use Rattle.safl_verilog.specs.Reads.{Reads}
use Rattle.safl_term.specs.Program.{Program}
use Rattle.safl_term.specs.Names.{Names}
use Rattle.safl_circuit.specs.Correct.{Correct}
use Rattle.safl_compiler.specs.Sources.{IsSourceOf}
use Rattle.safl_command.specs.Laws.{IsPlain}
use Rattle.safl_task.specs.declared.status.Status.{Status}
use Rattle.safl_task.specs.declared.status.Status.TheVariants.{Ok}

-- the words are `build IN OUT`, with `--opt` at any place after `build` or without it, and no name is empty or begins with a hyphen
abbrev pub SayBuild : List ℕ → List ℕ → List (List ℕ) → Type 0
SayBuild input output words = IsPlain input × IsPlain output
    × ((words ≡ codes "build" ∷ input ∷ output ∷ []) ⊎ ((words ≡ codes "build" ∷ input ∷ output ∷ codes "--opt" ∷ [])
    ⊎ ((words ≡ codes "build" ∷ input ∷ codes "--opt" ∷ output ∷ []) ⊎ (words ≡ codes "build" ∷ codes "--opt" ∷ input ∷ output ∷ []))))

-- the source is that of a program, in at most 1,048,576 bytes; the text reads as a netlist, which is correct for the program
pub record IsBuilt (source text : List ℕ) : Type 0 where
  pub short : length source ≤ source_max
  pub program : Program
  pub names : Names
  pub net : Netlist
  pub source_of : IsSourceOf source program names
  pub reads : Reads text net
  pub correct : Correct program names net

-- the first file was there before, the second one is there after, and their bytes are so
abbrev pub Turns : (List ℕ → List ℕ → Type 0) → List ℕ → List ℕ → Files → Files → Type 0
Turns R input output before after = IsSomeAnd (file_of before input) (λ bytes. IsSomeAnd (file_of after output) (R bytes))

-- where the words are `build IN OUT`, the status is Ok and the shelf tells what it holds, OUT is so built of what IN held before
abbrev pub Builds : {S : Type 0} → List (String Global) → (S → ShelfState) → S → S → Status → Type 0
Builds words shelf s s' status =
    (input output : List ℕ) → SayBuild input output (map string_bytes words) → status ≡ Ok
    → TellsOn (Turns IsBuilt input output) (shelf s).holds (shelf s').holds
