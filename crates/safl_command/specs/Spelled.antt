-- Exactly which lines are commands.
use Rattle.std.specs.Prelude.{◌≡◌, ◌↔◌, ℕ, List, [], ◌∷◌, Some, None, true, false, bytes_eq, codes}
use Rattle.std.specs.List.{list_any}
use Rattle.std.specs.Str.{IsUtf8}
use Rattle.safl_command.specs.Forms.{Argument, forms}
use Rattle.safl_word.specs.Numerals.{value}
use Rattle.safl_command.specs.Arranged.{GivenOption, Arranged, AreTexts}
use Rattle.safl_command.specs.Laws.{IsName, IsNumber, IsLimit, IsCount, option, flag, trace_options}
use Rattle.safl_command.specs.Traces.{Traces, are_apart}
use Rattle.safl_command.specs.Commands.{Command, Check, Build, Optimise, Sim, Walk, Run, Report, Gen, Bench, CopySite, UnfoldSite, Session, Aig, Aigstat, command_of}

-- The commands: each with its own word, the words after it in order, and its options.
pub data Spells : Command → List ℕ → List (List ℕ) → List GivenOption → Type 0 where
  check : (input : List ℕ) → IsName input → Spells (Check input) (codes "check") (input ∷ []) []
  build : (input output : List ℕ) → IsName input → IsName output → Spells (Build input output) (codes "build") (input ∷ output ∷ []) []
  optimise : (input output : List ℕ) → IsName input → IsName output
      → Spells (Optimise input output) (codes "build") (input ∷ output ∷ []) (flag (codes "opt") [])
  sim : (input limit : List ℕ) (t : Traces) (args : List (List ℕ)) → IsName input → IsLimit limit → are_apart t ≡ true
      → Spells (Sim input (value 10 limit) t args) (codes "sim") (input ∷ args) (option (codes "cycles") limit (trace_options t))
  walk : (input seed steps : List ℕ) (args : List (List ℕ)) → IsName input → IsNumber seed → IsLimit steps
      → Spells (Walk input (value 10 seed) (value 10 steps) args) (codes "walk") (input ∷ args) (option (codes "order") seed (option (codes "steps") steps []))
  run : (input limit : List ℕ) (args : List (List ℕ)) → IsName input → IsLimit limit
      → Spells (Run input (value 10 limit) args) (codes "run") (input ∷ args) (option (codes "cycles") limit [])
  report : (input : List ℕ) → IsName input → Spells (Report input) (codes "report") (input ∷ []) []
  gen : (seed count : List ℕ) → IsNumber seed → IsCount count → Spells (Gen (value 10 seed) (value 10 count)) (codes "gen") (seed ∷ count ∷ []) []
  bench : (seed count limit : List ℕ) → IsNumber seed → IsCount count → IsLimit limit
      → Spells (Bench (value 10 seed) (value 10 count) (value 10 limit)) (codes "bench") (seed ∷ count ∷ []) (option (codes "cycles") limit [])
  copied : (input output site : List ℕ) → IsName input → IsName output → IsNumber site
      → Spells (CopySite input output (value 10 site)) (codes "reshape") (input ∷ output ∷ []) (option (codes "copy") site [])
  unfolded : (input output site : List ℕ) → IsName input → IsName output → IsNumber site
      → Spells (UnfoldSite input output (value 10 site)) (codes "reshape") (input ∷ output ∷ []) (option (codes "unfold") site [])
  session : (input script limit : List ℕ) → IsName input → IsName script → IsLimit limit
      → Spells (Session input script (value 10 limit)) (codes "session") (input ∷ script ∷ []) (option (codes "cycles") limit [])
  aig : (input output : List ℕ) → IsName input → IsName output → Spells (Aig input output) (codes "aig") (input ∷ output ∷ []) []
  aigstat : (input : List ℕ) → IsName input → Spells (Aigstat input) (codes "aigstat") (input ∷ []) []

-- A line is a command: its first word is the command's, and the others are the command's words and options, arranged in some way.
pub record IsLineOf (line : List (List ℕ)) (c : Command) : Type 0 where
  pub word : List ℕ
  pub others : List (List ℕ)
  pub names : List (List ℕ)
  pub options : List GivenOption
  pub is : line ≡ word ∷ others
  pub spells : Spells c word names options
  pub arranged : Arranged names options others

-- a line of text is this command exactly if it is one of its lines
abbrev pub LinesAreExact : Type 0
LinesAreExact = (line : List (List ℕ)) (c : Command) → AreTexts line → (command_of line ≡ Some c) ↔ IsLineOf line c

-- no line of text begins with another word and is a command
abbrev pub OthersAreNone : Type 0
OthersAreNone =
    (word : List ℕ) (others : List (List ℕ)) → IsUtf8 word → list_any (λ (f : List ℕ × List Argument). bytes_eq f.0 word) forms ≡ false
    → command_of (word ∷ others) ≡ None

-- ---- worked cases

abbrev pub IsNoCommand : List (List ℕ) → Type 0
IsNoCommand line = command_of line ≡ None

pub record CasesAreNone : Type 0 where
  pub no_word : IsNoCommand []
  pub unknown_word : IsNoCommand (codes "simulate" ∷ codes "p" ∷ [])
  pub help_word : IsNoCommand (codes "--help" ∷ [])
  pub no_cycles : IsNoCommand (codes "sim" ∷ codes "p" ∷ codes "--cycles" ∷ codes "0" ∷ [])
  pub no_option : IsNoCommand (codes "sim" ∷ codes "p" ∷ [])
  pub no_value : IsNoCommand (codes "sim" ∷ codes "p" ∷ codes "--cycles" ∷ [])
  pub option_twice : IsNoCommand (codes "sim" ∷ codes "p" ∷ codes "--cycles" ∷ codes "5" ∷ codes "--cycles=5" ∷ [])
  pub unknown_option : IsNoCommand (codes "sim" ∷ codes "p" ∷ codes "--cycles" ∷ codes "5" ∷ codes "--fast" ∷ [])
  pub value_of_flag : IsNoCommand (codes "build" ∷ codes "p" ∷ codes "q" ∷ codes "--opt=1" ∷ [])
  pub no_name : IsNoCommand (codes "check" ∷ [])
  pub empty_name : IsNoCommand (codes "check" ∷ [] ∷ [])
  pub word_too_many : IsNoCommand (codes "check" ∷ codes "p" ∷ codes "q" ∷ [])
  pub same_traces : IsNoCommand (codes "sim" ∷ codes "p" ∷ codes "--cycles" ∷ codes "5" ∷ codes "--vcd" ∷ codes "f" ∷ codes "--starts" ∷ codes "f" ∷ [])
  pub count_too_great : IsNoCommand (codes "gen" ∷ codes "1" ∷ codes "901" ∷ [])
