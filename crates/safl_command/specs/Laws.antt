-- Laws of command lines: which words are which command, said of the words alone.
-- For each form there are two laws: one of the words in the order of the usage line (`..Words`), and one of each line on which
-- these words and options are arranged otherwise (`..Lines`).
use Rattle.std.specs.Prelude.{◌≡◌, ℕ, List, [], ◌∷◌, Option, Some, None, codes, true}
use Rattle.safl_word.specs.Numerals.{value}
use Rattle.safl_command.specs.Limits.{cycles_max}
use Rattle.safl_word.specs.Limits.{generated_max}
use Rattle.safl_command.specs.Arranged.{GivenOption, IsUnhyphened, Arranged}
use Rattle.safl_command.specs.Traces.{Traces, are_apart}
use Rattle.safl_command.specs.Values.{is_number, is_within}
use Rattle.safl_command.specs.Commands.{Check, Build, Optimise, Sim, Walk, Run, Report, Gen, Bench, CopySite, UnfoldSite, Session, Aig, Aigstat, command_of}

-- a name is not empty; a plain one does not begin with a hyphen either
abbrev pub IsName : List ℕ → Type 0
IsName [] = ⊥
IsName (c ∷ cs) = Unit {0}

abbrev pub IsPlain : List ℕ → Type 0
IsPlain word = IsName word × IsUnhyphened word

abbrev pub AreUnhyphened : List (List ℕ) → Type 0
AreUnhyphened [] = Unit {0}
AreUnhyphened (w ∷ ws) = IsUnhyphened w × AreUnhyphened ws

-- 1 to 20 digits of a number below 2^64; of one from 1 to 10^9; of one from 1 to 900
abbrev pub IsNumber : List ℕ → Type 0
IsNumber word = is_number word ≡ true

abbrev pub IsLimit : List ℕ → Type 0
IsLimit word = is_within cycles_max word ≡ true

abbrev pub IsCount : List ℕ → Type 0
IsCount word = is_within generated_max word ≡ true

-- an option with a value, and one without, before other options
abbrev pub option : List ℕ → List ℕ → List GivenOption → List GivenOption
option name value others = record { name = name; value = Some value } ∷ others

abbrev pub flag : List ℕ → List GivenOption → List GivenOption
flag name others = record { name = name; value = None } ∷ others

abbrev pub option_if : List ℕ → Option (List ℕ) → List GivenOption → List GivenOption
option_if name None others = others
option_if name (Some value) others = option name value others

abbrev pub trace_options : Traces → List GivenOption
trace_options t = option_if (codes "vcd") t.vcd (option_if (codes "starts") t.starts (option_if (codes "toggles") t.toggles []))

-- an option with its value, if it is given, before other words
abbrev pub words_if : List ℕ → Option (List ℕ) → List (List ℕ) → List (List ℕ)
words_if flag None more = more
words_if flag (Some file) more = flag ∷ file ∷ more

abbrev pub trace_words : Traces → List (List ℕ) → List (List ℕ)
trace_words t more = words_if (codes "--vcd") t.vcd (words_if (codes "--starts") t.starts (words_if (codes "--toggles") t.toggles more))

-- the name, if it is given, does not begin with a hyphen
abbrev pub IsUnhyphenedIf : Option (List ℕ) → Type 0
IsUnhyphenedIf None = Unit {0}
IsUnhyphenedIf (Some file) = IsUnhyphened file

abbrev pub HaveUnhyphened : Traces → Type 0
HaveUnhyphened t = IsUnhyphenedIf t.vcd × IsUnhyphenedIf t.starts × IsUnhyphenedIf t.toggles

-- `check IN`
abbrev pub CheckWords : Type 0
CheckWords = (input : List ℕ) → IsPlain input → command_of (codes "check" ∷ input ∷ []) ≡ Some (Check input)

abbrev pub CheckLines : Type 0
CheckLines =
    (input : List ℕ) (line : List (List ℕ)) → IsName input
    → Arranged (input ∷ []) [] line → command_of (codes "check" ∷ line) ≡ Some (Check input)

-- `build IN OUT`
abbrev pub BuildWords : Type 0
BuildWords = (input output : List ℕ) → IsPlain input → IsPlain output → command_of (codes "build" ∷ input ∷ output ∷ []) ≡ Some (Build input output)

abbrev pub BuildLines : Type 0
BuildLines =
    (input output : List ℕ) (line : List (List ℕ)) → IsName input → IsName output
    → Arranged (input ∷ output ∷ []) [] line → command_of (codes "build" ∷ line) ≡ Some (Build input output)

-- `build IN OUT --opt`
abbrev pub OptimiseWords : Type 0
OptimiseWords =
    (input output : List ℕ) → IsPlain input → IsPlain output
    → command_of (codes "build" ∷ input ∷ output ∷ codes "--opt" ∷ []) ≡ Some (Optimise input output)

abbrev pub OptimiseLines : Type 0
OptimiseLines =
    (input output : List ℕ) (line : List (List ℕ)) → IsName input → IsName output
    → Arranged (input ∷ output ∷ []) (flag (codes "opt") []) line → command_of (codes "build" ∷ line) ≡ Some (Optimise input output)

-- `sim IN --cycles L [--vcd F1] [--starts F2] [--toggles F3] [ARG..]`, where F1, F2 and F3 are not empty and all different
abbrev pub SimWords : Type 0
SimWords =
    (input limit : List ℕ) (t : Traces) (args : List (List ℕ)) → IsPlain input → IsLimit limit → HaveUnhyphened t → are_apart t ≡ true → AreUnhyphened args
    → command_of (codes "sim" ∷ input ∷ codes "--cycles" ∷ limit ∷ trace_words t args) ≡ Some (Sim input (value 10 limit) t args)

abbrev pub SimLines : Type 0
SimLines =
    (input limit : List ℕ) (t : Traces) (args : List (List ℕ)) (line : List (List ℕ)) → IsName input → IsLimit limit → are_apart t ≡ true
    → Arranged (input ∷ args) (option (codes "cycles") limit (trace_options t)) line
    → command_of (codes "sim" ∷ line) ≡ Some (Sim input (value 10 limit) t args)

-- `walk IN --order SEED --steps N [ARG..]`
abbrev pub WalkWords : Type 0
WalkWords =
    (input seed steps : List ℕ) (args : List (List ℕ)) → IsPlain input → IsNumber seed → IsLimit steps → AreUnhyphened args
    → command_of (codes "walk" ∷ input ∷ codes "--order" ∷ seed ∷ codes "--steps" ∷ steps ∷ args)
    ≡ Some (Walk input (value 10 seed) (value 10 steps) args)

abbrev pub WalkLines : Type 0
WalkLines =
    (input seed steps : List ℕ) (args : List (List ℕ)) (line : List (List ℕ)) → IsName input → IsNumber seed → IsLimit steps
    → Arranged (input ∷ args) (option (codes "order") seed (option (codes "steps") steps [])) line
    → command_of (codes "walk" ∷ line) ≡ Some (Walk input (value 10 seed) (value 10 steps) args)

-- `run FILE --cycles L [ARG..]`
abbrev pub RunWords : Type 0
RunWords =
    (input limit : List ℕ) (args : List (List ℕ)) → IsPlain input → IsLimit limit → AreUnhyphened args
    → command_of (codes "run" ∷ input ∷ codes "--cycles" ∷ limit ∷ args) ≡ Some (Run input (value 10 limit) args)

abbrev pub RunLines : Type 0
RunLines =
    (input limit : List ℕ) (args : List (List ℕ)) (line : List (List ℕ)) → IsName input → IsLimit limit
    → Arranged (input ∷ args) (option (codes "cycles") limit []) line → command_of (codes "run" ∷ line) ≡ Some (Run input (value 10 limit) args)

-- `report IN`
abbrev pub ReportWords : Type 0
ReportWords = (input : List ℕ) → IsPlain input → command_of (codes "report" ∷ input ∷ []) ≡ Some (Report input)

abbrev pub ReportLines : Type 0
ReportLines =
    (input : List ℕ) (line : List (List ℕ)) → IsName input
    → Arranged (input ∷ []) [] line → command_of (codes "report" ∷ line) ≡ Some (Report input)

-- `gen SEED COUNT`
abbrev pub GenWords : Type 0
GenWords =
    (seed count : List ℕ) → IsNumber seed → IsCount count
    → command_of (codes "gen" ∷ seed ∷ count ∷ []) ≡ Some (Gen (value 10 seed) (value 10 count))

abbrev pub GenLines : Type 0
GenLines =
    (seed count : List ℕ) (line : List (List ℕ)) → IsNumber seed → IsCount count
    → Arranged (seed ∷ count ∷ []) [] line → command_of (codes "gen" ∷ line) ≡ Some (Gen (value 10 seed) (value 10 count))

-- `bench SEED COUNT --cycles L`
abbrev pub BenchWords : Type 0
BenchWords =
    (seed count limit : List ℕ) → IsNumber seed → IsCount count → IsLimit limit
    → command_of (codes "bench" ∷ seed ∷ count ∷ codes "--cycles" ∷ limit ∷ []) ≡ Some (Bench (value 10 seed) (value 10 count) (value 10 limit))

abbrev pub BenchLines : Type 0
BenchLines =
    (seed count limit : List ℕ) (line : List (List ℕ)) → IsNumber seed → IsCount count → IsLimit limit
    → Arranged (seed ∷ count ∷ []) (option (codes "cycles") limit []) line
    → command_of (codes "bench" ∷ line) ≡ Some (Bench (value 10 seed) (value 10 count) (value 10 limit))

-- `reshape IN OUT --copy K`
abbrev pub CopyWords : Type 0
CopyWords =
    (input output site : List ℕ) → IsPlain input → IsPlain output → IsNumber site
    → command_of (codes "reshape" ∷ input ∷ output ∷ codes "--copy" ∷ site ∷ []) ≡ Some (CopySite input output (value 10 site))

abbrev pub CopyLines : Type 0
CopyLines =
    (input output site : List ℕ) (line : List (List ℕ)) → IsName input → IsName output → IsNumber site
    → Arranged (input ∷ output ∷ []) (option (codes "copy") site []) line
    → command_of (codes "reshape" ∷ line) ≡ Some (CopySite input output (value 10 site))

-- `reshape IN OUT --unfold K`
abbrev pub UnfoldWords : Type 0
UnfoldWords =
    (input output site : List ℕ) → IsPlain input → IsPlain output → IsNumber site
    → command_of (codes "reshape" ∷ input ∷ output ∷ codes "--unfold" ∷ site ∷ []) ≡ Some (UnfoldSite input output (value 10 site))

abbrev pub UnfoldLines : Type 0
UnfoldLines =
    (input output site : List ℕ) (line : List (List ℕ)) → IsName input → IsName output → IsNumber site
    → Arranged (input ∷ output ∷ []) (option (codes "unfold") site []) line
    → command_of (codes "reshape" ∷ line) ≡ Some (UnfoldSite input output (value 10 site))

-- `session IN SCRIPT --cycles L`
abbrev pub SessionWords : Type 0
SessionWords =
    (input script limit : List ℕ) → IsPlain input → IsPlain script → IsLimit limit
    → command_of (codes "session" ∷ input ∷ script ∷ codes "--cycles" ∷ limit ∷ []) ≡ Some (Session input script (value 10 limit))

abbrev pub SessionLines : Type 0
SessionLines =
    (input script limit : List ℕ) (line : List (List ℕ)) → IsName input → IsName script → IsLimit limit
    → Arranged (input ∷ script ∷ []) (option (codes "cycles") limit []) line
    → command_of (codes "session" ∷ line) ≡ Some (Session input script (value 10 limit))

-- `aig FILE OUT`
abbrev pub AigWords : Type 0
AigWords = (input output : List ℕ) → IsPlain input → IsPlain output → command_of (codes "aig" ∷ input ∷ output ∷ []) ≡ Some (Aig input output)

abbrev pub AigLines : Type 0
AigLines =
    (input output : List ℕ) (line : List (List ℕ)) → IsName input → IsName output
    → Arranged (input ∷ output ∷ []) [] line → command_of (codes "aig" ∷ line) ≡ Some (Aig input output)

-- `aigstat FILE`
abbrev pub AigstatWords : Type 0
AigstatWords = (input : List ℕ) → IsPlain input → command_of (codes "aigstat" ∷ input ∷ []) ≡ Some (Aigstat input)

abbrev pub AigstatLines : Type 0
AigstatLines =
    (input : List ℕ) (line : List (List ℕ)) → IsName input
    → Arranged (input ∷ []) [] line → command_of (codes "aigstat" ∷ line) ≡ Some (Aigstat input)
