-- Which words form which command.
use Rattle.std.specs.Prelude.{ℕ, List, [], ◌∷◌, map, Option, Some, None, option_map, option_and_then}
use Rattle.std.specs.Prelude.{bytes_eq, if◌then◌else◌, codes, string_bytes}
use Rattle.std.specs.Borrow.{Bor}
use Rattle.clap.specs.Words.{Row, Kinds, fault_of, subcommand_of, first_of}
use Rattle.safl_command.specs.Forms.{app}
use Rattle.safl_command.specs.Values.{name_from, number_from, number_of, limit_from, count_from, is_set, args_in}
use Rattle.safl_command.specs.Traces.{Traces, shown_traces, are_apart}
use Rattle.safl_command.specs.declared.command.Command as code
use Rattle.safl_command.specs.declared.command.Command.TheVariants as code_of

pub data Command : Type 0 where
  -- reads and checks a source
  Check : (input : List ℕ) → Command
  -- reads a source, and writes its circuit to a file; or its optimised circuit
  Build : (input output : List ℕ) → Command
  Optimise : (input output : List ℕ) → Command
  -- reads a source, runs its circuit for at most `limit` cycles with these arguments, and writes the traces that have files
  Sim : (input : List ℕ) (limit : ℕ) (traces : Traces) (args : List (List ℕ)) → Command
  -- reads a source, and walks its call machine with these arguments for at most `steps` events, picked by the numbers of a seed
  Walk : (input : List ℕ) (seed steps : ℕ) (args : List (List ℕ)) → Command
  -- reads a Verilog file, and runs its netlist for at most `limit` cycles with these arguments
  Run : (input : List ℕ) (limit : ℕ) (args : List (List ℕ)) → Command
  -- reads a source, and reports its plan
  Report : (input : List ℕ) → Command
  -- makes a source of `count` functions from a seed
  Gen : (seed count : ℕ) → Command
  -- makes a source of `count` functions from a seed, and runs its circuit for at most `limit` cycles
  Bench : (seed count limit : ℕ) → Command
  -- reads a source, and writes it to a file with a function copied for one call site; or with the call replaced by its body
  CopySite : (input output : List ℕ) (site : ℕ) → Command
  UnfoldSite : (input output : List ℕ) (site : ℕ) → Command
  -- reads a source and a script, and calls main once for each line of the script, for at most `limit` cycles each
  Session : (input script : List ℕ) (limit : ℕ) → Command
  -- reads a Verilog file, and writes its bit-level circuit to a file
  Aig : (input output : List ℕ) → Command
  -- reads a bit-level circuit, and reports its size
  Aigstat : (input : List ℕ) → Command

-- ---- the commands from the values of their arguments

-- what is made of a value, if there is one
abbrev pub given : {T : Type 0} → Option T → (T → Option Command) → Option Command
given value make = option_and_then make value

-- the files for traces, if their names differ
abbrev pub traces_from : (List ℕ → Option (List ℕ)) → Option Traces
traces_from first =
    let t : Traces = record { vcd = first (codes "vcd"); starts = first (codes "starts"); toggles = first (codes "toggles") } in
    if are_apart t then Some t else None

abbrev pub traces_in : List Row → Option Traces
traces_in rows = traces_from (λ id. first_of id rows)

-- the word that an option has, if there is one
abbrev pub word_of : Option (Bor (List ℕ)) → Option (List ℕ)
word_of given = option_map (λ (w : Bor (List ℕ)). w.now) given

-- the reshaping, if exactly one of the two options is given, with the number of a site
abbrev pub reshaped : List ℕ → List ℕ → Option (List ℕ) → Option (List ℕ) → Option Command
reshaped input output (Some copied) None = option_map (CopySite input output) (number_of copied)
reshaped input output None (Some unfolded) = option_map (UnfoldSite input output) (number_of unfolded)
reshaped input output _ _ = None

-- the command of a subcommand, from the first value of each argument and the values of `ARG`
abbrev pub command_from : List ℕ → (List ℕ → Option (List ℕ)) → List (List ℕ) → Option Command
command_from word first args =
    if bytes_eq word (codes "check") then option_map Check (name_from (first (codes "IN")))
    else if bytes_eq word (codes "build") then given (name_from (first (codes "IN"))) (λ input. given (name_from (first (codes "OUT")))
    (λ output. Some (if is_set (first (codes "opt")) then Optimise input output else Build input output)))
    else if bytes_eq word (codes "sim") then given (name_from (first (codes "IN"))) (λ input. given (limit_from (first (codes "cycles")))
    (λ limit. option_map (λ traces. Sim input limit traces args) (traces_from first)))
    else if bytes_eq word (codes "walk") then given (name_from (first (codes "IN"))) (λ input. given (number_from (first (codes "order")))
    (λ seed. option_map (λ steps. Walk input seed steps args) (limit_from (first (codes "steps")))))
    else if bytes_eq word (codes "run") then given (name_from (first (codes "FILE")))
    (λ input. option_map (λ limit. Run input limit args) (limit_from (first (codes "cycles"))))
    else if bytes_eq word (codes "report") then option_map Report (name_from (first (codes "IN")))
    else if bytes_eq word (codes "gen") then given (number_from (first (codes "SEED"))) (λ seed. option_map (Gen seed) (count_from (first (codes "COUNT"))))
    else if bytes_eq word (codes "bench") then given (number_from (first (codes "SEED"))) (λ seed. given (count_from (first (codes "COUNT")))
    (λ count. option_map (Bench seed count) (limit_from (first (codes "cycles")))))
    else if bytes_eq word (codes "reshape") then given (name_from (first (codes "IN"))) (λ input. given (name_from (first (codes "OUT")))
    (λ output. reshaped input output (first (codes "copy")) (first (codes "unfold"))))
    else if bytes_eq word (codes "session") then given (name_from (first (codes "IN"))) (λ input. given (name_from (first (codes "SCRIPT")))
    (λ script. option_map (Session input script) (limit_from (first (codes "cycles")))))
    else if bytes_eq word (codes "aig") then given (name_from (first (codes "FILE"))) (λ input. given (name_from (first (codes "OUT")))
    (λ output. Some (Aig input output)))
    else if bytes_eq word (codes "aigstat") then option_map Aigstat (name_from (first (codes "FILE")))
    else None

abbrev pub command_in : List ℕ → List Row → Option Command
command_in word rows = command_from word (λ id. first_of id rows) (args_in rows)

-- the command of the subcommand that was found, if `clap` found no fault
abbrev pub faultless : Kinds → Option (List ℕ × List Row) → Option Command
faultless [] entered = given entered (λ e. command_in e.0 e.1)
faultless _ entered = None

-- The command that a whole line is, after the program's name: `clap` finds no fault in it, and its values are in range.
unfoldable pub command_of_line : List (List ℕ) → Option Command
command_of_line line = faultless (fault_of app line) (subcommand_of app line)

-- the command that the words after the program's name form
abbrev pub command_of : List (List ℕ) → Option Command
command_of words = command_of_line (codes "safl" ∷ words)

-- the command that a value of the code stands for
abbrev pub shown_command : code.Command → Command
shown_command (code_of.Check input) = Check (string_bytes input)
shown_command (code_of.Build input output) = Build (string_bytes input) (string_bytes output)
shown_command (code_of.Optimise input output) = Optimise (string_bytes input) (string_bytes output)
shown_command (code_of.Sim input limit traces args) = Sim (string_bytes input) limit (shown_traces traces) (map string_bytes args.items)
shown_command (code_of.Walk input turns args) = Walk (string_bytes input) turns.seed turns.steps (map string_bytes args.items)
shown_command (code_of.Run input limit args) = Run (string_bytes input) limit (map string_bytes args.items)
shown_command (code_of.Report input) = Report (string_bytes input)
shown_command (code_of.Gen seed count) = Gen seed count.functions
shown_command (code_of.Bench seed count limit) = Bench seed count.functions limit
shown_command (code_of.CopySite input output site) = CopySite (string_bytes input) (string_bytes output) site
shown_command (code_of.UnfoldSite input output site) = UnfoldSite (string_bytes input) (string_bytes output) site
shown_command (code_of.Session input script limit) = Session (string_bytes input) (string_bytes script) limit
shown_command (code_of.Aig input output) = Aig (string_bytes input) (string_bytes output)
shown_command (code_of.Aigstat input) = Aigstat (string_bytes input)

-- ---- parts by name

abbrev pub change_in : List ℕ → List ℕ → List Row → Option Command
change_in input output rows = reshaped input output (first_of (codes "copy") rows) (first_of (codes "unfold") rows)
