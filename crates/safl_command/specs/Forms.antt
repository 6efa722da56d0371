-- The forms of the commands, as `clap` takes them.
use Rattle.std.specs.Prelude.{ℕ, List, [], ◌∷◌, map, Some, true, codes}
use Rattle.clap.specs.declared.builder.action.ArgAction.TheVariants.{Append, SetTrue}
use Rattle.clap.specs.Words.{App, Shape, Rule, new_app, new_rule, with_rule, with_subcommand}
use Rattle.safl_command.specs.declared.forms.Argument as code
use Rattle.safl_command.specs.declared.forms.Argument.TheVariants as code_of
use Rattle.safl_command.specs.declared.forms.Form as code_form

-- what may follow a command's own word
pub data Argument : Type 0 where
  -- a word that is required, such as `IN`
  Name : (id : List ℕ) → Argument
  -- an option with a value that is required, such as `--cycles L`
  Option : (id : List ℕ) → Argument
  -- an option with a value that may be left out, such as `--copy K`
  Choice : (id : List ℕ) → Argument
  -- an option without a value, such as `--opt`
  Flag : (id : List ℕ) → Argument
  -- any number of words, as in `[ARG..]`
  Rest : (id : List ℕ) → Argument

-- the forms of all commands: the command's own word, and what may follow it
abbrev pub forms : List (List ℕ × List Argument)
forms =
    (codes "check", Name (codes "IN") ∷ [])
    ∷ (codes "build", Name (codes "IN") ∷ Name (codes "OUT") ∷ Flag (codes "opt") ∷ [])
    ∷ (codes "sim", Name (codes "IN") ∷ Option (codes "cycles") ∷ Choice (codes "vcd") ∷ Choice (codes "starts") ∷ Choice (codes "toggles") ∷ Rest (codes "ARG") ∷ [])
    ∷ (codes "walk", Name (codes "IN") ∷ Option (codes "order") ∷ Option (codes "steps") ∷ Rest (codes "ARG") ∷ [])
    ∷ (codes "run", Name (codes "FILE") ∷ Option (codes "cycles") ∷ Rest (codes "ARG") ∷ [])
    ∷ (codes "report", Name (codes "IN") ∷ [])
    ∷ (codes "gen", Name (codes "SEED") ∷ Name (codes "COUNT") ∷ [])
    ∷ (codes "bench", Name (codes "SEED") ∷ Name (codes "COUNT") ∷ Option (codes "cycles") ∷ [])
    ∷ (codes "reshape", Name (codes "IN") ∷ Name (codes "OUT") ∷ Choice (codes "copy") ∷ Choice (codes "unfold") ∷ [])
    ∷ (codes "session", Name (codes "IN") ∷ Name (codes "SCRIPT") ∷ Option (codes "cycles") ∷ [])
    ∷ (codes "aig", Name (codes "FILE") ∷ Name (codes "OUT") ∷ [])
    ∷ (codes "aigstat", Name (codes "FILE") ∷ [])
    ∷ []

abbrev pub rule : Argument → Rule
rule (Name id) = record (new_rule id) { required = true }
rule (Option id) = record (new_rule id) { long = Some id; required = true }
rule (Choice id) = record (new_rule id) { long = Some id }
rule (Flag id) = record (new_rule id) { long = Some id; action = Some SetTrue }
rule (Rest id) = record (new_rule id) { action = Some Append }

-- a command of `clap` with these arguments added, in order
abbrev pub with_rules : App → List Argument → App
with_rules a [] = a
with_rules a (x ∷ xs) = with_rules (with_rule a (rule x)) xs

-- a command of `clap` with these subcommands added, in order
abbrev pub with_forms : App → List (List ℕ × List Argument) → App
with_forms a [] = a
with_forms a (f ∷ fs) = with_forms (with_subcommand a (with_rules (new_app f.0) f.1).top) fs

-- the program as a command of `clap` that requires a subcommand
abbrev pub bare : App
bare = let a = new_app (codes "safl") in record a { top = record a.top { subcommand_required = true } }

-- the program as a command of `clap`, with all its subcommands
unfoldable pub app : App
app = with_forms bare forms

abbrev pub shown_argument : code.Argument → Argument
shown_argument (code_of.Name id) = Name id.now
shown_argument (code_of.Option id) = Option id.now
shown_argument (code_of.Choice id) = Choice id.now
shown_argument (code_of.Flag id) = Flag id.now
shown_argument (code_of.Rest id) = Rest id.now

abbrev pub shown_form : code_form.Form → List ℕ × List Argument
shown_form f = (f.word.now, map shown_argument f.arguments.now)

-- ---- parts by name

abbrev pub form_shape : List ℕ × List Argument → Shape
form_shape f = (with_rules (new_app f.0) f.1).top
