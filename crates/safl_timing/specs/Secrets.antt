-- What is given and refused where a request is about secret parameters of main.
use Rattle.std.specs.Prelude.{◌≡◌, ℕ, ◌⊎◌, List, Option, Some, None, option_map, Bool, true, false}
use Rattle.safl_term.specs.Names.{Names}
use Rattle.safl_term.specs.Program.{Program}
use Rattle.safl_calls.specs.Labels.{Labels}
use Rattle.safl_circuit.specs.Blind.{IsLabelling}
use Rattle.safl_labels.specs.Found.{AreHidden}
use Rattle.safl_compiler.specs.Sources.{IsSourceOf}
use Rattle.safl_task.specs.Tasks.{Given, only_prints}
use Rattle.safl_task.specs.declared.status.Status.{Status}
use Rattle.safl_task.specs.declared.status.Status.TheVariants as status
use Rattle.safl_tool.specs.CommandTasks.{RefusesSourceOf}
use Rattle.safl_tool.specs.Refusals.{RefusesBy}
use Rattle.safl_timing.specs.Lines.{blind_line, nameless_line}
use Rattle.safl_timing.specs.Names.{are_secret, first_unknown, names_in}
use Rattle.safl_timing.specs.declared.stop.Stop.{Stop}
use Rattle.safl_timing.specs.declared.stop.Stop.TheVariants.{Refused, Nameless}

-- there are labels of the program in which no secret parameter of main is public
abbrev pub HidesSecrets : Program → Names → Bool → List ℕ → Type 0
HidesSecrets C D listed list = (L : Labels) × IsLabelling C L × AreHidden (are_secret listed (names_in list) (D.params C.main)) (L.params C.main)

-- no secret decides about time, and a line says so; or lines say what may
abbrev pub GivesLabels : Program → Names → Bool → List ℕ → Given → Type 0
GivesLabels C D listed list g = (HidesSecrets C D listed list × (g ≡ only_prints true blind_line)) ⊎ ((text : List ℕ) × (g ≡ only_prints false text))

-- the source spells a program, and each name in the list is a parameter of main
pub record GivesBlind (listed : Bool) (list source : List ℕ) (g : Given) : Type 0 where
  pub program : Program
  pub names : Names
  pub source_of : IsSourceOf source program names
  pub known : first_unknown (names.params program.main) (names_in list) ≡ None
  pub gives : GivesLabels program names listed list g

-- the source is refused; or it is accepted, and a line has the first name in the list that is no parameter of main
abbrev pub RefusesNames : List ℕ → List ℕ → List ℕ → Status → List ℕ → Type 0
RefusesNames input list source s line = RefusesSourceOf input source s line
    ⊎ ((s ≡ status.BadArgs) × ((C : Program) × (D : Names) × (name : List ℕ) × IsSourceOf source C D
    × (first_unknown (D.params C.main) (names_in list) ≡ Some name) × (line ≡ nameless_line name)))

-- the line about the first name in the list that is no parameter of main, if there is one
abbrev pub nameless_in : Program → Names → List ℕ → Option (List ℕ)
nameless_in C D list = option_map nameless_line (first_unknown (D.params C.main) (names_in list))

-- it stops with a status and a line that have property R, or out of memory
abbrev pub StopsAs : (Status → List ℕ → Type 0) → Stop → Type 0
StopsAs R (Refused r) = RefusesBy R r
StopsAs R (Nameless line) = R status.BadArgs line.items
