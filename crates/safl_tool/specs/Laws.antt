-- Laws over the definitions alone.
use Rattle.std.specs.Prelude.{◌≡◌, ◌≢◌, ℕ, ◌<◌, List, Option, Some, true, get_or}
use Rattle.safl_io.specs.Sink.{SinkState}
use Rattle.safl_probe.specs.Probing.{ProbeState}
use Rattle.safl_probe.specs.Asked.{IsAsked}
use Rattle.safl_probe.specs.Watching.{kind_of}
use Rattle.safl_probe.specs.declared.kind.TraceKind.{TraceKind}
use Rattle.safl_command.specs.Commands.{Command}
use Rattle.safl_command.specs.Traces.{Traces}
use Rattle.safl_task.specs.Endings.{Tells}
use Rattle.safl_task.specs.declared.status.Status.{Status}
use Rattle.safl_tool.specs.Tracing.{asked_by, file_of_kind, have_probes}
use Rattle.safl_tool.specs.Worlds.{World, EndsBy, Unprobed, task_in}

-- the kind of the probe at a place
abbrev pub kind_at : List ℕ → ℕ → TraceKind
kind_at kinds place = kind_of (get_or kinds place 0)

-- each file that is given has a probe that is asked for it, of the kind of its traces
abbrev pub EachIsAsked : Traces → List ℕ → Type 0
EachIsAsked t kinds = (k : TraceKind) (name : List ℕ) → file_of_kind t k ≡ Some name → (i : ℕ) × IsAsked (asked_by t kinds) i name × (kind_at kinds i ≡ k)

-- Of probes of these kinds those that are asked are asked for the files for the traces of their kinds, and each is the first of its
-- kind; and the probes are there exactly where each file has one.
pub record AsksFirst (t : Traces) (kinds : List ℕ) : Type 0 where
  pub sound : (i : ℕ) (name : List ℕ) → IsAsked (asked_by t kinds) i name → file_of_kind t (kind_at kinds i) ≡ Some name
  pub first : (i j : ℕ) (name : List ℕ) → IsAsked (asked_by t kinds) i name → j < i → kind_at kinds j ≢ kind_at kinds i
  pub whole : have_probes t kinds ≡ true → EachIsAsked t kinds
  pub there : EachIsAsked t kinds → have_probes t kinds ≡ true

abbrev pub FirstAreAsked : Type 0
FirstAreAsked = (t : Traces) (kinds : List ℕ) → AsksFirst t kinds

-- how a call ends says what was sent to standard error before and after it
abbrev pub EndsTell : Type 0
EndsTell =
    (m : Option Command) (old new : World ProbeState) (before after : SinkState) (s : Status) → EndsBy m old new before after s
    → Tells (task_in m old) (Unprobed m old new) old.outside new.outside before after s
