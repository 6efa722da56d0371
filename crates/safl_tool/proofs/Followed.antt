-- What follows of how a call ends.
use Rattle.safl_tool.proofs.Common.{Attended, Option, SinkState, Status}
use Rattle.safl_command.specs.Commands.{Command}
use Rattle.safl_task.proofs.Following.{end_keeps, end_tells, end_left, left_others, end_completes}
use Rattle.safl_tool.specs.Tracing.{kinds_of}
use Rattle.safl_tool.specs.Worlds.{World, Unprobed, task_in, EndsBy, Follows, SparesFor}
use Rattle.safl_tool.specs.Laws.{EndsTell}
use Rattle.safl_tool.proofs.Kept.{Laws, kept}

pub follows : {P : Type 0} → Laws → (m : Option Command) (old new : World P) (before after : SinkState) (s : Status) → EndsBy m old new before after s
    → SparesFor m old new → Attended m old.outside.shelf.holds old.probes new.probes old.states new.states s → Follows m old new s
follows l m old new before after s ends spares attended =
    let left = end_left (task_in m old) (Unprobed m old new) old.outside new.outside before after s ends in
    record {
      keeps = end_keeps (task_in m old) (Unprobed m old new) old.outside new.outside before after s ends;
      others = left_others (task_in m old) (Unprobed m old new) old.outside new.outside left;
      left = left;
      no_stray = spares.no_stray;
      completes = end_completes (task_in m old) (Unprobed m old new) (kept l (kinds_of old.states) m) old.outside new.outside before after s ends;
      attended = attended;
      unasked = spares.unasked;
      probes = spares.probes;
    }

pub ends_tell : EndsTell
ends_tell m old new before after s ends = end_tells (task_in m old) (Unprobed m old new) old.outside new.outside before after s ends
