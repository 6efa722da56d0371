use Rattle.safl_core.proofs.Common.{Shown, ap, busy, state, sym, ◌∙◌}
use Rattle.safl_core.proofs.EventAtPlace.{busy_marked}
use Rattle.safl_core.proofs.machine.Machine.busy.Goals as goal

pub returns : goal.returns
returns c = c.len.ensures.count ∙ (sym (busy_marked c.self.invariant.marked) ∙ ap (λ (m : Shown). busy m.program (state m)) c.self.view_is)
