use Rattle.safl_core.proofs.Common.{IsBounded, Shown, subst}
use Rattle.safl_core.proofs.LawsOfKept.{bounded}
use Rattle.safl_core.proofs.machine.Machine.events.Goals as goal

pub returns-clause-bounded : goal.returns-clause-bounded
returns-clause-bounded c = subst (λ (m : Shown). IsBounded m) c.self.view_is (bounded c.self.invariant.kept)
