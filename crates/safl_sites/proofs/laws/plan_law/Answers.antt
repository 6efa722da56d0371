use Rattle.safl_sites.proofs.Common.{refl, unit_for}
use Rattle.safl_sites.proofs.laws.plan_law.Goals as goal

pub returns : goal.returns
returns c = λ C arbiter kept plan. record {
  arbiters = λ j k q. (plan.arbiters (unit_for C j)).1 (j, k, q, refl);
  keeps = λ k pos le q. (plan.keeps k pos le).1 q;
}
