use Rattle.std.proofs.Common.{◌≡◌, ℕ, ◌+◌, ◌-◌, Bool, List, arith, sym, subst}
use Rattle.safl_sites.specs.Collecting.{IsCollected}
use Rattle.safl_sites.proofs.planning.collect.Goals as goal

pub collect_site-requires-clause-collected : goal.collect_site-requires-clause-collected
collect_site-requires-clause-collected c =
    let C = c.args.c.now.program in
    let same : c.loop-done.done + 1 - 1 ≡ c.loop-done.done = omega arith in
    subst (λ (n : ℕ). IsCollected C n c.deref_mut.result.now c.loop-done.kept) (sym same)
    (subst (λ (l : List Bool). IsCollected C c.loop-done.done l c.loop-done.kept) (sym c.deref_mut.ensures.value) c.loop-done.invariant)
