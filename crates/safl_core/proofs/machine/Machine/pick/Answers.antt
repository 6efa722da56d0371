use Rattle.safl_core.proofs.Common.{CanFire, IsPicked, Shown, calls_of, event_of, listed, slice_get, state}
use Rattle.std.proofs.Common.{◌≡◌, ◌%◌, None, Some, subst, sym, ap, ◌∙◌, length}
use Rattle.safl_core.proofs.EnabledByPlace.{none_listed, listing}
use Rattle.safl_core.proofs.LawsOfKept.{enabled_of}
use Rattle.safl_core.proofs.EventAtPlace.{listed_long, nth_listed}
use Rattle.safl_core.proofs.WalksByTurns.{Ends, none_ends, some_ends}
use Rattle.safl_core.proofs.machine.Machine.pick.Goals as goal

pub returns-then-count-eq0-clause-none : goal.returns-then-count-eq0-clause-none
returns-then-count-eq0-clause-none c =
    let h = c.self.invariant in
    subst (λ (m : Shown). Ends None m) c.self.view_is (none_ends h.kept (none_listed h.kept (listed_long h.marked ∙ (sym c.count-count.ensures ∙ c.if-count-eq0.true))))

pub returns-clause-picked : goal.returns-clause-picked
returns-clause-picked c =
    let n = c.self.inside in
    let h = c.self.invariant in
    let C = n.checked.now.program in
    let s = calls_of n.state in
    let at : c.args.x % length (listed C n.opening s) ≡ c.picked.result =
    ap (λ z. c.args.x % z) (listed_long h.marked ∙ sym c.count-count.ensures) ∙ sym c.picked.ensures.place in
    subst (λ (m : Shown). IsPicked m.program m.args (state m) c.args.x (event_of c.nth.result)) c.self.view_is (record {
      list = listed C n.opening s;
      lists = listing h.kept;
      there = ap (slice_get (listed C n.opening s)) at ∙ (nth_listed h.marked _ _ c.nth.ensures).0;
    })

pub returns-clause-fires : goal.returns-clause-fires
returns-clause-fires c =
    let n = c.self.inside in
    let h = c.self.invariant in
    subst (λ (m : Shown). CanFire m (event_of c.nth.result)) c.self.view_is
    (enabled_of n.checked.now.program n.opening (calls_of n.state) (event_of c.nth.result) (nth_listed h.marked _ _ c.nth.ensures).1)

pub returns-clause-none : goal.returns-clause-none
returns-clause-none c =
    let n = c.self.inside in
    let h = c.self.invariant in
    let can = enabled_of n.checked.now.program n.opening (calls_of n.state) (event_of c.nth.result) (nth_listed h.marked _ _ c.nth.ensures).1 in
    subst (λ (m : Shown). Ends (Some c.nth.result) m) c.self.view_is (some_ends h.kept c.nth.result can)
