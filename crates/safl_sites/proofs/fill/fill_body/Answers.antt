use Rattle.safl_sites.proofs.Common.{MayReach, Reaches, Term}
use Rattle.std.proofs.Common.{◌≡◌, ℕ, suc, length, slice_set, sym, subst, arith}
use Rattle.std.proofs.lemmas.Bool.{both_ways}
use Rattle.safl_sites.specs.Filling.{IsFilled}
use Rattle.safl_sites.specs.Parallel.{Marked}
use Rattle.safl_sites.specs.SiteSets.{has, Has, HasAt, Adds}
use Rattle.safl_sites.proofs.TablesByBodies.{body_may_reach, filled_more}
use Rattle.safl_sites.proofs.fill.fill_body.Goals as goal

pub reach-requires : goal.reach-requires
reach-requires c =
    let C = c.args.c.now.program in
    subst (λ (x : Term). (n : ℕ) × MayReach C c.args.units.now n x) (sym c.body-body.ensures.term)
    (body_may_reach c.args.c.now c.body-body.ensures.checked c.args.f _ _ _ c.requires.within c.requires.filled)

pub mark-requires-clause-may : goal.mark-requires-clause-may
mark-requires-clause-may c =
    let C = c.args.c.now.program in
    subst (λ (x : Term). (n : ℕ) × MayReach C c.args.units.now n x) (sym c.body-body.ensures.term)
    (body_may_reach c.args.c.now c.body-body.ensures.checked c.args.f _ _ _ c.requires.within c.requires.filled)

pub bounds-units-unit : goal.bounds-units-unit
bounds-units-unit c =
    let C = c.args.c.now.program in
    let e = (c.body-body.ensures.checked.formed.first c.args.f c.requires.within).0 in
    omega (arith, e, c.requires.filled.units_count)

pub returns : goal.returns
returns c =
    let C = c.args.c.now.program in
    let f = c.args.f in
    let low = (c.body-body.ensures.checked.formed.first f c.requires.within).0 in
    let e = c.body-body.ensures.term in
    let reached : (k : ℕ) → Adds (Has c.new-set.result k) (Has c.reach.new.set k) (Reaches C k (C.body f)) = λ k. subst
    (λ (x : Term). Adds (Has c.new-set.result k) (Has c.reach.new.set k) (Reaches C k x)) e (c.reach.ensures k) in
    let marked : (b k : ℕ) → Adds (HasAt c.args.after.now b k) (HasAt c.mark.new.sets b k) (Marked C (Has c.new.result k) k b (C.body f)) =
    λ b k. subst (λ (x : Term). Adds (HasAt c.args.after.now b k) (HasAt c.mark.new.sets b k) (Marked C (Has c.new.result k) k b x)) e (c.mark.ensures b k) in
    let union : (k : ℕ) → Adds (HasAt c.args.units.now (C.unit f) k) (Has c.union.new.self k) (Has c.reach.new.set k) =
    λ k. subst (λ (u : ℕ). Adds (HasAt c.args.units.now u k) (Has c.union.new.self k) (Has c.reach.new.set k)) c.unit.ensures.number (c.union.ensures k) in
    let count : length c.mark.new.sets ≡ length c.args.after.now = omega arith in
    subst (λ (u : ℕ). IsFilled C (suc f) (slice_set c.args.bodies.now f c.reach.new.set) (slice_set c.args.units.now u c.union.new.self) c.mark.new.sets) (sym c.unit.ensures.number)
    (filled_more C f c.args.bodies.now c.args.units.now c.args.after.now c.mark.new.sets c.new-set.result c.reach.new.set c.union.new.self c.requires.within (omega arith) c.requires.filled
    c.new-set.ensures reached (Has c.new.result) (λ k h. both_ways (has c.new.result k) (c.new.ensures k) h) count marked union)
