use Rattle.safl_sites.proofs.Common.{Adds, Has, HasAt, IsSpread, ap, arith, slice_set, subst, sym, unit_for, ℕ, ◌-◌, ◌∙◌, ◌≡◌}
use Rattle.safl_sites.proofs.BeforeByCalls.{spread_more}
use Rattle.safl_sites.proofs.spread.spread_site.Goals as goal

pub returns : goal.returns
returns c =
    let C = c.args.c.now.program in
    let k = c.args.k in
    let h = c.requires.checked in
    let from : c.unit.result ≡ C.unit (C.caller k) = c.unit.ensures.number ∙ ap C.unit c.caller.ensures.number in
    let to = c.unit_for.ensures.number in
    let union : (j : ℕ) → Adds (HasAt c.args.sets.now k j) (Has c.union.new.self j) (HasAt c.args.handed.now (C.unit (C.caller k)) j) =
    λ j. subst (λ (u : ℕ). Adds (HasAt c.args.sets.now k j) (Has c.union.new.self j) (HasAt c.args.handed.now u j)) from (c.union.ensures j) in
    let down : (j : ℕ) → Adds (HasAt c.args.handed.now (unit_for C k) j) (Has c.union-2.new.self j) (Has c.union.new.self j) =
    λ j. subst (λ (u : ℕ). Adds (HasAt c.args.handed.now u j) (Has c.union-2.new.self j) (Has c.union.new.self j)) to (c.union-2.ensures j) in
    subst (λ (u : ℕ). IsSpread C (k - 1) (slice_set c.args.sets.now k c.union.new.self) (slice_set c.args.handed.now u c.union-2.new.self)) (sym to)
    (spread_more c.args.c.now h (k - 1) k c.args.sets.now c.args.handed.now c.union.new.self c.union-2.new.self (omega arith) c.requires.most c.requires.spread union down)
