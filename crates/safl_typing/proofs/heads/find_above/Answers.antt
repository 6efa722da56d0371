use Rattle.std.proofs.Common.{ℕ, true, false}
use Rattle.std.specs.Prelude.{nat_lt}
use Rattle.std.proofs.lemmas.Bool.{lt-ltb, le-ltb}
use Rattle.safl_typing.proofs.FunctionsByName.{sought_begins, sought_more, sought_falls}
use Rattle.safl_typing.proofs.heads.find_above.Goals as goal
use Rattle.safl_typing.proofs.heads.find_above.Goals.{then-get-unit, else-get-unit}

pub loop-at-init : goal.loop-at-init
loop-at-init c = sought_begins (λ (u : ℕ). nat_lt u c.args.unit) c.args.name.now c.args.heads.now c.last-at.result c.last-at.ensures

pub loop-at-smaller : goal.loop-at-smaller
loop-at-smaller c =
    sought_falls (λ (u : ℕ). nat_lt u c.args.unit) c.args.name.now c.args.heads.now c.loop-at.at c.loop-at.found c.before-at.result c.in-Some.number
    c.loop-at.invariant c.in-Some.is c.before-at.ensures

pub loop-at-preserved : goal.loop-at-preserved
loop-at-preserved c =
    let more = sought_more (λ (u : ℕ). nat_lt u c.args.unit) c.args.name.now c.args.heads.now c.loop-at.at c.loop-at.found c.before-at.result c.if-get-unit.found c.in-Some.number c.get.result.now in
    elim c.if-get-unit.branch [
      | then-get-unit w ↦ more true c.loop-at.invariant c.in-Some.is c.get.ensures c.before-at.ensures (lt-ltb c.get.result.now.unit c.args.unit w.if-get-unit.true) w.found-is
      | else-get-unit w ↦ more false c.loop-at.invariant c.in-Some.is c.get.ensures c.before-at.ensures (le-ltb c.get.result.now.unit c.args.unit w.if-get-unit.false) w.found-is
    ]
