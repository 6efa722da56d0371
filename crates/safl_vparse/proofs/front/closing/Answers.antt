use Rattle.safl_vparse.proofs.Fronts.{closing_goes, closing_ends}
use Rattle.safl_vparse.proofs.front.closing.Goals as goal
use Rattle.safl_vparse.proofs.front.closing.Goals.{else-text-i-eq42-via-then-text-i-eq42+else-text-i-eq47, else-text-i-eq42-via-else-text-i-eq42}

pub loop-i-preserved : goal.loop-i-preserved
loop-i-preserved c =
    elim c.else-text-i-eq42.branch [
      | else-text-i-eq42-via-then-text-i-eq42+else-text-i-eq47 w ↦ closing_goes c.args.text.now c.loop-i.i c.loop-i.auto.i c.loop-i-test.true (λ e f. w.if-text-i-eq47.false f) c.loop-i.invariant
      | else-text-i-eq42-via-else-text-i-eq42 w ↦ closing_goes c.args.text.now c.loop-i.i c.loop-i.auto.i c.loop-i-test.true (λ e f. w.if-text-i-eq42.false e) c.loop-i.invariant
    ]

pub returns-clause-found : goal.returns-clause-found
returns-clause-found c = closing_ends c.args.text.now c.loop-i.i c.loop-i-test.false c.loop-i.invariant
