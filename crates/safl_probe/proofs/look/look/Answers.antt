use Rattle.safl_probe.proofs.Common.{Word, map, ◌∙◌}
use Rattle.safl_probe.proofs.Spots.{look_more, first_all}
use Rattle.safl_probe.proofs.look.look.Goals as goal

pub spots-preserved : goal.spots-preserved
spots-preserved c =
    look_more (map (λ (w : Word). w.bits) c.args.frame.now) c.args.spots.now c.spots.spots c.spots.i c.see.new.spot c.spots.invariant c.spots-test.true c.see.ensures

pub returns : goal.returns
returns c = c.spots.invariant ∙ first_all (map (λ (w : Word). w.bits) c.args.frame.now) c.args.spots.now c.spots.i c.spots-test.false
