use Rattle.std.proofs.Common.{◌<◌, ◌≤◌, length, refl, arith}
use Rattle.safl_core.proofs.WritesAreSteps.{end_site, end_front, end_back}
use Rattle.safl_core.proofs.step.end_sites.Goals as goal

pub loop-k-init : goal.loop-k-init
loop-k-init c = record {
  below = end_front c.args.c.now.program c.args.u c.own_sites-own.result c.own_sites-own.ensures c.args.stages.now;
  above = λ j le. refl;
}

pub loop-k-preserved : goal.loop-k-preserved
loop-k-preserved c =
    let C = c.args.c.now.program in
    let k = c.loop-k.k in
    let s = c.own_sites-own.ensures in
    let from : c.own_sites-own.result.first ≤ k = omega arith in
    let upto : k < c.own_sites-own.result.end = omega (arith, c.loop-k-test.true) in
    let within : k < length c.loop-k.stages = omega (arith, c.requires.sized, c.loop-k.auto.stages, s.most, upto) in
    let both = end_site C c.args.u k c.args.stages.now c.loop-k.stages c.loop-k.invariant.below c.loop-k.invariant.above within (omega (arith, s.least, from)) (s.own k from upto) in
    record { below = both.0; above = both.1 }

pub returns-clause-ended : goal.returns-clause-ended
returns-clause-ended c = end_back c.args.c.now.program c.args.u c.own_sites-own.result c.own_sites-own.ensures c.loop-k.k c.args.stages.now c.loop-k.stages
    c.requires.sized (omega (arith, c.loop-k-test.false)) c.loop-k.invariant.below c.loop-k.invariant.above
