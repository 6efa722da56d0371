use Rattle.safl_net.proofs.Growth.{sized_known, sized_fits}
use Rattle.safl_net.proofs.SignalKinds.{one_more}
use Rattle.safl_bench.proofs.Growing.{made_one}
use Rattle.safl_bench.proofs.turns.wire.Goals as goal

pub temp-requires-clause-known : goal.temp-requires-clause-known
temp-requires-clause-known c = let f = c.requires.fits in sized_known c.args.net.now c.args.operands.now f.0 f.2

pub temp-requires-clause-fits : goal.temp-requires-clause-fits
temp-requires-clause-fits c = let f = c.requires.fits in sized_fits c.args.net.now c.args.op c.args.operands.now f.0 f.1 f.2 f.3

pub returns-clause-more : goal.returns-clause-more
returns-clause-more c = let e = c.temp.ensures in one_more c.args.net.now c.temp.new.self c.temp.result c.args.op c.args.operands.now e.added e.refused

pub returns-clause-gives : goal.returns-clause-gives
returns-clause-gives c = λ ws w p q.
    let e = c.temp.ensures in
    made_one c.args.net.now c.temp.new.self c.temp.result c.args.op c.args.operands.now ws w p q e.added e.numbered e.refused e.tidy
