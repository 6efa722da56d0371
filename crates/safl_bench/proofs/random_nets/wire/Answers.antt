use Rattle.safl_net.proofs.Growth.{sized_fits}
use Rattle.std.proofs.Common.{length}
use Rattle.safl_net.proofs.SignalKinds.{one_more}
use Rattle.safl_bench.specs.Bits.{ones}
use Rattle.safl_bench.proofs.Wires.{sized, made_bits, last_in, same_outputs}
use Rattle.safl_bench.proofs.random_nets.wire.Goals as goal

pub temp-requires-clause-fits : goal.temp-requires-clause-fits
temp-requires-clause-fits c = sized_fits c.args.net.now c.args.op c.args.operands.now (ones (length c.args.operands.now)) 1
    (sized c.args.net.now c.requires.bits c.args.operands.now c.requires.known) c.requires.fits

pub returns-clause-bits : goal.returns-clause-bits
returns-clause-bits c =
    let e = c.temp.ensures in
    made_bits c.args.net.now c.temp.new.self c.temp.result c.args.op c.args.operands.now c.requires.bits c.requires.known c.requires.fits e.added e.numbered e.refused e.tidy

pub returns-clause-more : goal.returns-clause-more
returns-clause-more c = let e = c.temp.ensures in one_more c.args.net.now c.temp.new.self c.temp.result c.args.op c.args.operands.now e.added e.refused

pub returns-clause-last : goal.returns-clause-last
returns-clause-last c = let e = c.temp.ensures in last_in c.args.net.now c.temp.new.self c.temp.result c.args.op c.args.operands.now e.added e.numbered

pub returns-clause-outputs : goal.returns-clause-outputs
returns-clause-outputs c = let e = c.temp.ensures in same_outputs c.args.net.now c.temp.new.self c.temp.result c.args.op c.args.operands.now e.added e.refused
