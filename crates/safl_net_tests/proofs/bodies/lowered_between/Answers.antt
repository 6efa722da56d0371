use Rattle.safl_net_tests.proofs.Lowerable.{able}
use Rattle.safl_net_tests.proofs.bodies.lowered_between.Goals as goal

pub lower-requires-clause-able : goal.lower-requires-clause-able
lower-requires-clause-able c =
    able c.args.c.now c.args.main c.args.net.now (record { run = c.args.inputs.run; args = c.in-Ok.args; sites = c.in-Ok-vec.sites }) c.args.inputs.a c.args.inputs.first c.args.inputs.second
    c.functions-count.ensures.checked c.requires.few c.requires.ports c.in-Ok.ensures.items c.in-Ok-vec.ensures.items c.requires.chooses
