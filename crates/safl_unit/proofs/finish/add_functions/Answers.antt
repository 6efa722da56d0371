use Rattle.safl_unit.specs.Ties.{function_ties}
use Rattle.safl_unit.proofs.assembly.Listing.{none_listed, more_listed}
use Rattle.safl_unit.proofs.finish.add_functions.Goals as goal

pub loop-f-init : goal.loop-f-init
loop-f-init c = none_listed c.args.all.now.items (function_ties c.args.c.now.program c.args.c.now.names c.args.next.now.units.items c.args.next.now.members.items)

pub loop-f-preserved : goal.loop-f-preserved
loop-f-preserved c =
    more_listed c.args.all.now.items c.loop-f.all.items c.add_function.new.all.items
    (function_ties c.args.c.now.program c.args.c.now.names c.args.next.now.units.items c.args.next.now.members.items) c.loop-f.f c.loop-f.invariant
    c.in_ok-add_function.ensures
