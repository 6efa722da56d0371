use Rattle.safl_check.proofs.StackFromTop.{long_let_at}
use Rattle.safl_check.proofs.nodes.find_excess_binding.Goals as goal

pub returns-in-Let : goal.returns-in-Let
returns-in-Let c = long_let_at c.args.e.now.node c.args.e.now.place c.in-Let.binds c.in-Let.field-1 _ c.find_excess.result c.in-Let.is c.deref.ensures.value c.find_excess.ensures
