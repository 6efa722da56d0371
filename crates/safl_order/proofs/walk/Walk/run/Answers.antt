use Rattle.safl_order.proofs.Moves.{done_more}
use Rattle.safl_order.proofs.walk.Walk.run.Goals as goal

pub signals-preserved : goal.signals-preserved
signals-preserved c = record {
  walks = c.visit.ensures.walks;
  empty = c.in_ok-visit.ensures.empty;
  done = done_more c.args.net.now c.signals.self.marks.items c.visit.new.self.marks.items c.signals.i c.signals.invariant.done c.visit.ensures.goes c.in_ok-visit.ensures.done;
}
