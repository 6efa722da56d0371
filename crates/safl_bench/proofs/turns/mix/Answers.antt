use Rattle.std.proofs.Common.{[], ◌∷◌, refl, arith}
use Rattle.safl_bench.proofs.Growing.{ok_more, not_width}
use Rattle.safl_bench.proofs.turns.mix.Goals as goal

pub wire-requires-clause-fits : goal.wire-requires-clause-fits
wire-requires-clause-fits c = let w = c.args.width in (w ∷ [], w, (c.requires.first, tt), not_width w (omega arith) c.requires.most)

pub wire-requires-in-5-clause-fits : goal.wire-requires-in-5-clause-fits
wire-requires-in-5-clause-fits c = let w = c.args.width in (w ∷ [], w, (c.requires.first, tt), refl)

pub returns-in-0 : goal.returns-in-0
returns-in-0 c = ok_more c.args.net.now c.shifted.new.net 2 c.args.width 3 c.shifted.result (omega arith) c.shifted.ensures

pub returns-in-2 : goal.returns-in-2
returns-in-2 c = ok_more c.args.net.now c.changed.new.net 2 c.args.width 3 c.changed.result (omega arith) c.changed.ensures

pub returns-in-3 : goal.returns-in-3
returns-in-3 c = let w = c.args.width in ok_more c.args.net.now c.wire.new.net 1 w 3 c.wire.result (omega arith)
    (c.wire.ensures.gives (w ∷ []) w (c.requires.first, tt) (not_width w (omega arith) c.requires.most))

pub returns-in-5 : goal.returns-in-5
returns-in-5 c = let w = c.args.width in ok_more c.args.net.now c.wire-in-5.new.net 1 w 3 c.wire-in-5.result (omega arith) (c.wire-in-5.ensures.gives (w ∷ []) w (c.requires.first, tt) refl)
