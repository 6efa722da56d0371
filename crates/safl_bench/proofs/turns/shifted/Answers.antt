use Rattle.std.proofs.Common.{[], ◌∷◌, arith}
use Rattle.safl_bench.proofs.Growing.{kept, ok_on, bits_width}
use Rattle.safl_bench.proofs.turns.shifted.Goals as goal

pub wire-requires-clause-fits : goal.wire-requires-clause-fits
wire-requires-clause-fits c =
    let w = c.args.width in
    (w ∷ [], 7, (c.requires.second, tt), bits_width 6 0 w (omega arith) (omega arith) c.requires.most)

pub wire-requires-2-clause-fits : goal.wire-requires-2-clause-fits
wire-requires-2-clause-fits c =
    let w = c.args.width in
    let g = c.in_ok-amount.ensures.gives (w ∷ []) 7 (c.requires.second, tt) (bits_width 6 0 w (omega arith) (omega arith) c.requires.most) in
    (w ∷ 7 ∷ [], w, (kept g w c.args.a c.requires.first, (g.has, tt)), c.shift.ensures w (omega arith) c.requires.most)

pub returns : goal.returns
returns c =
    let w = c.args.width in
    let g = c.in_ok-amount.ensures.gives (w ∷ []) 7 (c.requires.second, tt) (bits_width 6 0 w (omega arith) (omega arith) c.requires.most) in
    ok_on c.wire-2.new.net 1 w c.wire-2.result g (c.wire-2.ensures.gives (w ∷ 7 ∷ []) w (kept g w c.args.a c.requires.first, (g.has, tt)) (c.shift.ensures w (omega arith) c.requires.most))
