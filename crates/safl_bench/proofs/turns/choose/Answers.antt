use Rattle.std.proofs.Common.{[], ◌∷◌}
use Rattle.safl_net.proofs.SignalKinds.{mux_width}
use Rattle.safl_bench.proofs.Growing.{kept, chosen}
use Rattle.safl_bench.proofs.turns.choose.Goals as goal

pub wire-requires-clause-fits : goal.wire-requires-clause-fits
wire-requires-clause-fits c =
    let w = c.args.width in
    (w ∷ w ∷ [], w, (c.requires.last, (c.second.ensures c.args.net.now w c.requires.other c.requires.input, tt)), c.operator.ensures w c.requires.some c.requires.most)

pub wire-requires-2-clause-fits : goal.wire-requires-2-clause-fits
wire-requires-2-clause-fits c =
    let w = c.args.width in
    let g = c.in_ok-word.ensures.gives (w ∷ w ∷ []) w (c.requires.last, (c.second.ensures c.args.net.now w c.requires.other c.requires.input, tt))
    (c.operator.ensures w c.requires.some c.requires.most) in
    (w ∷ w ∷ [], 1, (g.has, (kept g w c.args.ends.other c.requires.other, tt)), c.comparison.ensures w c.requires.some c.requires.most)

pub wire-requires-3-clause-fits : goal.wire-requires-3-clause-fits
wire-requires-3-clause-fits c =
    let w = c.args.width in
    let g = c.in_ok-word.ensures.gives (w ∷ w ∷ []) w (c.requires.last, (c.second.ensures c.args.net.now w c.requires.other c.requires.input, tt))
    (c.operator.ensures w c.requires.some c.requires.most) in
    let h = c.in_ok-test.ensures.gives (w ∷ w ∷ []) 1 (g.has, (kept g w c.args.ends.other c.requires.other, tt)) (c.comparison.ensures w c.requires.some c.requires.most) in
    (1 ∷ w ∷ w ∷ [], w, (h.has, (kept h w c.in_ok-word.word g.has, (kept h w c.args.ends.last (kept g w c.args.ends.last c.requires.last), tt))), mux_width w)

pub returns : goal.returns
returns c =
    let w = c.args.width in
    let g = c.in_ok-word.ensures.gives (w ∷ w ∷ []) w (c.requires.last, (c.second.ensures c.args.net.now w c.requires.other c.requires.input, tt))
    (c.operator.ensures w c.requires.some c.requires.most) in
    let h = c.in_ok-test.ensures.gives (w ∷ w ∷ []) 1 (g.has, (kept g w c.args.ends.other c.requires.other, tt)) (c.comparison.ensures w c.requires.some c.requires.most) in
    chosen g h (c.in_ok-last.ensures.gives (1 ∷ w ∷ w ∷ []) w (h.has, (kept h w c.in_ok-word.word g.has, (kept h w c.args.ends.last (kept g w c.args.ends.last c.requires.last), tt))) (mux_width w))
