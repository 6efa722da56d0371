use Rattle.std.proofs.Common.{◌-◌, ◌/◌, [], ◌∷◌, arith}
use Rattle.safl_bench.proofs.Growing.{kept, gives_on, ok_on, low_width, high_width, halves_width}
use Rattle.safl_bench.proofs.turns.joined.Goals as goal

pub wire-requires-clause-fits : goal.wire-requires-clause-fits
wire-requires-clause-fits c =
    let w = c.args.width in
    let h = w / 2 in
    (w ∷ [], h, (c.requires.first, tt), low_width w h (omega arith) (omega arith) c.requires.most)

pub wire-requires-2-clause-fits : goal.wire-requires-2-clause-fits
wire-requires-2-clause-fits c =
    let w = c.args.width in
    let h = w / 2 in
    let g = c.in_ok-low.ensures.gives (w ∷ []) h (c.requires.first, tt) (low_width w h (omega arith) (omega arith) c.requires.most) in
    (w ∷ [], w - h, (kept g w c.args.b c.requires.second, tt), high_width w h (omega arith) (omega arith) c.requires.most)

pub wire-requires-3-clause-fits : goal.wire-requires-3-clause-fits
wire-requires-3-clause-fits c =
    let w = c.args.width in
    let h = w / 2 in
    let g = c.in_ok-low.ensures.gives (w ∷ []) h (c.requires.first, tt) (low_width w h (omega arith) (omega arith) c.requires.most) in
    let k = c.in_ok-high.ensures.gives (w ∷ []) (w - h) (kept g w c.args.b c.requires.second, tt) (high_width w h (omega arith) (omega arith) c.requires.most) in
    (h ∷ (w - h) ∷ [], w, (kept k h c.in_ok-low.low g.has, (k.has, tt)), halves_width w h (omega arith) (omega arith) (omega arith))

pub returns : goal.returns
returns c =
    let w = c.args.width in
    let h = w / 2 in
    let g = c.in_ok-low.ensures.gives (w ∷ []) h (c.requires.first, tt) (low_width w h (omega arith) (omega arith) c.requires.most) in
    let k = c.in_ok-high.ensures.gives (w ∷ []) (w - h) (kept g w c.args.b c.requires.second, tt) (high_width w h (omega arith) (omega arith) c.requires.most) in
    ok_on c.wire-3.new.net 1 w c.wire-3.result (gives_on g k) (c.wire-3.ensures.gives (h ∷ (w - h) ∷ []) w
    (kept k h c.in_ok-low.low g.has, (k.has, tt)) (halves_width w h (omega arith) (omega arith) (omega arith)))
