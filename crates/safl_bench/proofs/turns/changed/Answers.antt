use Rattle.std.proofs.Common.{[], ◌∷◌, Some, ap, arith}
use Rattle.safl_bench.proofs.Growing.{kept, ok_on, alike_width}
use Rattle.safl_bench.proofs.turns.changed.Goals as goal

pub wire-requires-clause-fits : goal.wire-requires-clause-fits
wire-requires-clause-fits c = ([], c.args.width, tt, ap Some c.spread.ensures)

pub wire-requires-2-clause-fits : goal.wire-requires-2-clause-fits
wire-requires-2-clause-fits c =
    let w = c.args.width in
    let g = c.in_ok-constant.ensures.gives [] w tt (ap Some c.spread.ensures) in
    (w ∷ w ∷ [], w, (kept g w c.args.a c.requires.has, (g.has, tt)), alike_width w (omega arith) c.requires.most)

pub returns : goal.returns
returns c =
    let w = c.args.width in
    let g = c.in_ok-constant.ensures.gives [] w tt (ap Some c.spread.ensures) in
    ok_on c.wire-2.new.net 1 w c.wire-2.result g (c.wire-2.ensures.gives (w ∷ w ∷ []) w (kept g w c.args.a c.requires.has, (g.has, tt)) (alike_width w (omega arith) c.requires.most))
