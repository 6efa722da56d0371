use Rattle.std.proofs.Common.{◌++◌, codes, decimal}
use Rattle.std.proofs.lemmas.Result.{on_ok_weaker}
use Rattle.safl_gen.proofs.Pieces.{numbered, then_numbered, then_piece}
use Rattle.safl_gen.proofs.lines.push_halving.Goals as goal

pub returns : goal.returns
returns c =
    let old = c.args.out.now.items in
    let x = c.push_numbered.new.out.items in
    let y = c.push_numbered-2.new.out.items in
    let to_x = codes "if y == 0 then x else f" ++ decimal c.args.i in
    let to_y = (to_x ++ codes "(x + ") ++ decimal c.args.k in
    let first = numbered old x (codes "if y == 0 then x else f") (decimal c.args.i) c.in_ok-push_numbered.ensures in
    let second = then_numbered old x y to_x (codes "(x + ") (decimal c.args.k) first c.in_ok-push_numbered-2.ensures in
    on_ok_weaker c.push.result (then_piece old y c.push.new.out.items to_y (codes ", y >> 1)") second) c.push.ensures
