use Rattle.std.proofs.Common.{◌++◌, codes, decimal}
use Rattle.std.proofs.lemmas.Result.{on_ok_weaker}
use Rattle.safl_gen.proofs.Pieces.{numbered, then_numbered, then_piece}
use Rattle.safl_gen.proofs.lines.push_compared_call.Goals as goal

pub returns : goal.returns
returns c =
    let old = c.args.out.now.items in
    let x = c.push_numbered.new.out.items in
    let y = c.push_numbered-2.new.out.items in
    let z = c.push_numbered-3.new.out.items in
    let end = c.push_numbered-4.new.out.items in
    let to_x = codes "if f" ++ decimal c.args.j in
    let to_y = (to_x ++ codes "(x, ") ++ decimal c.args.k in
    let to_z = (to_y ++ codes ") == y then x else f") ++ decimal c.args.p in
    let to_end = (to_z ++ codes "(y, x + ") ++ decimal c.args.k in
    let first = numbered old x (codes "if f") (decimal c.args.j) c.in_ok-push_numbered.ensures in
    let second = then_numbered old x y to_x (codes "(x, ") (decimal c.args.k) first c.in_ok-push_numbered-2.ensures in
    let third = then_numbered old y z to_y (codes ") == y then x else f") (decimal c.args.p) second c.in_ok-push_numbered-3.ensures in
    let fourth = then_numbered old z end to_z (codes "(y, x + ") (decimal c.args.k) third c.in_ok-push_numbered-4.ensures in
    on_ok_weaker c.push.result (then_piece old end c.push.new.out.items to_end (codes ")") fourth) c.push.ensures
