use Rattle.std.proofs.Common.{◌++◌, codes, decimal}
use Rattle.std.proofs.lemmas.Result.{on_ok_weaker}
use Rattle.safl_gen.proofs.Pieces.{numbered, then_piece}
use Rattle.safl_gen.proofs.lines.push_main.Goals as goal

pub returns : goal.returns
returns c =
    let old = c.args.out.now.items in
    let mid = c.push_numbered.new.out.items in
    let piece = codes "fun main(a:16, b:16):16 = f" in
    let number = decimal c.args.last in
    let first = numbered old mid piece number c.in_ok-push_numbered.ensures in
    on_ok_weaker c.push.result (then_piece old mid c.push.new.out.items (piece ++ number) (codes "(a, b)\n") first) c.push.ensures
