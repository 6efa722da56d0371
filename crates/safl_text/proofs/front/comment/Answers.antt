use Rattle.std.proofs.Common.{arith, ◌==◌, ◌-◌, not, drop, length, length-drop, subst}
use Rattle.safl_word.proofs.NumeralsRead.{taken}
use Rattle.safl_word.specs.Runs.{IsRun}
use Rattle.safl_text.proofs.PrefixByRuns.{comment_front}
use Rattle.safl_text.proofs.front.comment.Goals as goal

pub returns : goal.returns
returns c =
    let l = length-drop 2 c.args.text.now in
    let e = taken (drop 2 c.args.text.now) (length c.args.text.now - 2) (omega arith) (omega arith) in
    comment_front c.args.text.now c.line_length.result c.requires (subst (λ w. IsRun (λ d. not (d == 10)) w c.line_length.result) e c.line_length.ensures)
