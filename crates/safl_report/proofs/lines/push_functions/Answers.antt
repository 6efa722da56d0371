use Rattle.std.proofs.Common.{ℕ, List, ◌++◌, ap, ◌∙◌, arith}
use Rattle.safl_word.proofs.Lists.{concat_more}
use Rattle.safl_term.specs.Checked.{CheckedProgram}
use Rattle.safl_report.proofs.NamedLines.{function_line}
use Rattle.safl_report.proofs.OneLineMore.{same_function}
use Rattle.safl_report.proofs.lines.push_functions.Goals as goal

pub loop-f-preserved : goal.loop-f-preserved
loop-f-preserved c =
    let p = c.args.p.now in
    let f = c.loop-f.f in
    let same = c.checked-c.ensures.same in
    let count = c.functions-f-end.ensures.count ∙ ap (λ (q : CheckedProgram). q.program.functions) same in
    let name = c.name.ensures ∙ ap (λ (q : CheckedProgram). q.name f) same in
    let calls = c.requires.each f (omega (arith, count)) in
    concat_more (function_line p.checked.program p.checked.names p.arbiter) 0 f f c.args.out.now.items c.loop-f.out.items c.push_function.new.out.items (omega arith) c.loop-f.invariant
    (c.in_ok-push_function.ensures ∙ ap (λ (l : List ℕ). c.loop-f.out.items ++ l) (same_function _ _ _ _ _ _ name calls c.arbiter.ensures.entry))
