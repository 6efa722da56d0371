use Rattle.std.proofs.Common.{◌+◌, ℕ, List, ◌++◌, ap, ◌∙◌, arith}
use Rattle.safl_word.proofs.Lists.{concat_more}
use Rattle.safl_term.specs.Checked.{CheckedProgram}
use Rattle.safl_report.proofs.NamedLines.{site_line}
use Rattle.safl_report.proofs.OneLineMore.{same_site}
use Rattle.safl_report.proofs.lines.push_sites.Goals as goal

pub loop-done-preserved : goal.loop-done-preserved
loop-done-preserved c =
    let p = c.args.p.now in
    let program = c.checked-c.result.now in
    let k = c.loop-done.done + 1 in
    let same = c.checked-c.ensures.same in
    let callee = c.name-callee.ensures ∙ ap (λ (f : ℕ). program.name f) c.callee.ensures.number ∙ ap (λ (q : CheckedProgram). q.name (q.program.callee k)) same in
    let caller = c.name-caller.ensures ∙ ap (λ (f : ℕ). program.name f) c.caller.ensures.number ∙ ap (λ (q : CheckedProgram). q.name (q.program.caller k)) same in
    concat_more (site_line p.checked.program p.checked.names p.kept) 1 c.loop-done.done k c.args.out.now.items c.loop-done.out.items c.push_site.new.out.items (omega arith) c.loop-done.invariant
    (c.in_ok-push_site.ensures ∙ ap (λ (l : List ℕ). c.loop-done.out.items ++ l) (same_site k _ _ _ _ _ _ callee caller c.kept.ensures.entry))
