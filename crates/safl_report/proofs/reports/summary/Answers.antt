use Rattle.std.proofs.Common.{ℕ, ◌++◌, ap, ◌∙◌, append_assoc}
use Rattle.std.specs.Prelude.{codes, decimal}
use Rattle.safl_report.specs.Report.{Text, arbiters_of, register_line}
use Rattle.safl_report.proofs.OneLineMore.{three_parts, same_registers}
use Rattle.safl_report.proofs.reports.summary.Goals as goal

pub returns : goal.returns
returns c =
    let p = c.args.p.now in
    let n = c.args.n.now in
    let total = c.count_registers-total in
    record {
      arbiter = p.arbiter;
      kept = p.kept;
      plan = c.count_arbiters.ensures.plan;
      lines = three_parts (codes "arbiters " ++ decimal (arbiters_of p.checked.program p.arbiter)) (codes "\n") (register_line n)
          c.new-out.result.items c.push_number.new.out.items c.push_end.new.out.items c.push_registers.new.out.items
          c.new-out.ensures.items
          (c.in_ok-push_number.ensures ∙ append_assoc c.new-out.result.items (codes "arbiters ") (decimal c.from.result)
          ∙ ap (λ (m : ℕ). c.new-out.result.items ++ (codes "arbiters " ++ decimal m)) (c.from.ensures ∙ c.count_arbiters.ensures.count))
          c.in_ok-push_end.ensures
          (c.in_ok-push_registers.ensures ∙ ap (λ (l : Text). c.push_end.new.out.items ++ l) (same_registers n total.result.count total.result.bits total.ensures.count total.ensures.bits));
    }
