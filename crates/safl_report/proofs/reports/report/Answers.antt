use Rattle.std.proofs.Common.{◌++◌, ap, ◌∙◌}
use Rattle.safl_report.specs.Report.{Text, function_lines, site_report, register_line}
use Rattle.safl_report.proofs.OneLineMore.{three_parts, same_registers}
use Rattle.safl_report.proofs.reports.report.Goals as goal

pub returns : goal.returns
returns c =
    let p = c.args.p.now in
    let n = c.args.n.now in
    let total = c.count_registers-total in
    record {
      arbiter = p.arbiter;
      kept = p.kept;
      plan = c.in_ok-push_functions.ensures.plan;
      lines = three_parts (function_lines p.checked.program p.checked.names p.arbiter) (site_report p.checked.program p.checked.names p.kept) (register_line n) c.new-out.result.items
          c.push_functions.new.out.items c.push_sites.new.out.items c.push_registers.new.out.items
          c.new-out.ensures.items c.in_ok-push_functions.ensures.lines c.in_ok-push_sites.ensures
          (c.in_ok-push_registers.ensures ∙ ap (λ (l : Text). c.push_sites.new.out.items ++ l) (same_registers n total.result.count total.result.bits total.ensures.count total.ensures.bits));
    }
