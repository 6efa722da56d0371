use Rattle.safl_probe.proofs.Common.{drop, variable_texts, watched_all, ◌++◌, ◌≡◌}
use Rattle.safl_probe.proofs.vcd_text.push_variables.Given as goal

abbrev pub invariant-entries : goal.invariant-entries
invariant-entries l = l.out.items ++ variable_texts l.i (watched_all (drop l.i l.entries)) ≡ l.fn.out.items ++ variable_texts 0 (watched_all l.entries)
