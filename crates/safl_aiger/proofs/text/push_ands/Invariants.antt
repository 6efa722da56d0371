use Rattle.std.proofs.Common.{◌≡◌, ◌+◌, ◌++◌, drop}
use Rattle.safl_aiger.specs.Texts.{joined_lines, and_text}
use Rattle.safl_aiger.proofs.text.push_ands.Given as goal

abbrev pub invariant-loop-i : goal.invariant-loop-i
invariant-loop-i l = l.out.items ++ joined_lines (and_text (l.first + l.i) (drop l.i l.ands)) ≡ l.initial.out.items ++ joined_lines (and_text l.first l.ands)
