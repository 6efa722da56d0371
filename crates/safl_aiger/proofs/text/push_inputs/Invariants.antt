use Rattle.std.proofs.Common.{◌≡◌, ◌+◌, ◌-◌, ◌++◌}
use Rattle.safl_aiger.specs.Texts.{joined_lines, input_text}
use Rattle.safl_aiger.proofs.text.push_inputs.Given as goal

abbrev pub invariant-loop-i : goal.invariant-loop-i
invariant-loop-i l = l.out.items ++ joined_lines (input_text (1 + l.i) (l.count - l.i)) ≡ l.initial.out.items ++ joined_lines (input_text 1 l.count)
