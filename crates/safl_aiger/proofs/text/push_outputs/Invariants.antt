use Rattle.std.proofs.Common.{◌≡◌, ◌++◌, drop}
use Rattle.safl_aiger.specs.Texts.{joined_lines, output_text}
use Rattle.safl_aiger.proofs.text.push_outputs.Given as goal

abbrev pub invariant-loop-i : goal.invariant-loop-i
invariant-loop-i l = l.out.items ++ joined_lines (output_text (drop l.i l.outputs)) ≡ l.initial.out.items ++ joined_lines (output_text l.outputs)
