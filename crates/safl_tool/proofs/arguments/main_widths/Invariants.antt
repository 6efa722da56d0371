use Rattle.std.proofs.Common.{◌≡◌, take}
use Rattle.safl_tool.proofs.arguments.main_widths.Given as goal

abbrev pub invariant-params : goal.invariant-params
invariant-params l = l.widths.items ≡ take l.i (l.checked.program.params l.main)
