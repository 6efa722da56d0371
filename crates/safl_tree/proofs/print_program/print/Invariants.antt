use Rattle.safl_tree.proofs.Common.{printed, shown_definitions}
use Rattle.std.proofs.Common.{◌≡◌, ◌++◌, drop}
use Rattle.safl_tree.proofs.print_program.print.Given as goal

-- with what is left the text is that of all
abbrev pub invariant-loop-def : goal.invariant-loop-def
invariant-loop-def l = l.out.items ++ printed (shown_definitions (drop l.def-index l.p.defs.items)) ≡ printed (shown_definitions l.p.defs.items)
