use Rattle.std.proofs.Common.{drop, ◌↔◌}
use Rattle.safl_tree.specs.Shown.{shown_definitions}
use Rattle.safl_typing.specs.Forms.{AreShallow}
use Rattle.safl_check.proofs.functions.are_shallow.Given as goal

-- what is left is shallow exactly if all is
abbrev pub invariant-loop-def : goal.invariant-loop-def
invariant-loop-def l = AreShallow (shown_definitions (drop l.def-index l.defs)) ↔ AreShallow (shown_definitions l.defs)
