use Rattle.safl_tree.proofs.Common.{AllKeepLevels, drop, shown_definitions, ◌↔◌}
use Rattle.safl_tree.proofs.levels.levels_ok.Given as goal

-- what is left keeps the levels exactly where all does
abbrev pub invariant-loop-def : goal.invariant-loop-def
invariant-loop-def l = AllKeepLevels (shown_definitions (drop l.def-index l.p.defs.items)) ↔ AllKeepLevels (shown_definitions l.p.defs.items)
