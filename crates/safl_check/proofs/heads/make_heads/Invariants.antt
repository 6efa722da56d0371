use Rattle.safl_check.proofs.Common.{drop, shown_definitions, shown_heads, ◌++◌, ◌≡◌}
use Rattle.safl_typing.specs.Heads.{heads_from, heads}
use Rattle.safl_check.proofs.heads.make_heads.Given as goal

-- the heads so far, and those of the rest
abbrev pub invariant-loop-number : goal.invariant-loop-number
invariant-loop-number l = shown_heads l.all.items ++ heads_from l.number l.unit (shown_definitions (drop l.number l.defs)) ≡ heads (shown_definitions l.defs)
