use Rattle.safl_typing.proofs.Common.{AreMarked, Known, operands_wanted, shown_expressions, shown_wanted, take, ◌≡◌}
use Rattle.std.specs.Prelude.{map}
use Rattle.safl_typing.proofs.wanted.wanted_operands.Given as goal

abbrev pub invariant-loop-operand : goal.invariant-loop-operand
invariant-loop-operand l =
    (k : Known) → AreMarked k l.operands → map shown_wanted l.all.items ≡ operands_wanted l.shifted (shown_expressions (take l.operand-index l.operands))
