use Rattle.std.proofs.Common.{◌≡◌, ◌-◌, drop}
use Rattle.safl_verilog.specs.Pieces.{closing}
use Rattle.safl_vparse.proofs.Fronts.{shifted}
use Rattle.safl_vparse.proofs.front.closing.Given as goal

abbrev pub invariant-loop-i : goal.invariant-loop-i
invariant-loop-i l = closing l.text ≡ shifted (l.i - 1) (closing (drop (l.i - 1) l.text))
