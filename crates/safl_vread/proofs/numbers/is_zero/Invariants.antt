use Rattle.std.proofs.Common.{◌≡◌, take}
use Rattle.safl_word.specs.Numerals.{value}
use Rattle.safl_vread.proofs.numbers.is_zero.Given as goal

abbrev pub invariant-loop-c : goal.invariant-loop-c
invariant-loop-c l = value 10 (take l.c-index l.bytes) ≡ 0
