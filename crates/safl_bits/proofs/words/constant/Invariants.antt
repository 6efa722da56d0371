use Rattle.safl_bits.proofs.Common.{AreLiterals, Assignment, Gates, IsLiteral, on, shown}
use Rattle.std.proofs.Common.{◌≡◌, ◌%◌, ◌^◌, false, length}
use Rattle.safl_bits.proofs.words.constant.Given as goal

abbrev pub invariant-loop-i : goal.invariant-loop-i
invariant-loop-i l = record {
  fits : (g : Gates) → IsLiteral g l.zero → AreLiterals g l.all.items;
  long : length l.all.items ≡ l.i;
  value : (m : Assignment) → on m l.zero ≡ false → shown m l.all.items ≡ l.bits % 2 ^ l.i;
}
