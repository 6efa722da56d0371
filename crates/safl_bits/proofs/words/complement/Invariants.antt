use Rattle.safl_bits.proofs.Common.{AreLiterals, Assignment, Gates, length, shown, take, ◌+◌, ◌^◌, ◌≡◌}
use Rattle.safl_bits.proofs.words.complement.Given as goal

abbrev pub invariant-loop-i : goal.invariant-loop-i
invariant-loop-i l = record {
  fits : (g : Gates) → AreLiterals g l.a → AreLiterals g l.all.items;
  long : length l.all.items ≡ l.i;
  value : (m : Assignment) → shown m l.all.items + shown m (take l.i l.a) + 1 ≡ 2 ^ l.i;
}
