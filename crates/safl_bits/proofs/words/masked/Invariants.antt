use Rattle.safl_bits.proofs.Common.{AreLiterals, Assignment, Grows, Holds, cond, length, on, shown, take, ◌≡◌}
use Rattle.safl_bits.proofs.words.masked.Given as goal

abbrev pub invariant-loop-i : goal.invariant-loop-i
invariant-loop-i l = record {
  built : Grows l.initial.g l.g l.i;
  fits : AreLiterals l.g l.all.items;
  long : length l.all.items ≡ l.i;
  value : (m : Assignment) → Holds l.g m → shown m l.all.items ≡ cond (on m l.c) (shown m (take l.i l.a)) 0;
}
