use Rattle.safl_bits.proofs.Common.{AreLiterals, Assignment, Grows, Holds, length, shown, take, ◌%◌, ◌*◌, ◌^◌, ◌≡◌}
use Rattle.safl_bits.proofs.words.multiply.Given as goal

abbrev pub invariant-loop-i : goal.invariant-loop-i
invariant-loop-i l = record {
  built : Grows l.initial.g l.g (l.i * (10 * length l.a));
  fits : AreLiterals l.g l.total.items;
  long : length l.total.items ≡ length l.a;
  value : (m : Assignment) → Holds l.g m → shown m l.total.items ≡ (shown m l.a * shown m (take l.i l.b)) % 2 ^ length l.a;
}
