use Rattle.safl_bits.proofs.Common.{AreLiterals, Assignment, Grows, Holds, length, moved, shown, take, ◌*◌, ◌^◌, ◌≡◌}
use Rattle.safl_bits.proofs.words.shift.Given as goal

abbrev pub invariant-loop-i : goal.invariant-loop-i
invariant-loop-i l = record {
  built : Grows l.initial.g l.g (l.i * (3 * length l.a));
  fits : AreLiterals l.g l.all.items;
  long : length l.all.items ≡ length l.a;
  value : (m : Assignment) → Holds l.g m → shown m l.all.items ≡ moved l.side (2 ^ length l.a) (shown m l.a) (2 ^ shown m (take l.i l.amount));
}
