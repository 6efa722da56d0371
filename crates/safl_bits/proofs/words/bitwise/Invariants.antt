use Rattle.safl_bits.proofs.Common.{AreLiterals, Assignment, Grows, Holds, gate_number, length, shown, take, ◌*◌, ◌≡◌}
use Rattle.safl_bits.proofs.words.bitwise.Given as goal

abbrev pub invariant-loop-i : goal.invariant-loop-i
invariant-loop-i l = record {
  built : Grows l.initial.g l.g (3 * l.i);
  fits : AreLiterals l.g l.all.items;
  long : length l.all.items ≡ l.i;
  value : (m : Assignment) → Holds l.g m → shown m l.all.items ≡ gate_number l.kind (shown m (take l.i l.a)) (shown m (take l.i l.b));
}
