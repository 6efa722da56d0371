use Rattle.safl_bits.proofs.Common.{AreLiterals, Assignment, Grows, Holds, IsLiteral, bit_of, length, on, shown, take, ◌*◌, ◌+◌, ◌^◌, ◌≡◌}
use Rattle.safl_bits.proofs.words.add.Given as goal

abbrev pub invariant-loop-i : goal.invariant-loop-i
invariant-loop-i l = record {
  built : Grows l.initial.g l.g (9 * l.i);
  bits : AreLiterals l.g l.bits.items;
  carry : IsLiteral l.g l.carry;
  long : length l.bits.items ≡ l.i;
  value : (m : Assignment) → Holds l.g m → shown m l.bits.items + 2 ^ l.i * bit_of (on m l.carry) ≡ shown m (take l.i l.a) + shown m (take l.i l.b) + bit_of (on m l.fn.first);
}
