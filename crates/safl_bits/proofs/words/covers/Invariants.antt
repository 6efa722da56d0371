use Rattle.safl_bits.proofs.Common.{Assignment, Grows, Holds, IsLiteral, nat_le, on, shown, take, ◌*◌, ◌≡◌}
use Rattle.safl_bits.proofs.words.covers.Given as goal

abbrev pub invariant-loop-i : goal.invariant-loop-i
invariant-loop-i l = record {
  built : Grows l.initial.g l.g (4 * l.i);
  fits : IsLiteral l.g l.holds;
  value : (m : Assignment) → Holds l.g m → on m l.holds ≡ nat_le (shown m (take l.i l.b)) (shown m (take l.i l.a));
}
