use Rattle.safl_bits.proofs.Common.{Assignment, Grows, Holds, IsLiteral, not, on, shown, take, ◌*◌, ◌==◌, ◌≡◌}
use Rattle.safl_bits.proofs.words.equal.Given as goal

abbrev pub invariant-loop-i : goal.invariant-loop-i
invariant-loop-i l = record {
  built : Grows l.initial.g l.g (4 * l.i);
  fits : IsLiteral l.g l.apart;
  value : (m : Assignment) → Holds l.g m → on m l.apart ≡ not (shown m (take l.i l.a) == shown m (take l.i l.b));
}
