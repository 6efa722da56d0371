use Rattle.std.proofs.Common.{◌≡◌, ℕ, ◌+◌, ◌-◌, ◌*◌, ◌/◌, ◌≤◌, List, length}
use Rattle.safl_sim.specs.Marks.{marked, holding}
use Rattle.safl_sim.specs.States.{placed}
use Rattle.safl_sim.specs.Writes.{KeepsOn}
use Rattle.safl_sim.proofs.phases.keep_word.Given as goal

abbrev pub invariant-registers : goal.invariant-registers
invariant-registers l = record {
  from : l.word * 64 ≤ l.place;
  state : length l.state ≡ length l.initial.state;
  wait : (k : ℕ) → (l.first * 64 + k) / 64 ≡ l.word → marked (holding l.marks l.word l.held) (l.first * 64 + k) ≡ 1 → marked l.waiting k ≡ 1;
  keeps : (start was : List ℕ) → KeepsOn (l.first * 64) l.registers l.values (l.word * 64) start was
      (placed (length l.values) l.registers l.initial.state) l.marks l.waiting → KeepsOn (l.first * 64) l.registers l.values l.place start was
      (placed (length l.values) l.registers l.state) (holding l.marks l.word l.held) l.waiting;
}

abbrev pub decreases-registers : goal.decreases-registers
decreases-registers l = (l.word + 1) * 64 - l.place
