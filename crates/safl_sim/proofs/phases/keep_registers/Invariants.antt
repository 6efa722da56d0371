use Rattle.std.proofs.Common.{◌≡◌, ℕ, ◌-◌, ◌*◌, ◌≤◌, List, length}
use Rattle.safl_sim.specs.States.{placed}
use Rattle.safl_sim.specs.Writes.{KeepsOn}
use Rattle.safl_sim.proofs.phases.keep_registers.Given as goal

abbrev pub invariant-words : goal.invariant-words
invariant-words l = record {
  least : l.first ≤ l.w;
  most : l.w ≤ l.end;
  state : length l.state ≡ length l.initial.state;
  marks : length l.marks ≡ length l.initial.marks;
  waiting : length l.waiting ≡ length l.initial.waiting;
  keeps : (start was : List ℕ) → KeepsOn (l.first * 64) l.registers l.values (l.first * 64) start was
      (placed (length l.values) l.registers l.initial.state) l.initial.marks l.initial.waiting → KeepsOn (l.first * 64) l.registers l.values
      (l.w * 64) start was (placed (length l.values) l.registers l.state) l.marks l.waiting;
}

abbrev pub decreases-words : goal.decreases-words
decreases-words l = l.end - l.w
