use Rattle.std.proofs.Common.{◌≡◌, ℕ, ◌<◌, ◌^◌, List, length, Some, slice_get}
use Rattle.safl_word.specs.Words.{Word}
use Rattle.safl_net.specs.declared.cell.Sig.{Sig}
use Rattle.safl_net.specs.Netlist.{Netlist, Signal}
use Rattle.safl_sim.specs.declared.step.Register.{Register}
use Rattle.safl_sim.specs.Steps.{Goes}
use Rattle.safl_sim.specs.Writes.{HasPut}
use Rattle.safl_sim.proofs.phases.put_words.Given as goal

abbrev pub invariant-words : goal.invariant-words
invariant-words l = record {
  put : HasPut l.plan.inputs.items l.words l.i l.initial.values l.values;
  long : length l.marks ≡ length l.initial.marks;
  goes : (n : Netlist) (ws : List ℕ) (regs : List Register) (held : List ℕ) → ((k : ℕ) (s : Sig) → slice_get l.plan.inputs.items k ≡ Some s → (i : ℕ) → ¬ (slice_get ws i ≡ Some s.0))
      → ((k : ℕ) (s : Sig) (w : Word) (g : Signal) → slice_get l.plan.inputs.items k ≡ Some s → slice_get l.words k ≡ Some w → slice_get n.signals s.0
      ≡ Some g → w.bits < 2 ^ g.width) → Goes n ws l.plan.steps.items regs held l.plan.starts.items l.plan.readers.items l.initial.values l.values
      l.initial.marks l.marks;
}
