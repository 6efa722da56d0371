use Rattle.std.proofs.Common.{◌≡◌, ℕ, ◌<◌, ◌≤◌, Some, slice_get}
use Rattle.safl_net.specs.declared.cell.Sig.{Sig}
use Rattle.safl_net.specs.Netlist.{width_of}
use Rattle.safl_sim.proofs.step.is_narrow.Given as goal

abbrev pub invariant-signals : goal.invariant-signals
invariant-signals l = (j : ℕ) (t : Sig) → j < l.i → slice_get l.operands j ≡ Some t → width_of l.net t.0 ≤ 64
