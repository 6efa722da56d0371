use Rattle.std.proofs.Common.{◌≡◌, ℕ, ◌<◌}
use Rattle.safl_net.specs.Valuations.{reset_state}
use Rattle.safl_aig.proofs.weights.first_nonzero.Given as goal

abbrev pub invariant-signals : goal.invariant-signals
invariant-signals l = (t : ℕ) → t < l.i → reset_state l.net t ≡ 0
