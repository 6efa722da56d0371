use Rattle.std.proofs.Common.{◌≡◌, ◌≢◌, ◌<◌, ℕ, List, Some, slice_get}
use Rattle.safl_opt.proofs.spare.is_shown.Given as goal

abbrev pub invariant-outputs : goal.invariant-outputs
invariant-outputs l = (k : ℕ) (o : List ℕ × ℕ) → k < l.i → slice_get l.n.outputs k ≡ Some o → o.1 ≢ l.s.0
