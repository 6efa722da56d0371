use Rattle.safl_core.proofs.Common.{IsSpan, Program}
use Rattle.std.proofs.Common.{◌≡◌, ℕ, ◌<◌, ◌≤◌, ◌==◌, None, cond, get_or}
use Rattle.safl_core.proofs.refresh.clear.Given as goal

abbrev pub invariant-loop-k : goal.invariant-loop-k
invariant-loop-k l = record {
  below : (C : Program) (u : ℕ) → IsSpan C u l.fn.own → (j : ℕ) → 0 < j → j < l.k → get_or l.asks j None ≡ cond (C.unit (C.caller j) == u) None (get_or l.initial.asks j None);
  above : (j : ℕ) → l.k ≤ j → get_or l.asks j None ≡ get_or l.initial.asks j None;
}
