use Rattle.std.proofs.Common.{◌≡◌, ℕ, ◌<◌, true, false, Some}
use Rattle.std.specs.Prelude.{slice_get}
use Rattle.safl_term.specs.Program.{unit_for}
use Rattle.safl_span.proofs.sharing.is_shared.Given as goal

-- none of the sites before
abbrev pub invariant-loop-k : goal.invariant-loop-k
invariant-loop-k l =
    (j : ℕ) → 0 < j → j < l.k → l.planned.choice.arbiter (unit_for l.planned.checked.program j) ≡ true → slice_get l.called (l.planned.checked.program.callee j) ≡ Some false
