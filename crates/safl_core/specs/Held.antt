-- What holds of a machine between two events.
use Rattle.std.specs.Prelude.{ℕ, List, length}
use Rattle.safl_word.specs.Words.{Word}
use Rattle.safl_term.specs.Checked.{CheckedProgram}
use Rattle.safl_core.specs.declared.enabled.Enabled.{Enabled}
use Rattle.safl_evaluate.specs.declared.places.Plan.{Plan}
use Rattle.safl_core.specs.declared.state.State.{State}
use Rattle.safl_core.specs.Marking.{AreMarked}
use Rattle.safl_evaluate.specs.Laying.{IsPlan}
use Rattle.safl_core.specs.States.{IsStateAfter, Recalls, calls_of}

-- The state is one that a machine has after this many events, and the sets are those of its enabled events and busy units. The
-- bodies lie as planned, and what is kept of those that run is right.
pub record IsHeld (c : CheckedProgram) (args : List Word) (events : ℕ) (s : State) (e : Enabled) (plan : Plan) : Type 0 where
  pub kept : IsStateAfter c args events s
  pub marked : AreMarked c.program args (calls_of s) e
  pub planned : IsPlan c.program plan (length s.kept.items)
  pub recalls : (u : ℕ) → Recalls c.program plan s u
