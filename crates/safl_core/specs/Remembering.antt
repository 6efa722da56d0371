-- What a machine remembers of the bodies that run.
use Rattle.std.specs.Prelude.{◌≡◌, ℕ, ◌<◌, ◌≤◌, List, Option, None, get_or}
use Rattle.safl_word.specs.Words.{Word}
use Rattle.safl_term.specs.Program.{Program}
use Rattle.safl_term.specs.Standing.{Stands}
use Rattle.safl_calls.specs.Machine as core
use Rattle.safl_evaluate.specs.declared.kept.Kept.{Kept}
use Rattle.safl_core.specs.declared.mode.Mode.{Mode}
use Rattle.safl_evaluate.specs.declared.places.Plan.{Plan}
use Rattle.safl_evaluate.specs.Keeping.{Holds, Stood}
use Rattle.safl_core.specs.Modes.{unit_at}
use Rattle.safl_evaluate.specs.Laying.{body_at}

-- A unit runs only functions of its own group. What is kept of the body that it runs is right for these returned words.
pub record Remembers (C : Program) (plan : Plan) (back : ℕ → Option Word) (modes : List Mode) (asks : List (Option (List Word))) (kept : List Kept)
    (u : ℕ) : Type 0 where
  pub member : (f k : ℕ) (ws : List Word) → unit_at modes u ≡ core.Runs f k ws → (C.unit f ≡ u) × (f < C.functions)
  pub holds : (f k : ℕ) (ws : List Word) → unit_at modes u ≡ core.Runs f k ws → Holds back ws asks kept (body_at plan f) (C.body f)

-- The body that a unit runs is evaluated for the first time, or what is kept of it was right before a site returned. No other
-- site of the unit is asked for.
pub record MayRenew (C : Program) (plan : Plan) (back : ℕ → Option Word) (news : Option ℕ) (modes : List Mode) (asks : List (Option (List Word)))
    (kept : List Kept) (u : ℕ) : Type 0 where
  pub stood : (f k : ℕ) (ws : List Word) → unit_at modes u ≡ core.Runs f k ws → Stood back news ws asks kept (body_at plan f) (C.body f)
  pub quiet : (j : ℕ) → 0 < j → j ≤ C.sites → C.unit (C.caller j) ≡ u
      → ((f k : ℕ) (ws : List Word) → unit_at modes u ≡ core.Runs f k ws → Stands j (C.body f) → ⊥) → get_or asks j None ≡ None
