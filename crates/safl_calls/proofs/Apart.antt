-- Values that are apart.
use Rattle.std.proofs.Common.{List, arith, ℕ, ◌≡◌}
use Rattle.safl_word.specs.Words.{Word}
use Rattle.safl_calls.specs.Machine.{Delivers, Idle, Runs}

pub runs_idle : (f k : ℕ) (ws : List Word) → Runs f k ws ≡ Idle → ⊥
runs_idle f k ws e = grind arith

pub runs_delivers : {A : Type 0} (f k j : ℕ) (v : Word) (ws : List Word) → Runs f k ws ≡ Delivers j v → A
runs_delivers f k j v ws e = absurd (grind arith)

pub delivers_runs : {A : Type 0} (f k j : ℕ) (v : Word) (ws : List Word) → Delivers j v ≡ Runs f k ws → A
delivers_runs f k j v ws e = absurd (grind arith)

pub idle_runs : {A : Type 0} (f k : ℕ) (ws : List Word) → Idle ≡ Runs f k ws → A
idle_runs f k ws e = absurd (grind arith)

pub idle_delivers : {A : Type 0} (j : ℕ) (v : Word) → Idle ≡ Delivers j v → A
idle_delivers j v e = absurd (grind arith)
