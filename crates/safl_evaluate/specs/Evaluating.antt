-- What partial evaluation finds and keeps.
use Rattle.std.specs.Prelude.{◌≡◌, ℕ, ◌≤◌, List, length, Option, Some, None, Bool, get_or}
use Rattle.safl_word.specs.Words.{Word, widths}
use Rattle.safl_term.specs.Program.{Program, arity}
use Rattle.safl_term.specs.Readiness.{or_else}
use Rattle.safl_term.specs.Standing.{Stands, StandsIn}
use Rattle.safl_term.specs.Terms.{Term, Terms}
use Rattle.safl_term.specs.WellFormed.{Spans, SpansAll, HasWidth, HaveWidths}
use Rattle.safl_evaluate.specs.declared.stage.Stage.{Stage}
use Rattle.safl_evaluate.specs.Stages.{back_at}

-- A part of a body of a well-formed program: its sites are those of the program, its slots hold these words, and each
-- returned word has the width of the called function.
pub record CanRun (sites : List Stage) (places : ℕ) (env : List Word) (t : Term) : Type 0 where
  pub program : Program
  pub caller : ℕ
  pub tail : Bool
  pub low : ℕ
  pub high : ℕ
  pub width : ℕ
  pub spans : Spans program caller tail low high t
  pub fits : HasWidth program (widths env) t width
  pub first : 1 ≤ low
  pub within : high ≤ places
  pub all_sites : places ≤ length sites
  pub few : (f : ℕ) → arity program f ≤ 16
  pub back : (k : ℕ) (v : Word) → back_at sites k ≡ Some v → v.width ≡ program.result (program.callee k)

pub record CanRunAll (sites : List Stage) (places : ℕ) (env : List Word) (ts : Terms) : Type 0 where
  pub program : Program
  pub caller : ℕ
  pub low : ℕ
  pub high : ℕ
  pub ws : List ℕ
  pub spans : SpansAll program caller low high ts
  pub fits : HaveWidths program (widths env) ts ws
  pub first : 1 ≤ low
  pub within : high ≤ places
  pub all_sites : places ≤ length sites
  pub few : (f : ℕ) → arity program f ≤ 16
  pub back : (k : ℕ) (v : Word) → back_at sites k ≡ Some v → v.width ≡ program.result (program.callee k)

-- no site of the term is asked for
pub record Unasked (asks : List (Option (List Word))) (t : Term) : Type 0 where
  pub none : (k : ℕ) → Stands k t → get_or asks k None ≡ None

pub record UnaskedIn (asks : List (Option (List Word))) (ts : Terms) : Type 0 where
  pub none : (k : ℕ) → StandsIn k ts → get_or asks k None ≡ None

-- the wants after an evaluation: those before it, and these besides
pub record Notes (before after : List (Option (List Word))) (wants : ℕ → Option (List Word)) : Type 0 where
  pub each : (k : ℕ) → get_or after k None ≡ or_else (get_or before k None) (wants k)
