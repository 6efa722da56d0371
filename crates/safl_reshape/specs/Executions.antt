-- How often an evaluation makes the call of a site.
use Rattle.std.specs.Prelude.{ℕ, ◌+◌, List, Bool, ◌==◌, cond}
use Rattle.safl_word.specs.Words.{Word}
use Rattle.safl_term.specs.Terms.{Term, Terms}
use Rattle.safl_term.specs.Program.{Program}
use Rattle.safl_term.specs.Meaning.{Gives, GivesAll, tally, tallies, Main}

-- how often the evaluation of main on these arguments makes the call of site k
abbrev pub main_executions : (C : Program) (args : List Word) {v : Word} → Main C args v → ℕ → ℕ
main_executions C args d k = tally ℕ 0 (λ m n. m + n) (λ j f us n. cond (j == k) 1 0 + n) (λ f us n. n) C d

-- ---- parts by name

abbrev pub one_if : Bool → ℕ
one_if b = cond b 1 0

abbrev pub executions : (C : Program) (at : ℕ → Bool) {env : List Word} {t : Term} {v : Word} → Gives C env t v → ℕ
executions C at d = tally ℕ 0 (λ m n. m + n) (λ k f us n. one_if (at k) + n) (λ f us n. n) C d

-- the same of the evaluations of terms
abbrev pub executions_all : (C : Program) (at : ℕ → Bool) {env : List Word} {ts : Terms} {vs : List Word} → GivesAll C env ts vs → ℕ
executions_all C at ds = tallies ℕ 0 (λ m n. m + n) (λ k f us n. one_if (at k) + n) (λ f us n. n) C ds
