-- The span of an evaluation: the cycles that it takes if no call waits for a unit.
use Rattle.std.specs.Prelude.{ℕ, ◌+◌, max, List}
use Rattle.safl_word.specs.Words.{Word}
use Rattle.safl_term.specs.Program.{Program}
use Rattle.safl_term.specs.Terms.{Term, Terms}
use Rattle.safl_term.specs.Meaning.{Gives, gives_const, gives_var, gives_op, gives_if, gives_let, gives_call, gives_loop, GivesAll, gives_nil, gives_cons, Main}

abbrev mutual
  -- How many cycles the term takes once its path is 1. Constants and variables are ready at once. Operands, bindings and arguments run
  -- side by side, and the body of a let and the branch of an if begin when what comes before them is ready. A call takes two cycles
  -- besides its arguments and the body of its function, and a loop one.
  pub span : (C : Program) {env : List Word} {t : Term} {v : Word} → Gives C env t v → ℕ
  span C gives_const = 0
  span C gives_var = 0
  span C (gives_op ds) = spans C ds
  span C (gives_if c d) = span C c + span C d
  span C (gives_let ds d) = spans C ds + span C d
  span C (gives_call ds d) = spans C ds + (2 + span C d)
  span C (gives_loop ds d) = spans C ds + (1 + span C d)

  -- the longest of the spans
  pub spans : (C : Program) {env : List Word} {ts : Terms} {vs : List Word} → GivesAll C env ts vs → ℕ
  spans C gives_nil = 0
  spans C (gives_cons d ds) = max (span C d) (spans C ds)

-- the span of main's evaluation: a call of main adds two cycles to its body
abbrev pub main_span : (C : Program) (args : List Word) {v : Word} → Main C args v → ℕ
main_span C args d = 2 + span C d
