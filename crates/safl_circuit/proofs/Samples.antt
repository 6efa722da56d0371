-- Programs and choices of the sample runs.
use Rattle.safl_circuit.proofs.Common.{Choice, Program, Word, no_word}
use Rattle.std.specs.Prelude.{ℕ, zero, suc, [], false}
use Rattle.safl_term.specs.Terms.{Const}

-- what the first function has, and a default for all others
abbrev pub first_or : {A : Type 0} → A → A → ℕ → A
first_or x d zero = x
first_or x d (suc f) = d

-- one function, no sites, and the constant's width as that of the result
abbrev pub constant_program : Word → Program
constant_program w = record {
  functions = 1;
  sites = 0;
  main = 0;
  unit = λ f. 0;
  body = first_or (Const w) (Const no_word);
  params = λ f. [];
  result = first_or w.width 0;
  caller = λ k. 0;
  callee = λ k. 0;
}

-- no unit has an arbiter, and no site keeps its word
abbrev pub no_choice : Choice
no_choice = record { arbiter = λ u. false; kept = λ k. false }
