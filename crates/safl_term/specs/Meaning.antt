-- The meaning of programs, as derivations: words and calls, without units and without time.
use Rattle.std.specs.Prelude.{ℕ, suc, ◌+◌, List, [], ◌∷◌, ◌++◌, if◌then◌else◌, ◌==◌}
use Rattle.safl_term.specs.Program.{Program}
use Rattle.safl_term.specs.Terms.{Term, Const, Var, If, Let, Op, Call, Loop, Terms, Nil, Cons}
use Rattle.safl_word.specs.declared.primitive.Primitive.{Primitive}
use Rattle.safl_word.specs.Primitives.{apply_prim}
use Rattle.safl_word.specs.Words.{choose, Word, slot}

mutual
  -- If the slots hold the words of env, the term evaluates to the word: a constant to its word; a variable to that of its slot;
  -- an operator to the result of its primitive; an if to what the selected branch gives; a let to what its body gives with the
  -- words of the bindings after env; a call or loop to what the body of the function gives.
  pub data Gives (C : Program) : List Word → Term → Word → Type 0 where
    gives_const : {env : List Word} {w : Word} → Gives C env (Const w) w
    gives_var : {env : List Word} {i : ℕ} → Gives C env (Var i) (slot env i)
    gives_op : {env : List Word} {o : Primitive} {ts : Terms} {vs : List Word} → GivesAll C env ts vs → Gives C env (Op o ts) (apply_prim o vs)
    gives_if : {env : List Word} {c a b : Term} {u v : Word} → Gives C env c u → Gives C env (choose u a b) v → Gives C env (If c a b) v
    gives_let : {env : List Word} {ts : Terms} {b : Term} {us : List Word} {v : Word} → GivesAll C env ts us → Gives C (env ++ us) b v → Gives C env (Let ts b) v
    gives_call : {env : List Word} {f k : ℕ} {ts : Terms} {us : List Word} {v : Word} → GivesAll C env ts us → Gives C us (C.body f) v → Gives C env (Call f k ts) v
    gives_loop : {env : List Word} {h : ℕ} {ts : Terms} {us : List Word} {v : Word} → GivesAll C env ts us → Gives C us (C.body h) v → Gives C env (Loop h ts) v

  -- each of the terms evaluates to its word
  pub data GivesAll (C : Program) : List Word → Terms → List Word → Type 0 where
    gives_nil : {env : List Word} → GivesAll C env Nil []
    gives_cons : {env : List Word} {t : Term} {ts : Terms} {v : Word} {vs : List Word} → Gives C env t v → GivesAll C env ts vs → GivesAll C env (Cons t ts) (v ∷ vs)

-- What an evaluation comes to: constants and variables come to `none`, and what parts come to is joined by `both`. A call adds to
-- what the body of its function comes to, by its site, its function and its arguments; a loop does so by its function and
-- arguments.
module _ (A : Type 0) (none : A) (both : A → A → A) (call : ℕ → ℕ → List Word → A → A) (loop : ℕ → List Word → A → A) where
  abbrev mutual
    pub tally : (C : Program) {env : List Word} {t : Term} {v : Word} → Gives C env t v → A
    tally C gives_const = none
    tally C gives_var = none
    tally C (gives_op ds) = tallies C ds
    tally C (gives_if c d) = both (tally C c) (tally C d)
    tally C (gives_let ds d) = both (tallies C ds) (tally C d)
    tally C (gives_call {f = f} {k = k} {us = us} ds d) = both (tallies C ds) (call k f us (tally C d))
    tally C (gives_loop {h = h} {us = us} ds d) = both (tallies C ds) (loop h us (tally C d))

    pub tallies : (C : Program) {env : List Word} {ts : Terms} {vs : List Word} → GivesAll C env ts vs → A
    tallies C gives_nil = none
    tallies C (gives_cons d ds) = both (tally C d) (tallies C ds)

-- how many applications of functions an evaluation makes: one for each call and each loop
abbrev pub cost : (C : Program) {env : List Word} {t : Term} {v : Word} → Gives C env t v → ℕ
cost C d = tally ℕ 0 (λ m n. m + n) (λ k f us n. suc n) (λ f us n. suc n) C d

-- how many of the applications of an evaluation are made by a loop
abbrev pub loops : (C : Program) {env : List Word} {t : Term} {v : Word} → Gives C env t v → ℕ
loops C d = tally ℕ 0 (λ m n. m + n) (λ k f us n. n) (λ f us n. suc n) C d

-- the argument list of an application of g, if g is f
abbrev pub at_function : ℕ → ℕ → List Word → List (List Word)
at_function f g us = if g == f then us ∷ [] else []

-- the argument lists of all applications of f in an evaluation
abbrev pub calls_to : (C : Program) (f : ℕ) {env : List Word} {t : Term} {v : Word} → Gives C env t v → List (List Word)
calls_to C f d = tally (List (List Word)) [] (λ xs ys. xs ++ ys) (λ k g us xs. at_function f g us ++ xs) (λ g us xs. at_function f g us ++ xs) C d

-- the same of the evaluations of terms
abbrev pub costs : (C : Program) {env : List Word} {ts : Terms} {vs : List Word} → GivesAll C env ts vs → ℕ
costs C ds = tallies ℕ 0 (λ m n. m + n) (λ k f us n. suc n) (λ f us n. suc n) C ds

abbrev pub loops_all : (C : Program) {env : List Word} {ts : Terms} {vs : List Word} → GivesAll C env ts vs → ℕ
loops_all C ds = tallies ℕ 0 (λ m n. m + n) (λ k f us n. n) (λ f us n. suc n) C ds

abbrev pub calls_all : (C : Program) (f : ℕ) {env : List Word} {ts : Terms} {vs : List Word} → GivesAll C env ts vs → List (List Word)
calls_all C f ds = tallies (List (List Word)) [] (λ xs ys. xs ++ ys) (λ k g us xs. at_function f g us ++ xs) (λ g us xs. at_function f g us ++ xs) C ds

-- main on args evaluates to v, in n applications
abbrev pub Main : Program → List Word → Word → Type 0
Main C args v = Gives C args (C.body (C.callee 0)) v

abbrev pub main_cost : (C : Program) (args : List Word) {v : Word} → Main C args v → ℕ
main_cost C args d = suc (cost C d)

abbrev pub main_calls : (C : Program) (args : List Word) {v : Word} → Main C args v → ℕ → List (List Word)
main_calls C args d f = at_function f (C.callee 0) args ++ calls_to C f d
