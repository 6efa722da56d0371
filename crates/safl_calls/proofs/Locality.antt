-- Partial evaluation reads the words of the sites that stand in a term, and no others.
use Rattle.safl_calls.proofs.Common.{Call, Cons, Const, If, Let, Loop, Nil, Op, Term, Terms, Var, Word, fun_ext}
use Rattle.std.proofs.Common.{◌≡◌, ℕ, List, ◌++◌, Option, None, cond, ◌==◌, refl, ap, ◌∙◌, inl, inr}
use Rattle.safl_term.specs.Readiness.{NotYet, apply_to, loop_to, both, select, with_all, or_else, ready_from, answer, answers, wanted, wanted_in}
use Rattle.safl_term.specs.Standing.{Stands, StandsIn}

mutual
  unfolding answer Stands

  pub answer_local : (b c : ℕ → Option Word) (env : List Word) (t : Term) → ((k : ℕ) → Stands k t → b k ≡ c k) → answer b env t ≡ answer c env t
  answer_local b c env (Const n) h = refl
  answer_local b c env (Var i) h = refl
  answer_local b c env (Op p ts) h = ap (apply_to p) (all_local b c env ts h)
  answer_local b c env (If d x y) h =
      ap (λ a. select a NotYet (answer b env x) (answer b env y)) (answer_local b c env d (λ k s. h k (inl s)))
      ∙ ap (λ a. select (answer c env d) NotYet a (answer b env y)) (answer_local b c env x (λ k s. h k (inr (inl s))))
      ∙ ap (λ a. select (answer c env d) NotYet (answer c env x) a) (answer_local b c env y (λ k s. h k (inr (inr s))))
  answer_local b c env (Let bs x) h =
      ap (λ o. with_all o NotYet (λ vs. answer b (env ++ vs) x)) (all_local b c env bs (λ k s. h k (inl s)))
      ∙ ap (λ g. with_all (answers c env bs) NotYet g) (fun_ext (λ vs. answer_local b c (env ++ vs) x (λ k s. h k (inr s))))
  answer_local b c env (Call f j ts) h = ap ready_from (h j (inl refl))
  answer_local b c env (Loop m ts) h = ap (loop_to m) (all_local b c env ts h)

  pub all_local : (b c : ℕ → Option Word) (env : List Word) (ts : Terms) → ((k : ℕ) → StandsIn k ts → b k ≡ c k) → answers b env ts ≡ answers c env ts
  all_local b c env Nil h = refl
  all_local b c env (Cons t ts) h =
      ap (λ a. both a (answers b env ts)) (answer_local b c env t (λ k s. h k (inl s)))
      ∙ ap (both (answer c env t)) (all_local b c env ts (λ k s. h k (inr s)))

mutual
  unfolding answer wanted Stands

  pub wanted_local : (b c : ℕ → Option Word) (env : List Word) (t : Term) (k : ℕ) → ((j : ℕ) → Stands j t → b j ≡ c j) → wanted b env t k ≡ wanted c env t k
  wanted_local b c env (Const n) k h = refl
  wanted_local b c env (Var i) k h = refl
  wanted_local b c env (Op p ts) k h = wanted_in_local b c env ts k h
  wanted_local b c env (If d x y) k h =
      ap (λ o. or_else o (select (answer b env d) None (wanted b env x k) (wanted b env y k))) (wanted_local b c env d k (λ j s. h j (inl s)))
      ∙ ap (λ a. or_else (wanted c env d k) (select a None (wanted b env x k) (wanted b env y k))) (answer_local b c env d (λ j s. h j (inl s)))
      ∙ ap (λ o. or_else (wanted c env d k) (select (answer c env d) None o (wanted b env y k))) (wanted_local b c env x k (λ j s. h j (inr (inl s))))
      ∙ ap (λ o. or_else (wanted c env d k) (select (answer c env d) None (wanted c env x k) o)) (wanted_local b c env y k (λ j s. h j (inr (inr s))))
  wanted_local b c env (Let bs x) k h =
      ap (λ o. or_else o (with_all (answers b env bs) None (λ vs. wanted b (env ++ vs) x k))) (wanted_in_local b c env bs k (λ j s. h j (inl s)))
      ∙ ap (λ o. or_else (wanted_in c env bs k) (with_all o None (λ vs. wanted b (env ++ vs) x k))) (all_local b c env bs (λ j s. h j (inl s)))
      ∙ ap (λ g. or_else (wanted_in c env bs k) (with_all (answers c env bs) None g)) (fun_ext (λ vs. wanted_local b c (env ++ vs) x k (λ j s. h j (inr s))))
  wanted_local b c env (Call f j ts) k h =
      ap (λ o. cond (j == k) o (wanted_in b env ts k)) (all_local b c env ts (λ i s. h i (inr s)))
      ∙ ap (λ o. cond (j == k) (answers c env ts) o) (wanted_in_local b c env ts k (λ i s. h i (inr s)))
  wanted_local b c env (Loop m ts) k h = wanted_in_local b c env ts k h

  pub wanted_in_local : (b c : ℕ → Option Word) (env : List Word) (ts : Terms) (k : ℕ) → ((j : ℕ) → StandsIn j ts → b j ≡ c j) → wanted_in b env ts k ≡ wanted_in c env ts k
  wanted_in_local b c env Nil k h = refl
  wanted_in_local b c env (Cons t ts) k h =
      ap (λ o. or_else o (wanted_in b env ts k)) (wanted_local b c env t k (λ j s. h j (inl s)))
      ∙ ap (or_else (wanted c env t k)) (wanted_in_local b c env ts k (λ j s. h j (inr s)))
