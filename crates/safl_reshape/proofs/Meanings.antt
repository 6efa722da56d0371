-- Programs whose functions are kept: what main gives.
use Rattle.safl_reshape.proofs.Common.{Const, Form, FunctionForm, OneEvaluation, Program, Slot, arity, slice_get}
use Rattle.std.proofs.Common.{◌≡◌, ℕ, zero, suc, ◌+◌, List, [], ◌∷◌, length, map, Some, None, Bool, refl, sym, ap, ◌∙◌, subst, arith}
use Rattle.safl_word.specs.Words.{Word, no_word}
use Rattle.safl_term.specs.Meaning.{Main, main_cost}
use Rattle.safl_term.specs.WellFormed.{AreWordsOf}
use Rattle.safl_term.proofs.PlainTerms.{words_count}
use Rattle.safl_check.specs.Numbered.{form_function, program_in}
use Rattle.safl_reshape.specs.Executions.{executions}
use Rattle.safl_reshape.proofs.Alike.{Alike, alike_const}
use Rattle.safl_reshape.proofs.Runs.{runs, ran}
use Rattle.safl_reshape.proofs.Functions.{IsKept, AllKept}

-- each body of C is like that of the same function of B
abbrev pub AreBodiesAlike : Program → Program → (ℕ → ℕ → Type 0) → (ℕ → Bool) → Type 0
AreBodiesAlike C B same at = (f g : ℕ) → same f g → Alike C same at 0 (arity C f) (C.body f) (B.body g)

module _ (C B : Program) (same : ℕ → ℕ → Type 0) (at : ℕ → Bool) (bodies : AreBodiesAlike C B same at) (mains : same (C.callee 0) (B.callee 0)) (outer : C.callee 0 ≡ C.main) where
  enough : (args : List Word) → AreWordsOf args (C.params C.main) → length args ≡ arity C (C.callee 0)
  enough args a = words_count args (C.params C.main) a ∙ ap (λ (f : ℕ). arity C f) (sym outer)

  pub main_runs : (args : List Word) (v : Word) (d : Main C args v) → AreWordsOf args (C.params C.main) → (e : Main B args v) × (main_cost B args e + executions C at d ≡ main_cost C args d)
  main_runs args v d a =
      let r = runs C B same at bodies 0 (arity C (C.callee 0)) [] args d (bodies (C.callee 0) (B.callee 0) mains) refl refl (enough args a) in
      (r.0, omega (arith, r.1))

  -- all evaluations of one program on the same arguments cost the same
  pub main_ran : OneEvaluation B → (args : List Word) (v : Word) (e : Main B args v) → AreWordsOf args (C.params C.main) → (d : Main C args v) ×
      (main_cost B args e + executions C at d ≡ main_cost C args d)
  main_ran one args v e a =
      let d = ran C B same at bodies 0 (arity C (C.callee 0)) [] args e (bodies (C.callee 0) (B.callee 0) mains) refl refl (enough args a) in
      let r = main_runs args v d a in
      let q = one args v v e r.0 in
      (d, omega (arith, r.1, q.1))

-- ---- functions of two forms

-- both are there, and alike, or none is
pub data BothAt (C : Program) (same : ℕ → ℕ → Type 0) (at : ℕ → Bool) (fs gs : List FunctionForm) (i j : ℕ) : Type 0 where
  both_there : (f g : FunctionForm) → slice_get fs i ≡ Some f → slice_get gs j ≡ Some g → IsKept C same at f g → BothAt C same at fs gs i j
  both_past : slice_get fs i ≡ None → slice_get gs j ≡ None → BothAt C same at fs gs i j

pub both_at : (C : Program) (same : ℕ → ℕ → Type 0) (at : ℕ → Bool) (fs gs : List FunctionForm) (i : ℕ) → AllKept C same at fs gs → BothAt C same at fs gs i i
both_at C same at [] [] i h = both_past refl refl
both_at C same at [] (g ∷ gs) i h = absurd h
both_at C same at (f ∷ fs) [] i h = absurd h
both_at C same at (f ∷ fs) (g ∷ gs) zero h = both_there f g refl refl h.0
both_at C same at (f ∷ fs) (g ∷ gs) (suc i) h = more (both_at C same at fs gs i h.1)
  where
    more : BothAt C same at fs gs i i → BothAt C same at (f ∷ fs) (g ∷ gs) (suc i) (suc i)
    more (both_there x y p q k) = both_there x y p q k
    more (both_past p q) = both_past p q

pub kept_length : (C : Program) (same : ℕ → ℕ → Type 0) (at : ℕ → Bool) (fs gs : List FunctionForm) → AllKept C same at fs gs → length gs ≡ length fs
kept_length C same at [] [] h = refl
kept_length C same at [] (g ∷ gs) h = absurd h
kept_length C same at (f ∷ fs) [] h = absurd h
kept_length C same at (f ∷ fs) (g ∷ gs) h = ap (λ (n : ℕ). suc n) (kept_length C same at fs gs h.1)

slots_length : (ps : List Slot) → length (map (λ (p : Slot). p.width) ps) ≡ length ps
slots_length [] = refl
slots_length (p ∷ ps) = ap (λ (n : ℕ). suc n) (slots_length ps)

-- the bodies and parameters of functions that are both there
module _ (c e : Form) (same : ℕ → ℕ → Type 0) (at : ℕ → Bool) where
  pub alike_at : (i j : ℕ) → BothAt (program_in c) same at c.functions e.functions i j → Alike (program_in c) same at 0 (arity (program_in c) i) ((program_in c).body i) ((program_in e).body j)
  unfolding program_in
  alike_at i j (both_there f g p q k) =
      let n : arity (program_in c) i ≡ length f.params = rw p (slots_length f.params) in
      subst (λ (x : ℕ). Alike (program_in c) same at 0 x (form_function (λ (y : FunctionForm). y.body) (Const no_word) c i) (form_function (λ (y : FunctionForm). y.body) (Const no_word) e j)) (sym n)
      (rw (p, q) k.body)
  alike_at i j (both_past p q) =
      rw (p, q) alike_const

  pub params_at : (i j : ℕ) → BothAt (program_in c) same at c.functions e.functions i j → (program_in e).params j ≡ (program_in c).params i
  unfolding program_in
  params_at i j (both_there f g p q k) = rw (p, q) (ap (λ (l : List Slot). map (λ (x : Slot). x.width) l) k.params)
  params_at i j (both_past p q) = rw (p, q) refl
