-- When done comes exactly in the cycle of the span.
use Rattle.std.proofs.Common.{◌≡◌, ℕ, zero, suc, ◌+◌, ◌*◌, ◌-◌, ◌<◌, ◌≤◌, List, [], ◌∷◌, length, get_or, Option, Some, None, Bool, true, false, ◌⊎◌, inl, inr, ⊎_elim, refl, sym, ap, ◌∙◌, subst, arith}
use Rattle.std.specs.Prelude.{slice_get, not}
use Rattle.safl_word.specs.Words.{Word}
use Rattle.safl_term.specs.Program.{Program, unit_for}
use Rattle.safl_term.specs.Meaning.{Main, main_cost, loops}
use Rattle.safl_calls.proofs.Fixed.{is_short}
use Rattle.safl_calls.specs.Span.{main_span}
use Rattle.safl_sites.specs.Plan.{Choice}
use Rattle.safl_circuit.specs.Correct.{Unshared, latest}
use Rattle.safl_interpreter.specs.Measured.{AreCalled, IsMeasured, IsTimed, TakesMore}
use Rattle.safl_interpreter.specs.declared.evaluation.Timing.{Timing}
use Rattle.safl_span.specs.declared.figures.Figures.{Figures}
use Rattle.safl_span.specs.Figures.{AreFigures, IsExact}
use Rattle.safl_span.specs.Sharing.{AreUnshared, IsShared}

module _ (C : Program) (P : Choice) (args : List Word) {v : Word} (d : Main C args v) (called : List Bool) (are : AreCalled C args d called) where
  pub unshared : AreUnshared C P called → Unshared C P args d
  unshared h k some within arbiter = are.is_not (C.callee k) (h k some within arbiter)

  pub shared : IsShared C P called → Unshared C P args d → ⊥
  shared s h = are.is_called (C.callee s.site) s.is_called (h s.site s.some s.within s.arbiter)

-- a list's element by another reading
pub read_at : (l : List Bool) (i : ℕ) (d b : Bool) → i < length l → get_or l i d ≡ b → slice_get l i ≡ Some b
read_at [] i d b lt e = absurd (omega arith)
read_at (x ∷ l) zero d b lt e = ap Some e
read_at (x ∷ l) (suc i) d b lt e = read_at l i d b (omega arith) e

lower : (j k : ℕ) → j < k + 1 → (j < k) ⊎ (j ≡ k)
lower j zero lt = inr (omega arith)
lower zero (suc k) lt = inl (omega arith)
lower (suc j) (suc k) lt = ⊎_elim (λ l. inl (omega arith)) (λ e. inr (ap suc e)) (lower j k (omega arith))

-- one more site
pub site_more : (C : Program) (P : Choice) (called : List Bool) (k : ℕ) → ((j : ℕ) → 0 < j → j < k → P.arbiter (unit_for C j) ≡ true → slice_get called (C.callee j) ≡ Some false)
    → (P.arbiter (unit_for C k) ≡ true → slice_get called (C.callee k) ≡ Some false)
    → (j : ℕ) → 0 < j → j < k + 1 → P.arbiter (unit_for C j) ≡ true → slice_get called (C.callee j) ≡ Some false
site_more C P called k before here =
    λ j some lt. ⊎_elim (λ l. before j some l) (λ e. subst (λ i. P.arbiter (unit_for C i) ≡ true → slice_get called (C.callee i) ≡ Some false) (sym e) here) (lower j k lt)

pub never : {A : Type 0} → false ≡ true → A
never e = absurd (cc)

pub at_callee : (C : Program) (called : List Bool) (f k : ℕ) (b : Bool) → f ≡ C.callee k → f < length called → get_or called f false ≡ b → slice_get called (C.callee k) ≡ Some b
at_callee C called f k b e lt g = subst (λ i. slice_get called i ≡ Some b) e (read_at called f false b lt g)

-- what is known of an evaluation that was measured
pub timed_in : (C : Program) (args : List Word) (budget : ℕ) (o : Option Timing) (t : Timing) → o ≡ Some t → IsMeasured C args budget o → IsTimed C args t
timed_in C args budget o t e h = (subst (λ (x : Option Timing). IsMeasured C args budget x) e h).0

pub takes_more : (C : Program) (args : List Word) (budget : ℕ) (o : Option Timing) → o ≡ None → IsMeasured C args budget o → TakesMore C args budget
takes_more C args budget o e h = subst (λ (x : Option Timing). IsMeasured C args budget x) e h

-- the tail calls are among the calls
pub few_loops : (C : Program) (args : List Word) (t : Timing) → IsTimed C args t → t.loops ≤ 2 * t.calls
few_loops C args t h = let s = is_short C args t.word h.evaluation in omega (arith, s, h.calls, h.loops)

-- the figures of an evaluation that comes to a word
record Packed (C : Program) (P : Choice) (args : List Word) (f : Figures) (v : Word) : Type 0 where
  evaluation : Main C args v
  calls : f.calls ≡ main_cost C args evaluation
  loops : f.loops ≡ loops C evaluation
  span : f.span ≡ main_span C args evaluation
  latest : f.latest ≡ latest C args evaluation
  is_exact : f.exact ≡ true → IsExact C P args evaluation
  is_not : f.exact ≡ false → IsExact C P args evaluation → ⊥

-- whether done comes exactly in the cycle of the span, by the test of the code
pub figured : (C : Program) (P : Choice) (args : List Word) (t : Timing) (h : IsTimed C args t) (f : Figures) → f.word ≡ t.word → f.calls ≡ t.calls → f.loops ≡ t.loops → f.span ≡ t.span →
    f.latest ≡ 2 * f.calls - f.loops → (f.exact ≡ true → (f.span ≡ f.latest) ⊎ AreUnshared C P t.called.items) →
    (f.exact ≡ false → (f.span ≡ f.latest → ⊥) × IsShared C P t.called.items) → AreFigures C P args f
figured C P args t h f w n l s e y z =
    let d = h.evaluation in
    let a : 2 * f.calls - f.loops ≡ latest C args d = ap (λ k. 2 * k - f.loops) (n ∙ h.calls) ∙ ap (λ k. 2 * main_cost C args d - k) (l ∙ h.loops) in
    let b : f.latest ≡ latest C args d = e ∙ a in
    let g : f.span ≡ main_span C args d = s ∙ h.span in
    let packed : Packed C P args f t.word = record {
      evaluation = d;
      calls = n ∙ h.calls;
      loops = l ∙ h.loops;
      span = g;
      latest = b;
      is_exact = λ q. ⊎_elim (λ i. inr (sym g ∙ (i ∙ b))) (λ i. inl (unshared C P args d t.called.items h.called i)) (y q);
      is_not = λ q x. let k = z q in ⊎_elim (λ i. shared C P args d t.called.items h.called k.1 i) (λ i. k.0 (g ∙ (i ∙ sym b))) x;
    } in
    let q = subst (Packed C P args f) (sym w) packed in
    record { evaluation = q.evaluation; calls = q.calls; loops = q.loops; span = q.span; latest = q.latest; is_exact = q.is_exact; is_not = q.is_not }

pub not_shared : (b e : Bool) → e ≡ not b → e ≡ true → b ≡ false
not_shared true e n h = never (sym n ∙ h)
not_shared false e n h = refl

pub is_shared : (b e : Bool) → e ≡ not b → e ≡ false → b ≡ true
is_shared true e n h = refl
is_shared false e n h = never (sym h ∙ n)
