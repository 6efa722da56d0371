-- Sets that are put right, number by number.
use Rattle.safl_core.proofs.Common.{AreCalled, Program, Word, cases_eq, cases_lt, from_bool, true≢false}
use Rattle.std.proofs.Common.{◌≡◌, ℕ, suc, ◌<◌, ◌⊎◌, Bool, Option, Some, None, is_some, List, length, set, get_or, refl, sym, ap, ◌∙◌, subst, ⊎_elim, arith, length-set}
use Rattle.std.proofs.lemmas.List.{get_or-set_same, get_or-set_other, set_past}
use Rattle.safl_calls.specs.Machine.{State}
use Rattle.safl_core.specs.declared.enabled.Enabled.{Enabled}
use Rattle.safl_core.specs.Marking.{IsRight, Marks, Rights, Relists, HasPlaces, AreMarked, Nothing}

pub rights_same : (p : ℕ → Bool) (s : List ℕ) → Rights p Nothing s s
rights_same p s = record { long = refl; kept = λ k h. h; these = λ k lt h. absurd h }

pub rights_is : (p : ℕ → Bool) (s t : List ℕ) → t ≡ s → Rights p Nothing s t
rights_is p s t is = subst (λ l. Rights p Nothing s l) (sym is) (rights_same p s)

-- one number is put right
pub rights_put : (p : ℕ → Bool) (s t : List ℕ) (k : ℕ) (b : Bool) → t ≡ set s k (from_bool b) → b ≡ p k → Rights p (λ j. j ≡ k) s t
rights_put p s t k b is e = record {
  long = ap (λ (l : List ℕ). length l) is ∙ length-set s k (from_bool b);
  kept = λ j h. ap (λ (l : List ℕ). get_or l j 0) is ∙ kept j h;
  these = λ j lt q. ap (λ (l : List ℕ). get_or l j 0) is ∙ these j lt q;
}
  where
    these : (j : ℕ) → j < length s → j ≡ k → get_or (set s k (from_bool b)) j 0 ≡ from_bool (p j)
    these j lt q = subst (λ i. get_or (set s k (from_bool b)) i 0 ≡ from_bool (p i)) (sym q) (get_or-set_same s k (from_bool b) 0 (omega (arith, lt, q)) ∙ ap from_bool e)

    kept : (j : ℕ) → IsRight p s j → get_or (set s k (from_bool b)) j 0 ≡ from_bool (p j)
    kept j h = ⊎_elim at (λ ne. get_or-set_other s k j (from_bool b) 0 ne ∙ h) (cases_eq j k)
      where
        at : j ≡ k → get_or (set s k (from_bool b)) j 0 ≡ from_bool (p j)
        at q = ⊎_elim (λ lt. these j lt q) (λ past. ap (λ (l : List ℕ). get_or l j 0) (set_past s k (from_bool b) (omega (arith, past, q))) ∙ h) (cases_lt j (length s))

pub rights_then : {p : ℕ → Bool} {A B : ℕ → Type 0} {s t u : List ℕ} → Rights p A s t → Rights p B t u → Rights p (λ k. A k ⊎ B k) s u
rights_then a b = record {
  long = b.long ∙ a.long;
  kept = λ k h. b.kept k (a.kept k h);
  these = λ k lt q. ⊎_elim (λ x. b.kept k (a.these k lt x)) (λ y. b.these k (omega (arith, lt, a.long)) y) q;
}

pub rights_by : {p : ℕ → Bool} {A B : ℕ → Type 0} {s t : List ℕ} → ((k : ℕ) → k < length s → B k → A k) → Rights p A s t → Rights p B s t
rights_by f a = record { long = a.long; kept = a.kept; these = λ k lt q. a.these k lt (f k lt q) }

module _ {C : Program} {args : List Word} {s : State} where
  pub relists_then : {A R F U B S G V : ℕ → Type 0} {a b d : Enabled} → Relists C args s A R F U a b → Relists C args s B S G V b d
      → Relists C args s (λ k. A k ⊎ B k) (λ k. R k ⊎ S k) (λ f. F f ⊎ G f) (λ v. U v ⊎ V v) a d
  relists_then x y = record {
    called = y.called ∙ x.called;
    waits = rights_then x.waits y.waits;
    idle = rights_then x.idle y.idle;
    finishes = rights_then x.finishes y.finishes;
    returns = rights_then x.returns y.returns;
    loops = rights_then x.loops y.loops;
    busy = rights_then x.busy y.busy;
  }

  pub relists_by : {A R F U B S G V : ℕ → Type 0} {a b : Enabled} → HasPlaces C a → ((k : ℕ) → k < suc C.sites → B k → A k) → ((k : ℕ) → k < suc C.sites → S k → R k)
      → ((f : ℕ) → f < C.functions → G f → F f) → ((v : ℕ) → v < C.functions → V v → U v) → Relists C args s A R F U a b → Relists C args s B S G V a b
  relists_by h i r j l x = record {
    called = x.called;
    waits = rights_by (λ k lt q. i k (omega (arith, lt, h.waits)) q) x.waits;
    idle = rights_by (λ v lt q. l v (omega (arith, lt, h.idle)) q) x.idle;
    finishes = rights_by (λ f lt q. j f (omega (arith, lt, h.finishes)) q) x.finishes;
    returns = rights_by (λ k lt q. r k (omega (arith, lt, h.returns)) q) x.returns;
    loops = rights_by (λ f lt q. j f (omega (arith, lt, h.loops)) q) x.loops;
    busy = rights_by (λ v lt q. l v (omega (arith, lt, h.busy)) q) x.busy;
  }

  pub relists_none : (a : Enabled) → Relists C args s Nothing Nothing Nothing Nothing a a
  relists_none a = record {
    called = refl;
    waits = rights_same _ a.accepts.within;
    idle = rights_same _ a.accepts.opened;
    finishes = rights_same _ a.finishes;
    returns = rights_same _ a.returns;
    loops = rights_same _ a.loops;
    busy = rights_same _ a.busy;
  }

  pub places_after : {A R F U : ℕ → Type 0} {a b : Enabled} → HasPlaces C a → Relists C args s A R F U a b → HasPlaces C b
  places_after h x = record {
    called = subst (λ (l : List ℕ). AreCalled C l) (sym x.called) h.called;
    waits = x.waits.long ∙ h.waits;
    idle = x.idle.long ∙ h.idle;
    finishes = x.finishes.long ∙ h.finishes;
    returns = x.returns.long ∙ h.returns;
    loops = x.loops.long ∙ h.loops;
    busy = x.busy.long ∙ h.busy;
  }

pub places_of : {C : Program} {args : List Word} {s : State} {e : Enabled} → AreMarked C args s e → HasPlaces C e
places_of m = record {
  called = m.called;
  waits = m.waits.long;
  idle = m.idle.long;
  finishes = m.finishes.long;
  returns = m.returns.long;
  loops = m.loops.long;
  busy = m.busy.long;
}

-- what was right stays so where the test is the same, and the rest is put right
pub marks_after : {p q : ℕ → Bool} {these : ℕ → Type 0} {n : ℕ} {s t : List ℕ} → Marks p n s → Rights q these s t → ((k : ℕ) → k < n → (p k ≡ q k) ⊎ these k) → Marks q n t
marks_after m r f = record {
  long = r.long ∙ m.long;
  each = λ k lt. ⊎_elim (λ e. r.kept k (m.each k lt ∙ ap from_bool e)) (λ x. r.these k (omega (arith, lt, m.long)) x) (f k lt);
}

-- ---- a site that may be there

pub some_is : (o : Option ℕ) (k j : ℕ) → o ≡ Some k → o ≡ Some j → k ≡ j
some_is o k j p q = ap number (sym p ∙ q)
  where
    number : Option ℕ → ℕ
    number None = 0
    number (Some n) = n

pub none_is : (o : Option ℕ) (j : ℕ) → o ≡ None → o ≡ Some j → ⊥
none_is o j p q = true≢false (sym (ap (λ (x : Option ℕ). is_some x) q) ∙ ap (λ (x : Option ℕ). is_some x) p)
