-- Lists of events, sweeps over numbers, and first places.
use Rattle.safl_calls.proofs.Common.{Program, Word}
use Rattle.std.proofs.Common.{◌≡◌, ℕ, zero, suc, ◌+◌, ◌<◌, ◌≤◌, List, [], ◌∷◌, ◌++◌, Option, Some, None, Bool, true, false, cond, ◌&&◌, nat_lt}
use Rattle.std.proofs.Common.{is_some, refl, sym, ap, ◌∙◌, subst, ⊎_elim, arith, append-nil}
use Rattle.std.proofs.lemmas.Bool.{cases_Bool, cases_eq, false≢true, lt-ltb, le-ltb, ltb-true, ltb-false, and_right, eq-eqb, ne_eqb}
use Rattle.safl_calls.specs.Machine.{Mode, Idle, Runs, Delivers, is_unsent, State, Event, Enabled, fire, Legal, after_event, last_word, put}
use Rattle.safl_calls.specs.Picks.{first, picks}
use Rattle.safl_calls.specs.Moves.{moves_count}
use Rattle.safl_term.specs.Readiness.{or_else, Stage, Unsent, Sent, Returned}
use Rattle.safl_term.proofs.OrElse.{or_else_none}

-- the site that a unit serves
abbrev pub serves : Mode → Option ℕ
serves Idle = None
serves (Runs f k args) = Some k
serves (Delivers k v) = Some k

pub put_at : {A : Type 0} (f : ℕ → A) (i j : ℕ) (x : A) → i ≡ j → put f i x j ≡ x
put_at f i j x e = rw (eq-eqb i j e)

pub put_off : {A : Type 0} (f : ℕ → A) (i j : ℕ) (x : A) → (i ≡ j → ⊥) → put f i x j ≡ f j
put_off f i j x e = rw (ne_eqb i j e)

pub moves_append : (xs ys : List Event) → moves_count (xs ++ ys) ≡ moves_count xs + moves_count ys
unfolding moves_count
moves_append [] ys = omega arith
moves_append (x ∷ xs) ys = let e = moves_append xs ys in omega (arith, e)

module _ (C : Program) (args : List Word) where
  pub after_append : (s : State) (xs ys : List Event) → after_event C args s (xs ++ ys) ≡ after_event C args (after_event C args s xs) ys
  unfolding after_event
  after_append s [] ys = refl
  after_append s (x ∷ xs) ys = after_append (fire C args s x) xs ys

  pub legal_append : (s : State) (xs ys : List Event) → Legal C args s xs → Legal C args (after_event C args s xs) ys → Legal C args s (xs ++ ys)
  unfolding after_event Legal
  legal_append s [] ys h k = k
  legal_append s (x ∷ xs) ys h k = (h.0, legal_append (fire C args s x) xs ys h.1 k)

  pub legal_front : (s : State) (xs ys : List Event) → Legal C args s (xs ++ ys) → Legal C args s xs
  unfolding Legal
  legal_front s [] ys h = tt
  legal_front s (x ∷ xs) ys h = (h.0, legal_front (fire C args s x) xs ys h.1)

  pub last_append : (s : State) (xs ys : List Event) (u : ℕ) (d : Word) → last_word C args s (xs ++ ys) u d ≡ last_word C args (after_event C args s xs) ys u (last_word C args s xs u d)
  unfolding after_event last_word
  last_append s [] ys u d = refl
  last_append s (x ∷ xs) ys u d = last_append (fire C args s x) xs ys u _

  pub after_one : (s : State) (e : Event) → after_event C args s (e ∷ []) ≡ fire C args s e
  unfolding after_event
  after_one s e = refl

  pub legal_one : (s : State) (e : Event) → Enabled C args s e → Legal C args s (e ∷ [])
  unfolding Legal
  legal_one s e h = (h, tt)

  -- one kind of event at a time, by rising number
  module _ (Q : ℕ → State → Type 0) (p : ℕ → Bool) (e : ℕ → Event) (N : ℕ)
      (fires : (n : ℕ) (s : State) → n < N → Q n s → p n ≡ true → Enabled C args s (e n) × Q (suc n) (fire C args s (e n)))
      (skips : (n : ℕ) (s : State) → n < N → Q n s → p n ≡ false → Q (suc n) s) where
    one_more : (s t : State) (es : List Event) (n : ℕ) → n < N → Legal C args s es → Q n (after_event C args s es) → (b : Bool) → p n ≡ b → Legal C args s
        (es ++ cond b (e n ∷ []) []) × Q (suc n) (after_event C args s (es ++ cond b (e n ∷ []) []))
    one_more s t es n lt legal q true is =
        let f = fires n (after_event C args s es) lt q is in (
          legal_append s es (e n ∷ []) legal (legal_one (after_event C args s es) (e n) f.0),
          subst (Q (suc n)) (sym (after_append s es (e n ∷ []) ∙ after_one (after_event C args s es) (e n))) f.1,
        )
    one_more s t es n lt legal q false is =
        let nil : es ++ [] ≡ es = append-nil es in (
          subst (λ l. Legal C args s l) (sym nil) legal,
          subst (λ l. Q (suc n) (after_event C args s l)) (sym nil) (skips n (after_event C args s es) lt q is),
        )

    pub sweep : (s : State) → Q 0 s → (n : ℕ) → n ≤ N → Legal C args s (picks p e n) × Q n (after_event C args s (picks p e n))
    unfolding picks Legal after_event
    sweep s q zero le = (tt, q)
    sweep s q (suc n) le =
        let h = sweep s q n (omega arith) in
        one_more s s (picks p e n) n (omega arith) h.0 h.1 (p n) refl

-- first places
pub first_none : {A : Type 0} (g : ℕ → Option A) (n : ℕ) → first g n ≡ None → (i : ℕ) → i < n → g i ≡ None
unfolding first
first_none g zero h i lt = absurd (omega arith)
first_none {A} g (suc n) h i lt = go (first_none g n) (first g n) refl h
  where
    go : (first g n ≡ None → (i : ℕ) → i < n → g i ≡ None) → (o : Option A) → first g n ≡ o → or_else o (g n) ≡ None → g i ≡ None
    go ih None e h = ⊎_elim (λ same. ap g same ∙ h) (λ other. ih e i (omega (arith, other))) (cases_eq i n)
    go ih (Some x) e h = absurd cc

pub first_some : {A : Type 0} (g : ℕ → Option A) (n : ℕ) (x : A) → first g n ≡ Some x → (i : ℕ) × (i < n) × (g i ≡ Some x)
unfolding first
first_some g zero x h = absurd cc
first_some {A} g (suc n) x h = go (first_some g n x) (first g n) refl h
  where
    go : (first g n ≡ Some x → (i : ℕ) × (i < n) × (g i ≡ Some x)) → (o : Option A) → first g n ≡ o → or_else o (g n) ≡ Some x → (i : ℕ) × (i < suc n) × (g i ≡ Some x)
    go ih None e h = (n, omega arith, h)
    go ih (Some y) e h = let t = ih (e ∙ h) in (t.0, omega (arith, t.1), t.2)

pub all_none : {A : Type 0} (g : ℕ → Option A) (n : ℕ) → ((i : ℕ) → i < n → g i ≡ None) → first g n ≡ None
unfolding first
all_none g zero h = refl
all_none g (suc n) h = rw (all_none g n (λ i lt. h i (omega arith))) (h n (omega arith))

-- where all that are there are one, that is the first
pub first_only : {A : Type 0} (g : ℕ → Option A) (n : ℕ) (x : A) (i : ℕ) → i < n → g i ≡ Some x → ((j : ℕ) → j < n → (y : A) → g j ≡ Some y → y ≡ x) → first g n ≡ Some x
first_only {A} g n x i lt e only = go (first g n) refl
  where
    go : (o : Option A) → first g n ≡ o → first g n ≡ Some x
    go None h = absurd (let a = first_none g n h i lt in cc)
    go (Some y) h = let t = first_some g n y h in h ∙ ap Some (only t.0 t.1 y t.2)

pub first_more : {A : Type 0} (g : ℕ → Option A) (n : ℕ) → first g (suc n) ≡ or_else (first g n) (g n)
unfolding first
first_more g n = refl

pub some_none : {A : Type 0} (x : A) → Some x ≡ None → ⊥
some_none x e = grind arith

pub unsent_is : (x : Stage) → is_unsent x ≡ true → x ≡ Unsent
unsent_is Unsent h = refl
unsent_is Sent h = absurd (false≢true h)
unsent_is (Returned v) h = absurd (false≢true h)

pub some_of : {A : Type 0} (o : Option A) → is_some o ≡ true → (x : A) × (o ≡ Some x)
some_of None h = absurd (false≢true h)
some_of (Some x) h = (x, refl)

pub cond_some : {A : Type 0} (b : Bool) (o : Option A) (x : A) → cond b o None ≡ Some x → (b ≡ true) × (o ≡ Some x)
cond_some true o x h = (refl, h)
cond_some false o x h = absurd (some_none x (sym h))

-- what stands at the numbers below n for which a test holds
lt_other : (n k : ℕ) → (k ≡ n → ⊥) → nat_lt k n ≡ nat_lt k (suc n)
lt_other n k apart = ⊎_elim (λ t. t ∙ sym (lt-ltb k (suc n) (omega (arith, ltb-true k n t)))) (λ f. f ∙ sym (le-ltb k (suc n) (omega (arith, ltb-false k n f, apart)))) (cases_Bool (nat_lt k n))

pub mask_other : {A : Type 0} (n k : ℕ) (b : Bool) (x y : A) → (k ≡ n → ⊥) → cond (nat_lt k n && b) x y ≡ cond (nat_lt k (suc n) && b) x y
mask_other n k b x y apart = ap (λ l. cond (l && b) x y) (lt_other n k apart)

pub mask_skip : {A : Type 0} (n k : ℕ) (p : ℕ → Bool) (x y : A) → p n ≡ false → cond (nat_lt k n && p k) x y ≡ cond (nat_lt k (suc n) && p k) x y
mask_skip {A} n k p x y down = ⊎_elim (λ same. off n (ap p same ∙ down) ∙ sym (off (suc n) (ap p same ∙ down))) (λ other. mask_other n k (p k) x y other) (cases_eq k n)
  where
    off : (m : ℕ) → p k ≡ false → cond (nat_lt k m && p k) x y ≡ y
    off m e = ap (λ b. cond b x y) (and_right (nat_lt k m) (p k) e)

pub mask_at : {A : Type 0} (n : ℕ) (b : Bool) (x y : A) → b ≡ true → cond (nat_lt n (suc n) && b) x y ≡ x
mask_at n b x y up = rw (lt-ltb n (suc n) (omega arith), up) refl

pub mask_all : {A : Type 0} (n k : ℕ) (b : Bool) (x y : A) → (b ≡ true → k < n) → cond (nat_lt k n && b) x y ≡ cond b x y
mask_all n k true x y h = rw (lt-ltb k n (h refl)) refl
mask_all n k false x y h = ap (λ b. cond b x y) (and_right (nat_lt k n) false refl)

pub first_skip : {A : Type 0} (g : ℕ → Option A) (n : ℕ) → g n ≡ None → first g (suc n) ≡ first g n
unfolding first
first_skip g n h = ap (or_else (first g n)) h ∙ or_else_none (first g n)

pub first_zero : {A : Type 0} (g : ℕ → Option A) → first g 0 ≡ None
unfolding first
first_zero g = refl

pub not_some : {A : Type 0} (o : Option A) → ((x : A) → o ≡ Some x → ⊥) → o ≡ None
not_some None h = refl
not_some (Some x) h = absurd (h x refl)

pub first_cong : {A : Type 0} (g h : ℕ → Option A) (n : ℕ) → ((k : ℕ) → k < n → g k ≡ h k) → first g n ≡ first h n
unfolding first
first_cong g h zero e = refl
first_cong g h (suc n) e =
    ap (λ o. or_else o (g n)) (first_cong g h n (λ k lt. e k (omega arith))) ∙ ap (or_else (first h n)) (e n (omega arith))
