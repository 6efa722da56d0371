-- The enabled events, by their places.
use Rattle.safl_core.proofs.Common.{CanFire, IsKept, IsOver, Program, Shown, Word, can, none-some, slice_get, state}
use Rattle.std.proofs.Common.{◌≡◌, ℕ, zero, suc, ◌+◌, ◌-◌, ◌<◌, ◌≤◌, ◌⊎◌, inl, inr, List, [], ◌∷◌, ◌++◌, length, cond, Option, Some, Bool, true}
use Rattle.std.proofs.Common.{false, nat_lt, refl, sym, ap, ◌∙◌, subst, ⊎_elim, arith, append_assoc}
use Rattle.std.proofs.lemmas.Bool.{lt-ltb, le-ltb, ltb-true, ltb-false, cases_eq, cases_Bool}
use Rattle.std.proofs.lemmas.List.{nil_from_length}
use Rattle.std.proofs.Math.Nat.{add-sub_cancel_left}
use Rattle.safl_calls.specs.Machine.{Enabled}
use Rattle.safl_core.proofs.LawsOfKept.{enabled_of, enabled_can, accept_within}
use Rattle.safl_word.proofs.Lists.{get_end, get_front, get_pushed, nil_at_end}
use Rattle.safl_calls.specs.Machine.{State, Event, Accept, Finish, Return, LoopInto}
use Rattle.safl_calls.specs.Picks.{picks}
use Rattle.safl_core.specs.Listing.{listed, event_at, places, count_below}
use Rattle.safl_core.specs.Picking.{Precedes, IsListing}
use Rattle.safl_term.specs.Readiness.{Answer as Kept}
use Rattle.safl_core.proofs.KeptByEvents.{finish_in, return_in, looping}

pub picks_zero : (p : ℕ → Bool) (e : ℕ → Event) → picks p e 0 ≡ []
unfolding picks
picks_zero p e = refl

pub picks_more : (p : ℕ → Bool) (e : ℕ → Event) (n : ℕ) → picks p e (suc n) ≡ picks p e n ++ cond (p n) (e n ∷ []) []
unfolding picks
picks_more p e n = refl

-- the same picks below a number
pub picks_same : (p q : ℕ → Bool) (e f : ℕ → Event) (n : ℕ) → ((i : ℕ) → i < n → p i ≡ q i) → ((i : ℕ) → i < n → e i ≡ f i) → picks p e n ≡ picks q f n
picks_same p q e f zero h k = picks_zero p e ∙ sym (picks_zero q f)
picks_same p q e f (suc n) h k =
    picks_more p e n
    ∙ (ap (λ l. l ++ cond (p n) (e n ∷ []) []) (picks_same p q e f n (λ i lt. h i (omega (arith, lt))) (λ i lt. k i (omega (arith, lt))))
    ∙ (ap (λ b. picks q f n ++ cond b (e n ∷ []) []) (h n (omega arith))
    ∙ (ap (λ x. picks q f n ++ cond (q n) (x ∷ []) []) (k n (omega arith)) ∙ sym (picks_more q f n))))

pub picks_add : (p : ℕ → Bool) (e : ℕ → Event) (a b : ℕ) → picks p e (a + b) ≡ picks p e a ++ picks (λ i. p (a + i)) (λ i. e (a + i)) b
picks_add p e a zero = ap (picks p e) (plus a) ∙ (nil_at_end (picks p e a) ∙ ap (λ l. picks p e a ++ l) (sym (picks_zero (λ i. p (a + i)) (λ i. e (a + i)))))
  where
    plus : (a : ℕ) → a + 0 ≡ a
    plus a = omega arith
picks_add p e a (suc b) =
    ap (picks p e) (plus a b)
    ∙ (picks_more p e (a + b)
    ∙ (ap (λ l. l ++ cond (p (a + b)) (e (a + b) ∷ []) []) (picks_add p e a b)
    ∙ (append_assoc (picks p e a) (picks (λ i. p (a + i)) (λ i. e (a + i)) b) (cond (p (a + b)) (e (a + b) ∷ []) [])
    ∙ ap (λ l. picks p e a ++ l) (sym (picks_more (λ i. p (a + i)) (λ i. e (a + i)) b)))))
  where
    plus : (a b : ℕ) → a + suc b ≡ suc (a + b)
    plus a b = omega arith

one_more : (xs : List Event) (x : Event) → length (xs ++ x ∷ []) ≡ suc (length xs)
one_more [] x = refl
one_more (y ∷ ys) x = ap suc (one_more ys x)

pub count_more : (p : ℕ → Bool) (e : ℕ → Event) (n : ℕ) → length (picks p e (suc n)) ≡ length (picks p e n) + cond (p n) 1 0
count_more p e n = ap (λ (l : List Event). length l) (picks_more p e n) ∙ by (p n)
  where
    by : (b : Bool) → length (picks p e n ++ cond b (e n ∷ []) []) ≡ length (picks p e n) + cond b 1 0
    by true = omega (arith, one_more (picks p e n) (e n))
    by false = omega (arith, ap (λ (l : List Event). length l) (nil_at_end (picks p e n)))

-- the event at the place after those that were picked before it
pub picked_at : (p : ℕ → Bool) (e : ℕ → Event) (i n : ℕ) → i < n → p i ≡ true → slice_get (picks p e n) (length (picks p e i)) ≡ Some (e i)
picked_at p e i zero lt is = absurd (omega (arith, lt))
picked_at p e i (suc n) lt is = ⊎_elim
    (λ same. subst (λ k. slice_get (picks p e (suc k)) (length (picks p e i)) ≡ Some (e i)) same
    (ap (λ l. slice_get l (length (picks p e i))) (picks_more p e i ∙ ap (λ b. picks p e i ++ cond b (e i ∷ []) []) is) ∙ get_end (picks p e i) (e i)))
    (λ other. ap (λ l. slice_get l (length (picks p e i))) (picks_more p e n) ∙ get_front (picks p e n) (cond (p n) (e n ∷ []) [])
    (length (picks p e i)) (e i) (picked_at p e i n (omega (arith, lt, other)) is))
    (cases_eq i n)

-- what is picked is a number's event whose test holds, after what was picked before it
pub picks_of : (p : ℕ → Bool) (e : ℕ → Event) (n i : ℕ) (x : Event) → slice_get (picks p e n) i ≡ Some x → (k : ℕ) × (k < n) × (p k ≡ true) × (x ≡ e k) × (i ≡ length (picks p e k))
picks_of p e zero i x h = absurd (never i x (sym (ap (λ l. slice_get l i) (picks_zero p e)) ∙ h))
  where
    never : (i : ℕ) (x : Event) → slice_get [] i ≡ Some x → ⊥
    never i x h = cc
picks_of p e (suc n) i x h = by (p n) refl (λ q. picks_of p e n i x q)
  where
    split : (b : Bool) → p n ≡ b → slice_get (picks p e n ++ cond b (e n ∷ []) []) i ≡ Some x
    split b is = sym (ap (λ b. slice_get (picks p e n ++ cond b (e n ∷ []) []) i) is) ∙ (sym (ap (λ l. slice_get l i) (picks_more p e n)) ∙ h)

    earlier : (k : ℕ) × (k < n) × (p k ≡ true) × (x ≡ e k) × (i ≡ length (picks p e k)) → (k : ℕ) × (k < suc n) × (p k ≡ true) × (x ≡ e k) × (i ≡ length (picks p e k))
    earlier r = (r.0, omega (arith, r.1), r.2, r.3, r.4)

    by : (b : Bool) → p n ≡ b → (slice_get (picks p e n) i ≡ Some x → (k : ℕ) × (k < n) × (p k ≡ true) × (x ≡ e k) × (i ≡ length (picks p e k))) →
        (k : ℕ) × (k < suc n) × (p k ≡ true) × (x ≡ e k) × (i ≡ length (picks p e k))
    by true is before = ⊎_elim (λ q. earlier (before q)) (λ q. (n, omega arith, is, q.1, q.0)) (get_pushed (picks p e n) (e n) x i (split true is))
    by false is before = earlier (before (ap (λ l. slice_get l i) (nil_at_end (picks p e n)) ∙ split false is))

picks_grow : (p : ℕ → Bool) (e : ℕ → Event) (a j : ℕ) → length (picks p e a) ≤ length (picks p e (a + j))
picks_grow p e a zero = let same : length (picks p e (a + 0)) ≡ length (picks p e a) = ap (λ k. length (picks p e k)) (let z : a + 0 ≡ a = omega arith in z) in omega (arith, same)
picks_grow p e a (suc j) =
    let same : length (picks p e (a + suc j)) ≡ length (picks p e (suc (a + j))) = ap (λ k. length (picks p e k)) (let z : a + suc j ≡ suc (a + j) = omega arith in z) in
    omega (arith, same, picks_grow p e a j, count_more p e (a + j))

below_or : (a n : ℕ) → (a < n) ⊎ ((j : ℕ) × (a ≡ n + j))
below_or a n = ⊎_elim (λ t. inl (ltb-true a n t)) (λ f. inr (a - n, omega (arith, ltb-false a n f))) (cases_Bool (nat_lt a n))

-- where more is picked below b than below a, b is greater
rises : (p : ℕ → Bool) (e : ℕ → Event) (a b : ℕ) → length (picks p e a) < length (picks p e b) → a < b
rises p e a b lt = ⊎_elim
    (λ l. l)
    (λ q. let same : length (picks p e a) ≡ length (picks p e (b + q.0)) = ap (λ k. length (picks p e k)) q.1 in absurd (omega (arith, same, lt, picks_grow p e b q.0)))
    (below_or a b)

-- the place of an event among all of them
data Spot (C : Program) (a : ℕ) : Event → Type 0 where
  accept_spot : a < suc C.sites → Spot C a (Accept a)
  finish_spot : (j : ℕ) → a ≡ suc C.sites + j → j < C.functions → Spot C a (Finish j)
  return_spot : (j : ℕ) → a ≡ suc C.sites + (C.functions + j) → j < suc C.sites → Spot C a (Return j)
  loop_spot : (j : ℕ) → a ≡ suc C.sites + (C.functions + (suc C.sites + j)) → Spot C a (LoopInto j)

precede : (C : Program) {a b : ℕ} {d e : Event} → Spot C a d → Spot C b e → a < b → Precedes d e
precede C (accept_spot x) (accept_spot y) lt = inr (refl, lt)
precede C (accept_spot x) (finish_spot j q y) lt = inl (omega arith)
precede C (accept_spot x) (return_spot j q y) lt = inl (omega arith)
precede C (accept_spot x) (loop_spot j q) lt = inl (omega arith)
precede C (finish_spot i p x) (accept_spot y) lt = absurd (omega (arith, p, x, y, lt))
precede C (finish_spot i p x) (finish_spot j q y) lt = inr (refl, omega (arith, p, q, lt))
precede C (finish_spot i p x) (return_spot j q y) lt = inl (omega arith)
precede C (finish_spot i p x) (loop_spot j q) lt = inl (omega arith)
precede C (return_spot i p x) (accept_spot y) lt = absurd (omega (arith, p, x, y, lt))
precede C (return_spot i p x) (finish_spot j q y) lt = absurd (omega (arith, p, q, x, y, lt))
precede C (return_spot i p x) (return_spot j q y) lt = inr (refl, omega (arith, p, q, lt))
precede C (return_spot i p x) (loop_spot j q) lt = inl (omega arith)
precede C (loop_spot i p) (accept_spot y) lt = absurd (omega (arith, p, y, lt))
precede C (loop_spot i p) (finish_spot j q y) lt = absurd (omega (arith, p, q, y, lt))
precede C (loop_spot i p) (return_spot j q y) lt = absurd (omega (arith, p, q, y, lt))
precede C (loop_spot i p) (loop_spot j q) lt = inr (refl, omega (arith, p, q, lt))

-- the listed events are the picks of all
module _ (C : Program) (args : List Word) (s : State) where
  abbrev pub test_at : ℕ → Bool
  test_at i = can C args s (event_at C i)

  below : (i : ℕ) → i < suc C.sites → event_at C i ≡ Accept i
  below i lt = ap (λ b. cond b (Accept i) (cond (nat_lt (i - suc C.sites) C.functions) (Finish (i - suc C.sites))
      (cond (nat_lt (i - suc C.sites - C.functions) (suc C.sites)) (Return (i - suc C.sites - C.functions))
      (LoopInto (i - suc C.sites - C.functions - suc C.sites))))) (lt-ltb i (suc C.sites) lt)

  abbrev after_accepts : ℕ → Event
  after_accepts j = cond (nat_lt j C.functions) (Finish j) (cond (nat_lt (j - C.functions) (suc C.sites)) (Return (j - C.functions)) (LoopInto (j - C.functions - suc C.sites)))

  abbrev after_finishes : ℕ → Event
  after_finishes j = cond (nat_lt j (suc C.sites)) (Return j) (LoopInto (j - suc C.sites))

  first : (j : ℕ) → event_at C (suc C.sites + j) ≡ after_accepts j
  first j = ap (λ b. cond b (Accept (suc C.sites + j)) (after_accepts (suc C.sites + j - suc C.sites)))
      (le-ltb (suc C.sites + j) (suc C.sites) (omega arith)) ∙ ap after_accepts (add-sub_cancel_left (suc C.sites) j)

  second : (j : ℕ) → after_accepts (C.functions + j) ≡ after_finishes j
  second j = ap (λ b. cond b (Finish (C.functions + j)) (after_finishes (C.functions + j - C.functions)))
      (le-ltb (C.functions + j) C.functions (omega arith)) ∙ ap after_finishes (add-sub_cancel_left C.functions j)

  third : (j : ℕ) → after_finishes (suc C.sites + j) ≡ LoopInto j
  third j = ap (λ b. cond b (Return (suc C.sites + j)) (LoopInto (suc C.sites + j - suc C.sites)))
      (le-ltb (suc C.sites + j) (suc C.sites) (omega arith)) ∙ ap LoopInto (add-sub_cancel_left (suc C.sites) j)

  spot : (a : ℕ) → Spot C a (event_at C a)
  spot a = ⊎_elim (λ lt. subst (λ e. Spot C a e) (sym (below a lt)) (accept_spot lt)) (λ q. after_sites q.0 q.1) (below_or a (suc C.sites))
    where
      looping : (j i : ℕ) → a ≡ suc C.sites + (C.functions + j) → j ≡ suc C.sites + i → Spot C a (after_finishes j)
      looping j i p q = subst (λ e. Spot C a e) (sym (ap after_finishes q ∙ third i)) (loop_spot i (p ∙ ap (λ k. suc C.sites + (C.functions + k)) q))

      after_bodies : (j : ℕ) → a ≡ suc C.sites + (C.functions + j) → Spot C a (after_finishes j)
      after_bodies j p = ⊎_elim
          (λ lt. subst (λ e. Spot C a e) (sym (ap (λ b. cond b (Return j) (LoopInto (j - suc C.sites))) (lt-ltb j (suc C.sites) lt))) (return_spot j p lt))
          (λ q. looping j q.0 p q.1)
          (below_or j (suc C.sites))

      after_sites : (j : ℕ) → a ≡ suc C.sites + j → Spot C a (event_at C a)
      after_sites j p = subst (λ e. Spot C a e) (sym (ap (event_at C) p ∙ first j)) (⊎_elim
          (λ lt. subst (λ e. Spot C a e) (sym (ap (λ b. cond b (Finish j) (after_finishes (j - C.functions))) (lt-ltb j C.functions lt))) (finish_spot j p lt))
          (λ q. subst (λ e. Spot C a e) (sym (ap after_accepts q.1 ∙ second q.0)) (after_bodies q.0 (p ∙ ap (λ k. suc C.sites + k) q.1)))
          (below_or j C.functions))

  abbrev tests : (ℕ → Event) → ℕ → Bool
  tests f i = can C args s (f i)

  shift : (f g h : ℕ → Event) (a b : ℕ) → ((i : ℕ) → i < a → f i ≡ g i) → ((j : ℕ) → f (a + j) ≡ h j) → picks (tests f) f (a + b) ≡ picks (tests g) g a ++ picks (tests h) h b
  shift f g h a b x y =
      picks_add (tests f) f a b
      ∙ (ap (λ l. l ++ picks (λ i. tests f (a + i)) (λ i. f (a + i)) b) (picks_same (tests f) (tests g) f g a (λ i lt. ap (can C args s) (x i lt)) x)
      ∙ ap (λ l. picks (tests g) g a ++ l) (picks_same (λ i. tests f (a + i)) (tests h) (λ i. f (a + i)) h b (λ i lt. ap (can C args s) (y i)) (λ i lt. y i)))

  pub all_listed : (n : ℕ) → n ≡ suc C.sites + (C.functions + (suc C.sites + C.functions)) → picks test_at (event_at C) n ≡ listed C args s
  all_listed n e =
      ap (picks test_at (event_at C)) e
      ∙ (shift (event_at C) Accept after_accepts (suc C.sites) (C.functions + (suc C.sites + C.functions)) below first
      ∙ ap (λ l. picks (tests Accept) Accept (suc C.sites) ++ l)
      (shift after_accepts Finish after_finishes C.functions (suc C.sites + C.functions) (λ i lt. ap (λ b. cond b (Finish i) (after_finishes (i - C.functions))) (lt-ltb i C.functions lt)) second
      ∙ ap (λ l. picks (tests Finish) Finish C.functions ++ l)
      (shift after_finishes Return LoopInto (suc C.sites) C.functions (λ i lt. ap (λ b. cond b (Return i) (LoopInto (i - suc C.sites))) (lt-ltb i (suc C.sites) lt)) third)))

-- ---- where nothing is listed, nothing is enabled

module _ {m : Shown} {answers : List Kept} {wants : List (Option (List Word))} {room : ℕ} (h : IsKept m answers wants room) where
  pub event_place : (e : Event) → CanFire m e → (i : ℕ) × (i < suc m.program.sites +
      (m.program.functions + (suc m.program.sites + m.program.functions))) × (event_at m.program i ≡ e)
  event_place (Accept k) q =
      let C = m.program in
      let le = accept_within h k q in
      (k, omega (arith, le), below C m.args (state m) k (omega (arith, le)))
  event_place (Finish f) q =
      let C = m.program in
      let lt = finish_in h f q.0 q.1 q.3 in
      (suc C.sites + f, omega (arith, lt), first C m.args (state m) f ∙ ap (λ b. cond b (Finish f) (after_finishes C m.args (state m) (f - C.functions))) (lt-ltb f C.functions lt))
  event_place (Return k) q =
      let C = m.program in
      let le = return_in h k q.0 q.1 in
      let lt : k < suc C.sites = omega (arith, le) in (
        suc C.sites + (C.functions + k),
        omega (arith, le),
        first C m.args (state m) (C.functions + k) ∙
            (second C m.args (state m) k ∙ ap (λ b. cond b (Return k) (LoopInto (k - suc C.sites))) (lt-ltb k (suc C.sites) lt)),
      )
  event_place (LoopInto n) q =
      let C = m.program in
      let lt = (looping h n q.0 q.1).within in (
        suc C.sites + (C.functions + (suc C.sites + n)),
        omega (arith, lt),
        first C m.args (state m) (C.functions + (suc C.sites + n)) ∙
            (second C m.args (state m) (suc C.sites + n) ∙ third C m.args (state m) n),
      )

  pub none_listed : length (listed m.program m.args (state m)) ≡ 0 → IsOver m
  none_listed none e q =
      let C = m.program in
      let at = event_place e q in
      let can_at : can C m.args (state m) (event_at C at.0) ≡ true = ap (can C m.args (state m)) at.2 ∙ enabled_can C m.args (state m) e q in
      let p = picked_at (test_at C m.args (state m)) (event_at C) at.0 (suc C.sites + (C.functions + (suc C.sites + C.functions))) at.1 can_at in
      let nothing = all_listed C m.args (state m) (suc C.sites + (C.functions + (suc C.sites + C.functions))) refl ∙ nil_from_length (listed C m.args (state m)) none in
      never (length (picks (test_at C m.args (state m)) (event_at C) at.0)) (event_at C at.0) (sym (ap (λ l. slice_get l (length (picks (test_at C m.args (state m)) (event_at C) at.0))) nothing) ∙ p)
    where
      never : (i : ℕ) (x : Event) → slice_get [] i ≡ Some x → ⊥
      never i x e = absurd (none-some x e)

  -- what is listed are the enabled events, in their order
  pub listing : IsListing m.program m.args (state m) (listed m.program m.args (state m))
  listing =
      let C = m.program in
      let n = places C in
      let p = test_at C m.args (state m) in
      let same : picks (test_at C m.args (state m)) (event_at C) (places C) ≡ listed C m.args (state m) = all_listed C m.args (state m) (places C) refl in
      record {
        enabled = λ i e x.
            let q = picks_of p (event_at C) n i e (ap (λ l. slice_get l i) same ∙ x) in
            subst (λ z. Enabled C m.args (state m) z) (sym q.3) (enabled_of C m.args (state m) (event_at C q.0) q.2);
        all = λ e q.
            let at = event_place e q in
            let can_at : can C m.args (state m) (event_at C at.0) ≡ true = ap (can C m.args (state m)) at.2 ∙ enabled_can C m.args (state m) e q in
            (length (picks p (event_at C) at.0), sym (ap (λ l. slice_get l (length (picks p (event_at C) at.0))) same) ∙ picked_at p (event_at C) at.0 n at.1 can_at ∙ ap Some at.2);
        order = λ i j d e x y lt.
            let a = picks_of p (event_at C) n i d (ap (λ l. slice_get l i) same ∙ x) in
            let b = picks_of p (event_at C) n j e (ap (λ l. slice_get l j) same ∙ y) in
            let rise : a.0 < b.0 = rises p (event_at C) a.0 b.0 (omega (arith, lt, a.4, b.4)) in
            subst (λ z. Precedes z e) (sym a.3) (subst (λ z. Precedes (event_at C a.0) z) (sym b.3) (precede C (spot C m.args (state m) a.0) (spot C m.args (state m) b.0) rise));
      }

-- ---- how many numbers pass a test

pub count_none : (p : ℕ → Bool) → 0 ≡ count_below p 0
unfolding count_below
count_none p = refl

pub count_suc : (p : ℕ → Bool) (n : ℕ) → count_below p (suc n) ≡ count_below p n + cond (p n) 1 0
unfolding count_below
count_suc p n = refl
