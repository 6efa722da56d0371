-- The starts of all functions are the events that start one.
use Rattle.safl_calls.proofs.Common.{Program, Word, cases_eq, eq-eqb, ne_eqb}
use Rattle.std.proofs.Common.{◌≡◌, ℕ, zero, suc, ◌+◌, ◌<◌, ◌≤◌, ◌*◌, List, [], ◌∷◌, length, Bool, true, false, cond, ◌==◌, refl, sym, ap, ◌∙◌, arith, ⊎_elim}
use Rattle.std.proofs.lemmas.List.{length-append}
use Rattle.safl_term.specs.Readiness.{LoopTo, NotYet, answer}
use Rattle.safl_calls.specs.Machine.{State, Mode, Idle, Runs, Delivers, Event, Accept, Finish, Return, LoopInto, back, says_as, says, Enabled, fire, Legal}
use Rattle.safl_calls.specs.Starts.{event_start, starts_of, listed, goes_with}
use Rattle.safl_calls.proofs.Numbered.{Numbered}
use Rattle.safl_calls.proofs.Bodies.{goes_stands}
use Rattle.safl_calls.proofs.Invariant.{Inv, found, inv_fire}
use Rattle.safl_calls.specs.Starts.{start_count, starts_count}

-- the sum of the numbers below n
pub sum_below : (ℕ → ℕ) → ℕ → ℕ
sum_below g zero = 0
sum_below g (suc n) = sum_below g n + g n

sum_same : (g h : ℕ → ℕ) (n : ℕ) → ((i : ℕ) → g i ≡ h i) → sum_below g n ≡ sum_below h n
unfolding sum_below
sum_same g h zero e = refl
sum_same g h (suc n) e = omega (arith, sum_same g h n e, e n)

sum_plus : (f g h : ℕ → ℕ) (n : ℕ) → ((i : ℕ) → f i ≡ g i + h i) → sum_below f n ≡ sum_below g n + sum_below h n
unfolding sum_below
sum_plus f g h zero e = refl
sum_plus f g h (suc n) e = omega (arith, sum_plus f g h n e, e n)

sum_none : (n : ℕ) → sum_below (λ i. 0) n ≡ 0
unfolding sum_below
sum_none zero = refl
sum_none (suc n) = omega (arith, sum_none n)

-- one where a is
abbrev one_at : ℕ → ℕ → ℕ
one_at a i = cond (a == i) 1 0

sum_off : (a n : ℕ) → n ≤ a → sum_below (one_at a) n ≡ 0
unfolding sum_below
sum_off a zero le = refl
sum_off a (suc n) le = let e : one_at a n ≡ 0 = ap {B = ℕ} (λ b. cond b 1 0) (ne_eqb a n (λ q. absurd (omega arith))) in omega (arith, sum_off a n (omega arith), e)

sum_one : (a n : ℕ) → a < n → sum_below (one_at a) n ≡ 1
unfolding sum_below
sum_one a zero lt = absurd (omega arith)
sum_one a (suc n) lt =
    ⊎_elim
    (λ q. let e : one_at a n ≡ 1 = ap {B = ℕ} (λ b. cond b 1 0) (eq-eqb a n q) in omega (arith, sum_off a n (omega (arith, q)), e))
    (λ q. let e : one_at a n ≡ 0 = ap {B = ℕ} (λ b. cond b 1 0) (ne_eqb a n q) in omega (arith, sum_one a n (omega (arith, q)), e))
    (cases_eq a n)

pub starts_below : Program → List Word → State → List Event → ℕ → ℕ
starts_below C args s es n = sum_below (λ f. length (starts_of C args s es f)) n

one_long : (b : Bool) (ws : List Word) → length (cond b (ws ∷ []) []) ≡ cond b 1 0
one_long true ws = refl
one_long false ws = refl

module _ (C : Program) (args : List Word) (good : Numbered C) where
  loop_within : (s : State) (h : ℕ) (vs : List Word) → Inv C s → says C s (C.unit h) ≡ LoopTo h vs → h < C.functions
  loop_within s h vs inv is = by (s.unit (C.unit h)) refl
    where
      not_yet : NotYet ≡ LoopTo h vs → ⊥
      not_yet z = grind arith

      by : (m : Mode) → s.unit (C.unit h) ≡ m → h < C.functions
      by Idle e = absurd (not_yet (sym (ap (says_as C (back s)) e) ∙ is))
      by (Delivers k v) e = absurd (not_yet (sym (ap (says_as C (back s)) e) ∙ is))
      by (Runs f k ws) e =
          let m = inv.member (C.unit h) f k ws e in
          let body : answer (back s) ws (C.body f) ≡ LoopTo h vs = sym (ap (says_as C (back s)) e) ∙ is in
          (good.loops f h m.1 (goes_stands (back s) ws (C.body f) h vs body)).0

  event_total : (s : State) (e : Event) → Inv C s → Enabled C args s e → sum_below (λ f. length (event_start C args s e f)) C.functions ≡ start_count e
  event_total s (Accept k) inv h =
      sum_same _ (one_at (C.callee k)) C.functions (λ f. ap (λ o. length (cond (C.callee k == f) (listed o) [])) h.1 ∙ one_long (C.callee k == f) h.0)
      ∙ sum_one (C.callee k) C.functions (good.callee_in k (found C args s k h.0 h.1).within)
  event_total s (Finish f) inv h = sum_none C.functions
  event_total s (Return k) inv h = sum_none C.functions
  event_total s (LoopInto m) inv h =
      sum_same _ (one_at m) C.functions (λ f. ap (λ a. length (cond (m == f) (goes_with a) [])) h.1 ∙ one_long (m == f) h.0)
      ∙ sum_one m C.functions (loop_within s m h.0 inv h.1)

  pub total : (s : State) (es : List Event) → Inv C s → Legal C args s es → starts_below C args s es C.functions ≡ starts_count es
  unfolding starts_below starts_of starts_count Legal
  total s [] inv legal = sum_none C.functions
  total s (e ∷ es) inv legal =
      let first = event_total s e inv legal.0 in
      let rest = total (fire C args s e) es (inv_fire C args good s e inv legal.0) legal.1 in
      let both = sum_plus _ (λ f. length (event_start C args s e f)) (λ f. length (starts_of C args (fire C args s e) es f)) C.functions
      (λ f. length-append (event_start C args s e f) (starts_of C args (fire C args s e) es f)) in
      omega (arith, first, rest, both)

  -- where no function starts more than n times
  pub at_most : (s : State) (es : List Event) (n m : ℕ) → m ≤ C.functions → ((f : ℕ) → f < C.functions → length (starts_of C args s es f) ≤ n) → starts_below C args s es m ≤ m * n
  unfolding starts_below sum_below
  at_most s es n zero le h = omega arith
  at_most s es n (suc m) le h = let before = at_most s es n m (omega arith) h in let one = h m (omega arith) in omega (arith, before, one)
