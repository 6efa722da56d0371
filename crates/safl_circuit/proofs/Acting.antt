-- In a cycle each unit changes at most once, and acts by what it did before.
use Rattle.safl_circuit.proofs.Common.{Choice, Inv, LoopTo, Numbered, Program, Ready, Word, cases_eq, unit_for}
use Rattle.std.proofs.Common.{◌≡◌, ◌≢◌, ℕ, zero, suc, ◌<◌, ◌≤◌, List, [], ◌∷◌, ◌++◌, Bool, true, false, cond, is_some, refl, sym, ap, ◌∙◌, subst, inl, inr, ◌⊎◌, ⊎_elim, arith}
use Rattle.safl_circuit.proofs.Accepts.{Meets, asked_parts, not_idle}
use Rattle.safl_circuit.proofs.OneMove.{accept_on, finish_on, loop_on}
use Rattle.safl_circuit.specs.Equations.{Registers, Inputs, ret, go, returns, accepts, finishes, goes_on, cycle_events, end_word, loop_words}
use Rattle.safl_calls.proofs.Basics.{put_at, put_off}
use Rattle.safl_calls.specs.Cycles.{since_event, since_events, MayAct, MayAll}
use Rattle.safl_calls.specs.Machine.{State, Mode, Idle, Runs, Event, Accept, Finish, Return, LoopInto, Enabled, back, put, says, says_as}
use Rattle.safl_calls.specs.Picks.{picks}
use Rattle.safl_term.proofs.Apart.{not_loop}

module _ (C : Program) (c : ℕ) where
  since_append : (since : ℕ → ℕ) (xs ys : List Event) → since_events C c since (xs ++ ys) ≡ since_events C c (since_events C c since xs) ys
  unfolding since_events
  since_append since [] ys = refl
  since_append since (x ∷ xs) ys = since_append (since_event C c since x) xs ys

  may_append : (since : ℕ → ℕ) (xs ys : List Event) → MayAll C c since xs → MayAll C c (since_events C c since xs) ys → MayAll C c since (xs ++ ys)
  unfolding since_events MayAll
  may_append since [] ys h k = k
  may_append since (x ∷ xs) ys h k = (h.0, may_append (since_event C c since x) xs ys h.1 k)

  -- after the events of a cycle each unit may act in the next
  since_one : (since : ℕ → ℕ) (e : Event) (u : ℕ) → ((w : ℕ) → since w ≤ suc c) → since_event C c since e u ≤ suc c
  since_one since (Accept k) u h = put_low (unit_for C k)
    where
      put_low : (m : ℕ) → put since m (suc c) u ≤ suc c
      put_low m = ⊎_elim (λ e. let q = put_at since m u (suc c) e in omega (arith, q)) (λ e. let q = put_off since m u (suc c) e in omega (arith, q, h u)) (cases_eq m u)
  since_one since (Finish f) u h = put_low (C.unit f)
    where
      put_low : (m : ℕ) → put since m (suc c) u ≤ suc c
      put_low m = ⊎_elim (λ e. let q = put_at since m u (suc c) e in omega (arith, q)) (λ e. let q = put_off since m u (suc c) e in omega (arith, q, h u)) (cases_eq m u)
  since_one since (Return k) u h = h u
  since_one since (LoopInto f) u h = put_low (C.unit f)
    where
      put_low : (m : ℕ) → put since m (suc c) u ≤ suc c
      put_low m = ⊎_elim (λ e. let q = put_at since m u (suc c) e in omega (arith, q)) (λ e. let q = put_off since m u (suc c) e in omega (arith, q, h u)) (cases_eq m u)

  pub since_low : (since : ℕ → ℕ) (es : List Event) → ((w : ℕ) → since w ≤ suc c) → (u : ℕ) → since_events C c since es u ≤ suc c
  unfolding since_events
  since_low since [] h u = h u
  since_low since (e ∷ es) h u = since_low (since_event C c since e) es (λ w. since_one since e w h) u

  -- a unit that has changed in the cycle acts in the next
  late_one : (since : ℕ → ℕ) (e : Event) (u : ℕ) → since u ≡ suc c → since_event C c since e u ≡ suc c
  late_one since (Accept k) u h = ⊎_elim (λ e. put_at since (unit_for C k) u (suc c) e) (λ e. put_off since (unit_for C k) u (suc c) e ∙ h) (cases_eq (unit_for C k) u)
  late_one since (Finish f) u h = ⊎_elim (λ e. put_at since (C.unit f) u (suc c) e) (λ e. put_off since (C.unit f) u (suc c) e ∙ h) (cases_eq (C.unit f) u)
  late_one since (Return k) u h = h
  late_one since (LoopInto f) u h = ⊎_elim (λ e. put_at since (C.unit f) u (suc c) e) (λ e. put_off since (C.unit f) u (suc c) e ∙ h) (cases_eq (C.unit f) u)

  late_stays : (since : ℕ → ℕ) (es : List Event) (u : ℕ) → since u ≡ suc c → since_events C c since es u ≡ suc c
  unfolding since_events
  late_stays since [] u h = h
  late_stays since (e ∷ es) u h = late_stays (since_event C c since e) es u (late_one since e u h)

  -- events of one kind, by rising number: each changes one unit, and one unit acts
  module _ (p : ℕ → Bool) (e : ℕ → Event) (unit acts : ℕ → ℕ) (changes : (k : ℕ) (since : ℕ → ℕ) → since_event C c since (e k) ≡ put since (unit k) (suc c))
      (able : (k : ℕ) (since : ℕ → ℕ) → since (acts k) ≤ c → MayAct C c since (e k)) where
    one_since : (since : ℕ → ℕ) (n : ℕ) → since_events C c since (picks p e (suc n)) ≡ cond (p n) (put (since_events C c since (picks p e n)) (unit n) (suc c)) (since_events C c since (picks p e n))
    unfolding picks since_events
    one_since since n = since_append since (picks p e n) (cond (p n) (e n ∷ []) []) ∙ by (p n)
      where
        by : (b : Bool) → since_events C c (since_events C c since (picks p e n)) (cond b (e n ∷ []) []) ≡ cond b
            (put (since_events C c since (picks p e n)) (unit n) (suc c)) (since_events C c since (picks p e n))
        by true = changes n (since_events C c since (picks p e n))
        by false = refl

    -- a unit is as it was, or one of the events has changed it
    abbrev Changed : (ℕ → ℕ) → ℕ → ℕ → Type 0
    Changed since n u = (since_events C c since (picks p e n) u ≡ since u) ⊎ ((k : ℕ) × (k < n) × (p k ≡ true) × (unit k ≡ u))

    changed_more : (since : ℕ → ℕ) (n u : ℕ) → since_events C c since (picks p e (suc n)) u ≡ since_events C c since (picks p e n) u → Changed since n u → Changed since (suc n) u
    changed_more since n u q h = ⊎_elim (λ l. inl (q ∙ l)) (λ r. inr (r.0, omega (arith, r.1), r.2, r.3)) h

    changed_one : (since : ℕ → ℕ) (n u : ℕ) (b : Bool) → p n ≡ b → Changed since n u → Changed since (suc n) u
    changed_one since n u false down h = changed_more since n u
        (ap (λ (f : ℕ → ℕ). f u) (one_since since n) ∙ ap (λ b. cond b (put (since_events C c since (picks p e n)) (unit n) (suc c)) (since_events C c since (picks p e n)) u) down) h
    changed_one since n u true up h = ⊎_elim
        (λ same. inr (n, omega arith, up, same))
        (λ other. changed_more since n u
        (ap (λ (f : ℕ → ℕ). f u) (one_since since n) ∙ ap (λ b. cond b (put (since_events C c since (picks p e n)) (unit n) (suc c)) (since_events C c since (picks p e n)) u) up
        ∙ put_off (since_events C c since (picks p e n)) (unit n) u (suc c) other) h)
        (cases_eq (unit n) u)

    pub since_picks : (since : ℕ → ℕ) (n u : ℕ) → Changed since n u
    unfolding picks since_events
    since_picks since zero u = inl refl
    since_picks since (suc n) u = changed_one since n u (p n) refl (since_picks since n u)

    pub late_picks : (since : ℕ → ℕ) (n k : ℕ) → k < n → p k ≡ true → since_events C c since (picks p e n) (unit k) ≡ suc c
    unfolding picks since_events
    late_picks since zero k lt up = absurd (omega (arith, lt))
    late_picks since (suc n) k lt up = ⊎_elim
        (λ same.
        ap (λ (f : ℕ → ℕ). f (unit k)) (one_since since n)
        ∙ ap (λ b. cond b (put (since_events C c since (picks p e n)) (unit n) (suc c)) (since_events C c since (picks p e n)) (unit k)) (ap p (sym same) ∙ up)
        ∙ put_at (since_events C c since (picks p e n)) (unit n) (unit k) (suc c) (ap unit (sym same)))
        (λ other.
        ap (λ (f : ℕ → ℕ). f (unit k)) (since_append since (picks p e n) (cond (p n) (e n ∷ []) []))
        ∙ late_stays (since_events C c since (picks p e n)) (cond (p n) (e n ∷ []) []) (unit k) (late_picks since n k (omega (arith, lt, other)) up))
        (cases_eq k n)

    pub may_picks : (since : ℕ → ℕ) (n : ℕ) → ((k : ℕ) → k < n → p k ≡ true → since (acts k) ≤ c)
        → ((j k : ℕ) → j < k → k < n → p j ≡ true → p k ≡ true → unit j ≢ acts k) → MayAll C c since (picks p e n)
    unfolding picks MayAll
    may_picks since zero low apart = tt
    may_picks since (suc n) low apart =
        may_append since (picks p e n) (cond (p n) (e n ∷ []) [])
        (may_picks since n (λ k lt up. low k (omega (arith, lt)) up) (λ j k lt l a b. apart j k lt (omega (arith, l)) a b))
        (by (p n) refl)
      where
        by : (b : Bool) → p n ≡ b → MayAll C c (since_events C c since (picks p e n)) (cond b (e n ∷ []) [])
        by true up =
            let l = low n (omega arith) up in (
              able n (since_events C c since (picks p e n)) (⊎_elim
                  (λ same. omega (arith, same, l))
                  (λ r. absurd (apart r.0 n r.1 (omega arith) r.2 up r.3))
                  (since_picks since n (acts n))),
              tt,
            )
        by false down = tt

abbrev member_of : Mode → ℕ
member_of (Runs f k ws) = f
member_of _ = 0

runs_idle : (m : Mode) (f k : ℕ) (ws : List Word) → m ≡ Runs f k ws → m ≡ Idle → ⊥
runs_idle m f k ws e i = grind arith

same_loop : (h j : ℕ) (vs ws : List Word) → LoopTo h vs ≡ LoopTo j ws → h ≡ j
same_loop h j vs ws e = cc

ready_loops : (v : Word) (j : ℕ) (ws : List Word) → Ready v ≡ LoopTo j ws → ⊥
ready_loops v j ws e = grind arith

module _ (C : Program) (P : Choice) (args : List Word) (good : Numbered C) (r : Registers) (i : Inputs) (t : State) (inv : Inv C t) (meets : Meets C P args r i t)
    (c : ℕ) (since : ℕ → ℕ) (low : (u : ℕ) → since u ≤ c) where
  -- the acting units run after the Returns
  asker_runs : (k : ℕ) → Enabled C args t (Accept (suc k)) → t.unit (C.unit (C.caller (suc k))) ≡ Idle → ⊥
  asker_runs k on e =
      let w = asked_parts C args t k on.0 on.1 in
      not_idle C (back t) (t.unit (C.unit (C.caller (suc k)))) (C.caller (suc k)) (suc k) on.0 w.inner e

  looper_runs : (h : ℕ) → Enabled C args t (LoopInto h) → t.unit (C.unit h) ≡ Idle → ⊥
  looper_runs h on e = not_loop h on.0 (sym (ap (says_as C (back t)) e) ∙ on.1)

  abbrev accept_since : ℕ → ℕ
  accept_since = since_events C c since (accepts C P r i (suc C.sites))

  abbrev finish_since : ℕ → ℕ
  finish_since = since_events C c accept_since (finishes C P r C.functions)

  accept_able : (k : ℕ) (s : ℕ → ℕ) → s (C.unit (C.caller k)) ≤ c → MayAct C c s (Accept k)
  accept_able zero s h = tt
  accept_able (suc k) s h = h

  -- no unit that acts is started in the cycle
  not_begun : (u : ℕ) → (t.unit u ≡ Idle → ⊥) → accept_since u ≤ c
  not_begun u busy = ⊎_elim
      (λ same. let l = low u in omega (arith, same, l))
      (λ k. absurd (busy (sym (ap t.unit k.3) ∙ (accept_on C P args good r i t inv meets k.0 k.2).2)))
      (since_picks C c (go C P r i) Accept (unit_for C) (λ k. C.unit (C.caller k)) (λ k s. refl) accept_able since (suc C.sites) u)

  may_accept : MayAll C c since (accepts C P r i (suc C.sites))
  may_accept = may_picks C c (go C P r i) Accept (unit_for C) (λ k. C.unit (C.caller k)) (λ k s. refl) accept_able since (suc C.sites)
      (λ k lt up. low (C.unit (C.caller k))) apart
    where
      apart : (j k : ℕ) → j < k → k < suc C.sites → go C P r i j ≡ true → go C P r i k ≡ true → unit_for C j ≢ C.unit (C.caller k)
      apart j zero lt l a b e = absurd (omega (arith, lt))
      apart j (suc k) lt l a b e = asker_runs k (accept_on C P args good r i t inv meets (suc k) b) (sym (ap t.unit e) ∙ (accept_on C P args good r i t inv meets j a).2)

  may_finish : MayAll C c accept_since (finishes C P r C.functions)
  may_finish = may_picks C c (λ f. is_some (end_word C P r f)) Finish C.unit C.unit (λ k s. refl) (λ k s h. h) accept_since C.functions
      (λ f lt up. let on = finish_on C P args good r i t inv meets f lt up in not_begun (C.unit f) (λ e. runs_idle _ f on.0 on.1 on.3 e))
      (λ j k lt l a b e.
      let x = finish_on C P args good r i t inv meets j (omega (arith, lt, l)) a in
      let y = finish_on C P args good r i t inv meets k l b in
      let same : j ≡ k = ap member_of (sym x.3 ∙ ap t.unit e ∙ y.3) in
      absurd (omega (arith, same, lt)))

  may_loop : MayAll C c finish_since (goes_on C P r C.functions)
  may_loop = may_picks C c (λ h. is_some (loop_words C P r h)) LoopInto C.unit C.unit (λ k s. refl) (λ k s h. h) finish_since C.functions
      (λ h lt up. let on = loop_on C P args good r i t inv meets h up in ⊎_elim
      (λ same. let l = not_begun (C.unit h) (looper_runs h on) in omega (arith, same, l))
      (λ f.
      let x = finish_on C P args good r i t inv meets f.0 f.1 f.2 in
      absurd (ready_loops x.2 h on.0 (sym x.4 ∙ ap (says C t) f.3 ∙ on.1)))
      (since_picks C c (λ f. is_some (end_word C P r f)) Finish C.unit C.unit (λ k s. refl) (λ k s h. h) accept_since C.functions (C.unit h)))
      (λ j k lt l a b e.
      let x = loop_on C P args good r i t inv meets j a in
      let y = loop_on C P args good r i t inv meets k b in
      let same = same_loop j k x.0 y.0 (sym x.1 ∙ ap (says C t) e ∙ y.1) in
      absurd (omega (arith, same, lt)))

  returns_since : (n : ℕ) → since_events C c since (picks (ret C r) Return n) ≡ since
  unfolding picks since_events
  returns_since zero = refl
  returns_since (suc n) = since_append C c since (picks (ret C r) Return n) (cond (ret C r n) (Return n ∷ []) [])
      ∙ ap (λ s. since_events C c s (cond (ret C r n) (Return n ∷ []) [])) (returns_since n) ∙ by (ret C r n)
    where
      by : (b : Bool) → since_events C c since (cond b (Return n ∷ []) []) ≡ since
      by true = refl
      by false = refl

  may_return : (n : ℕ) → MayAll C c since (picks (ret C r) Return n)
  unfolding picks MayAll since_events
  may_return zero = tt
  may_return (suc n) = may_append C c since (picks (ret C r) Return n) (cond (ret C r n) (Return n ∷ []) []) (may_return n)
      (subst (λ s. MayAll C c s (cond (ret C r n) (Return n ∷ []) [])) (sym (returns_since n)) (by (ret C r n)))
    where
      by : (b : Bool) → MayAll C c since (cond b (Return n ∷ []) [])
      by true = (low (unit_for C n), tt)
      by false = tt

  pub may_all : MayAll C c since (cycle_events C P r i)
  may_all =
      may_append C c since (returns C r (suc C.sites)) (accepts C P r i (suc C.sites) ++ (finishes C P r C.functions ++ goes_on C P r C.functions))
      (may_return (suc C.sites))
      (subst (λ s. MayAll C c s (accepts C P r i (suc C.sites) ++ (finishes C P r C.functions ++ goes_on C P r C.functions))) (sym (returns_since (suc C.sites)))
      (may_append C c since (accepts C P r i (suc C.sites)) (finishes C P r C.functions ++ goes_on C P r C.functions) may_accept
      (may_append C c accept_since (finishes C P r C.functions) (goes_on C P r C.functions) may_finish may_loop)))

  -- what has changed in the cycle acts in the next
  abbrev pub since_next : ℕ → ℕ
  since_next = since_events C c since (cycle_events C P r i)

  abbrev rest : List Event
  rest = finishes C P r C.functions ++ goes_on C P r C.functions

  after_accepts : (u : ℕ) → accept_since u ≡ suc c → since_next u ≡ suc c
  after_accepts u h =
      ap (λ (f : ℕ → ℕ). f u)
      (since_append C c since (returns C r (suc C.sites)) (accepts C P r i (suc C.sites) ++ rest)
      ∙ ap (λ s. since_events C c s (accepts C P r i (suc C.sites) ++ rest)) (returns_since (suc C.sites))
      ∙ since_append C c since (accepts C P r i (suc C.sites)) rest)
      ∙ late_stays C c accept_since rest u h

  after_finishes : (u : ℕ) → finish_since u ≡ suc c → since_next u ≡ suc c
  after_finishes u h =
      ap (λ (f : ℕ → ℕ). f u)
      (since_append C c since (returns C r (suc C.sites)) (accepts C P r i (suc C.sites) ++ rest)
      ∙ ap (λ s. since_events C c s (accepts C P r i (suc C.sites) ++ rest)) (returns_since (suc C.sites))
      ∙ since_append C c since (accepts C P r i (suc C.sites)) rest
      ∙ since_append C c accept_since (finishes C P r C.functions) (goes_on C P r C.functions))
      ∙ late_stays C c finish_since (goes_on C P r C.functions) u h

  after_loops : (u : ℕ) → since_events C c finish_since (goes_on C P r C.functions) u ≡ suc c → since_next u ≡ suc c
  after_loops u h =
      ap (λ (f : ℕ → ℕ). f u)
      (since_append C c since (returns C r (suc C.sites)) (accepts C P r i (suc C.sites) ++ rest)
      ∙ ap (λ s. since_events C c s (accepts C P r i (suc C.sites) ++ rest)) (returns_since (suc C.sites))
      ∙ since_append C c since (accepts C P r i (suc C.sites)) rest
      ∙ since_append C c accept_since (finishes C P r C.functions) (goes_on C P r C.functions))
      ∙ h

  pub accept_late : (k : ℕ) → k ≤ C.sites → go C P r i k ≡ true → since_next (unit_for C k) ≡ suc c
  accept_late k le up = after_accepts (unit_for C k) (late_picks C c (go C P r i) Accept (unit_for C) (λ k. C.unit (C.caller k)) (λ k s. refl) accept_able since (suc C.sites) k (omega (arith, le)) up)

  pub finish_late : (f : ℕ) → f < C.functions → is_some (end_word C P r f) ≡ true → since_next (C.unit f) ≡ suc c
  finish_late f lt up = after_finishes (C.unit f) (late_picks C c (λ f. is_some (end_word C P r f)) Finish C.unit C.unit (λ k s. refl) (λ k s h. h) accept_since C.functions f lt up)

  pub loop_late : (h : ℕ) → h < C.functions → is_some (loop_words C P r h) ≡ true → since_next (C.unit h) ≡ suc c
  loop_late h lt up = after_loops (C.unit h) (late_picks C c (λ h. is_some (loop_words C P r h)) LoopInto C.unit C.unit (λ k s. refl) (λ k s h. h) finish_since C.functions h lt up)
