-- The Returns of a cycle.
use Rattle.safl_circuit.proofs.Common.{Choice, Inv, Numbered, Program, Returned, Sent, Stage, Unsent, Word, same_Some, unit_for}
use Rattle.std.proofs.Common.{◌≡◌, ℕ, zero, suc, ◌<◌, List, true, false, cond, ◌&&◌, nat_lt, refl, sym, ap, ◌∙◌, subst, ⊎_elim, arith}
use Rattle.std.proofs.lemmas.Bool.{cases_Bool, cases_eq, lt-ltb, le-ltb, ltb-true, ltb-false, and_parts, not-true, false≢true, true≢false, and_right}
use Rattle.safl_circuit.specs.Equations.{Registers, ret, returns}
use Rattle.safl_circuit.specs.Steps.{Shows, is_delivering, was_sent, is_returned}
use Rattle.safl_calls.proofs.Basics.{put_at, put_off, sweep}
use Rattle.safl_calls.specs.Machine.{State, Mode, Idle, Runs, Delivers, Return, Enabled, Legal, after_event, fire, put}
use Rattle.safl_calls.proofs.Basics.{serves}

pub delivering : (m : Mode) → is_delivering m ≡ true → (k : ℕ) × (v : Word) × (m ≡ Delivers k v)
delivering Idle h = absurd (false≢true h)
delivering (Runs f k ws) h = absurd (false≢true h)
delivering (Delivers k v) h = (k, v, refl)

pub in_flight : (x : Stage) → was_sent x ≡ true → is_returned x ≡ false → x ≡ Sent
in_flight Unsent h g = absurd (false≢true h)
in_flight Sent h g = refl
in_flight (Returned v) h g = absurd (true≢false g)

-- a unit after the returns below n
abbrev pub home : ℕ → Mode → Mode
home n Idle = Idle
home n (Runs f k ws) = Runs f k ws
home n (Delivers k v) = cond (nat_lt k n) Idle (Delivers k v)

home_none : (m : Mode) → m ≡ home 0 m
home_none Idle = refl
home_none (Runs f k ws) = refl
home_none (Delivers k v) = rw (le-ltb k 0 (omega arith)) refl

module _ (C : Program) (P : Choice) (args : List Word) (good : Numbered C) (r : Registers) (s : State) (inv : Inv C s) (shows : Shows C P s r) where
  -- a site after the returns below n
  abbrev pub came : ℕ → ℕ → Stage
  came n k = cond (nat_lt k n && ret C r k) (Returned (r.res (unit_for C k))) (s.site k)

  pub record Back (n : ℕ) (t : State) : Type 0 where
    pub unit : (u : ℕ) → t.unit u ≡ home n (s.unit u)
    pub site : (k : ℕ) → t.site k ≡ came n k

  -- a ret wire is up exactly where the unit delivers to that site
  pub ret_delivers : (k : ℕ) → ret C r k ≡ true → (v : Word) × (s.unit (unit_for C k) ≡ Delivers k v)
  ret_delivers zero h =
      let e : unit_for C 0 ≡ C.unit C.main = ap C.unit good.outside in
      let d = delivering (s.unit (C.unit C.main)) (sym (shows.fin (C.unit C.main)) ∙ h) in
      let sv = inv.serving (C.unit C.main) d.0 (ap serves d.2) in
      let none : d.0 ≡ 0 = ⊎_elim (λ z. z) (λ nz. absurd (good.main_last d.0 (omega (arith, nz)) sv.2 sv.1)) (cases_eq d.0 0) in
      (d.1, ap s.unit e ∙ d.2 ∙ ap (λ j. Delivers j d.1) none)
  ret_delivers (suc k) h =
      let a = and_parts _ _ h in
      let b = and_parts _ _ a.1 in
      let u = unit_for C (suc k) in
      let d = delivering (s.unit u) (sym (shows.fin u) ∙ a.0) in
      let f = in_flight (s.site (suc k)) (sym (shows.sent (suc k) (omega arith)) ∙ b.0) (sym (shows.got (suc k) (omega arith)) ∙ not-true _ b.1) in
      let sv = inv.flight (suc k) f in
      let same : d.0 ≡ suc k = same_Some d.0 (suc k) (sym (ap serves d.2) ∙ sv) in
      (d.1, d.2 ∙ ap (λ j. Delivers j d.1) same)

  pub delivers_ret : (u k : ℕ) (v : Word) → s.unit u ≡ Delivers k v → ret C r k ≡ true
  delivers_ret u zero v h =
      let sv = inv.serving u 0 (ap serves h) in
      let e : C.unit C.main ≡ u = sym (ap C.unit good.outside) ∙ sv.1 in
      shows.fin (C.unit C.main) ∙ ap is_delivering (ap s.unit e ∙ h)
  delivers_ret u (suc k) v h =
      let sv = inv.serving u (suc k) (ap serves h) in
      let fin : r.fin (unit_for C (suc k)) ≡ true = shows.fin _ ∙ ap is_delivering (ap s.unit sv.1 ∙ h) in
      let sent : r.sent (suc k) ≡ true = shows.sent (suc k) (omega arith) ∙ ap was_sent sv.0 in
      let got : r.got (suc k) ≡ false = shows.got (suc k) (omega arith) ∙ ap is_returned sv.0 in
      rw (fin, sent, got)

  -- a unit that does not deliver to n is as before
  home_more : (n : ℕ) (m : Mode) → ((v : Word) → m ≡ Delivers n v → ⊥) → home n m ≡ home (suc n) m
  home_more n Idle other = refl
  home_more n (Runs f k ws) other = refl
  home_more n (Delivers k v) other =
      let apart : k ≡ n → ⊥ = λ e. other v (ap (λ j. Delivers j v) e) in
      let same : nat_lt k n ≡ nat_lt k (suc n) = ⊎_elim (λ t. t ∙ sym (lt-ltb k (suc n) (omega (arith, ltb-true k n t))))
      (λ f. f ∙ sym (le-ltb k (suc n) (omega (arith, ltb-false k n f, apart)))) (cases_Bool (nat_lt k n)) in
      ap (λ b. cond b Idle (Delivers k v)) same

  came_more : (n k : ℕ) → (k ≡ n → ⊥) → came n k ≡ came (suc n) k
  came_more n k apart =
      let same : nat_lt k n ≡ nat_lt k (suc n) = ⊎_elim (λ t. t ∙ sym (lt-ltb k (suc n) (omega (arith, ltb-true k n t))))
      (λ f. f ∙ sym (le-ltb k (suc n) (omega (arith, ltb-false k n f, apart)))) (cases_Bool (nat_lt k n)) in
      ap (λ b. cond (b && ret C r k) (Returned (r.res (unit_for C k))) (s.site k)) same

  came_down : (n k : ℕ) → ret C r k ≡ false → came n k ≡ s.site k
  came_down n k h = ap (λ b. cond b (Returned (r.res (unit_for C k))) (s.site k)) (and_right (nat_lt k n) (ret C r k) h)

  returns_fire : (n : ℕ) (t : State) → n < suc C.sites → Back n t → ret C r n ≡ true → Enabled C args t (Return n) × Back (suc n) (fire C args t (Return n))
  returns_fire n t lt b up =
      let w = unit_for C n in
      let d = ret_delivers n up in
      let stays : home n (Delivers n d.0) ≡ Delivers n d.0 = rw (le-ltb n n (omega arith)) in
      let at : t.unit w ≡ Delivers n d.0 = b.unit w ∙ ap (home n) d.1 ∙ stays in
      ((d.0, at), rw at (record { unit = units w d at; site = sites d }))
    where
      units : (w : ℕ) → (d : (v : Word) × (s.unit (unit_for C n) ≡ Delivers n v)) → t.unit (unit_for C n) ≡ Delivers n d.0 → (u : ℕ) → put t.unit (unit_for C n) Idle u ≡ home (suc n) (s.unit u)
      units w d at u = ⊎_elim
          (λ same. put_at t.unit (unit_for C n) u Idle same ∙ sym (ap (home (suc n)) (ap s.unit (sym same) ∙ d.1) ∙ (rw (lt-ltb n (suc n) (omega arith)))))
          (λ other. put_off t.unit (unit_for C n) u Idle other ∙ b.unit u ∙ home_more n (s.unit u) (λ v e. other ((inv.serving u n (ap serves e)).1)))
          (cases_eq (unit_for C n) u)

      sites : (d : (v : Word) × (s.unit (unit_for C n) ≡ Delivers n v)) → (k : ℕ) → put t.site n (Returned d.0) k ≡ came (suc n) k
      sites d k = ⊎_elim
          (λ same. put_at t.site n k (Returned d.0) same ∙ subst (λ j. Returned d.0 ≡ came (suc n) j) same
          (rw (lt-ltb n (suc n) (omega arith), up) (ap Returned (sym (shows.res (unit_for C n) n d.0 d.1)))))
          (λ other. put_off t.site n k (Returned d.0) other ∙ b.site k ∙ came_more n k (λ e. other (sym e)))
          (cases_eq n k)

  returns_skip : (n : ℕ) (t : State) → n < suc C.sites → Back n t → ret C r n ≡ false → Back (suc n) t
  returns_skip n t lt b down = record {
    unit = λ u. b.unit u ∙ home_more n (s.unit u) (λ v e. true≢false (sym (delivers_ret u n v e) ∙ down));
    site = λ k. b.site k ∙ ⊎_elim (λ same. came_down n k (ap (ret C r) same ∙ down) ∙ sym (came_down (suc n) k (ap (ret C r) same ∙ down))) (λ other. came_more n k other) (cases_eq k n);
  }

  pub returned : Legal C args s (returns C r (suc C.sites)) × Back (suc C.sites) (after_event C args s (returns C r (suc C.sites)))
  returned =
      let first : Back 0 s = record { unit = λ u. home_none (s.unit u); site = λ k. rw (le-ltb k 0 (omega arith)) refl } in
      sweep C args Back (ret C r) Return (suc C.sites) returns_fire returns_skip s first (suc C.sites) (omega arith)
