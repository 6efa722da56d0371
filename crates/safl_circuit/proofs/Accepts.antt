-- The Accepts of a cycle.
use Rattle.safl_circuit.proofs.Common.{Choice, Inv, Numbered, Program, bytes_eq-Decides, fun_ext, is_delivering, is_running, none_of}
use Rattle.safl_circuit.proofs.Common.{same_Some, sent_unsent, unit_for, unwrap_or}
use Rattle.std.proofs.Common.{◌≡◌, ℕ, zero, suc, ◌<◌, ◌≤◌, List, [], Option, Some, None, Bool, true, false, cond, not, ◌&&◌, ◌==◌, nat_lt}
use Rattle.std.proofs.Common.{nat_le, is_some, refl, sym, ap, ◌∙◌, subst, inl, inr, ⊎_elim, ◌⊎◌, arith}
use Rattle.std.proofs.lemmas.Bool.{cases_Bool, cases_eq, cases_order, eqb-true, eq-eqb, le-ltb, leb-true, and_parts, not-true, true≢false}
use Rattle.safl_circuit.proofs.Middle.{member_says}
use Rattle.safl_circuit.specs.Equations.{Registers, Inputs, accepts, body_says, body_wants, want, wants_at, go, go_words}
use Rattle.safl_circuit.proofs.Searched.{go_in}
use Rattle.safl_calls.proofs.Basics.{put_at, put_off, sweep, first_none, first_only, first_skip, first_zero, all_none, some_none, some_of}
use Rattle.safl_calls.proofs.Basics.{cond_some, unsent_is, mask_other, mask_skip, mask_at}
use Rattle.safl_calls.specs.Machine.{State, Mode, Idle, Runs, Delivers, Accept, Enabled, Legal, after_event, fire, put, back, asked, asked_as, is_unsent}
use Rattle.safl_calls.proofs.Basics.{serves}
use Rattle.safl_calls.specs.Picks.{first}
use Rattle.safl_calls.specs.Interference.{Busy}
use Rattle.safl_term.specs.Readiness.{Unsent, Sent, back_word}
use Rattle.safl_word.specs.Words.{Word, widths}
use Rattle.std.specs.Str.{bytes_eq}

-- the wires of a cycle say what the state after its Returns says
pub record Meets (C : Program) (P : Choice) (args : List Word) (r : Registers) (i : Inputs) (t : State) : Type 0 where
  pub says : (f : ℕ) → f < C.functions → body_says C P r f ≡ member_says C (back t) (t.unit (C.unit f)) f
  pub wants : (k : ℕ) → body_wants C P r (suc k) ≡ asked C args t (suc k)
  pub run : (u : ℕ) → r.run u ≡ is_running (t.unit u)
  pub rest : (u : ℕ) → is_delivering (t.unit u) ≡ false
  pub start : i.start ≡ true → (t.site 0 ≡ Unsent) × (i.words ≡ args) × (widths args ≡ C.params C.main)
  pub one : (j k : ℕ) → 0 < j → 0 < k → unit_for C j ≡ unit_for C k → P.arbiter (unit_for C j) ≡ false → Busy C args t j → Busy C args t k → j ≡ k

pub idle_if : (m : Mode) → is_running m ≡ false → is_delivering m ≡ false → m ≡ Idle
idle_if Idle a b = refl
idle_if (Runs f k ws) a b = absurd (true≢false a)
idle_if (Delivers k v) a b = absurd (true≢false b)

-- what asked needs
pub record Wanted (C : Program) (args : List Word) (t : State) (k : ℕ) (ws : List Word) : Type 0 where
  pub unsent : t.site (suc k) ≡ Unsent
  pub within : suc k ≤ C.sites
  pub inner : asked_as C (back t) (t.unit (C.unit (C.caller (suc k)))) (C.caller (suc k)) (suc k) ≡ Some ws

pub asked_parts : (C : Program) (args : List Word) (t : State) (k : ℕ) (ws : List Word) → asked C args t (suc k) ≡ Some ws → Wanted C args t k ws
asked_parts C args t k ws h =
    let a = cond_some _ _ ws h in
    let b = and_parts _ _ a.0 in
    record { unsent = unsent_is (t.site (suc k)) b.0; within = leb-true (suc k) C.sites b.1; inner = a.1 }

-- an asking caller runs
pub not_idle : (C : Program) (words : ℕ → Option Word) (m : Mode) (f k : ℕ) (ws : List Word) → asked_as C words m f k ≡ Some ws → m ≡ Idle → ⊥
not_idle C words Idle f k ws h e = some_none ws (sym h)
not_idle C words (Runs g j vs) f k ws h e = grind arith
not_idle C words (Delivers j v) f k ws h e = some_none ws (sym h)

module _ (C : Program) (P : Choice) (args : List Word) (good : Numbered C) (r : Registers) (i : Inputs) (t : State) (inv : Inv C t) (meets : Meets C P args r i t) where
  go_wants : (k : ℕ) → go C P r i (suc k) ≡ true → want C P r (suc k) ≡ true
  unfolding go
  go_wants k h = by (P.arbiter (unit_for C (suc k))) h
    where
      by : (b : Bool) → cond b (want C P r (suc k) && (not (r.run (unit_for C (suc k))) && not
          (is_some (first (wants_at C P r (unit_for C (suc k))) (suc k))))) (want C P r (suc k)) ≡ true → want C P r (suc k) ≡ true
      by true h = (and_parts _ _ h).0
      by false h = h

  go_arb : (k : ℕ) → go C P r i (suc k) ≡ true → P.arbiter (unit_for C (suc k)) ≡ true → (r.run (unit_for C (suc k)) ≡ false) × (first (wants_at C P r (unit_for C (suc k))) (suc k) ≡ None)
  unfolding go
  go_arb k h arbiter =
      let h' : cond true (want C P r (suc k) && (not (r.run (unit_for C (suc k))) && not
      (is_some (first (wants_at C P r (unit_for C (suc k))) (suc k))))) (want C P r (suc k)) ≡ true = subst
      (λ b. cond b (want C P r (suc k) && (not (r.run (unit_for C (suc k))) && not
      (is_some (first (wants_at C P r (unit_for C (suc k))) (suc k))))) (want C P r (suc k)) ≡ true) arbiter h in
      let a = and_parts _ _ (and_parts _ _ h').1 in
      (not-true _ a.0, none_of _ (not-true _ a.1))

  go_main : go C P r i 0 ≡ true → (i.start ≡ true) × (r.run (C.unit C.main) ≡ false)
  unfolding go
  go_main h = let a = and_parts _ _ h in (a.0, not-true _ a.1)

  -- the words of a go
  pub go_asks : (k : ℕ) → go C P r i k ≡ true → (ws : List Word) × (asked C args t k ≡ Some ws) × (go_words C P r i k ≡ Some ws)
  go_asks zero h =
      let st = meets.start (go_main h).0 in
      (args, rw (st.0, (bytes_eq-Decides (widths args) (C.params C.main)).1 st.2) refl, rw h (ap Some st.1))
  go_asks (suc k) h =
      let w = some_of (body_wants C P r (suc k)) (go_wants k h) in
      (w.0, sym (meets.wants k) ∙ w.1, rw h w.1)

  parts_of : (k : ℕ) → go C P r i (suc k) ≡ true → (ws : List Word) × Wanted C args t k ws
  parts_of k h = let a = go_asks (suc k) h in (a.0, asked_parts C args t k a.0 a.1)

  pub go_within : (k : ℕ) → go C P r i k ≡ true → k ≤ C.sites
  go_within zero h = omega arith
  go_within (suc k) h = (parts_of k h).1.within

  -- a unit at which a call goes is idle
  pub go_idle : (k : ℕ) → go C P r i k ≡ true → t.unit (unit_for C k) ≡ Idle
  go_idle zero h =
      let e : unit_for C 0 ≡ C.unit C.main = ap C.unit good.outside in
      ap t.unit e ∙ idle_if _ (sym (meets.run (C.unit C.main)) ∙ (go_main h).1) (meets.rest (C.unit C.main))
  go_idle (suc k) h = idle_if _ (by (P.arbiter w) refl) (meets.rest w)
    where
      w : ℕ
      w = unit_for C (suc k)

      p : (ws : List Word) × Wanted C args t k ws
      p = parts_of k h

      served : (m : Mode) → t.unit w ≡ m → P.arbiter w ≡ false → is_running m ≡ false
      served Idle e no_arb = refl
      served (Delivers j v) e no_arb = refl
      served (Runs f zero ws) e no_arb =
          let sv = inv.serving w 0 (ap serves e) in
          absurd (good.main_last (suc k) (omega arith) p.1.within (sym sv.1 ∙ ap C.unit good.outside))
      served (Runs f (suc j) ws) e no_arb =
          let sv = inv.serving w (suc j) (ap serves e) in
          let same = meets.one (suc j) (suc k) (omega arith) (omega arith) sv.1 (ap P.arbiter sv.1 ∙ no_arb) (inr sv.0) (inl ((go_asks (suc k) h).0, (go_asks (suc k) h).1)) in
          absurd (sent_unsent (sym sv.0 ∙ ap t.site same ∙ p.1.unsent))

      by : (b : Bool) → P.arbiter w ≡ b → is_running (t.unit w) ≡ false
      by true e = sym (meets.run w) ∙ (go_arb k h e).0
      by false e = served (t.unit w) refl e

  -- one call goes at a unit
  pub go_one : (j k : ℕ) → go C P r i j ≡ true → go C P r i k ≡ true → unit_for C j ≡ unit_for C k → j ≡ k
  go_one zero zero a b e = refl
  go_one zero (suc k) a b e = absurd (good.main_last (suc k) (omega arith) (go_within (suc k) b) (sym e ∙ ap C.unit good.outside))
  go_one (suc j) zero a b e = absurd (good.main_last (suc j) (omega arith) (go_within (suc j) a) (e ∙ ap C.unit good.outside))
  go_one (suc j) (suc k) a b e = by (P.arbiter (unit_for C (suc j))) refl
    where
      lower : (j k : ℕ) → go C P r i (suc j) ≡ true → go C P r i (suc k) ≡ true → unit_for C (suc j) ≡ unit_for C (suc k) → P.arbiter (unit_for C (suc k)) ≡ true → j < k → ⊥
      lower j k a b e arbiter lt =
          let no = first_none _ (suc k) (go_arb k b arbiter).1 (suc j) (omega (arith, lt)) in
          let there : wants_at C P r (unit_for C (suc k)) (suc j) ≡ Some (suc j) = rw (eq-eqb _ _ e, go_wants j a) refl in
          some_none (suc j) (sym there ∙ no)

      by : (b' : Bool) → P.arbiter (unit_for C (suc j)) ≡ b' → suc j ≡ suc k
      by true arbiter = ⊎_elim (λ same. ap suc same) (λ d. ⊎_elim (λ lt. absurd (lower j k a b e (sym (ap P.arbiter e) ∙ arbiter) lt))
          (λ gt. absurd (lower k j b a (sym e) arbiter gt)) d) (cases_order j k)
      by false no_arb = meets.one (suc j) (suc k) (omega arith) (omega arith) e no_arb (inl ((go_asks (suc j) a).0, (go_asks (suc j) a).1)) (inl ((go_asks (suc k) b).0, (go_asks (suc k) b).1))

  -- a unit after the accepts that were found, and a site after those below n
  abbrev pub words_of : ℕ → List Word
  words_of k = unwrap_or (go_words C P r i k) []

  abbrev pub begun : Option ℕ → Mode → Mode
  begun None m = m
  begun (Some k) m = Runs (C.callee k) k (words_of k)

  pub record Started (n : ℕ) (x : State) : Type 0 where
    pub unit : (u : ℕ) → x.unit u ≡ begun (first (go_in C P r i u) n) (t.unit u)
    pub site : (k : ℕ) → x.site k ≡ cond (nat_lt k n && go C P r i k) Sent (t.site k)

  pub go_off : (u k : ℕ) → (unit_for C k ≡ u → go C P r i k ≡ true → ⊥) → go_in C P r i u k ≡ None
  go_off u k never = by (cases_Bool (unit_for C k == u && go C P r i k))
    where
      by : ((unit_for C k == u && go C P r i k) ≡ true) ⊎ ((unit_for C k == u && go C P r i k) ≡ false) → go_in C P r i u k ≡ None
      by (inl h) = let a = and_parts _ _ h in absurd (never (eqb-true _ u a.0) a.1)
      by (inr h) = rw h refl

  pub go_found : (u k j : ℕ) → go_in C P r i u k ≡ Some j → (j ≡ k) × (unit_for C k ≡ u) × (go C P r i k ≡ true)
  go_found u k j h =
      let a = cond_some _ _ j h in
      let b = and_parts _ _ a.0 in
      (sym (same_Some k j a.1), eqb-true _ u b.0, b.1)

  -- the one call that goes at a unit
  pub starts_at : (k n u : ℕ) → k < n → go C P r i k ≡ true → unit_for C k ≡ u → first (go_in C P r i u) n ≡ Some k
  starts_at k n u lt up e = first_only (go_in C P r i u) n k k lt (rw (eq-eqb (unit_for C k) u e, up) refl) (λ j lt' y h. let f = go_found u j y h in f.0 ∙ go_one j k f.2 up (f.1 ∙ sym e))

  -- a unit that is not idle after the returns is not started
  pub not_started : (u n : ℕ) → (t.unit u ≡ Idle → ⊥) → first (go_in C P r i u) n ≡ None
  not_started u n busy = all_none (go_in C P r i u) n (λ k lt. go_off u k (λ e up. busy (sym (ap t.unit e) ∙ go_idle k up)))

  -- accepts change no returned word
  pub back_same : (n : ℕ) (x : State) → Started n x → (k : ℕ) → back x k ≡ back t k
  back_same n x st zero = refl
  back_same n x st (suc k) = ap back_word (st.site (suc k)) ∙ by (nat_lt (suc k) n && go C P r i (suc k)) refl
    where
      by : (b : Bool) → (nat_lt (suc k) n && go C P r i (suc k)) ≡ b → back_word (cond b Sent (t.site (suc k))) ≡ back_word (t.site (suc k))
      by true h = sym (ap back_word (parts_of k (and_parts _ _ h).1).1.unsent)
      by false h = refl

  site_later : (n : ℕ) (x : State) → Started n x → x.site n ≡ t.site n
  site_later n x st = st.site n ∙ rw (le-ltb n n (omega arith)) refl

  pub asked_same : (n : ℕ) (x : State) → Started n x → (ws : List Word) → asked C args t n ≡ Some ws → asked C args x n ≡ Some ws
  asked_same zero x st ws h = ap (λ y. cond (is_unsent y && bytes_eq (widths args) (C.params C.main)) (Some args) None) (site_later 0 x st) ∙ h
  asked_same (suc n) x st ws h =
      let p = asked_parts C args t n ws h in
      let f = C.caller (suc n) in
      let u = C.unit f in
      let same : x.unit u ≡ t.unit u = st.unit u ∙ ap (λ o. begun o (t.unit u)) (not_started u (suc n) (λ e. not_idle C (back t) (t.unit u) f (suc n) ws p.inner e)) in
      let words : back x ≡ back t = fun_ext (back_same (suc n) x st) in
      ap (λ y. cond (is_unsent y && nat_le (suc n) C.sites) (asked_as C (back x) (x.unit u) f (suc n)) None) (site_later (suc n) x st)
      ∙ ap (λ b. cond (is_unsent (t.site (suc n)) && nat_le (suc n) C.sites) (asked_as C b (x.unit u) f (suc n)) None) words
      ∙ ap (λ m. cond (is_unsent (t.site (suc n)) && nat_le (suc n) C.sites) (asked_as C (back t) m f (suc n)) None) same
      ∙ h

  accept_fires : (n : ℕ) (x : State) → n < suc C.sites → Started n x → go C P r i n ≡ true → Enabled C args x (Accept n) × Started (suc n) (fire C args x (Accept n))
  accept_fires n x lt st up =
      let a = go_asks n up in
      let now = asked_same n x st a.0 a.1 in
      let w = unit_for C n in
      let none = none_below in
      let idle : x.unit w ≡ Idle = st.unit w ∙ ap (λ o. begun o (t.unit w)) none ∙ go_idle n up in
      ((a.0, now, idle), rw now (record { unit = units a.0 a.2; site = sites a.0 }))
    where
      none_below : first (go_in C P r i (unit_for C n)) n ≡ None
      none_below = all_none _ n (λ k lt. go_off (unit_for C n) k (λ e upk. omega (arith, go_one k n upk up e, lt)))

      units : (ws : List Word) → go_words C P r i n ≡ Some ws → (u : ℕ) → put x.unit (unit_for C n) (Runs (C.callee n) n ws) u ≡ begun (first (go_in C P r i u) (suc n)) (t.unit u)
      units ws words u = ⊎_elim
          (λ same. put_at x.unit (unit_for C n) u (Runs (C.callee n) n ws) same ∙ sym
          (ap (λ o. begun o (t.unit u)) (starts_at n (suc n) u (omega arith) up same) ∙ ap (λ o. Runs (C.callee n) n (unwrap_or o [])) words))
          (λ other. put_off x.unit (unit_for C n) u (Runs (C.callee n) n ws) other ∙ st.unit u ∙ ap (λ o. begun o (t.unit u))
          (sym (first_skip (go_in C P r i u) n (go_off u n (λ e. absurd (other e))))))
          (cases_eq (unit_for C n) u)

      sites : (ws : List Word) → (k : ℕ) → put x.site n Sent k ≡ cond (nat_lt k (suc n) && go C P r i k) Sent (t.site k)
      sites ws k = ⊎_elim
          (λ same. put_at x.site n k Sent same ∙ subst (λ k. Sent ≡ cond (nat_lt k (suc n) && go C P r i k) Sent (t.site k)) same (sym (mask_at n (go C P r i n) Sent (t.site n) up)))
          (λ other. put_off x.site n k Sent other ∙ st.site k ∙ mask_other n k (go C P r i k) Sent (t.site k) (λ e. other (sym e)))
          (cases_eq n k)

  accept_skips : (n : ℕ) (x : State) → n < suc C.sites → Started n x → go C P r i n ≡ false → Started (suc n) x
  accept_skips n x lt st down = record {
    unit = λ u. st.unit u ∙ ap (λ o. begun o (t.unit u)) (sym (first_skip (go_in C P r i u) n (go_off u n (λ e up. absurd (true≢false (sym up ∙ down))))));
    site = λ k. st.site k ∙ mask_skip n k (go C P r i) Sent (t.site k) down;
  }

  pub accepted_to : (n : ℕ) → n ≤ suc C.sites → Legal C args t (accepts C P r i n) × Started n (after_event C args t (accepts C P r i n))
  accepted_to n le =
      let none : Started 0 t = record { unit = λ u. ap (λ o. begun o (t.unit u)) (sym (first_zero (go_in C P r i u))); site = λ k. rw (le-ltb k 0 (omega arith)) refl } in
      sweep C args Started (go C P r i) Accept (suc C.sites) accept_fires accept_skips t none n le

  pub accepted : Legal C args t (accepts C P r i (suc C.sites)) × Started (suc C.sites) (after_event C args t (accepts C P r i (suc C.sites)))
  accepted = accepted_to (suc C.sites) (omega arith)
