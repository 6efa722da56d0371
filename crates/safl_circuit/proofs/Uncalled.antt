-- Where main's evaluation calls no function at a unit with an arbiter, no call waits.
use Rattle.safl_circuit.proofs.Common.{Choice, Inv, IsWellFormed, Main, Numbered, OneInUse, Program, ShownWordsServe, is_there, main_calls}
use Rattle.safl_circuit.proofs.Common.{main_span, numbered, unit_for}
use Rattle.std.proofs.Common.{◌≡◌, ℕ, zero, suc, ◌<◌, ◌≤◌, List, [], ◌∷◌, ◌++◌, length, Some, None, Bool, true, false, cond, not, ◌&&◌, ◌||◌, is_some}
use Rattle.std.proofs.Common.{refl, sym, ap, ◌∙◌, subst, ⊎_elim, arith}
use Rattle.std.proofs.lemmas.Bool.{cases_eq, eq-eqb, and_parts, leb-true, true≢false, false≢true}
use Rattle.std.proofs.lemmas.List.Sorted.{length_permutation}
use Rattle.safl_circuit.proofs.Accepts.{Meets, idle_if, go_asks, go_off}
use Rattle.safl_circuit.proofs.CallsSeen.{calls_seen}
use Rattle.safl_circuit.proofs.CoreOf.{core_of}
use Rattle.safl_circuit.proofs.Cycle.{steps, start_at, inv_t, meets}
use Rattle.safl_circuit.proofs.DoneOnce.{DoneOnce}
use Rattle.safl_circuit.proofs.Once.{in_time}
use Rattle.safl_circuit.proofs.Progress.{some_go}
use Rattle.safl_circuit.proofs.Searched.{go_in, load_in}
use Rattle.safl_circuit.proofs.Sooner.{on_time_exactly}
use Rattle.safl_circuit.proofs.WordsSeen.{words_seen}
use Rattle.safl_circuit.specs.Correct.{Unshared, latest}
use Rattle.safl_circuit.specs.Equations.{Registers, ret, want, wants_at, body_wants, go, loads, starts_it, starts, ends, next, returns}
use Rattle.safl_circuit.specs.Steps.{Quiet, StepsAt, input_at, registers_at, history}
use Rattle.safl_calls.proofs.Basics.{all_none, cond_some, first_none, some_none, some_of}
use Rattle.safl_calls.specs.Machine.{State, opening, after_event, asked}
use Rattle.safl_calls.specs.Picks.{first}
use Rattle.safl_word.specs.Words.{Word, widths}

left_nil : {A : Type 0} (xs ys : List A) → xs ++ ys ≡ [] → xs ≡ []
left_nil [] ys e = refl
left_nil (x ∷ xs) ys e = absurd cc

right_nil : {A : Type 0} (xs ys : List A) → xs ++ ys ≡ [] → ys ≡ []
right_nil [] ys e = e
right_nil (x ∷ xs) ys e = absurd cc

nil_of : {A : Type 0} (xs : List A) → length xs ≡ 0 → xs ≡ []
nil_of [] e = refl
nil_of (x ∷ xs) e = absurd (omega (arith, e))

module _ (C : Program) (P : Choice) (wf : IsWellFormed C) (h1 : OneInUse C P.arbiter) (h2 : ShownWordsServe C P.kept) (r0 : Registers) (quiet : Quiet r0)
    (args : List Word) (sized : widths args ≡ C.params C.main) (later : ℕ → List Word) (v : Word) (d : Main C args v) (unshared : Unshared C P args d) where
  good : Numbered C
  good = numbered C wf

  abbrev r : ℕ → Registers
  r c = registers_at C P r0 args later c

  at : (c : ℕ) → StepsAt C P r0 args later c
  at c = steps C P good h1 h2 r0 quiet args sized later c

  abbrev t : ℕ → State
  t c = after_event C args opening (history C P r0 args later c ++ returns C (r c) (suc C.sites))

  inv : (c : ℕ) → Inv C (t c)
  inv c = inv_t C P args good h1 h2 r0.res (history C P r0 args later c) (at c).legal (r c) (input_at args later c) (at c).shows (at c).res (start_at C P r0 args sized later c)

  meet : (c : ℕ) → Meets C P args (r c) (input_at args later c) (t c)
  meet c = meets C P args good h1 h2 r0.res (history C P r0 args later c) (at c).legal (r c) (input_at args later c) (at c).shows (at c).res (start_at C P r0 args sized later c)

  -- a function with no words seen was not started
  not_started : (f c a : ℕ) → words_seen C P r0 args later f c ≡ [] → a < c → starts_it C P (r a) (input_at args later a) f ≡ false
  unfolding words_seen
  not_started f zero a e lt = absurd (omega (arith, lt))
  not_started f (suc c) a e lt = ⊎_elim
      (λ same. subst (λ n. starts_it C P (r n) (input_at args later n) f ≡ false) (sym same) (by (starts_it C P (r c) (input_at args later c) f) (right_nil (words_seen C P r0 args later f c) _ e)))
      (λ other. not_started f c a (left_nil (words_seen C P r0 args later f c) _ e) (omega (arith, lt, other)))
      (cases_eq a c)
    where
      by : (b : Bool) → cond b ((registers_at C P r0 args later (suc c)).arg f ∷ []) [] ≡ [] → b ≡ false
      by true e = absurd cc
      by false e = refl

  -- a site that goes starts its callee
  go_starts : (a j : ℕ) → j ≤ C.sites → go C P (r a) (input_at args later a) j ≡ true → starts_it C P (r a) (input_at args later a) (C.callee j) ≡ true
  unfolding loads
  go_starts a j le up =
      let w = go_asks C P args good (r a) (input_at args later a) (t a) (inv a) (meet a) j up in
      let here : load_in C P (r a) (input_at args later a) (C.callee j) j ≡ Some w.0 = rw (eq-eqb (C.callee j) (C.callee j) refl) w.2 in
      let some : is_some (loads C P (r a) (input_at args later a) (C.callee j)) ≡ true = is_there (loads C P (r a) (input_at args later a) (C.callee j))
      (λ none. some_none w.0 (sym here ∙ first_none (load_in C P (r a) (input_at args later a) (C.callee j)) (suc C.sites) none j (omega (arith, le)))) in
      rw some refl

  no_go : (a j : ℕ) → a < latest C args d → 0 < j → j ≤ C.sites → P.arbiter (unit_for C j) ≡ true → go C P (r a) (input_at args later a) j ≡ true → ⊥
  no_go a j lt pos le arbiter up =
      let f = C.callee j in
      let none = unshared j pos le arbiter in
      let seen = calls_seen C P wf h1 h2 r0 quiet args sized later v d f (latest C args d) (good.callee_in j le) (omega arith) in
      let size = length_permutation (main_calls C args d f) (words_seen C P r0 args later f (latest C args d)) seen in
      let nil = nil_of (words_seen C P r0 args later f (latest C args d)) (size ∙ ap length none) in
      true≢false (sym (go_starts a j le up) ∙ not_started f (latest C args d) a nil lt)

  -- so a unit with an arbiter never runs
  rests : (a w k : ℕ) → a ≤ latest C args d → 0 < k → k ≤ C.sites → unit_for C k ≡ w → P.arbiter w ≡ true → (r a).run w ≡ false
  unfolding registers_at next starts
  rests zero w k le pos within is arbiter = quiet.run w
  rests (suc a) w k le pos within is arbiter =
      let none : first (go_in C P (r a) (input_at args later a) w) (suc C.sites) ≡ None =
      all_none (go_in C P (r a) (input_at args later a) w) (suc C.sites) (λ j lt. go_off C P args good (r a) (input_at args later a) (t a) (inv a) (meet a) w j (never j lt)) in
      ap (λ b. cond (is_some (ends C P (r a) w)) false (b || is_some (first (go_in C P (r a) (input_at args later a) w) (suc C.sites)))) (rests a w k (omega arith) pos within is arbiter)
      ∙ ap (λ o. cond (is_some (ends C P (r a) w)) false (false || is_some o)) none ∙ off (is_some (ends C P (r a) w))
    where
      off : (b : Bool) → cond b false false ≡ false
      off true = refl
      off false = refl

      never : (j : ℕ) → j < suc C.sites → unit_for C j ≡ w → go C P (r a) (input_at args later a) j ≡ true → ⊥
      never zero lt e up = good.main_last k pos within (is ∙ sym e ∙ ap C.unit good.outside)
      never (suc j) lt e up = no_go a (suc j) (omega (arith, le)) (omega arith) (omega (arith, lt)) (ap P.arbiter e ∙ arbiter) up

  want_in : (q : Registers) (k : ℕ) → want C P q (suc k) ≡ true → suc k ≤ C.sites
  unfolding body_wants
  want_in q k up =
      let o = some_of (body_wants C P q (suc k)) up in
      leb-true (suc k) C.sites (and_parts _ _ (cond_some _ _ o.0 o.1).0).1

  none_waits : (a k : ℕ) → a < latest C args d → want C P (r a) (suc k) ≡ true → go C P (r a) (input_at args later a) (suc k) ≡ true
  unfolding go
  none_waits a k lt up = by (P.arbiter (unit_for C (suc k))) refl
    where
      w : ℕ
      w = unit_for C (suc k)

      by : (b : Bool) → P.arbiter (unit_for C (suc k)) ≡ b → cond (P.arbiter (unit_for C (suc k)))
          (want C P (r a) (suc k) && (not ((r a).run (unit_for C (suc k))) && not (is_some (first (wants_at C P (r a) (unit_for C (suc k))) (suc k)))))
          (want C P (r a) (suc k)) ≡ true
      by false none =
          ap (λ b. cond b (want C P (r a) (suc k)
          && (not ((r a).run (unit_for C (suc k))) && not (is_some (first (wants_at C P (r a) (unit_for C (suc k))) (suc k))))) (want C P (r a) (suc k))) none ∙ up
      by true arbiter =
          let within = want_in (r a) k up in
          let o = some_of (body_wants C P (r a) (suc k)) up in
          let asks : asked C args (t a) (suc k) ≡ Some o.0 = sym ((meet a).wants k) ∙ o.1 in
          let m = meet a in
          let rest = rests a (unit_for C (suc k)) (suc k) (omega (arith, lt)) (omega arith) within refl arbiter in
          let idle = idle_if ((t a).unit (unit_for C (suc k))) (sym (m.run (unit_for C (suc k))) ∙ rest) (m.rest (unit_for C (suc k))) in
          let g = some_go C P args good (r a) (input_at args later a) (t a) (inv a) (meet a) k o.0 asks idle within in
          absurd (no_go a g.0 lt g.1 g.2 (ap P.arbiter g.3 ∙ arbiter) g.4)

  pub unshared_exactly : (c : ℕ) → ret C (r c) 0 ≡ true → c ≡ main_span C args d
  unshared_exactly c up =
      let t : DoneOnce C P r0 args later v (suc (latest C args d)) = in_time C P good h1 h2 r0 quiet args sized later v (latest C args d) (core_of C wf args sized v d) in
      let same : c ≡ t.cycle = ⊎_elim (λ e. e) (λ other. absurd (false≢true (sym (t.once c other) ∙ up))) (cases_eq c t.cycle) in
      on_time_exactly C P wf h1 h2 r0 quiet args sized later v d c (λ a k lt wants. none_waits a k (omega (arith, lt, same, t.in_time)) wants) up
