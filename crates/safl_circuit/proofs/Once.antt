-- done comes once, in time.
use Rattle.safl_circuit.proofs.Common.{Choice, Inv, Numbered, Program, Returned, Sent, Unsent, inv_after, unit_for}
use Rattle.std.proofs.Common.{◌≡◌, ◌≢◌, ℕ, zero, suc, ◌+◌, ◌-◌, ◌<◌, ◌≤◌, List, ◌++◌, Bool, true, false, cond, not, refl, sym, ap, ◌∙◌, subst, ⊎_elim, arith}
use Rattle.std.proofs.lemmas.Bool.{cases_order, and_parts, false≢true, false_from_ne_true}
use Rattle.safl_circuit.proofs.Claims.{InTime, QuietAfter, NoTwoStarts}
use Rattle.safl_circuit.proofs.Cycle.{steps, start_at, outer_next, legal_all, came, progress, one_start, start_rests}
use Rattle.safl_circuit.proofs.Progress.{some_up}
use Rattle.safl_circuit.proofs.Rest.{quiet_if}
use Rattle.safl_circuit.proofs.Start.{ret_delivers}
use Rattle.safl_circuit.specs.Equations.{Registers, ret, go, returns, cycle_events}
use Rattle.safl_circuit.proofs.DoneOnce.{Core, DoneOnce, Exclusive}
use Rattle.safl_circuit.specs.Steps.{StepsAt, Quiet, input_at, registers_at, history}
use Rattle.safl_calls.proofs.Basics.{moves_append, cond_some, unsent_is}
use Rattle.safl_calls.specs.Machine.{State, Event, Accept, opening, Enabled, after_event}
use Rattle.safl_calls.proofs.Basics.{serves}
use Rattle.safl_calls.specs.Moves.{moves_count}
use Rattle.safl_calls.specs.Interference.{OneInUse, ShownWordsServe}
use Rattle.safl_word.specs.Words.{Word, widths}
use Rattle.safl_term.proofs.Apart.{returned_sent, returned_unsent, sent_unsent, unsent_returned}

module _ (C : Program) (P : Choice) (good : Numbered C) (h1 : OneInUse C P.arbiter) (h2 : ShownWordsServe C P.kept) (r0 : Registers)
    (quiet : Quiet r0) (args : List Word) (sized : widths args ≡ C.params C.main) (later : ℕ → List Word) where
  abbrev r : ℕ → Registers
  r c = registers_at C P r0 args later c

  abbrev s : ℕ → State
  s c = after_event C args opening (history C P r0 args later c)

  at : (c : ℕ) → StepsAt C P r0 args later c
  at c = steps C P good h1 h2 r0 quiet args sized later c

  done : ℕ → Bool
  done c = ret C (r c) 0

  go_first : go C P (r 0) (input_at args later 0) 0 ≡ true
  unfolding go registers_at
  go_first = ap not (quiet.run (C.unit C.main))

  go_later : (c : ℕ) → go C P (r (suc c)) (input_at args later (suc c)) 0 ≡ false
  unfolding go
  go_later c = refl

  outer : (c : ℕ) → (s (suc c)).site 0 ≡ cond (go C P (r c) (input_at args later c) 0) Sent (cond (ret C (r c) 0) (Returned ((r c).res (unit_for C 0))) ((s c).site 0))
  unfolding history
  outer c = outer_next C P args good h1 h2 r0.res (history C P r0 args later c) (at c).legal (r c) (input_at args later c) (at c).shows (at c).res (start_at C P r0 args sized later c)

  accepted : (s 1).site 0 ≡ Sent
  accepted = outer 0 ∙ ap (λ b. cond b Sent (cond (ret C (r 0) 0) (Returned ((r 0).res (unit_for C 0))) ((s 0).site 0))) go_first

  step : (c : ℕ) → (s (suc (suc c))).site 0 ≡ cond (ret C (r (suc c)) 0) (Returned ((r (suc c)).res (unit_for C 0))) ((s (suc c)).site 0)
  step c = outer (suc c) ∙ ap (λ b. cond b Sent (cond (ret C (r (suc c)) 0) (Returned ((r (suc c)).res (unit_for C 0))) ((s (suc c)).site 0))) (go_later c)

  inv : (c : ℕ) → Inv C (s c)
  inv c = inv_after C args good (history C P r0 args later c) (at c).legal

  pub done_sent : (c : ℕ) → ret C (r c) 0 ≡ true → (s c).site 0 ≡ Sent
  done_sent c up =
      let d = ret_delivers C P args good (r c) (s c) (inv c) (at c).shows 0 up in
      ((inv c).serving (unit_for C 0) 0 (ap serves d.1)).0

  first_down : ret C (r 0) 0 ≡ false
  unfolding registers_at
  first_down = quiet.fin (C.unit C.main)

  pub after_done : (c : ℕ) → ret C (r c) 0 ≡ true → (s (suc c)).site 0 ≡ Returned ((r c).res (unit_for C 0))
  after_done zero up = absurd (false≢true (sym first_down ∙ up))
  after_done (suc c) up = step c ∙ ap (λ b. cond b (Returned ((r (suc c)).res (unit_for C 0))) ((s (suc c)).site 0)) up

  -- what main has returned stays
  stays_one : (c : ℕ) (w : Word) → (s (suc c)).site 0 ≡ Returned w → (s (suc (suc c))).site 0 ≡ Returned w
  stays_one c w e =
      let down : ret C (r (suc c)) 0 ≡ false = false_from_ne_true _ (λ up. returned_sent w (sym e ∙ done_sent (suc c) up)) in
      step c ∙ ap (λ b. cond b (Returned ((r (suc c)).res (unit_for C 0))) ((s (suc c)).site 0)) down ∙ e

  pub stays : (k c : ℕ) (w : Word) → (s (suc c)).site 0 ≡ Returned w → (s (k + suc c)).site 0 ≡ Returned w
  stays zero c w e = ap (λ n. (s n).site 0) is ∙ e
    where
      is : 0 + suc c ≡ suc c
      is = omega arith
  stays (suc k) c w e =
      let is : suc k + suc c ≡ suc (suc (k + c)) = omega arith in
      let is' : k + suc c ≡ suc (k + c) = omega arith in
      ap (λ n. (s n).site 0) is ∙ stays_one (k + c) w (sym (ap (λ n. (s n).site 0) is') ∙ stays k c w e)

  not_again : (a c : ℕ) → ret C (r a) 0 ≡ true → a < c → ret C (r c) 0 ≡ false
  not_again a c up lt =
      let is : (c - suc a) + suc a ≡ c = omega arith in
      let there = stays (c - suc a) a ((r a).res (unit_for C 0)) (after_done a up) in
      false_from_ne_true _ (λ up'. returned_sent _ (sym there ∙ ap (λ n. (s n).site 0) is ∙ done_sent c up'))

  once : (a : ℕ) → ret C (r a) 0 ≡ true → (c : ℕ) → c ≢ a → ret C (r c) 0 ≡ false
  once a up c other = ⊎_elim (λ same. absurd (other same)) (λ d. ⊎_elim
      (λ lt. false_from_ne_true _ (λ upc. false≢true (sym (not_again c a upc lt) ∙ up))) (λ gt. not_again a c up gt) d) (cases_order c a)

  pub not_unsent : (c : ℕ) → (s (suc c)).site 0 ≡ Unsent → ⊥
  not_unsent zero e = sent_unsent (sym accepted ∙ e)
  not_unsent (suc c) e = by (ret C (r (suc c)) 0) (sym (step c) ∙ e) (not_unsent c)
    where
      by : (b : Bool) → cond b (Returned ((r (suc c)).res (unit_for C 0))) ((s (suc c)).site 0) ≡ Unsent → ((s (suc c)).site 0 ≡ Unsent → ⊥) → ⊥
      by true e ih = returned_unsent _ e
      by false e ih = ih e

  pub exclusive : (c : ℕ) → Exclusive C P r0 args later c
  exclusive c = record {
    one = one_start C P args good h1 h2 r0.res (history C P r0 args later c) (at c).legal (r c) (input_at args later c) (at c).shows (at c).res (start_at C P r0 args sized later c);
    rests = start_rests C P args good h1 h2 r0.res (history C P r0 args later c) (at c).legal (r c) (input_at args later c) (at c).shows (at c).res (start_at C P r0 args sized later c);
  }

  pub quiet_after : (a c : ℕ) → ret C (r a) 0 ≡ true → a < c → Quiet (r c)
  quiet_after a c up lt =
      let is : (c - suc a) + suc a ≡ c = omega arith in
      let there = sym (ap (λ n. (s n).site 0) is) ∙ stays (c - suc a) a ((r a).res (unit_for C 0)) (after_done a up) in
      quiet_if C good (s c) (inv c) _ there P (r c) (at c).shows

  module _ (v : Word) (n : ℕ) (core : Core C args v n) where
    -- while done has not come, main has not returned
    not_returned : (c : ℕ) → ((k : ℕ) → k < c → ret C (r k) 0 ≡ false) → (w : Word) → (s c).site 0 ≡ Returned w → ⊥
    unfolding history after_event
    not_returned zero down w e = unsent_returned w e
    not_returned (suc zero) down w e = returned_sent w (sym e ∙ accepted)
    not_returned (suc (suc c)) down w e =
        not_returned (suc c) (λ k lt. down k (omega (arith, lt))) w
        (sym (step c ∙ ap (λ b. cond b (Returned ((r (suc c)).res (unit_for C 0))) ((s (suc c)).site 0)) (down (suc c) (omega arith))) ∙ e)

    main_goes : (c : ℕ) (q : State) → q.site 0 ≡ (s c).site 0 → (e : Event) → Enabled C args q e → e ≡ Accept 0 → go C P (r c) (input_at args later c) 0 ≡ true
    main_goes zero q same e on is = go_first
    main_goes (suc c) q same e on is =
        let on' : Enabled C args q (Accept 0) = subst (λ e. Enabled C args q e) is on in
        absurd (not_unsent c (sym same ∙ unsent_is _ (and_parts _ _ (cond_some _ _ _ on'.1).0).0))

    -- so some event is enabled after the Returns of the cycle, and it is no Return
    moves_on : (c : ℕ) → ((k : ℕ) → k < suc c → ret C (r k) 0 ≡ false) → 0 < moves_count (cycle_events C P (r c) (input_at args later c))
    moves_on c down =
        let es = history C P r0 args later c in
        let start = start_at C P r0 args sized later c in
        let back = es ++ returns C (r c) (suc C.sites) in
        let legal = legal_all C P args good h1 h2 r0.res es (at c).legal (r c) (input_at args later c) (at c).shows (at c).res start in
        let same : (after_event C args opening back).site 0 ≡ (s c).site 0 =
        came C P args good h1 h2 r0.res es (at c).legal (r c) (input_at args later c) (at c).shows (at c).res start 0
        ∙ ap (λ b. cond b (Returned ((r c).res (unit_for C 0))) ((s c).site 0)) (down c (omega arith)) in
        let on = core.lively back legal (λ w over. not_returned c (λ k lt. down k (omega (arith, lt))) w (sym same ∙ over)) in
        progress C P args good h1 h2 r0.res es (at c).legal (r c) (input_at args later c) (at c).shows (at c).res start on.0 on.1 (main_goes c (after_event C args opening back) same on.0 on.1)

    grows : (c : ℕ) → ((k : ℕ) → k < c → ret C (r k) 0 ≡ false) → c ≤ moves_count (history C P r0 args later c)
    unfolding history
    grows zero down = omega arith
    grows (suc c) down =
        let before = grows c (λ k lt. down k (omega (arith, lt))) in
        let more = moves_on c down in
        let sum = moves_append (history C P r0 args later c) (cycle_events C P (r c) (input_at args later c)) in
        omega (arith, before, more, sum)

    too_long : ((k : ℕ) → k < suc n → ret C (r k) 0 ≡ false) → ⊥
    too_long down =
        let most = core.most (history C P r0 args later (suc n)) (at (suc n)).legal in
        let long = grows (suc n) down in
        omega (arith, most, long)

    pub done_once : DoneOnce C P r0 args later v (suc n)
    done_once = ⊎_elim
        (λ up. record {
          cycle = up.0;
          in_time = up.1;
          done = up.2;
          result = ap (r up.0).res (sym (ap C.unit good.outside)) ∙ core.value (history C P r0 args later (suc up.0)) (at (suc up.0)).legal ((r up.0).res (unit_for C 0)) (after_done up.0 up.2);
          once = once up.0 up.2;
        })
        (λ none. absurd (too_long none))
        (some_up (λ c. ret C (r c) 0) (suc n))

pub in_time : InTime
in_time C P good h1 h2 r0 quiet args sized later v n core = done_once C P good h1 h2 r0 quiet args sized later v n core

pub quiet_later : QuietAfter
quiet_later C P good h1 h2 r0 quiet args sized later a c up lt = quiet_after C P good h1 h2 r0 quiet args sized later a c up lt

pub no_two_starts : NoTwoStarts
no_two_starts C P good h1 h2 r0 quiet args sized later c = exclusive C P good h1 h2 r0 quiet args sized later c
