-- No list of cycles is shorter than the span of main's evaluation.
use Rattle.safl_calls.proofs.Common.{IsNumbered, Main, Program, Returned, Word}
use Rattle.std.proofs.Common.{◌≡◌, ℕ, suc, ◌+◌, ◌<◌, ◌≤◌, List, [], ◌∷◌, ◌++◌, length, refl, sym, ap, ◌∙◌, subst, arith}
use Rattle.safl_calls.proofs.Basics.{after_append, legal_front}
use Rattle.safl_calls.proofs.Invariant.{Inv, inv_fire, inv_open}
use Rattle.safl_calls.proofs.Numbered.{Numbered}
use Rattle.safl_calls.proofs.Picture.{picture, step_of}
use Rattle.safl_calls.proofs.Preserved.{Fine, fine_step}
use Rattle.safl_calls.proofs.Timely.{Timed, Prompt, timed_later, timed_step, Awaits}
use Rattle.safl_calls.specs.Cycles.{since_event, since_events, MayAll, InCycles, all_events}
use Rattle.safl_calls.specs.Machine.{State, Event, opening, Legal, after_event, fire}
use Rattle.safl_calls.specs.Span.{main_span}
use Rattle.safl_term.proofs.Apart.{unsent_returned}

legal_back : (C : Program) (args : List Word) (s : State) (xs ys : List Event) → Legal C args s (xs ++ ys) → Legal C args (after_event C args s xs) ys
unfolding Legal after_event
legal_back C args s [] ys h = h
legal_back C args s (x ∷ xs) ys h = legal_back C args (fire C args s x) xs ys h.1

module _ (C : Program) (args : List Word) (good : Numbered C) (wf : IsNumbered C C.functions) (v : Word) (d : Main C args v) (E : Type 0) where
  -- a state in cycle c, when each unit may act since its cycle
  pub record OnTime (c : ℕ) (since : ℕ → ℕ) (s : State) : Type 0 where
    pub inv : Inv C s
    pub fine : Fine C args (picture C s)
    pub timed : Timed C E (main_span C args d) c since (picture C s).units (picture C s).outside

  pub on_time_opening : (since : ℕ → ℕ) → OnTime 0 since opening
  on_time_opening since = record {
    inv = inv_open C args good;
    fine = record { at = λ u. tt; main = tt };
    timed = record { due = λ u. 0; each = λ u. tt; main = λ x. refl };
  }

  pub on_time_later : (c : ℕ) (since : ℕ → ℕ) (s : State) → (E → Prompt C c since (picture C s).units (picture C s).outside) → OnTime c since s → OnTime (suc c) since s
  on_time_later c since s prompt h = record {
    inv = h.inv;
    fine = h.fine;
    timed = timed_later C C.functions args E (main_span C args d) c since (picture C s).units (picture C s).outside wf h.fine prompt h.timed;
  }

  pub on_time_after : (c : ℕ) (since : ℕ → ℕ) (s : State) (es : List Event) → OnTime c since s → Legal C args s es → MayAll C c since es
      → OnTime c (since_events C c since es) (after_event C args s es)
  unfolding Legal after_event MayAll since_events
  on_time_after c since s [] h legal may = h
  on_time_after c since s (e ∷ es) h legal may =
      let step = step_of C args good s h.inv e legal.0 in
      on_time_after c (since_event C c since e) (fire C args s e) es
      (record {
        inv = inv_fire C args good s e h.inv legal.0;
        fine = fine_step C C.functions args wf h.fine step;
        timed = timed_step C E C.functions args v d wf c since h.fine step may.0 h.timed;
      })
      legal.1 may.1

  pub on_time_returned : (c : ℕ) (since : ℕ → ℕ) (s : State) (x : Word) → OnTime c since s → s.site 0 ≡ Returned x → main_span C args d ≤ c
  on_time_returned c since s x h e = subst (λ o. Awaits E c o (main_span C args d) (h.timed.due (C.unit (C.callee 0)))) e h.timed.main

-- the law, where nothing is said of what comes late
module _ (C : Program) (args : List Word) (good : Numbered C) (wf : IsNumbered C C.functions) (v : Word) (d : Main C args v) where
  abbrev Early : ℕ → (ℕ → ℕ) → State → Type 0
  Early c since s = OnTime C args good wf v d ⊥ c since s

  no_sooner_from : (c : ℕ) (since : ℕ → ℕ) (s : State) (cycles : List (List Event)) → Early c since s
      → ((x : Word) → s.site 0 ≡ Returned x → main_span C args d < c) → Legal C args s (all_events cycles) → InCycles C c since cycles
      → (x : Word) → (after_event C args s (all_events cycles)).site 0 ≡ Returned x → main_span C args d < c + length cycles
  unfolding all_events InCycles after_event
  no_sooner_from c since s [] h before legal may x e = let b = before x e in omega (arith, b)
  no_sooner_from c since s (es ∷ rest) h before legal may x e =
      let front = legal_front C args s es (all_events rest) legal in
      let back = legal_back C args s es (all_events rest) legal in
      let t = on_time_after C args good wf v d ⊥ c since s es h front may.0 in
      let late = on_time_later C args good wf v d ⊥ c (since_events C c since es) (after_event C args s es) (λ x. absurd x) t in
      let r = no_sooner_from (suc c) (since_events C c since es) (after_event C args s es) rest late
      (λ y i. let b = on_time_returned C args good wf v d ⊥ c (since_events C c since es) (after_event C args s es) y t i in omega (arith, b)) back may.1 x
      (sym (ap (λ q. q.site 0) (after_append C args s es (all_events rest))) ∙ e) in
      omega (arith, r)

  pub no_sooner : (cycles : List (List Event)) → Legal C args opening (all_events cycles) → InCycles C 0 (λ u. 0) cycles
      → (x : Word) → (after_event C args opening (all_events cycles)).site 0 ≡ Returned x → main_span C args d < length cycles
  no_sooner cycles legal may x e =
      let r = no_sooner_from 0 (λ u. 0) opening cycles (on_time_opening C args good wf v d ⊥ (λ u. 0)) (λ y i. absurd (unsent_returned y i)) legal may x e in
      omega (arith, r)
