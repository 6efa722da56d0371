-- Which sites may wait otherwise than before an event.
use Rattle.safl_core.proofs.Common.{CanFire, CheckedProgram, IsKept, Program, Shown, Span, Word, cases_eq, cases_lt, ne_eqb, put_at}
use Rattle.safl_core.proofs.Common.{put_off, serves, state, unit_for, wanted_at}
use Rattle.std.proofs.Common.{◌≡◌, ◌≢◌, ℕ, zero, suc, ◌<◌, ◌≤◌, ◌⊎◌, inl, inr, ◌&&◌, List, cond, is_some, Option, refl, sym, ap, ◌∙◌, ⊎_elim, arith}
use Rattle.safl_term.specs.Readiness.{Stage, Unsent, Sent, Returned, Answer, Ready, LoopTo}
use Rattle.safl_calls.specs.Machine.{State, Mode, Runs, Delivers, Event, Accept, Finish, Return, LoopInto, Enabled, says, asked, is_unsent, fire, accept, finish, give_back, loop_into, ended}
use Rattle.safl_core.specs.declared.state.State as code
use Rattle.safl_core.specs.Marking.{Touches}
use Rattle.safl_core.specs.Spans.{InSpan}
use Rattle.safl_core.specs.States.{IsStateAfter, Leads, EndsBody, calls_of}
use Rattle.safl_core.proofs.KeptByEvents.{inv, looping}
use Rattle.safl_core.proofs.LawsOfKept.{waits_test}
use Rattle.safl_core.proofs.StatesByEvents.{keeps_next}

is_span : (touched : Span) (k : ℕ) → InSpan touched k ⊎ (touched.first ≤ k → k < touched.end → ⊥)
is_span touched k = ⊎_elim
    (λ low. inr (λ a b. omega (arith, low, a)))
    (λ from. ⊎_elim (λ below. inl (from, below)) (λ past. inr (λ a b. omega (arith, past, b))) (cases_lt k touched.end))
    (cases_lt k touched.first)

same_end : (C : Program) (site : ℕ → Stage) (u k : ℕ) → (0 < k → C.unit (C.caller k) ≢ u) → ended C u site k ≡ site k
same_end C site u zero apart = refl
same_end C site u (suc k) apart = ap (λ b. cond b Unsent (site (suc k))) (ne_eqb (C.unit (C.caller (suc k))) u (apart (omega arith)))

module _ {m : Shown} {answers : List Answer} {wants : List (Option (List Word))} {room : ℕ} (h : IsKept m answers wants room) where
  -- a site is unsent as before, except one that was accepted, and the sites of a unit of which a body has ended
  unsent_is : (e : Event) → CanFire m e → (k : ℕ) → (0 < k → EndsBody m.program e
      (m.program.unit (m.program.caller k)) → ⊥)
      → (is_unsent ((state m).site k) ≡ is_unsent ((fire m.program m.args (state m) e).site k)) ⊎ (e ≡ Accept k)
  unsent_is (Accept j) q k apart =
      let C = m.program in
      let s = state m in
      ⊎_elim
      (λ e. inr (ap Accept e))
      (λ ne. inl (ap is_unsent (sym (ap (λ (o : Option (List Word)). (accept C s j o).site k) q.1 ∙ put_off s.site j k Sent ne))))
      (cases_eq j k)
  unsent_is (Finish f) q k apart =
      let C = m.program in
      let s = state m in
      let is : finish C s (C.unit f) (s.unit (C.unit f)) (says C s (C.unit f)) ≡ finish C s (C.unit f) (Runs f q.0 q.1) (Ready q.2) =
      ap (λ x. finish C s (C.unit f) x (says C s (C.unit f))) q.3 ∙ ap (λ a. finish C s (C.unit f) (Runs f q.0 q.1) a) q.4 in
      inl (ap is_unsent (sym (ap (λ (t : State). t.site k) is ∙ same_end C s.site (C.unit f) k apart)))
  unsent_is (Return j) q k apart =
      let C = m.program in
      let s = state m in
      let is : (give_back C s j (s.unit (unit_for C j))).site k ≡ (give_back C s j (Delivers j q.0)).site k =
      ap (λ (x : Mode). (give_back C s j x).site k) q.1 in
      ⊎_elim
      (λ e.
      let sent : s.site k ≡ Sent = ap s.site (sym e) ∙ ((inv h).serving (unit_for C j) j (ap serves q.1)).0 in
      inl (ap is_unsent sent ∙ sym (ap is_unsent (is ∙ put_at s.site j k (Returned q.0) e))))
      (λ ne. inl (ap is_unsent (sym (is ∙ put_off s.site j k (Returned q.0) ne))))
      (cases_eq j k)
  unsent_is (LoopInto n) q k apart =
      let C = m.program in
      let s = state m in
      let l = looping h n q.0 q.1 in
      let is : loop_into C s (C.unit n) (s.unit (C.unit n)) (says C s (C.unit n)) ≡ loop_into C s (C.unit n) (Runs l.member l.site l.args) (LoopTo n q.0) =
      ap (λ x. loop_into C s (C.unit n) x (says C s (C.unit n))) l.runs ∙ ap (λ a. loop_into C s (C.unit n) (Runs l.member l.site l.args) a) q.1 in
      inl (ap is_unsent (sym (ap (λ (t : State). t.site k) is ∙ same_end C s.site (C.unit n) k apart)))

-- a site that is not of the span, and was not accepted, waits as before
pub waits_same : (c : CheckedProgram) (args : List Word) (n : ℕ) (touched : Span) (s t : code.State) → IsStateAfter c args n s → (e : Event)
    → Enabled c.program args (calls_of s) e → Leads c args e touched s t
    → (k : ℕ) → k < suc c.program.sites → (is_some (asked c.program args (calls_of s) k)
    ≡ is_some (asked c.program args (calls_of t) k)) ⊎ Touches touched e k
waits_same c args n touched s t h e can l k lt = ⊎_elim (λ q. inr (inl q)) out (is_span touched k)
  where
    le : k ≤ c.program.sites
    le = omega (arith, lt)

    wanted : (j : ℕ) → j ≤ c.program.sites → (touched.first ≤ j → j < touched.end → ⊥) → wanted_at s.wants.each.items j ≡ wanted_at t.wants.each.items j
    wanted zero low off = refl
    wanted (suc j) low off = ap is_some (sym (l.wants.others (suc j) (omega arith) low off))

    out : (touched.first ≤ k → k < touched.end → ⊥) → (is_some (asked c.program args (calls_of s) k)
        ≡ is_some (asked c.program args (calls_of t) k)) ⊎ Touches touched e k
    out off = ⊎_elim
        (λ same. inl (sym (waits_test h k le)
        ∙ (ap (λ x. x && wanted_at s.wants.each.items k) (same ∙ ap (λ (z : State). is_unsent (z.site k)) (sym l.next))
        ∙ (ap (λ y. is_unsent ((calls_of t).site k) && y) (wanted k le off)
        ∙ waits_test (keeps_next c args n touched s t h e can l) k le))))
        (λ q. inr (inr q))
        (unsent_is h e can k (λ pos ends. let own = (l.ended (c.program.unit (c.program.caller k)) ends).all k pos le refl in off own.0 own.1))
