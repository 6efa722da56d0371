-- Which units see an event.
use Rattle.safl_core.proofs.Common.{AreCalled, CanFire, Inv, IsKept, Numbered, Program, Shown, Span, Word, cases_eq, eqb-true, found}
use Rattle.safl_core.proofs.Common.{is_ready, loops_to, ne_eqb, not, put_at, put_off, state, true≢false, unit_for}
use Rattle.std.proofs.Common.{◌≡◌, ◌≢◌, ℕ, zero, suc, ◌<◌, ◌⊎◌, inl, inr, ◌&&◌, Bool, true, false, List, cond, is_some, Option, Some, refl, sym, ap, ◌∙◌, subst, ⊎_elim, arith}
use Rattle.safl_term.specs.Readiness.{Unsent, Sent, Returned, Ready, LoopTo, back_word}
use Rattle.safl_calls.specs.Machine.{State, Mode, Idle, Runs, Delivers, Event, Accept, Finish, Return, LoopInto, put, back, says, says_as, asked, fire, accept, finish, give_back, loop_into, ended}
use Rattle.safl_term.specs.Readiness.{Answer}
use Rattle.safl_core.specs.declared.enabled.Enabled as sets
use Rattle.safl_core.specs.Marking.{AreMarked, RelistsAfter, RelistsCalls, Touches, Concerns, IsThere}
use Rattle.safl_core.specs.Testing.{can, is_idle, runs, delivers_to, delivered}
use Rattle.safl_core.proofs.KeptByEvents.{same_says, looping, finish_in, return_in}
use Rattle.safl_core.proofs.LawsOfKept.{accept_within}
use Rattle.safl_core.proofs.SetsPutRight.{marks_after, rights_then}

-- The state before and after: only the unit u and some sites differ, and only the bodies of u and w see that
pub record Local (C : Program) (s t : State) (u w : ℕ) : Type 0 where
  pub units : (v : ℕ) → v ≢ u → t.unit v ≡ s.unit v
  pub backs : (v : ℕ) → v ≢ u → v ≢ w → (k : ℕ) → C.unit (C.caller k) ≡ v → back t k ≡ back s k

pub local_accept : (C : Program) (args : List Word) (s : State) (k : ℕ) (ws : List Word) (w : ℕ) → asked C args s k ≡ Some ws → Local C s (accept C s k (Some ws)) (unit_for C k) w
local_accept C args s k ws w e = record {
  units = λ v ne. put_off s.unit (unit_for C k) v runs (λ q. ne (sym q));
  backs = λ v ne other j on. same j;
}
  where
    runs : Mode
    runs = Runs (C.callee k) k ws

    unsent : s.site k ≡ Unsent
    unsent = (found C args s k ws e).unsent

    same : (j : ℕ) → back (accept C s k (Some ws)) j ≡ back s j
    same zero = refl
    same (suc j) = ⊎_elim
        (λ q. ap back_word (put_at s.site k (suc j) Sent q) ∙ sym (ap back_word (ap s.site (sym q) ∙ unsent)))
        (λ q. ap back_word (put_off s.site k (suc j) Sent q))
        (cases_eq k (suc j))

pub local_end : (C : Program) (s : State) (u : ℕ) (m : Mode) (w : ℕ) → Local C s (record { unit = put s.unit u m; site = ended C u s.site }) u w
local_end C s u m w = record {
  units = λ v ne. put_off s.unit u v m (λ q. ne (sym q));
  backs = λ v ne other j on. same v ne j on;
}
  where
    same : (v : ℕ) → v ≢ u → (j : ℕ) → C.unit (C.caller j) ≡ v → back (record { unit = put s.unit u m; site = ended C u s.site }) j ≡ back s j
    same v ne zero on = refl
    same v ne (suc j) on = ap (λ b. back_word (cond b Unsent (s.site (suc j)))) (ne_eqb (C.unit (C.caller (suc j))) u (λ q. ne (sym on ∙ q)))

pub local_return : (C : Program) (s : State) (k : ℕ) (word : Word) (w : ℕ) → (0 < k → w ≡ C.unit (C.caller k)) → Local C s (give_back C s k (Delivers k word)) (unit_for C k) w
local_return C s k word w is = record {
  units = λ v ne. put_off s.unit (unit_for C k) v Idle (λ q. ne (sym q));
  backs = λ v ne other j on. same v other j on;
}
  where
    same : (v : ℕ) → v ≢ w → (j : ℕ) → C.unit (C.caller j) ≡ v → back (give_back C s k (Delivers k word)) j ≡ back s j
    same v other zero on = refl
    same v other (suc j) on = ⊎_elim
        (λ q. absurd (other (sym on ∙ (ap (λ i. C.unit (C.caller i)) (sym q) ∙ sym (is (omega (arith, q)))))))
        (λ q. ap back_word (put_off s.site k (suc j) (Returned word) q))
        (cases_eq k (suc j))

module _ {m : Shown} {answers : List Answer} {wants : List (Option (List Word))} {room : ℕ} (h : IsKept m answers wants room) where
  pub local_fire : (e : Event) → CanFire m e → (u w : ℕ) → Concerns m.program e u w → Local m.program (state m) (fire m.program m.args (state m) e) u w
  local_fire (Accept k) q u w p =
      let C = m.program in
      subst (λ n. Local C (state m) (fire C m.args (state m) (Accept k)) n w) (sym p.0)
      (subst (λ (o : Option (List Word)). Local C (state m) (accept C (state m) k o) (unit_for C k) w) (sym q.1) (local_accept C m.args (state m) k q.0 w q.1))
  local_fire (Finish f) q u w p =
      let C = m.program in
      let s = state m in
      let is : finish C s (C.unit f) (s.unit (C.unit f)) (says C s (C.unit f)) ≡ finish C s (C.unit f) (Runs f q.0 q.1) (Ready q.2) =
      ap (λ x. finish C s (C.unit f) x (says C s (C.unit f))) q.3 ∙ ap (λ a. finish C s (C.unit f) (Runs f q.0 q.1) a) q.4 in
      subst (λ n. Local C s (fire C m.args s (Finish f)) n w) (sym p.0)
      (subst (λ (t : State). Local C s t (C.unit f) w) (sym is) (local_end C s (C.unit f) (Delivers q.0 q.2) w))
  local_fire (Return k) q u w p =
      let C = m.program in
      let s = state m in
      subst (λ n. Local C s (fire C m.args s (Return k)) n w) (sym p.0)
      (subst (λ (x : Mode). Local C s (give_back C s k x) (unit_for C k) w) (sym q.1) (local_return C s k q.0 w p.1))
  local_fire (LoopInto n) q u w p =
      let C = m.program in
      let s = state m in
      let l = looping h n q.0 q.1 in
      let is : loop_into C s (C.unit n) (s.unit (C.unit n)) (says C s (C.unit n)) ≡ loop_into C s (C.unit n) (Runs l.member l.site l.args) (LoopTo n q.0) =
      ap (λ x. loop_into C s (C.unit n) x (says C s (C.unit n))) l.runs ∙ ap (λ a. loop_into C s (C.unit n) (Runs l.member l.site l.args) a) q.1 in
      subst (λ i. Local C s (fire C m.args s (LoopInto n)) i w) (sym p.0)
      (subst (λ (t : State). Local C s t (C.unit n) w) (sym is) (local_end C s (C.unit n) (Runs n l.site q.0) w))

  -- what is enabled is an event of the program
  pub there : (e : Event) → CanFire m e → IsThere m.program e
  there (Accept k) q = accept_within h k q
  there (Finish f) q = finish_in h f q.0 q.1 q.3
  there (Return k) q = return_in h k q.0 q.1
  there (LoopInto n) q = (looping h n q.0 q.1).within

-- ---- the tests that do not see it

delivered_to : (m : Mode) (k : ℕ) → delivers_to m k ≡ true → delivered m ≡ Some k
delivered_to Idle k e = absurd (true≢false (sym e))
delivered_to (Runs f j ws) k e = absurd (true≢false (sym e))
delivered_to (Delivers j v) k e = ap Some (eqb-true j k e)

module _ (C : Program) (args : List Word) (good : Numbered C) (s t : State) (inv : Inv C s) (u w : ℕ) (l : Local C s t u w) where
  says_is : (v : ℕ) → v ≢ u → v ≢ w → says C s v ≡ says C t v
  says_is v nu nw = sym (same_says C good s t inv v (l.backs v nu nw) (s.unit v) refl) ∙ ap (says_as C (back t)) (sym (l.units v nu))

  idle_is : (v : ℕ) → v ≢ u → v ≢ w → is_idle (s.unit v) ≡ is_idle (t.unit v)
  idle_is v nu nw = ap is_idle (sym (l.units v nu))

  -- a site that the unit did not deliver to, and does not deliver to
  return_is : (k : ℕ) → (can C args s (Return k) ≡ can C args t (Return k)) ⊎ ((delivered (s.unit u) ≡ Some k) ⊎ (delivered (t.unit u) ≡ Some k))
  return_is k = ⊎_elim
      (λ q. by q (delivers_to (s.unit u) k) (delivers_to (t.unit u) k) refl refl)
      (λ ne. inl (ap (λ x. delivers_to x k) (sym (l.units (unit_for C k) ne))))
      (cases_eq (unit_for C k) u)
    where
      by : unit_for C k ≡ u → (x y : Bool) → delivers_to (s.unit u) k ≡ x → delivers_to (t.unit u) k ≡ y →
          (can C args s (Return k) ≡ can C args t (Return k)) ⊎ ((delivered (s.unit u) ≡ Some k) ⊎ (delivered (t.unit u) ≡ Some k))
      by q true y a b = inr (inl (delivered_to (s.unit u) k a))
      by q false true a b = inr (inr (delivered_to (t.unit u) k b))
      by q false false a b = inl (ap (λ n. delivers_to (s.unit n) k) q ∙ (a ∙ (sym b ∙ ap (λ n. delivers_to (t.unit n) k) (sym q))))

  finish_is : (f : ℕ) → C.unit f ≢ u → C.unit f ≢ w → can C args s (Finish f) ≡ can C args t (Finish f)
  finish_is f nu nw =
      ap (λ x. runs x f && is_ready (says C s (C.unit f))) (sym (l.units (C.unit f) nu))
      ∙ ap (λ a. runs (t.unit (C.unit f)) f && is_ready a) (says_is (C.unit f) nu nw)

  loop_is : (n : ℕ) → C.unit n ≢ u → C.unit n ≢ w → can C args s (LoopInto n) ≡ can C args t (LoopInto n)
  loop_is n nu nw = ap (λ a. loops_to a n) (says_is (C.unit n) nu nw)

  busy_is : (v : ℕ) → v ≢ u → v ≢ w → not (is_idle (s.unit v)) ≡ not (is_idle (t.unit v))
  busy_is v nu nw = ap (λ x. not (is_idle x)) (sym (l.units v nu))

  either : {A : Type 0} (v : ℕ) → (v ≢ u → v ≢ w → A) → A ⊎ ((v ≡ u) ⊎ (v ≡ w))
  either v far = ⊎_elim (λ q. inr (inl q)) (λ nu. ⊎_elim (λ q. inr (inr q)) (λ nw. inl (far nu nw)) (cases_eq v w)) (cases_eq v u)

  -- where the two units, the sites to which the first one delivers, and the sites that may wait otherwise than before were
  -- looked at anew, all sets are right
  pub marked_after : (a b d : sets.Enabled) → (before : Option ℕ) → before ≡ delivered (s.unit u) → (touched : Span) (e : Event)
      → ((k : ℕ) → k < suc C.sites → (is_some (asked C args s k) ≡ is_some (asked C args t k)) ⊎ Touches touched e k)
      → AreMarked C args s a → RelistsAfter C args t u w before a b → RelistsCalls C args t touched e b d → AreMarked C args t d
  marked_after a b d before to touched e calls m r x = record {
    called = subst (λ (l : List ℕ). AreCalled C l) (sym (x.called ∙ r.called)) m.called;
    waits = marks_after m.waits (rights_then r.waits x.waits) (λ k lt. ⊎_elim (λ q. inl q) (λ q. inr (inr q)) (calls k lt));
    idle = marks_after m.idle (rights_then r.idle x.idle) (λ v lt. ⊎_elim (λ q. inl q) (λ q. inr (inl q)) (either v (idle_is v)));
    finishes = marks_after m.finishes (rights_then r.finishes x.finishes) (λ f lt. ⊎_elim (λ q. inl q) (λ q. inr (inl q)) (either (C.unit f) (finish_is f)));
    returns = marks_after m.returns (rights_then r.returns x.returns) (λ k lt. ⊎_elim (λ q. inl q)
        (λ q. inr (inl (⊎_elim (λ old. inl (to ∙ old)) (λ new. inr new) q))) (return_is k));
    loops = marks_after m.loops (rights_then r.loops x.loops) (λ n lt. ⊎_elim (λ q. inl q) (λ q. inr (inl q)) (either (C.unit n) (loop_is n)));
    busy = marks_after m.busy (rights_then r.busy x.busy) (λ v lt. ⊎_elim (λ q. inl q) (λ q. inr (inl q)) (either v (busy_is v)));
  }
