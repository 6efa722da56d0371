-- What a machine keeps, from one event to the next.
use Rattle.safl_core.proofs.Common.{CheckedProgram, Numbered, Program, Word, args_given, cases_eq, length_push, ne_eqb, not_loop, numbered}
use Rattle.safl_core.proofs.Common.{same_Some, state_of, unit_for}
use Rattle.std.proofs.Common.{◌≡◌, ◌≢◌, ℕ, zero, suc, ◌+◌, ◌<◌, ◌≤◌, List, [], ◌∷◌, ◌++◌, cond, eqb, Option, Some, None, get_or, refl, sym, ap, ◌∙◌, subst, ⊎_elim, arith}
use Rattle.safl_term.specs.Readiness.{Unsent, Sent, Returned, Answer, Ready, LoopTo, NotYet, answer, wanted, back_word, word_of}
use Rattle.safl_calls.specs.Machine.{State, Mode, Idle, Runs, Delivers, Event, Finish, Return, LoopInto, opening, put, back, says, says_as, asked}
use Rattle.safl_calls.specs.Machine.{asked_as, Enabled, Legal, after_event, fire, accept, finish, give_back, loop_into, ended}
use Rattle.safl_calls.proofs.Basics.{serves, cond_some, put_at, put_off, after_append, after_one, legal_append, legal_one}
use Rattle.safl_calls.proofs.Invariant.{Inv, inv_fire, inv_after, found}
use Rattle.safl_calls.proofs.Bodies.{goes_stands}
use Rattle.safl_calls.proofs.Locality.{answer_local, wanted_local}
use Rattle.safl_core.specs.declared.mode.Mode as modes_declared
use Rattle.safl_evaluate.specs.declared.stage.Stage as stages_declared
use Rattle.safl_core.specs.Knowing.{IsKnown, BackFits, RunsMember}
use Rattle.safl_core.specs.Shown.{Shown, state, IsReached, CanFire, IsKept, serves_of, word_given}
use Rattle.safl_core.proofs.WritesAreSteps.{core_state}
use Rattle.safl_core.proofs.WordsFit.{Fits, fits_after, fits_fire}

module _ {m : Shown} {answers : List Answer} {wants : List (Option (List Word))} {room : ℕ} where
  pub good : IsKept m answers wants room → Numbered m.program
  good h = numbered m.program h.checked.formed

  pub inv : IsKept m answers wants room → Inv m.program (state m)
  inv h = subst (λ s. Inv m.program s) h.reached.ends (inv_after m.program m.args (good h) h.reached.list h.reached.legal)

  pub fits : IsKept m answers wants room → Fits m.program (state m)
  fits h = subst (λ s. Fits m.program s) h.reached.ends (fits_after m.program h.checked.formed m.args h.reached.list h.given h.reached.legal)

  module _ (h : IsKept m answers wants room) (e : Event) (can : CanFire m e) (modes : List modes_declared.Mode) (stages : List stages_declared.Stage)
      (is : state_of modes stages ≡ fire m.program m.args (state m) e) where
    next_inv : Inv m.program (state_of modes stages)
    next_inv = subst (λ s. Inv m.program s) (sym is) (inv_fire m.program m.args (good h) (state m) e (inv h) can)

    next_fits : Fits m.program (state_of modes stages)
    next_fits = subst (λ s. Fits m.program s) (sym is) (fits_fire m.program h.checked.formed m.args h.given (state m) (inv h) (fits h) e can)

    pub next_member : (u : ℕ) → RunsMember m.program modes u
    next_member u f k ws q = let a = next_inv.member u f k ws q in (a.0, a.1, next_fits.runs u f k ws q)

    pub next_back : BackFits m.program stages
    next_back k v q = next_fits.back k v q

    pub next_reached : (n : Shown) → n.checked ≡ m.checked → n.args ≡ m.args → state n ≡ state_of modes stages → n.events ≡ m.events + 1 → IsReached n
    next_reached n p a s c = record {
      list = h.reached.list ++ e ∷ [];
      count = length_push h.reached.list e ∙ (ap (λ x. x + 1) h.reached.count ∙ sym c);
      legal = subst (λ (C : CheckedProgram). Legal C.program n.args opening (h.reached.list ++ e ∷ [])) (sym p)
          (subst (λ xs. Legal m.program xs opening (h.reached.list ++ e ∷ [])) (sym a)
          (legal_append m.program m.args opening h.reached.list (e ∷ []) h.reached.legal
          (legal_one m.program m.args (after_event m.program m.args opening h.reached.list) e
          (subst (λ t. Enabled m.program m.args t e) (sym h.reached.ends) can))));
      ends = ap (λ (C : CheckedProgram). after_event C.program n.args opening (h.reached.list ++ e ∷ [])) p
          ∙ (ap (λ xs. after_event m.program xs opening (h.reached.list ++ e ∷ [])) a
          ∙ (after_append m.program m.args opening h.reached.list (e ∷ [])
          ∙ (after_one m.program m.args (after_event m.program m.args opening h.reached.list) e
          ∙ (ap (λ t. fire m.program m.args t e) h.reached.ends ∙ (sym is ∙ sym s)))));
    }

-- ---- the units whose bodies see nothing of an event

module _ (C : Program) (good : Numbered C) (s t : State) (inv : Inv C s) (v : ℕ) where
  pub same_says : ((k : ℕ) → C.unit (C.caller k) ≡ v → back t k ≡ back s k) → (m : Mode) → s.unit v ≡ m → says_as C (back t) m ≡ says_as C (back s) m
  same_says same Idle e = refl
  same_says same (Delivers j w) e = refl
  same_says same (Runs f j ws) e =
      let m = inv.member v f j ws e in
      answer_local (back t) (back s) ws (C.body f) (λ k st. same k (ap C.unit (good.own f k m.1 st).2 ∙ m.0))

  pub same_asked : ((k : ℕ) → C.unit (C.caller k) ≡ v → back t k ≡ back s k) → (m : Mode) → s.unit v ≡ m → (k : ℕ) → asked_as C (back t) m (C.caller k) k ≡ asked_as C (back s) m (C.caller k) k
  same_asked same Idle e k = refl
  same_asked same (Delivers j w) e k = refl
  same_asked same (Runs f j ws) e k = ⊎_elim
      (λ q. ap (λ o. cond (eqb f (C.caller k)) o None) (ap (λ g. wanted (back t) ws (C.body g) k) (sym q) ∙ (local ∙ ap (λ g. wanted (back s) ws (C.body g) k) q)))
      (λ q. ap (λ b. cond b (wanted (back t) ws (C.body (C.caller k)) k) None) (ne_eqb f (C.caller k) q) ∙ sym
      (ap (λ b. cond b (wanted (back s) ws (C.body (C.caller k)) k) None) (ne_eqb f (C.caller k) q)))
      (cases_eq f (C.caller k))
    where
      local : wanted (back t) ws (C.body f) k ≡ wanted (back s) ws (C.body f) k
      local =
          let m = inv.member v f j ws e in
          wanted_local (back t) (back s) ws (C.body f) k (λ i st. same i (ap C.unit (good.own f i m.1 st).2 ∙ m.0))

module _ (C : Program) (good : Numbered C) (s t : State) (inv : Inv C s) (answers : List Answer) (wants : List (Option (List Word))) (v : ℕ) where
  pub stays : t.unit v ≡ s.unit v → ((k : ℕ) → C.unit (C.caller k) ≡ v → back t k ≡ back s k) → IsKnown C s answers wants v → IsKnown C t answers wants v
  stays e same h = record {
    outcome = h.outcome ∙ (sym (same_says C good s t inv v same (s.unit v) refl) ∙ ap (says_as C (back t)) (sym e));
    wants = λ k pos le on. h.wants k pos le on ∙ (sym (same_asked C good s t inv v same (s.unit v) refl k) ∙ ap (λ m. asked_as C (back t) m (C.caller k) k) (sym e));
  }

  -- a unit that has delivered
  pub stays_idle : (j : ℕ) (w : Word) → s.unit v ≡ Delivers j w → t.unit v ≡ Idle → IsKnown C s answers wants v → IsKnown C t answers wants v
  stays_idle j w e f h = record {
    outcome = h.outcome ∙ (ap (says_as C (back s)) e ∙ sym (ap (says_as C (back t)) f));
    wants = λ k pos le on. h.wants k pos le on ∙ (ap (λ m. asked_as C (back s) m (C.caller k) k) e ∙ sym (ap (λ m. asked_as C (back t) m (C.caller k) k) f));
  }

module _ (C : Program) (args : List Word) (good : Numbered C) (s : State) (inv : Inv C s) (answers : List Answer) (wants : List (Option (List Word)))
    (known : (u : ℕ) → IsKnown C s answers wants u) where
  pub after_accept : (k : ℕ) (ws : List Word) → asked C args s k ≡ Some ws → (v : ℕ) → v ≢ unit_for C k → IsKnown C (accept C s k (Some ws)) answers wants v
  after_accept k ws e v ne = stays C good s (accept C s k (Some ws)) inv answers wants v (put_off s.unit (unit_for C k) v (Runs (C.callee k) k ws) (λ q. ne (sym q))) (λ j on. same j) (known v)
    where
      unsent : s.site k ≡ Unsent
      unsent = (found C args s k ws e).unsent

      same : (j : ℕ) → back (accept C s k (Some ws)) j ≡ back s j
      same zero = refl
      same (suc j) = ⊎_elim
          (λ q. ap back_word (put_at s.site k (suc j) Sent q) ∙ sym (ap back_word (ap s.site (sym q) ∙ unsent)))
          (λ q. ap back_word (put_off s.site k (suc j) Sent q))
          (cases_eq k (suc j))

  pub after_end : (u : ℕ) (m : Mode) (v : ℕ) → v ≢ u → IsKnown C (record { unit = put s.unit u m; site = ended C u s.site }) answers wants v
  after_end u m v ne = stays C good s (record { unit = put s.unit u m; site = ended C u s.site }) inv answers wants v (put_off s.unit u v m (λ q. ne (sym q))) same (known v)
    where
      same : (j : ℕ) → C.unit (C.caller j) ≡ v → back (record { unit = put s.unit u m; site = ended C u s.site }) j ≡ back s j
      same zero on = refl
      same (suc j) on = ap (λ b. back_word (cond b Unsent (s.site (suc j)))) (ne_eqb (C.unit (C.caller (suc j))) u (λ q. ne (sym on ∙ q)))

  -- site 0 stands in no body
  pub after_return : (k : ℕ) (w : Word) → s.unit (unit_for C k) ≡ Delivers k w → (v : ℕ) → (0 < k → v ≢ C.unit (C.caller k)) → IsKnown C (give_back C s k (Delivers k w)) answers wants v
  after_return k w e v ne = ⊎_elim
      (λ q. stays_idle C good s (give_back C s k (Delivers k w)) inv answers wants v k w (ap s.unit (sym q) ∙ e) (put_at s.unit (unit_for C k) v Idle q) (known v))
      (λ q. stays C good s (give_back C s k (Delivers k w)) inv answers wants v (put_off s.unit (unit_for C k) v Idle q) same (known v))
      (cases_eq (unit_for C k) v)
    where
      same : (j : ℕ) → C.unit (C.caller j) ≡ v → back (give_back C s k (Delivers k w)) j ≡ back s j
      same zero on = refl
      same (suc j) on = ⊎_elim
          (λ q. absurd (ne (omega (arith, q)) (sym on ∙ ap (λ i. C.unit (C.caller i)) (sym q))))
          (λ q. ap back_word (put_off s.site k (suc j) (Returned w) q))
          (cases_eq k (suc j))

-- ---- what the code reads, and the events

-- a unit that comes to a tail call runs a body
pub record Looping (C : Program) (s : State) (h : ℕ) : Type 0 where
  pub member : ℕ
  pub site : ℕ
  pub args : List Word
  pub runs : s.unit (C.unit h) ≡ Runs member site args
  pub within : h < C.functions

module _ {m : Shown} {answers : List Answer} {wants : List (Option (List Word))} {room : ℕ} (h : IsKept m answers wants room) where
  -- a site inside that is accepted is wanted with its words
  pub accept_wanted : (k : ℕ) (ws : List Word) → asked m.program m.args (state m) k ≡ Some ws → (k ≡ 0 → ⊥) → get_or wants k None ≡ Some ws
  accept_wanted zero ws e inner = absurd (inner refl)
  accept_wanted (suc k) ws e inner =
      let C = m.program in
      (h.known (C.unit (C.caller (suc k)))).wants (suc k) (omega arith) (found C m.args (state m) (suc k) ws e).within refl ∙ (cond_some _ _ ws e).1

  pub accept_words : (k : ℕ) (ws words : List Word) → asked m.program m.args (state m) k ≡ Some ws → (k ≡ 0 → words ≡ m.args) →
      ((k ≡ 0 → ⊥) → get_or wants k None ≡ Some words) → asked m.program m.args (state m) k ≡ Some words
  accept_words zero ws words e first other = e ∙ ap Some (sym (same_Some m.args ws (cond_some _ _ ws e).1) ∙ sym (first refl))
  accept_words (suc k) ws words e first other =
      let inner : suc k ≡ 0 → ⊥ = λ q. absurd (omega (arith, q)) in
      e ∙ (sym (accept_wanted (suc k) ws e inner) ∙ other inner)

  pub finish_in : (f k : ℕ) (ws : List Word) → (state m).unit (m.program.unit f) ≡ Runs f k ws → f < m.program.functions
  finish_in f k ws e = ((inv h).member (m.program.unit f) f k ws e).1

  pub finish_is : (f k : ℕ) (ws : List Word) (v : Word) → (state m).unit (m.program.unit f) ≡ Runs f k ws → says m.program (state m) (m.program.unit f) ≡ Ready v
      → (u site : ℕ) (word : Word) → u ≡ m.program.unit f → site ≡ serves_of ((state m).unit u) → Some word ≡ word_of (get_or answers u NotYet)
      → core_state (put (state m).unit u (Delivers site word)) (ended m.program u (state m).site) ≡ fire m.program m.args (state m) (Finish f)
  finish_is f k ws v runs is u site word at serving ready =
      let C = m.program in
      let s = state m in
      let same_site : site ≡ k = serving ∙ (ap (λ n. serves_of (s.unit n)) at ∙ ap serves_of runs) in
      let same_word : word ≡ v = same_Some word v (ready ∙ (ap word_of ((h.known u).outcome ∙ ap (says C s) at ∙ is))) in
      ap (λ n. core_state (put s.unit n (Delivers site word)) (ended C n s.site)) at
      ∙ (ap (λ n. core_state (put s.unit (C.unit f) (Delivers n word)) (ended C (C.unit f) s.site)) same_site
      ∙ (ap (λ w. core_state (put s.unit (C.unit f) (Delivers k w)) (ended C (C.unit f) s.site)) same_word
      ∙ sym (ap (λ x. finish C s (C.unit f) x (says C s (C.unit f))) runs ∙ ap (λ a. finish C s (C.unit f) (Runs f k ws) a) is)))

  pub return_in : (k : ℕ) (v : Word) → (state m).unit (unit_for m.program k) ≡ Delivers k v → k ≤ m.program.sites
  return_in k v e = ((inv h).serving (unit_for m.program k) k (ap serves e)).2

  pub return_is : (k : ℕ) (v : Word) → (state m).unit (unit_for m.program k) ≡ Delivers k v → (u : ℕ) (word : Word) → u ≡ unit_for
      m.program k → Some word ≡ word_given ((state m).unit u) → word ≡ v
  return_is k v e u word at given = same_Some word v (given ∙ (ap (λ n. word_given ((state m).unit n)) at ∙ ap word_given e))

  pub return_next : (k : ℕ) (v : Word) → (state m).unit (unit_for m.program k) ≡ Delivers k v → (word : Word) → word ≡ v → give_back
      m.program (state m) k (Delivers k word) ≡ fire m.program m.args (state m) (Return k)
  return_next k v e word same = ap (λ w. give_back m.program (state m) k (Delivers k w)) same ∙ ap (give_back m.program (state m) k) (sym e)

  pub looping : (n : ℕ) (vs : List Word) → says m.program (state m) (m.program.unit n) ≡ LoopTo n vs → Looping m.program (state m) n
  looping n vs e = by ((state m).unit (m.program.unit n)) refl
    where
      by : (x : Mode) → (state m).unit (m.program.unit n) ≡ x → Looping m.program (state m) n
      by Idle q = not_loop n vs (sym (ap (says_as m.program (back (state m))) q) ∙ e)
      by (Delivers j w) q = not_loop n vs (sym (ap (says_as m.program (back (state m))) q) ∙ e)
      by (Runs f j ws) q =
          let C = m.program in
          let a = (inv h).member (C.unit n) f j ws q in
          let body : answer (back (state m)) ws (C.body f) ≡ LoopTo n vs = sym (ap (says_as C (back (state m))) q) ∙ e in
          record { member = f; site = j; args = ws; runs = q; within = ((good h).loops f n a.1 (goes_stands (back (state m)) ws (C.body f) n vs body)).0 }

  pub loop_is : (n : ℕ) (vs : List Word) → says m.program (state m) (m.program.unit n) ≡ LoopTo n vs
      → (u site : ℕ) (words : List Word) → u ≡ m.program.unit n → site ≡ serves_of ((state m).unit u) → Some words ≡ args_given (get_or answers u NotYet)
      → core_state (put (state m).unit u (Runs n site words)) (ended m.program u (state m).site) ≡ fire m.program m.args (state m) (LoopInto n)
  loop_is n vs is u site words at serving given =
      let C = m.program in
      let s = state m in
      let l = looping n vs is in
      let same_site : site ≡ l.site = serving ∙ (ap (λ n. serves_of (s.unit n)) at ∙ ap serves_of l.runs) in
      let same_words : words ≡ vs = same_Some words vs (given ∙ ap args_given ((h.known u).outcome ∙ ap (says C s) at ∙ is)) in
      ap (λ i. core_state (put s.unit i (Runs n site words)) (ended C i s.site)) at
      ∙ (ap (λ i. core_state (put s.unit (C.unit n) (Runs n i words)) (ended C (C.unit n) s.site)) same_site
      ∙ (ap (λ w. core_state (put s.unit (C.unit n) (Runs n l.site w)) (ended C (C.unit n) s.site)) same_words
      ∙ sym (ap (λ x. loop_into C s (C.unit n) x (says C s (C.unit n))) l.runs ∙ ap (λ a. loop_into C s (C.unit n) (Runs l.member l.site l.args) a) is)))
