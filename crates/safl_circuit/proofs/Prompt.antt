-- Where each wanted call is accepted, a unit that has not changed in a cycle could have done no more in it.
use Rattle.safl_circuit.proofs.Common.{Choice, Inv, Numbered, Program, Stands, Word, is_delivering, is_there, sent_unsent}
use Rattle.std.proofs.Common.{◌≡◌, ℕ, zero, suc, ◌<◌, ◌≤◌, List, Option, Some, None, Bool, true, false, cond, is_some, refl, sym, ap, ◌∙◌, arith}
use Rattle.std.proofs.lemmas.Bool.{eq-eqb, and_from, le-leb, true≢false, eqb-true}
use Rattle.std.proofs.Common.{nat_le}
use Rattle.safl_circuit.proofs.Accepts.{Meets, Started}
use Rattle.safl_circuit.proofs.Acting.{since_next, accept_late, finish_late, loop_late}
use Rattle.safl_circuit.proofs.Ends.{Ended, Moved, back_x, says_still}
use Rattle.safl_circuit.proofs.Fate.{Fate, Stays, Starts, EndsWith, LoopsTo, fate}
use Rattle.safl_circuit.proofs.Middle.{member_says}
use Rattle.safl_circuit.proofs.Searched.{end_in, loop_in}
use Rattle.safl_circuit.specs.Equations.{Registers, Inputs, body_says, want, go, loop_words, loop_from}
use Rattle.safl_calls.proofs.Activities.{Active}
use Rattle.safl_calls.proofs.Basics.{first_none, first_some, some_none, cond_some, mask_all}
use Rattle.safl_calls.proofs.Bodies.{goes_stands, wanted_stands}
use Rattle.safl_calls.proofs.Locality.{wanted_local}
use Rattle.safl_calls.proofs.MachineLaws.{as_runs, as_delivers}
use Rattle.safl_calls.proofs.Picture.{own, own_at, activity, picture, own_answer, own_wanted}
use Rattle.safl_calls.proofs.Timely.{Prompt}
use Rattle.safl_calls.specs.Machine.{State, Runs, Delivers, back, asked, asked_as, is_unsent}
use Rattle.safl_calls.specs.Picks.{first}
use Rattle.safl_term.proofs.Bridge.{back_of}
use Rattle.safl_term.specs.Readiness.{Stage, Unsent, Sent, back_word, Answer, Ready, LoopTo, NotYet, answer, wanted, word_of}
use Rattle.safl_calls.proofs.Apart.{runs_delivers}

module _ (C : Program) (P : Choice) (args : List Word) (good : Numbered C) (r : Registers) (i : Inputs) (t : State) (inv : Inv C t)
    (meets : Meets C P args r i t) (x : State) (st : Started C P args good r i t inv meets (suc C.sites) x) (y : State)
    (en : Ended C P args good r i t inv meets x st C.functions y) (z : State) (mv : Moved C P args good r i t inv meets x st y en C.functions z)
    (inv_z : Inv C z) (c : ℕ) (since : ℕ → ℕ) (low : (u : ℕ) → since u ≤ c) where
  abbrev now : ℕ → ℕ
  now = since_next C P args good r i t inv meets c since low

  -- a unit that has not changed
  record Same (u : ℕ) : Type 0 where
    unit : z.unit u ≡ t.unit u
    ends : first (end_in C P r u) C.functions ≡ None
    loops : first (loop_in C P r u) C.functions ≡ None

  end_late : (u : ℕ) (v : Word) → first (end_in C P r u) C.functions ≡ Some v → now u ≡ suc c
  end_late u v he =
      let a = first_some (end_in C P r u) C.functions v he in
      let b = cond_some _ _ v a.2 in
      let l = finish_late C P args good r i t inv meets c since low a.0 a.1 (ap is_some b.1) in
      ap now (sym (eqb-true (C.unit a.0) u b.0)) ∙ l

  unchanged : (u : ℕ) → now u ≤ c → Same u
  unchanged u le = by (fate C P args good r i t inv meets x st y en z mv u)
    where
      by : Fate C P r i t z u → Same u
      by (Stays he hl hs e) = record { unit = e; ends = he; loops = hl }
      by (Starts k he hl hs in_sites in_u up e) =
          let l = accept_late C P args good r i t inv meets c since low k in_sites up in
          let s = ap now in_u in
          absurd (omega (arith, l, s, le))
      by (EndsWith v j he hl hs e) = let l = end_late u v he in absurd (omega (arith, l, le))
      by (LoopsTo h j vs runs he hl hs lt in_u words e) =
          let l = loop_late C P args good r i t inv meets c since low h lt (ap is_some words) in
          let s = ap now in_u in
          absurd (omega (arith, l, s, le))

  -- a body that runs in a unit that has not changed
  module _ (u f j : ℕ) (xs : List Word) (s : ℕ → Stage) (runs : activity C z.site (z.unit u) ≡ Active f xs s j) (le : now u ≤ c) where
    a : (z.unit u ≡ Runs f j xs) × (own C z.site f ≡ s)
    a = as_runs C z.site (z.unit u) f j xs s runs

    q : Same u
    q = unchanged u le

    here : t.unit u ≡ Runs f j xs
    here = sym q.unit ∙ a.0

    in_u : C.unit f ≡ u
    in_u = (inv.member u f j xs here).0

    lt : f < C.functions
    lt = (inv.member u f j xs here).1

    -- its own sites are at the stages after the Accepts
    kept : (k : ℕ) → C.caller (suc k) ≡ f → z.site (suc k) ≡ x.site (suc k)
    kept k from =
        let at : C.unit (C.caller (suc k)) ≡ u = ap C.unit from ∙ in_u in
        mv.site k ∙ ap (λ n. cond (is_some (first (loop_in C P r n) C.functions)) Unsent (y.site (suc k))) at ∙ ap (λ o. cond (is_some o) Unsent (y.site (suc k))) q.loops
        ∙ en.site k ∙ ap (λ n. cond (is_some (first (end_in C P r n) C.functions)) Unsent (x.site (suc k))) at ∙ ap (λ o. cond (is_some o) Unsent (x.site (suc k))) q.ends

    says_now : body_says C P r f ≡ answer (back t) xs (C.body f)
    says_now =
        meets.says f lt ∙ ap (λ m. member_says C (back t) m f) (ap t.unit in_u ∙ here) ∙ ap (λ b. cond b (answer (back t) xs (C.body f)) NotYet) (eq-eqb f f refl)

    says_none : (b : Answer) → answer (back t) xs (C.body f) ≡ b → answer (back t) xs (C.body f) ≡ NotYet
    says_none NotYet e = e
    says_none (Ready v) e =
        let none = first_none (end_in C P r u) C.functions q.ends f lt in
        let some : end_in C P r u f ≡ Some v = rw (eq-eqb (C.unit f) u in_u) (ap word_of (says_now ∙ e)) in
        absurd (some_none v (sym some ∙ none))
    says_none (LoopTo h vs) e =
        let l = good.loops f h lt (goes_stands (back t) xs (C.body f) h vs e) in
        let from : loop_from C P r h f ≡ Some vs = rw (eq-eqb (C.unit f) (C.unit h) (sym l.1), says_now ∙ e, eq-eqb h h refl) refl in
        let some : is_some (loop_words C P r h) ≡ true = is_there (loop_words C P r h) (λ none. some_none vs (sym from ∙ first_none (loop_from C P r h) C.functions none f lt)) in
        let none = first_none (loop_in C P r u) C.functions q.loops h l.0 in
        let there : loop_in C P r u h ≡ Some h = rw (eq-eqb (C.unit h) u (l.1 ∙ in_u), some) refl in
        absurd (some_none h (sym there ∙ none))

    pub waits : answer (back_of s) xs (C.body f) ≡ NotYet
    waits =
        ap (λ (w : ℕ → Stage). answer (back_of w) xs (C.body f)) (sym a.1)
        ∙ own_answer C args good z inv_z u f j xs a.0
        ∙ says_still C P args good r i t inv meets x st f xs z lt kept
        ∙ says_none _ refl

    back_same : (k : ℕ) → Stands k (C.body f) → back z k ≡ back t k
    back_same zero stands = refl
    back_same (suc k) stands =
        ap back_word (kept k (good.own f (suc k) lt stands).2) ∙ ap (λ (w : ℕ → Option Word). w (suc k)) (back_x C P args good r i t inv meets x st)

    pub not_wanted : (free : (k : ℕ) → want C P r (suc k) ≡ true → go C P r i (suc k) ≡ true) (k : ℕ) → s k ≡ Unsent → is_some (wanted (back_of s) xs (C.body f) k) ≡ true → ⊥
    not_wanted free k unsent asks = by k unsent (sym (ap is_some same) ∙ asks)
      where
        same : wanted (back_of s) xs (C.body f) k ≡ wanted (back t) xs (C.body f) k
        same =
            ap (λ (w : ℕ → Stage). wanted (back_of w) xs (C.body f) k) (sym a.1)
            ∙ own_wanted C args good z inv_z u f j xs k a.0
            ∙ wanted_local (back z) (back t) xs (C.body f) k back_same

        by : (k : ℕ) → s k ≡ Unsent → is_some (wanted (back t) xs (C.body f) k) ≡ true → ⊥
        by zero unsent w = let o = good.own f 0 lt (wanted_stands (back t) xs (C.body f) 0 w) in omega (arith, o.0)
        by (suc k) unsent w = up (go C P r i (suc k)) refl
          where
            o : (0 < suc k) × (suc k ≤ C.sites) × (C.caller (suc k) ≡ f)
            o = good.own f (suc k) lt (wanted_stands (back t) xs (C.body f) (suc k) w)

            z_unsent : z.site (suc k) ≡ Unsent
            z_unsent = sym (own_at C z.site f k o.2) ∙ ap (λ (w : ℕ → Stage). w (suc k)) a.1 ∙ unsent

            x_unsent : cond (go C P r i (suc k)) Sent (t.site (suc k)) ≡ Unsent
            x_unsent = sym (st.site (suc k) ∙ mask_all (suc C.sites) (suc k) (go C P r i (suc k)) Sent (t.site (suc k)) (λ up. let p = o.1 in omega (arith, p))) ∙ sym (kept k o.2) ∙ z_unsent

            up : (b : Bool) → go C P r i (suc k) ≡ b → ⊥
            up true e = sent_unsent (sym (ap (λ b. cond b Sent (t.site (suc k))) e) ∙ x_unsent)
            up false e = true≢false (sym (free k wants) ∙ e)
              where
                t_unsent : t.site (suc k) ≡ Unsent
                t_unsent = sym (ap (λ b. cond b Sent (t.site (suc k))) e) ∙ x_unsent

                at : t.unit (C.unit (C.caller (suc k))) ≡ Runs f j xs
                at = ap (λ g. t.unit (C.unit g)) o.2 ∙ ap t.unit in_u ∙ here

                inner : asked_as C (back t) (t.unit (C.unit (C.caller (suc k)))) (C.caller (suc k)) (suc k) ≡ wanted (back t) xs (C.body f) (suc k)
                inner =
                    ap (λ m. asked_as C (back t) m (C.caller (suc k)) (suc k)) at ∙ ap (λ g. asked_as C (back t) (Runs f j xs) g (suc k)) o.2
                    ∙ ap (λ b. cond b (wanted (back t) xs (C.body f) (suc k)) None) (eq-eqb f f refl)

                asked_is : asked C args t (suc k) ≡ wanted (back t) xs (C.body f) (suc k)
                asked_is =
                    ap (λ b. cond b (asked_as C (back t) (t.unit (C.unit (C.caller (suc k)))) (C.caller (suc k)) (suc k)) None)
                    (and_from (is_unsent (t.site (suc k))) (nat_le (suc k) C.sites) (ap is_unsent t_unsent) (le-leb (suc k) C.sites o.1)) ∙ inner

                wants : want C P r (suc k) ≡ true
                wants = ap is_some (meets.wants k ∙ asked_is) ∙ w

  given_late : (u k : ℕ) (v : Word) → z.unit u ≡ Delivers k v → now u ≡ suc c
  given_late u k v d = by (fate C P args good r i t inv meets x st y en z mv u)
    where
      by : Fate C P r i t z u → now u ≡ suc c
      by (Stays he hl hs e) = absurd (true≢false (sym (ap is_delivering (sym e ∙ d)) ∙ meets.rest u))
      by (Starts j he hl hs _ _ up e) = absurd (runs_delivers _ _ k v _ (sym e ∙ d))
      by (EndsWith w j he hl hs e) = end_late u w he
      by (LoopsTo h j vs _ he hl hs _ _ words e) = absurd (runs_delivers _ _ k v _ (sym e ∙ d))

  pub prompt : ((k : ℕ) → want C P r (suc k) ≡ true → go C P r i (suc k) ≡ true) → (z.site 0 ≡ Unsent → ⊥) → Prompt C c now (picture C z).units (picture C z).outside
  prompt free begun = record {
    ended = λ u f j xs s runs le. waits u f j xs s runs le;
    called = λ u f j xs s runs le k un w. not_wanted u f j xs s runs le free k un w;
    returned = λ u k v del. let l = given_late u k v (as_delivers C z.site (z.unit u) v k del) in omega (arith, l);
    begun = begun;
  }
