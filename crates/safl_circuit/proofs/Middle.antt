-- After the Returns of a cycle the wires say what the machine's bodies say.
use Rattle.safl_circuit.proofs.Common.{Choice, Inv, Numbered, Program, Word, cond_cong, fun_ext, none_of, unit_for}
use Rattle.std.proofs.Common.{◌≡◌, ℕ, zero, suc, ◌<◌, List, [], ◌∷◌, ◌++◌, Option, Some, None, Bool, true, false, cond, not, ◌&&◌, ◌||◌, ◌==◌, nat_lt, nat_le, refl, sym, ap, ◌∙◌, ⊎_elim, arith}
use Rattle.std.proofs.lemmas.Bool.{cases_eq, eqb-true, eq-eqb, ne_eqb, lt-ltb, leb-true, and_parts, and_right}
use Rattle.safl_circuit.proofs.Start.{home, Back, ret_delivers}
use Rattle.safl_circuit.specs.Equations.{Registers, ret, returns, many, path, on_wires, body_says, body_wants}
use Rattle.safl_circuit.proofs.Searched.{other_than}
use Rattle.safl_circuit.specs.Steps.{Shows, was_sent, is_returned}
use Rattle.safl_calls.proofs.Basics.{last_append, first_none, some_none, unsent_is}
use Rattle.safl_calls.specs.Machine.{State, Mode, Idle, Runs, Delivers, Event, Return, opening, Legal, after_event, back, asked, asked_as, last_word, is_unsent}
use Rattle.safl_calls.proofs.Basics.{serves}
use Rattle.safl_calls.specs.Picks.{picks}
use Rattle.safl_calls.specs.Interference.{shown_words, shown_as, ShownWordsServe}
use Rattle.safl_term.specs.Readiness.{Answer, NotYet, answer, wanted, Stage, Unsent, Sent, Returned}

-- a mode after all returns
abbrev pub quiet : Mode → Mode
quiet Idle = Idle
quiet (Runs f k ws) = Runs f k ws
quiet (Delivers k v) = Idle

-- what the member f says
abbrev pub member_says : Program → (ℕ → Option Word) → Mode → ℕ → Answer
member_says C words Idle f = NotYet
member_says C words (Runs g k ws) f = cond (g == f) (answer words ws (C.body f)) NotYet
member_says C words (Delivers k v) f = NotYet

abbrev pub runs_it : Mode → ℕ → Bool
runs_it Idle f = false
runs_it (Runs g k ws) f = g == f
runs_it (Delivers k v) f = false

sent_unsent : (x : Stage) → not (was_sent x) ≡ is_unsent x
sent_unsent Unsent = refl
sent_unsent Sent = refl
sent_unsent (Returned v) = refl

cond_same : {A : Type 0} (b : Bool) (x y : A) → x ≡ y → cond b x y ≡ y
cond_same true x y e = e
cond_same false x y e = refl

wire_up : (g kept : Bool) (a c : Word) → cond (g || true) (Some (cond (kept && not true) a c)) None ≡ Some c
wire_up true true a c = refl
wire_up true false a c = refl
wire_up false true a c = refl
wire_up false false a c = refl

pub last_returns : (C : Program) (args : List Word) (s : State) (p : ℕ → Bool) (n u : ℕ) (d : Word) → last_word C args s (picks p Return n) u d ≡ d
unfolding picks last_word
last_returns C args s p zero u d = refl
last_returns C args s p (suc n) u d =
    last_append C args s (picks p Return n) (cond (p n) (Return n ∷ []) []) u d
    ∙ one (p n) (after_event C args s (picks p Return n)) (last_word C args s (picks p Return n) u d)
    ∙ last_returns C args s p n u d
  where
    one : (b : Bool) (x : State) (e : Word) → last_word C args x (cond b (Return n ∷ []) []) u e ≡ e
    one true x e = refl
    one false x e = refl

module _ (C : Program) (P : Choice) (args : List Word) (good : Numbered C) (r : Registers) (s : State) (inv : Inv C s) (shows : Shows C P s r) where
  path_runs_as : (f : ℕ) → f < C.functions → (m : Mode) → s.unit (C.unit f) ≡ m → path C r f ≡ runs_it m f
  path_runs_as f lt Idle e = rw (shows.run (C.unit f), e) refl
  path_runs_as f lt (Delivers k v) e = rw (shows.run (C.unit f), e) refl
  path_runs_as f lt (Runs g k ws) e = rw (shows.run (C.unit f), e) (by_many (many C f) refl)
    where
      by_many : (b : Bool) → many C f ≡ b → (not b || r.at f) ≡ (g == f)
      by_many true is = shows.at (C.unit f) g k ws e f lt refl is
      by_many false is = sym (eq-eqb g f (⊎_elim (λ same. same) (λ other. absurd (let m = inv.member (C.unit f) g k ws e in
          let has : other_than C f g ≡ Some g = rw (eq-eqb (C.unit g) (C.unit f) m.0, ne_eqb g f other) refl in
          let not_there = first_none (other_than C f) C.functions (none_of _ is) g m.1 in
          some_none g (sym has ∙ not_there))) (cases_eq g f)))

  pub path_runs : (f : ℕ) → f < C.functions → path C r f ≡ runs_it (s.unit (C.unit f)) f
  path_runs f lt = path_runs_as f lt (s.unit (C.unit f)) refl

  module _ (d : ℕ → Word) (es : List Event) (lasts : (u : ℕ) → r.res u ≡ last_word C args opening es u (d u))
      (same_start : after_event C args opening es ≡ s) (legal : Legal C args opening (es ++ returns C r (suc C.sites))) where
    abbrev all : List Event
    all = es ++ returns C r (suc C.sites)

    abbrev t : State
    t = after_event C args opening all

    module _ (b : Back C P args good r s inv shows (suc C.sites) t) (h2 : ShownWordsServe C P.kept) where
      pub unit_quiet : (u : ℕ) → t.unit u ≡ quiet (s.unit u)
      unit_quiet u = b.unit u ∙ go (s.unit u) refl
        where
          go : (m : Mode) → s.unit u ≡ m → home (suc C.sites) m ≡ quiet m
          go Idle e = refl
          go (Runs f k ws) e = refl
          go (Delivers k v) e = rw (lt-ltb k (suc C.sites) (omega (arith, (inv.serving u k (ap serves e)).2)))

      pub site_came : (k : ℕ) → t.site k ≡ cond (ret C r k) (Returned (r.res (unit_for C k))) (s.site k)
      site_came k = b.site k ∙ go (ret C r k) refl
        where
          go : (up : Bool) → ret C r k ≡ up → cond (nat_lt k (suc C.sites) && up) (Returned (r.res (unit_for C k))) (s.site k) ≡ cond up (Returned (r.res (unit_for C k))) (s.site k)
          go true e =
              let d = ret_delivers C P args good r s inv shows k e in
              rw (lt-ltb k (suc C.sites) (omega (arith, (inv.serving (unit_for C k) k (ap serves d.1)).2)))
          go false e = rw (and_right (nat_lt k (suc C.sites)) false refl)

      last_all : (u : ℕ) → r.res u ≡ last_word C args opening all u (d u)
      last_all u = lasts u ∙ sym (last_append C args opening es (returns C r (suc C.sites)) u (d u) ∙ last_returns C args _ (ret C r) (suc C.sites) u _)

      pub wires_show : (k : ℕ) → on_wires C P r k ≡ shown_words C P.kept d args all k
      wires_show zero = refl
      wires_show (suc k) = by (ret C r (suc k)) refl (s.site (suc k)) refl
        where
          w : ℕ
          w = unit_for C (suc k)

          got : r.got (suc k) ≡ is_returned (s.site (suc k))
          got = shows.got (suc k) (omega arith)

          by : (up : Bool) → ret C r (suc k) ≡ up → (x : Stage) → s.site (suc k) ≡ x → on_wires C P r (suc k) ≡ shown_words C P.kept d args all (suc k)
          by true e x is =
              ap (λ up. cond (r.got (suc k) || up) (Some (cond (P.kept (suc k) && not up) (r.keep (suc k)) (r.res w))) None) e
              ∙ wire_up (r.got (suc k)) (P.kept (suc k)) (r.keep (suc k)) (r.res w)
              ∙ ap Some (sym (cond_same (P.kept (suc k)) (r.res w) (last_word C args opening all w (d w)) (last_all w) ∙ sym (last_all w)))
              ∙ ap (shown_as (P.kept (suc k)) (last_word C args opening all w (d w))) (sym (site_came (suc k) ∙ ap (λ up. cond up (Returned (r.res w)) (s.site (suc k))) e))
          by false e x is =
              ap (λ up. cond (r.got (suc k) || up) (Some (cond (P.kept (suc k) && not up) (r.keep (suc k)) (r.res w))) None) e
              ∙ ap (λ g. cond (g || false) (Some (cond (P.kept (suc k) && not false) (r.keep (suc k)) (r.res w))) None) got
              ∙ at (P.kept (suc k)) refl (s.site (suc k)) refl
              ∙ ap (shown_as (P.kept (suc k)) (last_word C args opening all w (d w))) (sym (site_came (suc k) ∙ ap (λ up. cond up (Returned (r.res w)) (s.site (suc k))) e))
            where
              at : (kept : Bool) → P.kept (suc k) ≡ kept → (x : Stage) → s.site (suc k) ≡ x → cond (is_returned x || false)
                  (Some (cond (kept && not false) (r.keep (suc k)) (r.res w))) None ≡ shown_as kept (last_word C args opening all w (d w)) x
              at kept yes' Unsent h = refl
              at kept yes' Sent h = refl
              at true yes' (Returned v) h = ap Some (shows.keep (suc k) v (omega arith) yes' h)
              at false yes' (Returned v) h = ap Some (last_all w)

      pub on_path : on_wires C P r ≡ shown_words C P.kept d args all
      on_path = fun_ext wires_show

      meets_says : (f g k : ℕ) (ws : List Word) → s.unit (C.unit f) ≡ Runs g k ws → g ≡ f → answer (on_wires C P r) (r.arg f) (C.body f) ≡ answer (back t) ws (C.body f)
      meets_says f g k ws e same =
          let e' : s.unit (C.unit f) ≡ Runs f k ws = e ∙ ap (λ j. Runs j k ws) same in
          let now : t.unit (C.unit f) ≡ Runs f k ws = unit_quiet (C.unit f) ∙ ap quiet e' in
          ap (λ w. answer w (r.arg f) (C.body f)) on_path
          ∙ ap (λ a. answer (shown_words C P.kept d args all) a (C.body f)) (shows.arg (C.unit f) f k ws e')
          ∙ h2.same_answer d args all legal (C.unit f) f k ws now

      meets_wants : (f g k : ℕ) (ws : List Word) (j : ℕ) → s.unit (C.unit f) ≡ Runs g k ws → g ≡ f → t.site j ≡ Unsent → wanted (on_wires C P r)
          (r.arg f) (C.body f) j ≡ wanted (back t) ws (C.body f) j
      meets_wants f g k ws j e same un =
          let e' : s.unit (C.unit f) ≡ Runs f k ws = e ∙ ap (λ j. Runs j k ws) same in
          let now : t.unit (C.unit f) ≡ Runs f k ws = unit_quiet (C.unit f) ∙ ap quiet e' in
          ap (λ w. wanted w (r.arg f) (C.body f) j) on_path
          ∙ ap (λ a. wanted (shown_words C P.kept d args all) a (C.body f) j) (shows.arg (C.unit f) f k ws e')
          ∙ h2.same_wants d args all legal (C.unit f) f k ws now j un

      unsent_same : (k : ℕ) → not (r.sent (suc k)) ≡ is_unsent (t.site (suc k))
      unsent_same k = ap not (shows.sent (suc k) (omega arith)) ∙ sent_unsent (s.site (suc k)) ∙ by (ret C r (suc k)) refl ∙ sym (ap is_unsent (site_came (suc k)))
        where
          by : (up : Bool) → ret C r (suc k) ≡ up → is_unsent (s.site (suc k)) ≡ is_unsent (cond up (Returned (r.res (unit_for C (suc k)))) (s.site (suc k)))
          by true e = sym (sent_unsent (s.site (suc k))) ∙ ap not (sym (shows.sent (suc k) (omega arith)) ∙ (and_parts _ _ (and_parts _ _ e).1).0)
          by false e = refl

      pub says_it : (f : ℕ) → f < C.functions → body_says C P r f ≡ member_says C (back t) (t.unit (C.unit f)) f
      unfolding body_says
      says_it f lt =
          ap (λ p. cond p (answer (on_wires C P r) (r.arg f) (C.body f)) NotYet) (path_runs f lt)
          ∙ go (s.unit (C.unit f)) refl
          ∙ ap (λ m. member_says C (back t) m f) (sym (unit_quiet (C.unit f)))
        where
          go : (m : Mode) → s.unit (C.unit f) ≡ m → cond (runs_it m f) (answer (on_wires C P r) (r.arg f) (C.body f)) NotYet ≡ member_says C (back t) (quiet m) f
          go Idle e = refl
          go (Delivers k v) e = refl
          go (Runs g k ws) e = cond_cong (g == f) _ _ NotYet (λ same. meets_says f g k ws e (eqb-true g f same))

      pub wants_it : (k : ℕ) → body_wants C P r (suc k) ≡ asked C args t (suc k)
      unfolding body_wants
      wants_it k =
          ap (λ un. cond (un && nat_le (suc k) C.sites) (cond (path C r f) (wanted (on_wires C P r) (r.arg f) (C.body f) (suc k)) None) None) (unsent_same k)
          ∙ cond_cong (is_unsent (t.site (suc k)) && nat_le (suc k) C.sites) _ _ None inner
        where
          f : ℕ
          f = C.caller (suc k)

          go : t.site (suc k) ≡ Unsent → (m : Mode) → s.unit (C.unit f) ≡ m → cond (runs_it m f) (wanted (on_wires C P r) (r.arg f) (C.body f) (suc k)) None ≡ asked_as C (back t) (quiet m) f (suc k)
          go un Idle e = refl
          go un (Delivers j v) e = refl
          go un (Runs g j ws) e = cond_cong (g == f) _ _ None (λ same. meets_wants f g j ws (suc k) e (eqb-true g f same) un)

          inner : (is_unsent (t.site (suc k)) && nat_le (suc k) C.sites) ≡ true → cond (path C r f)
              (wanted (on_wires C P r) (r.arg f) (C.body f) (suc k)) None ≡ asked_as C (back t) (t.unit (C.unit f)) f (suc k)
          inner h =
              let a = and_parts _ _ h in
              let lt = good.caller_in (suc k) (omega arith) (leb-true (suc k) C.sites a.1) in
              ap (λ p. cond p (wanted (on_wires C P r) (r.arg f) (C.body f) (suc k)) None) (path_runs f lt)
              ∙ go (unsent_is (t.site (suc k)) a.0) (s.unit (C.unit f)) refl
              ∙ ap (λ m. asked_as C (back t) m f (suc k)) (sym (unit_quiet (C.unit f)))
