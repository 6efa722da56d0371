-- The registers after the edge show the state after the cycle.
use Rattle.safl_circuit.proofs.Common.{Choice, Inv, Numbered, Program, Returned, Sent, Stage, Unsent, Word, is_delivering, is_returned}
use Rattle.safl_circuit.proofs.Common.{is_running, is_there, no_word, or-false, or-true, or_else, same_Some, unit_for, unwrap_or, was_sent}
use Rattle.std.proofs.Common.{◌≡◌, ℕ, zero, suc, ◌<◌, ◌≤◌, List, [], Some, None, Bool, true, false, cond, ◌||◌, ◌==◌, is_some, refl, sym, ap, ◌∙◌, ⊎_elim, arith}
use Rattle.std.proofs.lemmas.Bool.{cases_eq, eqb-true, eqb-false, eq-eqb, ne_eqb, and_parts, true≢false, not-true}
use Rattle.safl_circuit.proofs.Accepts.{Meets, Started, asked_parts, go_within, go_one, go_asks}
use Rattle.safl_circuit.proofs.Ends.{Ended, Moved, loops_at}
use Rattle.safl_circuit.proofs.Fate.{Holds, Fate, Stays, Starts, EndsWith, LoopsTo, fate}
use Rattle.safl_circuit.specs.Equations.{Registers, Inputs, many, loop_words, go, go_words, loads}
use Rattle.safl_circuit.specs.Equations.{ends, taken_loop, starts, clears, starts_it, starts_other, next}
use Rattle.safl_circuit.proofs.Searched.{end_in, loop_in, go_in, load_in, if_other}
use Rattle.safl_calls.proofs.Basics.{first_none, first_only, all_none, some_none, cond_some, not_some, mask_all}
use Rattle.safl_calls.specs.Machine.{State, Mode, Idle, Runs, Delivers}
use Rattle.safl_calls.specs.Picks.{first}
use Rattle.safl_term.proofs.Apart.{sent_returned, unsent_returned}
use Rattle.safl_calls.proofs.Apart.{delivers_runs, runs_delivers}

sent_pure : (e l g : Bool) (x : Stage) → cond (e || l) false (was_sent x || g) ≡ was_sent (cond l Unsent (cond e Unsent (cond g Sent x)))
sent_pure true true g x = refl
sent_pure true false g x = refl
sent_pure false true g x = refl
sent_pure false false true x = or-true (was_sent x)
sent_pure false false false x = or-false (was_sent x)

got_pure : (e l g : Bool) (x : Stage) → (g ≡ true → x ≡ Unsent) → cond (e || l) false (is_returned x) ≡ is_returned (cond l Unsent (cond e Unsent (cond g Sent x)))
got_pure true true g x h = refl
got_pure true false g x h = refl
got_pure false true g x h = refl
got_pure false false true x h = ap is_returned (h refl)
got_pure false false false x h = refl

site_pure : (e l g : Bool) (x : Stage) (v : Word) → cond l Unsent (cond e Unsent (cond g Sent x)) ≡ Returned v → x ≡ Returned v
site_pure true true g x v h = absurd (unsent_returned v h)
site_pure true false g x v h = absurd (unsent_returned v h)
site_pure false true g x v h = absurd (unsent_returned v h)
site_pure false false true x v h = absurd (sent_returned v h)
site_pure false false false x v h = h

abbrev word_in : Mode → Word
word_in Idle = no_word
word_in (Runs f k ws) = no_word
word_in (Delivers k v) = v

abbrev args_in : Mode → List Word
args_in Idle = []
args_in (Runs f k ws) = ws
args_in (Delivers k v) = []

abbrev member_in : Mode → ℕ
member_in Idle = 0
member_in (Runs f k ws) = f
member_in (Delivers k v) = 0

module _ (C : Program) (P : Choice) (args : List Word) (good : Numbered C) (r : Registers) (i : Inputs) (t : State) (inv : Inv C t)
    (meets : Meets C P args r i t) (x : State) (st : Started C P args good r i t inv meets (suc C.sites) x) (y : State)
    (en : Ended C P args good r i t inv meets x st C.functions y) (z : State) (mv : Moved C P args good r i t inv meets x st y en C.functions z)
    (holds : Holds C P r t) where
  now : (u : ℕ) → Fate C P r i t z u
  now u = fate C P args good r i t inv meets x st y en z mv u

  pub edge_run : (u : ℕ) → (next C P i r).run u ≡ is_running (z.unit u)
  unfolding next ends starts
  edge_run u = by (now u)
    where
      by : Fate C P r i t z u → cond (is_some (first (end_in C P r u) C.functions)) false (r.run u || is_some (first (go_in C P r i u) (suc C.sites))) ≡ is_running (z.unit u)
      by (Stays he hl hs e) = rw (he, hs) (or-false (r.run u) ∙ meets.run u ∙ ap is_running (sym e))
      by (Starts k he hl hs le in_u up e) = rw (he, hs) (or-true (r.run u) ∙ ap is_running (sym e))
      by (EndsWith v j he hl hs e) = rw he (ap is_running (sym e))
      by (LoopsTo h j vs runs he hl hs lt in_u words e) = rw (he, hs) (or-false (r.run u) ∙ meets.run u ∙ runs ∙ ap is_running (sym e))

  pub edge_fin : (u : ℕ) → (next C P i r).fin u ≡ is_delivering (z.unit u)
  unfolding next ends
  edge_fin u = by (now u)
    where
      by : Fate C P r i t z u → is_some (first (end_in C P r u) C.functions) ≡ is_delivering (z.unit u)
      by (Stays he hl hs e) = ap is_some he ∙ sym (meets.rest u) ∙ ap is_delivering (sym e)
      by (Starts k he hl hs le in_u up e) = ap is_some he ∙ ap is_delivering (sym e)
      by (EndsWith v j he hl hs e) = ap is_some he ∙ ap is_delivering (sym e)
      by (LoopsTo h j vs runs he hl hs lt in_u words e) = ap is_some he ∙ ap is_delivering (sym e)

  pub edge_res : (u k : ℕ) (v : Word) → z.unit u ≡ Delivers k v → (next C P i r).res u ≡ v
  unfolding next ends
  edge_res u k v d = by (now u)
    where
      by : Fate C P r i t z u → unwrap_or (first (end_in C P r u) C.functions) (r.res u) ≡ v
      by (Stays he hl hs e) = absurd (true≢false (sym (ap is_delivering (sym e ∙ d)) ∙ meets.rest u))
      by (Starts j he hl hs le in_u up e) = absurd (runs_delivers _ _ k v _ (sym e ∙ d))
      by (EndsWith w j he hl hs e) = ap (λ o. unwrap_or o (r.res u)) he ∙ ap word_in (sym e ∙ d)
      by (LoopsTo h j vs runs he hl hs lt in_u words e) = absurd (runs_delivers _ _ k v _ (sym e ∙ d))

  z_site : (k : ℕ) → z.site (suc k) ≡ cond (is_some (first (loop_in C P r (C.unit (C.caller (suc k)))) C.functions)) Unsent
      (cond (is_some (first (end_in C P r (C.unit (C.caller (suc k)))) C.functions)) Unsent (cond (go C P r i (suc k)) Sent (t.site (suc k))))
  z_site k =
      let u = C.unit (C.caller (suc k)) in
      mv.site k
      ∙ ap (cond (is_some (first (loop_in C P r u) C.functions)) Unsent)
      (en.site k
      ∙ ap (cond (is_some (first (end_in C P r u) C.functions)) Unsent)
      (st.site (suc k) ∙ mask_all (suc C.sites) (suc k) (go C P r i (suc k)) Sent (t.site (suc k)) (λ up. omega (arith, go_within C P args good r i t inv meets (suc k) up))))

  pub edge_sent : (k : ℕ) → (next C P i r).sent (suc k) ≡ was_sent (z.site (suc k))
  unfolding next ends taken_loop
  edge_sent k =
      ap (λ b. cond (clears C P r (C.unit (C.caller (suc k)))) false (b || go C P r i (suc k))) (holds.sent k)
      ∙ sent_pure _ _ (go C P r i (suc k)) (t.site (suc k))
      ∙ ap was_sent (sym (z_site k))

  go_unsent : (k : ℕ) → go C P r i (suc k) ≡ true → t.site (suc k) ≡ Unsent
  go_unsent k up = let a = go_asks C P args good r i t inv meets (suc k) up in (asked_parts C args t k a.0 a.1).unsent

  pub edge_got : (k : ℕ) → (next C P i r).got (suc k) ≡ is_returned (z.site (suc k))
  unfolding next ends taken_loop
  edge_got k =
      ap (cond (clears C P r (C.unit (C.caller (suc k)))) false) (holds.got k)
      ∙ got_pure _ _ (go C P r i (suc k)) (t.site (suc k)) (go_unsent k)
      ∙ ap is_returned (sym (z_site k))

  pub edge_keep : (k : ℕ) (v : Word) → P.kept (suc k) ≡ true → z.site (suc k) ≡ Returned v → (next C P i r).keep (suc k) ≡ v
  unfolding next
  edge_keep k v kept e = holds.keep k v kept (site_pure _ _ (go C P r i (suc k)) (t.site (suc k)) v (sym (z_site k) ∙ e))

  -- what starts a member
  pub go_of_words : (k : ℕ) (ws : List Word) → go_words C P r i k ≡ Some ws → go C P r i k ≡ true
  go_of_words zero ws h = (cond_some _ _ ws h).0
  go_of_words (suc k) ws h = (cond_some _ _ ws h).0

  pub load_found : (f k : ℕ) (ws : List Word) → load_in C P r i f k ≡ Some ws → (C.callee k ≡ f) × (go C P r i k ≡ true) × (go_words C P r i k ≡ Some ws)
  load_found f k ws h = let a = cond_some _ _ ws h in (eqb-true _ f a.0, go_of_words k ws a.1, a.1)

  no_load : (f u : ℕ) → C.unit f ≡ u → first (go_in C P r i u) (suc C.sites) ≡ None → first (load_in C P r i f) (suc C.sites) ≡ None
  no_load f u in_u none = all_none _ (suc C.sites) (λ k lt. not_some _ (λ ws h.
      let a = load_found f k ws h in
      let at : go_in C P r i u k ≡ Some k = rw (eq-eqb (unit_for C k) u (ap C.unit a.0 ∙ in_u), a.1) refl in
      some_none k (sym at ∙ first_none (go_in C P r i u) (suc C.sites) none k lt)))

  load_it : (k : ℕ) (ws : List Word) → k ≤ C.sites → go C P r i k ≡ true → go_words C P r i k ≡ Some ws → first (load_in C P r i (C.callee k)) (suc C.sites) ≡ Some ws
  load_it k ws le up words = first_only _ (suc C.sites) ws k (omega arith) (rw (eq-eqb (C.callee k) (C.callee k) refl) words) (λ j lt vs h.
      let a = load_found (C.callee k) j vs h in
      let same = go_one C P args good r i t inv meets j k a.1 up (ap C.unit a.0) in
      same_Some vs ws (sym a.2 ∙ ap (go_words C P r i) same ∙ words))

  load_other : (k f : ℕ) → go C P r i k ≡ true → C.unit f ≡ unit_for C k → (f ≡ C.callee k → ⊥) → first (load_in C P r i f) (suc C.sites) ≡ None
  load_other k f up in_u other = all_none _ (suc C.sites) (λ j lt. not_some _ (λ ws h.
      let a = load_found f j ws h in
      let same = go_one C P args good r i t inv meets j k a.1 up (ap C.unit a.0 ∙ in_u) in
      other (sym a.0 ∙ ap C.callee same)))

  no_loop_words : (f u : ℕ) → f < C.functions → C.unit f ≡ u → first (loop_in C P r u) C.functions ≡ None → loop_words C P r f ≡ None
  no_loop_words f u lt in_u none = not_some _ (λ vs h.
      let at : loop_in C P r u f ≡ Some f = rw (eq-eqb (C.unit f) u in_u, h) refl in
      some_none f (sym at ∙ first_none (loop_in C P r u) C.functions none f lt))

  loop_other : (h f u : ℕ) → f < C.functions → C.unit f ≡ u → first (loop_in C P r u) C.functions ≡ Some h → (f ≡ h → ⊥) → loop_words C P r f ≡ None
  loop_other h f u lt in_u is other = not_some _ (λ vs e.
      let at = loops_at C P args good r i t inv meets x st y en f C.functions u lt (omega arith) (ap is_some e) in_u in
      other (same_Some f h (sym at ∙ is)))

  pub edge_arg : (u f k : ℕ) (ws : List Word) → z.unit u ≡ Runs f k ws → C.unit f ≡ u → f < C.functions → (next C P i r).arg f ≡ ws
  unfolding next loads
  edge_arg u f k ws d in_u lt = by (now u)
    where
      by : Fate C P r i t z u → unwrap_or (or_else (first (load_in C P r i f) (suc C.sites)) (loop_words C P r f)) (r.arg f) ≡ ws
      by (Stays he hl hs e) = rw (no_load f u in_u hs, no_loop_words f u lt in_u hl) (holds.arg u f k ws (sym e ∙ d))
      by (Starts j he hl hs le at up e) =
          let a = go_asks C P args good r i t inv meets j up in
          let f_is : C.callee j ≡ f = ap member_in (sym e ∙ d) in
          let load : first (load_in C P r i f) (suc C.sites) ≡ Some a.0 = ap (λ g. first (load_in C P r i g) (suc C.sites)) (sym f_is) ∙ load_it j a.0 le up a.2 in
          rw load (sym (ap (λ o. unwrap_or o []) a.2) ∙ ap args_in (sym e ∙ d))
      by (EndsWith v j he hl hs e) = absurd (delivers_runs f k j v ws (sym e ∙ d))
      by (LoopsTo h j vs runs he hl hs lth at words e) =
          let f_is : h ≡ f = ap member_in (sym e ∙ d) in
          rw (no_load f u in_u hs, ap (loop_words C P r) (sym f_is) ∙ words) (ap args_in (sym e ∙ d))

  -- one member of a unit is started
  at_target : (u m : ℕ) → m < C.functions → C.unit m ≡ u → starts_it C P r i m ≡ true →
      ((g : ℕ) → g < C.functions → C.unit g ≡ u → (g ≡ m → ⊥) → starts_it C P r i g ≡ false) → (g : ℕ) → g < C.functions → C.unit g ≡ u → cond
      (starts_other C P r i g) false (r.at g || starts_it C P r i g) ≡ (m == g)
  at_target u m ltm in_m it others g ltg in_g = ⊎_elim same other (cases_eq m g)
    where
      same : m ≡ g → cond (starts_other C P r i g) false (r.at g || starts_it C P r i g) ≡ (m == g)
      same e =
          let none : first (if_other C P r i g) C.functions ≡ None = all_none _ C.functions (λ j lt. not_some _ (λ v h.
          let a = and_parts _ _ (cond_some _ _ v h).0 in
          let b = and_parts _ _ a.1 in
          true≢false (sym b.1 ∙ others j lt (eqb-true _ _ a.0 ∙ in_g) (λ j_is. eqb-false j g (not-true _ b.0) (j_is ∙ e))))) in
          ap (λ o. cond (is_some o) false (r.at g || starts_it C P r i g)) none
          ∙ ap (λ b. r.at g || b) (ap (starts_it C P r i) (sym e) ∙ it) ∙ or-true (r.at g) ∙ sym (eq-eqb m g e)

      other : (m ≡ g → ⊥) → cond (starts_other C P r i g) false (r.at g || starts_it C P r i g) ≡ (m == g)
      other e =
          let at : if_other C P r i g m ≡ Some m = rw (eq-eqb (C.unit m) (C.unit g) (in_m ∙ sym in_g), ne_eqb m g e, it) refl in
          let some : is_some (first (if_other C P r i g) C.functions) ≡ true = is_there _ (λ none. some_none m (sym at ∙ first_none _ C.functions none m ltm)) in
          ap (λ b. cond b false (r.at g || starts_it C P r i g)) some ∙ sym (ne_eqb m g e)

  at_stays : (u : ℕ) → ((g : ℕ) → g < C.functions → C.unit g ≡ u → starts_it C P r i g ≡ false) → (g : ℕ) → g < C.functions → C.unit g ≡ u → cond
      (starts_other C P r i g) false (r.at g || starts_it C P r i g) ≡ r.at g
  at_stays u none g ltg in_g =
      let no_other : first (if_other C P r i g) C.functions ≡ None = all_none _ C.functions (λ j lt. not_some _ (λ v h.
      let a = and_parts _ _ (cond_some _ _ v h).0 in
      let b = and_parts _ _ a.1 in
      true≢false (sym b.1 ∙ none j lt (eqb-true _ _ a.0 ∙ in_g)))) in
      ap (λ o. cond (is_some o) false (r.at g || starts_it C P r i g)) no_other
      ∙ ap (λ b. r.at g || b) (none g ltg in_g) ∙ or-false (r.at g)

  pub edge_at : (u f k : ℕ) (ws : List Word) → z.unit u ≡ Runs f k ws → (g : ℕ) → g < C.functions → C.unit g ≡ u → many C g ≡ true → (next C P i r).at g ≡ (f == g)
  unfolding next loads
  edge_at u f k ws d g lt in_u is_many = by (now u)
    where
      by : Fate C P r i t z u → cond (starts_other C P r i g) false (r.at g || starts_it C P r i g) ≡ (f == g)
      by (Stays he hl hs e) =
          at_stays u none g lt in_u ∙ holds.at u f k ws (sym e ∙ d) g lt in_u is_many
        where
          none : (g : ℕ) → g < C.functions → C.unit g ≡ u → starts_it C P r i g ≡ false
          none g lt in_u = rw (no_load g u in_u hs, no_loop_words g u lt in_u hl) refl
      by (Starts j he hl hs le at up e) =
          at_target u (C.callee j) (good.callee_in j le) at it others g lt in_u ∙ ap (λ m. m == g) (ap member_in (sym e ∙ d))
        where
          it : starts_it C P r i (C.callee j) ≡ true
          it = let a = go_asks C P args good r i t inv meets j up in rw (load_it j a.0 le up a.2) refl

          others : (g : ℕ) → g < C.functions → C.unit g ≡ u → (g ≡ C.callee j → ⊥) → starts_it C P r i g ≡ false
          others g lt in_u other = rw (load_other j g up (in_u ∙ sym at) other, no_loop_words g u lt in_u hl) refl
      by (EndsWith v j he hl hs e) = absurd (delivers_runs f k j v ws (sym e ∙ d))
      by (LoopsTo h j vs runs he hl hs lth at words e) =
          at_target u h lth at it others g lt in_u ∙ ap (λ m. m == g) (ap member_in (sym e ∙ d))
        where
          it : starts_it C P r i h ≡ true
          it = rw (no_load h u at hs, words) refl

          others : (g : ℕ) → g < C.functions → C.unit g ≡ u → (g ≡ h → ⊥) → starts_it C P r i g ≡ false
          others g lt in_u other = rw (no_load g u in_u hs, loop_other h g u lt in_u hl other) refl
