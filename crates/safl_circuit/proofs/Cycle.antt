-- A cycle of the circuit is a list of events of the machine.
use Rattle.safl_circuit.proofs.Common.{Choice, Numbered, OneInUse, Program, Returned, Sent, ShownWordsServe, Stage, Unsent, idle_delivers}
use Rattle.safl_circuit.proofs.Common.{idle_runs, or-false, or-true, unit_for, unwrap_or}
use Rattle.std.proofs.Common.{◌≡◌, ℕ, zero, suc, ◌+◌, ◌<◌, List, [], ◌∷◌, ◌++◌, Bool, true, false, cond, ◌||◌, refl, sym, ap, ◌∙◌, subst, ⊎_elim, arith}
use Rattle.std.proofs.lemmas.Bool.{and_parts, false≢true}
use Rattle.safl_circuit.proofs.Accepts.{Meets, Started, accepted, go_one, go_idle}
use Rattle.safl_circuit.proofs.Claims.{Steps}
use Rattle.safl_circuit.proofs.Edge.{edge_run, edge_fin, edge_res, edge_at, edge_arg, edge_sent, edge_got, edge_keep}
use Rattle.safl_circuit.proofs.Ends.{Ended, Moved, finished_to, moved_all, last_end}
use Rattle.safl_circuit.proofs.Fate.{Holds}
use Rattle.safl_circuit.proofs.Middle.{quiet, unit_quiet, site_came, says_it, wants_it, last_returns}
use Rattle.safl_circuit.proofs.Progress.{moves}
use Rattle.safl_circuit.proofs.Start.{Back, returned, ret_delivers}
use Rattle.safl_circuit.specs.Equations.{Registers, Inputs, ret, go, returns, accepts, finishes, goes_on, cycle_events, next, ends}
use Rattle.safl_circuit.proofs.Searched.{end_in}
use Rattle.safl_circuit.specs.Steps.{Shows, Quiet, is_running, is_delivering, was_sent, is_returned, input_at, registers_at, history}
use Rattle.safl_calls.proofs.Basics.{moves_append, after_append, legal_append, last_append, mask_all}
use Rattle.safl_calls.proofs.Invariant.{Inv, inv_after, unsent_at_rest}
use Rattle.safl_calls.specs.Machine.{State, Mode, Idle, Runs, Delivers, Event, Accept, LoopInto, opening, Enabled, Legal, after_event, last_word, finished}
use Rattle.safl_calls.proofs.Basics.{serves}
use Rattle.safl_calls.specs.Picks.{picks, first}
use Rattle.safl_calls.specs.Moves.{moves_count}
use Rattle.safl_word.specs.Words.{Word, no_word, widths}
use Rattle.safl_term.proofs.Apart.{sent_unsent, unsent_returned}

quiet_runs : (m : Mode) (f k : ℕ) (ws : List Word) → quiet m ≡ Runs f k ws → m ≡ Runs f k ws
quiet_runs Idle f k ws e = e
quiet_runs (Runs g j vs) f k ws e = e
quiet_runs (Delivers j v) f k ws e = absurd (apart e)
  where
    apart : Idle ≡ Runs f k ws → ⊥
    apart e = grind arith

quiet_running : (m : Mode) → is_running m ≡ is_running (quiet m)
quiet_running Idle = refl
quiet_running (Runs f k ws) = refl
quiet_running (Delivers k v) = refl

quiet_rest : (m : Mode) → is_delivering (quiet m) ≡ false
quiet_rest Idle = refl
quiet_rest (Runs f k ws) = refl
quiet_rest (Delivers k v) = refl

abbrev stage_word : Stage → Word
stage_word Unsent = no_word
stage_word Sent = no_word
stage_word (Returned v) = v

-- events that finish nothing leave the words
last_same : (C : Program) (args : List Word) (s : State) (p : ℕ → Bool) (e : ℕ → Event) →
    ((q : State) (n u : ℕ) (d : Word) → finished C q (e n) u d ≡ d) → (n u : ℕ) (d : Word) → last_word C args s (picks p e n) u d ≡ d
unfolding picks last_word
last_same C args s p e same zero u d = refl
last_same C args s p e same (suc n) u d =
    last_append C args s (picks p e n) (cond (p n) (e n ∷ []) []) u d
    ∙ one (p n) (after_event C args s (picks p e n)) (last_word C args s (picks p e n) u d)
    ∙ last_same C args s p e same n u d
  where
    one : (b : Bool) (x : State) (c : Word) → last_word C args x (cond b (e n ∷ []) []) u c ≡ c
    one true x c = same x n u c
    one false x c = refl

module _ (C : Program) (P : Choice) (args : List Word) (good : Numbered C) (h1 : OneInUse C P.arbiter) (h2 : ShownWordsServe C P.kept) (d : ℕ → Word)
    (es : List Event) (legal : Legal C args opening es) (r : Registers) (i : Inputs) (shows : Shows C P (after_event C args opening es) r)
    (lasts : (u : ℕ) → r.res u ≡ last_word C args opening es u (d u))
    (start : i.start ≡ true → ((after_event C args opening es).site 0 ≡ Unsent) × (i.words ≡ args) × (widths args ≡ C.params C.main)) where
  s : State
  s = after_event C args opening es

  inv : Inv C (after_event C args opening es)
  inv = inv_after C args good es legal

  rets : List Event
  rets = returns C r (suc C.sites)

  back_home : Legal C args (after_event C args opening es) (returns C r (suc C.sites)) × Back C P args good r (after_event C args opening es) inv shows
      (suc C.sites) (after_event C args (after_event C args opening es) (returns C r (suc C.sites)))
  back_home = returned C P args good r (after_event C args opening es) inv shows

  abbrev pub all : List Event
  all = es ++ returns C r (suc C.sites)

  abbrev pub t : State
  t = after_event C args opening all

  pub t_is : t ≡ after_event C args (after_event C args opening es) (returns C r (suc C.sites))
  t_is = after_append C args opening es (returns C r (suc C.sites))

  pub legal_all : Legal C args opening all
  legal_all = legal_append C args opening es (returns C r (suc C.sites)) legal back_home.0

  b : Back C P args good r (after_event C args opening es) inv shows (suc C.sites) t
  b = subst (Back C P args good r (after_event C args opening es) inv shows (suc C.sites)) (sym t_is) back_home.1

  pub came : (k : ℕ) → t.site k ≡ cond (ret C r k) (Returned (r.res (unit_for C k))) ((after_event C args opening es).site k)
  came = site_came C P args good r (after_event C args opening es) inv shows d es lasts refl legal_all b h2

  pub calm : (u : ℕ) → t.unit u ≡ quiet ((after_event C args opening es).unit u)
  calm = unit_quiet C P args good r (after_event C args opening es) inv shows d es lasts refl legal_all b h2

  pub meets : Meets C P args r i t
  meets = record {
    says = says_it C P args good r (after_event C args opening es) inv shows d es lasts refl legal_all b h2;
    wants = wants_it C P args good r (after_event C args opening es) inv shows d es lasts refl legal_all b h2;
    run = λ u. shows.run u ∙ quiet_running _ ∙ ap is_running (sym (calm u));
    rest = λ u. ap is_delivering (calm u) ∙ quiet_rest _;
    start = λ up. (site_zero (start up).0 (ret C r 0) refl, (start up).1, (start up).2);
    one = h1.one args all legal_all;
  }
    where
      site_zero : (after_event C args opening es).site 0 ≡ Unsent → (up : Bool) → ret C r 0 ≡ up → t.site 0 ≡ Unsent
      site_zero un true e =
          let dl = ret_delivers C P args good r (after_event C args opening es) inv shows 0 e in
          absurd (sent_unsent (sym (inv.serving (unit_for C 0) 0 (ap serves dl.1)).0 ∙ un))
      site_zero un false e = came 0 ∙ ap (λ up. cond up (Returned (r.res (unit_for C 0))) ((after_event C args opening es).site 0)) e ∙ un

  pub holds : Holds C P r t
  holds = record {
    at = λ u f k ws e g lt in_u is_many. shows.at u f k ws (quiet_runs _ f k ws (sym (calm u) ∙ e)) g lt in_u is_many;
    arg = λ u f k ws e. shows.arg u f k ws (quiet_runs _ f k ws (sym (calm u) ∙ e));
    sent = λ k. sent_at k (ret C r (suc k)) refl;
    got = λ k. got_at k (ret C r (suc k)) refl;
    keep = λ k v kept e. keep_at k v kept e (ret C r (suc k)) refl;
  }
    where
      at : (k : ℕ) (up : Bool) → ret C r (suc k) ≡ up → t.site (suc k) ≡ cond up (Returned (r.res (unit_for C (suc k)))) ((after_event C args opening es).site (suc k))
      at k up e = came (suc k) ∙ ap (λ up. cond up (Returned (r.res (unit_for C (suc k)))) ((after_event C args opening es).site (suc k))) e

      sent_at : (k : ℕ) (up : Bool) → ret C r (suc k) ≡ up → r.sent (suc k) ≡ was_sent (t.site (suc k))
      sent_at k true e = (and_parts _ _ (and_parts _ _ e).1).0 ∙ ap was_sent (sym (at k true e))
      sent_at k false e = shows.sent (suc k) (omega arith) ∙ ap was_sent (sym (at k false e))

      got_at : (k : ℕ) (up : Bool) → ret C r (suc k) ≡ up → (r.got (suc k) || ret C r (suc k)) ≡ is_returned (t.site (suc k))
      got_at k true e = ap (λ b. r.got (suc k) || b) e ∙ or-true (r.got (suc k)) ∙ ap is_returned (sym (at k true e))
      got_at k false e = ap (λ b. r.got (suc k) || b) e ∙ or-false (r.got (suc k)) ∙ shows.got (suc k) (omega arith) ∙ ap is_returned (sym (at k false e))

      keep_at : (k : ℕ) (v : Word) → P.kept (suc k) ≡ true → t.site (suc k) ≡ Returned v → (up : Bool) → ret C r (suc k) ≡ up → cond (ret C r (suc k)) (r.res (unit_for C (suc k))) (r.keep (suc k)) ≡ v
      keep_at k v kept is true e = ap (λ b. cond b (r.res (unit_for C (suc k))) (r.keep (suc k))) e ∙ ap stage_word (sym (at k true e) ∙ is)
      keep_at k v kept is false e = ap (λ b. cond b (r.res (unit_for C (suc k))) (r.keep (suc k))) e ∙ shows.keep (suc k) v (omega arith) kept (sym (at k false e) ∙ is)

  pub inv_t : Inv C t
  inv_t = inv_after C args good all legal_all

  abbrev pub x : State
  x = after_event C args t (accepts C P r i (suc C.sites))

  pub started : Legal C args t (accepts C P r i (suc C.sites)) × Started C P args good r i t inv_t meets (suc C.sites) x
  started = accepted C P args good r i t inv_t meets

  abbrev pub y : State
  y = after_event C args x (finishes C P r C.functions)

  pub ended : Legal C args x (finishes C P r C.functions) × Ended C P args good r i t inv_t meets x started.1 C.functions y
  ended = finished_to C P args good r i t inv_t meets x started.1 C.functions (omega arith)

  abbrev pub z : State
  z = after_event C args y (goes_on C P r C.functions)

  pub moved : Legal C args y (goes_on C P r C.functions) × Moved C P args good r i t inv_t meets x started.1 y ended.1 C.functions z
  moved = moved_all C P args good r i t inv_t meets x started.1 y ended.1

  abbrev pub late : List Event
  late = accepts C P r i (suc C.sites) ++ (finishes C P r C.functions ++ goes_on C P r C.functions)

  pub legal_next : Legal C args opening (es ++ cycle_events C P r i)
  legal_next =
      legal_append C args opening es (cycle_events C P r i) legal
      (legal_append C args (after_event C args opening es) (returns C r (suc C.sites)) late back_home.0
      (subst (λ q. Legal C args q late) t_is
      (legal_append C args t (accepts C P r i (suc C.sites)) (finishes C P r C.functions ++ goes_on C P r C.functions) started.0
      (legal_append C args x (finishes C P r C.functions) (goes_on C P r C.functions) ended.0 moved.0))))

  pub z_is : after_event C args opening (es ++ cycle_events C P r i) ≡ z
  z_is =
      after_append C args opening es (cycle_events C P r i)
      ∙ after_append C args (after_event C args opening es) (returns C r (suc C.sites)) late
      ∙ ap (λ q. after_event C args q late) (sym t_is)
      ∙ after_append C args t (accepts C P r i (suc C.sites)) (finishes C P r C.functions ++ goes_on C P r C.functions)
      ∙ after_append C args x (finishes C P r C.functions) (goes_on C P r C.functions)

  inv_z : Inv C z
  inv_z = subst (Inv C) z_is (inv_after C args good (es ++ cycle_events C P r i) legal_next)

  shows_z : Shows C P z (next C P i r)
  shows_z = record {
    run = edge_run C P args good r i t inv_t meets x started.1 y ended.1 z moved.1 holds;
    fin = edge_fin C P args good r i t inv_t meets x started.1 y ended.1 z moved.1 holds;
    res = edge_res C P args good r i t inv_t meets x started.1 y ended.1 z moved.1 holds;
    at = edge_at C P args good r i t inv_t meets x started.1 y ended.1 z moved.1 holds;
    arg = λ u f k ws e. edge_arg C P args good r i t inv_t meets x started.1 y ended.1 z moved.1 holds u f k ws e (inv_z.member u f k ws e).0 (inv_z.member u f k ws e).1;
    sent = sent_z;
    got = got_z;
    keep = λ k v pos. from_one (λ k. P.kept k ≡ true → z.site k ≡ Returned v → (next C P i r).keep k ≡ v)
        (λ k. edge_keep C P args good r i t inv_t meets x started.1 y ended.1 z moved.1 holds k v) k pos;
    others = λ k pos rests. (sent_z k pos ∙ ap was_sent (unsent_at_rest C z k inv_z pos rests), got_z k pos ∙ ap is_returned (unsent_at_rest C z k inv_z pos rests));
  }
    where
      from_one : (Q : ℕ → Type 0) → ((k : ℕ) → Q (suc k)) → (k : ℕ) → 0 < k → Q k
      from_one Q h zero pos = absurd (omega (arith, pos))
      from_one Q h (suc k) pos = h k

      sent_z : (k : ℕ) → 0 < k → (next C P i r).sent k ≡ was_sent (z.site k)
      sent_z k pos = from_one (λ k. (next C P i r).sent k ≡ was_sent (z.site k)) (edge_sent C P args good r i t inv_t meets x started.1 y ended.1 z moved.1 holds) k pos

      got_z : (k : ℕ) → 0 < k → (next C P i r).got k ≡ is_returned (z.site k)
      got_z k pos = from_one (λ k. (next C P i r).got k ≡ is_returned (z.site k)) (edge_got C P args good r i t inv_t meets x started.1 y ended.1 z moved.1 holds) k pos

  pub one_start : (j k : ℕ) → go C P r i j ≡ true → go C P r i k ≡ true → unit_for C j ≡ unit_for C k → j ≡ k
  one_start = go_one C P args good r i t inv_t meets

  pub start_rests : (k : ℕ) → go C P r i k ≡ true → r.run (unit_for C k) ≡ false
  start_rests k up = meets.run (unit_for C k) ∙ ap is_running (go_idle C P args good r i t inv_t meets k up)

  -- main's site
  pub outer_next : (after_event C args opening (es ++ cycle_events C P r i)).site 0 ≡ cond (go C P r i 0) Sent (cond (ret C r 0) (Returned (r.res (unit_for C 0)))
      ((after_event C args opening es).site 0))
  outer_next =
      ap (λ q. q.site 0) z_is ∙ moved.1.outer ∙ started.1.site 0
      ∙ mask_all (suc C.sites) 0 (go C P r i 0) Sent (t.site 0) (λ up. omega arith)
      ∙ ap (cond (go C P r i 0) Sent) (came 0)

  -- a cycle has an event besides its Returns where one is enabled after them
  pub progress : (e : Event) → Enabled C args t e → (e ≡ Accept 0 → go C P r i 0 ≡ true) → 0 < moves_count (cycle_events C P r i)
  progress e on main = ⊎_elim
      (λ a. omega (arith, a, all_sum, late_sum, end_sum))
      (λ b. ⊎_elim (λ f. omega (arith, f, all_sum, late_sum, end_sum)) (λ g. omega (arith, g, all_sum, late_sum, end_sum)) b)
      (moves C P args good r i t inv_t meets e on main)
    where
      all_sum : moves_count (cycle_events C P r i) ≡ moves_count (returns C r (suc C.sites)) + moves_count late
      all_sum = moves_append (returns C r (suc C.sites)) late

      late_sum : moves_count late ≡ moves_count (accepts C P r i (suc C.sites)) + moves_count (finishes C P r C.functions ++ goes_on C P r C.functions)
      late_sum = moves_append (accepts C P r i (suc C.sites)) (finishes C P r C.functions ++ goes_on C P r C.functions)

      end_sum : moves_count (finishes C P r C.functions ++ goes_on C P r C.functions) ≡ moves_count (finishes C P r C.functions) + moves_count (goes_on C P r C.functions)
      end_sum = moves_append (finishes C P r C.functions) (goes_on C P r C.functions)

  pub shows_next : Shows C P (after_event C args opening (es ++ cycle_events C P r i)) (next C P i r)
  shows_next = subst (λ q. Shows C P q (next C P i r)) (sym z_is) shows_z

  pub lasts_next : (u : ℕ) → (next C P i r).res u ≡ last_word C args opening (es ++ cycle_events C P r i) u (d u)
  unfolding next ends
  lasts_next u =
      ap (unwrap_or (first (end_in C P r u) C.functions)) (lasts u)
      ∙ sym (last_end C P args good r i t inv_t meets x started.1 u (last_word C args opening es u (d u)) C.functions (omega arith))
      ∙ sym (last_same C args y _ LoopInto (λ q n u d. refl) C.functions u _)
      ∙ sym (last_append C args x (finishes C P r C.functions) (goes_on C P r C.functions) u (last_word C args opening es u (d u)))
      ∙ ap (last_word C args x (finishes C P r C.functions ++ goes_on C P r C.functions) u) (sym (last_same C args t _ Accept (λ q n u d. refl) (suc C.sites) u (last_word C args opening es u (d u))))
      ∙ sym (last_append C args t (accepts C P r i (suc C.sites)) (finishes C P r C.functions ++ goes_on C P r C.functions) u (last_word C args opening es u (d u)))
      ∙ ap (λ q. last_word C args q late u (last_word C args opening es u (d u))) t_is
      ∙ ap (last_word C args (after_event C args (after_event C args opening es) (returns C r (suc C.sites))) late u)
      (sym (last_returns C args (after_event C args opening es) (ret C r) (suc C.sites) u (last_word C args opening es u (d u))))
      ∙ sym (last_append C args (after_event C args opening es) (returns C r (suc C.sites)) late u (last_word C args opening es u (d u)))
      ∙ sym (last_append C args opening es (cycle_events C P r i) u (d u))

-- the law
first_shows : (C : Program) (P : Choice) (r0 : Registers) → Quiet r0 → Shows C P opening r0
first_shows C P r0 quiet = record {
  run = quiet.run;
  fin = quiet.fin;
  res = λ u k v e. absurd (idle_delivers k v e);
  at = λ u f k ws e. absurd (idle_runs f k ws e);
  arg = λ u f k ws e. absurd (idle_runs f k ws e);
  sent = quiet.sent;
  got = quiet.got;
  keep = λ k v pos kept e. absurd (unsent_returned v e);
  others = λ k pos rests. (quiet.sent k pos, quiet.got k pos);
}

pub start_at : (C : Program) (P : Choice) (r0 : Registers) (args : List Word) → widths args ≡ C.params C.main → (later : ℕ → List Word) (c : ℕ) →
    (input_at args later c).start ≡ true → ((after_event C args opening (history C P r0 args later c)).site 0 ≡ Unsent) ×
    ((input_at args later c).words ≡ args) × (widths args ≡ C.params C.main)
unfolding history after_event
start_at C P r0 args sized later zero up = (refl, refl, sized)
start_at C P r0 args sized later (suc c) up = absurd (false≢true up)

pub steps : Steps
unfolding history registers_at after_event Legal last_word
steps C P good h1 h2 r0 quiet args sized later zero = record { legal = tt; shows = first_shows C P r0 quiet; res = λ u. refl }
steps C P good h1 h2 r0 quiet args sized later (suc c) =
    let before = steps C P good h1 h2 r0 quiet args sized later c in
    let es = history C P r0 args later c in
    let r = registers_at C P r0 args later c in
    let i = input_at args later c in
    record {
      legal = legal_next C P args good h1 h2 r0.res es before.legal r i before.shows before.res (start_at C P r0 args sized later c);
      shows = shows_next C P args good h1 h2 r0.res es before.legal r i before.shows before.res (start_at C P r0 args sized later c);
      res = lasts_next C P args good h1 h2 r0.res es before.legal r i before.shows before.res (start_at C P r0 args sized later c);
    }
