-- The words on the argument registers are the arguments of the events.
use Rattle.safl_circuit.proofs.Common.{Choice, Inv, LoopTo, Numbered, OneInUse, Program, ShownWordsServe, cond_same, loop_not_yet, none_of}
use Rattle.safl_circuit.proofs.Common.{or_else, runs_idle, same_Some, unwrap_or}
use Rattle.std.proofs.Common.{◌≡◌, ℕ, zero, suc, ◌<◌, ◌≤◌, List, [], ◌∷◌, ◌++◌, length, Option, Some, None, Bool, true, false, cond, ◌||◌, nat_lt}
use Rattle.std.proofs.Common.{is_some, refl, sym, ap, ◌∙◌, subst, ⊎_elim, arith, append-nil, append_assoc, length-append}
use Rattle.std.proofs.lemmas.Bool.{cases_eq, eq-eqb, ne_eqb, true≢false, lt-ltb, le-ltb, cases_lt}
use Rattle.safl_circuit.proofs.Accepts.{Meets, Started, accepted_to, asked_same, go_asks, go_one, go_idle}
use Rattle.safl_circuit.proofs.Claims.{ArgumentsSeen, OneStart}
use Rattle.safl_circuit.proofs.Cycle.{steps, start_at, t, x, y, z, late, t_is, inv_t, meets, started, ended, moved, holds}
use Rattle.safl_circuit.proofs.Edge.{load_found}
use Rattle.safl_circuit.proofs.Ends.{Ended, Moved, moved_to, loop_says, loop_found, running, Running}
use Rattle.safl_circuit.proofs.Fate.{Holds}
use Rattle.safl_circuit.proofs.WordsSeen.{words_seen}
use Rattle.safl_circuit.specs.Equations.{Registers, Inputs, ret, go, go_words, loads, loop_words, returns, accepts, finishes}
use Rattle.safl_circuit.specs.Equations.{goes_on, cycle_events, next, end_word, starts_it}
use Rattle.safl_circuit.proofs.Searched.{load_in}
use Rattle.safl_circuit.specs.Steps.{Quiet, StepsAt, input_at, registers_at, history}
use Rattle.safl_calls.proofs.Basics.{first_some, first_only, first_skip, first_zero, all_none, not_some, some_of}
use Rattle.safl_calls.specs.Machine.{State, Event, Accept, Finish, Return, LoopInto, opening, after_event, fire, asked, says}
use Rattle.safl_calls.specs.Picks.{first, picks}
use Rattle.safl_calls.specs.Starts.{listed, goes_with, event_start, starts_of}
use Rattle.safl_word.specs.Words.{Word, widths}

pub starts_append : (C : Program) (args : List Word) (s : State) (xs ys : List Event) (f : ℕ)
    → starts_of C args s (xs ++ ys) f ≡ starts_of C args s xs f ++ starts_of C args (after_event C args s xs) ys f
unfolding after_event starts_of
starts_append C args s [] ys f = refl
starts_append C args s (e ∷ xs) ys f =
    ap (λ l. event_start C args s e f ++ l) (starts_append C args (fire C args s e) xs ys f)
    ∙ sym (append_assoc (event_start C args s e f) (starts_of C args (fire C args s e) xs f) (starts_of C args (after_event C args (fire C args s e) xs) ys f))

-- events that start nothing
no_starts : (C : Program) (args : List Word) (p : ℕ → Bool) (e : ℕ → Event) (f : ℕ) → ((q : State) (n : ℕ) → event_start C args q (e n) f ≡ []) →
    (s : State) (n : ℕ) → starts_of C args s (picks p e n) f ≡ []
unfolding picks starts_of
no_starts C args p e f none s zero = refl
no_starts C args p e f none s (suc n) =
    starts_append C args s (picks p e n) (cond (p n) (e n ∷ []) []) f
    ∙ ap (λ l. l ++ starts_of C args (after_event C args s (picks p e n)) (cond (p n) (e n ∷ []) []) f) (no_starts C args p e f none s n)
    ∙ one (p n) (after_event C args s (picks p e n))
  where
    one : (b : Bool) (q : State) → starts_of C args q (cond b (e n ∷ []) []) f ≡ []
    one true q = append-nil (event_start C args q (e n) f) ∙ none q n
    one false q = refl

module _ (C : Program) (P : Choice) (args : List Word) (good : Numbered C) (r : Registers) (i : Inputs) (t : State) (inv : Inv C t)
    (meets : Meets C P args r i t) (x : State) (st : Started C P args good r i t inv meets (suc C.sites) x) (y : State)
    (en : Ended C P args good r i t inv meets x st C.functions y) (z : State) (mv : Moved C P args good r i t inv meets x st y en C.functions z)
    (holds : Holds C P r t) where
  load_none : (f k n : ℕ) → k < n → go C P r i k ≡ true → C.callee k ≡ f → n ≤ suc C.sites → first (load_in C P r i f) k ≡ None
  load_none f k n lt up is le = all_none _ k (λ j below. not_some _ (λ ws h.
      let a = load_found C P args good r i t inv meets x st y en z mv holds f j ws h in
      let same = go_one C P args good r i t inv meets j k a.1 up (ap C.unit (a.0 ∙ sym is)) in
      omega (arith, same, below)))

  load_at : (f k : ℕ) (ws : List Word) → go C P r i k ≡ true → C.callee k ≡ f → go_words C P r i k ≡ Some ws → first (load_in C P r i f) (suc k) ≡ Some ws
  load_at f k ws up is words = first_only _ (suc k) ws k (omega arith) (rw (eq-eqb (C.callee k) f is) words) (λ j lt vs h.
      let a = load_found C P args good r i t inv meets x st y en z mv holds f j vs h in
      let same = go_one C P args good r i t inv meets j k a.1 up (ap C.unit (a.0 ∙ sym is)) in
      same_Some vs ws (sym a.2 ∙ ap (go_words C P r i) same ∙ words))

  accept_starts : (f n : ℕ) → n ≤ suc C.sites → starts_of C args t (accepts C P r i n) f ≡ listed (first (load_in C P r i f) n)
  unfolding picks starts_of
  accept_starts f zero le = ap listed (sym (first_zero (load_in C P r i f)))
  accept_starts f (suc n) le = by (go C P r i n) refl (accept_starts f n (omega arith))
    where
      q : State
      q = after_event C args t (accepts C P r i n)

      by : (b : Bool) → go C P r i n ≡ b → starts_of C args t (accepts C P r i n) f ≡ listed (first (load_in C P r i f) n) → starts_of C args t
          (accepts C P r i n ++ cond b (Accept n ∷ []) []) f ≡ listed (first (load_in C P r i f) (suc n))
      by true up ih =
          let a = go_asks C P args good r i t inv meets n up in
          let now = asked_same C P args good r i t inv meets n q (accepted_to C P args good r i t inv meets n (omega arith)).1 a.0 a.1 in
          starts_append C args t (accepts C P r i n) (Accept n ∷ []) f
          ∙ ap (λ l. l ++ (event_start C args q (Accept n) f ++ [])) ih
          ∙ ap (λ l. listed (first (load_in C P r i f) n) ++ l) (append-nil (event_start C args q (Accept n) f))
          ∙ ⊎_elim
          (λ is. ap (λ o. listed o ++ event_start C args q (Accept n) f) (load_none f n (suc n) (omega arith) up is le)
          ∙ ap (λ b. cond b (listed (asked C args q n)) []) (eq-eqb (C.callee n) f is) ∙ ap listed now ∙ sym (ap listed (load_at f n a.0 up is a.2)))
          (λ other. ap (λ b. listed (first (load_in C P r i f) n) ++ cond b (listed (asked C args q n)) []) (ne_eqb (C.callee n) f other)
          ∙ append-nil (listed (first (load_in C P r i f) n))
          ∙ ap listed (sym (first_skip (load_in C P r i f) n (rw (ne_eqb (C.callee n) f other) refl))))
          (cases_eq (C.callee n) f)
      by false down ih =
          starts_append C args t (accepts C P r i n) [] f
          ∙ append-nil (starts_of C args t (accepts C P r i n) f) ∙ ih
          ∙ ap listed (sym (first_skip (load_in C P r i f) n (not_some _ (λ ws h. true≢false (sym (load_found C P args good r i t inv meets x st y en z mv holds f n ws h).1 ∙ down)))))

  loop_starts : (f n : ℕ) → n ≤ C.functions → starts_of C args y (goes_on C P r n) f ≡ cond (nat_lt f n) (listed (loop_words C P r f)) []
  unfolding picks starts_of
  loop_starts f zero le = rw (le-ltb f 0 (omega arith)) refl
  loop_starts f (suc n) le = by (is_some (loop_words C P r n)) refl (loop_starts f n (omega arith))
    where
      q : State
      q = after_event C args y (goes_on C P r n)

      shift : (f ≡ n → ⊥) → nat_lt f n ≡ nat_lt f (suc n)
      shift other = ⊎_elim (λ lt. rw (lt-ltb f n lt, lt-ltb f (suc n) (omega (arith, lt))) refl) (λ ge. rw (le-ltb f n ge, le-ltb f (suc n) (omega (arith, ge, other))) refl) (cases_lt f n)

      by : (b : Bool) → is_some (loop_words C P r n) ≡ b → starts_of C args y (goes_on C P r n) f ≡ cond (nat_lt f n) (listed (loop_words C P r f)) []
          → starts_of C args y (goes_on C P r n ++ cond b (LoopInto n ∷ []) []) f ≡ cond (nat_lt f (suc n)) (listed (loop_words C P r f)) []
      by true up ih =
          let p = some_of (loop_words C P r n) up in
          let now = loop_says C P args good r i t inv meets x st y en n p.0 q (omega arith) (moved_to C P args good r i t inv meets x st y en n (omega arith)).1 p.1 in
          starts_append C args y (goes_on C P r n) (LoopInto n ∷ []) f
          ∙ ap (λ l. l ++ (event_start C args q (LoopInto n) f ++ [])) ih
          ∙ ap (λ l. cond (nat_lt f n) (listed (loop_words C P r f)) [] ++ l) (append-nil (event_start C args q (LoopInto n) f))
          ∙ ⊎_elim
          (λ is. ap (λ b. cond b (listed (loop_words C P r f)) [] ++ event_start C args q (LoopInto n) f) (le-ltb f n (omega (arith, is)))
          ∙ ap (λ b. cond b (goes_with (says C q (C.unit n))) []) (eq-eqb n f is) ∙ ap goes_with now
          ∙ sym (ap (λ b. cond b (listed (loop_words C P r f)) []) (lt-ltb f (suc n) (omega (arith, is))) ∙ ap listed (ap (loop_words C P r) (sym is) ∙ p.1)))
          (λ other. ap (λ b. cond (nat_lt f n) (listed (loop_words C P r f)) [] ++ cond b (goes_with (says C q (C.unit n))) []) (ne_eqb n f other)
          ∙ append-nil (cond (nat_lt f n) (listed (loop_words C P r f)) [])
          ∙ ap (λ b. cond b (listed (loop_words C P r f)) []) (shift (λ e. other (sym e))))
          (cases_eq n f)
      by false down ih =
          starts_append C args y (goes_on C P r n) [] f
          ∙ append-nil (starts_of C args y (goes_on C P r n) f) ∙ ih
          ∙ ⊎_elim
          (λ is. ap (λ o. cond (nat_lt f n) (listed o) []) (no_words is) ∙ cond_same (nat_lt f n) [] ∙ sym
          (ap (λ o. cond (nat_lt f (suc n)) (listed o) []) (no_words is) ∙ cond_same (nat_lt f (suc n)) []))
          (λ other. ap (λ b. cond b (listed (loop_words C P r f)) []) (shift other))
          (cases_eq f n)
        where
          no_words : f ≡ n → loop_words C P r f ≡ None
          no_words is = ap (loop_words C P r) is ∙ none_of (loop_words C P r n) down

  -- a member that is looped to is not called
  not_both : (f : ℕ) (us ws : List Word) → first (load_in C P r i f) (suc C.sites) ≡ Some us → loop_words C P r f ≡ Some ws → ⊥
  not_both f us ws load loop =
      let a = first_some (load_in C P r i f) (suc C.sites) us load in
      let k = load_found C P args good r i t inv meets x st y en z mv holds f a.0 us a.2 in
      let g = loop_found C P args good r i t inv meets f ws loop in
      let run : Running C t g.0 (LoopTo f ws) = running C P args good r i t inv meets g.0 (LoopTo f ws) g.1 (loop_not_yet f ws) g.3 in
      runs_idle g.0 run.serves run.args (sym run.runs ∙ ap t.unit (g.2 ∙ sym (ap C.unit k.0)) ∙ go_idle C P args good r i t inv meets a.0 k.1)

  pub cycle_starts : (f : ℕ) → f < C.functions → starts_of C args t (accepts C P r i (suc C.sites)) f ++ starts_of C args y
      (goes_on C P r C.functions) f ≡ cond (starts_it C P r i f) ((next C P i r).arg f ∷ []) []
  unfolding next loads
  cycle_starts f lt =
      ap (λ l. l ++ starts_of C args y (goes_on C P r C.functions) f) (accept_starts f (suc C.sites) (omega arith))
      ∙ ap (λ l. listed (first (load_in C P r i f) (suc C.sites)) ++ l) (loop_starts f C.functions (omega arith) ∙ ap (λ b. cond b (listed (loop_words C P r f)) []) (lt-ltb f C.functions lt))
      ∙ by (first (load_in C P r i f) (suc C.sites)) (loop_words C P r f) refl refl
    where
      by : (o p : Option (List Word)) → first (load_in C P r i f) (suc C.sites) ≡ o → loop_words C P r f ≡ p → listed o ++ listed p ≡ cond
          (is_some o || is_some p) (unwrap_or (or_else o p) (r.arg f) ∷ []) []
      by None None a b = refl
      by None (Some vs) a b = refl
      by (Some us) None a b = refl
      by (Some us) (Some vs) a b = absurd (not_both f us vs a b)

module _ (C : Program) (P : Choice) (good : Numbered C) (h1 : OneInUse C P.arbiter) (h2 : ShownWordsServe C P.kept) (r0 : Registers)
    (quiet : Quiet r0) (args : List Word) (sized : widths args ≡ C.params C.main) (later : ℕ → List Word) where
  at : (c : ℕ) → StepsAt C P r0 args later c
  at c = steps C P good h1 h2 r0 quiet args sized later c

  over_cycle : (c f : ℕ) → f < C.functions → starts_of C args (after_event C args opening (history C P r0 args later c))
      (cycle_events C P (registers_at C P r0 args later c) (input_at args later c)) f ≡ cond
      (starts_it C P (registers_at C P r0 args later c) (input_at args later c) f) ((next C P (input_at args later c) (registers_at C P r0 args later c)).arg f ∷ []) []
  over_cycle c f lt =
      let es = history C P r0 args later c in
      let r = registers_at C P r0 args later c in
      let i = input_at args later c in
      let legal = (at c).legal in
      let shows = (at c).shows in
      let res = (at c).res in
      let start = start_at C P r0 args sized later c in
      let t' = t C P args good h1 h2 r0.res es legal r i shows res start in
      let x' = x C P args good h1 h2 r0.res es legal r i shows res start in
      let y' = y C P args good h1 h2 r0.res es legal r i shows res start in
      starts_append C args (after_event C args opening es) (returns C r (suc C.sites)) (late C P args good h1 h2 r0.res es legal r i shows res start) f
      ∙ ap (λ l. l ++ starts_of C args (after_event C args (after_event C args opening es) (returns C r (suc C.sites)))
      (late C P args good h1 h2 r0.res es legal r i shows res start) f) (no_starts C args (ret C r) Return f (λ q n. refl) (after_event C args opening es) (suc C.sites))
      ∙ ap (λ q. starts_of C args q (late C P args good h1 h2 r0.res es legal r i shows res start) f) (sym (t_is C P args good h1 h2 r0.res es legal r i shows res start))
      ∙ starts_append C args t' (accepts C P r i (suc C.sites)) (finishes C P r C.functions ++ goes_on C P r C.functions) f
      ∙ ap (λ l. starts_of C args t' (accepts C P r i (suc C.sites)) f ++ l)
      (starts_append C args x' (finishes C P r C.functions) (goes_on C P r C.functions) f
      ∙ ap (λ l. l ++ starts_of C args y' (goes_on C P r C.functions) f) (no_starts C args (λ f. is_some (end_word C P r f)) Finish f (λ q n. refl) x' C.functions))
      ∙ cycle_starts C P args good r i t' (inv_t C P args good h1 h2 r0.res es legal r i shows res start)
      (meets C P args good h1 h2 r0.res es legal r i shows res start) x' (started C P args good h1 h2 r0.res es legal r i shows res start).1 y'
      (ended C P args good h1 h2 r0.res es legal r i shows res start).1 (z C P args good h1 h2 r0.res es legal r i shows res start)
      (moved C P args good h1 h2 r0.res es legal r i shows res start).1 (holds C P args good h1 h2 r0.res es legal r i shows res start) f lt

  seen : (f c : ℕ) → f < C.functions → words_seen C P r0 args later f c ≡ starts_of C args opening (history C P r0 args later c) f
  unfolding words_seen history registers_at starts_of
  seen f zero lt = refl
  seen f (suc c) lt =
      let one = over_cycle c f lt in
      ap (λ l. l ++ cond (starts_it C P (registers_at C P r0 args later c) (input_at args later c) f)
      ((next C P (input_at args later c) (registers_at C P r0 args later c)).arg f ∷ []) []) (seen f c lt)
      ∙ ap (λ l. starts_of C args opening (history C P r0 args later c) f ++ l) (sym one)
      ∙ sym (starts_append C args opening (history C P r0 args later c) (cycle_events C P (registers_at C P r0 args later c) (input_at args later c)) f)

  few : (f c : ℕ) → length (words_seen C P r0 args later f c) ≤ c
  unfolding words_seen
  few f zero = omega arith
  few f (suc c) =
      let before = few f c in
      let len = length-append (words_seen C P r0 args later f c)
      (cond (starts_it C P (registers_at C P r0 args later c) (input_at args later c) f) ((registers_at C P r0 args later (suc c)).arg f ∷ []) []) in
      let one = at_most (starts_it C P (registers_at C P r0 args later c) (input_at args later c) f) ((registers_at C P r0 args later (suc c)).arg f) in
      omega (arith, before, len, one)
    where
      at_most : (b : Bool) (w : List Word) → length (cond b (w ∷ []) []) ≤ 1
      at_most true w = omega arith
      at_most false w = omega arith

pub arguments_seen : ArgumentsSeen
arguments_seen C P good h1 h2 r0 quiet args sized later f c lt = seen C P good h1 h2 r0 quiet args sized later f c lt

pub one_start : OneStart
one_start C P good h1 h2 r0 quiet args sized later f c lt = subst (λ l. length l ≤ c) (seen C P good h1 h2 r0 quiet args sized later f c lt) (few C P good h1 h2 r0 quiet args sized later f c)
