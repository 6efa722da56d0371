-- The law at the names of a netlist.
use Rattle.safl_circuit.proofs.Common.{All, AreWordsOf, Choice, Inv, IsWellFormed, Names, Numbered, OneInUse, Program, ShownWordsServe}
use Rattle.safl_circuit.proofs.Common.{Unsent, are_widths, false≢true, idle_delivers, idle_runs, inv_after, numbered}
use Rattle.std.proofs.Common.{◌≡◌, ℕ, zero, suc, ◌<◌, List, [], ◌∷◌, ◌++◌, map, Bool, true, false, cond, ◌&&◌, is_some, refl, sym, ap, ◌∙◌, subst, arith, Option, None, Some}
use Rattle.std.specs.Prelude.{slice_index, codes}
use Rattle.std.proofs.lemmas.List.Elements.{All-head, All-tail}
use Rattle.safl_circuit.proofs.Cycle.{legal_next, shows_next, lasts_next}
use Rattle.safl_circuit.proofs.Laid.{IsRegister, Laid, laid}
use Rattle.safl_circuit.proofs.Same.{Same}
use Rattle.safl_circuit.specs.Equations.{Registers, Inputs, ret, go, end_word, loop_words, cycle_events, next}
use Rattle.safl_circuit.specs.Correct.{StepsFrom, IsQuietState}
use Rattle.safl_circuit.specs.Names.{of_function, of_param, of_site, one, bit, is_unit, is_site, registers_now, registers_next, input_now, as_words, numbers, registers_in}
use Rattle.safl_net.specs.Netlist.{Netlist, place}
use Rattle.safl_net.specs.Valuations.{Valuation, Holds, Fits, read, reset_state, next_state, number_at}
use Rattle.safl_net.specs.Runs.{start_number, Run, GoesOn}
use Rattle.safl_circuit.specs.Scheme.{Wires, Scheme, ret_on, go_up, net_events}
use Rattle.safl_circuit.specs.Steps.{Shows, Quiet}
use Rattle.safl_calls.specs.Machine.{State, Event, Accept, Finish, Return, LoopInto, opening, Legal, after_event, last_word}
use Rattle.safl_calls.specs.Picks.{picks}
use Rattle.safl_word.specs.Words.{Word, as_word, widths}
use Rattle.safl_word.proofs.Booleans.{cond_cong, never_both}
use Rattle.safl_circuit.proofs.Typed.{edge_same, as_numbers}
use Rattle.safl_term.proofs.Apart.{returned_unsent, unsent_returned}
use Rattle.std.specs.Option.{option_map_or}

pub one_bit : (w : ℕ) (b : Bool) → w ≡ bit b → one w ≡ b
one_bit w true e = ap one e
one_bit w false e = ap one e

and_cong : (b x y : Bool) → (b ≡ true → x ≡ y) → (b && x) ≡ (b && y)
and_cong true x y h = h refl
and_cong false x y h = refl

picks_cong : (p q : ℕ → Bool) (e : ℕ → Event) (n : ℕ) → ((k : ℕ) → k < n → p k ≡ q k) → picks p e n ≡ picks q e n
unfolding picks
picks_cong p q e zero h = refl
picks_cong p q e (suc n) h =
    ap (λ l. l ++ cond (p n) (e n ∷ []) []) (picks_cong p q e n (λ k lt. h k (omega arith)))
    ∙ ap (λ b. picks q e n ++ cond b (e n ∷ []) []) (h n (omega arith))

map_all : {A : Type 0} (Q : A → Type 0) (f g : A → ℕ) (xs : List A) → ((x : A) → Q x → f x ≡ g x) → All Q xs → map f xs ≡ map g xs
map_all Q f g [] h all = refl
map_all Q f g (x ∷ xs) h all = ap (λ y. y ∷ map f xs) (h x (All-head Q x xs all)) ∙ ap (λ ys. g x ∷ ys) (map_all Q f g xs h (All-tail Q x xs all))

module _ (C : Program) (D : Names) (P : Choice) (n : Netlist) (wf : IsWellFormed C) (h1 : OneInUse C P.arbiter) (h2 : ShownWordsServe C P.kept) (scheme : Scheme C D P n) (args : List Word) where
  good : Numbered C
  good = numbered C wf

  registers : Laid C D P n
  registers = laid C D P n (numbered C wf) scheme

  -- the events by the named wires are those of the circuit
  events_same : (v : Valuation) (r : Registers) (i : Inputs) → Wires C D P n v r i → net_events C D n v ≡ cycle_events C P r i
  events_same v r i w =
      ap (λ l. l ++ (picks (go_up n v) Accept (suc C.sites) ++ (picks (λ f. one (read n v (of_function D (codes "end$") f))) Finish C.functions ++
      picks (λ f. one (read n v (of_function D (codes "loop$") f))) LoopInto C.functions))) (picks_cong (ret_on n v) (ret C r) Return (suc C.sites) rets)
      ∙ ap (λ l. picks (ret C r) Return (suc C.sites) ++ (l ++ (picks (λ f. one (read n v (of_function D (codes "end$") f))) Finish C.functions ++
      picks (λ f. one (read n v (of_function D (codes "loop$") f))) LoopInto C.functions))) (picks_cong (go_up n v) (go C P r i) Accept (suc C.sites) gos)
      ∙ ap (λ l. picks (ret C r) Return (suc C.sites) ++ (picks (go C P r i) Accept (suc C.sites) ++
      (l ++ picks (λ f. one (read n v (of_function D (codes "loop$") f))) LoopInto C.functions)))
      (picks_cong (λ f. one (read n v (of_function D (codes "end$") f))) (λ f. is_some (end_word C P r f)) Finish C.functions
      (λ f lt. one_bit _ (is_some (end_word C P r f)) (w.ends f lt)))
      ∙ ap (λ l. picks (ret C r) Return (suc C.sites) ++ (picks (go C P r i) Accept (suc C.sites) ++
      (picks (λ f. is_some (end_word C P r f)) Finish C.functions ++ l)))
      (picks_cong (λ f. one (read n v (of_function D (codes "loop$") f))) (λ f. is_some (loop_words C P r f)) LoopInto C.functions
      (λ f lt. one_bit _ (is_some (loop_words C P r f)) (w.loops f lt)))
    where
      rets : (k : ℕ) → k < suc C.sites → ret_on n v k ≡ ret C r k
      rets zero lt = one_bit _ (ret C r 0) w.done
      rets (suc k) lt = one_bit _ (ret C r (suc k)) (w.rets (suc k) (omega arith) (omega (arith, lt)))

      gos : (k : ℕ) → k < suc C.sites → go_up n v k ≡ go C P r i k
      gos zero lt = one_bit _ (go C P r i 0) w.goes_main
      gos (suc k) lt = one_bit _ (go C P r i (suc k)) (w.goes (suc k) (omega arith) (omega (arith, lt)))

  -- a register has its state
  pub register_word : (state : ℕ → ℕ) (v : Valuation) (name : List ℕ) → Fits n state v → (reg : IsRegister n name) → read n v name ≡ state reg.at
  register_word state v name fits reg =
      ap (number_at v) reg.found ∙ subst (λ k. Holds n v (state reg.at) (slice_index v reg.at) k) reg.kind (fits.each reg.at reg.signal reg.there).1

  -- the registers in a cycle are those of its state
  holds : (state : ℕ → ℕ) (w : Valuation) (name : List ℕ) → Fits n state w → IsRegister n name → read n w name ≡ option_map_or state (place n.signals name 0) 0
  holds state w name fits reg = register_word state w name fits reg ∙ sym (ap (λ (o : Option ℕ). option_map_or state o 0) reg.found)

  pub regs_in : (state : ℕ → ℕ) (w : Valuation) → Fits n state w → Same C P (registers_now C D n w) (registers_in C D n state)
  regs_in state w fits = record {
    run = λ u. and_cong (is_unit C u) _ _ (λ is. ap one (holds state w _ fits (registers.run u is)));
    fin = λ u. and_cong (is_unit C u) _ _ (λ is. ap one (holds state w _ fits (registers.fin u is)));
    res = λ u. ap (as_word (C.result u)) (cond_cong (is_unit C u) _ _ 0 (λ is. holds state w _ fits (registers.res u is)));
    at = λ f lt is. ap one (holds state w _ fits (registers.at f lt is));
    arg = λ f lt. ap (as_words (C.params f)) (map_all (λ p. IsRegister n (of_param D f p)) (λ p. read n w (of_param D f p))
        (λ p. option_map_or state (place n.signals (of_param D f p) 0) 0) (D.params f) (λ p reg. holds state w (of_param D f p) fits reg) (registers.arg f lt));
    sent = λ k pos. and_cong (is_site C k) _ _ (λ is. ap one (holds state w _ fits (registers.sent k is)));
    got = λ k pos. and_cong (is_site C k) _ _ (λ is. ap one (holds state w _ fits (registers.got k is)));
    keep = λ k pos le kept. ap (as_word (C.result (C.callee k))) (holds state w _ fits (registers.keep k pos le kept));
  }

  -- in the next cycle the registers are those that this cycle leaves
  pub regs_on : (v w : Valuation) → Fits n (next_state n v) w → Same C P (registers_now C D n w) (registers_next C D n v)
  regs_on v w fits = regs_in (next_state n v) w fits

  pub quiet_in : (state : ℕ → ℕ) (v : Valuation) → IsQuietState C D n state → Fits n state v → Quiet (registers_now C D n v)
  quiet_in state v quiet fits =
      let same = regs_in state v fits in
      record {
        run = λ u. same.run u ∙ quiet.run u;
        fin = λ u. same.fin u ∙ quiet.fin u;
        sent = λ k pos. same.sent k pos ∙ quiet.sent k pos;
        got = λ k pos. same.got k pos ∙ quiet.got k pos;
      }

  pub same_then : (r q p : Registers) → Same C P r q → Same C P q p → Same C P r p
  same_then r q p a b = record {
    run = λ u. a.run u ∙ b.run u;
    fin = λ u. a.fin u ∙ b.fin u;
    res = λ u. a.res u ∙ b.res u;
    at = λ f lt is. a.at f lt is ∙ b.at f lt is;
    arg = λ f lt. a.arg f lt ∙ b.arg f lt;
    sent = λ k pos. a.sent k pos ∙ b.sent k pos;
    got = λ k pos. a.got k pos ∙ b.got k pos;
    keep = λ k pos le kept. a.keep k pos le kept ∙ b.keep k pos le kept;
  }

  shows_same : (s : State) (r q : Registers) → Inv C s → Shows C P s q → Same C P r q → Shows C P s r
  shows_same s r q inv shows same = record {
    run = λ u. same.run u ∙ shows.run u;
    fin = λ u. same.fin u ∙ shows.fin u;
    res = λ u k v e. same.res u ∙ shows.res u k v e;
    at = λ u f k ws e g lt in_u is. same.at g lt is ∙ shows.at u f k ws e g lt in_u is;
    arg = λ u f k ws e. same.arg f (inv.member u f k ws e).1 ∙ shows.arg u f k ws e;
    sent = λ k pos. same.sent k pos ∙ shows.sent k pos;
    got = λ k pos. same.got k pos ∙ shows.got k pos;
    keep = λ k v pos kept e. same.keep k pos (inv.known k (λ un. returned_unsent v (sym e ∙ un))) kept ∙ shows.keep k v pos kept e;
    others = λ k pos rests. (same.sent k pos ∙ (shows.others k pos rests).0, same.got k pos ∙ (shows.others k pos rests).1);
  }

  -- every valuation that fits a state shows where the events lead
  pub record Shown (es : List Event) (state : ℕ → ℕ) : Type 0 where
    pub shows : (v : Valuation) → Fits n state v → Shows C P (after_event C args opening es) (registers_now C D n v)
    pub lasts : (v : Valuation) → Fits n state v → (u : ℕ) → (registers_now C D n v).res u ≡ last_word C args opening es u (as_word (C.result u) 0)

  module _ (es : List Event) (legal : Legal C args opening es) (state : ℕ → ℕ) (shown : Shown es state) (v : Valuation) (fits : Fits n state v)
      (start : one (start_number n v) ≡ true → ((after_event C args opening es).site 0 ≡ Unsent) × ((input_now C n v).words ≡ args) × (widths args ≡ C.params C.main)) where
    events : net_events C D n v ≡ cycle_events C P (registers_now C D n v) (input_now C n v)
    events = events_same v (registers_now C D n v) (input_now C n v) (scheme.wires v state fits)

    pub legal_cycle : Legal C args opening (es ++ net_events C D n v)
    legal_cycle = subst (λ l. Legal C args opening (es ++ l)) (sym events)
        (legal_next C P args good h1 h2 (λ u. as_word (C.result u) 0) es legal (registers_now C D n v) (input_now C n v) (shown.shows v fits) (shown.lasts v fits) start)

    pub shown_next : Shown (es ++ net_events C D n v) (next_state n v)
    shown_next = record {
      shows = λ w fw. shows_same (after_event C args opening (es ++ net_events C D n v)) (registers_now C D n w) (next C P (input_now C n v) (registers_now C D n v))
          (inv_after C args good _ legal_cycle)
          (subst (λ l. Shows C P (after_event C args opening (es ++ l)) (next C P (input_now C n v) (registers_now C D n v))) (sym events)
          (shows_next C P args good h1 h2 (λ u. as_word (C.result u) 0) es legal (registers_now C D n v) (input_now C n v) (shown.shows v fits)
          (shown.lasts v fits) start))
          (onto w fw);
      lasts = λ w fw u. (onto w fw).res u ∙ lasts_next C P args good h1 h2 (λ u. as_word (C.result u) 0) es legal (registers_now C D n v)
          (input_now C n v) (shown.shows v fits) (shown.lasts v fits) start u ∙ ap (λ l. last_word C args opening (es ++ l) u (as_word (C.result u) 0)) (sym events);
    }
      where
        onto : (w : Valuation) → Fits n (next_state n v) w → Same C P (registers_now C D n w) (next C P (input_now C n v) (registers_now C D n v))
        onto w fw = same_then _ _ _ (regs_on v w fw) (edge_same C D P n wf scheme v state fits)

  later : (vs : List Valuation) (es : List Event) → Legal C args opening es → (state : ℕ → ℕ) → Shown es state → GoesOn n state vs → StepsFrom C D P n args es vs
  later [] es legal state shown goes = tt
  later (v ∷ vs) es legal state shown goes =
      let start = λ (up : one (start_number n v) ≡ true). absurd' up in (
        shown.shows v goes.0,
        shown.lasts v goes.0,
        legal_cycle es legal state shown v goes.0 start,
        later vs (es ++ net_events C D n v) (legal_cycle es legal state shown v goes.0 start) (next_state n v) (shown_next es legal state shown v goes.0 start) goes.2,
      )
    where
      absurd' : one (start_number n v) ≡ true → ((after_event C args opening es).site 0 ≡ Unsent) × ((input_now C n v).words ≡ args) × (widths args ≡ C.params C.main)
      absurd' up = absurd (false≢true (sym (ap one goes.1) ∙ up))

  pub first_quiet : IsQuietState C D n (reset_state n)
  first_quiet = record {
    run = λ u. never_both (is_unit C u) _ (λ is. ap one (clear (place n.signals (of_function D (codes "run$") u) 0)));
    fin = λ u. never_both (is_unit C u) _ (λ is. ap one (clear (place n.signals (of_function D (codes "fin$") u) 0)));
    sent = λ k pos. never_both (is_site C k) _ (λ is. ap one (clear (place n.signals (of_site (codes "sent$") k) 0)));
    got = λ k pos. never_both (is_site C k) _ (λ is. ap one (clear (place n.signals (of_site (codes "got$") k) 0)));
  }
    where
      clear : (o : Option ℕ) → option_map_or (reset_state n) o 0 ≡ 0
      clear None = refl
      clear (Some s) = scheme.resets s

  shown_first : Shown [] (reset_state n)
  unfolding after_event last_word
  shown_first = record {
    shows = λ v fits. record {
      run = λ u. never_both (is_unit C u) _ (λ is. ap one (clear v _ fits (registers.run u is)));
      fin = λ u. never_both (is_unit C u) _ (λ is. ap one (clear v _ fits (registers.fin u is)));
      res = λ u k w e. absurd (idle_delivers k w e);
      at = λ u f k ws e. absurd (idle_runs f k ws e);
      arg = λ u f k ws e. absurd (idle_runs f k ws e);
      sent = λ k pos. never_both (is_site C k) _ (λ is. ap one (clear v _ fits (registers.sent k is)));
      got = λ k pos. never_both (is_site C k) _ (λ is. ap one (clear v _ fits (registers.got k is)));
      keep = λ k w pos kept e. absurd (unsent_returned w e);
      others = λ k pos rests. (never_both (is_site C k) _ (λ is. ap one (clear v _ fits (registers.sent k is))), never_both (is_site C k) _ (λ is. ap one (clear v _ fits (registers.got k is))));
    };
    lasts = λ v fits u. ap (as_word (C.result u)) (zero_down (is_unit C u) _ (λ is. clear v _ fits (registers.res u is)));
  }
    where
      clear : (v : Valuation) (name : List ℕ) → Fits n (reset_state n) v → IsRegister n name → read n v name ≡ 0
      clear v name fits reg = register_word (reset_state n) v name fits reg ∙ scheme.resets reg.at

      zero_down : (b : Bool) (w : ℕ) → (b ≡ true → w ≡ 0) → cond b w 0 ≡ 0
      zero_down true w h = h refl
      zero_down false w h = refl

  pub first_run : AreWordsOf args (C.params C.main) → (vs : List Valuation) → Run n (numbers args) vs → StepsFrom C D P n args [] vs
  unfolding after_event Legal
  first_run sized [] run = tt
  first_run sized (v ∷ vs) run =
      let words : (input_now C n v).words ≡ args = ap (as_words (C.params C.main)) run.2 ∙ as_numbers args (C.params C.main) sized in
      let start = λ (up : one (start_number n v) ≡ true). (let p : ((after_event C args opening []).site 0 ≡ Unsent) × ((input_now C n v).words ≡ args) ×
      (widths args ≡ C.params C.main) = (refl, words, are_widths args (C.params C.main) sized) in p) in (
        shown_first.shows v run.0,
        shown_first.lasts v run.0,
        legal_cycle [] tt (reset_state n) shown_first v run.0 start,
        later vs ([] ++ net_events C D n v) (legal_cycle [] tt (reset_state n) shown_first v run.0 start) (next_state n v) (shown_next [] tt (reset_state n) shown_first v run.0 start) run.3,
      )
