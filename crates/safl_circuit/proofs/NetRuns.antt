-- In a run of the netlist the named registers are those of the circuit, and the ports do what they should.
use Rattle.safl_circuit.proofs.Common.{AreWordsOf, Choice, IsPermutation, IsSequential, IsWellFormed, Names, Netlist, Numbered, OneInUse}
use Rattle.safl_circuit.proofs.Common.{Program, Returned, Scheme, ShownWordsServe, are_widths, go_up, main_span, numbered, unit_for}
use Rattle.std.proofs.Common.{◌≡◌, ◌≢◌, ℕ, zero, suc, ◌*◌, ◌<◌, ◌≤◌, List, [], ◌∷◌, ◌++◌, length, Option, Some, None, Bool, true, false, cond}
use Rattle.std.proofs.Common.{◌&&◌, ◌||◌, ◌==◌, is_some, refl, sym, ap, ◌∙◌, subst, arith, get_or}
use Rattle.std.specs.Prelude.{slice_get, codes}
use Rattle.std.proofs.lemmas.Option.{slice_get-get_or, slice_get_within, same_Some}
use Rattle.std.proofs.lemmas.Bool.{false≢true, true≢false, and_from, and_parts, lt-ltb, leb-true, eq-eqb}
use Rattle.std.proofs.Math.Numerals.{suc-eq-add-one}
use Rattle.safl_word.specs.Words.{Word, as_word, widths}
use Rattle.safl_term.specs.Meaning.{Main, main_cost, main_calls}
use Rattle.safl_term.proofs.OrElse.{or_alike}
use Rattle.safl_calls.specs.Machine.{opening, after_event}
use Rattle.safl_calls.specs.Picks.{first}
use Rattle.safl_calls.proofs.Basics.{some_none, some_of, cond_some}
use Rattle.safl_calls.proofs.Invariant.{inv_open}
use Rattle.safl_calls.proofs.MachineLaws.{right, started}
use Rattle.safl_calls.proofs.Counts.{total, at_most}
use Rattle.safl_circuit.specs.Equations.{Registers, Inputs, ret, want, go, body_wants, go_words, loads, loop_words, starts_it, next}
use Rattle.safl_circuit.proofs.Awake.{go_wants}
use Rattle.safl_circuit.proofs.Searched.{load_in}
use Rattle.safl_circuit.specs.Steps.{Quiet, input_at, registers_at, history}
use Rattle.safl_net.specs.Valuations.{Valuation, Fits, read, read_output, next_state}
use Rattle.safl_net.specs.Runs.{RunFrom, GoesOn, start_number}
use Rattle.safl_circuit.specs.Names.{of_function, of_site, one, bit, is_unit, as_words, numbers, registers_now, registers_in, input_now}
use Rattle.safl_circuit.proofs.WordsSeen.{words_seen}
use Rattle.safl_circuit.proofs.DoneOnce.{DoneOnce, Exclusive}
use Rattle.safl_circuit.specs.Correct.{DoneIn, IsResult, NoneWaits, Unshared, latest, is_started, go_at, seen_at, words_seen_in, IsQuietState}
use Rattle.safl_circuit.proofs.Same.{Same}
use Rattle.safl_circuit.proofs.Typed.{edge_same, as_numbers}
use Rattle.safl_circuit.proofs.Cycle.{steps}
use Rattle.safl_circuit.proofs.Once.{in_time, no_two_starts, after_done, quiet_later}
use Rattle.safl_circuit.proofs.Arguments.{one_start}
use Rattle.safl_circuit.proofs.Agree.{ret_same, want_same, go_same, next_same, loop_words_same}
use Rattle.safl_circuit.proofs.NetSteps.{regs_in, regs_on, quiet_in, same_then, one_bit}
use Rattle.safl_circuit.proofs.CoreOf.{core_of}
use Rattle.safl_circuit.proofs.CallsSeen.{calls_seen}
use Rattle.safl_circuit.proofs.Exact.{exactly}
use Rattle.safl_circuit.proofs.Sooner.{no_sooner, on_time_exactly}
use Rattle.safl_circuit.proofs.Uncalled.{unshared_exactly}

at_most_or : (a b : ℕ) → (b < a → ⊥) → a ≤ b
at_most_or zero b h = omega arith
at_most_or (suc a) zero h = absurd (h (omega arith))
at_most_or (suc a) (suc b) h = let r = at_most_or a b (λ l. h (omega (arith, l))) in omega (arith, r)

input_path : (a b : Bool) (xs ys : List Word) → a ≡ b → xs ≡ ys → (let r : Inputs = record { start = a; words = xs } in r) ≡ (let r : Inputs = record { start = b; words = ys } in r)
input_path a b xs ys p q = ap (λ c. (let r : Inputs = record { start = c; words = xs } in r)) p ∙ ap (λ l. (let r : Inputs = record { start = b; words = l } in r)) q

same_refl : (C : Program) (P : Choice) (r : Registers) → Same C P r r
same_refl C P r = record { run = λ u. refl; fin = λ u. refl; res = λ u. refl; at = λ f lt is. refl; arg = λ f lt. refl; sent = λ k pos. refl; got = λ k pos. refl; keep = λ k pos le kept. refl }

abbrev pub words_at : Program → Netlist → Option Valuation → List Word
words_at C n None = []
words_at C n (Some w) = (input_now C n w).words

first_some_same : {A B : Type 0} (g : ℕ → Option A) (h : ℕ → Option B) (n : ℕ) → ((k : ℕ) → k < n → is_some (g k) ≡ is_some (h k)) → is_some (first g n) ≡ is_some (first h n)
unfolding first
first_some_same g h zero e = refl
first_some_same g h (suc n) e = or_alike (first g n) (first h n) (g n) (h n) (first_some_same g h n (λ k lt. e k (omega arith))) (e n (omega arith))

module _ (C : Program) (D : Names) (P : Choice) (n : Netlist) (wf : IsWellFormed C) (h1 : OneInUse C P.arbiter) (h2 : ShownWordsServe C P.kept) (scheme : Scheme C D P n) where
  good : Numbered C
  good = numbered C wf

  pub record Agreed (w : Valuation) (q : Registers) (i : Inputs) : Type 0 where
    pub state : ℕ → ℕ
    pub fits : Fits n state w
    pub same : Same C P (registers_now C D n w) q
    pub input : i ≡ input_now C n w

  later_start : (vs : List Valuation) (state : ℕ → ℕ) → GoesOn n state vs → (j : ℕ) (w : Valuation) → slice_get vs j ≡ Some w → start_number n w ≡ 0
  later_start [] state goes j w e = absurd (some_none w (sym e))
  later_start (v ∷ vs) state goes zero w e = ap (start_number n) (sym (same_Some v w e)) ∙ goes.1
  later_start (v ∷ vs) state goes (suc j) w e = later_start vs (next_state n v) goes.2 j w e

  on_from : (args : List Word) (v w : Valuation) (state : ℕ → ℕ) (q q' : Registers) (i : Inputs) → Fits n state v → Same C P (registers_now C D n v) q
      → i ≡ input_now C n v → q' ≡ next C P i q → Fits n (next_state n v) w → Same C P (registers_now C D n w) q'
  on_from args v w state q q' i fits same input step fw =
      let a = same_then C D P n wf h1 h2 scheme args _ _ _ (regs_on C D P n wf h1 h2 scheme args v w fw) (edge_same C D P n wf scheme v state fits) in
      let b = same_then C D P n wf h1 h2 scheme args _ _ _ a (next_same C P good (input_now C n v) (registers_now C D n v) q same) in
      subst (λ q'. Same C P (registers_now C D n w) q') (sym (step ∙ ap (λ i. next C P i q) input)) b

  tail : (args : List Word) (vs : List Valuation) (state : ℕ → ℕ) (q : ℕ → Registers) (i : ℕ → Inputs) → ((c : ℕ) → q (suc c) ≡ next C P (i c) (q c))
      → ((j : ℕ) (w : Valuation) → slice_get vs j ≡ Some w → i j ≡ input_now C n w) →
      ((w : Valuation) → Fits n state w → Same C P (registers_now C D n w) (q 0)) → GoesOn n state vs → (j : ℕ) (w : Valuation) → slice_get vs j ≡
      Some w → Agreed w (q j) (i j)
  tail args [] state q i step inputs same goes j w e = absurd (some_none w (sym e))
  tail args (v ∷ vs) state q i step inputs same goes zero w e =
      subst (λ w. Agreed w (q 0) (i 0)) (same_Some v w e) (record { state = state; fits = goes.0; same = same v goes.0; input = inputs 0 v refl })
  tail args (v ∷ vs) state q i step inputs same goes (suc j) w e =
      tail args vs (next_state n v) (λ c. q (suc c)) (λ c. i (suc c)) (λ c. step (suc c)) (λ k x h. inputs (suc k) x h)
      (λ x fx. on_from args v x state (q 0) (q 1) (i 0) goes.0 (same v goes.0) (inputs 0 v refl) (step 0) fx) goes.2 j w e

  module _ (args : List Word) (sized : AreWordsOf args (C.params C.main)) (state0 : ℕ → ℕ) (quiet0 : IsQuietState C D n state0) (v0 : Valuation)
      (vs : List Valuation) (run : RunFrom n state0 (numbers args) (v0 ∷ vs)) where
    many : widths args ≡ C.params C.main
    many = are_widths args (C.params C.main) sized

    abbrev r0 : Registers
    r0 = registers_now C D n v0

    quiet : Quiet (registers_now C D n v0)
    quiet = quiet_in C D P n wf h1 h2 scheme args state0 v0 quiet0 run.0

    abbrev pub later : ℕ → List Word
    later c = words_at C n (slice_get vs c)

    abbrev r : ℕ → Registers
    r c = registers_at C P r0 args later c

    inputs : (j : ℕ) (w : Valuation) → slice_get (v0 ∷ vs) j ≡ Some w → input_at args later j ≡ input_now C n w
    inputs zero w e =
        subst (λ w. input_at args later 0 ≡ input_now C n w) (same_Some v0 w e)
        (input_path true (one (start_number n v0)) args (input_now C n v0).words (sym (ap one run.1)) (sym (ap (as_words (C.params C.main)) run.2 ∙ as_numbers args (C.params C.main) sized)))
    inputs (suc j) w e =
        input_path false (one (start_number n w)) (later j) (input_now C n w).words (sym (ap one (later_start vs (next_state n v0) run.3 j w e))) (ap (words_at C n) e)

    pub agreed : (j : ℕ) (w : Valuation) → slice_get (v0 ∷ vs) j ≡ Some w → Agreed w (registers_at C P r0 args later j) (input_at args later j)
    unfolding registers_at
    agreed zero w e = subst (λ w. Agreed w r0 (input_at args later 0)) (same_Some v0 w e) (record { state = state0; fits = run.0; same = same_refl C P r0; input = inputs 0 v0 refl })
    agreed (suc j) w e =
        tail args vs (next_state n v0) (λ c. registers_at C P r0 args later (suc c)) (λ c. input_at args later (suc c)) (λ c. refl) (λ k x h. inputs (suc k) x h)
        (λ x fx. on_from args v0 x state0 r0 (registers_at C P r0 args later 1) (input_at args later 0) run.0 (same_refl C P r0) (inputs 0 v0 refl) refl fx) run.3 j w e

    -- the ports and wires, in terms of the circuit
    done_is : (c : ℕ) (w : Valuation) → slice_get (v0 ∷ vs) c ≡ Some w → read_output n w (codes "done") ≡ bit (ret C (r c) 0)
    done_is c w e =
        let a = agreed c w e in
        (scheme.wires w a.state a.fits).done ∙ ap bit (ret_same C P good (input_now C n w) _ _ a.same 0)

    result_is : (c : ℕ) (w : Valuation) → slice_get (v0 ∷ vs) c ≡ Some w → as_word (C.result C.main) (read_output n w (codes "result")) ≡ (r c).res (C.unit C.main)
    result_is c w e =
        let a = agreed c w e in
        ap (as_word (C.result C.main)) (scheme.wires w a.state a.fits).result
        ∙ ap (λ x. as_word x ((registers_now C D n w).res (C.unit C.main)).bits) (sym (wf.first C.main wf.main_in).2)
        ∙ a.same.res (C.unit C.main)

    go_is : (c : ℕ) (w : Valuation) → slice_get (v0 ∷ vs) c ≡ Some w → (k : ℕ) → k ≤ C.sites → go_up n w k ≡ go C P (r c) (input_at args later c) k
    go_is c w e k le = by k le ∙ ap (λ i. go C P (registers_now C D n w) i k) (sym (agreed c w e).input) ∙ go_same C P good (input_at args later c) _ _ (agreed c w e).same k
      where
        by : (k : ℕ) → k ≤ C.sites → go_up n w k ≡ go C P (registers_now C D n w) (input_now C n w) k
        by zero le = let a = agreed c w e in one_bit _ _ (scheme.wires w a.state a.fits).goes_main
        by (suc k) le = let a = agreed c w e in one_bit _ _ ((scheme.wires w a.state a.fits).goes (suc k) (omega arith) le)

    pub prompt : (v : Word) (d : Main C args v) → latest C args d < length (v0 ∷ vs) → DoneIn n (v0 ∷ vs) v (suc (latest C args d))
    prompt v d long =
        let t : DoneOnce C P r0 args later v (suc (latest C args d)) = in_time C P good h1 h2 r0 quiet args many later v (latest C args d) (core_of C wf args many v d) in
        let w = get_or (v0 ∷ vs) t.cycle [] in
        let there : slice_get (v0 ∷ vs) t.cycle ≡ Some w = slice_get-get_or (v0 ∷ vs) t.cycle [] (omega (arith, t.in_time, long)) in
        record {
          cycle = t.cycle;
          in_time = t.in_time;
          words = w;
          there = there;
          done = done_is t.cycle w there ∙ ap bit t.done;
          result = ap (λ z. z.bits) (result_is t.cycle w there ∙ t.result);
          once = λ c x e other. done_is c x e ∙ ap bit (t.once c other);
        }

    is_done : (c : ℕ) (w : Valuation) → slice_get (v0 ∷ vs) c ≡ Some w → read_output n w (codes "done") ≡ 1 → ret C (r c) 0 ≡ true
    is_done c w e up = sym (one_bit _ _ (done_is c w e)) ∙ ap one up

    not_early : (v : Word) (d : Main C args v) (c : ℕ) (w : Valuation) → slice_get (v0 ∷ vs) c ≡ Some w → read_output n w (codes "done") ≡ 1 → latest C args d < c → ⊥
    not_early v d c w e up late =
        let y : DoneIn n (v0 ∷ vs) v (suc (latest C args d)) = prompt v d (let l = slice_get_within (v0 ∷ vs) c w e in omega (arith, l, late)) in
        let z : read_output n w (codes "done") ≡ 0 = y.once c w e (λ same. let t = y.in_time in omega (arith, same, t, late)) in
        cc

    pub only : (c : ℕ) (w : Valuation) → slice_get (v0 ∷ vs) c ≡ Some w → read_output n w (codes "done") ≡ 1 → IsResult C args (as_word (C.result C.main) (read_output n w (codes "result"))) c
    only c w e up =
        let is = is_done c w e up in
        let es = history C P r0 args later (suc c) in
        let x = as_word (C.result C.main) (read_output n w (codes "result")) in
        let over : (after_event C args opening es).site 0 ≡ Returned x = after_done C P good h1 h2 r0 quiet args many later c is ∙ ap Returned
        (ap (r c).res (ap C.unit good.outside) ∙ sym (result_is c w e)) in
        let legal = (steps C P good h1 h2 r0 quiet args many later (suc c)).legal in
        let d = (right C C.functions good wf.numbered args es legal x over).0 in
        let count = started C C.functions good wf.numbered args es legal x x d over in
        let sum = total C args good opening es (inv_open C args good) legal in
        let few = at_most C args good opening es (suc c) C.functions (omega arith) (λ f lt. one_start C P good h1 h2 r0 quiet args many later f (suc c) lt) in
        let prompt : c ≤ latest C args d = at_most_or c (latest C args d) (not_early x d c w e up) in
        record {
          by = d;
          prompt = prompt;
          soon = omega (arith, prompt);
          few = subst (λ k. main_cost C args d ≤ C.functions * k) (suc-eq-add-one c) (omega (arith, count, sum, few));
        }

    pub exact : IsSequential C → (c : ℕ) (w : Valuation) → slice_get (v0 ∷ vs) c ≡ Some w → read_output n w (codes "done") ≡ 1 → (v : Word) (d : Main C args v)
        → c ≡ latest C args d
    exact seq c w e up v d = exactly C P wf seq h1 h2 r0 quiet args many later v d c (is_done c w e up)

    pub spanned : (c : ℕ) (w : Valuation) → slice_get (v0 ∷ vs) c ≡ Some w → read_output n w (codes "done") ≡ 1 → (v : Word) (d : Main C args v) → main_span C args d ≤ c
    spanned c w e up v d = no_sooner C P wf h1 h2 r0 quiet args many later v d c (is_done c w e up)

    -- the same from the registers of the state
    abbrev pub base : Registers
    base = registers_in C D n state0

    pub based : (c : ℕ) → Same C P (registers_at C P r0 args later c) (registers_at C P base args later c)
    unfolding registers_at
    based zero = regs_in C D P n wf h1 h2 scheme args state0 v0 run.0
    based (suc c) = next_same C P good (input_at args later c) (registers_at C P r0 args later c) (registers_at C P base args later c) (based c)

    pub done_based : (c : ℕ) (w : Valuation) → slice_get (v0 ∷ vs) c ≡ Some w → read_output n w (codes "done") ≡ bit (ret C (registers_at C P base args later c) 0)
    done_based c w e = done_is c w e ∙ ap bit (ret_same C P good (input_at args later c) _ _ (based c) 0)

    want_is : (c : ℕ) (w : Valuation) → slice_get (v0 ∷ vs) c ≡ Some w → (k : ℕ) → suc k ≤ C.sites → one (read n w (of_site (codes "want$") (suc k))) ≡ want C P (r c) (suc k)
    want_is c w e k le =
        let a = agreed c w e in
        one_bit _ _ ((scheme.wires w a.state a.fits).wants (suc k) (omega arith) le) ∙ want_same C P good (input_now C n w) _ _ a.same k

    want_within : (q : Registers) (k : ℕ) → want C P q (suc k) ≡ true → suc k ≤ C.sites
    unfolding body_wants
    want_within q k up =
        let o = some_of (body_wants C P q (suc k)) up in
        leb-true (suc k) C.sites (and_parts _ _ (cond_some _ _ o.0 o.1).0).1

    pub timed : NoneWaits C n (v0 ∷ vs) → (c : ℕ) (w : Valuation) → slice_get (v0 ∷ vs) c ≡ Some w → read_output n w (codes "done") ≡ 1 → (v : Word) (d : Main C args v) → c ≡ main_span C args d
    timed free c w e up v d =
        on_time_exactly C P wf h1 h2 r0 quiet args many later v d c
        (λ a k lt wants.
        let in_run = slice_get_within (v0 ∷ vs) c w e in
        let x = get_or (v0 ∷ vs) a [] in
        let there : slice_get (v0 ∷ vs) a ≡ Some x = slice_get-get_or (v0 ∷ vs) a [] (omega (arith, lt, in_run)) in
        let le = want_within (r a) k wants in
        sym (go_is a x there (suc k) le) ∙ free a (suc k) x there (omega arith) le (want_is a x there k le ∙ wants))
        (is_done c w e up)

    pub unshared : (c : ℕ) (w : Valuation) → slice_get (v0 ∷ vs) c ≡ Some w → read_output n w (codes "done") ≡ 1 → (v : Word) (d : Main C args v) → Unshared C P args d
        → c ≡ main_span C args d
    unshared c w e up v d none = unshared_exactly C P wf h1 h2 r0 quiet args many later v d none c (is_done c w e up)

    pub alone : (c : ℕ) (w : Valuation) → slice_get (v0 ∷ vs) c ≡ Some w → (j k : ℕ) → j ≤ C.sites → k ≤ C.sites → go_up n w j ≡ true → go_up n w k ≡ true → unit_for C j ≡ unit_for C k → j ≡ k
    alone c w e j k lej lek a b same =
        let x : Exclusive C P r0 args later c = no_two_starts C P good h1 h2 r0 quiet args many later c in
        x.one j k (sym (go_is c w e j lej) ∙ a) (sym (go_is c w e k lek) ∙ b) same

    rests_low : (c : ℕ) (w : Valuation) → slice_get (v0 ∷ vs) c ≡ Some w → (k : ℕ) → k ≤ C.sites → go_up n w k ≡ true → (registers_now C D n w).run (unit_for C k) ≡ false
    rests_low c w e k le up =
        let x : Exclusive C P r0 args later c = no_two_starts C P good h1 h2 r0 quiet args many later c in
        (agreed c w e).same.run (unit_for C k) ∙ x.rests k (sym (go_is c w e k le) ∙ up)

    pub rests : (c : ℕ) (w : Valuation) → slice_get (v0 ∷ vs) c ≡ Some w → (k : ℕ) → k ≤ C.sites → go_up n w k ≡ true → read n w (of_function D (codes "run$") (unit_for C k)) ≢ 1
    rests c w e k le up is =
        let lt = good.callee_in k le in
        let first = good.first (C.callee k) lt in
        let unit : is_unit C (unit_for C k) ≡ true = and_from _ _ (lt-ltb (unit_for C k) C.functions (omega (arith, lt, first)))
        (eq-eqb (C.unit (unit_for C k)) (unit_for C k) (good.again (C.callee k) lt)) in
        true≢false (sym (and_from _ _ unit (ap one is)) ∙ rests_low c w e k le up)

    pub quiet_then : (a c : ℕ) (v w : Valuation) → slice_get (v0 ∷ vs) a ≡ Some v → slice_get (v0 ∷ vs) c ≡ Some w → read_output n v (codes "done") ≡ 1 → a < c → Quiet (registers_now C D n w)
    quiet_then a c v w ea ec up lt =
        let q : Quiet (r c) = quiet_later C P good h1 h2 r0 quiet args many later a c (is_done a v ea up) lt in
        let s = (agreed c w ec).same in
        record { run = λ u. s.run u ∙ q.run u; fin = λ u. s.fin u ∙ q.fin u; sent = λ k pos. s.sent k pos ∙ q.sent k pos; got = λ k pos. s.got k pos ∙ q.got k pos }

    started_is : (c : ℕ) (w : Valuation) → slice_get (v0 ∷ vs) c ≡ Some w → (f : ℕ) → f < C.functions → is_started C D n w f ≡ starts_it C P (r c) (input_at args later c) f
    unfolding loads
    started_is c w e f lt =
        let a = agreed c w e in
        let loads_is : is_some (first (go_at C n w f) (suc C.sites)) ≡ is_some (loads C P (r c) (input_at args later c) f) =
        first_some_same (go_at C n w f) (load_in C P (r c) (input_at args later c) f) (suc C.sites)
        (λ k le. by (C.callee k == f) (go_up n w k) k (go_words C P (r c) (input_at args later c) k) (go_is c w e k (omega (arith, le)) ∙ sym (go_wants C P (r c) (input_at args later c) k))) in
        let loop_is : one (read n w (of_function D (codes "loop$") f)) ≡ is_some (loop_words C P (registers_now C D n w) f) = one_bit _ _ ((scheme.wires w a.state a.fits).loops f lt) in
        ap (λ b. b || one (read n w (of_function D (codes "loop$") f))) loads_is
        ∙ ap (λ b. is_some (loads C P (r c) (input_at args later c) f) || b) (loop_is ∙ ap is_some (loop_same c w e f))
      where
        by : (b x : Bool) (k : ℕ) (o : Option (List Word)) → x ≡ is_some o → is_some (cond (b && x) (Some k) None) ≡ is_some (cond b o None)
        by true true k (Some ws) q = refl
        by true false k None q = refl
        by true true k None q = absurd (true≢false q)
        by true false k (Some ws) q = absurd (false≢true q)
        by false x k o q = refl

        loop_same : (c : ℕ) (w : Valuation) → slice_get (v0 ∷ vs) c ≡ Some w → (f : ℕ) → loop_words C P (registers_now C D n w) f ≡ loop_words C P (r c) f
        loop_same c w e f = loop_words_same C P good (input_at args later c) _ _ (agreed c w e).same f

    seen_is : (f : ℕ) → f < C.functions → (c : ℕ) → c < length (v0 ∷ vs) → words_seen_in C D n (v0 ∷ vs) f c ≡ words_seen C P r0 args later f c
    unfolding words_seen_in words_seen
    seen_is f lt zero le = refl
    seen_is f lt (suc c) le =
        let v = get_or (v0 ∷ vs) c [] in
        let w = get_or (v0 ∷ vs) (suc c) [] in
        let ev : slice_get (v0 ∷ vs) c ≡ Some v = slice_get-get_or (v0 ∷ vs) c [] (omega (arith, le)) in
        let ew : slice_get (v0 ∷ vs) (suc c) ≡ Some w = slice_get-get_or (v0 ∷ vs) (suc c) [] le in
        ap (λ l. l ++ seen_at C D n f (slice_get (v0 ∷ vs) c) (slice_get (v0 ∷ vs) (suc c))) (seen_is f lt c (omega (arith, le)))
        ∙ ap (λ o. words_seen C P r0 args later f c ++ seen_at C D n f o (slice_get (v0 ∷ vs) (suc c))) ev
        ∙ ap (λ o. words_seen C P r0 args later f c ++ seen_at C D n f (Some v) o) ew
        ∙ ap (λ b. words_seen C P r0 args later f c ++ cond b ((registers_now C D n w).arg f ∷ []) []) (started_is c v ev f lt)
        ∙ ap (λ x. words_seen C P r0 args later f c ++ cond (starts_it C P (r c) (input_at args later c) f) (x ∷ []) []) ((agreed (suc c) w ew).same.arg f lt)

    pub same_lists : (v : Word) (d : Main C args v) (c : ℕ) → c < length (v0 ∷ vs) → latest C args d ≤ c → (f : ℕ) → f < C.functions → IsPermutation
        (main_calls C args d f) (words_seen_in C D n (v0 ∷ vs) f c)
    same_lists v d c le long f lt =
        subst (λ l. IsPermutation (main_calls C args d f) l) (sym (seen_is f lt c le)) (calls_seen C P wf h1 h2 r0 quiet args many later v d f c lt long)
