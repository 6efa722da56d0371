-- done comes in no cycle before that of the span of main's evaluation, and in no later one where no call waits.
use Rattle.safl_circuit.proofs.Common.{Choice, Inv, IsWellFormed, Main, Numbered, OneInUse, Program, Sent, ShownWordsServe, idle_delivers}
use Rattle.safl_circuit.proofs.Common.{inv_after, main_span, numbered, unit_for}
use Rattle.std.proofs.Common.{◌≡◌, ℕ, zero, suc, ◌<◌, ◌≤◌, List, ◌++◌, true, sym, ap, ◌∙◌, subst, arith}
use Rattle.safl_circuit.proofs.Acting.{may_all, since_low}
use Rattle.safl_circuit.proofs.CallsSeen.{legal_back}
use Rattle.safl_circuit.proofs.Cycle.{steps, start_at, legal_next, inv_t, meets, x, y, z, z_is, started, ended, moved}
use Rattle.safl_circuit.proofs.Once.{after_done, not_unsent, done_sent}
use Rattle.safl_circuit.proofs.Prompt.{prompt}
use Rattle.safl_circuit.proofs.Start.{ret_delivers}
use Rattle.safl_circuit.specs.Equations.{Registers, ret, want, go, returns, cycle_events}
use Rattle.safl_circuit.specs.Steps.{Quiet, StepsAt, input_at, registers_at, history}
use Rattle.safl_calls.proofs.Activities.{Giving}
use Rattle.safl_calls.proofs.Basics.{after_append}
use Rattle.safl_calls.proofs.Picture.{activity, picture}
use Rattle.safl_calls.proofs.Sooner.{OnTime, on_time_opening, on_time_after, on_time_later, on_time_returned}
use Rattle.safl_calls.proofs.Timely.{Prompt, Lasts, Awaits}
use Rattle.safl_calls.specs.Cycles.{since_events}
use Rattle.safl_calls.specs.Machine.{Delivers, opening, after_event}
use Rattle.safl_word.specs.Words.{Word, widths}

module _ (C : Program) (P : Choice) (wf : IsWellFormed C) (h1 : OneInUse C P.arbiter) (h2 : ShownWordsServe C P.kept) (r0 : Registers) (quiet : Quiet r0)
    (args : List Word) (sized : widths args ≡ C.params C.main) (later : ℕ → List Word) (v : Word) (d : Main C args v) where
  good : Numbered C
  good = numbered C wf

  at : (c : ℕ) → StepsAt C P r0 args later c
  at c = steps C P good h1 h2 r0 quiet args sized later c

  -- in the cycles before this one each call that is wanted is accepted
  abbrev pub NoneWaits : ℕ → Type 0
  NoneWaits bound = (c k : ℕ) → c < bound → want C P (registers_at C P r0 args later c) (suc k) ≡ true → go C P (registers_at C P r0 args later c) (input_at args later c) (suc k) ≡ true

  module _ (E : Type 0) (bound : ℕ) (free : E → NoneWaits bound) where
    -- the machine at the beginning of cycle c
    record Timely (c : ℕ) : Type 0 where
      since : ℕ → ℕ
      low : (u : ℕ) → since u ≤ c
      on_time : OnTime C args good wf.numbered v d E c since (after_event C args opening (history C P r0 args later c))
      given : E → (u k : ℕ) (w : Word) → (after_event C args opening (history C P r0 args later c)).unit u ≡ Delivers k w → c ≤ since u

    -- and at its end
    record Passed (c : ℕ) : Type 0 where
      since : ℕ → ℕ
      low : (u : ℕ) → since u ≤ suc c
      on_time : OnTime C args good wf.numbered v d E c since (after_event C args opening (history C P r0 args later (suc c)))
      prompt : E → Prompt C c since (picture C (after_event C args opening (history C P r0 args later (suc c)))).units
          (picture C (after_event C args opening (history C P r0 args later (suc c)))).outside

    passes : (c : ℕ) → c < bound → Timely c → Passed c
    unfolding history
    passes c lt h =
        let es = history C P r0 args later c in
        let r = registers_at C P r0 args later c in
        let i = input_at args later c in
        let start = start_at C P r0 args sized later c in
        let all = es ++ returns C r (suc C.sites) in
        let next = legal_next C P args good h1 h2 r0.res es (at c).legal r i (at c).shows (at c).res start in
        let inv = inv_t C P args good h1 h2 r0.res es (at c).legal r i (at c).shows (at c).res start in
        let m = meets C P args good h1 h2 r0.res es (at c).legal r i (at c).shows (at c).res start in
        let t = after_event C args opening all in
        let may = may_all C P args good r i t inv m c h.since h.low in
        let new = on_time_after C args good wf.numbered v d E c h.since (after_event C args opening es)
        (cycle_events C P r i) h.on_time (legal_back C args opening es (cycle_events C P r i) next) may in
        let x' = x C P args good h1 h2 r0.res es (at c).legal r i (at c).shows (at c).res start in
        let y' = y C P args good h1 h2 r0.res es (at c).legal r i (at c).shows (at c).res start in
        let z' = z C P args good h1 h2 r0.res es (at c).legal r i (at c).shows (at c).res start in
        let is = z_is C P args good h1 h2 r0.res es (at c).legal r i (at c).shows (at c).res start in
        let st = started C P args good h1 h2 r0.res es (at c).legal r i (at c).shows (at c).res start in
        let en = ended C P args good h1 h2 r0.res es (at c).legal r i (at c).shows (at c).res start in
        let mv = moved C P args good h1 h2 r0.res es (at c).legal r i (at c).shows (at c).res start in
        let inv_z = subst (Inv C) is (inv_after C args good (es ++ cycle_events C P r i) next) in
        record {
          since = since_events C c h.since (cycle_events C P r i);
          low = since_low C c h.since (cycle_events C P r i) (λ u. let l = h.low u in omega (arith, l));
          on_time = subst (OnTime C args good wf.numbered v d E c (since_events C c h.since (cycle_events C P r i))) (sym (after_append C args opening es (cycle_events C P r i))) new;
          prompt = λ e.
              let p = prompt C P args good r i t inv m x' st.1 y' en.1 z' mv.1 inv_z c h.since h.low (λ k up. free e c k lt up)
              (λ un. not_unsent C P good h1 h2 r0 quiet args sized later c (ap (λ q. q.site 0) is ∙ un)) in
              subst (λ q. Prompt C c (since_events C c h.since (cycle_events C P r i)) (picture C q).units (picture C q).outside) (sym is) p;
        }

    timely : (c : ℕ) → c ≤ bound → Timely c
    unfolding history after_event
    timely zero le = record {
      since = λ u. 0;
      low = λ u. omega arith;
      on_time = on_time_opening C args good wf.numbered v d E (λ u. 0);
      given = λ e u k w is. absurd (idle_delivers k w is);
    }
    timely (suc c) le =
        let q = passes c (omega arith) (timely c (omega arith)) in
        record {
          since = q.since;
          low = q.low;
          on_time = on_time_later C args good wf.numbered v d E c q.since (after_event C args opening (history C P r0 args later (suc c))) q.prompt q.on_time;
          given = λ e u k w is.
              let l = (q.prompt e).returned u k w (ap (activity C (after_event C args opening (history C P r0 args later (suc c))).site) is) in
              omega (arith, l);
        }

    sooner : (c : ℕ) → c < bound → ret C (registers_at C P r0 args later c) 0 ≡ true → main_span C args d ≤ c
    sooner c lt up =
        let q = passes c lt (timely c (omega arith)) in
        on_time_returned C args good wf.numbered v d E c q.since (after_event C args opening (history C P r0 args later (suc c))) ((registers_at C P r0 args later c).res (unit_for C 0)) q.on_time
        (after_done C P good h1 h2 r0 quiet args sized later c up)

    no_later : E → (c : ℕ) → c ≤ bound → ret C (registers_at C P r0 args later c) 0 ≡ true → c ≤ main_span C args d
    no_later e c le up =
        let h = timely c le in
        let s = after_event C args opening (history C P r0 args later c) in
        let u = C.unit (C.callee 0) in
        let inv = inv_after C args good (history C P r0 args later c) (at c).legal in
        let del = ret_delivers C P args good (registers_at C P r0 args later c) s inv (at c).shows 0 up in
        let given = h.given e u 0 del.0 del.1 in
        let l : Lasts C E c (h.since u) h.on_time.timed.due (Giving del.0 0) (h.on_time.timed.due u) =
        subst (λ y. Lasts C E c (h.since u) h.on_time.timed.due y (h.on_time.timed.due u)) (ap (activity C s.site) del.1) (h.on_time.timed.each u) in
        let sent = done_sent C P good h1 h2 r0 quiet args sized later c up in
        let w : Awaits E c Sent (main_span C args d) (h.on_time.timed.due u) = subst (λ o. Awaits E c o (main_span C args d) (h.on_time.timed.due u)) sent h.on_time.timed.main in
        let one = l.1 e in
        let two = w.1 e in
        omega (arith, given, one, two)

  pub no_sooner : (c : ℕ) → ret C (registers_at C P r0 args later c) 0 ≡ true → main_span C args d ≤ c
  no_sooner c up = sooner ⊥ (suc c) (λ e. absurd e) c (omega arith) up

  pub on_time_exactly : (c : ℕ) → NoneWaits c → ret C (registers_at C P r0 args later c) 0 ≡ true → c ≡ main_span C args d
  on_time_exactly c free up =
      let low = no_sooner c up in
      let high = no_later (NoneWaits c) c (λ e. e) free c (omega arith) up in
      omega (arith, low, high)
