-- Where no two calls can overlap, done comes in the last cycle in which it may.
use Rattle.safl_circuit.proofs.Common.{Choice, IsSequential, IsWellFormed, Main, Numbered, OneInUse, Program, ShownWordsServe, cases_eq}
use Rattle.safl_circuit.proofs.Common.{false≢true, latest, numbered, unit_for}
use Rattle.std.proofs.Common.{◌≡◌, ℕ, zero, suc, ◌≤◌, List, ◌++◌, true, sym, ap, ◌∙◌, ⊎_elim, arith}
use Rattle.safl_circuit.proofs.CallsSeen.{done_events}
use Rattle.safl_circuit.proofs.CoreOf.{core_of}
use Rattle.safl_circuit.proofs.Cycle.{steps, start_at, legal_all, inv_t, meets}
use Rattle.safl_circuit.proofs.DoneOnce.{DoneOnce}
use Rattle.safl_circuit.proofs.Once.{in_time, after_done}
use Rattle.safl_circuit.proofs.OneMove.{one_move}
use Rattle.safl_circuit.specs.Equations.{Registers, ret, returns, cycle_events}
use Rattle.safl_circuit.specs.Steps.{Quiet, StepsAt, input_at, registers_at, history}
use Rattle.safl_calls.proofs.Basics.{moves_append}
use Rattle.safl_calls.proofs.MachineLaws.{all_moves}
use Rattle.safl_calls.proofs.Sequential.{one_event}
use Rattle.safl_calls.specs.Machine.{opening, after_event}
use Rattle.safl_calls.specs.Moves.{moves_count}
use Rattle.safl_word.specs.Words.{Word, widths}

module _ (C : Program) (P : Choice) (wf : IsWellFormed C) (seq : IsSequential C) (h1 : OneInUse C P.arbiter) (h2 : ShownWordsServe C P.kept)
    (r0 : Registers) (quiet : Quiet r0) (args : List Word) (sized : widths args ≡ C.params C.main) (later : ℕ → List Word) where
  good : Numbered C
  good = numbered C wf

  at : (c : ℕ) → StepsAt C P r0 args later c
  at c = steps C P good h1 h2 r0 quiet args sized later c

  few : (c : ℕ) → moves_count (cycle_events C P (registers_at C P r0 args later c) (input_at args later c)) ≤ 1
  few c =
      let es = history C P r0 args later c in
      let r = registers_at C P r0 args later c in
      let i = input_at args later c in
      let start = start_at C P r0 args sized later c in
      let all = es ++ returns C r (suc C.sites) in
      let legal = legal_all C P args good h1 h2 r0.res es (at c).legal r i (at c).shows (at c).res start in
      one_move C P args good r i (after_event C args opening all)
      (inv_t C P args good h1 h2 r0.res es (at c).legal r i (at c).shows (at c).res start)
      (meets C P args good h1 h2 r0.res es (at c).legal r i (at c).shows (at c).res start)
      (one_event C good seq args all legal)

  so_far : (c : ℕ) → moves_count (history C P r0 args later c) ≤ c
  unfolding history moves_count
  so_far zero = omega arith
  so_far (suc c) =
      let sum = moves_append (history C P r0 args later c) (cycle_events C P (registers_at C P r0 args later c) (input_at args later c)) in
      omega (arith, so_far c, few c, sum)

  pub exactly : (v : Word) (d : Main C args v) (c : ℕ) → ret C (registers_at C P r0 args later c) 0 ≡ true → c ≡ latest C args d
  unfolding history moves_count
  exactly v d c up =
      let es = history C P r0 args later c in
      let over = after_done C P good h1 h2 r0 quiet args sized later c up in
      let all = all_moves C C.functions good wf.numbered args (history C P r0 args later (suc c)) (at (suc c)).legal ((registers_at C P r0 args later c).res (unit_for C 0)) v d over in
      let sum = moves_append es (cycle_events C P (registers_at C P r0 args later c) (input_at args later c)) in
      let none : moves_count (cycle_events C P (registers_at C P r0 args later c) (input_at args later c)) ≡ 0 = ap moves_count (done_events C P wf h1 h2 r0 quiet args sized later c up) in
      let t : DoneOnce C P r0 args later v (suc (latest C args d)) = in_time C P good h1 h2 r0 quiet args sized later v (latest C args d) (core_of C wf args sized v d) in
      let same : c ≡ t.cycle = ⊎_elim (λ e. e) (λ other. absurd (false≢true (sym (t.once c other) ∙ up))) (cases_eq c t.cycle) in
      omega (arith, all, sum, none, so_far c, t.in_time, same)
