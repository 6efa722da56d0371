-- After main has returned all units rest.
use Rattle.safl_circuit.proofs.Common.{Choice, Inv, Numbered, Program, Registers, Returned, Sent, Stage, Unsent, Word, runs_idle}
use Rattle.std.proofs.Common.{◌≡◌, ◌≢◌, ℕ, zero, suc, ◌+◌, ◌<◌, ◌≤◌, Some, refl, sym, ap, ◌∙◌, arith}
use Rattle.safl_circuit.specs.Steps.{Shows, Quiet, is_running, is_delivering, was_sent, is_returned}
use Rattle.safl_calls.specs.Machine.{State, Mode, Idle, Runs, Delivers}
use Rattle.safl_calls.proofs.Basics.{serves}
use Rattle.safl_term.proofs.Apart.{returned_sent, sent_unsent}

unsent_or : (x : Stage) → (x ≢ Unsent → ⊥) → x ≡ Unsent
unsent_or Unsent h = refl
unsent_or Sent h = absurd (h (λ e. grind arith))
unsent_or (Returned w) h = absurd (h (λ e. grind arith))

module _ (C : Program) (good : Numbered C) (s : State) (inv : Inv C s) (w : Word) (over : s.site 0 ≡ Returned w) where
  -- a unit serves no site, where the higher units rest
  serves_none : (u k : ℕ) → ((h : ℕ) → u < h → s.unit h ≡ Idle) → serves (s.unit u) ≡ Some k → ⊥
  serves_none u zero rest e = returned_sent w (sym over ∙ (inv.serving u 0 e).0)
  serves_none u (suc k) rest e =
      let sv = inv.serving u (suc k) e in
      let lt = good.earlier (suc k) (omega arith) sv.2 in
      let a = inv.asks (suc k) (omega arith) (λ un. sent_unsent (sym sv.0 ∙ un)) in
      runs_idle _ _ _ (sym a.runs ∙ rest (C.unit (C.caller (suc k))) (omega (arith, lt, sv.1)))

  rests_as : (u : ℕ) → ((h : ℕ) → u < h → s.unit h ≡ Idle) → (m : Mode) → s.unit u ≡ m → m ≡ Idle
  rests_as u rest Idle e = refl
  rests_as u rest (Runs f k ws) e = absurd (serves_none u k rest (ap serves e))
  rests_as u rest (Delivers k v) e = absurd (serves_none u k rest (ap serves e))

  -- past the functions there is no unit
  out_as : (u : ℕ) → C.functions ≤ u → (m : Mode) → s.unit u ≡ m → m ≡ Idle
  out_as u le Idle e = refl
  out_as u le (Runs f k ws) e =
      let sv = inv.serving u k (ap serves e) in
      let lt = good.callee_in k sv.2 in
      let first = good.first (C.callee k) lt in
      absurd (omega (arith, lt, first, sv.1))
  out_as u le (Delivers k v) e =
      let sv = inv.serving u k (ap serves e) in
      let lt = good.callee_in k sv.2 in
      let first = good.first (C.callee k) lt in
      absurd (omega (arith, lt, first, sv.1))

  idle_from : (n u : ℕ) → C.functions ≤ n + u → s.unit u ≡ Idle
  idle_from zero u le = out_as u (omega arith) (s.unit u) refl
  idle_from (suc n) u le = rests_as u (λ h lt. idle_from n h (omega (arith, lt, le))) (s.unit u) refl

  all_idle : (u : ℕ) → s.unit u ≡ Idle
  all_idle u = idle_from C.functions u (omega arith)

  all_unsent : (k : ℕ) → 0 < k → s.site k ≡ Unsent
  all_unsent k pos = unsent_or (s.site k) (λ sent. let a = inv.asks k pos sent in runs_idle _ _ _ (sym a.runs ∙ all_idle (C.unit (C.caller k))))

  pub quiet_if : (P : Choice) (r : Registers) → Shows C P s r → Quiet r
  quiet_if P r shows = record {
    run = λ u. shows.run u ∙ ap is_running (all_idle u);
    fin = λ u. shows.fin u ∙ ap is_delivering (all_idle u);
    sent = λ k pos. shows.sent k pos ∙ ap was_sent (all_unsent k pos);
    got = λ k pos. shows.got k pos ∙ ap is_returned (all_unsent k pos);
  }
