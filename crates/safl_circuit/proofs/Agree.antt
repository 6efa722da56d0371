-- The wires of a cycle, and what it leaves, depend on the registers that exist.
use Rattle.safl_circuit.proofs.Common.{Choice, Numbered, Program, Stands, cond_cong, first_cong, unit_for}
use Rattle.std.proofs.Common.{◌≡◌, ℕ, zero, suc, ◌<◌, ◌≤◌, Some, None, Bool, true, false, cond, not, ◌&&◌, ◌||◌, ◌==◌, nat_le, is_some, refl, ap, ◌∙◌, arith}
use Rattle.std.proofs.lemmas.Bool.{leb-true, and_parts}
use Rattle.safl_circuit.proofs.Same.{Same}
use Rattle.safl_circuit.specs.Equations.{Registers, Inputs, ret, many, path, on_wires, word_on, body_says, body_wants, want, wants_at, go}
use Rattle.safl_circuit.specs.Equations.{go_words, goes_to, loop_from, loop_words, ends, taken_loop, starts, loads}
use Rattle.safl_circuit.specs.Equations.{clears, starts_it, starts_other, next}
use Rattle.safl_circuit.proofs.Searched.{end_in, loop_in, go_in, load_in, if_other}
use Rattle.safl_calls.proofs.Locality.{answer_local, wanted_local}
use Rattle.safl_calls.specs.Picks.{first}
use Rattle.safl_term.specs.Readiness.{NotYet, answer, wanted, word_of}

module _ (C : Program) (P : Choice) (good : Numbered C) (i : Inputs) (r q : Registers) (same : Same C P r q) where
  pub ret_same : (k : ℕ) → ret C r k ≡ ret C q k
  ret_same zero = same.fin (C.unit C.main)
  ret_same (suc k) = rw (same.fin (unit_for C (suc k)), same.sent (suc k) (omega arith), same.got (suc k) (omega arith)) refl

  path_same : (f : ℕ) → f < C.functions → path C r f ≡ path C q f
  path_same f lt = ap (λ b. b && (not (many C f) || r.at f)) (same.run (C.unit f)) ∙ ap (λ b. q.run (C.unit f) && b) (by (many C f) refl)
    where
      by : (b : Bool) → many C f ≡ b → (not b || r.at f) ≡ (not b || q.at f)
      by true is = same.at f lt is
      by false is = refl

  wires_same : (k : ℕ) → 0 < k → k ≤ C.sites → on_wires C P r k ≡ on_wires C P q k
  wires_same zero pos le = refl
  wires_same (suc k) pos le =
      ap (λ b. cond (b || ret C r (suc k)) (Some (word_on C P r (suc k))) None) (same.got (suc k) pos)
      ∙ ap (λ b. cond (q.got (suc k) || b) (Some (word_on C P r (suc k))) None) (ret_same (suc k))
      ∙ ap (λ w. cond (q.got (suc k) || ret C q (suc k)) (Some w) None)
      (ap (λ b. cond (P.kept (suc k) && not b) (r.keep (suc k)) (r.res (unit_for C (suc k)))) (ret_same (suc k)) ∙ by (P.kept (suc k)) refl)
    where
      by : (b : Bool) → P.kept (suc k) ≡ b → cond (b && not (ret C q (suc k))) (r.keep (suc k)) (r.res (unit_for C (suc k))) ≡ cond
          (b && not (ret C q (suc k))) (q.keep (suc k)) (q.res (unit_for C (suc k)))
      by true is = ap (λ a. cond (not (ret C q (suc k))) a (r.res (unit_for C (suc k)))) (same.keep (suc k) pos le is) ∙ ap
          (cond (not (ret C q (suc k))) (q.keep (suc k))) (same.res (unit_for C (suc k)))
      by false is = same.res (unit_for C (suc k))

  own_same : (f : ℕ) → f < C.functions → (k : ℕ) → Stands k (C.body f) → on_wires C P r k ≡ on_wires C P q k
  own_same f lt k st = let o = good.own f k lt st in wires_same k o.0 o.1

  pub says_same : (f : ℕ) → f < C.functions → body_says C P r f ≡ body_says C P q f
  unfolding body_says
  says_same f lt =
      ap (λ b. cond b (answer (on_wires C P r) (r.arg f) (C.body f)) NotYet) (path_same f lt)
      ∙ ap (λ a. cond (path C q f) (answer (on_wires C P r) a (C.body f)) NotYet) (same.arg f lt)
      ∙ ap (λ a. cond (path C q f) a NotYet) (answer_local (on_wires C P r) (on_wires C P q) (q.arg f) (C.body f) (own_same f lt))

  pub wants_same : (k : ℕ) → body_wants C P r (suc k) ≡ body_wants C P q (suc k)
  unfolding body_wants
  wants_same k =
      ap (λ b. cond (not b && nat_le (suc k) C.sites) (cond (path C r f) (wanted (on_wires C P r) (r.arg f) (C.body f) (suc k)) None) None) (same.sent (suc k) (omega arith))
      ∙ cond_cong (not (q.sent (suc k)) && nat_le (suc k) C.sites) _ _ None (λ h.
      let lt = good.caller_in (suc k) (omega arith) (leb-true (suc k) C.sites (and_parts _ _ h).1) in
      ap (λ b. cond b (wanted (on_wires C P r) (r.arg f) (C.body f) (suc k)) None) (path_same f lt)
      ∙ ap (λ a. cond (path C q f) (wanted (on_wires C P r) a (C.body f) (suc k)) None) (same.arg f lt)
      ∙ ap (λ o. cond (path C q f) o None) (wanted_local (on_wires C P r) (on_wires C P q) (q.arg f) (C.body f) (suc k) (own_same f lt)))
    where
      f : ℕ
      f = C.caller (suc k)

  pub want_same : (k : ℕ) → want C P r (suc k) ≡ want C P q (suc k)
  want_same k = ap is_some (wants_same k)

  wants_at_same : (u k : ℕ) → wants_at C P r u k ≡ wants_at C P q u k
  wants_at_same u zero = refl
  wants_at_same u (suc k) = ap (λ b. cond (unit_for C (suc k) == u && b) (Some (suc k)) None) (want_same k)

  pub go_same : (k : ℕ) → go C P r i k ≡ go C P q i k
  unfolding go
  go_same zero = ap (λ b. i.start && not b) (same.run (C.unit C.main))
  go_same (suc k) =
      let w = unit_for C (suc k) in
      ap (λ b. cond (P.arbiter w) (b && (not (r.run w) && not (is_some (first (wants_at C P r w) (suc k))))) b) (want_same k)
      ∙ ap (λ b. cond (P.arbiter w) (want C P q (suc k) && (not b && not (is_some (first (wants_at C P r w) (suc k))))) (want C P q (suc k))) (same.run w)
      ∙ ap (λ o. cond (P.arbiter w) (want C P q (suc k) && (not (q.run w) && not (is_some o))) (want C P q (suc k)))
      (first_cong (wants_at C P r w) (wants_at C P q w) (suc k) (λ j lt. wants_at_same w j))

  go_words_same : (k : ℕ) → go_words C P r i k ≡ go_words C P q i k
  go_words_same zero = ap (λ b. cond b (Some i.words) None) (go_same 0)
  go_words_same (suc k) = ap (λ b. cond b (body_wants C P r (suc k)) None) (go_same (suc k)) ∙ ap (λ o. cond (go C P q i (suc k)) o None) (wants_same k)

  pub loop_words_same : (h : ℕ) → loop_words C P r h ≡ loop_words C P q h
  loop_words_same h = first_cong (loop_from C P r h) (loop_from C P q h) C.functions (λ g lt. ap (λ a. cond (C.unit g == C.unit h) (goes_to h a) None) (says_same g lt))

  ends_same : (u : ℕ) → ends C P r u ≡ ends C P q u
  unfolding ends
  ends_same u = first_cong (end_in C P r u) (end_in C P q u) C.functions (λ f lt. ap (λ a. cond (C.unit f == u) (word_of a) None) (says_same f lt))

  loops_same : (u : ℕ) → taken_loop C P r u ≡ taken_loop C P q u
  unfolding taken_loop
  loops_same u = first_cong (loop_in C P r u) (loop_in C P q u) C.functions (λ h lt. ap (λ o. cond (C.unit h == u && is_some o) (Some h) None) (loop_words_same h))

  starts_same : (u : ℕ) → starts C P r i u ≡ starts C P q i u
  unfolding starts
  starts_same u = first_cong (go_in C P r i u) (go_in C P q i u) (suc C.sites) (λ k lt. ap (λ b. cond (unit_for C k == u && b) (Some k) None) (go_same k))

  loads_same : (f : ℕ) → loads C P r i f ≡ loads C P q i f
  unfolding loads
  loads_same f = first_cong (load_in C P r i f) (load_in C P q i f) (suc C.sites) (λ k lt. ap (λ o. cond (C.callee k == f) o None) (go_words_same k))

  clears_same : (u : ℕ) → clears C P r u ≡ clears C P q u
  clears_same u = ap (λ o. is_some o || is_some (taken_loop C P r u)) (ends_same u) ∙ ap (λ o. is_some (ends C P q u) || is_some o) (loops_same u)

  pub starts_it_same : (f : ℕ) → starts_it C P r i f ≡ starts_it C P q i f
  starts_it_same f = ap (λ o. is_some o || is_some (loop_words C P r f)) (loads_same f) ∙ ap (λ o. is_some (loads C P q i f) || is_some o) (loop_words_same f)

  starts_other_same : (f : ℕ) → starts_other C P r i f ≡ starts_other C P q i f
  starts_other_same f = ap is_some (first_cong (if_other C P r i f) (if_other C P q i f) C.functions
      (λ g lt. ap (λ b. cond (C.unit g == C.unit f && (not (g == f) && b)) (Some g) None) (starts_it_same g)))

  pub next_same : Same C P (next C P i r) (next C P i q)
  unfolding next
  next_same = record {
    run = λ u. rw (ends_same u, same.run u, starts_same u) refl;
    fin = λ u. ap is_some (ends_same u);
    res = λ u. rw (ends_same u, same.res u) refl;
    at = λ f lt is. rw (starts_other_same f, same.at f lt is, starts_it_same f) refl;
    arg = λ f lt. rw (loads_same f, loop_words_same f, same.arg f lt) refl;
    sent = λ k pos. rw (clears_same (C.unit (C.caller k)), same.sent k pos, go_same k) refl;
    got = λ k pos. rw (clears_same (C.unit (C.caller k)), same.got k pos, ret_same k) refl;
    keep = λ k pos le kept. rw (ret_same k, same.res (unit_for C k), same.keep k pos le kept) refl;
  }
