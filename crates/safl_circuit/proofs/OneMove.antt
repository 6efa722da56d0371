-- Where at most one event is enabled after the Returns of a cycle, the cycle has at most one event besides them.
use Rattle.safl_circuit.proofs.Common.{Choice, Inv, LoopTo, Numbered, Program, Ready, Word, loop_not_yet, ready_not_yet}
use Rattle.std.proofs.Common.{◌≡◌, ℕ, zero, suc, ◌+◌, ◌<◌, ◌≤◌, List, [], ◌∷◌, ◌++◌, Bool, true, false, cond, is_some, refl, sym, ap, ◌∙◌, ⊎_elim, arith}
use Rattle.std.proofs.lemmas.Bool.{cases_Bool, false_from_ne_true}
use Rattle.safl_circuit.proofs.Accepts.{Meets, go_asks, go_idle}
use Rattle.safl_circuit.proofs.Ends.{ready_of, running, loop_found}
use Rattle.safl_circuit.proofs.Progress.{some_up}
use Rattle.safl_circuit.specs.Equations.{Registers, Inputs, ret, go, returns, accepts, finishes, goes_on, cycle_events, end_word, loop_words}
use Rattle.safl_calls.proofs.Basics.{moves_append, some_of}
use Rattle.safl_calls.specs.Machine.{State, Event, Accept, Finish, Return, LoopInto, Enabled, back, says_as}
use Rattle.safl_calls.specs.Moves.{move_count, moves_count}
use Rattle.safl_calls.specs.Picks.{picks}

number : Event → ℕ
number (Accept k) = k
number (Finish f) = f
number (Return k) = k
number (LoopInto h) = h

moves_of : (p : ℕ → Bool) (e : ℕ → Event) (n : ℕ) → moves_count (picks p e (suc n)) ≡ moves_count (picks p e n) + moves_count (cond (p n) (e n ∷ []) [])
unfolding picks
moves_of p e n = moves_append (picks p e n) (cond (p n) (e n ∷ []) [])

-- no Return is a move
no_moves : (p : ℕ → Bool) (n : ℕ) → moves_count (picks p Return n) ≡ 0
unfolding picks moves_count
no_moves p zero = refl
no_moves p (suc n) = omega (arith, no_moves p n, moves_of p Return n, by (p n))
  where
    by : (b : Bool) → moves_count (cond b (Return n ∷ []) []) ≡ 0
    by true = refl
    by false = refl

down : (p : ℕ → Bool) (e : ℕ → Event) (n : ℕ) → ((k : ℕ) → k < n → p k ≡ false) → moves_count (picks p e n) ≡ 0
unfolding picks moves_count
down p e zero h = refl
down p e (suc n) h =
    let none : moves_count (cond (p n) (e n ∷ []) []) ≡ 0 = ap (λ b. moves_count (cond b (e n ∷ []) [])) (h n (omega arith)) in
    omega (arith, down p e n (λ k lt. h k (omega (arith, lt))), moves_of p e n, none)

-- of numbers that pass there is one at most
at_most_one : (p : ℕ → Bool) (e : ℕ → Event) → ((k : ℕ) → move_count (e k) ≡ 1) → (n : ℕ) → ((j k : ℕ) → j < n → k < n → p j ≡ true → p k ≡ true → j ≡ k) → moves_count (picks p e n) ≤ 1
unfolding picks moves_count
at_most_one p e move zero same = omega arith
at_most_one p e move (suc n) same = ⊎_elim
    (λ up.
    let none = down p e n (λ k lt. false_from_ne_true _ (λ up'. omega (arith, same k n (omega (arith, lt)) (omega arith) up' up, lt))) in
    let here : moves_count (cond (p n) (e n ∷ []) []) ≡ move_count (e n) + 0 = ap (λ b. moves_count (cond b (e n ∷ []) [])) up in
    omega (arith, none, moves_of p e n, here, move n))
    (λ off.
    let none : moves_count (cond (p n) (e n ∷ []) []) ≡ 0 = ap (λ b. moves_count (cond b (e n ∷ []) [])) off in
    omega (arith, at_most_one p e move n (λ j k lj lk. same j k (omega (arith, lj)) (omega (arith, lk))), moves_of p e n, none))
    (cases_Bool (p n))

accept_finish : (k f : ℕ) → Accept k ≡ Finish f → ⊥
accept_finish k f e = grind arith

accept_loop : (k h : ℕ) → Accept k ≡ LoopInto h → ⊥
accept_loop k h e = grind arith

finish_loop : (f h : ℕ) → Finish f ≡ LoopInto h → ⊥
finish_loop f h e = grind arith

module _ (C : Program) (P : Choice) (args : List Word) (good : Numbered C) (r : Registers) (i : Inputs) (t : State) (inv : Inv C t)
    (meets : Meets C P args r i t) where
  -- what the cycle picks is enabled
  pub accept_on : (k : ℕ) → go C P r i k ≡ true → Enabled C args t (Accept k)
  accept_on k up = let a = go_asks C P args good r i t inv meets k up in (a.0, a.1, go_idle C P args good r i t inv meets k up)

  pub finish_on : (f : ℕ) → f < C.functions → is_some (end_word C P r f) ≡ true → Enabled C args t (Finish f)
  finish_on f lt up =
      let v = some_of (end_word C P r f) up in
      let run = running C P args good r i t inv meets f (Ready v.0) lt (ready_not_yet v.0) (ready_of _ v.0 v.1) in
      (run.serves, run.args, v.0, run.runs, ap (says_as C (back t)) run.runs ∙ run.answer)

  pub loop_on : (h : ℕ) → is_some (loop_words C P r h) ≡ true → Enabled C args t (LoopInto h)
  loop_on h up =
      let vs = some_of (loop_words C P r h) up in
      let g = loop_found C P args good r i t inv meets h vs.0 vs.1 in
      let run = running C P args good r i t inv meets g.0 (LoopTo h vs.0) g.1 (loop_not_yet h vs.0) g.3 in
      (vs.0, ap (says_as C (back t)) (ap t.unit (sym g.2) ∙ run.runs) ∙ run.answer)

  module _ (one : (d e : Event) → Enabled C args t d → Enabled C args t e → d ≡ e) where
    few_accepts : moves_count (accepts C P r i (suc C.sites)) ≤ 1
    unfolding number
    few_accepts = at_most_one (go C P r i) Accept (λ k. refl) (suc C.sites) (λ j k lj lk uj uk. ap number (one (Accept j) (Accept k) (accept_on j uj) (accept_on k uk)))

    few_finishes : moves_count (finishes C P r C.functions) ≤ 1
    unfolding number
    few_finishes = at_most_one (λ f. is_some (end_word C P r f)) Finish (λ f. refl) C.functions (λ j k lj lk uj uk. ap number (one (Finish j) (Finish k) (finish_on j lj uj) (finish_on k lk uk)))

    few_loops : moves_count (goes_on C P r C.functions) ≤ 1
    unfolding number
    few_loops = at_most_one (λ h. is_some (loop_words C P r h)) LoopInto (λ h. refl) C.functions (λ j k lj lk uj uk. ap number (one (LoopInto j) (LoopInto k) (loop_on j uj) (loop_on k uk)))

    pub one_move : moves_count (cycle_events C P r i) ≤ 1
    one_move = ⊎_elim
        (λ a.
        let none = down (λ f. is_some (end_word C P r f)) Finish C.functions
        (λ f lt. false_from_ne_true _ (λ up. accept_finish a.0 f (one (Accept a.0) (Finish f) (accept_on a.0 a.2) (finish_on f lt up)))) in
        let none' = down (λ h. is_some (loop_words C P r h)) LoopInto C.functions
        (λ h lt. false_from_ne_true _ (λ up. accept_loop a.0 h (one (Accept a.0) (LoopInto h) (accept_on a.0 a.2) (loop_on h up)))) in
        omega (arith, few_accepts, none, none', back_none, all_sum, late_sum, end_sum))
        (λ off.
        let none = down (go C P r i) Accept (suc C.sites) off in
        ⊎_elim
        (λ f.
        let none' = down (λ h. is_some (loop_words C P r h)) LoopInto C.functions
        (λ h lt. false_from_ne_true _ (λ up. finish_loop f.0 h (one (Finish f.0) (LoopInto h) (finish_on f.0 f.1 f.2) (loop_on h up)))) in
        omega (arith, few_finishes, none, none', back_none, all_sum, late_sum, end_sum))
        (λ off'.
        let none' = down (λ f. is_some (end_word C P r f)) Finish C.functions off' in
        omega (arith, few_loops, none, none', back_none, all_sum, late_sum, end_sum))
        (some_up (λ f. is_some (end_word C P r f)) C.functions))
        (some_up (go C P r i) (suc C.sites))
      where
        back_none : moves_count (returns C r (suc C.sites)) ≡ 0
        back_none = no_moves (ret C r) (suc C.sites)

        all_sum : moves_count (cycle_events C P r i) ≡ moves_count (returns C r (suc C.sites)) + moves_count
            (accepts C P r i (suc C.sites) ++ (finishes C P r C.functions ++ goes_on C P r C.functions))
        all_sum = moves_append (returns C r (suc C.sites)) (accepts C P r i (suc C.sites) ++ (finishes C P r C.functions ++ goes_on C P r C.functions))

        late_sum : moves_count (accepts C P r i (suc C.sites) ++ (finishes C P r C.functions ++ goes_on C P r C.functions)) ≡ moves_count
            (accepts C P r i (suc C.sites)) + moves_count (finishes C P r C.functions ++ goes_on C P r C.functions)
        late_sum = moves_append (accepts C P r i (suc C.sites)) (finishes C P r C.functions ++ goes_on C P r C.functions)

        end_sum : moves_count (finishes C P r C.functions ++ goes_on C P r C.functions) ≡ moves_count (finishes C P r C.functions) + moves_count (goes_on C P r C.functions)
        end_sum = moves_append (finishes C P r C.functions) (goes_on C P r C.functions)
