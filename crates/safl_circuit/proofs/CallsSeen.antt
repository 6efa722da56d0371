-- The words on the argument registers are the argument lists of the evaluation.
use Rattle.safl_circuit.proofs.Common.{Choice, IsPermutation, IsWellFormed, Main, OneInUse, Program, Returned, ShownWordsServe, cases_eq}
use Rattle.safl_circuit.proofs.Common.{latest, main_calls, numbered, unit_for}
use Rattle.std.proofs.Common.{◌≡◌, ℕ, zero, suc, ◌+◌, ◌-◌, ◌<◌, ◌≤◌, List, [], ◌∷◌, ◌++◌, Bool, true, cond, refl, sym, ap, ◌∙◌, subst, arith, ⊎_elim, append-nil, append_assoc}
use Rattle.safl_word.specs.Words.{Word, widths}
use Rattle.safl_calls.specs.Machine.{State, Event, Return, Delivers, opening, give_back, Enabled, Legal, after_event, fire}
use Rattle.safl_calls.specs.Picks.{picks}
use Rattle.safl_calls.specs.Starts.{starts_of}
use Rattle.safl_calls.proofs.Basics.{after_append, legal_front, put_at}
use Rattle.safl_calls.proofs.MachineLaws.{stops, same_calls}
use Rattle.safl_circuit.specs.Equations.{Registers, ret, accepts, finishes, goes_on, cycle_events}
use Rattle.safl_circuit.specs.Steps.{Quiet, input_at, registers_at, history}
use Rattle.safl_circuit.proofs.DoneOnce.{DoneOnce}
use Rattle.safl_circuit.proofs.WordsSeen.{words_seen}
use Rattle.safl_circuit.proofs.Cycle.{steps}
use Rattle.safl_circuit.proofs.Once.{in_time, after_done, stays}
use Rattle.safl_circuit.proofs.Arguments.{arguments_seen, starts_append}
use Rattle.safl_circuit.proofs.CoreOf.{core_of}

picks_front : (p : ℕ → Bool) (e : ℕ → Event) (n : ℕ) → p 0 ≡ true → (rest : List Event) × (picks p e (suc n) ≡ e 0 ∷ rest)
unfolding picks
picks_front p e zero up = ([], ap (λ b. cond b (e 0 ∷ []) []) up)
picks_front p e (suc n) up = let r = picks_front p e n up in (r.0 ++ cond (p (suc n)) (e (suc n) ∷ []) [], ap (λ l. l ++ cond (p (suc n)) (e (suc n) ∷ []) []) r.1)

pub legal_back : (C : Program) (args : List Word) (s : State) (xs ys : List Event) → Legal C args s (xs ++ ys) → Legal C args (after_event C args s xs) ys
unfolding Legal after_event
legal_back C args s [] ys h = h
legal_back C args s (x ∷ xs) ys h = legal_back C args (fire C args s x) xs ys h.1

after_return : (C : Program) (args : List Word) (s : State) (v : Word) → s.unit (unit_for C 0) ≡ Delivers 0 v → (after_event C args s (Return 0 ∷ [])).site 0 ≡ Returned v
unfolding after_event
after_return C args s v del = ap (λ m. (give_back C s 0 m).site 0) del ∙ put_at s.site 0 0 (Returned v) refl

first_enabled : (C : Program) (args : List Word) (s : State) (e : Event) (es : List Event) → Legal C args s (e ∷ es) → Enabled C args s e
unfolding Legal
first_enabled C args s e es h = h.0

module _ (C : Program) (P : Choice) (wf : IsWellFormed C) (h1 : OneInUse C P.arbiter) (h2 : ShownWordsServe C P.kept) (r0 : Registers)
    (quiet : Quiet r0) (args : List Word) (sized : widths args ≡ C.params C.main) (later : ℕ → List Word) where
  abbrev hist : ℕ → List Event
  hist c = history C P r0 args later c

  legal : (c : ℕ) → Legal C args opening (history C P r0 args later c)
  legal c = (steps C P (numbered C wf) h1 h2 r0 quiet args sized later c).legal

  -- what follows a state in which main has returned is empty
  over_empty : (es fs : List Event) (v : Word) → Legal C args opening (es ++ fs) → (after_event C args opening es).site 0 ≡ Returned v → fs ≡ []
  over_empty es [] v h over = refl
  over_empty es (f ∷ fs) v h over =
      absurd (stops C C.functions (numbered C wf) wf.numbered args es (legal_front C args opening es (f ∷ fs) h) v f over
      (first_enabled C args (after_event C args opening es) f fs (legal_back C args opening es (f ∷ fs) h)))

  -- the cycle of done has no other event
  pub done_events : (c : ℕ) → ret C (registers_at C P r0 args later c) 0 ≡ true → cycle_events C P (registers_at C P r0 args later c) (input_at args later c) ≡ Return 0 ∷ []
  unfolding history
  done_events c up =
      let r = registers_at C P r0 args later c in
      let i = input_at args later c in
      let front = picks_front (ret C r) Return C.sites up in
      let others = accepts C P r i (suc C.sites) ++ (finishes C P r C.functions ++ goes_on C P r C.functions) in
      let rest = front.0 ++ others in
      let events : cycle_events C P r i ≡ Return 0 ∷ rest = ap (λ l. l ++ others) front.1 in
      let all : Legal C args opening (hist c ++ (Return 0 ∷ rest)) = subst (λ l. Legal C args opening (hist c ++ l)) events (legal (suc c)) in
      let moved : Legal C args opening ((hist c ++ (Return 0 ∷ [])) ++ rest) = subst (λ l. Legal C args opening l) (sym (append_assoc (hist c) (Return 0 ∷ []) rest)) all in
      let enabled = first_enabled C args (after_event C args opening (hist c)) (Return 0) rest (legal_back C args opening (hist c) (Return 0 ∷ rest) all) in
      let over : (after_event C args opening (hist c ++ (Return 0 ∷ []))).site 0 ≡ Returned enabled.0 = ap (λ s. s.site 0)
      (after_append C args opening (hist c) (Return 0 ∷ [])) ∙ after_return C args (after_event C args opening (hist c)) enabled.0 enabled.1 in
      let none : rest ≡ [] = over_empty (hist c ++ (Return 0 ∷ [])) rest enabled.0 moved over in
      events ∙ ap (λ l. Return 0 ∷ l) none

  -- nothing starts there
  done_starts : (c f : ℕ) → ret C (registers_at C P r0 args later c) 0 ≡ true → starts_of C args opening (history C P r0 args later (suc c)) f ≡
      starts_of C args opening (history C P r0 args later c) f
  unfolding history starts_of
  done_starts c f up =
      ap (λ l. starts_of C args opening (hist c ++ l) f) (done_events c up)
      ∙ starts_append C args opening (hist c) (Return 0 ∷ []) f
      ∙ append-nil (starts_of C args opening (hist c) f)

  pub calls_seen : (v : Word) (d : Main C args v) (f c : ℕ) → f < C.functions → latest C args d ≤ c → IsPermutation (main_calls C args d f) (words_seen C P r0 args later f c)
  calls_seen v d f c lt long =
      let t : DoneOnce C P r0 args later v (suc (latest C args d)) = in_time C P (numbered C wf) h1 h2 r0 quiet args sized later v (latest C args d) (core_of C wf args sized v d) in
      let w = (registers_at C P r0 args later t.cycle).res (unit_for C 0) in
      let returned = after_done C P (numbered C wf) h1 h2 r0 quiet args sized later t.cycle t.done in
      subst (λ l. IsPermutation (main_calls C args d f) l) (sym (arguments_seen C P (numbered C wf) h1 h2 r0 quiet args sized later f c lt))
      (⊎_elim
      (λ same. subst (λ n. IsPermutation (main_calls C args d f) (starts_of C args opening (hist n) f)) same
      (subst (λ l. IsPermutation (main_calls C args d f) l) (done_starts t.cycle f t.done) (at_over (suc t.cycle) w returned)))
      (λ other.
      let k = c - suc t.cycle in
      let at_c : k + suc t.cycle ≡ c = omega (arith, other, t.in_time, long) in
      at_over c w (subst (λ n. (after_event C args opening (hist n)).site 0 ≡ Returned w) at_c (stays C P (numbered C wf) h1 h2 r0 quiet args sized later k t.cycle w returned)))
      (cases_eq t.cycle c))
    where
      at_over : (n : ℕ) (w : Word) → (after_event C args opening (history C P r0 args later n)).site 0 ≡ Returned w → IsPermutation (main_calls C args d f)
          (starts_of C args opening (history C P r0 args later n) f)
      at_over n w over = same_calls C C.functions (numbered C wf) wf.numbered args (history C P r0 args later n) (legal n) w v d over f
