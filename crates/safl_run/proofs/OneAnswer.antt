-- A net without loops has one answer to a call.
use Rattle.std.proofs.Common.{◌≡◌, ◌⊎◌, ℕ, zero, suc, ◌+◌, ◌<◌, ◌^◌, List, [], ◌∷◌, ◌++◌, length, Option, Some, None, slice_get, slice_index, refl, sym, ap, subst, ◌∙◌, arith, inl, inr, codes}
use Rattle.std.proofs.lemmas.List.{length-append, length_push}
use Rattle.safl_word.specs.Words.{Word, AreWords}
use Rattle.safl_word.proofs.Lists.{get_front, get_pushed, get_seam, get_some}
use Rattle.safl_word.proofs.Naturals.{lower_same_higher}
use Rattle.safl_net.specs.Laws.{FitWidths}
use Rattle.safl_net.specs.Netlist.{Netlist, Signal, width_in, width_of}
use Rattle.safl_net.specs.Rules.{IsNetlist}
use Rattle.safl_net.specs.Runs.{RunFrom, GoesOn}
use Rattle.safl_net.specs.Valuations.{Valuation, Fits, IsAcyclic, next_state, number_at, read_output, reset_state}
use Rattle.safl_net.specs.Whole.{IsWhole}
use Rattle.safl_net.specs.Arguments.{AreArguments}
use Rattle.safl_net.proofs.SignalKinds.{reset_at}
use Rattle.safl_sim.specs.Outcomes.{IsCallRun, IsOnlyOutcome, output_word}
use Rattle.safl_sim.specs.Places.{resets}
use Rattle.safl_sim.specs.declared.done.Done.{Done}
use Rattle.safl_sim.proofs.Existence.{call_exists, next_fits}
use Rattle.safl_sim.proofs.Going.{fits_along}
use Rattle.safl_sim.proofs.OneCall.{same_at, only_run, once as one_run}
use Rattle.safl_run.specs.Calls.{Answers, IsOutcome, Replies, IsSilent}
use Rattle.safl_run.specs.Laws.{AnswersExist, AnswersOnce, AnswersAreOutcomes}

-- ---- lists of cycles

longer : (us : List Valuation) (v : Valuation) (vs : List Valuation) (c : ℕ) (x : Valuation) → slice_get (us ++ v ∷ []) c ≡ Some x → slice_get (us ++ v ∷ vs) c ≡ Some x
longer [] v vs zero x e = e
longer [] v vs (suc c) x e = absurd (cc)
longer (u ∷ us) v vs zero x e = e
longer (u ∷ us) v vs (suc c) x e = longer us v vs c x e

-- ---- the first cycle in which `done` is 1

record Comes (done : Valuation → ℕ) (vs : List Valuation) : Type 0 where
  before : List Valuation
  last : Valuation
  rest : List Valuation
  is : vs ≡ before ++ last ∷ rest
  not_done : (c : ℕ) (v : Valuation) → slice_get before c ≡ Some v → done v ≡ 0
  on : done last ≡ 1

zero_or_one : (x : ℕ) → x < 2 → (x ≡ 0) ⊎ (x ≡ 1)
zero_or_one zero h = inl refl
zero_or_one (suc zero) h = inr refl
zero_or_one (suc (suc x)) h = absurd (omega (arith, h))

look : (done : Valuation → ℕ) (vs : List Valuation) → ((c : ℕ) (v : Valuation) → slice_get vs c ≡ Some v → done v < 2) →
    ((c : ℕ) (v : Valuation) → slice_get vs c ≡ Some v → done v ≡ 0) ⊎ Comes done vs
look done [] small = inl (λ c v e. absurd (cc))
look done (u ∷ vs) small = by (zero_or_one (done u) (small 0 u refl)) (look done vs (λ c v e. small (suc c) v e))
  where
    push : done u ≡ 0 → (us : List Valuation) → ((c : ℕ) (v : Valuation) → slice_get us c ≡ Some v → done v ≡ 0) → (c : ℕ) (v : Valuation) → slice_get (u ∷ us) c ≡ Some v → done v ≡ 0
    push off us rest zero v e = let q : u ≡ v = cc in subst (λ x. done x ≡ 0) q off
    push off us rest (suc c) v e = rest c v e

    by : (done u ≡ 0) ⊎ (done u ≡ 1) → ((c : ℕ) (v : Valuation) → slice_get vs c ≡ Some v → done v ≡ 0) ⊎ Comes done vs →
        ((c : ℕ) (v : Valuation) → slice_get (u ∷ vs) c ≡ Some v → done v ≡ 0) ⊎ Comes done (u ∷ vs)
    by (inr on) rest = inr (record { before = []; last = u; rest = vs; is = refl; not_done = λ c v e. absurd (cc); on = on })
    by (inl off) (inl rest) = inl (push off vs rest)
    by (inl off) (inr s) = inr (record { before = u ∷ s.before; last = s.last; rest = s.rest; is = ap (λ l. u ∷ l) s.is; not_done = push off s.before s.not_done; on = s.on })

-- ---- the cycles of a call

module _ (n : Netlist) where
  goes_front : (state : ℕ → ℕ) (us : List Valuation) (v : Valuation) (vs : List Valuation) → GoesOn n state (us ++ v ∷ vs) → GoesOn n state (us ++ v ∷ [])
  goes_front state [] v vs g = (g.0, g.1, tt)
  goes_front state (u ∷ us) v vs g = (g.0, g.1, goes_front (next_state n u) us v vs g.2)

  call_front : (state : ℕ → ℕ) (args : List Word) (us : List Valuation) (v : Valuation) (vs : List Valuation) → IsCallRun n state args (us ++ v ∷ vs) → IsCallRun n state args (us ++ v ∷ [])
  call_front state args [] v vs call = let r = call.run in record { run = (r.0, r.1, r.2, tt); zeros = λ c x e. absurd (cc) }
  call_front state args (u ∷ us) v vs call =
      let r = call.run in
      record { run = (r.0, r.1, r.2, goes_front (next_state n u) us v vs r.3); zeros = λ c x e. call.zeros c x (longer us v vs c x e) }

  fits_later : (state : ℕ → ℕ) (vs : List Valuation) → GoesOn n state vs → (c : ℕ) (v : Valuation) → slice_get vs c ≡ Some v → (other : ℕ → ℕ) × Fits n other v
  fits_later state [] g c v e = absurd (cc)
  fits_later state (u ∷ vs) g zero v e = (state, subst (λ (x : Valuation). Fits n state x) (let q : u ≡ v = cc in q) g.0)
  fits_later state (u ∷ vs) g (suc c) v e = fits_later (next_state n u) vs g.2 c v e

  fits_at : (state : ℕ → ℕ) (args : List ℕ) (vs : List Valuation) → RunFrom n state args vs → (c : ℕ) (v : Valuation) → slice_get vs c ≡ Some v → (other : ℕ → ℕ) × Fits n other v
  fits_at state args [] g c v e = absurd (cc)
  fits_at state args (u ∷ vs) g zero v e = (state, subst (λ (x : Valuation). Fits n state x) (let q : u ≡ v = cc in q) g.0)
  fits_at state args (u ∷ vs) g (suc c) v e = fits_later (next_state n u) vs g.3 c v e

  -- `done` is a bit
  bit_signal : (s : ℕ) → width_of n s ≡ 1 → (g : Signal) × (slice_get n.signals s ≡ Some g) × (g.width ≡ 1)
  bit_signal s e = go (slice_get n.signals s) refl e
    where
      go : (o : Option Signal) → slice_get n.signals s ≡ o → width_in o ≡ 1 → (g : Signal) × (slice_get n.signals s ≡ Some g) × (g.width ≡ 1)
      go None at e = absurd (cc)
      go (Some g) at e = (g, at, e)

  done_bit : IsWhole n → (state : ℕ → ℕ) (v : Valuation) → Fits n state v → read_output n v (codes "done") < 2
  done_bit whole state v f =
      let g = bit_signal whole.done.signal whole.done.bit in
      let at : read_output n v (codes "done") ≡ slice_index v whole.done.signal = ap (number_at v) whole.done.at in
      let small : slice_index v whole.done.signal < 2 ^ g.0.width = (f.each whole.done.signal g.0 g.1).0 in
      let two : 2 ^ g.0.width ≡ 2 = ap (λ k. 2 ^ k) g.2 in
      omega (arith, at, small, two)

  pub last_fits : (state : ℕ → ℕ) (args : List Word) (vs : List Valuation) (v : Valuation) → IsCallRun n state args (vs ++ v ∷ []) → (other : ℕ → ℕ) × Fits n other v
  last_fits state args vs v call = fits_at state _ (vs ++ v ∷ []) call.run (length vs) v (get_seam vs v [] (length vs) refl)

  -- the state after a reply is of the widths
  pub after_fits : IsNetlist n → (limit : ℕ) (state after : ℕ → ℕ) (args : List Word) (r : Done) → Replies n limit state args r after → FitWidths n after
  after_fits made limit state after args r p =
      let f = last_fits state args p.before p.last p.call in
      λ s g at. subst (λ x. x < 2 ^ g.width) (sym (p.leads s)) (next_fits n f.0 p.last made f.1 s g at)

-- ---- there is an answer

module _ (n : Netlist) (made : IsNetlist n) (whole : IsWhole n) (acyclic : IsAcyclic n) (limit : ℕ) (state : ℕ → ℕ) (fit : FitWidths n state)
    (args : List Word) (words : AreWords args) (are : AreArguments n args) where
  answered_by : (vs : List Valuation) → IsCallRun n state args vs → length vs ≡ limit
      → ((c : ℕ) (v : Valuation) → slice_get vs c ≡ Some v → read_output n v (codes "done") ≡ 0) ⊎ Comes (λ v. read_output n v (codes "done")) vs
      → (answer : Option Done) × (after : ℕ → ℕ) × Answers n limit state args answer after × FitWidths n after
  answered_by vs call long (inl off) = (None, state, record { cycles = vs; call = call; long = long; not_done = λ c v h e. off c v e }, fit)
  answered_by vs call long (inr s) =
      let c : IsCallRun n state args (s.before ++ s.last ∷ s.rest) = subst (λ l. IsCallRun n state args l) s.is call in
      let a = ap length s.is ∙ length-append s.before (s.last ∷ s.rest) in
      let d : Done = record { cycle = length s.before; result = output_word n s.last (codes "result") } in
      let r : Replies n limit state args d (next_state n s.last) = record {
        in_time = omega (arith, a, long);
        before = s.before;
        last = s.last;
        call = call_front n state args s.before s.last s.rest c;
        long = refl;
        not_done = λ c v h e. s.not_done c v e;
        done = s.on;
        result = refl;
        leads = λ x. refl;
      } in
      (Some d, next_state n s.last, r, after_fits n made limit state (next_state n s.last) args d r)

  pub answered : (answer : Option Done) × (after : ℕ → ℕ) × Answers n limit state args answer after × FitWidths n after
  answered =
      let t = call_exists n made whole acyclic args words are limit state fit in
      answered_by t.0 t.1 t.2 (look (λ v. read_output n v (codes "done")) t.0 (λ c v e. let f = fits_at n state _ t.0 t.1.run c v e in done_bit n whole f.0 v f.1))

pub answers_exist : AnswersExist
answers_exist n made whole acyclic limit state fit args words are = answered n made whole acyclic limit state fit args words are

-- ---- and only one

module _ (n : Netlist) (made : IsNetlist n) (whole : IsWhole n) (acyclic : IsAcyclic n) (limit : ℕ) (state : ℕ → ℕ) (args : List Word) where
  -- where a reply comes, `done` is 1 in each call
  never : (r : Done) (after : ℕ → ℕ) → Replies n limit state args r after → (vs : List Valuation) → IsCallRun n state args vs → (v : Valuation) →
      slice_get vs r.cycle ≡ Some v → read_output n v (codes "done") ≡ 0 → ⊥
  never r after p vs call v at off =
      let same : v ≡ p.last = same_at n made whole acyclic state args (p.before ++ p.last ∷ []) vs p.call call r.cycle p.last v (get_seam p.before p.last [] r.cycle p.long) at in
      let zero_then : read_output n p.last (codes "done") ≡ 0 = subst (λ w. read_output n w (codes "done") ≡ 0) same off in
      let one_then = p.done in
      cc

  not_sooner : (r q : Done) (x y : ℕ → ℕ) → Replies n limit state args r x → Replies n limit state args q y → r.cycle < q.cycle → ⊥
  not_sooner r q x y p s lt =
      let long = s.long in
      let b = get_some s.before r.cycle (omega (arith, lt, long)) in
      never r x p (s.before ++ s.last ∷ []) s.call b.0 (get_front s.before (s.last ∷ []) r.cycle b.0 b.1) (s.not_done r.cycle b.0 lt b.1)

  not_silent : (r : Done) (after : ℕ → ℕ) → Replies n limit state args r after → IsSilent n limit state args → ⊥
  not_silent r after p s =
      let long = s.long in
      let time = p.in_time in
      let b = get_some s.cycles r.cycle (omega (arith, time, long)) in
      never r after p s.cycles s.call b.0 b.1 (s.not_done r.cycle b.0 time b.1)

  done_is : (r q : Done) → r.cycle ≡ q.cycle → r.result ≡ q.result → r ≡ q
  done_is r q c e = ap (λ x. (let y : Done = record { cycle = x; result = r.result } in y)) c ∙ ap (λ x. (let y : Done = record { cycle = q.cycle; result = x } in y)) e

  pub replies_once : (r q : Done) (x y : ℕ → ℕ) → Replies n limit state args r x → Replies n limit state args q y → (r ≡ q) × ((s : ℕ) → x s ≡ y s)
  replies_once r q x y p s = by (lower_same_higher r.cycle q.cycle)
    where
      by : (r.cycle < q.cycle) ⊎ ((r.cycle ≡ q.cycle) ⊎ (q.cycle < r.cycle)) → (r ≡ q) × ((s : ℕ) → x s ≡ y s)
      by (inl h) = absurd (not_sooner r q x y p s h)
      by (inr (inl c)) =
          let same : s.last ≡ p.last =
          same_at n made whole acyclic state args (p.before ++ p.last ∷ []) (s.before ++ s.last ∷ []) p.call s.call r.cycle p.last s.last
          (get_seam p.before p.last [] r.cycle p.long) (get_seam s.before s.last [] r.cycle (s.long ∙ sym c)) in
          (done_is r q c (p.result ∙ ap (λ v. output_word n v (codes "result")) (sym same) ∙ sym s.result), λ t. p.leads t ∙ ap (λ v. next_state n v t) (sym same) ∙ sym (s.leads t))
      by (inr (inr h)) = absurd (not_sooner q r y x s p h)

  pub once : (a b : Option Done) (x y : ℕ → ℕ) → Answers n limit state args a x → Answers n limit state args b y → a ≡ b
  once None None x y p q = refl
  once None (Some r) x y p q = absurd (not_silent r y q p)
  once (Some r) None x y p q = absurd (not_silent r x p q)
  once (Some r) (Some s) x y p q = ap Some (replies_once r s x y p q).0

pub answers_once : AnswersOnce
answers_once n made whole acyclic limit state args a b x y p q = once n made whole acyclic limit state args a b x y p q

-- ---- from reset

pub outcome : (n : Netlist) → IsNetlist n → IsWhole n → IsAcyclic n → (args : List Word) (limit : ℕ) (answer : Option Done) (after : ℕ → ℕ) → Answers
    n limit (reset_state n) args answer after → IsOutcome n args limit answer
outcome n made whole acyclic args limit answer after a =
    record {
      after = after;
      answers = a;
      alone = λ other state b. once n made whole acyclic limit (reset_state n) args other answer state after b a;
      only = λ vs ws b c. one_run n made whole acyclic (reset_state n) args vs ws b c;
    }

only_outcome : (n : Netlist) → IsNetlist n → IsWhole n → IsAcyclic n → (args : List Word) (limit : ℕ) (answer : Option Done) (after : ℕ → ℕ) → Answers
    n limit (reset_state n) args answer after → IsOnlyOutcome n args limit answer
only_outcome n made whole acyclic args limit None after a = record { run = a.cycles; only = only_run n made whole acyclic args a.cycles limit a.call a.long; never = a.not_done }
only_outcome n made whole acyclic args limit (Some d) after a = record {
  in_time = a.in_time;
  run = a.before ++ a.last ∷ [];
  only = only_run n made whole acyclic args (a.before ++ a.last ∷ []) (d.cycle + 1) a.call (length_push a.before a.last ∙ ap (λ k. k + 1) a.long);
  last = a.last;
  there = get_seam a.before a.last [] d.cycle a.long;
  done = a.done;
  result = a.result;
  before = λ c v h e.
      elim (get_pushed a.before a.last v c e) [
        | inl f ↦ a.not_done c v h f
        | inr f ↦ absurd (let x = f.0 in let y = a.long in omega (arith, h, x, y))
      ];
}

pub answers_are_outcomes : AnswersAreOutcomes
answers_are_outcomes n made whole acyclic args limit answer after a = only_outcome n made whole acyclic args limit answer after a

-- equal states have the same calls
pub call_along : (n : Netlist) (state other : ℕ → ℕ) (args : List Word) (vs : List Valuation) → ((s : ℕ) → state s ≡ other s) → IsCallRun n state args vs → IsCallRun n other args vs
call_along n state other args [] e call = record { run = tt; zeros = call.zeros }
call_along n state other args (v ∷ vs) e call = let r = call.run in record { run = (fits_along n state other v e r.0, r.1, r.2, r.3); zeros = call.zeros }

pub answers_along : (n : Netlist) (limit : ℕ) (state other : ℕ → ℕ) (args : List Word) (answer : Option Done) (after : ℕ → ℕ) →
    ((s : ℕ) → state s ≡ other s) → Answers n limit state args answer after → Answers n limit other args answer after
answers_along n limit state other args None after e a = record { cycles = a.cycles; call = call_along n state other args a.cycles e a.call; long = a.long; not_done = a.not_done }
answers_along n limit state other args (Some d) after e a = record {
  in_time = a.in_time;
  before = a.before;
  last = a.last;
  call = call_along n state other args (a.before ++ a.last ∷ []) e a.call;
  long = a.long;
  not_done = a.not_done;
  done = a.done;
  result = a.result;
  leads = a.leads;
}

-- a net at reset
pub from_reset : (n : Netlist) (state : List ℕ) → state ≡ resets n → (s : ℕ) → slice_index state s ≡ reset_state n s
from_reset n state fresh s = ap (λ x. slice_index x s) fresh ∙ reset_at n.signals s
