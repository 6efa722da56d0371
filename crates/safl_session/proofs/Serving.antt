-- A circuit serves one call after another.
use Rattle.safl_session.proofs.Common.{All, All-head, All-tail, AreReplies, Choice, FitWidths, IsNetlist, IsSilent, Names, Program, Quiet}
use Rattle.safl_session.proofs.Common.{Replies, Scheme, get_seam, place_at}
use Rattle.std.proofs.Common.{◌≡◌, ℕ, suc, ◌+◌, List, [], ◌∷◌, ◌++◌, length, Some, slice_get, slice_index, refl, sym, ap, subst, ◌∙◌, arith, codes}
use Rattle.std.proofs.lemmas.Nat.{pow_pos}
use Rattle.safl_word.specs.Words.{Word, as_word}
use Rattle.safl_term.specs.WellFormed.{AreWordsOf}
use Rattle.safl_term.proofs.Fuelled.{agree_to}
use Rattle.safl_net.specs.Making.{kind_at, kind_in}
use Rattle.safl_net.specs.Netlist.{Netlist, Input, output_place}
use Rattle.safl_net.specs.Runs.{RunFrom, GoesOn, start_number}
use Rattle.safl_net.specs.Valuations.{Valuation, Fits, next_state, number_at, read_output}
use Rattle.safl_net.specs.Whole.{IsWhole, HasStart}
use Rattle.safl_net.proofs.Existence.{exactly_one}
use Rattle.safl_sim.proofs.Giving.{bits}
use Rattle.safl_circuit.specs.Names.{registers_now, registers_next}
use Rattle.safl_circuit.specs.Correct.{IsQuietState, IsResult, DoneIn, latest}
use Rattle.safl_circuit.specs.Theorem.{IsCircuit, Runs}
use Rattle.safl_sim.specs.declared.done.Done.{Done as Reply}
use Rattle.safl_session.specs.Circuits.{IsMainReply, StartsQuiet, Serves, IsInTime, BudgetsAreInTime, CircuitsServe, CircuitsReply}
use Rattle.safl_run.proofs.OneAnswer.{last_fits}
use Rattle.safl_session.proofs.QuietStates.{quiet_in, quiet_of, quiet_alike}
use Rattle.safl_sim.proofs.Existence.{next_fits}
use Rattle.safl_sim.proofs.WordsOfNumbers.{word_bits}

-- a run with one cycle more, in which `start` is 0
goes_more : (n : Netlist) (state : ℕ → ℕ) (vs : List Valuation) (v u : Valuation) → GoesOn n state (vs ++ v ∷ []) → Fits n (next_state n v) u → start_number n u ≡ 0 → GoesOn n state (vs ++ v ∷ u ∷ [])
goes_more n state [] v u g f s = (g.0, g.1, (f, s, tt))
goes_more n state (x ∷ vs) v u g f s = (g.0, g.1, goes_more n (next_state n x) vs v u g.2 f s)

run_more : (n : Netlist) (state : ℕ → ℕ) (args : List ℕ) (vs : List Valuation) (v u : Valuation) → RunFrom n state args (vs ++ v ∷ []) → Fits n
    (next_state n v) u → start_number n u ≡ 0 → RunFrom n state args (vs ++ v ∷ u ∷ [])
run_more n state args [] v u r f s = (r.0, r.1, r.2, (f, s, tt))
run_more n state args (x ∷ vs) v u r f s = (r.0, r.1, r.2, goes_more n (next_state n x) vs v u r.3 f s)

module _ (C : Program) (D : Names) (P : Choice) (n : Netlist) (scheme : Scheme C D P n) (circuit : IsCircuit C D P n) (made : IsNetlist n) (whole : IsWhole n) (limit : ℕ) where
  -- from each state of the widths there is a cycle without `start`
  rest_cycle : (state : ℕ → ℕ) → FitWidths n state → (u : Valuation) × Fits n state u × (start_number n u ≡ 0)
  rest_cycle state fit =
      let one = exactly_one n made scheme.whole scheme.acyclic state (λ s. 0) fit (λ s g at. pow_pos g.width) in
      let h : HasStart n = whole.start in
      let p = place_at n.signals (codes "start") 0 h.signal h.at in
      let here : p.from ≡ h.signal = (let a = p.is in omega (arith, a)) in
      let input : p.signal.kind ≡ Input = sym (ap kind_in p.at) ∙ ap (kind_at n) here ∙ h.input in
      (one.0, one.1.fits, ap (number_at one.0) h.at ∙ ap (slice_index one.0) (sym here) ∙ one.1.inputs p.from p.signal p.at input)

  module _ (state : ℕ → ℕ) (quiet : IsQuietState C D n state) (args : List Word) (sized : AreWordsOf args (C.params C.main)) where
    runs : Runs C D n state
    runs = circuit.again state quiet

    module _ (r : Reply) (after : ℕ → ℕ) (p : Replies n limit state args r after) where
      abbrev cycles : List Valuation
      cycles = p.before ++ p.last ∷ []

      main_reply : IsMainReply C args r
      main_reply =
          let x = runs.behaves.only args sized cycles p.call.run (length p.before) p.last (get_seam p.before p.last [] (length p.before) refl) p.done in
          let given : Word = as_word (C.result C.main) (read_output n p.last (codes "result")) in
          let same : read_output n p.last (codes "result") ≡ r.result.bits = sym (ap (λ (w : Word). w.bits) p.result ∙ word_bits n p.last (output_place n.outputs (codes "result"))) in
          let at : slice_get cycles (length p.before) ≡ Some p.last = get_seam p.before p.last [] (length p.before) refl in
          let y : IsResult C args (as_word (C.result C.main) r.result.bits) r.cycle =
          subst (λ k. IsResult C args (as_word (C.result C.main) k) r.cycle) same (subst (λ k. IsResult C args given k) p.long x) in
          record {
            result = y;
            exact = λ seq. sym p.long ∙ runs.exact seq args sized cycles p.call.run (length p.before) p.last at p.done (as_word (C.result C.main) r.result.bits) y.by;
          }

      -- the cycle of the reply leaves quiet registers
      quiet_next : Quiet (registers_next C D n p.last)
      quiet_next =
          let f = last_fits n state args p.before p.last p.call in
          let u = rest_cycle (next_state n p.last) (next_fits n f.0 p.last made f.1) in
          let run = run_more n state (bits args) p.before p.last u.0 p.call.run u.1 u.2 in
          let q : Quiet (registers_now C D n u.0) =
          runs.quiet args sized (p.before ++ p.last ∷ u.0 ∷ []) run (length p.before) (length p.before + 1) p.last u.0
          (get_seam p.before p.last (u.0 ∷ []) (length p.before) refl)
          (behind p.before p.last u.0)
          p.done (omega arith) in
          quiet_of C D P n scheme (next_state n p.last) u.0 u.1 q
        where
          behind : (vs : List Valuation) (v u : Valuation) → slice_get (vs ++ v ∷ u ∷ []) (length vs + 1) ≡ Some u
          behind vs v u = ap (slice_get (vs ++ v ∷ u ∷ [])) (let z : length vs + 1 ≡ suc (length vs) = omega arith in z) ∙ next vs
            where
              next : (vs : List Valuation) → slice_get (vs ++ v ∷ u ∷ []) (suc (length vs)) ≡ Some u
              next [] = refl
              next (x ∷ vs) = next vs

      quiet_after : IsQuietState C D n after
      quiet_after = quiet_alike C D P n scheme (next_state n p.last) after (λ s. sym (p.leads s)) quiet_next

    starts_quiet : (vs : List Valuation) → RunFrom n state (bits args) vs → StartsQuiet C D n vs
    starts_quiet [] run = tt
    starts_quiet (v ∷ vs) run = quiet_in C D P n scheme state v run.0 quiet

    not_silent : IsInTime C limit args → IsSilent n limit state args → ⊥
    not_silent g s =
        let l = s.long in
        let h = g.2 in
        let y : DoneIn n s.cycles g.0 (suc (latest C args g.1)) = runs.behaves.prompt args sized s.cycles s.call.run g.0 g.1 (omega (arith, h, l)) in
        let t = y.in_time in
        let z = s.not_done y.cycle y.words (omega (arith, t, h)) y.there in
        let e = y.done in
        cc

  serve : (state : ℕ → ℕ) → IsQuietState C D n state → (calls : List (List Word)) → All (λ args. AreWordsOf args (C.params C.main)) calls →
      (rs : List Reply) → AreReplies n limit state calls rs → Serves C D n limit state calls rs
  serve state quiet [] sized_all [] a = tt
  serve state quiet [] sized_all (r ∷ rs) a = a
  serve state quiet (args ∷ calls) sized_all [] a =
      (a, starts_quiet state quiet args (All-head (λ x. AreWordsOf x (C.params C.main)) args calls sized_all) a.cycles a.call.run)
  serve state quiet (args ∷ calls) sized_all (r ∷ rs) a =
      let sized = All-head (λ x. AreWordsOf x (C.params C.main)) args calls sized_all in (
        main_reply state quiet args sized r a.0 a.1,
        a.0,
        a.1,
        starts_quiet state quiet args sized (a.1.before ++ a.1.last ∷ []) a.1.call.run,
        quiet_next state quiet args sized r a.0 a.1,
        serve a.0 (quiet_after state quiet args sized r a.0 a.1) calls (All-tail (λ x. AreWordsOf x (C.params C.main)) args calls sized_all) rs a.2,
      )

  reply : (state : ℕ → ℕ) → IsQuietState C D n state → (calls : List (List Word)) → All (λ args. AreWordsOf args (C.params C.main)) calls → All
      (IsInTime C limit) calls → (rs : List Reply) → AreReplies n limit state calls rs
      → length rs ≡ length calls
  reply state quiet [] sized_all time [] a = refl
  reply state quiet [] sized_all time (r ∷ rs) a = absurd a
  reply state quiet (args ∷ calls) sized_all time [] a = absurd
      (not_silent state quiet args (All-head (λ x. AreWordsOf x (C.params C.main)) args calls sized_all) (All-head (IsInTime C limit) args calls time) a)
  reply state quiet (args ∷ calls) sized_all time (r ∷ rs) a =
      let sized = All-head (λ x. AreWordsOf x (C.params C.main)) args calls sized_all in
      ap suc (reply a.0 (quiet_after state quiet args sized r a.0 a.1) calls (All-tail (λ x. AreWordsOf x (C.params C.main)) args calls sized_all) (All-tail (IsInTime C limit) args calls time) rs a.2)

pub circuits_serve : CircuitsServe
circuits_serve C D P n scheme circuit made whole limit state quiet calls sized_all rs a = serve C D P n scheme circuit made whole limit state quiet calls sized_all rs a

pub circuits_reply : CircuitsReply
circuits_reply C D P n scheme circuit made whole limit state quiet calls sized_all time rs a = reply C D P n scheme circuit made whole limit state quiet calls sized_all time rs a

pub budgets_in_time : BudgetsAreInTime
budgets_in_time C args v n limit gives long =
    let d = agree_to C args v n gives in
    let cost = d.1 in
    (v, d.0, omega (arith, cost, long))
