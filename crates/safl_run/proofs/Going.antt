-- Calls that go on.
use Rattle.std.proofs.Common.{◌≡◌, ℕ, List, [], ◌∷◌, ◌++◌, map, length, slice_index, refl, sym, ap, subst, ◌∙◌, inl, inr, codes}
use Rattle.safl_word.specs.Words.{Word}
use Rattle.safl_word.proofs.Lists.{get_pushed}
use Rattle.safl_net.specs.Netlist.{Netlist}
use Rattle.safl_net.specs.Runs.{GoesOn, start_number, input_numbers}
use Rattle.safl_net.specs.Valuations.{Valuation, Fits, next_state, read_output}
use Rattle.safl_net.specs.Whole.{IsWhole}
use Rattle.safl_net.specs.Arguments.{AreArguments}
use Rattle.safl_sim.specs.Places.{AreInputs, HasWords}
use Rattle.safl_sim.specs.Simulation.{Simulation, Ticks}
use Rattle.safl_sim.specs.Ticks.{state_after, words_of}
use Rattle.safl_sim.specs.Words.{input_words, zero_of, bit_word}
use Rattle.safl_sim.proofs.Giving.{words_had, zero_widths, zero_bits}
use Rattle.safl_sim.proofs.Going.{fits_along}
use Rattle.safl_sim.specs.Outcomes.{IsCallRun}
use Rattle.safl_run.specs.Steps.{IsGoing}

pub going_none : (n : Netlist) (state : ℕ → ℕ) (args : List Word) → IsGoing n state args [] state
going_none n state args = record { call = record { run = tt; zeros = λ c v e. absurd (cc) }; not_done = λ c v e. absurd (cc); after = λ s. refl }

goes_more : (n : Netlist) (state now : ℕ → ℕ) (vs : List Valuation) (v : Valuation) → GoesOn n state vs → ((s : ℕ) → now s ≡ state_after n state vs s)
    → Fits n now v → start_number n v ≡ 0 → GoesOn n state (vs ++ v ∷ [])
goes_more n state now [] v g e f s = (fits_along n now state v e f, s, tt)
goes_more n state now (u ∷ vs) v g e f s = (g.0, g.1, goes_more n (next_state n u) now vs v g.2 e f s)

after_more : (n : Netlist) (state : ℕ → ℕ) (vs : List Valuation) (v : Valuation) (s : ℕ) → state_after n state (vs ++ v ∷ []) s ≡ next_state n v s
after_more n state [] v s = refl
after_more n state (u ∷ vs) v s = after_more n (next_state n u) vs v s

-- the words of the cycles of a call
module _ (n : Netlist) (args : List Word) (whole : IsWhole n) (are : AreArguments n args) where
  abbrev pub Given : ℕ → Valuation → Type 0
  Given c v = HasWords n v (words_of c (input_words n.signals (bit_word 1) args) (input_words n.signals (bit_word 0) (map zero_of args)))

  pub call_more : (state now : ℕ → ℕ) (vs : List Valuation) (v : Valuation) → IsCallRun n state args vs → ((s : ℕ) → now s ≡ state_after n state vs s)
      → Fits n now v → Given (length vs) v → IsCallRun n state args (vs ++ v ∷ [])
  call_more state now [] v call e f w =
      let h = words_had n 1 args v whole are f.full w in
      record { run = (fits_along n now state v e f, h.0, h.1, tt); zeros = λ c u q. absurd (cc) }
  call_more state now (u ∷ us) v call e f w =
      let h = words_had n 0 (map zero_of args) v whole (zero_widths args ∙ are) f.full w in
      let r = call.run in
      record {
        run = (r.0, r.1, r.2, goes_more n (next_state n u) now us v r.3 e f h.0);
        zeros = λ c x q. elim (get_pushed us v x c q) [
          | inl a ↦ call.zeros c x a
          | inr a ↦ subst (λ y. input_numbers n.signals y ≡ map (λ (w : Word). 0) args) (sym a.1) (h.1 ∙ zero_bits args)
        ];
      }

  -- one more cycle in which `done` is 0
  pub going_more : (state now after : ℕ → ℕ) (vs : List Valuation) (v : Valuation) → IsGoing n state args vs now → Fits n now v → Given (length vs) v
      → read_output n v (codes "done") ≡ 0 → ((s : ℕ) → after s ≡ next_state n v s)
      → IsGoing n state args (vs ++ v ∷ []) after
  going_more state now after vs v g f w off e = record {
    call = call_more state now vs v g.call g.after f w;
    not_done = λ c u q. elim (get_pushed vs v u c q) [ inl a ↦ g.not_done c u a | inr a ↦ subst (λ y. read_output n y (codes "done") ≡ 0) (sym a.1) off ];
    after = λ s. e s ∙ sym (after_more n state vs v s);
  }

-- what a tick gives to a call
module _ (n : Netlist) (args : List Word) (first later : List Word) (count : ℕ) (old new : Simulation) (net : old.net ≡ n) (first_is : first ≡ input_words n.signals (bit_word 1) args)
    (later_is : later ≡ input_words n.signals (bit_word 0) (map zero_of args)) (ticks : Ticks old new (words_of count first later)) where
  pub tick_fits : Fits n (slice_index old.state) new.values
  tick_fits = subst (λ m. Fits m (slice_index old.state) new.values) net ticks.fits

  pub tick_words : HasWords n new.values (words_of count (input_words n.signals (bit_word 1) args) (input_words n.signals (bit_word 0) (map zero_of args)))
  tick_words =
      subst (λ l. HasWords n new.values (words_of count l (input_words n.signals (bit_word 0) (map zero_of args)))) first_is
      (subst (λ l. HasWords n new.values (words_of count first l)) later_is (subst (λ m. HasWords m new.values (words_of count first later)) net ticks.inputs))

  pub tick_leads : (s : ℕ) → slice_index new.state s ≡ next_state n new.values s
  tick_leads s = ticks.state s ∙ ap (λ m. next_state m new.values s) net

pub inputs_along : (n m : Netlist) (words view : List Word) → m ≡ n → view ≡ words → AreInputs n words → AreInputs m view
inputs_along n m words view net e are = subst (λ x. AreInputs x view) (sym net) (subst (λ l. AreInputs n l) (sym e) are)
