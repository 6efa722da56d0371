-- A loop over the cycles of a call.
use Rattle.std.proofs.Common.{◌≡◌, ℕ, ◌<◌, List, [], ◌∷◌, ◌++◌, length, Option, Some, None, true, false, is_some, slice_index, refl, subst}
use Rattle.safl_word.specs.Words.{Word}
use Rattle.safl_net.specs.Netlist.{Netlist}
use Rattle.safl_net.specs.Valuations.{Valuation}
use Rattle.safl_sim.specs.Simulation.{Simulation}
use Rattle.safl_sim.specs.declared.done.Done.{Done}
use Rattle.safl_run.specs.declared.harness.Harness.{Harness}
use Rattle.safl_sim.specs.Outcomes.{IsCallRun}
use Rattle.safl_run.specs.Calls.{Answers, cycles_of}
use Rattle.safl_run.specs.Steps.{IsCalled, IsGoing, Goes}

-- a step, where the net is known by another name
pub goes_along : (n : Netlist) (state : ℕ → ℕ) (args : List Word) (frames : List Valuation) (h : Harness) (cycle : ℕ) (old new : Simulation) (answer : Option Done) → old.net ≡ n
    → ((state : ℕ → ℕ) (args : List Word) (frames : List Valuation) → IsCalled old.net args h → length frames ≡ cycle → IsGoing old.net state args
    frames (slice_index old.state) → Goes old.net state args frames new answer)
    → IsCalled n args h → length frames ≡ cycle → IsGoing n state args frames (slice_index old.state) → Goes n state args frames new answer
goes_along n state args frames h cycle old new answer net f =
    subst (λ m. IsCalled m args h → length frames ≡ cycle → IsGoing m state args frames (slice_index old.state) → Goes m state args frames new answer) net (f state args frames)

module _ (n : Netlist) (state : ℕ → ℕ) (args : List Word) (frames : List Valuation) (new : Simulation) where
  -- in each case the cycles are those of the call
  pub goes_call : (answer : Option Done) → Goes n state args frames new answer → IsCallRun n state args (frames ++ new.values ∷ [])
  goes_call None g = g.call
  goes_call (Some d) g = g.call

  pub goes_on : (answer : Option Done) → is_some answer ≡ false → Goes n state args frames new answer → IsGoing n state args (frames ++ new.values ∷ []) (slice_index new.state)
  goes_on None e g = g
  goes_on (Some d) e g = absurd (cc)

  -- the reply, and what holds of the cycles up to it
  pub replied : (limit : ℕ) (now : ℕ → ℕ) (answer : Option Done) → is_some answer ≡ true → IsGoing n state args frames now → length frames < limit → Goes n state args frames new answer
      → (a : Answers n limit state args answer (slice_index new.state)) × (cycles_of n limit state args answer (slice_index new.state) a ≡ frames ++ new.values ∷ [])
  replied limit now None e going lt g = absurd (cc)
  replied limit now (Some d) e going lt g = (
    record {
      in_time = subst (λ k. k < limit) g.cycle lt;
      before = frames;
      last = new.values;
      call = g.call;
      long = g.cycle;
      not_done = λ c v h q. going.not_done c v q;
      done = g.done;
      result = g.result;
      leads = g.leads;
    },
    refl,
  )
