-- What a simulator holds.
use Rattle.std.specs.Prelude.{◌≡◌, ℕ, slice_index, List}
use Rattle.safl_word.specs.Words.{Word}
use Rattle.safl_net.specs.Netlist.{Netlist}
use Rattle.safl_net.specs.Valuations.{Valuation, Fits, next_state}
use Rattle.safl_sim.specs.Places.{HasWords}

-- the net of a simulator, the state of its registers, and the valuation of the last cycle, both by the numbers of signals
pub record Simulation : Type 0 where
  pub net : Netlist
  pub state : List ℕ
  pub values : List ℕ

-- A cycle. The new valuation fits the state and the inputs, and is the only one that does; the new state is the next one.
pub record Ticks (old new : Simulation) (words : List Word) : Type 0 where
  pub net : new.net ≡ old.net
  pub fits : Fits old.net (slice_index old.state) new.values
  pub inputs : HasWords old.net new.values words
  pub alone : (v : Valuation) → Fits old.net (slice_index old.state) v → HasWords old.net v words → v ≡ new.values
  pub state : (s : ℕ) → slice_index new.state s ≡ next_state old.net new.values s
