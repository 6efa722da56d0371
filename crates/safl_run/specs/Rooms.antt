-- The words of a net's inputs during a call.
use Rattle.std.specs.Prelude.{◌≡◌, ℕ, ◌+◌, ◌≤◌, List, [], ◌∷◌, ◌++◌, map, length, take, drop, Some, slice_get}
use Rattle.safl_word.specs.Words.{Word}
use Rattle.safl_net.specs.Netlist.{Netlist, Signal, Kind, Input, Reg, Wire}
use Rattle.safl_net.specs.Arguments.{AreArguments}
use Rattle.safl_sim.specs.Words.{input_words, zero_of, bit_word}
use Rattle.safl_run.specs.declared.input_words.Room.{Room}

-- the word 0 of the signal's width, if the signal is an input
abbrev pub own_zero : Kind → ℕ → List Word
own_zero Input width = record { width = width; bits = 0 } ∷ []
own_zero (Reg init next) width = []
own_zero (Wire cell) width = []

-- the word 0 of each input
unfoldable pub zeros_of : List Signal → List Word
zeros_of [] = []
zeros_of (g ∷ gs) = own_zero g.kind g.width ++ zeros_of gs

-- The first words have 1 at the place of `start`. With arguments before and after that place, they are the words of the first
-- cycle of a call. The later words are those of its later cycles.
pub record IsRoom (n : Netlist) (r : Room) : Type 0 where
  pub one : slice_get r.first.items r.start ≡ Some (bit_word 1)
  pub within : (args : List Word) → AreArguments n args → r.start ≤ length args
  pub long : (args : List Word) → AreArguments n args → length r.first.items ≡ length args + 1
  pub words : (args : List Word) → AreArguments n args → input_words n.signals (bit_word 1) args ≡ take r.start args ++ bit_word 1 ∷ drop r.start args
  pub later : (args : List Word) → AreArguments n args → r.later.items ≡ input_words n.signals (bit_word 0) (map zero_of args)
