-- Cycles of a simulator, one after the other.
use Rattle.std.specs.Prelude.{ℕ, zero, suc, List, [], ◌∷◌}
use Rattle.safl_word.specs.Words.{Word}
use Rattle.safl_net.specs.Netlist.{Netlist}
use Rattle.safl_net.specs.Valuations.{Valuation, next_state}

-- the state after the cycles
abbrev pub state_after : Netlist → (ℕ → ℕ) → List Valuation → ℕ → ℕ
state_after n state [] = state
state_after n state (v ∷ vs) = state_after n (next_state n v) vs

-- the words of the inputs in a cycle: the first words in cycle 0, the later ones afterwards
abbrev pub words_of : ℕ → List Word → List Word → List Word
words_of zero first later = first
words_of (suc c) first later = later
