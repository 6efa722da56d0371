-- The inputs and registers of a net, and its numbers at reset.
use Rattle.std.specs.Prelude.{◌≡◌, ℕ, suc, List, [], ◌∷◌, map, slice_index}
use Rattle.safl_word.specs.Words.{Word}
use Rattle.safl_net.specs.Netlist.{Netlist, Signal, width_of, with_input}
use Rattle.safl_net.specs.Valuations.{Valuation, kind_reset}

abbrev pub inputs_from : List Signal → ℕ → List ℕ
inputs_from [] i = []
inputs_from (g ∷ gs) i = with_input g.kind i (inputs_from gs (suc i))

abbrev pub inputs_of : Netlist → List ℕ
inputs_of n = inputs_from n.signals 0

-- one word for each input, of the input's width
abbrev pub AreInputs : Netlist → List Word → Type 0
AreInputs n words = map (λ (w : Word). w.width) words ≡ map (width_of n) (inputs_of n)

-- the inputs have the numbers of these words
abbrev pub HasWords : Netlist → Valuation → List Word → Type 0
HasWords n v words = map (slice_index v) (inputs_of n) ≡ map (λ (w : Word). w.bits) words

-- the number of each register at reset, and 0 for all other signals
abbrev pub resets : Netlist → List ℕ
resets n = map (λ (g : Signal). kind_reset g.kind) n.signals
