-- A net of one input takes one word.
use Rattle.std.proofs.Common.{◌≡◌, ℕ, suc, List, [], ◌∷◌, ◌++◌, map, slice_get, refl, sym, ap, ◌∙◌}
use Rattle.safl_net.specs.Netlist.{Netlist, Signal, Kind, Input, Reg, Wire, width_in, width_of, with_input}
use Rattle.safl_net.specs.Growth.{HasCell, AreTemps, Grows}
use Rattle.safl_net.specs.Making.{with_signal}
use Rattle.safl_sim.specs.Places.{inputs_from, inputs_of}
use Rattle.safl_bench.specs.WideNets.{TakesOne}

no_input : (k : Kind) (i : ℕ) (is : List ℕ) → HasCell k → with_input k i is ≡ is
no_input Input i is h = absurd h
no_input (Reg init next) i is h = refl
no_input (Wire cell) i is h = refl

no_inputs : (j i : ℕ) (gs : List Signal) → AreTemps j gs → inputs_from gs i ≡ []
no_inputs j i [] h = refl
no_inputs j i (g ∷ gs) h = no_input g.kind i (inputs_from gs (suc i)) h.1 ∙ no_inputs (suc j) (suc i) gs h.2

pub takes_one : (n m : Netlist) (name : List ℕ) (width : ℕ) → n ≡ with_signal (record { signals = []; outputs = [] })
    (record { name = name; width = width; kind = Input }) → Grows n m → TakesOne m width
takes_one n m name width e g = record { takes = λ words h. h ∙ sym (ap (map (width_of m)) inputs ∙ ap (λ w. w ∷ []) wide) }
  where
    signals : m.signals ≡ record { name = name; width = width; kind = Input } ∷ g.more
    signals = g.is ∙ ap (λ (x : Netlist). x.signals ++ g.more) e

    inputs : inputs_of m ≡ 0 ∷ []
    inputs = ap (λ gs. inputs_from gs 0) signals ∙ ap (λ is. 0 ∷ is) (no_inputs _ 1 g.more g.temps)

    wide : width_of m 0 ≡ width
    wide = ap (λ gs. width_in (slice_get gs 0)) signals
