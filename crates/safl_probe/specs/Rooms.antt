-- Room for the words of a frame.
use Rattle.std.specs.Prelude.{◌≡◌, List, map, length}
use Rattle.safl_word.specs.Words.{Word}
use Rattle.safl_net.specs.Netlist.{Netlist, Signal}
use Rattle.safl_sim.specs.Simulation.{Simulation}

-- there is a word for each signal, of the signal's width
abbrev pub HasWidths : Netlist → List Word → Type 0
HasWidths n frame = map (λ (w : Word). w.width) frame ≡ map (λ (g : Signal). g.width) n.signals

-- a frame can be filled with the values of a simulation: it has the room, and each signal has a value
pub record CanFill (sim : Simulation) (words : List Word) : Type 0 where
  pub frame : HasWidths sim.net words
  pub values : length sim.values ≡ length sim.net.signals
