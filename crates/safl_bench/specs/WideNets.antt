-- Nets of one input and wires after it.
use Rattle.std.specs.Prelude.{◌≡◌, ℕ, ◌+◌, ◌≤◌, List, [], ◌∷◌, map, Some, length}
use Rattle.safl_word.specs.Words.{Word}
use Rattle.safl_net.specs.declared.cell.Sig.{Sig}
use Rattle.safl_net.specs.Netlist.{Netlist}
use Rattle.safl_net.specs.Names.{IsTidy}
use Rattle.safl_net.specs.Growth.{width_at, Grows}
use Rattle.safl_sim.specs.Places.{AreInputs}
use Rattle.safl_bench.specs.declared.turns.Ends.{Ends}

-- the signal has this width
abbrev pub Has : Netlist → ℕ → Sig → Type 0
Has n width s = width_at n s.0 ≡ Some width

-- the new net has at most this many wires more than the old one, and the signal, which has this width
pub record Gives (old new : Netlist) (most width : ℕ) (s : Sig) : Type 0 where
  pub tidy : IsTidy new
  pub grows : Grows old new
  pub more : length new.signals ≤ length old.signals + most
  pub has : Has new width s

-- the new net has at most this many wires more than the old one, and the two ends, which have this width
pub record Turns (old new : Netlist) (most width : ℕ) (e : Ends) : Type 0 where
  pub tidy : IsTidy new
  pub grows : Grows old new
  pub more : length new.signals ≤ length old.signals + most
  pub last : Has new width e.last
  pub other : Has new width e.other

-- a cycle takes one word, of this width
pub record TakesOne (n : Netlist) (width : ℕ) : Type 0 where
  pub takes : (words : List Word) → map (λ (w : Word). w.width) words ≡ width ∷ [] → AreInputs n words
