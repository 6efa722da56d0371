-- The laws of netlists.
use Rattle.std.specs.Prelude.{◌≡◌, ℕ, ◌<◌, ◌^◌, Some, slice_get, slice_index}
use Rattle.safl_net.specs.Netlist.{Netlist, Signal, Input, AllSet}
use Rattle.safl_net.specs.Valuations.{Valuation, Fits, IsAcyclic}
use Rattle.safl_net.specs.Rules.{IsNetlist}

-- if a net has no loops and all its wires have cells, at most one valuation fits a state and inputs
abbrev pub AtMostOneValuation : Type 0
AtMostOneValuation =
    (n : Netlist) → AllSet n → IsAcyclic n → (state : ℕ → ℕ) (v w : Valuation) → Fits n state v → Fits n state w
    → ((s : ℕ) (g : Signal) → slice_get n.signals s ≡ Some g → g.kind ≡ Input → slice_index v s ≡ slice_index w s) → v ≡ w

-- each number fits the width of the signal at its place
abbrev pub FitWidths : Netlist → (ℕ → ℕ) → Type 0
FitWidths n f = (s : ℕ) (g : Signal) → slice_get n.signals s ≡ Some g → f s < 2 ^ g.width

-- the inputs have these numbers
abbrev pub HasInputs : Netlist → (ℕ → ℕ) → Valuation → Type 0
HasInputs n inputs v = (s : ℕ) (g : Signal) → slice_get n.signals s ≡ Some g → g.kind ≡ Input → slice_index v s ≡ inputs s

-- the valuation fits the state and the inputs, and no other does
pub record OneFits (n : Netlist) (state given : ℕ → ℕ) (v : Valuation) : Type 0 where
  pub fits : Fits n state v
  pub inputs : HasInputs n given v
  pub alone : (w : Valuation) → Fits n state w → HasInputs n given w → w ≡ v

-- if a net has no loops and all its wires have cells, exactly one valuation fits a state and inputs
abbrev pub ExactlyOneValuation : Type 0
ExactlyOneValuation =
    (n : Netlist) → IsNetlist n → AllSet n → IsAcyclic n → (state inputs : ℕ → ℕ) → FitWidths n state → FitWidths n inputs
    → (v : Valuation) × OneFits n state inputs v
