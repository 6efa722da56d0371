-- Runs of two nets with the same inputs.
use Rattle.std.specs.Prelude.{◌≡◌, ℕ, List, [], ◌∷◌}
use Rattle.safl_net.specs.Netlist.{Netlist, Signal, AllSet, with_input}
use Rattle.safl_net.specs.Names.{IsTidy}
use Rattle.safl_net.specs.Rules.{IsNetlist}
use Rattle.safl_net.specs.Valuations.{Valuation, Fits, IsAcyclic, reset_state, next_state}
use Rattle.safl_net.specs.Mirrors.{Alike, Mirrors, ShowsCycle}

unfoldable pub numbers_of_inputs : List Signal → Valuation → List ℕ
numbers_of_inputs [] v = []
numbers_of_inputs (g ∷ gs) [] = []
numbers_of_inputs (g ∷ gs) (w ∷ ws) = with_input g.kind w (numbers_of_inputs gs ws)

-- the cycles of a run from a state, in which the inputs have these numbers
abbrev pub Goes : Netlist → (ℕ → ℕ) → List (List ℕ) → List Valuation → Type 0
Goes n state [] [] = Unit {0}
Goes n state [] (v ∷ vs) = ⊥
Goes n state (is ∷ given) [] = ⊥
Goes n state (is ∷ given) (v ∷ vs) = Fits n state v × (numbers_of_inputs n.signals v ≡ is) × Goes n (next_state n v) given vs

-- cycle by cycle, the second net shows what the first does
abbrev pub AllShow : Netlist → Netlist → List Valuation → List Valuation → Type 0
AllShow n m [] [] = Unit {0}
AllShow n m [] (w ∷ ws) = ⊥
AllShow n m (v ∷ vs) [] = ⊥
AllShow n m (v ∷ vs) (w ∷ ws) = ShowsCycle n m v w × AllShow n m vs ws

-- for every list of inputs, in each cycle from reset, all signals but temporary wires have the same number in both nets
abbrev pub RunsAlike : Netlist → Netlist → Type 0
RunsAlike n m = (given : List (List ℕ)) (vs ws : List Valuation) → Goes n (reset_state n) given vs → Goes m (reset_state m) given ws → AllShow n m vs ws

-- if a net mirrors another in each single cycle, their runs are alike
abbrev pub MirrorsRunAlike : Type 0
MirrorsRunAlike = (n m : Netlist) → IsNetlist n → IsNetlist m → IsTidy n → AllSet n → IsAcyclic n → Alike n m → Mirrors n m → RunsAlike n m
