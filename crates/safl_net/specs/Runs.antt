-- Runs of a netlist, with one valuation for each cycle.
use Rattle.std.specs.Prelude.{◌≡◌, ℕ, List, [], ◌∷◌, Bool, true, false, cond, codes}
use Rattle.std.specs.Str.{bytes_eq}
use Rattle.safl_net.specs.Netlist.{Netlist, Signal, Kind, Input}
use Rattle.safl_net.specs.Valuations.{Valuation, Fits, read, reset_state, next_state}

-- whether a signal is an input other than `start`
abbrev pub is_argument : List ℕ → Kind → Bool
is_argument name Input = cond (bytes_eq name (codes "start")) false true
is_argument name _ = false

-- the numbers of the inputs other than `start`, in order
unfoldable pub input_numbers : List Signal → Valuation → List ℕ
input_numbers [] v = []
input_numbers (g ∷ gs) [] = []
input_numbers (g ∷ gs) (w ∷ ws) = cond (is_argument g.name g.kind) (w ∷ input_numbers gs ws) (input_numbers gs ws)

abbrev pub start_number : Netlist → Valuation → ℕ
start_number n v = read n v (codes "start")

-- the cycles of a run after the first one, from a state: `start` is 0, and the other inputs are free
abbrev pub GoesOn : Netlist → (ℕ → ℕ) → List Valuation → Type 0
GoesOn n state [] = Unit {0}
GoesOn n state (v ∷ vs) = Fits n state v × (start_number n v ≡ 0) × GoesOn n (next_state n v) vs

-- a run from a state: in its first cycle `start` is 1 and the other inputs hold the arguments
abbrev pub RunFrom : Netlist → (ℕ → ℕ) → List ℕ → List Valuation → Type 0
RunFrom n state args [] = Unit {0}
RunFrom n state args (v ∷ vs) = Fits n state v × (start_number n v ≡ 1) × (input_numbers n.signals v ≡ args) × GoesOn n (next_state n v) vs

-- a run from reset
abbrev pub Run : Netlist → List ℕ → List Valuation → Type 0
Run n args vs = RunFrom n (reset_state n) args vs
