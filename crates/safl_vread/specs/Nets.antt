-- The net that is made of declarations and what drives them.
use Rattle.std.specs.Prelude.{◌≡◌, ℕ, zero, suc, ◌<◌, List, [], ◌∷◌, ◌++◌, map, length, All, Option, Some, None, true, false, ◌||◌, slice_get, slice_index, if◌then◌else◌}
use Rattle.safl_net.specs.Netlist.{Netlist, Signal, Kind, Input, Reg, Wire, width_of, open_kind}
use Rattle.safl_net.specs.Names.{is_good, named_signal}
use Rattle.safl_net.specs.Widths.{op_width}
use Rattle.safl_verilog.specs.declared.token.Sort.{Sort}
use Rattle.safl_verilog.specs.declared.token.Sort.TheVariants as sorts
use Rattle.safl_verilog.specs.Files.{Declaration}
use Rattle.safl_verilog.specs.Faults.{is_output, is_signal, range_width, width_in}
use Rattle.safl_vread.specs.declared.driver.Operands.TheVariants as operand
use Rattle.safl_vread.specs.declared.driver.Driver.{Driver}
use Rattle.safl_vread.specs.declared.driver.Driver.TheVariants as driver
use Rattle.safl_vread.specs.Drivers.{places_of}

-- a declaration of this sort and width has a driver that fits it, with places below this number
abbrev pub Fits : ℕ → Sort → ℕ → Driver → Type 0
Fits count sorts.Input width v = Unit {0}
Fits count sorts.Output width (driver.Cell op (operand.One p)) = p < count
Fits count sorts.Output width _ = ⊥
Fits count sorts.Reg width (driver.Next w p) = (w.width ≡ width) × (p < count)
Fits count sorts.Reg width _ = ⊥
Fits count sorts.Wire width (driver.Cell op xs) = All (λ p. p < count) (places_of xs)
Fits count sorts.Wire width _ = ⊥

abbrev pub AllFit : List Declaration → List Driver → Type 0
AllFit ds vs = (i : ℕ) (d : Declaration) (v : Driver) → slice_get ds i ≡ Some d → slice_get vs i ≡ Some v → Fits (length ds) d.sort (range_width d.range) v

-- the declaration at a place is that of a signal
pub record IsSignalAt (ds : List Declaration) (p : ℕ) : Type 0 where
  pub declared : Declaration
  pub there : slice_get ds p ≡ Some declared
  pub fit : is_signal declared ≡ true

abbrev pub AreSignalsAt : List Declaration → List ℕ → Type 0
AreSignalsAt ds [] = Unit {0}
AreSignalsAt ds (p ∷ ps) = IsSignalAt ds p × AreSignalsAt ds ps

abbrev pub width_at : List Declaration → ℕ → ℕ
width_at ds p = width_in (slice_get ds p)

-- an operation works on signals and has this width, and a next signal has this width
abbrev pub Suits : List Declaration → ℕ → Driver → Type 0
Suits ds width driver.Open = Unit {0}
Suits ds width (driver.Cell op xs) = AreSignalsAt ds (places_of xs) × (op_width op (map (width_at ds) (places_of xs)) ≡ Some width)
Suits ds width (driver.Next w p) = IsSignalAt ds p × (width_at ds p ≡ width)

abbrev pub AllSuit : List Declaration → List Driver → Type 0
AllSuit ds vs = (i : ℕ) (d : Declaration) (v : Driver) → slice_get ds i ≡ Some d → slice_get vs i ≡ Some v → Suits ds (range_width d.range) v

-- an operation works on signals of the net and has this width, and a next signal has this width
abbrev pub SuitsIn : Netlist → List ℕ → ℕ → Driver → Type 0
SuitsIn n ns s driver.Open = Unit {0}
SuitsIn n ns s (driver.Cell op xs) = op_width op (map (λ p. width_of n (slice_index ns p)) (places_of xs)) ≡ Some (width_of n s)
SuitsIn n ns s (driver.Next w p) = width_of n (slice_index ns p) ≡ width_of n s

-- the names of signals and outputs are good
abbrev pub GoodNames : List Declaration → Type 0
GoodNames ds = (i : ℕ) (d : Declaration) → slice_get ds i ≡ Some d → (is_signal d || is_output d.sort) ≡ true → is_good d.name.bytes ≡ true

-- no output has the name of one of these signals
abbrev pub HasNewOutputs : List Declaration → List Signal → Type 0
HasNewOutputs ds gs =
    (i : ℕ) → (d : Declaration) → slice_get ds i ≡ Some d → is_output d.sort ≡ true → named_signal gs d.name.bytes ≡ false

-- the kind of a signal of this sort, given the numbers of the signals at places
abbrev pub kind_with : List ℕ → Sort → Driver → Kind
kind_with ns sorts.Input v = Input
kind_with ns sorts.Output v = Input
kind_with ns sorts.Reg (driver.Next w p) = Reg w.bits (Some (slice_index ns p))
kind_with ns sorts.Reg _ = Input
kind_with ns sorts.Wire (driver.Cell op xs) = Wire (Some (record { op = op; operands = map (slice_index ns) (places_of xs) }))
kind_with ns sorts.Wire _ = Wire None

abbrev pub opened : Signal → Signal
opened g = record { name = g.name; width = g.width; kind = open_kind g.kind }

abbrev pub signal_with : List ℕ → Declaration → Driver → Signal
signal_with ns d v = record { name = d.name.bytes; width = range_width d.range; kind = kind_with ns d.sort v }

abbrev pub signal_in : List ℕ → Option Declaration → Option Driver → Signal
signal_in ns (Some d) (Some v) = signal_with ns d v
signal_in ns _ _ = record { name = []; width = 0; kind = Input }

-- the signal at a place
abbrev pub signal_at : List Declaration → List Driver → List ℕ → ℕ → Signal
signal_at ds vs ns p = signal_in ns (slice_get ds p) (slice_get vs p)

-- the signals at some places
abbrev pub signals_at : List Declaration → List Driver → List ℕ → List ℕ → List Signal
signals_at ds vs ns order = map (signal_at ds vs ns) order

-- the first `count` signals are set, and the others are not
abbrev pub partly : ℕ → List Signal → List Signal
partly zero gs = map opened gs
partly (suc s) [] = []
partly (suc s) (g ∷ gs) = g ∷ partly s gs

-- the number of the signal that an output with this driver shows
abbrev pub shown_with : List ℕ → Driver → ℕ
shown_with ns (driver.Cell op (operand.One p)) = slice_index ns p
shown_with ns _ = 0

abbrev pub output_with : List ℕ → Declaration → Driver → List (List ℕ × ℕ)
output_with ns d v = if is_output d.sort then (d.name.bytes, shown_with ns v) ∷ [] else []

-- the outputs of some declarations
abbrev pub outputs_with : List ℕ → List Declaration → List Driver → List (List ℕ × ℕ)
outputs_with ns [] vs = []
outputs_with ns (d ∷ ds) [] = []
outputs_with ns (d ∷ ds) (v ∷ vs) = output_with ns d v ++ outputs_with ns ds vs

-- a net with more outputs
abbrev pub with_outputs : Netlist → List (List ℕ × ℕ) → Netlist
with_outputs n os = record { signals = n.signals; outputs = n.outputs ++ os }
