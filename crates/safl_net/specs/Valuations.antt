-- The meaning of a netlist: a set of equations for each cycle, without an order.
use Rattle.std.specs.Prelude.{◌≡◌, ℕ, ◌<◌, ◌^◌, List, [], ◌∷◌, map, length, Option, Some, slice_get, slice_index}
use Rattle.std.specs.Option.{option_map_or}
use Rattle.safl_word.specs.Words.{Word, no_word, choose}
use Rattle.safl_word.specs.Primitives.{apply_prim}
use Rattle.safl_net.specs.declared.cell.Op.{Op}
use Rattle.safl_net.specs.declared.cell.Op.TheVariants.{Const, Copy, Mux, Apply}
use Rattle.safl_net.specs.Netlist.{Netlist, Signal, Kind, Reg, Wire, Cell, width_of, place, output_place}

-- a valuation has a number for each signal, in the order of the signals
abbrev pub Valuation : Type 0
Valuation = List ℕ

abbrev pub signal_word : Netlist → Valuation → ℕ → Word
signal_word n v s = record { width = width_of n s; bits = slice_index v s }

-- the word of an operation on these words
abbrev pub cell_word : Op → List Word → Word
cell_word (Const w) vs = w
cell_word Copy (a ∷ []) = a
cell_word Mux (c ∷ a ∷ b ∷ []) = choose c a b
cell_word (Apply p) vs = apply_prim p vs
cell_word _ vs = no_word

-- the number that the kind of a signal demands. Inputs and wires without a cell are free
abbrev pub Holds : Netlist → Valuation → ℕ → ℕ → Kind → Type 0
Holds n v state w (Reg init next) = w ≡ state
Holds n v state w (Wire (Some c)) = w ≡ (cell_word c.op (map (signal_word n v) c.operands)).bits
Holds n v state w _ = Unit {0}

-- The valuation fits a state, which has a number for each register: each signal has a number that fits its width, each register
-- its number in the state, and each wire the value of its cell.
pub record Fits (n : Netlist) (state : ℕ → ℕ) (v : Valuation) : Type 0 where
  pub full : length v ≡ length n.signals
  pub each : (s : ℕ) (g : Signal) → slice_get n.signals s ≡ Some g → (slice_index v s < 2 ^ g.width) × Holds n v (state s) (slice_index v s) g.kind

-- the state at reset
abbrev pub kind_reset : Kind → ℕ
kind_reset (Reg init next) = init
kind_reset _ = 0

abbrev pub reset_state : Netlist → ℕ → ℕ
reset_state n s = option_map_or (λ (g : Signal). kind_reset g.kind) (slice_get n.signals s) 0

-- the state after a cycle: each register has the number of its next signal
abbrev pub kind_next : Valuation → Kind → ℕ
kind_next v (Reg init (Some m)) = slice_index v m
kind_next v _ = 0

abbrev pub next_state : Netlist → Valuation → ℕ → ℕ
next_state n v s = option_map_or (λ (g : Signal). kind_next v g.kind) (slice_get n.signals s) 0

-- the number of the signal with a name; and the next number of the register with a name
abbrev pub read : Netlist → Valuation → List ℕ → ℕ
read n v name = option_map_or (λ (s : ℕ). slice_index v s) (place n.signals name 0) 0

abbrev pub read_next : Netlist → Valuation → List ℕ → ℕ
read_next n v name = option_map_or (λ (s : ℕ). next_state n v s) (place n.signals name 0) 0

-- the number of an output
abbrev pub read_output : Netlist → Valuation → List ℕ → ℕ
read_output n v name = option_map_or (λ (s : ℕ). slice_index v s) (output_place n.outputs name) 0

-- the wires can be ranked so that each is above those of its operands that are wires
pub record IsAcyclic (n : Netlist) : Type 0 where
  pub rank : ℕ → ℕ
  pub rises : (s t i : ℕ) (g h : Signal) (c : Cell) (d : Option Cell) → slice_get n.signals s ≡ Some g → g.kind ≡ Wire (Some c)
      → slice_get c.operands i ≡ Some t → slice_get n.signals t ≡ Some h → h.kind ≡ Wire d → rank t < rank s

-- ---- the same of what may be missing

abbrev pub reset_number : Option Signal → ℕ
reset_number o = option_map_or (λ (g : Signal). kind_reset g.kind) o 0

abbrev pub next_number : Valuation → Option Signal → ℕ
next_number v o = option_map_or (λ (g : Signal). kind_next v g.kind) o 0

abbrev pub number_at : Valuation → Option ℕ → ℕ
number_at v o = option_map_or (λ (s : ℕ). slice_index v s) o 0

abbrev pub next_at : Netlist → Valuation → Option ℕ → ℕ
next_at n v o = option_map_or (λ (s : ℕ). next_state n v s) o 0
