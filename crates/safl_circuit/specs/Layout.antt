-- The layout of a circuit: its ports, registers and named wires, in their order, with their widths.
use Rattle.std.specs.Prelude.{ℕ, zero, suc, ◌<◌, ◌≤◌, List, [], ◌∷◌, ◌++◌, map, length, Some, false, cond, ◌==◌, nat_lt, codes, slice_get, ◌≡◌, ◌⊎◌}
use Rattle.safl_term.specs.Names.{Names}
use Rattle.safl_sites.specs.Plan.{Choice}
use Rattle.std.specs.Fmt.{decimal}
use Rattle.std.specs.List.{zip}
use Rattle.safl_term.specs.Program.{Program, unit_for}
use Rattle.safl_circuit.specs.Equations.{many}
use Rattle.safl_net.specs.declared.cell.Op.TheVariants.{Copy}
use Rattle.safl_net.specs.Netlist.{Netlist, Signal, Kind, Input, Reg, Wire, place, width_of}
use Rattle.safl_circuit.specs.Names.{of_function, of_site, of_param, is_unit}

-- a name and a width
abbrev pub Line : Type 0
Line = List ℕ × ℕ

-- the lines of the numbers below n, in order
unfoldable pub lines : (ℕ → List Line) → ℕ → List Line
lines g zero = []
lines g (suc n) = lines g n ++ g n

-- the registers of a function: `at` if its unit has other functions, and one for each parameter
abbrev pub member_lines : Program → Names → ℕ → ℕ → List Line
member_lines C D u f =
    cond (C.unit f == u)
    (cond (many C f) ((of_function D (codes "at$") f, 1) ∷ []) []
    ++ zip (map (of_param D f) (D.params f)) (C.params f))
    []

-- the registers of a unit: run, fin and res, then those of its functions
abbrev pub unit_lines : Program → Names → ℕ → List Line
unit_lines C D u =
    cond (is_unit C u)
    ((of_function D (codes "run$") u, 1)
    ∷ (of_function D (codes "fin$") u, 1)
    ∷ (of_function D (codes "res$") u, C.result u)
    ∷ lines (member_lines C D u) C.functions)
    []

-- the registers of a site: sent and got, and keep if it is kept
abbrev pub site_lines : Program → Choice → ℕ → List Line
site_lines C P k =
    cond (nat_lt 0 k)
    ((of_site (codes "sent$") k, 1)
    ∷ (of_site (codes "got$") k, 1)
    ∷ cond (P.kept k) ((of_site (codes "keep$") k, C.result (C.callee k)) ∷ []) [])
    []

-- all registers: those of the units in order, then those of the sites
abbrev pub layout_registers : Program → Names → Choice → List Line
layout_registers C D P = lines (unit_lines C D) C.functions ++ lines (site_lines C P) (suc C.sites)

-- the named wires of a function; and those of a site, with arb if its unit has an arbiter
abbrev pub function_wires : Names → ℕ → List Line
function_wires D f = (of_function D (codes "end$") f, 1) ∷ (of_function D (codes "loop$") f, 1) ∷ []

abbrev pub site_wires : Program → Choice → ℕ → List Line
site_wires C P k =
    cond (nat_lt 0 k)
    ((of_site (codes "want$") k, 1)
    ∷ (of_site (codes "ret$") k, 1)
    ∷ (cond (P.arbiter (unit_for C k)) ((of_site (codes "arb$") k, 1) ∷ []) []
    ++ (of_site (codes "go$") k, 1)
    ∷ []))
    []

-- all named wires: those of the functions in order, those of the sites, and main's go
abbrev pub layout_wires : Program → Names → Choice → List Line
layout_wires C D P = lines (function_wires D) C.functions ++ (lines (site_wires C P) (suc C.sites) ++ (codes "go$main", 1) ∷ [])

-- the line of a signal if it is of a kind
abbrev pub input_kind : Line → Kind → List Line
input_kind l Input = l ∷ []
input_kind l _ = []

abbrev pub register_kind : Line → Kind → List Line
register_kind l (Reg init next) = l ∷ []
register_kind l _ = []

abbrev pub wire_kind : Line → Kind → List Line
wire_kind l (Wire cell) = l ∷ []
wire_kind l _ = []

-- the lines of all signals of a kind, in order
unfoldable pub each_line : (Line → Kind → List Line) → List Signal → List Line
each_line f [] = []
each_line f (g ∷ gs) = f (g.name, g.width) g.kind ++ each_line f gs

-- the outputs with the widths of their signals
abbrev pub output_lines : Netlist → List Line
output_lines n = map (λ o. (o.0, width_of n o.1)) n.outputs

-- the line is in the list
abbrev pub IsLineOf : Line → List Line → Type 0
IsLineOf x [] = ⊥
IsLineOf x (y ∷ ys) = (y ≡ x) ⊎ IsLineOf x ys

-- the wires after the named ones. The one at place i among all wires has the name `n$` and i
abbrev pub temporaries : ℕ → List ℕ → List Line
temporaries i [] = []
temporaries i (w ∷ ws) = (codes "n$" ++ decimal i, w) ∷ temporaries (suc i) ws

-- the signal with the one name is a copy of the signal with the other
pub record IsCopy (n : Netlist) (name from : List ℕ) : Type 0 where
  pub number : ℕ
  pub signal : Signal
  pub source : ℕ
  pub named : place n.signals name 0 ≡ Some number
  pub there : slice_get n.signals number ≡ Some signal
  pub source_named : place n.signals from 0 ≡ Some source
  pub copied : signal.kind ≡ Wire (Some (record { op = Copy; operands = source ∷ [] }))

-- The registers are exactly those of the layout. The wires begin with the named ones, and all other wires are temporaries. A site
-- whose unit has no arbiter starts by a copy of its want.
pub record HasPlan (C : Program) (D : Names) (P : Choice) (n : Netlist) : Type 0 where
  pub registers : each_line register_kind n.signals ≡ layout_registers C D P
  pub widths : List ℕ
  pub wires : each_line wire_kind n.signals ≡ layout_wires C D P ++ temporaries (length (layout_wires C D P)) widths
  pub direct : (k : ℕ) → 0 < k → k ≤ C.sites → P.arbiter (unit_for C k) ≡ false → IsCopy n (of_site (codes "go$") k) (of_site (codes "want$") k)

-- ---- parts by name

-- names with their widths
abbrev pub named : List (List ℕ) → List ℕ → List Line
named xs ws = zip xs ws

-- the inputs: `start`, and a port for each parameter of main
abbrev pub layout_inputs : Program → Names → List Line
layout_inputs C D = (codes "start", 1) ∷ named (map (λ x. codes "in$" ++ x) (D.params C.main)) (C.params C.main)

-- the outputs of a circuit
abbrev pub layout_outputs : Program → List Line
layout_outputs C = (codes "done", 1) ∷ (codes "result", C.result C.main) ∷ []
