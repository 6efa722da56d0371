-- The lines of a circuit, in the order in which they are declared.
use Rattle.std.specs.Prelude.{◌≡◌, ℕ, suc, ◌<◌, List, [], ◌∷◌, ◌++◌, map, length, Some, None, false, cond, ◌==◌, codes, slice_get}
use Rattle.safl_term.specs.Names.{Names}
use Rattle.safl_sites.specs.Plan.{Choice}
use Rattle.safl_term.specs.Program.{Program, unit_for}
use Rattle.safl_net.specs.declared.cell.Sig.{Sig}
use Rattle.safl_net.specs.Netlist.{Netlist, Signal}
use Rattle.safl_net.specs.Making.{refusal}
use Rattle.safl_circuit.specs.Equations.{many}
use Rattle.safl_circuit.specs.Names.{of_function, of_param, of_site}
use Rattle.safl_circuit.specs.Layout.{Line, lines, named, site_lines, site_wires}
use Rattle.safl_lower.specs.Tables.{EachAt}
use Rattle.safl_unit.specs.declared.pins.UnitPins.{UnitPins}
use Rattle.safl_unit.specs.declared.pins.MemberPins.{MemberPins}
use Rattle.safl_unit.specs.declared.pins.SitePins.{SitePins}
use Rattle.safl_unit.specs.Ties.{sig_of, numbered, unit_ties, member_ties, function_ties, site_ties, call_registers, ties}

-- a net with more signals
abbrev pub with_signals : Netlist → List Signal → Netlist
with_signals n gs = record { signals = n.signals ++ gs; outputs = n.outputs }

-- each of these signals may be added after those before it: the net does not refuse its name
pub record MayAdd (n : Netlist) (gs : List Signal) : Type 0 where
  pub each : (before after : List Signal) (g : Signal) → gs ≡ before ++ g ∷ after → refusal (with_signals n before) g.name ≡ None

-- the registers that are declared with a function: those of its unit if it is the unit's first function, and its own
abbrev pub unit_head : Program → Names → ℕ → List Line
unit_head C D f =
    cond (C.unit f == f)
    ((of_function D (codes "run$") f, 1)
    ∷ (of_function D (codes "fin$") f, 1)
    ∷ (of_function D (codes "res$") f, C.result f)
    ∷ [])
    []

abbrev pub at_line : Program → Names → ℕ → List Line
at_line C D f = cond (many C f) ((of_function D (codes "at$") f, 1) ∷ []) []

abbrev pub argument_lines : Program → Names → ℕ → List Line
argument_lines C D f = named (map (of_param D f) (D.params f)) (C.params f)

abbrev pub function_lines : Program → Names → ℕ → List Line
function_lines C D f = unit_head C D f ++ (at_line C D f ++ argument_lines C D f)

-- the registers of all functions
abbrev pub own_lines : Program → Names → List Line
own_lines C D = lines (function_lines C D) C.functions

-- the registers of a unit, and the register `at` of a function, if the next signal has this number
abbrev pub UnitPinned : Program → Names → ℕ → ℕ → UnitPins → Type 0
UnitPinned C D f next u = map sig_of (unit_ties C D f (Some u)) ≡ numbered next (length (unit_head C D f))

abbrev pub AtPinned : Program → Names → ℕ → ℕ → Sig → Type 0
AtPinned C D f next s = cond (many C f) (s ∷ []) [] ≡ numbered next (length (at_line C D f))

-- the registers of a function, if the next signal has this number
pub record Pinned (C : Program) (D : Names) (f next : ℕ) (before : List UnitPins) (u : UnitPins) (m : MemberPins) : Type 0 where
  pub order : map sig_of (unit_ties C D f (Some u) ++ member_ties C D f (Some m)) ≡ numbered next (length (function_lines C D f))
  pub unit : (C.unit f ≡ f → ⊥) → slice_get before (C.unit f) ≡ Some u
  pub args : length m.args.items ≡ length (C.params f)
  pub lone : many C f ≡ false → m.at ≡ u.run

-- the registers of all functions below f
pub record FunctionsPinned (C : Program) (D : Names) (first f : ℕ) (us : List UnitPins) (ms : List MemberPins) : Type 0 where
  pub units_length : length us ≡ f
  pub members_length : length ms ≡ f
  pub order : map sig_of (ties (function_ties C D us ms) f) ≡ numbered first (length (lines (function_lines C D) f))
  pub unit : (g : ℕ) → g < f → slice_get us g ≡ slice_get us (C.unit g)
  pub args : EachAt ms (λ g m. length m.args.items ≡ length (C.params g))
  pub lone : EachAt ms (λ g m. many C g ≡ false → (u : UnitPins) → slice_get us g ≡ Some u → m.at ≡ u.run)

-- the registers of all functions
abbrev pub AllFunctionsPinned : Program → Names → ℕ → List UnitPins → List MemberPins → Type 0
AllFunctionsPinned C D first us ms = FunctionsPinned C D first C.functions us ms

-- the registers and the named wires of all sites
abbrev pub call_lines : Program → Choice → List Line
call_lines C P = lines (site_lines C P) (suc C.sites)

abbrev pub call_wires : Program → Choice → List Line
call_wires C P = lines (site_wires C P) (suc C.sites)

-- the registers of a site, if the next signal has this number
pub record SitePinned (C : Program) (P : Choice) (k next : ℕ) (us : List UnitPins) (s : SitePins) : Type 0 where
  pub order : map sig_of (call_registers C P k (Some s)) ≡ numbered next (length (site_lines C P k))
  pub spare : P.kept k ≡ false → (u : UnitPins) → slice_get us (C.callee k) ≡ Some u → s.keep ≡ u.res

-- the registers of all sites below k
pub record SitesPinned (C : Program) (P : Choice) (first k : ℕ) (us : List UnitPins) (ss : List SitePins) : Type 0 where
  pub sites_length : length ss ≡ k
  pub order : map sig_of (ties (site_ties C P ss) k) ≡ numbered first (length (lines (site_lines C P) k))
  pub spare : EachAt ss (λ j s. 0 < j → P.kept j ≡ false → (u : UnitPins) → slice_get us (C.callee j) ≡ Some u → s.keep ≡ u.res)

-- the registers of all sites
abbrev pub AllSitesPinned : Program → Choice → ℕ → List UnitPins → List SitePins → Type 0
AllSitesPinned C P first us ss = SitesPinned C P first (suc C.sites) us ss

-- the ports of a function's arguments
abbrev pub port_lines : Program → Names → ℕ → List Line
port_lines C D f = named (map (λ x. codes "in$" ++ x) (D.params f)) (C.params f)

-- the wire with which the arbiter of the called unit grants a site
abbrev pub arbiter_line : Program → Choice → ℕ → List Line
arbiter_line C P k = cond (P.arbiter (unit_for C k)) ((of_site (codes "arb$") k, 1) ∷ []) []
