-- The lines of a circuit's layout, each with a signal.
use Rattle.std.specs.Prelude.{ℕ, zero, suc, ◌+◌, ◌*◌, List, [], ◌∷◌, ◌++◌, map, length, Option, Some, None, cond, ◌==◌, nat_lt, slice_get, codes}
use Rattle.safl_term.specs.Names.{Names}
use Rattle.safl_sites.specs.Plan.{Choice}
use Rattle.safl_term.specs.Program.{Program, unit_for}
use Rattle.safl_net.specs.declared.cell.Sig.{Sig}
use Rattle.safl_circuit.specs.Equations.{many}
use Rattle.safl_circuit.specs.Names.{of_function, of_site, of_param}
use Rattle.safl_circuit.specs.Layout.{Line, lines, named, site_wires}
use Rattle.safl_lower.specs.Tables.{pin}
use Rattle.safl_unit.specs.declared.pins.UnitPins.{UnitPins}
use Rattle.safl_unit.specs.declared.pins.MemberPins.{MemberPins}
use Rattle.safl_unit.specs.declared.pins.SitePins.{SitePins}
use Rattle.safl_unit.specs.declared.pins.Bank.{Bank}
use Rattle.safl_unit.specs.declared.pins.Controls.{Controls}

-- a line and the signal that is tied to it
abbrev pub Tie : Type 0
Tie = Line × Sig

abbrev pub line_of : Tie → Line
line_of t = t.0

abbrev pub sig_of : Tie → Sig
sig_of t = t.1

-- the ties of the numbers below n, in order
unfoldable pub ties : (ℕ → List Tie) → ℕ → List Tie
ties g zero = []
ties g (suc n) = ties g n ++ g n

-- each line with its signal
abbrev pub tied : List Line → List Sig → List Tie
tied [] ss = []
tied (l ∷ ls) [] = []
tied (l ∷ ls) (s ∷ ss) = (l, s) ∷ tied ls ss

-- `count` signals, numbered from this one on
abbrev pub numbered : ℕ → ℕ → List Sig
numbered s zero = []
numbered s (suc n) = record { 0 = s } ∷ numbered (suc s) n

-- the registers of a unit, at its first function
abbrev pub unit_ties : Program → Names → ℕ → Option UnitPins → List Tie
unit_ties C D f None = []
unit_ties C D f (Some u) =
    cond (C.unit f == f)
    (((of_function D (codes "run$") f, 1), u.run)
    ∷ ((of_function D (codes "fin$") f, 1), u.fin)
    ∷ ((of_function D (codes "res$") f, C.result f), u.res)
    ∷ [])
    []

-- the registers of a function
abbrev pub member_ties : Program → Names → ℕ → Option MemberPins → List Tie
member_ties C D f None = []
member_ties C D f (Some m) =
    cond (many C f) (((of_function D (codes "at$") f, 1), m.at) ∷ []) []
    ++ tied (named (map (of_param D f) (D.params f)) (C.params f)) m.args.items

abbrev pub function_ties : Program → Names → List UnitPins → List MemberPins → ℕ → List Tie
function_ties C D us ms f = unit_ties C D f (slice_get us f) ++ member_ties C D f (slice_get ms f)

abbrev pub call_registers : Program → Choice → ℕ → Option SitePins → List Tie
call_registers C P k None = []
call_registers C P k (Some s) =
    cond (nat_lt 0 k)
    (((of_site (codes "sent$") k, 1), s.sent)
    ∷ ((of_site (codes "got$") k, 1), s.got)
    ∷ cond (P.kept k) (((of_site (codes "keep$") k, C.result (C.callee k)), s.keep) ∷ []) [])
    []

abbrev pub site_ties : Program → Choice → List SitePins → ℕ → List Tie
site_ties C P ss k = call_registers C P k (slice_get ss k)

-- all registers, in order
abbrev pub register_ties : Program → Names → Choice → Bank → List Tie
register_ties C D P b = ties (function_ties C D b.units.items b.members.items) C.functions ++ ties (site_ties C P b.sites.items) (suc C.sites)

-- the number of the wire want$k, if the named wires begin with this number
abbrev pub want_wire : Program → Choice → ℕ → ℕ → ℕ
want_wire C P first k = first + (2 * C.functions + length (lines (site_wires C P) k))

-- the named wires of a function; and of a site. If its unit has no arbiter, go$k copies want$k itself
abbrev pub body_ties : Names → Controls → ℕ → List Tie
body_ties D T f =
    ((of_function D (codes "end$") f, 1), pin T.ends.items f)
    ∷ ((of_function D (codes "loop$") f, 1), pin T.loops.items f)
    ∷ []

abbrev pub call_ties : Program → Choice → ℕ → Controls → ℕ → List Tie
call_ties C P first T k =
    cond (nat_lt 0 k)
    (((of_site (codes "want$") k, 1), pin T.wants.items k)
    ∷ ((of_site (codes "ret$") k, 1), pin T.rets.items k)
    ∷ (cond (P.arbiter (unit_for C k)) (((of_site (codes "arb$") k, 1), pin T.goes.items k) ∷ []) []
    ++ ((of_site (codes "go$") k, 1), cond (P.arbiter (unit_for C k)) (pin T.goes.items k) (record { 0 = want_wire C P first k }))
    ∷ []))
    []

-- all named wires, in order
abbrev pub wire_ties : Program → Names → Choice → ℕ → Controls → List Tie
wire_ties C D P first T =
    ties (body_ties D T) C.functions ++ (ties (call_ties C P first T) (suc C.sites) ++ ((codes "go$main", 1), pin T.goes.items 0) ∷ [])
