-- How many signals a circuit has at most.
use Rattle.safl_unit.proofs.Common.{CheckedProgram, Choice, HasRoom, IsChecked, Netlist, length-map}
use Rattle.std.proofs.Common.{◌≡◌, ℕ, suc, ◌+◌, ◌*◌, ◌≤◌, map, ◌++◌, length, length-append, ap, arith}
use Rattle.std.specs.Prelude.{codes, [], ◌∷◌}
use Rattle.safl_circuit.specs.Layout.{lines, site_lines, unit_lines, function_wires, site_wires, layout_inputs, layout_registers, layout_wires}
use Rattle.safl_unit.specs.Finished.{input_line, open_register, open_wire, declared_signals, declared_net}
use Rattle.safl_unit.proofs.layout.Declaring.{param_lines_long}
use Rattle.safl_unit.proofs.layout.Pinning.{few_below, few_sites, body_wires_count, few_calls}
use Rattle.safl_unit.proofs.layout.Ordering.{units_in_order}

-- ---- the ports, registers and named wires

pub declared_few : (c : CheckedProgram) → IsChecked c → (P : Choice) → length (declared_signals c.program c.names P) ≤ 17 + 22 * c.program.functions + 7 * c.program.sites + 8
declared_few c h P =
    let C = c.program in
    let D = c.names in
    let a = length-append (map input_line (layout_inputs C D)) (map open_register (layout_registers C D P) ++ map open_wire (layout_wires C D P)) in
    let b = length-append (map open_register (layout_registers C D P)) (map open_wire (layout_wires C D P)) in
    let d = length-map (layout_inputs C D) input_line in
    let e = length-map (layout_registers C D P) open_register in
    let f = length-map (layout_wires C D P) open_wire in
    let g = param_lines_long c C.main (λ x. codes "in$" ++ x) in
    let i = h.limits.params C.main in
    let j = length-append (lines (unit_lines C D) C.functions) (lines (site_lines C P) (suc C.sites)) in
    let k = ap length (units_in_order c h) in
    let l = few_below c h C.functions in
    let m = few_sites C P (suc C.sites) in
    let n = length-append (lines (function_wires D) C.functions) (lines (site_wires C P) (suc C.sites) ++ (codes "go$main", 1) ∷ []) in
    let o = length-append (lines (site_wires C P) (suc C.sites)) ((codes "go$main", 1) ∷ []) in
    let p = body_wires_count D C.functions in
    let q = few_calls C P (suc C.sites) in
    omega (arith, a, b, d, e, f, g, i, j, k, l, m, n, o, p, q)

-- ---- room

-- a net that is built on the declared one, and not too large
pub room_for : (c : CheckedProgram) → IsChecked c → (P : Choice) (old new : Netlist) (k m : ℕ) → old ≡ declared_net c.program c.names P →
    length new.signals ≤ length old.signals + k → k + m ≤ 2900000 → HasRoom new m
room_for c h P old new k m e l few =
    let a = ap (λ (n : Netlist). length n.signals) e in
    let b = declared_few c h P in
    let d = h.limits.functions in
    let f = h.limits.sites in
    omega (arith, a, b, d, f, l, few)
