-- The net that is declared, and its pins.
use Rattle.safl_unit.proofs.Common.{CheckedProgram, Choice, IsChecked, Names, Netlist, Pins, Program, Sig, Signal, arity, codes, map-append}
use Rattle.std.proofs.Common.{◌≡◌, ℕ, suc, ◌+◌, ◌≤◌, List, [], ◌∷◌, ◌++◌, map, length, length-append, sym, ap, ◌∙◌, arith, append_assoc}
use Rattle.safl_circuit.specs.Layout.{lines, site_lines, layout_inputs, layout_registers, layout_wires}
use Rattle.safl_unit.specs.Finished.{input_line, open_register, open_wire, declared_net, ArePins}
use Rattle.safl_unit.specs.Ties.{sig_of, ties, numbered, function_ties, site_ties}
use Rattle.safl_unit.specs.Declaring.{with_signals, function_lines, port_lines, FunctionsPinned, SitesPinned}
use Rattle.safl_unit.proofs.layout.Declaring.{lines_on, lines_count, numbered_more, param_lines_long}
use Rattle.safl_unit.proofs.layout.Pinning.{functions_count, few_sites}
use Rattle.safl_unit.proofs.layout.Ordering.{units_in_order}

sig_is : (s : Sig) (n : ℕ) → s.0 ≡ n → s ≡ record { 0 = n }
sig_is s n e = ap (λ (x : ℕ). record { 0 = x }) e

-- the net after its inputs, the registers of functions and of sites, and the named wires
module _ (c : CheckedProgram) (checked : IsChecked c) (P : Choice) (n a b d e g : Netlist)
    (none : n ≡ record { signals = []; outputs = [] })
    (start : a ≡ with_signals n (input_line (codes "start", 1) ∷ []))
    (ports : b ≡ with_signals a (map input_line (port_lines c.program c.names c.program.main)))
    (functions : d ≡ with_signals b (map open_register (lines (function_lines c.program c.names) c.program.functions)))
    (sites : e ≡ with_signals d (map open_register (lines (site_lines c.program P) (suc c.program.sites))))
    (wires : g ≡ with_signals e (map open_wire (layout_wires c.program c.names P))) where
  abbrev C : Program
  C = c.program

  abbrev D : Names
  D = c.names

  inputs_are : b ≡ with_signals n (map input_line (layout_inputs C D))
  inputs_are = lines_on n a b input_line ((codes "start", 1) ∷ []) (port_lines C D C.main) start ports

  registers_are : e ≡ with_signals b (map open_register (layout_registers C D P))
  registers_are =
      lines_on b d e open_register (lines (function_lines C D) C.functions) (lines (site_lines C P) (suc C.sites)) functions sites
      ∙ ap (λ l. with_signals b (map open_register (l ++ lines (site_lines C P) (suc C.sites)))) (sym (units_in_order c checked))

  pub net_declared : g ≡ declared_net C D P
  net_declared =
      wires
      ∙ ap (λ (m : Netlist). with_signals m (map open_wire (layout_wires C D P)))
      (registers_are ∙ ap (λ (m : Netlist). with_signals m (map open_register (layout_registers C D P)))
      (inputs_are ∙ ap (λ (m : Netlist). with_signals m (map input_line (layout_inputs C D))) none))
      ∙ ap (λ (l : List Signal). record { signals = l; outputs = [] })
      (append_assoc (map input_line (layout_inputs C D)) (map open_register (layout_registers C D P)) (map open_wire (layout_wires C D P)))

  none_long : length n.signals ≡ 0
  none_long = ap (λ (m : Netlist). length m.signals) none

  pub inputs_long : length b.signals ≡ length (layout_inputs C D)
  inputs_long = let q = lines_count n b input_line (layout_inputs C D) inputs_are in let z = none_long in omega (arith, q, z)

  pub registers_long : length e.signals ≡ length b.signals + length (layout_registers C D P)
  registers_long = lines_count b e open_register (layout_registers C D P) registers_are

  pub pins_are : (p : Pins) → p.start.0 ≡ length n.signals → p.words.items ≡ numbered (length a.signals) (arity C C.main) → p.first_register ≡ length b.signals → p.first_wire ≡ length e.signals
      → FunctionsPinned C D (length b.signals) C.functions p.bank.units.items p.bank.members.items
      → SitesPinned C P (length d.signals) (suc C.sites) p.bank.units.items p.bank.sites.items → ArePins C D P p
  pins_are p s w r x fs ss =
      let z = none_long in
      let one = lines_count n a input_line ((codes "start", 1) ∷ []) start in
      let l1 = lines (function_lines C D) C.functions in
      let l2 = lines (site_lines C P) (suc C.sites) in
      let t1 = ties (function_ties C D p.bank.units.items p.bank.members.items) C.functions in
      let t2 = ties (site_ties C P p.bank.sites.items) (suc C.sites) in
      let more = lines_count b d open_register l1 functions in
      record {
        start = sig_is p.start 0 (s ∙ z);
        words = w ∙ ap (λ y. numbered y (arity C C.main)) (omega (arith, one, z));
        first_register = r ∙ inputs_long;
        first_wire = x ∙ registers_long ∙ ap (λ y. y + length (layout_registers C D P)) (sym r);
        registers =
            map-append sig_of t1 t2
            ∙ ap (λ l. l ++ map sig_of t2) fs.order
            ∙ ap (λ l. numbered (length b.signals) (length l1) ++ l) (ss.order ∙ ap (λ y. numbered y (length l2)) more)
            ∙ sym (numbered_more (length b.signals) (length l1) (length l2))
            ∙ ap (λ y. numbered (length b.signals) y) (sym (length-append l1 l2) ∙ ap (λ l. length (l ++ l2)) (sym (units_in_order c checked)))
            ∙ ap (λ y. numbered y (length (layout_registers C D P))) (sym r);
        units_length = fs.units_length;
        members_length = fs.members_length;
        sites_length = ss.sites_length;
        unit = fs.unit;
        args = fs.args;
        lone = fs.lone;
        spare = ss.spare;
      }

-- how many signals there are on the way
pub inputs_few : (c : CheckedProgram) → IsChecked c → (f : ℕ) (n a b : Netlist) → n ≡ record { signals = []; outputs = [] } → a ≡ with_signals n (input_line (codes "start", 1) ∷ [])
    → b ≡ with_signals a (map input_line (port_lines c.program c.names f)) → length b.signals ≤ 17
inputs_few c h f n a b none start ports =
    let z = ap (λ (m : Netlist). length m.signals) none in
    let p = lines_count n a input_line ((codes "start", 1) ∷ []) start in
    let q = lines_count a b input_line (port_lines c.program c.names f) ports in
    let l = param_lines_long c f (λ x. codes "in$" ++ x) in
    let k = h.limits.params f in
    omega (arith, z, p, q, l, k)

pub registers_few : (c : CheckedProgram) → IsChecked c → (b d : Netlist) → length b.signals ≤ 17
    → d ≡ with_signals b (map open_register (lines (function_lines c.program c.names) c.program.functions)) → length d.signals ≤ 20017
registers_few c h b d l e =
    let a = functions_count c h b d c.program.functions e in
    let k = h.limits.functions in
    omega (arith, a, k, l)

pub sites_few : (c : CheckedProgram) → IsChecked c → (P : Choice) (d e : Netlist) → length d.signals ≤ 20017
    → e ≡ with_signals d (map open_register (lines (site_lines c.program P) (suc c.program.sites))) → length e.signals ≤ 32020
sites_few c h P d e l q =
    let a = lines_count d e open_register (lines (site_lines c.program P) (suc c.program.sites)) q in
    let b = few_sites c.program P (suc c.program.sites) in
    let k = h.limits.sites in
    omega (arith, a, b, k, l)
