-- A circuit that is finished keeps its scheme and has its plan.
use Rattle.safl_unit.proofs.Common.{Agree, AreTemps, Bank, CheckedProgram, Choice, Controls, Cycle, Grows, IsChecked, IsNetlist, Names}
use Rattle.safl_unit.proofs.Common.{Pins, PinsFit, Program, Scheme, Sig, Val, Wired, Wires, Word, append_cancel_left, codes, eqb-false}
use Rattle.safl_unit.proofs.Common.{eqb-true, length-map, lt-ltb, params_named, pin, sources_length, unit_for, wires, words}
use Rattle.std.proofs.Common.{◌≡◌, ℕ, zero, suc, ◌+◌, ◌*◌, ◌<◌, ◌≤◌, List, [], ◌∷◌, ◌++◌, map, length, length-append, Some, Bool, true, false, cond}
use Rattle.std.proofs.Common.{slice_get, nat_lt, ◌==◌, inl, inr, refl, sym, ap, subst, ◌∙◌, arith, append_assoc}
use Rattle.safl_word.proofs.Lists.{get_front, get_map, get_mapped}
use Rattle.safl_net.specs.declared.cell.Op.TheVariants.{Copy}
use Rattle.safl_net.specs.Netlist.{Netlist, Signal, Wire, width_in, width_of}
use Rattle.safl_net.specs.Valuations.{Valuation, Fits, signal_word, read, read_next}
use Rattle.safl_net.proofs.Growth.{width_is, wires_append}
use Rattle.safl_net.proofs.CellWords.{wired_shown}
use Rattle.safl_net.proofs.Reading.{read_output_word, place_of}
use Rattle.safl_circuit.specs.Equations.{Registers, Inputs, next}
use Rattle.safl_circuit.specs.Names.{of_function, of_site, registers_now, registers_next, input_now}
use Rattle.safl_circuit.specs.Layout.{Line, lines, site_wires, each_line, input_kind, register_kind, wire_kind, output_lines, layout_inputs}
use Rattle.safl_circuit.specs.Layout.{layout_registers, layout_wires, layout_outputs, temporaries, IsCopy, HasPlan}
use Rattle.safl_unit.specs.Stages.{HasNext}
use Rattle.safl_unit.specs.Ties.{Tie, line_of, sig_of, numbered, ties, register_ties, want_wire, body_ties, call_ties, wire_ties}
use Rattle.safl_unit.specs.Finished.{input_line, open_register, open_wire, set_register, set_wire, declared_signals, declared_net, ArePins, HasControls, Finishes}
use Rattle.safl_unit.proofs.assembly.Members.{Among, among_left, among_right, among_ties, among_cond}
use Rattle.safl_unit.proofs.layout.Lining.{IsFull, register_lines}
use Rattle.safl_unit.proofs.assembly.Listing.{wire_lines, bodies_long, calls_long}
use Rattle.safl_unit.proofs.assembly.Finishing.{at_made, from_get, TakesNext, registers_from, first_wire_is}
use Rattle.safl_unit.proofs.assembly.Layers.{input_lines, register_lines_of, wire_lines_of, is_set, is_reset, input_words}
use Rattle.safl_unit.proofs.assembly.Reading.{read_is, read_next_is}
use Rattle.safl_unit.proofs.assembly.Viewing.{Reads, firsts_show, bank_shows}
use Rattle.safl_unit.proofs.assembly.Agreeing.{agrees}
use Rattle.safl_unit.proofs.assembly.Wiring.{Copied, wires_hold}

-- ---- entries of lists

among_index : {A : Type 0} (x : A) (xs : List A) → Among x xs → (i : ℕ) × (slice_get xs i ≡ Some x)
among_index x [] h = absurd h
among_index x (y ∷ xs) (inl e) = (0, ap Some e)
among_index x (y ∷ xs) (inr h) = let q = among_index x xs h in (suc q.0, q.1)

number_get : (s n i : ℕ) (x : Sig) → slice_get (numbered s n) i ≡ Some x → x.0 ≡ s + i
number_get s zero i x e = absurd (cc)
number_get s (suc n) zero x e =
    let q : record { 0 = s } ≡ x = cc in
    let r = ap (λ (y : Sig). y.0) q in
    omega (arith, r)
number_get s (suc n) (suc i) x e = let q = number_get (suc s) n i x e in omega (arith, q)

get_past : {A : Type 0} (xs ys : List A) (s i : ℕ) (x : A) → s ≡ length xs + i → slice_get ys i ≡ Some x → slice_get (xs ++ ys) s ≡ Some x
get_past [] ys s i x q e = ap (slice_get ys) (let r : s ≡ i = omega (arith, q) in r) ∙ e
get_past (a ∷ xs) ys zero i x q e = absurd (omega (arith, q))
get_past (a ∷ xs) ys (suc s) i x q e = get_past xs ys s i x (omega (arith, q)) e

-- the first tie of a number
ties_get : (g : ℕ → List Tie) (k n : ℕ) (x : Tie) → k < n → slice_get (g k) 0 ≡ Some x → slice_get (ties g n) (length (ties g k)) ≡ Some x
unfolding ties
ties_get g k zero x l e = absurd (omega (arith, l))
ties_get g k (suc n) x l e = by (k == n) refl (λ m. ties_get g k n x m e)
  where
    by : (b : Bool) → (k == n) ≡ b → (k < n → slice_get (ties g n) (length (ties g k)) ≡ Some x) → slice_get (ties g n ++ g n) (length (ties g k)) ≡ Some x
    by true q again =
        let r = eqb-true k n q in
        ap (λ j. slice_get (ties g n ++ g n) (length (ties g j))) r ∙ get_past (ties g n) (g n) (length (ties g n)) 0 x (omega arith) (ap (λ j. slice_get (g j) 0) (sym r) ∙ e)
    by false q again = let o = eqb-false k n q in get_front (ties g n) (g n) (length (ties g k)) x (again (omega (arith, l, o)))

no_wires : (ls : List Line) → wires (map input_line ls) ≡ 0
no_wires [] = refl
no_wires (l ∷ ls) = let q = no_wires ls in omega (arith, q)

no_register_wires : (ls : List Line) → wires (map open_register ls) ≡ 0
no_register_wires [] = refl
no_register_wires (l ∷ ls) = let q = no_register_wires ls in omega (arith, q)

all_wires : (ls : List Line) → wires (map open_wire ls) ≡ length ls
all_wires [] = refl
all_wires (l ∷ ls) = let q = all_wires ls in omega (arith, q)

module _ (c : CheckedProgram) (h : IsChecked c) (P : Choice) (old new : Netlist) (p : Pins) (b : Bank) (T : Controls) (netlist : IsNetlist new)
    (grown : Grows (declared_net c.program c.names P) old)
    (pins : ArePins c.program c.names P p) (fits : PinsFit c.program old p) (nexts : HasNext c.program P old p b) (controls : HasControls c.program P old p T)
    (f : Finishes c.program c.names P p b T old new) where
  abbrev C : Program
  C = c.program

  abbrev D : Names
  D = c.names

  abbrev rts : List Tie
  rts = register_ties C D P b

  abbrev pts : List Tie
  pts = register_ties C D P p.bank

  abbrev wts : List Tie
  wts = wire_ties C D P p.first_wire T

  abbrev inputs : List Signal
  inputs = map input_line (layout_inputs C D)

  abbrev registers : List Signal
  registers = map set_register rts

  abbrev named : List Signal
  named = map set_wire wts

  count_wires : wires (declared_signals C D P) ≡ length (layout_wires C D P)
  count_wires =
      let a = wires_append inputs (map open_register (layout_registers C D P) ++ map open_wire (layout_wires C D P)) in
      let d = wires_append (map open_register (layout_registers C D P)) (map open_wire (layout_wires C D P)) in
      let e = no_wires (layout_inputs C D) in
      let g = no_register_wires (layout_registers C D P) in
      let i = all_wires (layout_wires C D P) in
      omega (arith, a, d, e, g, i)

  temps : AreTemps (length (layout_wires C D P)) f.more
  temps = subst (λ i. AreTemps i f.more) count_wires (subst (AreTemps (wires (declared_signals C D P)))
      (append_cancel_left (declared_signals C D P) grown.more f.more (sym grown.is ∙ f.before)) grown.temps)

  full : IsFull C b
  full = record {
    units = nexts.fits.units_length;
    members = nexts.fits.members_length;
    sites = nexts.fits.sites_length;
    args = λ g m e. sources_length old m.args.items (C.params g) (nexts.fits.members g m e).args;
  }

  full_pins : IsFull C p.bank
  full_pins = record { units = pins.units_length; members = pins.members_length; sites = pins.sites_length; args = pins.args }

  -- ---- where the registers and named wires stand

  first_long : p.first_register ≡ length inputs
  first_long = pins.first_register ∙ sym (length-map (layout_inputs C D) input_line)

  base : new.signals ≡ inputs ++ (registers ++ (named ++ f.more))
  base = f.signals ∙ append_assoc inputs (registers ++ named) f.more ∙ ap (λ l. inputs ++ l) (append_assoc registers named f.more)

  at_register : (i : ℕ) (t : Tie) → slice_get rts i ≡ Some t → slice_get new.signals (p.first_register + i) ≡ Some (set_register t)
  at_register i t e =
      let a = first_long in
      ap (λ l. slice_get l (p.first_register + i)) base ∙ at_made inputs (named ++ f.more) set_register rts (p.first_register + i) i t (omega (arith, a)) e

  at_wire : (i : ℕ) (t : Tie) → slice_get wts i ≡ Some t → slice_get new.signals (p.first_wire + i) ≡ Some (set_wire t)
  at_wire i t e =
      let a = first_long in
      let d = first_wire_is c h P old p b T grown pins nexts.fits controls.fits in
      let k = length-append inputs registers in
      let g = length-map rts set_register in
      ap (λ l. slice_get l (p.first_wire + i)) (base ∙ sym (append_assoc inputs registers (named ++ f.more)))
      ∙ at_made (inputs ++ registers) f.more set_wire wts (p.first_wire + i) i t (omega (arith, a, d, k, g)) e

  -- the first named wire of a site
  abbrev want_tie : ℕ → Tie
  want_tie k = ((of_site (codes "want$") k, 1), pin T.wants.items k)

  want_at : (k : ℕ) → 0 < k → k ≤ C.sites → slice_get new.signals (want_wire C P p.first_wire k) ≡ Some (set_wire (want_tie k))
  want_at k pos le =
      let bodies = ties (body_ties D T) C.functions in
      let calls = ties (call_ties C P p.first_wire T) in
      let x = bodies_long C D P p.first_wire T C.functions in
      let y = calls_long C D P p.first_wire T k in
      at_wire (2 * C.functions + length (lines (site_wires C P) k)) (want_tie k)
      (get_past bodies (calls (suc C.sites) ++ ((codes "go$main", 1), pin T.goes.items 0) ∷ []) _ (length (calls k)) (want_tie k) (omega (arith, x, y))
      (get_front (calls (suc C.sites)) (((codes "go$main", 1), pin T.goes.items 0) ∷ []) (length (calls k)) (want_tie k)
      (ties_get (call_ties C P p.first_wire T) k (suc C.sites) (want_tie k) (omega (arith, le)) (first k (nat_lt 0 k) (lt-ltb 0 k pos) _))))
    where
      first : (k : ℕ) (t : Bool) → t ≡ true → (rest : List Tie) → slice_get (cond t (want_tie k ∷ rest) []) 0 ≡ Some (want_tie k)
      first k true e rest = refl
      first k false e rest = absurd (cc)

  abbrev go_tie : ℕ → Tie
  go_tie k = ((of_site (codes "go$") k, 1), cond (P.arbiter (unit_for C k)) (pin T.goes.items k) (record { 0 = want_wire C P p.first_wire k }))

  abbrev four : ℕ → List Tie
  four k =
      want_tie k
      ∷ ((of_site (codes "ret$") k, 1), pin T.rets.items k)
      ∷ (cond (P.arbiter (unit_for C k)) (((of_site (codes "arb$") k, 1), pin T.goes.items k) ∷ []) [] ++ go_tie k ∷ [])

  in_body : (g : ℕ) (t : Tie) → g < C.functions → Among t (body_ties D T g) → Among t wts
  in_body g t l a = among_left t (ties (body_ties D T) C.functions) _ (among_ties t (body_ties D T) g C.functions l a)

  in_call : (k : ℕ) (t : Tie) → 0 < k → k ≤ C.sites → Among t (four k) → Among t wts
  in_call k t pos le a =
      among_right t (ties (body_ties D T) C.functions) _
      (among_left t (ties (call_ties C P p.first_wire T) (suc C.sites)) _
      (among_ties t (call_ties C P p.first_wire T) k (suc C.sites) (omega (arith, le)) (among_cond t (nat_lt 0 k) (four k) (lt-ltb 0 k pos) a)))

  in_go : (k : ℕ) → 0 < k → k ≤ C.sites → Among (go_tie k) wts
  in_go k pos le = in_call k (go_tie k) pos le (inr (inr (among_right (go_tie k)
      (cond (P.arbiter (unit_for C k)) (((of_site (codes "arb$") k, 1), pin T.goes.items k) ∷ []) []) (go_tie k ∷ []) (inl refl))))

  -- ---- a cycle

  module _ (v : Valuation) (state : ℕ → ℕ) (fit : Fits new state v) where
    abbrev w : Val
    w = signal_word new v

    abbrev r : Registers
    r = registers_now C D new v

    abbrev i : Inputs
    i = input_now C new v

    wired : Wired new w
    wired = wired_shown new state v netlist fit

    pin_reads : (t : Tie) → Among t pts → Reads (read new v) w t
    pin_reads t a =
        let k = among_index t pts a in
        let line : slice_get (map line_of rts) k.0 ≡ Some t.0 = ap (λ l. slice_get l k.0) (register_lines c h P b full ∙ sym (register_lines c h P p.bank full_pins)) ∙ get_map line_of pts k.0 t k.1 in
        let u = get_mapped line_of rts k.0 t.0 line in
        let number : t.1.0 ≡ p.first_register + k.0 = number_get p.first_register (length (layout_registers C D P)) k.0 t.1
        (ap (λ l. slice_get l k.0) (sym pins.registers) ∙ get_map sig_of pts k.0 t k.1) in
        let at : slice_get new.signals t.1.0 ≡ Some (set_register u.0) = ap (slice_get new.signals) number ∙ at_register k.0 u.0 u.1 in
        record {
          number = read_is new v t.1.0 (set_register u.0) t.0.0 netlist at (ap (λ (l : Line). l.0) u.2);
          width = ap width_in at ∙ ap (λ (l : Line). l.1) u.2;
        }

    next_reads : (t : Tie) → Among t rts → Reads (read_next new v) w t
    next_reads t a =
        let k = among_index t rts a in
        let q = from_get (TakesNext old) 0 rts k.0 t (registers_from C D P old b nexts.fits) k.1 in
        record {
          number = read_next_is new v (p.first_register + k.0) t.1.0 t.0.1 0 t.0.0 netlist (at_register k.0 t k.1);
          width = width_is new t.1.0 t.0.1 (f.says.widths t.1.0 t.0.1 q.width);
        }

    cycle : Cycle C P old p w r i
    cycle = record {
      wired = f.says.before w wired;
      start =
          ap (λ (s : Sig). (w s.0).bits == 1) pins.start
          ∙ ap (λ x. x == 1) (sym (read_is new v 0 (input_line (codes "start", 1)) (codes "start") netlist (ap (λ l. slice_get l 0) f.signals) refl));
      words = ap (words w) pins.words ∙ input_words (D.params C.main) (C.params C.main) rts wts (length (layout_wires C D P)) f.more new v temps (params_named c C.main) fit.full f.signals;
      bank = bank_shows c h P p.bank full_pins w (read new v) pin_reads pins.unit;
    }

    wire_word : (t : Tie) → Among t wts → read new v t.0.0 ≡ (w t.1.0).bits
    wire_word t a =
        let k = among_index t wts a in
        let at = at_wire k.0 t k.1 in
        read_is new v (p.first_wire + k.0) (set_wire t) t.0.0 netlist at refl ∙ ap (λ (x : Word). x.bits) (wired.each (p.first_wire + k.0) (set_wire t) at).kind

    copied : Copied C D P new v w T f.main
    copied = record {
      ends = λ g l. wire_word ((of_function D (codes "end$") g, 1), pin T.ends.items g) (in_body g _ l (inl refl));
      loops = λ g l. wire_word ((of_function D (codes "loop$") g, 1), pin T.loops.items g) (in_body g _ l (inr (inl refl)));
      wants = λ k pos le. wire_word (want_tie k) (in_call k _ pos le (inl refl));
      rets = λ k pos le. wire_word ((of_site (codes "ret$") k, 1), pin T.rets.items k) (in_call k _ pos le (inr (inl refl)));
      arbs = λ k pos le e.
          wire_word ((of_site (codes "arb$") k, 1), pin T.goes.items k)
          (in_call k _ pos le (inr (inr (among_left _ (cond (P.arbiter (unit_for C k)) (((of_site (codes "arb$") k, 1), pin T.goes.items k) ∷ []) []) _
          (among_cond _ (P.arbiter (unit_for C k)) _ e (inl refl))))));
      granted = λ k pos le e. wire_word (go_tie k) (in_go k pos le) ∙ ap (λ t. (w (cond t (pin T.goes.items k) (record { 0 = want_wire C P p.first_wire k })).0).bits) e;
      direct = λ k pos le e.
          wire_word (go_tie k) (in_go k pos le) ∙ ap (λ t. (w (cond t (pin T.goes.items k) (record { 0 = want_wire C P p.first_wire k })).0).bits) e
          ∙ ap (λ (x : Word). x.bits) (wired.each (want_wire C P p.first_wire k) (set_wire (want_tie k)) (want_at k pos le)).kind;
      goes_main = wire_word ((codes "go$main", 1), pin T.goes.items 0)
          (among_right _ (ties (body_ties D T) C.functions) _ (among_right _ (ties (call_ties C P p.first_wire T) (suc C.sites)) _ (inl refl)));
      done = read_output_word new v 0 (codes "done", f.main.fin.0) netlist (ap (λ l. slice_get l 0) f.outputs);
      result = read_output_word new v 1 (codes "result", f.main.res.0) netlist (ap (λ l. slice_get l 1) f.outputs);
    }

    wires_are : Wires C D P new v r i
    wires_are = wires_hold C D P old new p T f.main v w r i fits controls f.is_main cycle copied

    edge_is : Agree C P (registers_next C D new v) (next C P i r)
    edge_is = agrees c h P b full w (read new v) (read_next new v) i (nexts.shows w r i cycle) (firsts_show c h P b full w (read_next new v) next_reads)

  -- ---- the scheme and the plan

  registers_are : each_line register_kind new.signals ≡ layout_registers C D P
  registers_are = ap (each_line register_kind) f.signals ∙ register_lines_of (layout_inputs C D) rts wts (length (layout_wires C D P)) f.more temps ∙ register_lines c h P b full

  named_are : each_line wire_kind new.signals ≡ layout_wires C D P ++ temporaries (length (layout_wires C D P)) (map (λ (g : Signal). g.width) f.more)
  named_are =
      ap (each_line wire_kind) f.signals ∙ wire_lines_of (layout_inputs C D) rts wts (length (layout_wires C D P)) f.more temps
      ∙ ap (λ l. l ++ temporaries (length (layout_wires C D P)) (map (λ (g : Signal). g.width) f.more)) (wire_lines C D P p.first_wire T)

  outputs_are : output_lines new ≡ layout_outputs C
  outputs_are =
      let u = fits.bank.units C.main f.main f.is_main in
      ap (map (λ (o : List ℕ × ℕ). (o.0, width_in (slice_get new.signals o.1)))) f.outputs
      ∙ ap (λ (x : ℕ). (codes "done", x) ∷ (codes "result", width_of new f.main.res.0) ∷ []) (width_is new f.main.fin.0 1 (f.says.widths f.main.fin.0 1 u.fin.width))
      ∙ ap (λ (x : ℕ). (codes "done", 1) ∷ (codes "result", x) ∷ []) (width_is new f.main.res.0 (C.result C.main) (f.says.widths f.main.res.0 (C.result C.main) u.res.width))

  pub finished_scheme : Scheme C D P new
  finished_scheme = record {
    whole = is_set (layout_inputs C D) rts wts (length (layout_wires C D P)) f.more new temps f.signals;
    acyclic = f.acyclic;
    params = λ g l. params_named c g;
    distinct = netlist.apart;
    outputs = outputs_are;
    inputs = ap (each_line input_kind) f.signals ∙ input_lines (layout_inputs C D) rts wts (length (layout_wires C D P)) f.more temps;
    registers = registers_are;
    others = temporaries (length (layout_wires C D P)) (map (λ (g : Signal). g.width) f.more);
    named = named_are;
    resets = is_reset (layout_inputs C D) rts wts (length (layout_wires C D P)) f.more new temps f.signals;
    wires = λ v state fit. wires_are v state fit;
    edge = λ v state fit. edge_is v state fit;
  }

  direct_copy : (k : ℕ) → 0 < k → k ≤ C.sites → P.arbiter (unit_for C k) ≡ false → IsCopy new (of_site (codes "go$") k) (of_site (codes "want$") k)
  direct_copy k pos le e =
      let j = among_index (go_tie k) wts (in_go k pos le) in
      let at = at_wire j.0 (go_tie k) j.1 in
      record {
        number = p.first_wire + j.0;
        signal = set_wire (go_tie k);
        source = want_wire C P p.first_wire k;
        named = place_of new (p.first_wire + j.0) (set_wire (go_tie k)) netlist at;
        there = at;
        source_named = place_of new (want_wire C P p.first_wire k) (set_wire (want_tie k)) netlist (want_at k pos le);
        copied = ap (λ t. Wire (Some (record { op = Copy; operands = (cond t (pin T.goes.items k) (record { 0 = want_wire C P p.first_wire k })).0 ∷ [] }))) e;
      }

  pub finished_plan : HasPlan C D P new
  finished_plan = record {
    registers = registers_are;
    widths = map (λ (g : Signal). g.width) f.more;
    wires = named_are;
    direct = direct_copy;
  }

  -- as many signals as before
  pub finished_count : length new.signals ≡ length old.signals
  finished_count =
      let a = ap length f.signals in
      let d = length-append (inputs ++ (registers ++ named)) f.more in
      let e = length-append inputs (registers ++ named) in
      let g = length-append registers named in
      let i = length-map rts set_register in
      let j = length-map wts set_wire in
      let k = ap length f.before in
      let l = length-append (declared_signals C D P) f.more in
      let m = length-append inputs (map open_register (layout_registers C D P) ++ map open_wire (layout_wires C D P)) in
      let n = length-append (map open_register (layout_registers C D P)) (map open_wire (layout_wires C D P)) in
      let o = length-map (layout_registers C D P) open_register in
      let q = length-map (layout_wires C D P) open_wire in
      let r = sym (length-map rts line_of) ∙ ap length (register_lines c h P b full) in
      let s = sym (length-map wts line_of) ∙ ap length (wire_lines C D P p.first_wire T) in
      omega (arith, a, d, e, g, i, j, k, l, m, n, o, q, r, s)
