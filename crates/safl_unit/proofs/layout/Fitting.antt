-- The pins of the declared net have the widths of the registers.
use Rattle.safl_unit.proofs.Common.{AreSources, CheckedProgram, Choice, IsChecked, IsSource, MemberFits, MemberPins, Names, Netlist, Pins}
use Rattle.safl_unit.proofs.Common.{PinsFit, Program, Sig, Signal, SiteFits, SitePins, UnitFits, UnitPins, codes, eq-eqb, length-map}
use Rattle.safl_unit.proofs.Common.{lt-ltb, many, of_function, of_param, of_site, params_named, slice_get_within}
use Rattle.std.proofs.Common.{◌≡◌, ℕ, suc, ◌<◌, List, [], ◌∷◌, ◌++◌, map, length, length-append, append_assoc, Some, Bool, true, false, cond}
use Rattle.std.proofs.Common.{slice_get, nat_lt, inl, inr, refl, sym, ap, subst, ◌∙◌, arith}
use Rattle.std.proofs.lemmas.Simd.{map-map}
use Rattle.safl_net.specs.Growth.{maybe_width}
use Rattle.safl_net.proofs.Settling.{steady_by}
use Rattle.safl_circuit.specs.Layout.{named, layout_inputs, layout_registers, layout_wires}
use Rattle.safl_unit.specs.Ties.{Tie, line_of, tied, ties, numbered, unit_ties, member_ties, function_ties, call_registers, site_ties, register_ties}
use Rattle.safl_unit.specs.Finished.{input_line, open_register, open_wire, declared_net, ArePins}
use Rattle.safl_unit.proofs.assembly.Members.{Among, among_left, among_right, among_ties, among_cond, made_there, get_at}
use Rattle.safl_unit.proofs.layout.Lining.{IsFull, register_lines, there}

-- a tie whose signal is the register of its line
source_of : (n : Netlist) (t : Tie) → slice_get n.signals t.1.0 ≡ Some (open_register t.0) → IsSource n t.1 t.0.1
source_of n t e = record { width = ap maybe_width e; steady = steady_by n t.1.0 (open_register t.0) e tt }

args_sources : (n : Netlist) (xs : List (List ℕ)) (ws : List ℕ) (ss : List Sig) → length xs ≡ length ws → length ss ≡ length ws →
    ((t : Tie) → Among t (tied (named xs ws) ss) → IsSource n t.1 t.0.1) → AreSources n ss ws
args_sources n xs [] [] a b f = record { widths = tt; steady = tt }
args_sources n xs [] (s ∷ ss) a b f = absurd (omega (arith, b))
args_sources n xs (w ∷ ws) [] a b f = absurd (omega (arith, b))
args_sources n [] (w ∷ ws) (s ∷ ss) a b f = absurd (omega (arith, a))
args_sources n (x ∷ xs) (w ∷ ws) (s ∷ ss) a b f =
    let here = f ((x, w), s) (inl refl) in
    let rest = args_sources n xs ws ss (omega (arith, a)) (omega (arith, b)) (λ t h. f t (inr h)) in
    record { widths = (here.width, rest.widths); steady = (here.steady, rest.steady) }

inputs_there : (n : Netlist) (front back : List Signal) (names : List (List ℕ)) (ws : List ℕ) → n.signals ≡ front ++ (map input_line (named names ws) ++ back) → length names ≡ length ws
    → AreSources n (numbered (length front) (length ws)) ws
inputs_there n front back names [] e l = record { widths = tt; steady = tt }
inputs_there n front back [] (w ∷ ws) e l = absurd (omega (arith, l))
inputs_there n front back (x ∷ names) (w ∷ ws) e l =
    let at : slice_get n.signals (length front) ≡ Some (input_line (x, w)) = ap (λ g. slice_get g (length front)) e ∙ get_at front (map input_line (named names ws) ++ back) (input_line (x, w)) in
    let more = length-append front (input_line (x, w) ∷ []) in
    let rest = inputs_there n (front ++ input_line (x, w) ∷ []) back names ws (e ∙ sym (append_assoc front (input_line (x, w) ∷ []) (map input_line (named names ws) ++ back))) (omega (arith, l)) in
    let r = subst (λ k. AreSources n (numbered k (length ws)) ws) (let q : length (front ++ input_line (x, w) ∷ []) ≡ suc (length front) = omega (arith, more) in q) rest in
    record { widths = (ap maybe_width at, r.widths); steady = (steady_by n (length front) (input_line (x, w)) at tt, r.steady) }

module _ (c : CheckedProgram) (h : IsChecked c) (P : Choice) (n : Netlist) (p : Pins) (net : n ≡ declared_net c.program c.names P) (pins : ArePins c.program c.names P p) where
  abbrev C : Program
  C = c.program

  abbrev D : Names
  D = c.names

  abbrev all : List Tie
  all = register_ties C D P p.bank

  full : IsFull C p.bank
  full = record { units = pins.units_length; members = pins.members_length; sites = pins.sites_length; args = pins.args }

  lined : map line_of all ≡ layout_registers C D P
  lined = register_lines c h P p.bank full

  -- each register stands at its number
  pub register_there : (t : Tie) → Among t all → slice_get n.signals t.1.0 ≡ Some (open_register t.0)
  register_there t a =
      let long : length (layout_registers C D P) ≡ length all = sym (ap length lined) ∙ length-map all line_of in
      ap (λ (m : Netlist). slice_get m.signals t.1.0) net
      ∙ ap (λ l. slice_get (map input_line (layout_inputs C D) ++ (l ++ map open_wire (layout_wires C D P))) t.1.0) (ap (λ l. map open_register l) (sym lined) ∙ map-map open_register line_of all)
      ∙ made_there (map input_line (layout_inputs C D)) (map open_wire (layout_wires C D P)) (λ (x : Tie). open_register x.0) all p.first_register
      (pins.first_register ∙ sym (length-map (layout_inputs C D) input_line)) (pins.registers ∙ ap (λ k. numbered p.first_register k) long) t a

  source : (t : Tie) → Among t all → IsSource n t.1 t.0.1
  source t a = source_of n t (register_there t a)

  in_function : (f : ℕ) (t : Tie) → f < C.functions → Among t (function_ties C D p.bank.units.items p.bank.members.items f) → IsSource n t.1 t.0.1
  in_function f t l a = source t (among_left t (ties (function_ties C D p.bank.units.items p.bank.members.items) C.functions) _
      (among_ties t (function_ties C D p.bank.units.items p.bank.members.items) f C.functions l a))

  in_unit : (u : ℕ) (x : UnitPins) (t : Tie) → u < C.functions → slice_get p.bank.units.items u ≡ Some x → Among t (unit_ties C D u (Some x)) → IsSource n t.1 t.0.1
  in_unit u x t l e a = in_function u t l (among_left t (unit_ties C D u (slice_get p.bank.units.items u)) _ (subst (λ o. Among t (unit_ties C D u o)) (sym e) a))

  in_member : (f : ℕ) (m : MemberPins) (t : Tie) → f < C.functions → slice_get p.bank.members.items f ≡ Some m → Among t (member_ties C D f (Some m)) → IsSource n t.1 t.0.1
  in_member f m t l e a = in_function f t l (among_right t (unit_ties C D f (slice_get p.bank.units.items f)) _ (subst (λ o. Among t (member_ties C D f o)) (sym e) a))

  unit_fits : (f : ℕ) (x : UnitPins) → slice_get p.bank.units.items f ≡ Some x → UnitFits n x (C.result f)
  unit_fits f x e =
      let lu = pins.units_length in
      let inside = slice_get_within p.bank.units.items f x e in
      let l : f < C.functions = omega (arith, lu, inside) in
      let q = h.formed.first f l in
      let le = q.0 in
      let lw : C.unit f < C.functions = omega (arith, le, l) in
      let w : slice_get p.bank.units.items (C.unit f) ≡ Some x = sym (pins.unit f l) ∙ e in
      let own = eq-eqb (C.unit (C.unit f)) (C.unit f) q.1 in
      record {
        run = in_unit (C.unit f) x ((of_function D (codes "run$") (C.unit f), 1), x.run) lw w (among_cond _ _ _ own (inl refl));
        fin = in_unit (C.unit f) x ((of_function D (codes "fin$") (C.unit f), 1), x.fin) lw w (among_cond _ _ _ own (inr (inl refl)));
        res = subst (λ k. IsSource n x.res k) q.2 (in_unit (C.unit f) x ((of_function D (codes "res$") (C.unit f), C.result (C.unit f)), x.res) lw w (among_cond _ _ _ own (inr (inr (inl refl)))));
      }

  member_fits : (f : ℕ) (m : MemberPins) → slice_get p.bank.members.items f ≡ Some m → MemberFits n m (C.params f)
  member_fits f m e = record { at = by (many C f) refl (there p.bank.units.items f C.functions pins.units_length l); args = arguments }
    where
      l : f < C.functions
      l = let lm = pins.members_length in let inside = slice_get_within p.bank.members.items f m e in omega (arith, lm, inside)

      by : (b : Bool) → many C f ≡ b → ((x : UnitPins) × (slice_get p.bank.units.items f ≡ Some x)) → IsSource n m.at 1
      by true q x = in_member f m ((of_function D (codes "at$") f, 1), m.at) l e (among_left _ _ _ (among_cond _ (many C f) _ q (inl refl)))
      by false q x = subst (λ s. IsSource n s 1) (sym (pins.lone f m e q x.0 x.1)) (unit_fits f x.0 x.1).run

      arguments : AreSources n m.args.items (C.params f)
      arguments =
          args_sources n (map (of_param D f) (D.params f)) (C.params f) m.args.items (length-map (D.params f) (of_param D f) ∙ params_named c f) (pins.args f m e)
          (λ t a. in_member f m t l e (among_right t (cond (many C f) (((of_function D (codes "at$") f, 1), m.at) ∷ []) []) _ a))

  in_site : (k : ℕ) (s : SitePins) (t : Tie) → k < suc C.sites → slice_get p.bank.sites.items k ≡ Some s → Among t (call_registers C P k (Some s)) → IsSource n t.1 t.0.1
  in_site k s t l e a =
      source t (among_right t (ties (function_ties C D p.bank.units.items p.bank.members.items) C.functions) _
      (among_ties t (site_ties C P p.bank.sites.items) k (suc C.sites) l (subst (λ o. Among t (call_registers C P k o)) (sym e) a)))

  site_fits : (k : ℕ) (s : SitePins) → slice_get p.bank.sites.items k ≡ Some s → 0 < k → SiteFits n s (C.result (C.callee k))
  site_fits k s e pos = record {
    sent = in_site k s ((of_site (codes "sent$") k, 1), s.sent) l e (among_cond _ _ _ yes (inl refl));
    got = in_site k s ((of_site (codes "got$") k, 1), s.got) l e (among_cond _ _ _ yes (inr (inl refl)));
    keep = by (P.kept k) refl (there p.bank.units.items (C.callee k) C.functions pins.units_length callee);
  }
    where
      l : k < suc C.sites
      l = let ls = pins.sites_length in let inside = slice_get_within p.bank.sites.items k s e in omega (arith, ls, inside)

      yes : nat_lt 0 k ≡ true
      yes = lt-ltb 0 k pos

      callee : C.callee k < C.functions
      callee = (h.formed.calls k pos (let q = l in omega (arith, q))).1

      by : (b : Bool) → P.kept k ≡ b → ((x : UnitPins) × (slice_get p.bank.units.items (C.callee k) ≡ Some x)) → IsSource n s.keep (C.result (C.callee k))
      by true q x = in_site k s ((of_site (codes "keep$") k, C.result (C.callee k)), s.keep) l e (among_cond _ _ _ yes (inr (inr (among_cond _ (P.kept k) _ q (inl refl)))))
      by false q x = subst (λ w. IsSource n w (C.result (C.callee k))) (sym (pins.spare k s e pos q x.0 x.1)) (unit_fits (C.callee k) x.0 x.1).res

  start_at : slice_get n.signals 0 ≡ Some (input_line (codes "start", 1))
  start_at = ap (λ (m : Netlist). slice_get m.signals 0) net

  pub pins_fit : PinsFit C n p
  pins_fit = record {
    start = subst (λ s. IsSource n s 1) (sym pins.start) (record { width = ap maybe_width start_at; steady = steady_by n 0 (input_line (codes "start", 1)) start_at tt });
    words =
        subst (λ xs. AreSources n xs (C.params C.main)) (sym pins.words)
        (inputs_there n (input_line (codes "start", 1) ∷ []) (map open_register (layout_registers C D P) ++ map open_wire (layout_wires C D P))
        (map (λ x. codes "in$" ++ x) (D.params C.main)) (C.params C.main) (ap (λ (m : Netlist). m.signals) net)
        (length-map (D.params C.main) (λ x. codes "in$" ++ x) ∙ params_named c C.main));
    bank = record {
      units_length = pins.units_length;
      members_length = pins.members_length;
      sites_length = pins.sites_length;
      units = unit_fits;
      members = member_fits;
      sites = site_fits;
    };
  }
