-- A written file breaks no rule.
use Rattle.safl_verilog.proofs.Common.{Cell, Decides-eqb, Each, Input, IsIdentifier, IsInput, Kind, Netlist, Reg, Signal, Sort, VFault}
use Rattle.safl_verilog.proofs.Common.{Wire, each_by_index, each_join, each_stands, flat_map, flat_map-append, literal, map-append}
use Rattle.safl_verilog.proofs.Common.{op_width, signal_widths, slice_get_within, unwrap_or-slice_get, value}
use Rattle.std.proofs.Common.{◌≡◌, ℕ, ◌+◌, ◌-◌, ◌<◌, ◌≤◌, ◌^◌, List, [], ◌∷◌, ◌++◌, length, map, Bool, true, false, not, ◌==◌, ◌&&◌, ◌||◌, nat_lt}
use Rattle.std.specs.Prelude.{is_none}
use Rattle.std.proofs.Common.{Some, None, Option, refl, sym, ap, subst, ◌∙◌, inl, arith, append_assoc, lit<, get_or}
use Rattle.std.specs.Prelude.{codes, decimal, slice_get, All, unwrap_or}
use Rattle.std.proofs.lemmas.Bool.{lt-ltb}
use Rattle.safl_net.specs.Netlist
use Rattle.safl_net.specs.Names.{is_good}
use Rattle.safl_net.specs.Rules.{IsNetlist, SignalFits, KindFits, CellFits}
use Rattle.safl_net.specs.Making.{name_at as name_of}
use Rattle.safl_verilog.specs.declared.token.Sort.TheVariants as sorts
use Rattle.safl_verilog.specs.Files.{Spot, Plain, Declaration, Statement, Assign, File}
use Rattle.safl_verilog.specs.Faults.{is_range, stated_number_faults, all_number_faults, all_repeat_faults}
use Rattle.safl_verilog.specs.FaultParts.{declared_number_faults, declared_names}
use Rattle.safl_verilog.specs.Faults.{find, is_input, is_output, is_reg, is_port, passes, range_width, width_declared, width_in}
use Rattle.safl_verilog.specs.FaultParts.{header_faults, port_faults}
use Rattle.safl_verilog.specs.Faults.{has_ports, all_port_faults, is_target, unfit_faults, operands, is_plain, expression_width, assigned, updated}
use Rattle.safl_verilog.specs.Faults.{width_faults, assign_faults, always_faults, statement_faults, all_statement_faults, missing_faults}
use Rattle.safl_verilog.specs.Faults.{faults}
use Rattle.safl_verilog.proofs.WholeNets.{IsUpdated, IsAssigned, HasPorts}
use Rattle.safl_verilog.proofs.Decimals.{decimal_value, decimal_short}
use Rattle.safl_verilog.proofs.Distinct.{Name, Has, Distinct, distinct_left, distinct_right, distinct_swap, distinct_apart, each_left, each_right}
use Rattle.safl_verilog.proofs.Distinct.{each_map, each_mapped, each_both, each_at, no_items, same_name}
use Rattle.safl_verilog.proofs.Lookups.{spot_names, names, no_repeats, is_among, each_has, target, targets, not_assigned, not_updated, Does, each_does}
use Rattle.safl_verilog.proofs.Printed.{spot_of}
use Rattle.safl_verilog.proofs.Cells.{kept, Spelled, spelled, Sound, cell_sound}
use Rattle.safl_verilog.proofs.FileOf.{named_spot, expression_of, declare, declare_signal, declare_output, signal_spot, output_spot, clock, reset}
use Rattle.safl_verilog.proofs.FileOf.{ports, driver, assign_signal, assign_output, updated_by, update_signal, declarations_of, statements_of}
use Rattle.safl_verilog.proofs.FileOf.{file_of}
use Rattle.safl_verilog.proofs.WrittenNames
use Rattle.safl_verilog.proofs.WrittenNames.{sort_by, declared, signal_names, output_names, declared_width, good_identifier}

-- ---- declarations

joined_faults : (a b : List VFault) → a ≡ [] → b ≡ [] → a ++ b ≡ []
joined_faults a b e f = ap (λ (l : List VFault). l ++ b) e ∙ f

declared_numbers : (s : Sort) (w : ℕ) (name : Name) → 1 ≤ w → w ≤ 128 → declared_number_faults (declare s w name) ≡ []
declared_numbers s w name a b =
    let big : 128 < 2 ^ 128 = lit< tt in
    let k : w - 1 < 2 ^ 128 = omega arith in
    let v = decimal_value (w - 1) k in
    let low : nat_lt (value 10 (decimal (w - 1))) 128 ≡ true = lt-ltb (value 10 (decimal (w - 1))) 128 (omega arith) in
    let range : is_range (spot_of (decimal (w - 1))) (spot_of (48 ∷ [])) ≡ true = rw low refl in
    let one = kept _ _ (decimal_short (w - 1) k) in
    let two = kept _ _ range in
    joined_faults _ _ (joined_faults _ _ one two) refl

flat_faults : {X : Type 0} (f : X → List VFault) (xs ys : List X) → flat_map f xs ≡ [] → flat_map f ys ≡ [] → flat_map f (xs ++ ys) ≡ []
flat_faults f xs ys a b = flat_map-append f xs ys ∙ joined_faults (flat_map f xs) (flat_map f ys) a b

mapped_faults : {X Y : Type 0} (f : Y → List VFault) (b : X → Y) (xs : List X) → Each (λ x. f (b x) ≡ []) xs → flat_map f (map b xs) ≡ []
mapped_faults f b xs h = no_items f (map b xs) (each_mapped (λ y. f y ≡ []) b xs h)

same_width : (place w f : ℕ) → w ≡ f → width_faults place w f ≡ []
same_width place w f e = kept _ _ ((Decides-eqb w f).1 e)

module _ (n : Netlist) (net : IsNetlist n) (is rs ws : List Signal) (whole : n.signals ≡ is ++ (rs ++ ws)) (inputs : Each IsInput is) (registers : Each IsUpdated rs) (wires : Each IsAssigned ws) where
  abbrev pub ds : List Declaration
  ds = declarations_of n is rs ws

  abbrev ss : List Statement
  ss = statements_of n rs ws

  abbrev pub Used : ℕ → Type 0
  Used s = WrittenNames.Used n net is rs ws whole inputs registers wires s

  used : (s : ℕ) → s < length n.signals → Used s
  used = WrittenNames.used n net is rs ws whole inputs registers wires

  -- what holds of each signal
  abbrev pub Member : Signal → Type 0
  Member g = SignalFits n g × (find ds g.name ≡ Some (declared g))

  member : (s : ℕ) (g : Signal) → slice_get n.signals s ≡ Some g → Member g
  member s g e = (net.signals s g e, WrittenNames.known n net is rs ws whole inputs registers wires s g e)

  pub members : Each Member is × Each Member rs × Each Member ws
  members =
      let all = subst (λ (l : List Signal). Each Member l) whole (each_by_index Member n.signals member) in
      (each_left Member is (rs ++ ws) all, each_left Member rs ws (each_right Member is (rs ++ ws) all), each_right Member rs ws (each_right Member is (rs ++ ws) all))

  abbrev pub Shown : List ℕ × ℕ → Type 0
  Shown o = (is_good o.0 ≡ true) × Used o.1 × (find ds o.0 ≡ Some (declare_output n o))

  pub outputs_shown : Each Shown n.outputs
  outputs_shown =
      each_both (λ (o : List ℕ × ℕ). (is_good o.0 ≡ true) × (o.1 < length n.signals)) (λ (o : List ℕ × ℕ). find ds o.0 ≡ Some (declare_output n o)) Shown
      (λ o a b. (a.0, used o.1 a.1, b)) n.outputs (each_by_index _ n.outputs net.outputs) (WrittenNames.outputs_known n net is rs ws whole inputs registers wires)

  -- ---- cells and updates

  pub record Driven (g : Signal) : Type 0 where
    pub cell : Cell
    pub kind_is : g.kind ≡ Wire (Some cell)
    pub cell_fits : CellFits n g.width cell
    pub sound : Sound n cell.op cell.operands (expression_of n cell)
    pub operands_used : Each Used cell.operands

  all_used : (xs : List ℕ) → All (λ s. s < length n.signals) xs → Each Used xs
  all_used xs h = each_by_index Used xs (λ i s e. used s (at_all xs i s h e))
    where
      at_all : (xs : List ℕ) (i s : ℕ) → All (λ s. s < length n.signals) xs → slice_get xs i ≡ Some s → s < length n.signals
      at_all xs i s h e =
          let here : get_or xs i s ≡ s = sym (unwrap_or-slice_get xs i s) ∙ ap (λ o. unwrap_or o s) e in
          subst (λ k. k < length n.signals) here (h i s (slice_get_within xs i s e))

  driven : (g : Signal) → IsAssigned g → Member g → Driven g
  driven g w m =
      let c = w.0 in
      let fits : CellFits n g.width c = subst (KindFits n g.width) w.1 m.0.kind in
      let u = all_used c.operands fits.known in
      let names = each_stands Used (λ s. IsIdentifier (name_of n s)) (λ s k. subst (λ (v : Name). IsIdentifier v) (sym k.named) (good_identifier k.signal.name k.good)) c.operands u in
      let narrow : (a : ℕ) → c.operands ≡ a ∷ [] → Netlist.width_of n a ≤ 128 = λ a e. (let k : Each Used (a ∷ []) = subst (λ (l : List ℕ). Each Used l) e u in k.0.narrow) in
      record { cell = c; kind_is = w.1; cell_fits = fits; sound = cell_sound n c.op c.operands g.width narrow fits.gives fits.word names; operands_used = u }

  pub wires_driven : Each Driven ws
  wires_driven = each_both IsAssigned Member Driven driven ws wires members.2

  pub record Held (g : Signal) : Type 0 where
    pub init : ℕ
    pub next : ℕ
    pub kind_is : g.kind ≡ Reg init (Some next)
    pub literal_is : Spelled g.width init
    pub next_used : Used next
    pub next_width : Netlist.width_of n next ≡ g.width

  held : (g : Signal) → IsUpdated g → Member g → Held g
  held g r m =
      let k : KindFits n g.width (Reg r.0 (Some r.1)) = subst (KindFits n g.width) r.2 m.0.kind in
      record { init = r.0; next = r.1; kind_is = r.2; literal_is = spelled g.width r.0 m.0.some m.0.most k.0; next_used = used r.1 k.1; next_width = k.2 }

  pub registers_held : Each Held rs
  registers_held = each_both IsUpdated Member Held held rs registers members.1

  -- ---- numbers

  no_number_faults : all_number_faults (file_of n is rs ws) ≡ []
  no_number_faults =
      let i = map (declare_signal sorts.Input) is in
      let o = map (declare_output n) n.outputs in
      let r = map (declare_signal sorts.Reg) rs in
      let w = map (declare_signal sorts.Wire) ws in
      let of : (s : Sort) (gs : List Signal) → Each Member gs → flat_map declared_number_faults (map (declare_signal s) gs) ≡ [] =
      λ s gs h. mapped_faults declared_number_faults (declare_signal s) gs
      (each_stands Member (λ g. declared_number_faults (declare_signal s g) ≡ []) (λ g m. declared_numbers s g.width g.name m.0.some m.0.most) gs h) in
      let outs : flat_map declared_number_faults o ≡ [] = mapped_faults declared_number_faults (declare_output n) n.outputs
      (each_stands Shown (λ (o : List ℕ × ℕ). declared_number_faults (declare_output n o) ≡ [])
      (λ o k. declared_numbers sorts.Output (Netlist.width_of n o.1) o.0 k.1.some k.1.narrow) n.outputs outputs_shown) in
      let decls : flat_map declared_number_faults ds ≡ [] = flat_faults declared_number_faults i (o ++ (r ++ w)) (of sorts.Input is members.0)
      (flat_faults declared_number_faults o (r ++ w) outs (flat_faults declared_number_faults r w (of sorts.Reg rs members.1) (of sorts.Wire ws members.2))) in
      let sw = mapped_faults stated_number_faults (assign_signal n) ws
      (each_stands Driven (λ g. stated_number_faults (assign_signal n g) ≡ [])
      (λ g d. ap (λ k. stated_number_faults (Assign (signal_spot g) (driver n k))) d.kind_is ∙ d.sound.short) ws wires_driven) in
      let so = mapped_faults stated_number_faults (assign_output n) n.outputs
      (each_stands Shown (λ (o : List ℕ × ℕ). stated_number_faults (assign_output n o) ≡ []) (λ o k. refl) n.outputs outputs_shown) in
      let sr = mapped_faults stated_number_faults (update_signal n) rs
      (each_stands Held (λ g. stated_number_faults (update_signal n g) ≡ [])
      (λ g d. ap (λ k. stated_number_faults (updated_by n g k)) d.kind_is ∙ kept _ _ d.literal_is.good) rs registers_held) in
      joined_faults _ _ decls (flat_faults stated_number_faults (map (assign_signal n) ws)
      (map (assign_output n) n.outputs ++ map (update_signal n) rs) sw
      (flat_faults stated_number_faults (map (assign_output n) n.outputs) (map (update_signal n) rs) so sr))

  -- ---- names

  ports_named : spot_names (ports n is) ≡ signal_names is ++ output_names n.outputs
  ports_named = map-append (λ (x : Spot). x.bytes) (map signal_spot is) (map output_spot n.outputs) ∙ ap
      (λ (l : List Name). l ++ spot_names (map output_spot n.outputs)) (of_signals is) ∙ ap (λ (l : List Name). signal_names is ++ l) (of_outputs n.outputs)
    where
      of_signals : (gs : List Signal) → spot_names (map signal_spot gs) ≡ signal_names gs
      of_signals [] = refl
      of_signals (g ∷ gs) = ap (λ (l : List Name). g.name ∷ l) (of_signals gs)

      of_outputs : (os : List (List ℕ × ℕ)) → spot_names (map output_spot os) ≡ output_names os
      of_outputs [] = refl
      of_outputs (o ∷ os) = ap (λ (l : List Name). o.0 ∷ l) (of_outputs os)

  header_differs : Distinct (spot_names (clock ∷ reset ∷ ports n is))
  header_differs =
      let d = subst Distinct (WrittenNames.names_are n net is rs ws whole inputs registers wires) (WrittenNames.declared_differ n net is rs ws whole inputs registers wires) in
      let moved : codes "clk" ∷ codes "rst" ∷ WrittenNames.all_names n net is rs ws whole inputs registers wires ≡
      (codes "clk" ∷ codes "rst" ∷ (signal_names is ++ output_names n.outputs)) ++ (signal_names rs ++ signal_names ws) = ap
      (λ (l : List Name). codes "clk" ∷ codes "rst" ∷ l) (sym (append_assoc (signal_names is) (output_names n.outputs) (signal_names rs ++ signal_names ws))) in
      subst (λ (l : List Name). Distinct (codes "clk" ∷ codes "rst" ∷ l)) (sym ports_named)
      (distinct_left (codes "clk" ∷ codes "rst" ∷ (signal_names is ++ output_names n.outputs)) (signal_names rs ++ signal_names ws) (subst Distinct moved d))

  declared_spots : (xs : List Declaration) → spot_names (declared_names xs) ≡ names xs
  declared_spots [] = refl
  declared_spots (d ∷ xs) = ap (λ (l : List Name). d.name.bytes ∷ l) (declared_spots xs)

  no_repeat_faults : all_repeat_faults (file_of n is rs ws) ≡ []
  no_repeat_faults =
      joined_faults _ _ (no_repeats [] (clock ∷ reset ∷ ports n is) header_differs)
      (no_repeats [] (declared_names ds) (subst Distinct (sym (declared_spots ds)) (WrittenNames.declared_differ n net is rs ws whole inputs registers wires)))

  -- ---- ports

  abbrev f0 : File
  f0 = file_of n is rs ws

  input_known : Each (λ g. find ds g.name ≡ Some (declare_signal sorts.Input g)) is
  input_known = each_both IsInput Member (λ g. find ds g.name ≡ Some (declare_signal sorts.Input g)) (λ g e m. m.1 ∙ ap (λ k. Some (declare_signal (sort_by k) g)) e) is inputs members.0

  register_known : Each (λ g. find ds g.name ≡ Some (declare_signal sorts.Reg g)) rs
  register_known = each_both IsUpdated Member (λ g. find ds g.name ≡ Some (declare_signal sorts.Reg g)) (λ g e m. m.1 ∙ ap (λ k. Some (declare_signal (sort_by k) g)) e.2) rs registers members.1

  wire_known : Each (λ g. find ds g.name ≡ Some (declare_signal sorts.Wire g)) ws
  wire_known = each_both IsAssigned Member (λ g. find ds g.name ≡ Some (declare_signal sorts.Wire g)) (λ g e m. m.1 ∙ ap (λ k. Some (declare_signal (sort_by k) g)) e.1) ws wires members.2

  no_header_faults : flat_map (header_faults f0) (clock ∷ reset ∷ ports n is) ≡ []
  no_header_faults =
      let port : Option Declaration → Bool = passes (λ d. is_port d.sort) in
      let c : header_faults f0 clock ≡ [] = refl in
      let r : header_faults f0 reset ≡ [] = refl in
      let a = mapped_faults (header_faults f0) signal_spot is (each_stands (λ g. find ds g.name ≡ Some (declare_signal sorts.Input g))
      (λ g. header_faults f0 (signal_spot g) ≡ []) (λ g e. kept _ _ (ap port e)) is input_known) in
      let b = mapped_faults (header_faults f0) output_spot n.outputs
      (each_stands Shown (λ (o : List ℕ × ℕ). header_faults f0 (output_spot o) ≡ []) (λ o e. kept _ _ (ap port e.2)) n.outputs outputs_shown) in
      joined_faults _ _ c (joined_faults _ _ r (flat_faults (header_faults f0) (map signal_spot is) (map output_spot n.outputs) a b))

  listed : Each (λ (x : Spot). Has x.bytes (spot_names (clock ∷ reset ∷ ports n is))) (ports n is)
  listed = (each_has (clock ∷ reset ∷ ports n is) []).1.1

  no_port_faults : flat_map (port_faults f0) ds ≡ []
  no_port_faults =
      let i = map (declare_signal sorts.Input) is in
      let o = map (declare_output n) n.outputs in
      let r = map (declare_signal sorts.Reg) rs in
      let w = map (declare_signal sorts.Wire) ws in
      let P : Spot → Type 0 = λ (x : Spot). Has x.bytes (spot_names (clock ∷ reset ∷ ports n is)) in
      let a = mapped_faults (port_faults f0) (declare_signal sorts.Input) is
      (each_stands (λ g. P (signal_spot g)) (λ g. port_faults f0 (declare_signal sorts.Input g) ≡ [])
      (λ g h. kept _ _ (is_among (clock ∷ reset ∷ ports n is) g.name h)) is
      (each_map P signal_spot is (each_left P (map signal_spot is) (map output_spot n.outputs) listed))) in
      let b = mapped_faults (port_faults f0) (declare_output n) n.outputs
      (each_stands (λ o. P (output_spot o)) (λ o. port_faults f0 (declare_output n o) ≡ [])
      (λ o h. kept _ _ (is_among (clock ∷ reset ∷ ports n is) o.0 h)) n.outputs
      (each_map P output_spot n.outputs (each_right P (map signal_spot is) (map output_spot n.outputs) listed))) in
      let c = mapped_faults (port_faults f0) (declare_signal sorts.Reg) rs (each_stands Held (λ g. port_faults f0 (declare_signal sorts.Reg g) ≡ []) (λ g h. refl) rs registers_held) in
      let d = mapped_faults (port_faults f0) (declare_signal sorts.Wire) ws (each_stands Driven (λ g. port_faults f0 (declare_signal sorts.Wire g) ≡ []) (λ g h. refl) ws wires_driven) in
      flat_faults (port_faults f0) i (o ++ (r ++ w)) a (flat_faults (port_faults f0) o (r ++ w) b (flat_faults (port_faults f0) r w c d))

  bit_width : (w : ℕ) → 1 ≤ w → w ≤ 128 → w ≡ 1 → (value 10 (decimal (w - 1)) + 1 == 1) ≡ true
  bit_width w a b e = (Decides-eqb _ 1).1 (declared_width w a b ∙ e)

  ports_there : HasPorts n → has_ports ds ≡ true
  ports_there p =
      let s = member p.start _ p.is_start in
      let start = ap (passes (λ d. is_input d.sort && (range_width d.range == 1))) s.1 ∙ bit_width 1 (omega arith) (omega arith) refl in
      let d = each_at Shown n.outputs p.done _ outputs_shown p.is_done in
      let done = ap (passes (λ d. is_output d.sort && (range_width d.range == 1))) d.2 ∙ bit_width (Netlist.width_of n p.done_shows) d.1.some d.1.narrow p.done_bit in
      let r = each_at Shown n.outputs p.result _ outputs_shown p.is_result in
      let result = ap (passes (λ d. is_output d.sort)) r.2 in
      let clk = ap (passes (λ d. is_input d.sort && (range_width d.range == 1))) (WrittenNames.clock_found n net is rs ws whole inputs registers wires) in
      let rst = ap (passes (λ d. is_input d.sort && (range_width d.range == 1))) (WrittenNames.reset_found n net is rs ws whole inputs registers wires) in
      all_five _ _ _ _ _ clk rst start done result
    where
      all_five : (a b c d e : Bool) → a ≡ true → b ≡ true → c ≡ true → d ≡ true → e ≡ true → (a && b && c && d && e) ≡ true
      all_five a b c d e f g h i j = rw (f, g, h, i, j) refl

  no_port_rule_faults : HasPorts n → all_port_faults f0 ≡ []
  no_port_rule_faults p = joined_faults _ _ (joined_faults _ _ no_header_faults no_port_faults) (kept _ _ (ports_there p))

  -- ---- statements

  abbrev Good : Statement → Type 0
  Good s = (before : List Statement) → (Has (target s) (targets before) → ⊥) → statement_faults ds before s ≡ []

  no_statement_faults : (before xs : List Statement) → Distinct (targets before ++ targets xs) → Each Good xs → all_statement_faults ds before xs ≡ []
  no_statement_faults before [] d h = refl
  no_statement_faults before (s ∷ xs) d h =
      let moved : targets (before ++ s ∷ []) ++ targets xs ≡ targets before ++ targets (s ∷ xs) = ap (λ (l : List Name). l ++ targets xs)
      (map-append target before (s ∷ [])) ∙ append_assoc (targets before) (target s ∷ []) (targets xs) in
      joined_faults _ _ (h.0 before (λ k. distinct_apart (targets before) (targets (s ∷ xs)) d (target s) k (inl refl)))
      (no_statement_faults (before ++ s ∷ []) xs (subst Distinct (sym moved) d) h.1)

  of_signal : (g : Signal) → Member g → width_declared ds g.name ≡ g.width
  of_signal g m = ap (λ o. width_in o) m.1 ∙ declared_width g.width m.0.some m.0.most

  fit_operands : (xs : List ℕ) → Each Used xs → flat_map (unfit_faults ds) (map (named_spot n) xs) ≡ []
  fit_operands xs h = mapped_faults (unfit_faults ds) (named_spot n) xs (each_stands Used (λ s. unfit_faults ds (named_spot n s) ≡ []) (λ s u. kept _ _ u.fits) xs h)

  widths_are : (xs : List ℕ) → Each Used xs → map (λ (a : Spot). width_declared ds a.bytes) (map (named_spot n) xs) ≡ signal_widths n xs
  widths_are [] h = refl
  widths_are (x ∷ xs) h = ap (λ w. w ∷ map (λ (a : Spot). width_declared ds a.bytes) (map (named_spot n) xs)) h.0.width ∙ ap (λ (l : List ℕ). Netlist.width_of n x ∷ l) (widths_are xs h.1)

  expression_is : (g : Signal) → (d : Driven g) → expression_width ds (expression_of n d.cell) ≡ g.width
  expression_is g d =
      ap (λ o. unwrap_or (op_width o (map (λ (a : Spot). width_declared ds a.bytes) (operands (expression_of n d.cell)))) 0) d.sound.does
      ∙ ap (λ (l : List Spot). unwrap_or (op_width d.cell.op (map (λ (a : Spot). width_declared ds a.bytes) l)) 0) d.sound.takes
      ∙ ap (λ (l : List ℕ). unwrap_or (op_width d.cell.op l) 0) (widths_are d.cell.operands d.operands_used)
      ∙ ap (λ o. unwrap_or o 0) d.cell_fits.gives

  wire_good : (g : Signal) → Driven g → Member g → find ds g.name ≡ Some (declare_signal sorts.Wire g) → Good (assign_signal n g)
  wire_good g d m e before new =
      let x = signal_spot g in
      let none : assigned before g.name ≡ None = not_assigned before g.name new in
      let go : assign_faults ds before x (expression_of n d.cell) ≡ [] =
      joined_faults _ _ (joined_faults _ _ (joined_faults _ _ (kept _ _ (ap (passes is_target) e))
      (kept _ _ (both (is_none (assigned before g.name)) (passes (λ d. is_output d.sort) (find ds g.name)) (is_plain (expression_of n d.cell))
      (ap is_none none) (ap (passes (λ d. is_output d.sort)) e))))
      (ap (flat_map (unfit_faults ds)) d.sound.takes ∙ fit_operands d.cell.operands d.operands_used))
      (same_width 0 _ _ (of_signal g m ∙ sym (expression_is g d))) in
      ap (λ k. assign_faults ds before x (driver n k)) d.kind_is ∙ go
    where
      both : (a b c : Bool) → a ≡ true → b ≡ false → (a && (not b || c)) ≡ true
      both a b c f g = rw (f, g) refl

  output_good : (o : List ℕ × ℕ) → Shown o → Good (assign_output n o)
  output_good o h before new =
      let none : assigned before o.0 ≡ None = not_assigned before o.0 new in
      joined_faults _ _ (joined_faults _ _ (joined_faults _ _ (kept _ _ (ap (passes is_target) h.2))
      (kept _ _ (both (is_none (assigned before o.0)) (not (passes (λ d. is_output d.sort) (find ds o.0))) (ap is_none none))))
      (joined_faults _ _ (kept _ _ h.1.fits) refl))
      (same_width 0 _ _ (ap (λ o. width_in o) h.2 ∙ declared_width (Netlist.width_of n o.1) h.1.some h.1.narrow ∙ sym h.1.width))
    where
      both : (a b : Bool) → a ≡ true → (a && (b || true)) ≡ true
      both a true f = rw f refl
      both a false f = rw f refl

  register_good : (g : Signal) → Held g → Member g → find ds g.name ≡ Some (declare_signal sorts.Reg g) → Good (update_signal n g)
  register_good g d m e before new =
      let new2 : Has g.name (targets before) → ⊥ = λ k. new (subst (λ (w : Name). Has w (targets before)) (sym (target_is g g.kind)) k) in
      let none : updated before g.name ≡ None = not_updated before g.name new2 in
      let go : always_faults ds before clock reset (signal_spot g) (spot_of (literal g.width d.init)) (signal_spot g) (named_spot n d.next) ≡ [] =
      joined_faults _ _ (joined_faults _ _ (joined_faults _ _ (joined_faults _ _ (joined_faults _ _ (joined_faults _ _ (joined_faults _ _ refl refl)
      (kept _ _ (ap (passes (λ d. is_reg d.sort)) e))) (kept _ _ (same_name g.name))) (kept _ _ (ap is_none none))) (kept _ _ d.next_used.fits))
      (same_width 0 _ _ (of_signal g m ∙ sym d.literal_is.width_is)))
      (same_width 0 _ _ (of_signal g m ∙ sym (d.next_used.width ∙ d.next_width))) in
      ap (λ k. statement_faults ds before (updated_by n g k)) d.kind_is ∙ go
    where
      target_is : (g : Signal) (k : Kind) → target (updated_by n g k) ≡ g.name
      target_is g Input = refl
      target_is g (Reg init None) = refl
      target_is g (Reg init (Some m)) = refl
      target_is g (Wire cell) = refl

  pub all_good : Each Good ss
  all_good =
      each_join Good (map (assign_signal n) ws) _ (each_mapped Good (assign_signal n) ws
      (each_both Driven (λ g. Member g × (find ds g.name ≡ Some (declare_signal sorts.Wire g))) (λ g. Good (assign_signal n g))
      (λ g d k. wire_good g d k.0 k.1) ws wires_driven (each_both Member (λ g. find ds g.name ≡ Some (declare_signal sorts.Wire g)) _
      (λ g m e. (m, e)) ws members.2 wire_known)))
      (each_join Good (map (assign_output n) n.outputs) _ (each_mapped Good (assign_output n) n.outputs (each_stands Shown (λ o. Good (assign_output n o)) output_good n.outputs outputs_shown))
      (each_mapped Good (update_signal n) rs (each_both Held (λ g. Member g × (find ds g.name ≡ Some (declare_signal sorts.Reg g)))
      (λ g. Good (update_signal n g)) (λ g d k. register_good g d k.0 k.1) rs registers_held
      (each_both Member (λ g. find ds g.name ≡ Some (declare_signal sorts.Reg g)) _ (λ g m e. (m, e)) rs members.1 register_known))))

  targets_are : targets ss ≡ signal_names ws ++ (output_names n.outputs ++ signal_names rs)
  targets_are =
      map-append target (map (assign_signal n) ws) (map (assign_output n) n.outputs ++ map (update_signal n) rs)
      ∙ ap (λ (l : List Name). l ++ targets (map (assign_output n) n.outputs ++ map (update_signal n) rs)) (of_wires ws)
      ∙ ap (λ (l : List Name). signal_names ws ++ l) (map-append target (map (assign_output n) n.outputs) (map (update_signal n) rs) ∙ ap
      (λ (l : List Name). l ++ targets (map (update_signal n) rs)) (of_outputs n.outputs) ∙ ap (λ (l : List Name). output_names n.outputs ++ l) (of_registers rs))
    where
      of_wires : (gs : List Signal) → targets (map (assign_signal n) gs) ≡ signal_names gs
      of_wires [] = refl
      of_wires (g ∷ gs) = ap (λ (l : List Name). g.name ∷ l) (of_wires gs)

      of_outputs : (os : List (List ℕ × ℕ)) → targets (map (assign_output n) os) ≡ output_names os
      of_outputs [] = refl
      of_outputs (o ∷ os) = ap (λ (l : List Name). o.0 ∷ l) (of_outputs os)

      name_is : (g : Signal) (k : Kind) → target (updated_by n g k) ≡ g.name
      name_is g Input = refl
      name_is g (Reg init None) = refl
      name_is g (Reg init (Some m)) = refl
      name_is g (Wire cell) = refl

      of_registers : (gs : List Signal) → targets (map (update_signal n) gs) ≡ signal_names gs
      of_registers [] = refl
      of_registers (g ∷ gs) = ap (λ (w : Name). w ∷ targets (map (update_signal n) gs)) (name_is g g.kind) ∙ ap (λ (l : List Name). g.name ∷ l) (of_registers gs)

  targets_differ : Distinct (targets ss)
  targets_differ =
      let all = WrittenNames.all_differ n net is rs ws whole inputs registers wires in
      let later = distinct_right (signal_names is) (output_names n.outputs ++ (signal_names rs ++ signal_names ws)) all in
      let split = subst Distinct (sym (append_assoc (output_names n.outputs) (signal_names rs) (signal_names ws))) later in
      subst Distinct (sym targets_are) (distinct_swap (output_names n.outputs ++ signal_names rs) (signal_names ws) split)

  -- what each statement does is found
  done : Each (Does ss) ss
  done = each_does ss targets_differ

  pub wires_done : Each (λ g. assigned ss g.name ≡ Some (driver n g.kind)) ws
  wires_done = each_map (Does ss) (assign_signal n) ws (each_left (Does ss) (map (assign_signal n) ws) _ done)

  pub outputs_done : Each (λ (o : List ℕ × ℕ). assigned ss o.0 ≡ Some (Plain (named_spot n o.1))) n.outputs
  outputs_done = each_map (Does ss) (assign_output n) n.outputs (each_left (Does ss) (map (assign_output n) n.outputs) _ (each_right (Does ss) (map (assign_signal n) ws) _ done))

  pub registers_done : Each (λ g. (h : Held g) × (updated ss g.name ≡ Some (spot_of (literal g.width h.init), named_spot n h.next))) rs
  registers_done =
      each_both Held (λ g. Does ss (update_signal n g)) (λ g. (h : Held g) × (updated ss g.name ≡ Some (spot_of (literal g.width h.init), named_spot n h.next)))
      (λ g h d. (h, subst (λ k. Does ss (updated_by n g k)) h.kind_is d)) rs registers_held
      (each_map (Does ss) (update_signal n) rs (each_right (Does ss) (map (assign_output n) n.outputs) _ (each_right (Does ss) (map (assign_signal n) ws) _ done)))

  nothing_missing : flat_map (missing_faults ss) ds ≡ []
  nothing_missing =
      let i = map (declare_signal sorts.Input) is in
      let o = map (declare_output n) n.outputs in
      let r = map (declare_signal sorts.Reg) rs in
      let w = map (declare_signal sorts.Wire) ws in
      let a = mapped_faults (missing_faults ss) (declare_signal sorts.Input) is (each_stands IsInput (λ g. missing_faults ss (declare_signal sorts.Input g) ≡ []) (λ g e. refl) is inputs) in
      let b = mapped_faults (missing_faults ss) (declare_output n) n.outputs
      (each_stands (λ (o : List ℕ × ℕ). assigned ss o.0 ≡ Some (Plain (named_spot n o.1))) (λ o. missing_faults ss (declare_output n o) ≡ [])
      (λ o e. joined_faults _ _ (kept _ _ (ap (λ k. not (is_none k)) e)) refl) n.outputs outputs_done) in
      let c = mapped_faults (missing_faults ss) (declare_signal sorts.Reg) rs
      (each_stands (λ g. (h : Held g) × (updated ss g.name ≡ Some (spot_of (literal g.width h.init), named_spot n h.next)))
      (λ g. missing_faults ss (declare_signal sorts.Reg g) ≡ []) (λ g e. kept _ _ (ap (λ k. not (is_none k)) e.1)) rs registers_done) in
      let d = mapped_faults (missing_faults ss) (declare_signal sorts.Wire) ws
      (each_stands (λ g. assigned ss g.name ≡ Some (driver n g.kind)) (λ g. missing_faults ss (declare_signal sorts.Wire g) ≡ [])
      (λ g e. joined_faults _ _ (kept _ _ (ap (λ k. not (is_none k)) e)) refl) ws wires_done) in
      flat_faults (missing_faults ss) i (o ++ (r ++ w)) a (flat_faults (missing_faults ss) o (r ++ w) b (flat_faults (missing_faults ss) r w c d))

  pub nothing_broken : HasPorts n → faults f0 ≡ []
  unfolding faults
  nothing_broken p =
      joined_faults _ _ (joined_faults _ _ (joined_faults _ _ (joined_faults _ _ no_number_faults no_repeat_faults) (no_port_rule_faults p))
      (no_statement_faults [] ss targets_differ all_good)) nothing_missing
