-- A written file is the netlist that it was written of.
use Rattle.safl_verilog.proofs.Common.{Each, IsInput, IsNetlist, Netlist, Reg, Signal, Sort, Wire, append-nil, each_join, each_stands}
use Rattle.safl_verilog.proofs.Common.{filter, filter-append, literal, map-append}
use Rattle.std.proofs.Common.{◌≡◌, ℕ, List, [], ◌∷◌, ◌++◌, map, Bool, true, false, Some, refl, sym, ap, subst, ◌∙◌, append_assoc}
use Rattle.std.proofs.lemmas.Simd.{map-map}
use Rattle.safl_word.proofs.Lists.{get_map}
use Rattle.safl_net.specs.Making.{name_at as name_of}
use Rattle.safl_verilog.specs.declared.token.Sort.TheVariants as sorts
use Rattle.safl_verilog.specs.Files.{Spot, Plain, Declaration, Statement, File}
use Rattle.safl_verilog.specs.Faults.{is_data, is_reg, is_wire, is_output, operands, assigned, updated}
use Rattle.safl_verilog.specs.Netlists
use Rattle.safl_verilog.specs.Netlists.{signals_of, declared_place, signal_number, cell_of, driven, register_of, signal_kind, signal_of, shown_signal, output_of, netlist}
use Rattle.safl_verilog.proofs.WholeNets.{IsUpdated, IsAssigned}
use Rattle.safl_verilog.proofs.Distinct.{Name, Distinct, each_mapped, each_both, filter_all, filter_none}
use Rattle.safl_verilog.proofs.Lookups.{names, place_at}
use Rattle.safl_verilog.proofs.Printed.{spot_of}
use Rattle.safl_verilog.proofs.FileOf.{named_spot, expression_of, declare_signal, declare_output, driver, declarations_of, statements_of, file_of}
use Rattle.safl_verilog.proofs.WrittenNames
use Rattle.safl_verilog.proofs.WrittenNames.{sort_by, declared, signal_names, declared_width}
use Rattle.safl_verilog.proofs.WrittenRules

-- lists that agree at each place
mapped_back : {X : Type 0} (f : X → X) (xs : List X) → Each (λ x. f x ≡ x) xs → map f xs ≡ xs
mapped_back f [] h = refl
mapped_back f (x ∷ xs) h = ap (λ y. y ∷ map f xs) h.0 ∙ ap (λ (l : List _). x ∷ l) (mapped_back f xs h.1)

map_alike : {X Y : Type 0} (f g : X → Y) (xs : List X) → Each (λ x. f x ≡ g x) xs → map f xs ≡ map g xs
map_alike f g [] h = refl
map_alike f g (x ∷ xs) h = ap (λ y. y ∷ map f xs) h.0 ∙ ap (λ (l : List _). g x ∷ l) (map_alike f g xs h.1)

module _ (n : Netlist) (net : IsNetlist n) (is rs ws : List Signal) (whole : n.signals ≡ is ++ (rs ++ ws)) (inputs : Each IsInput is) (registers : Each IsUpdated rs) (wires : Each IsAssigned ws) where
  abbrev ds : List Declaration
  ds = declarations_of n is rs ws

  abbrev ss : List Statement
  ss = statements_of n rs ws

  abbrev f0 : File
  f0 = file_of n is rs ws

  abbrev Driven : Signal → Type 0
  Driven g = WrittenRules.Driven n net is rs ws whole inputs registers wires g

  abbrev Held : Signal → Type 0
  Held g = WrittenRules.Held n net is rs ws whole inputs registers wires g

  abbrev Used : ℕ → Type 0
  Used s = WrittenNames.Used n net is rs ws whole inputs registers wires s

  -- ---- the signals

  segment : (p : Declaration → Bool) (i o r w : List Declaration) (a b c d : List Declaration) → filter p i ≡ a → filter p o ≡ b → filter p r ≡ c →
      filter p w ≡ d → filter p (i ++ (o ++ (r ++ w))) ≡ a ++ (b ++ (c ++ d))
  segment p i o r w a b c d e f g h =
      filter-append p i (o ++ (r ++ w)) ∙ ap (λ (l : List Declaration). l ++ filter p (o ++ (r ++ w))) e
      ∙ ap (λ (l : List Declaration). a ++ l) (filter-append p o (r ++ w) ∙ ap (λ (l : List Declaration). l ++ filter p (r ++ w)) f
      ∙ ap (λ (l : List Declaration). b ++ l) (filter-append p r w ∙ ap (λ (l : List Declaration). l ++ filter p w) g ∙ ap (λ (l : List Declaration). c ++ l) h))

  all_of : {X : Type 0} (p : Declaration → Bool) (b : X → Declaration) (xs : List X) → ((x : X) → p (b x) ≡ true) → filter p (map b xs) ≡ map b xs
  all_of p b xs h = filter_all p (map b xs) (each_mapped (λ d. p d ≡ true) b xs (every xs))
    where
      every : (xs : List _) → Each (λ x. p (b x) ≡ true) xs
      every [] = tt
      every (x ∷ xs) = (h x, every xs)

  none_of : {X : Type 0} (p : Declaration → Bool) (b : X → Declaration) (xs : List X) → ((x : X) → p (b x) ≡ false) → filter p (map b xs) ≡ []
  none_of p b xs h = filter_none p (map b xs) (each_mapped (λ d. p d ≡ false) b xs (every xs))
    where
      every : (xs : List _) → Each (λ x. p (b x) ≡ false) xs
      every [] = tt
      every (x ∷ xs) = (h x, every xs)

  abbrev i : List Declaration
  i = map (declare_signal sorts.Input) is

  abbrev o : List Declaration
  o = map (declare_output n) n.outputs

  abbrev r : List Declaration
  r = map (declare_signal sorts.Reg) rs

  abbrev w : List Declaration
  w = map (declare_signal sorts.Wire) ws

  data_are : filter is_data ds ≡ i
  data_are =
      let members = WrittenRules.members n net is rs ws whole inputs registers wires in
      let a : filter is_data i ≡ i = filter_all is_data i (each_mapped (λ d. is_data d ≡ true) (declare_signal sorts.Input) is
      (each_stands (WrittenRules.Member n net is rs ws whole inputs registers wires) (λ g. is_data (declare_signal sorts.Input g) ≡ true)
      (λ g m. let d = WrittenNames.is_data_name n net is rs ws whole inputs registers wires g.name m.0.good in rw (d.0, d.1) refl) is members.0)) in
      segment is_data i o r w i [] [] [] a (none_of is_data (declare_output n) n.outputs (λ x. refl))
      (none_of is_data (declare_signal sorts.Reg) rs (λ x. refl)) (none_of is_data (declare_signal sorts.Wire) ws (λ x. refl)) ∙ append-nil i

  registers_are : filter (λ (d : Declaration). is_reg d.sort) ds ≡ r
  registers_are =
      let p : Declaration → Bool = λ (d : Declaration). is_reg d.sort in
      segment p i o r w [] [] r [] (none_of p (declare_signal sorts.Input) is (λ x. refl)) (none_of p (declare_output n) n.outputs (λ x. refl))
      (all_of p (declare_signal sorts.Reg) rs (λ x. refl)) (none_of p (declare_signal sorts.Wire) ws (λ x. refl)) ∙ append-nil r

  wires_are : filter (λ (d : Declaration). is_wire d.sort) ds ≡ w
  wires_are =
      let p : Declaration → Bool = λ (d : Declaration). is_wire d.sort in
      segment p i o r w [] [] [] w (none_of p (declare_signal sorts.Input) is (λ x. refl)) (none_of p (declare_output n) n.outputs (λ x. refl))
      (none_of p (declare_signal sorts.Reg) rs (λ x. refl)) (all_of p (declare_signal sorts.Wire) ws (λ x. refl))

  outputs_are : filter (λ (d : Declaration). is_output d.sort) ds ≡ o
  outputs_are =
      let p : Declaration → Bool = λ (d : Declaration). is_output d.sort in
      segment p i o r w [] o [] [] (none_of p (declare_signal sorts.Input) is (λ x. refl)) (all_of p (declare_output n) n.outputs (λ x. refl))
      (none_of p (declare_signal sorts.Reg) rs (λ x. refl)) (none_of p (declare_signal sorts.Wire) ws (λ x. refl)) ∙ append-nil o

  declared_as : (s : Sort) (P : Signal → Type 0) → ((g : Signal) → P g → sort_by g.kind ≡ s) → (gs : List Signal) → Each P gs → map declared gs ≡ map (declare_signal s) gs
  declared_as s P f gs h = map_alike declared (declare_signal s) gs (each_stands P (λ g. declared g ≡ declare_signal s g) (λ g p. ap (λ s. declare_signal s g) (f g p)) gs h)

  signals_are : signals_of ds ≡ map declared n.signals
  signals_are =
      let a = declared_as sorts.Input IsInput (λ g e. ap sort_by e) is inputs in
      let b = declared_as sorts.Reg IsUpdated (λ g e. ap sort_by e.2) rs registers in
      let c = declared_as sorts.Wire IsAssigned (λ g e. ap sort_by e.1) ws wires in
      let whole_map : map declared n.signals ≡ i ++ (r ++ w) = ap (map declared) whole ∙ map-append declared is (rs ++ ws) ∙ ap
      (λ (l : List Declaration). l ++ map declared (rs ++ ws)) a ∙ ap (λ (l : List Declaration). i ++ l)
      (map-append declared rs ws ∙ ap (λ (l : List Declaration). l ++ map declared ws) b ∙ ap (λ (l : List Declaration). r ++ l) c) in
      ap (λ (l : List Declaration). l ++ filter (λ (d : Declaration). is_reg d.sort) ds ++ filter (λ (d : Declaration). is_wire d.sort) ds) data_are
      ∙ ap (λ (l : List Declaration). i ++ l ++ filter (λ (d : Declaration). is_wire d.sort) ds) registers_are
      ∙ ap (λ (l : List Declaration). i ++ r ++ l) wires_are ∙ append_assoc i r w ∙ sym whole_map

  declared_names : (gs : List Signal) → names (map declared gs) ≡ signal_names gs
  declared_names [] = refl
  declared_names (g ∷ gs) = ap (λ (l : List Name). g.name ∷ l) (declared_names gs)

  -- the number of a name is that of its signal
  number_is : (s : ℕ) → Used s → signal_number ds (name_of n s) ≡ s
  number_is s u =
      let d : Distinct (names (map declared n.signals)) = subst Distinct (sym (declared_names n.signals)) (WrittenNames.signals_differ n net is rs ws whole inputs registers wires) in
      ap (λ (l : List Declaration). declared_place l (name_of n s)) signals_are ∙ ap (declared_place (map declared n.signals)) u.named ∙ place_at
      (map declared n.signals) d s (declared u.signal) (get_map declared n.signals s u.signal u.stands)

  numbers_are : (xs : List ℕ) → Each Used xs → map (λ (a : Spot). signal_number ds a.bytes) (map (named_spot n) xs) ≡ xs
  numbers_are [] h = refl
  numbers_are (x ∷ xs) h = ap (λ y. y ∷ map (λ (a : Spot). signal_number ds a.bytes) (map (named_spot n) xs)) (number_is x h.0) ∙ ap (λ (l : List ℕ). x ∷ l) (numbers_are xs h.1)

  cell_is : (g : Signal) → (d : Driven g) → cell_of ds (expression_of n d.cell) ≡ d.cell
  cell_is g d =
      ap (λ p. record { op = p; operands = map (λ (a : Spot). signal_number ds a.bytes) (operands (expression_of n d.cell)) }) d.sound.does
      ∙ ap (λ (l : List ℕ). record { op = d.cell.op; operands = l }) (ap (map (λ (a : Spot). signal_number ds a.bytes)) d.sound.takes ∙ numbers_are d.cell.operands d.operands_used)

  abbrev Back : Signal → Type 0
  Back g = signal_of f0 (declared g) ≡ g

  back : (g : Signal) → WrittenRules.Member n net is rs ws whole inputs registers wires g → signal_kind f0 (sort_by g.kind) g.name ≡ g.kind → Back g
  back g m e =
      ap (λ k. record { name = g.name; width = k; kind = signal_kind f0 (sort_by g.kind) g.name }) (declared_width g.width m.0.some m.0.most)
      ∙ ap (λ k. record { name = g.name; width = g.width; kind = k }) e

  inputs_back : Each Back is
  inputs_back =
      each_both IsInput (WrittenRules.Member n net is rs ws whole inputs registers wires) Back (λ g e m. back g m (ap (λ k. signal_kind f0 (sort_by k) g.name) e ∙ sym e)) is inputs
      (WrittenRules.members n net is rs ws whole inputs registers wires).0

  registers_back : Each Back rs
  registers_back =
      each_both (λ g. (h : Held g) × (updated ss g.name ≡ Some (spot_of (literal g.width h.init), named_spot n h.next))) (WrittenRules.Member n net is rs ws whole inputs registers wires) Back
      (λ g h m. back g m (
      ap (λ k. signal_kind f0 (sort_by k) g.name) h.0.kind_is
      ∙ ap (register_of ds) h.1
      ∙ ap (λ v. Reg v (Some (signal_number ds (name_of n h.0.next)))) h.0.literal_is.bits_is
      ∙ ap (λ k. Reg h.0.init (Some k)) (number_is h.0.next h.0.next_used) ∙ sym h.0.kind_is)) rs
      (WrittenRules.registers_done n net is rs ws whole inputs registers wires) (WrittenRules.members n net is rs ws whole inputs registers wires).1

  wires_back : Each Back ws
  wires_back =
      each_both (λ g. Driven g × (assigned ss g.name ≡ Some (driver n g.kind))) (WrittenRules.Member n net is rs ws whole inputs registers wires) Back
      (λ g h m. back g m (
      ap (λ k. signal_kind f0 (sort_by k) g.name) h.0.kind_is
      ∙ ap (λ x. Wire (Netlists.driven ds x)) (h.1 ∙ ap (λ k. Some (driver n k)) h.0.kind_is)
      ∙ ap (λ c. Wire (Some c)) (cell_is g h.0) ∙ sym h.0.kind_is)) ws
      (each_both Driven (λ g. assigned ss g.name ≡ Some (driver n g.kind)) (λ g. Driven g × (assigned ss g.name ≡ Some (driver n g.kind)))
      (λ g a b. (a, b)) ws (WrittenRules.wires_driven n net is rs ws whole inputs registers wires)
      (WrittenRules.wires_done n net is rs ws whole inputs registers wires))
      (WrittenRules.members n net is rs ws whole inputs registers wires).2

  signals_back : map (signal_of f0) (signals_of ds) ≡ n.signals
  signals_back =
      let all : Each Back n.signals = subst (λ (l : List Signal). Each Back l) (sym whole) (each_join Back is (rs ++ ws) inputs_back (each_join Back rs ws registers_back wires_back)) in
      ap (map (signal_of f0)) signals_are ∙ map-map (signal_of f0) declared n.signals ∙ mapped_back (λ g. signal_of f0 (declared g)) n.signals all

  outputs_back : map (output_of f0) (filter (λ (d : Declaration). is_output d.sort) ds) ≡ n.outputs
  outputs_back =
      ap (map (output_of f0)) outputs_are ∙ map-map (output_of f0) (declare_output n) n.outputs
      ∙ mapped_back (λ x. output_of f0 (declare_output n x)) n.outputs
      (each_both (WrittenRules.Shown n net is rs ws whole inputs registers wires)
      (λ (x : List ℕ × ℕ). assigned ss x.0 ≡ Some (Plain (named_spot n x.1))) (λ x. output_of f0 (declare_output n x) ≡ x)
      (λ x h e. let k : shown_signal ds (assigned ss x.0) ≡ x.1 = ap (shown_signal ds) e ∙ number_is x.1 h.1 in pair x.0 _ x.1 k) n.outputs
      (WrittenRules.outputs_shown n net is rs ws whole inputs registers wires) (WrittenRules.outputs_done n net is rs ws whole inputs registers wires))
    where
      pair : (a : List ℕ) (b c : ℕ) → b ≡ c → ◌≡◌ {A = List ℕ × ℕ} (a, b) (a, c)
      pair a b c e = ap (λ k. (a, k)) e

  pub means : netlist f0 ≡ n
  unfolding netlist
  means =
      ap (λ (l : List Signal). record { signals = l; outputs = map (output_of f0) (filter (λ (d : Declaration). is_output d.sort) ds) }) signals_back
      ∙ ap (λ (l : List (List ℕ × ℕ)). record { signals = n.signals; outputs = l }) outputs_back
