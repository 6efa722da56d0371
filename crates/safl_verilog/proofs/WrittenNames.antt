-- The names of a written file, and what is found by them.
use Rattle.safl_verilog.proofs.Common.{Declaration, Each, IsInput, IsNetlist, Keyword, Sort, each_join, get_some, map-append, value}
use Rattle.std.proofs.Common.{◌≡◌, ◌≢◌, ℕ, ◌+◌, ◌-◌, ◌<◌, ◌≤◌, ◌^◌, List, [], ◌∷◌, ◌++◌, length, map, true, false, not, ◌&&◌, nat_le}
use Rattle.std.proofs.Common.{Some, refl, sym, ap, subst, ◌∙◌, inl, inr, arith, lit<, bytes_eq}
use Rattle.std.specs.Prelude.{◌⊎◌, codes, decimal, slice_get}
use Rattle.std.proofs.lemmas.Bool.{and_parts, not-true}
use Rattle.safl_word.proofs.Naturals.{short_is}
use Rattle.safl_net.specs.Netlist.{Netlist, Signal, Kind, Input, Reg, Wire, width_of}
use Rattle.safl_net.specs.Names.{is_good, is_identifier, is_reserved}
use Rattle.safl_net.specs.Netlist
use Rattle.safl_net.specs.Making
use Rattle.safl_net.specs.Making.{name_at as name_of}
use Rattle.safl_verilog.specs.declared.token.Keyword.TheVariants as keywords
use Rattle.safl_verilog.specs.declared.token.Sort.TheVariants as sorts
use Rattle.safl_verilog.specs.Tokens.{keyword_text, IsIdentifier}
use Rattle.safl_verilog.specs.Faults
use Rattle.safl_verilog.specs.Faults.{find, passes, is_signal, is_clock, is_reset, width_in}
use Rattle.safl_verilog.proofs.WholeNets.{IsUpdated, IsAssigned}
use Rattle.safl_verilog.proofs.Decimals.{decimal_value}
use Rattle.safl_verilog.proofs.Distinct.{Name, Has, Distinct, Apart, has_either, has_left, has_right, distinct_between, has_at, distinct_at}
use Rattle.safl_verilog.proofs.Distinct.{each_left, each_right, each_map, each_both, each_at, other_name}
use Rattle.safl_verilog.proofs.Lookups.{names, each_found}
use Rattle.safl_verilog.proofs.FileOf.{declare_signal, declare_output, declare_bit, clock, reset, declarations_of}

-- ---- good names

keyword_reserved : (k : Keyword) → is_reserved (keyword_text k) ≡ true
unfolding is_reserved
keyword_reserved keywords.Module = refl
keyword_reserved keywords.Endmodule = refl
keyword_reserved keywords.Input = refl
keyword_reserved keywords.Output = refl
keyword_reserved keywords.Reg = refl
keyword_reserved keywords.Wire = refl
keyword_reserved keywords.Assign = refl
keyword_reserved keywords.Always = refl
keyword_reserved keywords.Posedge = refl
keyword_reserved keywords.If = refl
keyword_reserved keywords.Else = refl

-- a good name is an identifier, and no word that is reserved
good_parts : (w : Name) → is_good w ≡ true → (is_identifier w ≡ true) × (length w ≤ 200) × (is_reserved w ≡ false)
unfolding is_good
good_parts w h =
    let a = and_parts (is_identifier w && nat_le (length w) 200) (not (is_reserved w)) h in
    let b = and_parts (is_identifier w) (nat_le (length w) 200) a.0 in
    (b.0, short_is (length w) b.1, not-true (is_reserved w) a.1)

pub good_identifier : (w : Name) → is_good w ≡ true → IsIdentifier w
good_identifier w h =
    let p = good_parts w h in
    record { like = p.0; short = p.1; free = λ k e. let f : false ≡ true = sym p.2 ∙ ap is_reserved e ∙ keyword_reserved k in cc }

reserved_other : (v w : Name) → is_reserved v ≡ true → is_good w ≡ true → v ≢ w
reserved_other v w r h e = let f : false ≡ true = sym (good_parts w h).2 ∙ ap is_reserved (sym e) ∙ r in cc

clock_reserved : is_reserved (codes "clk") ≡ true
unfolding is_reserved
clock_reserved = refl

reset_reserved : is_reserved (codes "rst") ≡ true
unfolding is_reserved
reset_reserved = refl

-- ---- widths

-- the range that is declared has the width
pub declared_width : (w : ℕ) → 1 ≤ w → w ≤ 128 → value 10 (decimal (w - 1)) + 1 ≡ w
declared_width w a b = let big : 128 < 2 ^ 128 = lit< tt in let v = decimal_value (w - 1) (omega arith) in omega (arith, v)

-- ---- the names of a netlist

abbrev pub sort_by : Kind → Sort
sort_by Input = sorts.Input
sort_by (Reg init next) = sorts.Reg
sort_by (Wire cell) = sorts.Wire

abbrev pub declared : Signal → Declaration
declared g = declare_signal (sort_by g.kind) g

abbrev pub signal_names : List Signal → List Name
signal_names gs = map (λ (g : Signal). g.name) gs

abbrev pub output_names : List (List ℕ × ℕ) → List Name
output_names os = map (λ (o : List ℕ × ℕ). o.0) os

named_signals : (s : Sort) (gs : List Signal) → names (map (declare_signal s) gs) ≡ signal_names gs
named_signals s [] = refl
named_signals s (g ∷ gs) = ap (λ (l : List Name). g.name ∷ l) (named_signals s gs)

named_outputs : (n : Netlist) (os : List (List ℕ × ℕ)) → names (map (declare_output n) os) ≡ output_names os
named_outputs n [] = refl
named_outputs n (o ∷ os) = ap (λ (l : List Name). o.0 ∷ l) (named_outputs n os)

pub names_append : (xs ys : List Declaration) → names (xs ++ ys) ≡ names xs ++ names ys
names_append xs ys = map-append (λ (d : Declaration). d.name.bytes) xs ys

module _ (n : Netlist) (net : IsNetlist n) (is rs ws : List Signal) (whole : n.signals ≡ is ++ (rs ++ ws)) (inputs : Each IsInput is) (registers : Each IsUpdated rs) (wires : Each IsAssigned ws) where
  abbrev ds : List Declaration
  ds = declarations_of n is rs ws

  abbrev pub all_names : List Name
  all_names = signal_names is ++ (output_names n.outputs ++ (signal_names rs ++ signal_names ws))

  -- the names of the declarations
  pub names_are : names ds ≡ codes "clk" ∷ codes "rst" ∷ all_names
  names_are =
      let i = map (declare_signal sorts.Input) is in
      let o = map (declare_output n) n.outputs in
      let r = map (declare_signal sorts.Reg) rs in
      let w = map (declare_signal sorts.Wire) ws in
      let a = names_append i (o ++ (r ++ w)) ∙ ap (λ (l : List Name). names i ++ l) (names_append o (r ++ w) ∙ ap (λ (l : List Name). names o ++ l) (names_append r w)) in
      let b : names i ++ (names o ++ (names r ++ names w)) ≡ all_names =
      ap (λ (l : List Name). l ++ (names o ++ (names r ++ names w))) (named_signals sorts.Input is)
      ∙ ap (λ (l : List Name). signal_names is ++ (l ++ (names r ++ names w))) (named_outputs n n.outputs)
      ∙ ap (λ (l : List Name). signal_names is ++ (output_names n.outputs ++ (l ++ names w))) (named_signals sorts.Reg rs)
      ∙ ap (λ (l : List Name). signal_names is ++ (output_names n.outputs ++ (signal_names rs ++ l))) (named_signals sorts.Wire ws) in
      ap (λ (l : List Name). codes "clk" ∷ codes "rst" ∷ l) (a ∙ b)

  signals_are : signal_names n.signals ≡ signal_names is ++ (signal_names rs ++ signal_names ws)
  signals_are = ap signal_names whole ∙ map-append (λ (g : Signal). g.name) is (rs ++ ws) ∙ ap (λ (l : List Name). signal_names is ++ l) (map-append (λ (g : Signal). g.name) rs ws)

  pub signals_differ : Distinct (signal_names n.signals)
  signals_differ = distinct_at (λ (g : Signal). g.name) n.signals net.apart

  outputs_differ : Distinct (output_names n.outputs)
  outputs_differ = distinct_at (λ (o : List ℕ × ℕ). o.0) n.outputs net.outputs_apart

  no_output : Apart (signal_names n.signals) (output_names n.outputs)
  no_output w a b =
      let g = has_at (λ (g : Signal). g.name) n.signals w a in
      let o = has_at (λ (o : List ℕ × ℕ). o.0) n.outputs w b in
      net.between g.0 o.0 g.1 o.1 g.2 o.2 (g.3 ∙ sym o.3)

  pub all_differ : Distinct all_names
  all_differ =
      distinct_between (signal_names is) (output_names n.outputs) (signal_names rs ++ signal_names ws) (subst Distinct signals_are signals_differ) outputs_differ
      (subst (λ (l : List Name). Apart l (output_names n.outputs)) signals_are no_output)

  signal_or_output : (w : Name) → Has w all_names → Has w (signal_names n.signals) ⊎ Has w (output_names n.outputs)
  signal_or_output w h = elim (has_either w (signal_names is) (output_names n.outputs ++ (signal_names rs ++ signal_names ws)) h) [
    | inl a ↦ inl (back (has_left w (signal_names is) (signal_names rs ++ signal_names ws) a))
    | inr a ↦ elim (has_either w (output_names n.outputs) (signal_names rs ++ signal_names ws) a) [
      | inl b ↦ inr b
      | inr b ↦ inl (back (has_right w (signal_names is) (signal_names rs ++ signal_names ws) b))
    ]
  ]
    where
      back : Has w (signal_names is ++ (signal_names rs ++ signal_names ws)) → Has w (signal_names n.signals)
      back k = subst (λ (l : List Name). Has w l) (sym signals_are) k

  good_in : (w : Name) → Has w all_names → is_good w ≡ true
  good_in w h = elim (signal_or_output w h) [
    | inl a ↦ (let g = has_at (λ (g : Signal). g.name) n.signals w a in subst (λ (v : Name). is_good v ≡ true) g.3 (net.signals g.0 g.1 g.2).good)
    | inr a ↦ (let o = has_at (λ (o : List ℕ × ℕ). o.0) n.outputs w a in subst (λ (v : Name). is_good v ≡ true) o.3 (net.outputs o.0 o.1 o.2).0)
  ]

  pub declared_differ : Distinct (names ds)
  declared_differ = subst Distinct (sym names_are) (
    (λ k. elim k [ inl e ↦ (let f : codes "rst" ≡ codes "clk" = e in clash f) | inr m ↦ reserved_other (codes "clk") (codes "clk") clock_reserved (good_in (codes "clk") m) refl ]),
    ((λ m. reserved_other (codes "rst") (codes "rst") reset_reserved (good_in (codes "rst") m) refl), all_differ),
  )
    where
      clash : codes "rst" ≡ codes "clk" → ⊥
      clash e = let f : false ≡ true = ap (bytes_eq (codes "clk")) e in cc

  -- ---- what is found

  found_all : Each (λ (d : Declaration). find ds d.name.bytes ≡ Some d) ds
  found_all = each_found ds declared_differ

  pub clock_found : find ds (codes "clk") ≡ Some (declare_bit clock)
  clock_found = found_all.0

  pub reset_found : find ds (codes "rst") ≡ Some (declare_bit reset)
  reset_found = found_all.1.0

  abbrev Found : Declaration → Type 0
  Found d = find ds d.name.bytes ≡ Some d

  found_rest : Each Found (map (declare_signal sorts.Input) is ++ (map (declare_output n) n.outputs ++ (map (declare_signal sorts.Reg) rs ++ map (declare_signal sorts.Wire) ws)))
  found_rest = found_all.1.1

  found_later : Each Found (map (declare_output n) n.outputs ++ (map (declare_signal sorts.Reg) rs ++ map (declare_signal sorts.Wire) ws))
  found_later = each_right Found (map (declare_signal sorts.Input) is) _ found_rest

  found_last : Each Found (map (declare_signal sorts.Reg) rs ++ map (declare_signal sorts.Wire) ws)
  found_last = each_right Found (map (declare_output n) n.outputs) _ found_later

  abbrev pub Known : Signal → Type 0
  Known g = find ds g.name ≡ Some (declared g)

  known_as : (s : Sort) (g : Signal) → s ≡ sort_by g.kind → Found (declare_signal s g) → Known g
  known_as s g e h = h ∙ ap (λ s. Some (declare_signal s g)) e

  pub inputs_known : Each Known is
  inputs_known = each_both IsInput (λ g. Found (declare_signal sorts.Input g)) Known (λ g e h. known_as sorts.Input g (sym (ap sort_by e)) h) is
      inputs (each_map Found (declare_signal sorts.Input) is (each_left Found (map (declare_signal sorts.Input) is) _ found_rest))

  pub registers_known : Each Known rs
  registers_known = each_both IsUpdated (λ g. Found (declare_signal sorts.Reg g)) Known (λ g e h. known_as sorts.Reg g (sym (ap sort_by e.2)) h) rs
      registers (each_map Found (declare_signal sorts.Reg) rs (each_left Found (map (declare_signal sorts.Reg) rs) _ found_last))

  pub wires_known : Each Known ws
  wires_known = each_both IsAssigned (λ g. Found (declare_signal sorts.Wire g)) Known (λ g e h. known_as sorts.Wire g (sym (ap sort_by e.1)) h) ws
      wires (each_map Found (declare_signal sorts.Wire) ws (each_right Found (map (declare_signal sorts.Reg) rs) _ found_last))

  pub known : (s : ℕ) (g : Signal) → slice_get n.signals s ≡ Some g → Known g
  known s g e = each_at Known n.signals s g (subst (λ (l : List Signal). Each Known l) (sym whole) (each_join Known is (rs ++ ws) inputs_known (each_join Known rs ws registers_known wires_known))) e

  pub outputs_known : Each (λ (o : List ℕ × ℕ). find ds o.0 ≡ Some (declare_output n o)) n.outputs
  outputs_known = each_map Found (declare_output n) n.outputs (each_left Found (map (declare_output n) n.outputs) _ found_later)

  -- ---- what is used

  pub is_data_name : (w : Name) → is_good w ≡ true → (not (is_clock w) ≡ true) × (not (is_reset w) ≡ true)
  is_data_name w h = (
    ap not (other_name w (codes "clk") (λ e. reserved_other (codes "clk") w clock_reserved h (sym e))),
    ap not
        (other_name w (codes "rst") (λ e. reserved_other (codes "rst") w reset_reserved h (sym e))),
  )

  pub fit : (g : Signal) → is_good g.name ≡ true → is_signal (declared g) ≡ true
  fit g h = go g.kind
    where
      go : (k : Kind) → is_signal (declare_signal (sort_by k) g) ≡ true
      go Input = let d = is_data_name g.name h in rw (d.0, d.1) refl
      go (Reg init next) = refl
      go (Wire cell) = refl

  -- a signal that is used as an operand
  pub record Used (s : ℕ) : Type 0 where
    pub signal : Signal
    pub stands : slice_get n.signals s ≡ Some signal
    pub named : name_of n s ≡ signal.name
    pub good : is_good signal.name ≡ true
    pub fits : passes is_signal (find ds (name_of n s)) ≡ true
    pub width : Faults.width_declared ds (name_of n s) ≡ width_of n s
    pub narrow : width_of n s ≤ 128
    pub some : 1 ≤ width_of n s

  pub used_at : (s : ℕ) (g : Signal) → slice_get n.signals s ≡ Some g → Used s
  used_at s g e =
      let f = net.signals s g e in
      let name : name_of n s ≡ g.name = ap Making.name_in e in
      let here : find ds (name_of n s) ≡ Some (declared g) = ap (find ds) name ∙ known s g e in
      let w : width_of n s ≡ g.width = ap Netlist.width_in e in
      record {
        signal = g;
        stands = e;
        named = name;
        good = f.good;
        fits = ap (passes is_signal) here ∙ fit g f.good;
        width = ap width_in here ∙ declared_width g.width f.some f.most ∙ sym w;
        narrow = let m : g.width ≤ 128 = f.most in omega arith;
        some = let m : 1 ≤ g.width = f.some in omega arith;
      }

  pub used : (s : ℕ) → s < length n.signals → Used s
  used s h = let g = get_some n.signals s h in used_at s g.0 g.1
