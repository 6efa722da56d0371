-- The faults of one statement, and what it drives.
use Rattle.safl_vread.proofs.Common.{Driver, Item, Op, Operands, VFault, first, flat_map, implied, is_none, literal_word}
use Rattle.std.proofs.Common.{◌≡◌, ℕ, ◌<◌, List, [], ◌++◌, length, get_or, None, Some, Ok, Bool, true, false, not, cond, ◌&&◌, ◌||◌, ◌==◌, bytes_eq, refl, sym, ap, ◌∙◌, arith, slice_get}
use Rattle.std.proofs.lemmas.Option.{slice_get-get_or, slice_get_within}
use Rattle.std.proofs.lemmas.Bool.{and_parts, eq-eqb, ne_eqb}
use Rattle.safl_word.specs.Words.{Word}
use Rattle.safl_verilog.specs.declared.fault.VRule.TheVariants as rules
use Rattle.safl_verilog.specs.Files.{Spot, RightSide, Declaration, Statement, Assign, Always}
use Rattle.safl_verilog.specs.Faults.{at, find, where_not, passes, is_clock, is_reset, is_target, is_signal, is_reg, is_output, is_plain}
use Rattle.safl_verilog.specs.Faults.{is_literal, literal_width, literal_value, width_declared, expression_width, operation, operands, assigned, updated}
use Rattle.safl_verilog.specs.Faults.{may_be_assigned, unfit_faults, width_faults, assign_faults}
use Rattle.safl_vread.specs.declared.driver.Driver.TheVariants as driver
use Rattle.safl_vread.specs.Drivers.{Found, IsAt, AreAt, is_open, places_of, HasDrivers, Sets, register_faults, Names}
use Rattle.safl_vread.proofs.FirstOfSeveral.{first_some}
use Rattle.safl_vread.proofs.StatementsDrive.{found_name, open_target, open_register, assigned_here, updated_here, width_found}

-- ---- what was found

pub passes_found : (ds : List Declaration) (x : Spot) (p : Declaration → Bool) (item : Item) → Found ds x p item → passes p (find ds x.bytes) ≡ true
passes_found ds x p item h = ap (passes p) h.found ∙ h.passed

pub place_within : (ds : List Declaration) (x : Spot) (p : Declaration → Bool) (item : Item) → Found ds x p item → item.place < length ds
place_within ds x p item h = slice_get_within ds item.place h.declared h.shown.place

pub width_shown : (ds : List Declaration) (x : Spot) (p : Declaration → Bool) (item : Item) → Found ds x p item → width_declared ds x.bytes ≡ item.width
width_shown ds x p item h = width_found ds x.bytes h.declared h.found ∙ sym h.shown.width

is_at : (ds : List Declaration) (x : Spot) (item : Item) → Found ds x is_signal item → IsAt ds item.place x
is_at ds x item h = record { declared = h.declared; there = h.shown.place; found = h.found; fit = h.passed }

module _ (ds : List Declaration) (before : List Statement) (vs : List Driver) (x : Spot) (item : Item) (v : Driver) (h : HasDrivers ds before vs) (is : v ≡ get_or vs item.place v) where
  driver_there : item.place < length ds → slice_get vs item.place ≡ Some v
  driver_there l = slice_get-get_or vs item.place v (omega (arith, l, h.full)) ∙ ap Some (sym is)

  pub open_if_unassigned : Found ds x is_target item → is_open v ≡ is_none (assigned before x.bytes)
  open_if_unassigned f =
      open_target ds before f.declared v (h.each item.place f.declared v f.shown.place (driver_there (place_within ds x is_target item f))) f.passed
      ∙ ap (λ w. is_none (assigned before w)) (found_name ds x.bytes f.declared f.found)

  pub open_if_not_updated : Found ds x (λ d. is_reg d.sort) item → is_open v ≡ is_none (updated before x.bytes)
  open_if_not_updated f =
      open_register ds before f.declared v (h.each item.place f.declared v f.shown.place (driver_there (place_within ds x (λ d. is_reg d.sort) item f))) f.passed
      ∙ ap (λ w. is_none (updated before w)) (found_name ds x.bytes f.declared f.found)

-- ---- updates

module _ (ds : List Declaration) (before : List Statement) (vs : List Driver) (c r t s : Spot) (item : Item) (v : Driver)
    (clocked : true ≡ is_clock c.bytes) (reset : true ≡ is_reset r.bytes) (f : Found ds t (λ d. is_reg d.sort) item)
    (same : true ≡ bytes_eq s.bytes t.bytes) (h : HasDrivers ds before vs) (is : v ≡ get_or vs item.place v) where
  register_first : register_faults ds before c r t s ≡ where_not (is_none (updated before t.bytes)) (at rules.V08 t.place)
  register_first = rw (sym clocked, sym reset, sym same, passes_found ds t (λ d. is_reg d.sort) item f) refl

  pub names_register : is_open v ≡ true → Names ds before c r t s (Ok item)
  names_register o =
      let n : is_none (updated before t.bytes) ≡ true = sym (open_if_not_updated ds before vs t item v h is f) ∙ o in
      (register_first ∙ ap (λ b. where_not b (at rules.V08 t.place)) n, n, f)

  pub names_twice : is_open v ≡ false → Some (at rules.V08 t.place) ≡ first (register_faults ds before c r t s)
  names_twice o =
      let n : is_none (updated before t.bytes) ≡ false = sym (open_if_not_updated ds before vs t item v h is f) ∙ o in
      sym (ap first (register_first ∙ ap (λ b. where_not b (at rules.V08 t.place)) n))

read_literal : (w : Word) (bytes : List ℕ) → Some w ≡ literal_word bytes → w ≡ record { width = literal_width bytes; bits = literal_value bytes }
read_literal w bytes h = by (is_literal bytes) h
  where
    by : (b : Bool) → Some w ≡ cond b (Some (record { width = literal_width bytes; bits = literal_value bytes })) None → w ≡ record { width = literal_width bytes; bits = literal_value bytes }
    by true k = cc
    by false k = absurd cc

pub update_sets : (ds : List Declaration) (before : List Statement) (c r t i s o : Spot) (item source : Item) (w : Word) → Names ds before c r t s
    (Ok item) → Found ds o is_signal source → Some w ≡ literal_word i.bytes → w.width ≡ item.width → source.width ≡ item.width → Sets ds before
    (Always c r t i s o) item.place (driver.Next w source.place)
update_sets ds before c r t i s o item source w names fit read wide next =
    let f = names.2 in
    let l = read_literal w i.bytes read in
    let named = found_name ds t.bytes f.declared f.found in
    let e1 : (width_declared ds t.bytes == literal_width i.bytes) ≡ true = eq-eqb _ _ (width_shown ds t (λ d. is_reg d.sort) item f ∙ sym wide ∙ ap (λ (v : Word). v.width) l) in
    let e2 : (width_declared ds t.bytes == width_declared ds o.bytes) ≡ true = eq-eqb _ _ (width_shown ds t (λ d. is_reg d.sort) item f ∙ sym next ∙ sym (width_shown ds o is_signal source fit)) in
    record {
      kept = rw (names.0, passes_found ds o is_signal source fit, e1, e2) refl;
      declared = f.declared;
      there = f.shown.place;
      named = named;
      drives = record {
        register = f.passed;
        initial = i;
        source = o;
        updated_is = updated_here before c r t i s o f.declared.name.bytes (ap (λ v. is_none (updated before v)) named ∙ names.1) (sym named);
        bits = ap (λ (v : Word). v.bits) l;
        width = wide ∙ f.shown.width;
        next_at = is_at ds o source fit;
        next_width = sym f.shown.width ∙ sym next ∙ sym (width_shown ds o is_signal source fit);
      };
    }

-- ---- assignments

module _ (ds : List Declaration) (before : List Statement) (vs : List Driver) (x : Spot) (e : RightSide) (item : Item) (v : Driver)
    (f : Found ds x is_target item) (h : HasDrivers ds before vs) (is : v ≡ get_or vs item.place v) where
  may : may_be_assigned before (find ds x.bytes) x.bytes e ≡ (is_open v && (not (is_output item.sort) || is_plain e))
  may =
      ap (λ b. b && (not (passes (λ d. is_output d.sort) (find ds x.bytes)) || is_plain e)) (sym (open_if_unassigned ds before vs x item v h is f))
      ∙ ap (λ b. is_open v && (not b || is_plain e)) (ap (passes (λ d. is_output d.sort)) f.found ∙ ap is_output (sym f.shown.sort))

  pub assigned_twice : (is_open v && (not (is_output item.sort) || is_plain e)) ≡ false → Some (at rules.V07 x.place) ≡ first (assign_faults ds before x e)
  assigned_twice o = rw (passes_found ds x is_target item f, may, o) refl

  module _ (o : (is_open v && (not (is_output item.sort) || is_plain e)) ≡ true) where
    left : assign_faults ds before x e ≡ flat_map (unfit_faults ds) (operands e) ++ width_faults x.place (width_declared ds x.bytes) (expression_width ds e)
    left = rw (passes_found ds x is_target item f, may, o) refl

    pub operand_unfit : (g : VFault) → Some g ≡ first (flat_map (unfit_faults ds) (operands e)) → Some g ≡ first (assign_faults ds before x e)
    operand_unfit g k = first_some (flat_map (unfit_faults ds) (operands e)) (width_faults x.place (width_declared ds x.bytes) (expression_width ds e)) g k ∙ sym (ap first left)

    pub widths_apart : (n : ℕ) → flat_map (unfit_faults ds) (operands e) ≡ [] → n ≡ expression_width ds e → (n ≡ item.width → ⊥) → Some
        (record { rule = rules.V05; place = x.place; first = item.width; second = n }) ≡ first (assign_faults ds before x e)
    widths_apart n fit wide apart =
        let w = width_shown ds x is_target item f in
        let ne : (width_declared ds x.bytes == expression_width ds e) ≡ false = ne_eqb _ _ (λ k. apart (wide ∙ sym k ∙ w)) in
        sym (ap first (left ∙ ap (λ (l : List VFault). l ++ width_faults x.place (width_declared ds x.bytes) (expression_width ds e)) fit ∙ ap
        (λ b. where_not b (record { rule = rules.V05; place = x.place; first = width_declared ds x.bytes; second = expression_width ds e })) ne)
        ∙ ap (λ (p : ℕ × ℕ). Some (record { rule = rules.V05; place = x.place; first = p.0; second = p.1 })) (λ j. (w j, sym wide j)))

    pub assign_sets : (n : ℕ) (op : Op) (places : Operands) → flat_map (unfit_faults ds) (operands e) ≡ [] → AreAt ds (places_of places) (operands e)
        → n ≡ expression_width ds e → n ≡ item.width → op ≡ operation e → Sets ds before (Assign x e) item.place (driver.Cell op places)
    assign_sets n op places fit there wide same done =
        let w = width_shown ds x is_target item f in
        let named = found_name ds x.bytes f.declared f.found in
        let open_now = and_parts (is_open v) (not (is_output item.sort) || is_plain e) o in
        let none : is_none (assigned before x.bytes) ≡ true = sym (open_if_unassigned ds before vs x item v h is f) ∙ open_now.0 in
        let eq : (width_declared ds x.bytes == expression_width ds e) ≡ true = eq-eqb _ _ (w ∙ sym same ∙ wide) in
        record {
          kept = left ∙ ap (λ (l : List VFault). l ++ width_faults x.place (width_declared ds x.bytes) (expression_width ds e)) fit ∙ ap
              (λ b. where_not b (record { rule = rules.V05; place = x.place; first = width_declared ds x.bytes; second = expression_width ds e })) eq;
          declared = f.declared;
          there = f.shown.place;
          named = named;
          drives = record {
            target = f.passed;
            value = e;
            assigned_is = assigned_here before x e f.declared.name.bytes (ap (λ k. is_none (assigned before k)) named ∙ none) (sym named);
            operation_is = done;
            operands_at = there;
            width = sym f.shown.width ∙ sym same ∙ wide;
            plain = λ (k : is_output f.declared.sort ≡ true). implied (is_output item.sort) (is_plain e) open_now.1 (ap is_output f.shown.sort ∙ k);
          };
        }
