-- What a file without faults reads as is whole.
use Rattle.safl_vread.proofs.Common.{Each, Reads, Sort, and_parts, append_empty, bytes_eq-Decides, declared_names, eqb-true, filter}
use Rattle.safl_vread.proofs.Common.{flat_map, header_faults, implied, is_none, later_faults, nat_tests, port_faults}
use Rattle.std.proofs.Common.{◌≡◌, ℕ, zero, suc, ◌+◌, List, [], ◌∷◌, ◌++◌, map, Option, None, Some, IsSome, Bool, true, false, not, cond, ◌&&◌, ◌||◌}
use Rattle.std.proofs.Common.{◌==◌, bytes_eq, codes, refl, sym, ap, subst, ◌∙◌, inl, inr, arith, slice_get}
use Rattle.safl_net.specs.Netlist.{Netlist, Signal, Input, Reg, Wire, IsSet, AllSet, place, output_place}
use Rattle.safl_net.specs.Netlist as Netlist
use Rattle.safl_net.specs.Making.{kind_in}
use Rattle.safl_net.specs.Whole.{IsWhole, HasStart, HasDone}
use Rattle.safl_verilog.specs.declared.token.Sort.TheVariants as sorts
use Rattle.safl_verilog.specs.declared.fault.VRule.TheVariants as rules
use Rattle.safl_verilog.specs.Files.{Spot, RightSide, Literal, Plain, Inverted, Binary, Choice, Joined, Slice, Declaration, Statement, Assign, Always, File}
use Rattle.safl_verilog.specs.Faults.{at, find, where_not, passes, is_data, is_input, is_output, is_reg, is_wire, is_target, is_signal}
use Rattle.safl_verilog.specs.Faults.{is_plain, range_width, width_declared, expression_width, operands, assigned, updated, faults, has_bit, has_ports}
use Rattle.safl_verilog.specs.Faults.{repeat_faults, all_number_faults, all_port_faults}
use Rattle.safl_verilog.specs.Faults.{all_statement_faults, statement_faults, assign_faults, may_be_assigned, unfit_faults, width_faults}
use Rattle.safl_verilog.specs.Faults.{missing_faults}
use Rattle.safl_verilog.specs.Netlists.{netlist, signals_of, signal_of, signal_kind, register_of, driven, output_of, shown_signal, declared_place, signal_number}
use Rattle.safl_net.proofs.EachOf.{each_join, each_stands, no_parts}
use Rattle.safl_verilog.proofs.Distinct.{Name, Has, Distinct, each_at, each_mapped, other_name}
use Rattle.safl_vread.proofs.FaultsOfFile.{parted}
use Rattle.safl_vread.proofs.Widths.{kept_true}
use Rattle.safl_vread.proofs.StatementsDrive.{found_name, distinct_names, width_found}

-- ---- each signal is set

register_set : (ds : List Declaration) (u : Option (Spot × Spot)) → not (is_none u) ≡ true → IsSet (register_of ds u)
register_set ds None h = absurd cc
register_set ds (Some u) h = tt

wire_set : (ds : List Declaration) (e : Option RightSide) → not (is_none e) ≡ true → IsSet (Wire (driven ds e))
wire_set ds None h = absurd cc
wire_set ds (Some e) h = tt

kind_set : (f : File) (s : Sort) (name : List ℕ) (p : ℕ) → where_not (not (is_wire s || is_output s) || not (is_none (assigned f.statements name)))
    (at rules.V07 p) ++ where_not (not (is_reg s) || not (is_none (updated f.statements name))) (at rules.V08 p) ≡ [] → IsSet (signal_kind f s name)
kind_set f sorts.Input name p h = tt
kind_set f sorts.Output name p h = tt
kind_set f sorts.Reg name p h = register_set f.declarations (updated f.statements name) (kept_true (not (is_none (updated f.statements name))) (at rules.V08 p) h)
kind_set f sorts.Wire name p h = wire_set f.declarations (assigned f.statements name)
    (kept_true (not (is_none (assigned f.statements name))) (at rules.V07 p) (append_empty (where_not (not (is_none (assigned f.statements name))) (at rules.V07 p)) _ h).0)

each_filter : {X : Type 0} (P : X → Type 0) (p : X → Bool) (xs : List X) → Each P xs → Each P (filter p xs)
each_filter P p [] h = tt
each_filter P p (x ∷ xs) h = by (p x) (each_filter P p xs h.1)
  where
    by : (b : Bool) → Each P (filter p xs) → Each P (cond b (x ∷ filter p xs) (filter p xs))
    by true k = (h.0, k)
    by false k = k

all_set : (f : File) → flat_map (missing_faults f.statements) f.declarations ≡ [] → AllSet (netlist f)
unfolding netlist
all_set f h =
    let P : Declaration → Type 0 = λ (d : Declaration). IsSet (signal_kind f d.sort d.name.bytes) in
    let each : Each P f.declarations = each_stands (λ (d : Declaration). missing_faults f.statements d ≡ []) P
    (λ (d : Declaration) k. kind_set f d.sort d.name.bytes d.name.place k) f.declarations (no_parts (missing_faults f.statements) f.declarations h) in
    let all : Each P (signals_of f.declarations) =
    each_join P (filter is_data f.declarations ++ filter (λ (d : Declaration). is_reg d.sort) f.declarations) (filter (λ (d : Declaration). is_wire d.sort) f.declarations)
    (each_join P (filter is_data f.declarations) (filter (λ (d : Declaration). is_reg d.sort) f.declarations)
    (each_filter P is_data f.declarations each) (each_filter P (λ (d : Declaration). is_reg d.sort) f.declarations each))
    (each_filter P (λ (d : Declaration). is_wire d.sort) f.declarations each) in
    λ (s : ℕ) (g : Signal) (e : slice_get (map (signal_of f) (signals_of f.declarations)) s ≡ Some g).
    each_at (λ (v : Signal). IsSet v.kind) (map (signal_of f) (signals_of f.declarations)) s g (each_mapped (λ (v : Signal). IsSet v.kind) (signal_of f) (signals_of f.declarations) all) e

-- ---- a name that is found among some of the declarations

found_left : (xs ys : List Declaration) (name : List ℕ) (d : Declaration) → find xs name ≡ Some d → find (xs ++ ys) name ≡ Some d
found_left [] ys name d h = absurd cc
found_left (x ∷ xs) ys name d h = by (bytes_eq x.name.bytes name) h (found_left xs ys name d)
  where
    by : (b : Bool) → cond b (Some x) (find xs name) ≡ Some d → (find xs name ≡ Some d → find (xs ++ ys) name ≡ Some d) → cond b (Some x) (find (xs ++ ys) name) ≡ Some d
    by true h k = h
    by false h k = k h

found_right : (xs ys : List Declaration) (name : List ℕ) → find xs name ≡ None → find (xs ++ ys) name ≡ find ys name
found_right [] ys name h = refl
found_right (x ∷ xs) ys name h = by (bytes_eq x.name.bytes name) h (found_right xs ys name)
  where
    by : (b : Bool) → cond b (Some x) (find xs name) ≡ None → (find xs name ≡ None → find (xs ++ ys) name ≡ find ys name) → cond b (Some x) (find (xs ++ ys) name) ≡ find ys name
    by true h k = absurd cc
    by false h k = k h

found_filtered : (p : Declaration → Bool) (ds : List Declaration) (name : List ℕ) (d : Declaration) → find ds name ≡ Some d → p d ≡ true → find (filter p ds) name ≡ Some d
found_filtered p [] name d h k = absurd cc
found_filtered p (x ∷ ds) name d h k = by (bytes_eq x.name.bytes name) refl h (found_filtered p ds name d)
  where
    skipped : (b : Bool) → bytes_eq x.name.bytes name ≡ false → find (filter p ds) name ≡ Some d → find (cond b (x ∷ filter p ds) (filter p ds)) name ≡ Some d
    skipped true q m = ap (λ b. cond b (Some x) (find (filter p ds) name)) q ∙ m
    skipped false q m = m

    by : (b : Bool) → bytes_eq x.name.bytes name ≡ b → cond b (Some x) (find ds name) ≡ Some d →
        (find ds name ≡ Some d → p d ≡ true → find (filter p ds) name ≡ Some d) → find (filter p (x ∷ ds)) name ≡ Some d
    by true q h m =
        let s : x ≡ d = cc in
        let t : p x ≡ true = ap p s ∙ k in
        ap (λ b. find (cond b (x ∷ filter p ds) (filter p ds)) name) t ∙ ap (λ b. cond b (Some x) (find (filter p ds) name)) q ∙ ap Some s
    by false q h m = skipped (p x) q (m h k)

not_found : (ds : List Declaration) (name : List ℕ) → (Has name (map (λ (d : Declaration). d.name.bytes) ds) → ⊥) → (p : Declaration → Bool) → find (filter p ds) name ≡ None
not_found [] name h p = refl
not_found (x ∷ ds) name h p = by (p x) (not_found ds name (λ k. h (inr k)) p)
  where
    by : (b : Bool) → find (filter p ds) name ≡ None → find (cond b (x ∷ filter p ds) (filter p ds)) name ≡ None
    by true m = ap (λ b. cond b (Some x) (find (filter p ds) name)) (other_name x.name.bytes name (λ e. h (inl e))) ∙ m
    by false m = m

lost_filtered : (p : Declaration → Bool) (ds : List Declaration) (name : List ℕ) (d : Declaration) → Distinct
    (map (λ (d : Declaration). d.name.bytes) ds) → find ds name ≡ Some d → p d ≡ false → find (filter p ds) name ≡ None
lost_filtered p [] name d a h k = refl
lost_filtered p (x ∷ ds) name d a h k = by (bytes_eq x.name.bytes name) refl h (lost_filtered p ds name d a.1)
  where
    skipped : (b : Bool) → bytes_eq x.name.bytes name ≡ false → find (filter p ds) name ≡ None → find (cond b (x ∷ filter p ds) (filter p ds)) name ≡ None
    skipped true q m = ap (λ b. cond b (Some x) (find (filter p ds) name)) q ∙ m
    skipped false q m = m

    by : (b : Bool) → bytes_eq x.name.bytes name ≡ b → cond b (Some x) (find ds name) ≡ Some d →
        (find ds name ≡ Some d → p d ≡ false → find (filter p ds) name ≡ None) → find (filter p (x ∷ ds)) name ≡ None
    by true q h m =
        let s : x ≡ d = cc in
        let t : p x ≡ false = ap p s ∙ k in
        let e = (bytes_eq-Decides x.name.bytes name).0 q in
        ap (λ b. find (cond b (x ∷ filter p ds) (filter p ds)) name) t ∙ not_found ds name (λ g. a.0 (subst (λ (v : Name). Has v (map (λ (d : Declaration). d.name.bytes) ds)) (sym e) g)) p
    by false q h m = skipped (p x) q (m h k)

signal_cases : (a b c : Bool) → (a || b || c) ≡ true → a ≡ false → b ≡ false → c ≡ true
signal_cases a b c h k l = rw (k, l) at h

-- a signal is found among the signals
pub found_signal : (ds : List Declaration) (name : List ℕ) (d : Declaration) → Distinct (map (λ (d : Declaration). d.name.bytes) ds) → find ds name ≡
    Some d → is_signal d ≡ true → find (signals_of ds) name ≡ Some d
found_signal ds name d a h k = by (is_data d) refl (is_reg d.sort) refl
  where
    A : List Declaration
    A = filter is_data ds

    B : List Declaration
    B = filter (λ (d : Declaration). is_reg d.sort) ds

    by : (x : Bool) → is_data d ≡ x → (y : Bool) → is_reg d.sort ≡ y → find (signals_of ds) name ≡ Some d
    by true q y r = found_left (filter is_data ds ++ filter (λ (d : Declaration). is_reg d.sort) ds) _ name d (found_left (filter is_data ds) _ name d (found_filtered is_data ds name d h q))
    by false q true r =
        found_left (filter is_data ds ++ filter (λ (d : Declaration). is_reg d.sort) ds) _ name d
        (found_right (filter is_data ds) _ name (lost_filtered is_data ds name d a h q) ∙ found_filtered (λ (d : Declaration). is_reg d.sort) ds name d h r)
    by false q false r =
        found_right (filter is_data ds ++ filter (λ (d : Declaration). is_reg d.sort) ds) _ name
        (found_right (filter is_data ds) _ name (lost_filtered is_data ds name d a h q) ∙ lost_filtered (λ (d : Declaration). is_reg d.sort) ds name d a h r)
        ∙ found_filtered (λ (d : Declaration). is_wire d.sort) ds name d h (signal_cases (is_data d) (is_reg d.sort) (is_wire d.sort) k q r)

-- its place is its number
pub found_place : (f : File) (xs : List Declaration) (name : List ℕ) (d : Declaration) (j : ℕ) → find xs name ≡ Some d →
    (place (map (signal_of f) xs) name j ≡ Some (declared_place xs name + j)) × (slice_get xs (declared_place xs name) ≡ Some d)
unfolding place
found_place f [] name d j h = absurd cc
found_place f (x ∷ xs) name d j h = by (bytes_eq x.name.bytes name) h (found_place f xs name d (suc j))
  where
    by : (b : Bool) → cond b (Some x) (find xs name) ≡ Some d →
        (find xs name ≡ Some d → (place (map (signal_of f) xs) name (suc j) ≡ Some (declared_place xs name + suc j)) × (slice_get xs (declared_place xs name) ≡ Some d))
        → (cond b (Some j) (place (map (signal_of f) xs) name (suc j)) ≡ Some (cond b 0 (suc (declared_place xs name)) + j)) × (slice_get (x ∷ xs) (cond b 0 (suc (declared_place xs name))) ≡ Some d)
    by true h k = (ap Some (omega arith), h)
    by false h k = let m = k h in (m.0 ∙ ap Some (omega arith), m.1)

signal_at : (f : File) (xs : List Declaration) (i : ℕ) (d : Declaration) → slice_get xs i ≡ Some d → slice_get (map (signal_of f) xs) i ≡ Some (signal_of f d)
signal_at f [] i d h = absurd cc
signal_at f (x ∷ xs) zero d h = let e : x ≡ d = cc in ap (λ v. Some (signal_of f v)) e
signal_at f (x ∷ xs) (suc i) d h = signal_at f xs i d h

-- ---- statements that were kept

pub record IsKept (ds : List Declaration) (x : Spot) (e : RightSide) : Type 0 where
  pub before : List Statement
  pub faults : assign_faults ds before x e ≡ []

kept_assign : (ds : List Declaration) (before ss : List Statement) (name : List ℕ) (e : RightSide) → all_statement_faults ds before ss ≡ [] →
    assigned ss name ≡ Some e → (x : Spot) × (x.bytes ≡ name) × IsKept ds x e
kept_assign ds before [] name e h k = absurd cc
kept_assign ds before (Assign x g ∷ ss) name e h k = by (bytes_eq x.bytes name) refl k
    (kept_assign ds (before ++ Assign x g ∷ []) ss name e (append_empty (assign_faults ds before x g) (all_statement_faults ds (before ++ Assign x g ∷ []) ss) h).1)
  where
    by : (b : Bool) → bytes_eq x.bytes name ≡ b → cond b (Some g) (assigned ss name) ≡ Some e →
        (assigned ss name ≡ Some e → (x : Spot) × (x.bytes ≡ name) × IsKept ds x e) → (x : Spot) × (x.bytes ≡ name) × IsKept ds x e
    by true q k m =
        let s : g ≡ e = cc in (
          x,
          (bytes_eq-Decides x.bytes name).0 q,
          record {
            before = before;
            faults = subst (λ (v : RightSide). assign_faults ds before x v ≡ []) s
                (append_empty (assign_faults ds before x g) (all_statement_faults ds (before ++ Assign x g ∷ []) ss) h).0;
          },
        )
    by false q k m = m k
kept_assign ds before (Always c r t i s o ∷ ss) name e h k = kept_assign ds (before ++ Always c r t i s o ∷ []) ss name e
    (append_empty (statement_faults ds before (Always c r t i s o)) (all_statement_faults ds (before ++ Always c r t i s o ∷ []) ss) h).1 k

-- ---- ports

passed : (p : Declaration → Bool) (o : Option Declaration) → passes p o ≡ true → (d : Declaration) × (o ≡ Some d) × (p d ≡ true)
passed p None h = absurd cc
passed p (Some d) h = (d, refl, h)

bit_of : (n : ℕ) → (n == 1) ≡ true → n ≡ 1
bit_of n h = grind (arith, nat_tests)

is_start_data : (d : Declaration) → is_input d.sort ≡ true → d.name.bytes ≡ codes "start" → is_data d ≡ true
is_start_data d h e = rw (h, e) refl

input_kind : (f : File) (s : Sort) (name : List ℕ) → is_input s ≡ true → signal_kind f s name ≡ Input
input_kind f sorts.Input name h = refl
input_kind f sorts.Output name h = absurd cc
input_kind f sorts.Reg name h = absurd cc
input_kind f sorts.Wire name h = absurd cc

has_start : (f : File) → has_bit f.declarations is_input (codes "start") ≡ true → HasStart (netlist f)
unfolding netlist
has_start f h =
    let ds : List Declaration = f.declarations in
    let a = passed (λ d. is_input d.sort && (range_width d.range == 1)) (find ds (codes "start")) h in
    let b = and_parts (is_input a.0.sort) (range_width a.0.range == 1) a.2 in
    let named = found_name ds (codes "start") a.0 a.1 in
    let here = found_left (filter is_data ds ++ filter (λ (d : Declaration). is_reg d.sort) ds) (filter (λ (d : Declaration). is_wire d.sort) ds)
    (codes "start") a.0 (found_left (filter is_data ds) (filter (λ (d : Declaration). is_reg d.sort) ds) (codes "start") a.0
    (found_filtered is_data ds (codes "start") a.0 a.1 (is_start_data a.0 b.0 named))) in
    let p = found_place f (signals_of ds) (codes "start") a.0 0 here in
    let g = signal_at f (signals_of ds) (declared_place (signals_of ds) (codes "start")) a.0 p.1 in
    record {
      signal = declared_place (signals_of ds) (codes "start");
      at = p.0 ∙ ap Some (omega arith);
      input = ap kind_in g ∙ input_kind f a.0.sort a.0.name.bytes b.0;
      bit = ap Netlist.width_in g ∙ bit_of (range_width a.0.range) b.1;
    }

output_found : (f : File) (ds : List Declaration) (name : List ℕ) (d : Declaration) → find ds name ≡ Some d → is_output d.sort ≡ true → output_place
    (map (output_of f) (filter (λ (d : Declaration). is_output d.sort) ds)) name ≡ Some (output_of f d).1
output_found f ds name d h k = placed (filter (λ (d : Declaration). is_output d.sort) ds) (found_filtered (λ (d : Declaration). is_output d.sort) ds name d h k)
  where
    placed : (xs : List Declaration) → find xs name ≡ Some d → output_place (map (output_of f) xs) name ≡ Some (output_of f d).1
    placed [] h = absurd cc
    placed (x ∷ xs) h = by (bytes_eq x.name.bytes name) h (placed xs)
      where
        by : (b : Bool) → cond b (Some x) (find xs name) ≡ Some d →
            (find xs name ≡ Some d → output_place (map (output_of f) xs) name ≡ Some (output_of f d).1) → cond b (Some (output_of f x).1)
            (output_place (map (output_of f) xs) name) ≡ Some (output_of f d).1
        by true h k = let e : x ≡ d = cc in ap (λ (v : Declaration). Some (output_of f v).1) e
        by false h k = k h

driven_output : (f : File) (s : Sort) (name : List ℕ) (p : ℕ) → is_output s ≡ true → where_not
    (not (is_wire s || is_output s) || not (is_none (assigned f.statements name))) (at rules.V07 p) ++ where_not
    (not (is_reg s) || not (is_none (updated f.statements name))) (at rules.V08 p) ≡ [] → not (is_none (assigned f.statements name)) ≡ true
driven_output f sorts.Input name p h k = absurd cc
driven_output f sorts.Output name p h k = kept_true (not (is_none (assigned f.statements name))) (at rules.V07 p)
    (append_empty (where_not (not (is_none (assigned f.statements name))) (at rules.V07 p)) _ k).0
driven_output f sorts.Reg name p h k = absurd cc
driven_output f sorts.Wire name p h k = absurd cc

some_of : {A : Type 0} (o : Option A) → not (is_none o) ≡ true → (x : A) × (o ≡ Some x)
some_of None h = absurd cc
some_of (Some x) h = (x, refl)

plain_of : (e : RightSide) → is_plain e ≡ true → (a : Spot) × (e ≡ Plain a)
plain_of (Plain a) h = (a, refl)
plain_of (Literal l) h = absurd cc
plain_of (Inverted a) h = absurd cc
plain_of (Binary p a b) h = absurd cc
plain_of (Choice a b c) h = absurd cc
plain_of (Joined a b) h = absurd cc
plain_of (Slice a b c) h = absurd cc

same_width : (m n : ℕ) (p : ℕ) → width_faults p m n ≡ [] → m ≡ n
same_width m n p h = eqb-true m n (kept_true (m == n) _ h)

plain_width : (ds : List Declaration) (e : RightSide) (a : Spot) (d : Declaration) → e ≡ Plain a → find ds a.bytes ≡ Some d → expression_width ds e ≡ range_width d.range
plain_width ds e a d h k = ap (expression_width ds) h ∙ width_found ds a.bytes d k

-- an output shows a signal of its width
pub record Shows (f : File) (d : Declaration) : Type 0 where
  pub source : Spot
  pub assigned_is : assigned f.statements d.name.bytes ≡ Some (Plain source)
  pub signal : Declaration
  pub found : find f.declarations source.bytes ≡ Some signal
  pub fit : is_signal signal ≡ true
  pub width : range_width d.range ≡ range_width signal.range

output_shows : (f : File) (d : Declaration) → find f.declarations d.name.bytes ≡ Some d → is_output d.sort ≡ true → missing_faults f.statements d ≡ []
    → all_statement_faults f.declarations [] f.statements ≡ [] → Shows f d
output_shows f d h o m k =
    let a = some_of (assigned f.statements d.name.bytes) (driven_output f d.sort d.name.bytes d.name.place o m) in
    let b = kept_assign f.declarations [] f.statements d.name.bytes a.0 k a.1 in
    let found : find f.declarations b.0.bytes ≡ Some d = ap (find f.declarations) b.1 ∙ h in
    let c1 = append_empty (where_not (passes is_target (find f.declarations b.0.bytes)) (at rules.V04 b.0.place) ++ where_not
    (may_be_assigned b.2.before (find f.declarations b.0.bytes) b.0.bytes a.0) (at rules.V07 b.0.place) ++ flat_map (unfit_faults f.declarations)
    (operands a.0)) (width_faults b.0.place (width_declared f.declarations b.0.bytes) (expression_width f.declarations a.0)) b.2.faults in
    let c2 = append_empty (where_not (passes is_target (find f.declarations b.0.bytes)) (at rules.V04 b.0.place) ++ where_not
    (may_be_assigned b.2.before (find f.declarations b.0.bytes) b.0.bytes a.0) (at rules.V07 b.0.place))
    (flat_map (unfit_faults f.declarations) (operands a.0)) c1.0 in
    let c3 = append_empty (where_not (passes is_target (find f.declarations b.0.bytes)) (at rules.V04 b.0.place))
    (where_not (may_be_assigned b.2.before (find f.declarations b.0.bytes) b.0.bytes a.0) (at rules.V07 b.0.place)) c2.0 in
    let may = (and_parts (is_none (assigned b.2.before b.0.bytes))
    (not (passes (λ d. is_output d.sort) (find f.declarations b.0.bytes)) || is_plain a.0)
    (kept_true (may_be_assigned b.2.before (find f.declarations b.0.bytes) b.0.bytes a.0) (at rules.V07 b.0.place) c3.1)).1 in
    let out : passes (λ d. is_output d.sort) (find f.declarations b.0.bytes) ≡ true = ap (passes (λ d. is_output d.sort)) found ∙ o in
    let e = plain_of a.0 (implied (passes (λ d. is_output d.sort) (find f.declarations b.0.bytes)) (is_plain a.0) may out) in
    let fit1 : flat_map (unfit_faults f.declarations) (operands (Plain e.0)) ≡ [] = ap (λ (v : RightSide). flat_map (unfit_faults f.declarations) (operands v)) (sym e.1) ∙ c2.1 in
    let fit = passed is_signal (find f.declarations e.0.bytes)
    (kept_true (passes is_signal (find f.declarations e.0.bytes)) (at rules.V04 e.0.place) (append_empty (unfit_faults f.declarations e.0) [] fit1).0) in
    let w : width_declared f.declarations b.0.bytes ≡ expression_width f.declarations a.0 = same_width _ _ b.0.place c1.1 in
    let w1 : width_declared f.declarations b.0.bytes ≡ range_width d.range = width_found f.declarations b.0.bytes d found in
    let w2 : expression_width f.declarations a.0 ≡ range_width fit.0.range = plain_width f.declarations a.0 e.0 fit.0 e.1 fit.1 in
    record { source = e.0; assigned_is = a.1 ∙ ap Some e.1; signal = fit.0; found = fit.1; fit = fit.2; width = sym w1 ∙ w ∙ w2 }

each_found : (ds : List Declaration) (P : Declaration → Type 0) (name : List ℕ) (d : Declaration) → Each P ds → find ds name ≡ Some d → P d
each_found [] P name d h k = absurd cc
each_found (x ∷ ds) P name d h k = by (bytes_eq x.name.bytes name) k (each_found ds P name d h.1)
  where
    by : (b : Bool) → cond b (Some x) (find ds name) ≡ Some d → (find ds name ≡ Some d → P d) → P d
    by true k m = let e : x ≡ d = cc in subst P e h.0
    by false k m = m k

has_done : (f : File) → Distinct (map (λ (d : Declaration). d.name.bytes) f.declarations) → has_bit f.declarations is_output (codes "done") ≡ true →
    flat_map (missing_faults f.statements) f.declarations ≡ [] → all_statement_faults f.declarations [] f.statements ≡ [] → HasDone (netlist f)
unfolding netlist
has_done f apart h m k =
    let ds : List Declaration = f.declarations in
    let a = passed (λ d. is_output d.sort && (range_width d.range == 1)) (find ds (codes "done")) h in
    let b = and_parts (is_output a.0.sort) (range_width a.0.range == 1) a.2 in
    let named = found_name ds (codes "done") a.0 a.1 in
    let self : find ds a.0.name.bytes ≡ Some a.0 = ap (find ds) named ∙ a.1 in
    let s = output_shows f a.0 self b.0 (each_found ds (λ (d : Declaration). missing_faults f.statements d ≡ []) (codes "done") a.0 (no_parts (missing_faults f.statements) ds m) a.1) k in
    let p = found_place f (signals_of ds) s.source.bytes s.signal 0 (found_signal ds s.source.bytes s.signal apart s.found s.fit) in
    let g = signal_at f (signals_of ds) (signal_number ds s.source.bytes) s.signal p.1 in
    record {
      signal = signal_number ds s.source.bytes;
      at = output_found f ds (codes "done") a.0 a.1 b.0 ∙ ap (λ (o : Option RightSide). Some (shown_signal ds o)) s.assigned_is;
      bit = ap Netlist.width_in g ∙ sym s.width ∙ bit_of (range_width a.0.range) b.1;
    }

has_result : (f : File) → passes (λ d. is_output d.sort) (find f.declarations (codes "result")) ≡ true → IsSome (output_place (netlist f).outputs (codes "result"))
unfolding netlist
has_result f h =
    let a = passed (λ d. is_output d.sort) (find f.declarations (codes "result")) h in
    subst (λ (o : Option ℕ). IsSome o) (sym (output_found f f.declarations (codes "result") a.0 a.1 a.2)) refl

whole : (f : File) → faults f ≡ [] → IsWhole (netlist f)
whole f h =
    let a = append_empty (all_number_faults f) _ (sym (parted f) ∙ h) in
    let b = append_empty (repeat_faults [] f.header) _ a.1 in
    let c = append_empty (repeat_faults [] (declared_names f.declarations)) (later_faults f) b.1 in
    let d = append_empty (all_port_faults f ++ all_statement_faults f.declarations [] f.statements) (flat_map (missing_faults f.statements) f.declarations) c.1 in
    let e = append_empty (all_port_faults f) (all_statement_faults f.declarations [] f.statements) d.0 in
    let g = kept_true (has_ports f.declarations) (at rules.V10 0)
    (append_empty (flat_map (header_faults f) f.header ++ flat_map (port_faults f) f.declarations) (where_not (has_ports f.declarations) (at rules.V10 0)) e.0).1 in
    let p1 = and_parts _ (passes (λ d. is_output d.sort) (find f.declarations (codes "result"))) g in
    let p2 = and_parts _ (has_bit f.declarations is_output (codes "done")) p1.0 in
    let p3 = and_parts _ (has_bit f.declarations is_input (codes "start")) p2.0 in
    record {
      set = all_set f d.1;
      start = has_start f p3.1;
      done = has_done f (distinct_names f.declarations c.0) p2.1 d.1 e.1;
      result = has_result f p1.1;
    }

pub reads_whole : (text : List ℕ) (n : Netlist) → Reads text n → IsWhole n
reads_whole text n h = subst IsWhole h.means (whole h.file h.kept)
