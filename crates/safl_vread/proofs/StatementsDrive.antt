-- Statements, and what they drive.
use Rattle.safl_vread.proofs.Common.{Driver, Sort, VFault, declared_names, declared_place, length-set, slice_get_within, widths_of}
use Rattle.std.proofs.Common.{◌≡◌, ℕ, zero, suc, ◌<◌, ◌≤◌, List, [], ◌∷◌, ◌++◌, length, get_or, set, map, Option, None, Some, Bool, true, false, not}
use Rattle.std.specs.Prelude.{is_none}
use Rattle.std.proofs.Common.{cond, ◌||◌, bytes_eq, refl, sym, ap, subst, ◌∙◌, inl, inr, arith, slice_get}
use Rattle.std.specs.Prelude.{slice_index, ◌⊎◌}
use Rattle.std.proofs.lemmas.Slice.Eq.{bytes_eq-Decides}
use Rattle.safl_word.proofs.Lists.{bytes_apart}
use Rattle.safl_word.proofs.Lexemes.{clash}
use Rattle.safl_verilog.specs.declared.token.Sort.TheVariants as sorts
use Rattle.safl_verilog.specs.Files.{Spot, RightSide, Declaration, Statement, Assign, Always}
use Rattle.safl_verilog.specs.Faults.{find, among, where_not, repeat_faults, is_target, is_reg, is_wire, is_output, range_width, width_declared, assigned, updated}
use Rattle.safl_verilog.proofs.Distinct.{Name, Has, Distinct, same_name}
use Rattle.safl_verilog.proofs.Lookups.{spot_names, is_among, place_at}
use Rattle.safl_vread.specs.declared.driver.Driver.TheVariants as driver
use Rattle.safl_vread.specs.Drivers.{AreAt, is_open, Drives, HasDrivers, Sets, target_of}
use Rattle.safl_vread.proofs.DeclaredByName.{found_at}

-- ---- names and places

pub found_name : (ds : List Declaration) (name : List ℕ) (d : Declaration) → find ds name ≡ Some d → d.name.bytes ≡ name
found_name [] name d h = absurd cc
found_name (e ∷ ds) name d h = by (bytes_eq e.name.bytes name) refl h (found_name ds name d)
  where
    by : (b : Bool) → bytes_eq e.name.bytes name ≡ b → cond b (Some e) (find ds name) ≡ Some d → (find ds name ≡ Some d → d.name.bytes ≡ name) → d.name.bytes ≡ name
    by true q r k = let s : e ≡ d = cc in sym (ap (λ (v : Declaration). v.name.bytes) s) ∙ (bytes_eq-Decides e.name.bytes name).0 q
    by false q r k = k r

pub at_within : (ds : List Declaration) (ps : List ℕ) (xs : List Spot) → AreAt ds ps xs → (k d : ℕ) → k < length ps → get_or ps k d < length ds
at_within ds [] xs h k d l = absurd (omega (arith, l))
at_within ds (p ∷ ps) [] h k d l = absurd h
at_within ds (p ∷ ps) (x ∷ xs) h zero d l = slice_get_within ds p h.0.declared h.0.there
at_within ds (p ∷ ps) (x ∷ xs) h (suc k) d l = at_within ds ps xs h.1 k d (omega (arith, l))

pub width_found : (ds : List Declaration) (name : List ℕ) (d : Declaration) → find ds name ≡ Some d → width_declared ds name ≡ range_width d.range
width_found ds name d h = rw h refl

pub same_widths : (ds : List Declaration) (ps : List ℕ) (xs : List Spot) → AreAt ds ps xs → map (λ (p : ℕ). slice_index (widths_of ds) p) ps ≡ map (λ (a : Spot). width_declared ds a.bytes) xs
same_widths ds [] [] h = refl
same_widths ds [] (x ∷ xs) h = absurd h
same_widths ds (p ∷ ps) [] h = absurd h
same_widths ds (p ∷ ps) (x ∷ xs) h =
    let a : slice_index (widths_of ds) p ≡ range_width h.0.declared.range = found_at (λ (v : Declaration). range_width v.range) ds p h.0.declared 0 h.0.there in
    let b : width_declared ds x.bytes ≡ range_width h.0.declared.range = width_found ds x.bytes h.0.declared h.0.found in
    let e : slice_index (widths_of ds) p ≡ width_declared ds x.bytes = a ∙ sym b in
    ap (λ (n : ℕ). n ∷ map (λ (p : ℕ). slice_index (widths_of ds) p) ps) e ∙ ap (λ (l : List ℕ). width_declared ds x.bytes ∷ l) (same_widths ds ps xs h.1)

pub widths_small : (widths : List ℕ) (ps : List ℕ) → ((k : ℕ) → slice_index widths k ≤ 128) → (k d : ℕ) → k < length
    (map (λ (p : ℕ). slice_index widths p) ps) → get_or (map (λ (p : ℕ). slice_index widths p) ps) k d ≤ 128
widths_small widths [] h k d l = absurd (omega (arith, l))
widths_small widths (p ∷ ps) h zero d l = h p
widths_small widths (p ∷ ps) h (suc k) d l = widths_small widths ps h k d (omega (arith, l))

-- ---- names that are all different

among_left : (xs : List Spot) (y : Spot) (w : List ℕ) → among (xs ++ y ∷ []) w ≡ false → among xs w ≡ false
among_left [] y w h = refl
among_left (x ∷ xs) y w h = by (bytes_eq x.bytes w) h (among_left xs y w)
  where
    by : (b : Bool) → (b || among (xs ++ y ∷ []) w) ≡ false → (among (xs ++ y ∷ []) w ≡ false → among xs w ≡ false) → (b || among xs w) ≡ false
    by true h k = absurd cc
    by false h k = k h

no_fault : (b : Bool) (f : VFault) (fs : List VFault) → where_not (not b) f ++ fs ≡ [] → (b ≡ false) × (fs ≡ [])
no_fault true f fs h = absurd cc
no_fault false f fs h = (refl, h)

pub all_distinct : (before xs : List Spot) → repeat_faults before xs ≡ [] → Distinct (spot_names xs) × ((w : Name) → Has w (spot_names xs) → among before w ≡ false)
all_distinct before [] h = (tt, λ w k. absurd k)
all_distinct before (x ∷ xs) h =
    let a = no_fault (among before x.bytes) _ (repeat_faults (before ++ x ∷ []) xs) h in
    let more = all_distinct (before ++ x ∷ []) xs a.1 in (
      (λ (k : Has x.bytes (spot_names xs)). clash (among (before ++ x ∷ []) x.bytes) (is_among (before ++ x ∷ []) x.bytes (there before)) (more.1 x.bytes k), more.0),
      λ (w : Name) (k : Has w (spot_names (x ∷ xs))). by w k a.0 more.1,
    )
  where
    there : (ys : List Spot) → Has x.bytes (spot_names (ys ++ x ∷ []))
    there [] = inl refl
    there (y ∷ ys) = inr (there ys)

    by : (w : Name) → Has w (spot_names (x ∷ xs)) → among before x.bytes ≡ false → ((v : Name) → Has v (spot_names xs) → among (before ++ x ∷ []) v ≡ false) → among before w ≡ false
    by w (inl e) a m = sym (ap (among before) e) ∙ a
    by w (inr k) a m = among_left before x w (m w k)

names_same : (ds : List Declaration) → spot_names (declared_names ds) ≡ map (λ (d : Declaration). d.name.bytes) ds
names_same [] = refl
names_same (d ∷ ds) = ap (λ (l : List (List ℕ)). d.name.bytes ∷ l) (names_same ds)

pub distinct_names : (ds : List Declaration) → repeat_faults [] (declared_names ds) ≡ [] → Distinct (map (λ (d : Declaration). d.name.bytes) ds)
distinct_names ds h = subst Distinct (names_same ds) (all_distinct [] (declared_names ds) h).0

pub same_place : (ds : List Declaration) → repeat_faults [] (declared_names ds) ≡ [] → (i j : ℕ) (d e : Declaration) → slice_get ds i ≡ Some d →
    slice_get ds j ≡ Some e → d.name.bytes ≡ e.name.bytes → i ≡ j
same_place ds h i j d e a b k = sym (place_at ds (distinct_names ds h) i d a) ∙ ap (declared_place ds) k ∙ place_at ds (distinct_names ds h) j e b

-- ---- what was assigned and updated before

not_both : (s : Sort) → is_reg s ≡ true → (is_wire s || is_output s) ≡ true → ⊥
not_both sorts.Input a b = cc
not_both sorts.Output a b = cc
not_both sorts.Reg a b = cc
not_both sorts.Wire a b = cc

pub open_target : (ds : List Declaration) (before : List Statement) (d : Declaration) (v : Driver) → Drives ds before d v → is_target d ≡ true → is_open v ≡ is_none (assigned before d.name.bytes)
open_target ds before d driver.Open h t = sym (ap is_none h.0)
open_target ds before d (driver.Cell op xs) h t = sym (ap is_none h.assigned_is)
open_target ds before d (driver.Next w p) h t = absurd (not_both d.sort h.register t)

pub open_register : (ds : List Declaration) (before : List Statement) (d : Declaration) (v : Driver) → Drives ds before d v → is_reg d.sort ≡ true → is_open v ≡ is_none (updated before d.name.bytes)
open_register ds before d driver.Open h t = sym (ap is_none h.1)
open_register ds before d (driver.Cell op xs) h t = absurd (not_both d.sort t h.target)
open_register ds before d (driver.Next w p) h t = sym (ap is_none h.updated_is)

pub assigned_here : (before : List Statement) (x : Spot) (e : RightSide) (name : List ℕ) → is_none (assigned before name) ≡ true → x.bytes ≡ name → assigned (before ++ Assign x e ∷ []) name ≡ Some e
assigned_here [] x e name h k = let s : bytes_eq x.bytes name ≡ true = ap (λ v. bytes_eq v name) k ∙ same_name name in rw s refl
assigned_here (Assign y g ∷ ss) x e name h k = by (bytes_eq y.bytes name) h (assigned_here ss x e name)
  where
    by : (b : Bool) → is_none (cond b (Some g) (assigned ss name)) ≡ true →
        (is_none (assigned ss name) ≡ true → x.bytes ≡ name → assigned (ss ++ Assign x e ∷ []) name ≡ Some e) → cond b (Some g)
        (assigned (ss ++ Assign x e ∷ []) name) ≡ Some e
    by true h m = absurd cc
    by false h m = m h k
assigned_here (Always c r t i s o ∷ ss) x e name h k = assigned_here ss x e name h k

pub updated_here : (before : List Statement) (c r t i s o : Spot) (name : List ℕ) → is_none (updated before name) ≡ true → t.bytes ≡ name → updated
    (before ++ Always c r t i s o ∷ []) name ≡ Some (i, o)
updated_here [] c r t i s o name h k = let q : bytes_eq t.bytes name ≡ true = ap (λ v. bytes_eq v name) k ∙ same_name name in rw q refl
updated_here (Assign y g ∷ ss) c r t i s o name h k = updated_here ss c r t i s o name h k
updated_here (Always c2 r2 t2 i2 s2 o2 ∷ ss) c r t i s o name h k = by (bytes_eq t2.bytes name) h (updated_here ss c r t i s o name)
  where
    by : (b : Bool) → is_none (cond b (Some (i2, o2)) (updated ss name)) ≡ true →
        (is_none (updated ss name) ≡ true → t.bytes ≡ name → updated (ss ++ Always c r t i s o ∷ []) name ≡ Some (i, o)) → cond b (Some (i2, o2))
        (updated (ss ++ Always c r t i s o ∷ []) name) ≡ Some (i, o)
    by true h m = absurd cc
    by false h m = m h k

assigned_keeps : (before : List Statement) (s : Statement) (name : List ℕ) → (target_of s ≡ name → ⊥) → assigned (before ++ s ∷ []) name ≡ assigned before name
assigned_keeps [] (Assign x e) name h = ap (λ b. cond b (Some e) None) (bytes_apart x.bytes name h)
assigned_keeps [] (Always c r t i s o) name h = refl
assigned_keeps (Assign y g ∷ ss) s name h = ap (λ (k : Option RightSide). cond (bytes_eq y.bytes name) (Some g) k) (assigned_keeps ss s name h)
assigned_keeps (Always c r t i k o ∷ ss) s name h = assigned_keeps ss s name h

updated_keeps : (before : List Statement) (s : Statement) (name : List ℕ) → (target_of s ≡ name → ⊥) → updated (before ++ s ∷ []) name ≡ updated before name
updated_keeps [] (Assign x e) name h = refl
updated_keeps [] (Always c r t i s o) name h = ap (λ b. cond b (Some (i, o)) None) (bytes_apart t.bytes name h)
updated_keeps (Assign y g ∷ ss) s name h = updated_keeps ss s name h
updated_keeps (Always c r t i q o ∷ ss) s name h = ap (λ (k : Option (Spot × Spot)). cond (bytes_eq t.bytes name) (Some (i, o)) k) (updated_keeps ss s name h)

drives_keep : (ds : List Declaration) (before : List Statement) (s : Statement) (d : Declaration) (v : Driver) → (target_of s ≡ d.name.bytes → ⊥) →
    Drives ds before d v → Drives ds (before ++ s ∷ []) d v
drives_keep ds before s d driver.Open n h = (assigned_keeps before s d.name.bytes n ∙ h.0, updated_keeps before s d.name.bytes n ∙ h.1)
drives_keep ds before s d (driver.Cell op xs) n h = record {
  target = h.target;
  value = h.value;
  assigned_is = assigned_keeps before s d.name.bytes n
      ∙ h.assigned_is;
  operation_is = h.operation_is;
  operands_at = h.operands_at;
  width = h.width;
  plain = h.plain;
}
drives_keep ds before s d (driver.Next w p) n h = record {
  register = h.register;
  initial = h.initial;
  source = h.source;
  updated_is = updated_keeps
      before s d.name.bytes n ∙ h.updated_is;
  bits = h.bits;
  width = h.width;
  next_at = h.next_at;
  next_width = h.next_width;
}

-- ---- one more statement

set_place : {X : Type 0} (vs : List X) (p : ℕ) (v : X) (i : ℕ) (u : X) → slice_get (set vs p v) i ≡ Some u → ((i ≡ p) × (u ≡ v)) ⊎ ((i ≡ p → ⊥) × (slice_get vs i ≡ Some u))
set_place [] p v i u h = absurd cc
set_place (w ∷ vs) zero v zero u h = inl (refl, cc)
set_place (w ∷ vs) zero v (suc i) u h = inr (λ e. omega (arith, e), h)
set_place (w ∷ vs) (suc p) v zero u h = inr (λ e. omega (arith, e), h)
set_place (w ∷ vs) (suc p) v (suc i) u h = elim (set_place vs p v i u h) [ inl k ↦ inl (ap suc k.0, k.1) | inr k ↦ inr (λ e. k.0 (omega (arith, e)), k.1) ]

pub next_drivers : (ds : List Declaration) (before : List Statement) (s : Statement) (p : ℕ) (v : Driver) (vs : List Driver) → repeat_faults []
    (declared_names ds) ≡ [] → HasDrivers ds before vs → Sets ds before s p v → HasDrivers ds (before ++ s ∷ []) (set vs p v)
next_drivers ds before s p v vs apart h k = record {
  full = length-set vs p v ∙ h.full;
  each = λ (i : ℕ) (d : Declaration) (u : Driver) (at : slice_get ds i ≡ Some d) (got : slice_get (set vs p v) i ≡ Some u). by i d u at (set_place vs p v i u got);
}
  where
    by : (i : ℕ) (d : Declaration) (u : Driver) → slice_get ds i ≡ Some d → ((i ≡ p) × (u ≡ v)) ⊎ ((i ≡ p → ⊥) × (slice_get vs i ≡ Some u)) → Drives ds (before ++ s ∷ []) d u
    by i d u at (inl e) =
        let same : d ≡ k.declared = let q : Some d ≡ Some k.declared = sym at ∙ ap (slice_get ds) e.0 ∙ k.there in cc in
        subst (λ (x : Declaration). Drives ds (before ++ s ∷ []) x u) (sym same) (subst (Drives ds (before ++ s ∷ []) k.declared) (sym e.1) k.drives)
    by i d u at (inr e) = drives_keep ds before s d u (λ (t : target_of s ≡ d.name.bytes). e.0 (same_place ds apart i p d k.declared at k.there (sym (k.named ∙ t)))) (h.each i d u at e.1)
