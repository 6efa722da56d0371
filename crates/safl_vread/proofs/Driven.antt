-- What drives declared names gives them what they need, and makes the signals of the netlist.
use Rattle.safl_vread.proofs.Common.{AreNumbers, Driver, Op, Operands, Sort, slice_get_within, slice_index}
use Rattle.std.proofs.Common.{◌≡◌, ℕ, List, [], ◌∷◌, length, map, Option, Some, true, false, refl, sym, ap, subst, ◌∙◌, slice_get}
use Rattle.safl_net.specs.Netlist.{Kind, Reg, Wire}
use Rattle.safl_verilog.specs.declared.token.Sort.TheVariants as sorts
use Rattle.safl_verilog.specs.Files.{Spot, RightSide, Literal, Plain, Inverted, Binary, Choice, Joined, Slice, Declaration, Statement, File}
use Rattle.safl_verilog.specs.Faults.{is_plain, range_width, literal_value, operation, operands, assigned, missing_faults}
use Rattle.safl_verilog.specs.Netlists.{signal_number, signal_kind, register_of, driven, shown_signal, signal_of}
use Rattle.safl_vread.specs.declared.driver.Operands.TheVariants as operand
use Rattle.safl_vread.specs.declared.driver.Driver.TheVariants as driver
use Rattle.safl_vread.specs.Drivers.{IsAt, AreAt, places_of, Drives, HasDrivers, open_faults}
use Rattle.safl_vread.proofs.NotDriven.{same_faults}
use Rattle.safl_vread.proofs.StatementsDrive.{found_name, at_within}
use Rattle.safl_vread.specs.Nets.{Fits, AllFit, kind_with, signal_with, shown_with}

-- ---- outputs show a name alone

pub record IsPlain (e : RightSide) : Type 0 where
  pub name : Spot
  pub is : e ≡ Plain name

pub plain_of : (e : RightSide) → is_plain e ≡ true → IsPlain e
plain_of (Plain a) h = record { name = a; is = refl }
plain_of (Literal l) h = absurd cc
plain_of (Inverted a) h = absurd cc
plain_of (Binary p a b) h = absurd cc
plain_of (Choice a b c) h = absurd cc
plain_of (Joined a b) h = absurd cc
plain_of (Slice a b c) h = absurd cc

-- the place of the name that is shown
pub record ShowsOne (ds : List Declaration) (xs : Operands) (a : Spot) : Type 0 where
  pub place : ℕ
  pub is : xs ≡ operand.One place
  pub at : IsAt ds place a

pub one_place : (ds : List Declaration) (xs : Operands) (a : Spot) → AreAt ds (places_of xs) (a ∷ []) → ShowsOne ds xs a
one_place ds operand.None a h = absurd h
one_place ds (operand.One p) a h = record { place = p; is = refl; at = h.0 }
one_place ds (operand.Two p q) a h = absurd h.1
one_place ds (operand.Three p q r) a h = absurd h.1

pub shows_one : (ds : List Declaration) (xs : Operands) (e : RightSide) → AreAt ds (places_of xs) (operands e) → (k : IsPlain e) → ShowsOne ds xs k.name
shows_one ds xs e h k = one_place ds xs k.name (subst (λ (v : RightSide). AreAt ds (places_of xs) (operands v)) k.is h)

-- ---- what each declaration needs

fits_output : (ds : List Declaration) (w : ℕ) (op : Op) (xs : Operands) (a : Spot) → ShowsOne ds xs a → Fits (length ds) sorts.Output w (driver.Cell op xs)
fits_output ds w op xs a k = subst (λ (v : Operands). Fits (length ds) sorts.Output w (driver.Cell op v)) (sym k.is) (slice_get_within ds k.place k.at.declared k.at.there)

fits_sort : (ds : List Declaration) (ss : List Statement) (s : Sort) (r : Option (Spot × Spot)) (x : Spot) (v : Driver) → Drives ds ss
    (record { sort = s; range = r; name = x }) v → open_faults s x.place v ≡ [] → Fits (length ds) s (range_width r) v
fits_sort ds ss sorts.Input r x v h k = tt
fits_sort ds ss sorts.Output r x driver.Open h k = absurd cc
fits_sort ds ss sorts.Output r x (driver.Cell op xs) h k = let e = plain_of h.value (h.plain refl) in fits_output ds (range_width r) op xs e.name (shows_one ds xs h.value h.operands_at e)
fits_sort ds ss sorts.Output r x (driver.Next w p) h k = let f : false ≡ true = h.register in absurd cc
fits_sort ds ss sorts.Reg r x driver.Open h k = absurd cc
fits_sort ds ss sorts.Reg r x (driver.Cell op xs) h k = let f : false ≡ true = h.target in absurd cc
fits_sort ds ss sorts.Reg r x (driver.Next w p) h k = (h.width, slice_get_within ds p h.next_at.declared h.next_at.there)
fits_sort ds ss sorts.Wire r x driver.Open h k = absurd cc
fits_sort ds ss sorts.Wire r x (driver.Cell op xs) h k = at_within ds (places_of xs) (operands h.value) h.operands_at
fits_sort ds ss sorts.Wire r x (driver.Next w p) h k = let f : false ≡ true = h.register in absurd cc

pub all_fit : (ds : List Declaration) (ss : List Statement) (vs : List Driver) → HasDrivers ds ss vs → ((i : ℕ) (d : Declaration) → slice_get ds i ≡ Some d → missing_faults ss d ≡ []) → AllFit ds vs
all_fit ds ss vs h m = λ (i : ℕ) (d : Declaration) (v : Driver) a b.
    let k = h.each i d v a b in
    fits_sort ds ss d.sort d.range d.name v k (same_faults ds ss d v k ∙ m i d a)

-- ---- numbers of operands

pub place_number : (ds : List Declaration) (order ns : List ℕ) (p : ℕ) (x : Spot) → AreNumbers ds order ns → IsAt ds p x → slice_index ns p ≡ signal_number ds x.bytes
place_number ds order ns p x n h = n.each p h.declared h.there h.fit ∙ ap (signal_number ds) (found_name ds x.bytes h.declared h.found)

place_numbers : (ds : List Declaration) (order ns ps : List ℕ) (xs : List Spot) → AreNumbers ds order ns → AreAt ds ps xs → map (slice_index ns) ps ≡ map (λ (a : Spot). signal_number ds a.bytes) xs
place_numbers ds order ns [] [] n h = refl
place_numbers ds order ns [] (x ∷ xs) n h = absurd h
place_numbers ds order ns (p ∷ ps) [] n h = absurd h
place_numbers ds order ns (p ∷ ps) (x ∷ xs) n h =
    ap (λ (k : ℕ). k ∷ map (slice_index ns) ps) (place_number ds order ns p x n h.0) ∙ ap (λ (l : List ℕ). signal_number ds x.bytes ∷ l) (place_numbers ds order ns ps xs n h.1)

-- ---- kinds

module _ (f : File) (order ns : List ℕ) (n : AreNumbers f.declarations order ns) where
  kind_sort : (count : ℕ) (s : Sort) (r : Option (Spot × Spot)) (x : Spot) (v : Driver) → Drives f.declarations f.statements
      (record { sort = s; range = r; name = x }) v → Fits count s (range_width r) v → kind_with ns s v ≡ signal_kind f s x.bytes
  kind_sort count sorts.Input r x v h k = refl
  kind_sort count sorts.Output r x v h k = refl
  kind_sort count sorts.Reg r x driver.Open h k = absurd k
  kind_sort count sorts.Reg r x (driver.Cell op xs) h k = absurd k
  kind_sort count sorts.Reg r x (driver.Next w p) h k =
      ap (λ (b : ℕ). Reg b (Some (slice_index ns p))) h.bits ∙ ap (λ (m : ℕ). Reg (literal_value h.initial.bytes) (Some m)) (place_number f.declarations order ns p h.source n h.next_at)
      ∙ sym (ap (register_of f.declarations) h.updated_is)
  kind_sort count sorts.Wire r x driver.Open h k = absurd k
  kind_sort count sorts.Wire r x (driver.Cell op xs) h k =
      ap (λ (o : Op). Wire (Some (record { op = o; operands = map (slice_index ns) (places_of xs) }))) h.operation_is
      ∙ ap (λ (l : List ℕ). Wire (Some (record { op = operation h.value; operands = l }))) (place_numbers f.declarations order ns (places_of xs) (operands h.value) n h.operands_at)
      ∙ sym (ap (λ (o : Option RightSide). Wire (driven f.declarations o)) h.assigned_is)
  kind_sort count sorts.Wire r x (driver.Next w p) h k = absurd k

  pub signal_is : (count : ℕ) (d : Declaration) (v : Driver) → Drives f.declarations f.statements d v → Fits count d.sort (range_width d.range) v → signal_with ns d v ≡ signal_of f d
  signal_is count d v h k = ap (λ (b : Kind). record { name = d.name.bytes; width = range_width d.range; kind = b }) (kind_sort count d.sort d.range d.name v h k)

  -- ---- outputs

  shown_sort : (s : Sort) (r : Option (Spot × Spot)) (x : Spot) (v : Driver) → s ≡ sorts.Output → Drives f.declarations f.statements
      (record { sort = s; range = r; name = x }) v → Fits (length f.declarations) s (range_width r) v → shown_with ns v ≡ shown_signal f.declarations
      (assigned f.statements x.bytes)
  shown_sort sorts.Input r x v e h k = absurd cc
  shown_sort sorts.Reg r x v e h k = absurd cc
  shown_sort sorts.Wire r x v e h k = absurd cc
  shown_sort sorts.Output r x driver.Open e h k = absurd k
  shown_sort sorts.Output r x (driver.Next w p) e h k = absurd k
  shown_sort sorts.Output r x (driver.Cell op xs) e h k =
      let a = plain_of h.value (h.plain refl) in
      let b = shows_one f.declarations xs h.value h.operands_at a in
      let c : assigned f.statements x.bytes ≡ Some (Plain a.name) = h.assigned_is ∙ ap Some a.is in
      ap (λ (o : Operands). shown_with ns (driver.Cell op o)) b.is ∙ place_number f.declarations order ns b.place a.name n b.at ∙ sym (ap (shown_signal f.declarations) c)

  pub shown_is : (d : Declaration) (v : Driver) → d.sort ≡ sorts.Output → Drives f.declarations f.statements d v → Fits (length f.declarations) d.sort
      (range_width d.range) v → shown_with ns v ≡ shown_signal f.declarations (assigned f.statements d.name.bytes)
  shown_is d v e h k = shown_sort d.sort d.range d.name v e h k
