-- The net that is built has the inputs, registers, named wires and outputs of the net of which the values are.
use Rattle.safl_opt.proofs.Common.{Different, IsNetlist, IsOrder, IsTidy, Sig, Values, bool_at, is_numbered, is_temp}
use Rattle.std.proofs.Common.{◌≡◌, ℕ, zero, suc, ◌+◌, ◌-◌, ◌<◌, ◌≤◌, List, [], ◌∷◌, ◌++◌, map, length, take, Option, Some}
use Rattle.std.proofs.Common.{None, Bool, true, false, cond, ◌&&◌, not, inl, inr, slice_get, refl, sym, ap, subst, ◌∙◌, arith}
use Rattle.std.proofs.Common.{append_assoc}
use Rattle.std.proofs.lemmas.List.{append-nil, length-map, map-append}
use Rattle.std.proofs.lemmas.Option.{get_or_from_slice_get, slice_get_within}
use Rattle.std.proofs.lemmas.Grind.{flat_map-append}
use Rattle.std.proofs.Math.Seq.{take-suc, take-length}
use Rattle.std.specs.List.{flat_map}
use Rattle.safl_word.proofs.Lists.{get_back, get_in_front, get_mapped, get_some}
use Rattle.safl_net.specs.Netlist.{Netlist, Signal, Kind, Input, Reg, Wire, Cell, width_in, width_of, is_input, is_register, is_wire}
use Rattle.safl_net.specs.Making.{kind_in, kind_at, name_in, name_at}
use Rattle.safl_net.specs.Arranged.{Each}
use Rattle.safl_net.specs.Arranged as arranged
use Rattle.safl_opt.specs.Values.{below, inputs_below, registers_below, named_below, kept_in, sig_at, value_width, Folds}
use Rattle.safl_opt.specs.Building.{IsRoot, shown, AreRead, AreNeeded, new_number, new_cell, new_kind, kept_signal, IsNodeOf, Builds}
use Rattle.safl_net.specs.Mirrors.{Line, input_line, register_line, wire_line, inputs_in, registers_in, wires_in, outputs_in, KeepsWire, Alike, IsNamed, IsTemp, IsLaidOut}
use Rattle.safl_net.proofs.EachOf.{each_by_index, each_join}
use Rattle.safl_opt.proofs.Coming.{kept_get}
use Rattle.safl_opt.proofs.Adding.{operand_known}
use Rattle.safl_opt.proofs.Built.{HasSignal, root_has, value}
use Rattle.safl_opt.proofs.Leaning.{kept_number, kept_kind, kept_name, get_map}
use Rattle.safl_opt.proofs.TempNames.{numbered_temp}
use Rattle.safl_opt.proofs.Matching.{no_temp, lasts}

-- ---- lists

pub record Split {A : Type 0} (k : ℕ) (xs : List A) : Type 0 where
  pub front : List A
  pub rest : List A
  pub joined : xs ≡ front ++ rest
  pub long : length front ≡ k

pub split_at : {A : Type 0} (k : ℕ) (xs : List A) → k ≤ length xs → Split k xs
split_at zero xs h = record { front = []; rest = xs; joined = refl; long = refl }
split_at (suc k) [] h = absurd (omega (arith, h))
split_at (suc k) (x ∷ xs) h = let r = split_at k xs (omega (arith, h)) in record { front = x ∷ r.front; rest = r.rest; joined = ap (λ l. x ∷ l) r.joined; long = ap suc r.long }

same_list : {A : Type 0} (xs ys : List A) → length xs ≡ length ys → ((i : ℕ) (y : A) → slice_get ys i ≡ Some y → slice_get xs i ≡ Some y) → xs ≡ ys
same_list [] [] l h = refl
same_list [] (y ∷ ys) l h = absurd (omega (arith, l))
same_list (x ∷ xs) [] l h = absurd (omega (arith, l))
same_list (x ∷ xs) (y ∷ ys) l h = ap (λ a. a ∷ xs) (let q = h 0 y refl in let z : x ≡ y = cc in z) ∙ ap (λ t. y ∷ t) (same_list xs ys (omega (arith, l)) (λ i z e. h (suc i) z e))

-- ---- the signals below a number that pass a test

each_below : (P : Signal → Type 0) (g : ℕ → Signal) (t : ℕ → Bool) (i : ℕ) → ((s : ℕ) → s < i → t s ≡ true → P (g s)) → Each P (map g (below t i))
each_below P g t zero h = tt
each_below P g t (suc i) h = subst (Each P) (sym (map-append g (below t i) (cond (t i) (i ∷ []) []))) (each_join P _ _ (each_below P g t i (λ s lt q. h s (omega (arith, lt)) q)) (one (t i) refl))
  where
    one : (c : Bool) → t i ≡ c → Each P (map g (cond c (i ∷ []) []))
    one true q = (h i (omega arith) q, tt)
    one false q = tt

-- the lines of those that pass are the lines of all, where the others have failing
lines_pass : {A : Type 0} (L : Signal → List A) (n : Netlist) (g : ℕ → Signal) (t : ℕ → Bool) (i : ℕ) → i ≤ length n.signals
    → ((s : ℕ) (x : Signal) → slice_get n.signals s ≡ Some x → t s ≡ true → L (g s) ≡ L x) → ((s : ℕ) (x : Signal) → slice_get n.signals s ≡ Some x → t s ≡ false → L x ≡ [])
    → flat_map L (map g (below t i)) ≡ flat_map L (take i n.signals)
lines_pass L n g t zero le passing failing = refl
lines_pass L n g t (suc i) le passing failing =
    let x = get_some n.signals i (omega (arith, le)) in
    ap (flat_map L) (map-append g (below t i) (cond (t i) (i ∷ []) []))
    ∙ flat_map-append L (map g (below t i)) (map g (cond (t i) (i ∷ []) []))
    ∙ ap (λ l. l ++ flat_map L (map g (cond (t i) (i ∷ []) []))) (lines_pass L n g t i (omega (arith, le)) passing failing)
    ∙ ap (λ l. flat_map L (take i n.signals) ++ l) (one (t i) refl x.0 x.1)
    ∙ sym (flat_map-append L (take i n.signals) (x.0 ∷ []))
    ∙ ap (λ y. flat_map L (take i n.signals ++ y ∷ [])) (sym (get_or_from_slice_get n.signals i x.0 x.0 x.1))
    ∙ ap (flat_map L) (sym (take-suc n.signals i x.0 (omega (arith, le))))
  where
    one : (c : Bool) → t i ≡ c → (x : Signal) → slice_get n.signals i ≡ Some x → flat_map L (map g (cond c (i ∷ []) [])) ≡ L x ++ []
    one true q x e = ap (λ l. l ++ []) (passing i x e q)
    one false q x e = ap (λ l. l ++ []) (sym (failing i x e q))

lines_none : {A : Type 0} (L : Signal → List A) (g : ℕ → Signal) (t : ℕ → Bool) (i : ℕ) → ((s : ℕ) → t s ≡ true → L (g s) ≡ []) → flat_map L (map g (below t i)) ≡ []
lines_none L g t zero no_line = refl
lines_none L g t (suc i) no_line =
    ap (flat_map L) (map-append g (below t i) (cond (t i) (i ∷ []) []))
    ∙ flat_map-append L (map g (below t i)) (map g (cond (t i) (i ∷ []) []))
    ∙ ap (λ l. l ++ flat_map L (map g (cond (t i) (i ∷ []) []))) (lines_none L g t i no_line)
    ∙ one (t i) refl
  where
    one : (c : Bool) → t i ≡ c → flat_map L (map g (cond c (i ∷ []) [])) ≡ []
    one true q = ap (λ l. l ++ []) (no_line i q)
    one false q = refl

lines_gone : {A : Type 0} (L : Signal → List A) (P : Signal → Type 0) (gs : List Signal) → ((g : Signal) → P g → L g ≡ []) → Each P gs → flat_map L gs ≡ []
lines_gone L P [] h e = refl
lines_gone L P (g ∷ gs) h e = ap (λ l. l ++ flat_map L gs) (h g e.0) ∙ lines_gone L P gs h e.1

module _ (n : Netlist) (made_n : IsNetlist n) (ws : List ℕ) (order : IsOrder n ws) (f : Values) (h : Folds n ws (length ws) f) (read : List Bool)
    (marks : AreRead n f read) (made : List Sig) (m : Netlist) (b : Builds n f read made m) (needed : AreNeeded n f read)
    (different : Different f.nodes) (tidy : IsTidy n) where
  abbrev ks : ℕ → Signal
  ks s = kept_signal n f made s

  abbrev all : ℕ
  all = length n.signals

  abbrev named : ℕ → Bool
  named s = is_wire (kind_at n s) && not (is_numbered (name_at n s))

  long_enough : f.kept ≤ length m.signals
  long_enough = by f.kept refl
    where
      by : (k : ℕ) → f.kept ≡ k → k ≤ length m.signals
      by zero e = omega arith
      by (suc k) e = let z = slice_get_within m.signals k _ (b.kept k (omega (arith, e))) in omega (arith, z)

  parts : Split f.kept m.signals
  parts = split_at f.kept m.signals long_enough

  front_is : parts.front ≡ map ks (kept_in n)
  front_is = same_list parts.front (map ks (kept_in n)) (parts.long ∙ h.kept ∙ sym (length-map (kept_in n) ks)) (λ i y e.
      let x = get_mapped ks (kept_in n) i y e in
      let lt : i < f.kept = let a = slice_get_within (kept_in n) i x.0 x.1 in let k = h.kept in omega (arith, a, k) in
      let s : sig_at f.signals.items i ≡ x.0 = (let z = sym (kept_get n ws (length ws) f h i lt) ∙ x.1 in cc) in
      sym (get_in_front parts.front parts.rest i (let l = parts.long in omega (arith, lt, l)))
      ∙ ap (λ l. slice_get l i) (sym parts.joined)
      ∙ b.kept i lt ∙ ap (λ z. Some (ks z)) s ∙ ap Some x.2)

  rest_temp : Each IsTemp parts.rest
  rest_temp = each_by_index IsTemp parts.rest (λ i g e. by i g (ap (λ l. slice_get l (f.kept + i)) parts.joined ∙ ap
      (λ k. slice_get (parts.front ++ parts.rest) (k + i)) (sym parts.long) ∙ get_back parts.front parts.rest i ∙ e))
    where
      by : (i : ℕ) (g : Signal) → slice_get m.signals (f.kept + i) ≡ Some g → IsTemp g
      by i g e =
          let r = b.each (f.kept + i) g e (omega arith) in
          let there = (b.nodes r.0 r.1 r.2 r.3).1 in
          let same : there.0 ≡ g = (let z = sym there.1 ∙ ap (slice_get m.signals) r.4 ∙ e in cc) in
          let is = subst (IsNodeOf n f made (f.kept + r.0) r.1) same there.2 in
          ((_, is.kind), is.name)

  joined : m.signals ≡ map ks (inputs_below n all) ++ (map ks (registers_below n all) ++ (map ks (named_below n all) ++ parts.rest))
  joined =
      parts.joined ∙ ap (λ l. l ++ parts.rest) (front_is ∙ map-append ks (inputs_below n all) (registers_below n all ++ named_below n all) ∙ ap
      (λ l. map ks (inputs_below n all) ++ l) (map-append ks (registers_below n all) (named_below n all)))
      ∙ append_assoc (map ks (inputs_below n all)) (map ks (registers_below n all) ++ map ks (named_below n all)) parts.rest
      ∙ ap (λ l. map ks (inputs_below n all) ++ l) (append_assoc (map ks (registers_below n all)) (map ks (named_below n all)) parts.rest)

  -- ---- what passes each test

  input_kind : (k : Kind) → is_input k ≡ true → new_kind f made k ≡ Input
  input_kind Input e = refl
  input_kind (Reg init next) e = absurd (cc)
  input_kind (Wire c) e = absurd (cc)

  register_kind : (k : Kind) → is_register k ≡ true → (init : ℕ) × (next : Option ℕ) × (new_kind f made k ≡ Reg init next)
  register_kind Input e = absurd (cc)
  register_kind (Reg init None) e = (init, None, refl)
  register_kind (Reg init (Some t)) e = (init, Some (new_number f made t), refl)
  register_kind (Wire c) e = absurd (cc)

  wire_kind : (k : Kind) → is_wire k ≡ true → (c : Option Cell) × (new_kind f made k ≡ Wire c)
  wire_kind Input e = absurd (cc)
  wire_kind (Reg init next) e = absurd (cc)
  wire_kind (Wire None) e = (None, refl)
  wire_kind (Wire (Some c)) e = (Some (new_cell f made c), refl)

  both : (x y : Bool) → (x && not y) ≡ true → (x ≡ true) × (y ≡ false)
  both true true e = absurd (cc)
  both true false e = (refl, refl)
  both false y e = absurd (cc)

  named_lasts : (s : ℕ) → s < all → named s ≡ true → is_temp (name_at n s) ≡ false
  named_lasts s lt q =
      let g = get_some n.signals s lt in
      let p = both (is_wire (kind_at n s)) (is_numbered (name_at n s)) q in
      ap (λ o. is_temp (name_in o)) g.1 ∙ no_temp n made_n ws order f h read marks made m b needed different tidy s g.0 g.1 (λ t. let z = sym t.name ∙ p.1 in absurd (cc))

  pub laid_out : IsLaidOut m
  laid_out = record {
    inputs = map ks (inputs_below n all);
    registers = map ks (registers_below n all);
    named = map ks (named_below n all);
    temporary = parts.rest;
    joined = joined;
    are_inputs = each_below arranged.IsInput ks (λ s. is_input (kind_at n s)) all (λ s lt q. input_kind (kind_at n s) q);
    are_registers = each_below arranged.IsRegister ks (λ s. is_register (kind_at n s)) all (λ s lt q. register_kind (kind_at n s) q);
    are_named = each_below IsNamed ks named all (λ s lt q. (wire_kind (kind_at n s) (both (is_wire (kind_at n s)) (is_numbered (name_at n s)) q).0, named_lasts s lt q));
    are_temporary = rest_temp;
  }

  -- ---- the lines

  no_numbered_temp : (s : ℕ) (g : Signal) → slice_get n.signals s ≡ Some g → is_numbered (name_at n s) ≡ true → is_temp g.name ≡ true
  no_numbered_temp s g e q = numbered_temp g.name (sym (ap (λ o. is_numbered (name_in o)) e) ∙ q)

  all_lines : {A : Type 0} (L : Signal → Kind → List A)
      → flat_map (λ g. L g g.kind) (map ks (inputs_below n all)) ++
      (flat_map (λ g. L g g.kind) (map ks (registers_below n all)) ++
      (flat_map (λ g. L g g.kind) (map ks (named_below n all)) ++ flat_map (λ g. L g g.kind) parts.rest)) ≡ flat_map (λ g. L g g.kind) m.signals
  all_lines L =
      let K = λ (g : Signal). L g g.kind in
      sym (ap (flat_map K) joined
      ∙ flat_map-append K (map ks (inputs_below n all)) (map ks (registers_below n all) ++ (map ks (named_below n all) ++ parts.rest))
      ∙ ap (λ l. flat_map K (map ks (inputs_below n all)) ++ l) (flat_map-append K (map ks (registers_below n all)) (map ks (named_below n all) ++ parts.rest)
      ∙ ap (λ l. flat_map K (map ks (registers_below n all)) ++ l) (flat_map-append K (map ks (named_below n all)) parts.rest)))

  whole : {A : Type 0} (L : Signal → List A) → flat_map L (take all n.signals) ≡ flat_map L n.signals
  whole L = ap (flat_map L) (take-length n.signals)

  kind_of : (s : ℕ) (g : Signal) → slice_get n.signals s ≡ Some g → kind_at n s ≡ g.kind
  kind_of s g e = ap kind_in e

  inputs_same : inputs_in m ≡ inputs_in n
  inputs_same =
      let L = λ (g : Signal). input_line g g.kind in
      sym (all_lines input_line)
      ∙ ap (λ l. flat_map L (map ks (inputs_below n all)) ++ (flat_map L (map ks (registers_below n all)) ++
      (flat_map L (map ks (named_below n all)) ++ l))) (lines_gone L IsTemp parts.rest (λ g t. ap (input_line g) t.0.1) rest_temp)
      ∙ ap (λ l. flat_map L (map ks (inputs_below n all)) ++ (flat_map L (map ks (registers_below n all)) ++ (l ++ [])))
      (lines_none L ks named all (λ s q. ap (input_line (ks s)) (wire_kind (kind_at n s) (both (is_wire (kind_at n s)) (is_numbered (name_at n s)) q).0).1))
      ∙ ap (λ l. flat_map L (map ks (inputs_below n all)) ++ (l ++ [])) (lines_none L ks (λ s. is_register (kind_at n s)) all (λ s q. ap (input_line (ks s)) (register_kind (kind_at n s) q).2))
      ∙ append-nil (flat_map L (map ks (inputs_below n all)))
      ∙ lines_pass L n ks (λ s. is_input (kind_at n s)) all (omega arith) passing failing
      ∙ whole L
    where
      of_kind : (g : Signal) (k : Kind) → is_input k ≡ false → input_line g k ≡ []
      of_kind g Input e = absurd (cc)
      of_kind g (Reg init next) e = refl
      of_kind g (Wire c) e = refl

      passing : (s : ℕ) (x : Signal) → slice_get n.signals s ≡ Some x → is_input (kind_at n s) ≡ true → input_line (ks s) (new_kind f made (kind_at n s)) ≡ input_line x x.kind
      passing s x e q = ap (input_line (ks s)) (input_kind (kind_at n s) q) ∙ ap (λ o. (name_in o, width_in o) ∷ []) e ∙ sym (ap (input_line x) (is_it x.kind (ap is_input (sym (kind_of s x e)) ∙ q)))
        where
          is_it : (k : Kind) → is_input k ≡ true → k ≡ Input
          is_it Input p = refl
          is_it (Reg init next) p = absurd (cc)
          is_it (Wire c) p = absurd (cc)

      failing : (s : ℕ) (x : Signal) → slice_get n.signals s ≡ Some x → is_input (kind_at n s) ≡ false → input_line x x.kind ≡ []
      failing s x e q = of_kind x x.kind (ap is_input (sym (kind_of s x e)) ∙ q)

  registers_same : registers_in m ≡ registers_in n
  registers_same =
      let L = λ (g : Signal). register_line g g.kind in
      sym (all_lines register_line)
      ∙ ap (λ l. flat_map L (map ks (inputs_below n all)) ++ (flat_map L (map ks (registers_below n all)) ++
      (flat_map L (map ks (named_below n all)) ++ l))) (lines_gone L IsTemp parts.rest (λ g t. ap (register_line g) t.0.1) rest_temp)
      ∙ ap (λ l. flat_map L (map ks (inputs_below n all)) ++ (flat_map L (map ks (registers_below n all)) ++ (l ++ [])))
      (lines_none L ks named all (λ s q. ap (register_line (ks s)) (wire_kind (kind_at n s) (both (is_wire (kind_at n s)) (is_numbered (name_at n s)) q).0).1))
      ∙ ap (λ l. l ++ (flat_map L (map ks (registers_below n all)) ++ [])) (lines_none L ks (λ s. is_input (kind_at n s)) all (λ s q. ap (register_line (ks s)) (input_kind (kind_at n s) q)))
      ∙ append-nil (flat_map L (map ks (registers_below n all)))
      ∙ lines_pass L n ks (λ s. is_register (kind_at n s)) all (omega arith) passing failing
      ∙ whole L
    where
      of_kind : (g : Signal) (k : Kind) → is_register k ≡ false → register_line g k ≡ []
      of_kind g Input e = refl
      of_kind g (Reg init next) e = absurd (cc)
      of_kind g (Wire c) e = refl

      same_line : (g : Signal) (k : Kind) → register_line g (new_kind f made k) ≡ register_line g k
      same_line g Input = refl
      same_line g (Reg init None) = refl
      same_line g (Reg init (Some t)) = refl
      same_line g (Wire None) = refl
      same_line g (Wire (Some c)) = refl

      renamed : (g x : Signal) (k : Kind) → g.name ≡ x.name → g.width ≡ x.width → register_line g k ≡ register_line x k
      renamed g x Input p q = refl
      renamed g x (Reg init next) p q = ap (λ a. ((a, g.width), init) ∷ []) p ∙ ap (λ (a : ℕ). ((x.name, a), init) ∷ []) q
      renamed g x (Wire c) p q = refl

      passing : (s : ℕ) (x : Signal) → slice_get n.signals s ≡ Some x → is_register (kind_at n s) ≡ true → register_line (ks s) (new_kind f made (kind_at n s)) ≡ register_line x x.kind
      passing s x e q = same_line (ks s) (kind_at n s) ∙ renamed (ks s) x (kind_at n s) (ap name_in e) (ap width_in e) ∙ ap (register_line x) (kind_of s x e)

      failing : (s : ℕ) (x : Signal) → slice_get n.signals s ≡ Some x → is_register (kind_at n s) ≡ false → register_line x x.kind ≡ []
      failing s x e q = of_kind x x.kind (ap is_register (sym (kind_of s x e)) ∙ q)

  wires_same : wires_in m ≡ wires_in n
  wires_same =
      let L = λ (g : Signal). wire_line g g.kind in
      sym (all_lines wire_line)
      ∙ ap (λ l. flat_map L (map ks (inputs_below n all)) ++ (flat_map L (map ks (registers_below n all)) ++
      (flat_map L (map ks (named_below n all)) ++ l))) (lines_gone L IsTemp parts.rest
      (λ g t. ap (wire_line g) t.0.1 ∙ ap (λ c. cond c [] ((g.name, g.width) ∷ [])) t.1) rest_temp)
      ∙ ap (λ l. flat_map L (map ks (inputs_below n all)) ++ (l ++ (flat_map L (map ks (named_below n all)) ++ [])))
      (lines_none L ks (λ s. is_register (kind_at n s)) all (λ s q. ap (wire_line (ks s)) (register_kind (kind_at n s) q).2))
      ∙ ap (λ l. l ++ (flat_map L (map ks (named_below n all)) ++ [])) (lines_none L ks (λ s. is_input (kind_at n s)) all (λ s q. ap (wire_line (ks s)) (input_kind (kind_at n s) q)))
      ∙ append-nil (flat_map L (map ks (named_below n all)))
      ∙ lines_pass L n ks named all (omega arith) passing failing
      ∙ whole L
    where
      same_line : (g : Signal) (k : Kind) → wire_line g (new_kind f made k) ≡ wire_line g k
      same_line g Input = refl
      same_line g (Reg init None) = refl
      same_line g (Reg init (Some t)) = refl
      same_line g (Wire None) = refl
      same_line g (Wire (Some c)) = refl

      renamed : (g x : Signal) (k : Kind) → g.name ≡ x.name → g.width ≡ x.width → wire_line g k ≡ wire_line x k
      renamed g x Input p q = refl
      renamed g x (Reg init next) p q = refl
      renamed g x (Wire c) p q = ap (λ a. cond (is_temp a) [] ((a, g.width) ∷ [])) p ∙ ap (λ (a : ℕ). cond (is_temp x.name) [] ((x.name, a) ∷ [])) q

      passing : (s : ℕ) (x : Signal) → slice_get n.signals s ≡ Some x → named s ≡ true → wire_line (ks s) (new_kind f made (kind_at n s)) ≡ wire_line x x.kind
      passing s x e q = same_line (ks s) (kind_at n s) ∙ renamed (ks s) x (kind_at n s) (ap name_in e) (ap width_in e) ∙ ap (wire_line x) (kind_of s x e)

      of_kind : (g : Signal) (k : Kind) (d : Bool) → (is_wire k && not d) ≡ false → (d ≡ true → is_temp g.name ≡ true) → wire_line g k ≡ []
      of_kind g Input d e t = refl
      of_kind g (Reg init next) d e t = refl
      of_kind g (Wire c) true e t = ap (λ c. cond c [] ((g.name, g.width) ∷ [])) (t refl)
      of_kind g (Wire c) false e t = absurd (cc)

      failing : (s : ℕ) (x : Signal) → slice_get n.signals s ≡ Some x → named s ≡ false → wire_line x x.kind ≡ []
      failing s x e q = of_kind x x.kind (is_numbered (name_at n s)) (ap (λ k. is_wire k && not (is_numbered (name_at n s))) (sym (kind_of s x e)) ∙ q) (λ t. no_numbered_temp s x e t)

  -- ---- the outputs

  width_new : (x : ℕ) → HasSignal n made_n ws order f h read marks made m b x → width_of m (sig_at made x) ≡ value_width n f.signals.items x
  width_new x (inl lt) = ap (width_of m) (b.own x lt) ∙ ap width_in (b.kept x lt)
  width_new x (inr r) =
      let k = (b.nodes r.0 r.1 r.2 (ap (bool_at read) (sym r.4) ∙ r.3)).1 in
      ap (λ z. width_of m (sig_at made z)) r.4 ∙ ap width_in k.1 ∙ k.2.width ∙ ap (value_width n f.signals.items) (sym r.4)

  root_width : (t : ℕ) → t < all → IsRoot n t → width_of m (new_number f made t) ≡ width_of n t
  root_width t lt r = width_new (sig_at f.ids.items t) (root_has n made_n ws order f h read marks made m b t lt r) ∙ (value n made_n ws order f h read marks made m b t lt).width

  outputs_same : outputs_in m ≡ outputs_in n
  outputs_same = ap (map {B = Line} (λ (o : List ℕ × ℕ). (o.0, width_of m o.1))) b.outputs ∙ by n.outputs (λ i o e. root_width o.1 (made_n.outputs i o e).1 (shown i o e refl))
    where
      by : (os : List (List ℕ × ℕ)) → ((i : ℕ) (o : List ℕ × ℕ) → slice_get os i ≡ Some o → width_of m (new_number f made o.1) ≡ width_of n o.1)
          → map {B = Line} (λ (o : List ℕ × ℕ). (o.0, width_of m o.1)) (map {B = Line} (λ (o : List ℕ × ℕ). (o.0, new_number f made o.1)) os) ≡ map
          {B = Line} (λ (o : List ℕ × ℕ). (o.0, width_of n o.1)) os
      by [] k = refl
      by (o ∷ os) k = ap (λ (z : ℕ). (o.0, z) ∷ map {B = Line} (λ (o : List ℕ × ℕ). (o.0, width_of m o.1))
          (map {B = Line} (λ (o : List ℕ × ℕ). (o.0, new_number f made o.1)) os)) (k 0 o refl) ∙ ap (λ l. (o.0, width_of n o.1) ∷ l) (by os (λ i x e. k (suc i) x e))

  -- ---- the cells of named wires

  known_of : (s : ℕ) (c : Cell) → kind_at n s ≡ Wire (Some c) → (g : Signal) × (slice_get n.signals s ≡ Some g) × (g.kind ≡ Wire (Some c))
  known_of s c e = by (slice_get n.signals s) refl e
    where
      by : (o : Option Signal) → slice_get n.signals s ≡ o → kind_in o ≡ Wire (Some c) → (g : Signal) × (slice_get n.signals s ≡ Some g) × (g.kind ≡ Wire (Some c))
      by None q k = absurd (cc)
      by (Some g) q k = (g, q, k)

  -- an operand that is not temporary has its name
  named_same : (s : ℕ) → s < all → is_temp (name_at n s) ≡ false → name_at m (new_number f made s) ≡ name_at n s
  named_same s lt q =
      let g = get_some n.signals s lt in
      let last = lasts n made_n ws order f h read marks made m b needed different tidy s g.0 g.1 (sym (ap (λ o. is_temp (name_in o)) g.1) ∙ q) in
      let k = kept_number n made_n ws order f h read marks made m b needed different s lt last in
      let number : new_number f made s ≡ k.0 = ap (λ z. sig_at made (sig_at f.ids.items z)) (sym k.2) ∙ ap (sig_at made) (h.own k.0 k.1) ∙ b.own k.0 k.1 in
      ap (name_at m) number ∙ kept_name n made_n ws order f h read marks made m b needed different k.0 k.1 ∙ ap (name_at n) k.2

  cells_kept : (s : ℕ) (c : Cell) → kind_at n s ≡ Wire (Some c) → is_temp (name_at n s) ≡ false → KeepsWire n m (name_at n s) c
  cells_kept s c e q =
      let g = known_of s c e in
      let lt = slice_get_within n.signals s g.0 g.1 in
      let last = lasts n made_n ws order f h read marks made m b needed different tidy s g.0 g.1 (sym (ap (λ o. is_temp (name_in o)) g.1) ∙ q) in
      let k = kept_number n made_n ws order f h read marks made m b needed different s lt last in
      record {
        number = k.0;
        cell = new_cell f made c;
        named = kept_name n made_n ws order f h read marks made m b needed different k.0 k.1 ∙ ap (name_at n) k.2;
        wire = kept_kind n made_n ws order f h read marks made m b needed different k.0 k.1 ∙ ap (λ z. new_kind f made (kind_at n z)) k.2 ∙ ap (new_kind f made) e;
        keeps = record {
          op = refl;
          count = length-map c.operands (new_number f made);
          operands = λ i x t o u r.
              let same : new_number f made x ≡ t = (let z = sym (get_map n made_n ws order f h read marks made m b needed different (new_number f made) c.operands i x o) ∙ u in cc) in
              let known = operand_known n s g.0 c i x made_n g.1 g.2 o in
              ap (name_at m) (sym same) ∙ named_same x known r;
        };
      }

  pub alike : Alike n m
  alike = record { inputs = inputs_same; registers = registers_same; wires = wires_same; outputs = outputs_same; cells = cells_kept }
