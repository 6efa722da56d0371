-- The expression that is written of a cell means the cell.
use Rattle.safl_verilog.proofs.Common.{Each, IsIdentifier, Op, Primitive, VFault, is_digit, list_all, literal, signal_widths, value}
use Rattle.std.proofs.Common.{◌≡◌, ℕ, ◌+◌, ◌-◌, ◌<◌, ◌≤◌, ◌^◌, List, [], ◌∷◌, ◌++◌, map, drop, Bool, true, ◌&&◌, nat_le, nat_lt, Some, Option}
use Rattle.std.proofs.Common.{refl, sym, ap, subst, ◌∙◌, arith, append_assoc, lit<}
use Rattle.std.specs.Prelude.{codes, decimal}
use Rattle.std.proofs.lemmas.Bool.{and_parts, le-leb, leb-true, lt-ltb, ltb-true}
use Rattle.std.proofs.Math.Nat.{pow-le-pow_right}
use Rattle.safl_word.specs.Words.{Word, IsWord}
use Rattle.safl_word.specs.Primitives.{one_width, two_widths, where_true}
use Rattle.safl_word.proofs.Widths.{only_where}
use Rattle.safl_word.specs.declared.primitive.Primitive.TheVariants as prims
use Rattle.safl_word.proofs.Booleans.{all_three}
use Rattle.safl_word.proofs.Words.{where_holds}
use Rattle.safl_net.specs.declared.cell.Op.TheVariants as ops
use Rattle.safl_net.specs.Netlist.{Netlist, width_of}
use Rattle.safl_net.specs.Operands.{no_operand, one_operand, mux_operands}
use Rattle.safl_net.specs.Widths.{op_width, HasWord}
use Rattle.safl_net.specs.Making.{name_at as name_of}
use Rattle.safl_verilog.specs.Files.{Spot, RightSide, Binary}
use Rattle.safl_verilog.specs.Faults.{is_short, before_quote, behind_quote, base_at, literal_width, literal_value, is_word, is_literal, expression_number_faults, operation, operands, where_not}
use Rattle.safl_verilog.proofs.Runs.{other_than}
use Rattle.safl_verilog.proofs.Decimals.{decimal_numeral, decimal_value, decimal_short}
use Rattle.safl_verilog.proofs.Printed.{is_operator, IsWritten, FineExpression}
use Rattle.safl_verilog.proofs.FileOf.{named_spot, applied, expressed}

-- ---- literals

split_at_quote : (u v : List ℕ) → list_all (is_digit 10) u ≡ true → (before_quote (u ++ 39 ∷ v) ≡ u) × (behind_quote (u ++ 39 ∷ v) ≡ v)
split_at_quote [] v h = (refl, refl)
split_at_quote (c ∷ u) v h =
    let a = and_parts (is_digit 10 c) (list_all (is_digit 10) u) h in
    let q = other_than (is_digit 10) c 39 a.0 refl in
    let k = split_at_quote u v a.1 in
    (rw (q, k.0) refl, rw (q, k.1) refl)

word_bits : (w : ℕ) → w ≤ 128 → 2 ^ w ≤ 2 ^ 128
word_bits w h = pow-le-pow_right {n = 2} (lit< tt) {i = w} {j = 128} h

-- the text of a literal, apart
apart_literal : (width bits : ℕ) → literal width bits ≡ decimal width ++ 39 ∷ 100 ∷ decimal bits
apart_literal width bits = append_assoc (decimal width) (codes "'d") (decimal bits)

pub record Spelled (width bits : ℕ) : Type 0 where
  pub width_is : literal_width (literal width bits) ≡ width
  pub bits_is : literal_value (literal width bits) ≡ bits
  pub good : is_literal (literal width bits) ≡ true
  pub written : IsWritten (literal width bits)

pub spelled : (width bits : ℕ) → 1 ≤ width → width ≤ 128 → bits < 2 ^ width → Spelled width bits
spelled width bits a b c =
    let big : 128 < 2 ^ 128 = lit< tt in
    let w : width < 2 ^ 128 = omega arith in
    let v : bits < 2 ^ 128 = omega (arith, word_bits width b) in
    let n = decimal_numeral width w in
    let s = split_at_quote (decimal width) (100 ∷ decimal bits) n.digits in
    let before : before_quote (literal width bits) ≡ decimal width = ap before_quote (apart_literal width bits) ∙ s.0 in
    let behind : behind_quote (literal width bits) ≡ 100 ∷ decimal bits = ap behind_quote (apart_literal width bits) ∙ s.1 in
    let width_is : literal_width (literal width bits) ≡ width = ap (value 10) before ∙ decimal_value width w in
    let bits_is : literal_value (literal width bits) ≡ bits = ap (λ (l : List ℕ). value (base_at l) (drop 1 l)) behind ∙ decimal_value bits v in
    let short_width : is_short 10 (before_quote (literal width bits)) ≡ true = ap (is_short 10) before ∙ decimal_short width w in
    let short_bits : is_short (base_at (behind_quote (literal width bits))) (drop 1 (behind_quote (literal width bits))) ≡ true = ap
    (λ (l : List ℕ). is_short (base_at l) (drop 1 l)) behind ∙ decimal_short bits v in
    let fits : is_word (literal_width (literal width bits)) (literal_value (literal width bits)) ≡ true = ap
    (λ k. is_word k (literal_value (literal width bits))) width_is ∙ ap (is_word width) bits_is ∙ is_one width bits a b c in
    record {
      width_is = width_is;
      bits_is = bits_is;
      good = all_three _ _ _ short_width short_bits fits;
      written = record { width = decimal width; bits = decimal bits; joined = apart_literal width bits; width_numeral = n; bits_numeral = decimal_numeral bits v };
    }
  where
    is_one : (width bits : ℕ) → 1 ≤ width → width ≤ 128 → bits < 2 ^ width → is_word width bits ≡ true
    is_one width bits a b c = rw (le-leb 1 width a, le-leb width 128 b, lt-ltb bits (2 ^ width) c) refl

-- ---- expressions

-- a test that holds gives no fault
pub kept : (b : Bool) (f : VFault) → b ≡ true → where_not b f ≡ []
kept b f h = ap (λ c. where_not c f) h

pub record Sound (n : Netlist) (o : Op) (xs : List ℕ) (e : RightSide) : Type 0 where
  pub does : operation e ≡ o
  pub takes : operands e ≡ map (named_spot n) xs
  pub fine : FineExpression e
  pub short : expression_number_faults e ≡ []

abbrev Names : Netlist → List ℕ → Type 0
Names n xs = Each (λ s. IsIdentifier (name_of n s)) xs

one_case : (n : Netlist) (f : ℕ → Option ℕ) (xs : List ℕ) (w : ℕ) → one_width f (signal_widths n xs) ≡ Some w → (a : ℕ) × (xs ≡ a ∷ []) × (f (width_of n a) ≡ Some w)
one_case n f [] w e = absurd cc
one_case n f (a ∷ []) w e = (a, refl, only_where _ _ w e)
one_case n f (a ∷ (b ∷ xs)) w e = absurd cc

two_case : (n : Netlist) (f : ℕ → ℕ → Option ℕ) (xs : List ℕ) (w : ℕ) → two_widths f (signal_widths n xs) ≡ Some w → (a : ℕ) × (b : ℕ) × (xs ≡ a ∷ b ∷ [])
two_case n f [] w e = absurd cc
two_case n f (a ∷ []) w e = absurd cc
two_case n f (a ∷ (b ∷ [])) w e = (a, b, refl)
two_case n f (a ∷ (b ∷ (c ∷ xs))) w e = absurd cc

binary_sound : (n : Netlist) (p : Primitive) (f : ℕ → ℕ → Option ℕ) (xs : List ℕ) (w : ℕ) → is_operator p ≡ true →
    ((a b : Spot) → applied p (a ∷ b ∷ []) ≡ Binary p a b) → two_widths f (signal_widths n xs) ≡ Some w → Names n xs → Sound n (ops.Apply p) xs
    (applied p (map (named_spot n) xs))
binary_sound n p f xs w good same e names =
    let k = two_case n f xs w e in
    let here : Names n (k.0 ∷ k.1 ∷ []) = subst (Names n) k.2 names in
    subst (λ (l : List ℕ). Sound n (ops.Apply p) l (applied p (map (named_spot n) l))) (sym k.2)
    (subst (λ (e : RightSide). Sound n (ops.Apply p) (k.0 ∷ k.1 ∷ []) e) (sym (same (named_spot n k.0) (named_spot n k.1)))
    (record { does = refl; takes = refl; fine = (good, here.0, here.1.0); short = refl }))

not_sound : (n : Netlist) (xs : List ℕ) (w : ℕ) → one_width (λ v. Some v) (signal_widths n xs) ≡ Some w → Names n xs → Sound n (ops.Apply prims.Not) xs (applied prims.Not (map (named_spot n) xs))
not_sound n xs w e names =
    let k = one_case n (λ v. Some v) xs w e in
    let here : Names n (k.0 ∷ []) = subst (Names n) k.1 names in
    subst (λ (l : List ℕ). Sound n (ops.Apply prims.Not) l (applied prims.Not (map (named_spot n) l))) (sym k.1) (record { does = refl; takes = refl; fine = here.0; short = refl })

cat_sound : (n : Netlist) (f : ℕ → ℕ → Option ℕ) (xs : List ℕ) (w : ℕ) → two_widths f (signal_widths n xs) ≡ Some w → Names n xs
    → Sound n (ops.Apply prims.Cat) xs (applied prims.Cat (map (named_spot n) xs))
cat_sound n f xs w e names =
    let k = two_case n f xs w e in
    let here : Names n (k.0 ∷ k.1 ∷ []) = subst (Names n) k.2 names in
    subst (λ (l : List ℕ). Sound n (ops.Apply prims.Cat) l (applied prims.Cat (map (named_spot n) l))) (sym k.2) (record { does = refl; takes = refl; fine = (here.0, here.1.0); short = refl })

no_fault_when : (b c : Bool) (x y : _) → b ≡ true → c ≡ true → where_not b x ++ where_not c y ≡ []
no_fault_when b c x y h k = rw (h, k) refl

bits_sound : (n : Netlist) (high low : ℕ) (xs : List ℕ) (w : ℕ) → ((a : ℕ) → xs ≡ a ∷ [] → width_of n a ≤ 128) → one_width
    (λ v. where_true (nat_le low high && nat_lt high v) (high - low + 1)) (signal_widths n xs) ≡ Some w → Names n xs → Sound n
    (ops.Apply (prims.Bits high low)) xs (applied (prims.Bits high low) (map (named_spot n) xs))
bits_sound n high low xs w known e names =
    let k = one_case n (λ v. where_true (nat_le low high && nat_lt high v) (high - low + 1)) xs w e in
    let here : Names n (k.0 ∷ []) = subst (Names n) k.1 names in
    let least = known k.0 k.1 in
    let t : (nat_le low high && nat_lt high (width_of n k.0)) ≡ true = where_holds (nat_le low high && nat_lt high (width_of n k.0)) (high - low + 1) w k.2 in
    let p = and_parts (nat_le low high) (nat_lt high (width_of n k.0)) t in
    let lh : low ≤ high = leb-true low high p.0 in
    let hw : high < width_of n k.0 = ltb-true high (width_of n k.0) p.1 in
    let big : 128 < 2 ^ 128 = lit< tt in
    let h : high < 2 ^ 128 = omega arith in
    let l : low < 2 ^ 128 = omega arith in
    let op : ops.Apply (prims.Bits (value 10 (decimal high)) (value 10 (decimal low))) ≡ ops.Apply (prims.Bits high low) = ap
    (λ x. ops.Apply (prims.Bits x (value 10 (decimal low)))) (decimal_value high h) ∙ ap (λ x. ops.Apply (prims.Bits high x)) (decimal_value low l) in
    subst (λ (l : List ℕ). Sound n (ops.Apply (prims.Bits high low)) l (applied (prims.Bits high low) (map (named_spot n) l))) (sym k.1)
    (record { does = op; takes = refl; fine = (here.0, decimal_numeral high h, decimal_numeral low l); short = no_fault_when _ _ _ _ (decimal_short high h) (decimal_short low l) })

applied_sound : (n : Netlist) (p : Primitive) (xs : List ℕ) (w : ℕ) → ((a : ℕ) → xs ≡ a ∷ [] → width_of n a ≤ 128) → op_width (ops.Apply p)
    (signal_widths n xs) ≡ Some w → Names n xs → Sound n (ops.Apply p) xs (applied p (map (named_spot n) xs))
applied_sound n prims.Not xs w known e names = not_sound n xs w e names
applied_sound n prims.Cat xs w known e names = cat_sound n _ xs w e names
applied_sound n (prims.Bits high low) xs w known e names = bits_sound n high low xs w known e names
applied_sound n (prims.Ext width) xs w known e names = absurd cc
applied_sound n prims.Add xs w known e names = binary_sound n prims.Add _ xs w refl (λ a b. refl) e names
applied_sound n prims.Sub xs w known e names = binary_sound n prims.Sub _ xs w refl (λ a b. refl) e names
applied_sound n prims.Mul xs w known e names = binary_sound n prims.Mul _ xs w refl (λ a b. refl) e names
applied_sound n prims.And xs w known e names = binary_sound n prims.And _ xs w refl (λ a b. refl) e names
applied_sound n prims.Or xs w known e names = binary_sound n prims.Or _ xs w refl (λ a b. refl) e names
applied_sound n prims.Xor xs w known e names = binary_sound n prims.Xor _ xs w refl (λ a b. refl) e names
applied_sound n prims.Eq xs w known e names = binary_sound n prims.Eq _ xs w refl (λ a b. refl) e names
applied_sound n prims.Ne xs w known e names = binary_sound n prims.Ne _ xs w refl (λ a b. refl) e names
applied_sound n prims.Lt xs w known e names = binary_sound n prims.Lt _ xs w refl (λ a b. refl) e names
applied_sound n prims.Le xs w known e names = binary_sound n prims.Le _ xs w refl (λ a b. refl) e names
applied_sound n prims.Gt xs w known e names = binary_sound n prims.Gt _ xs w refl (λ a b. refl) e names
applied_sound n prims.Ge xs w known e names = binary_sound n prims.Ge _ xs w refl (λ a b. refl) e names
applied_sound n prims.Shl xs w known e names = binary_sound n prims.Shl _ xs w refl (λ a b. refl) e names
applied_sound n prims.Shr xs w known e names = binary_sound n prims.Shr _ xs w refl (λ a b. refl) e names

copy_sound : (n : Netlist) (xs : List ℕ) (w : ℕ) → one_operand (signal_widths n xs) ≡ Some w → Names n xs → Sound n ops.Copy xs (expressed ops.Copy (map (named_spot n) xs))
copy_sound n [] w e names = absurd cc
copy_sound n (a ∷ []) w e names = record { does = refl; takes = refl; fine = names.0; short = refl }
copy_sound n (a ∷ (b ∷ xs)) w e names = absurd cc

mux_sound : (n : Netlist) (xs : List ℕ) (w : ℕ) → mux_operands (signal_widths n xs) ≡ Some w → Names n xs → Sound n ops.Mux xs (expressed ops.Mux (map (named_spot n) xs))
mux_sound n [] w e names = absurd cc
mux_sound n (a ∷ []) w e names = absurd cc
mux_sound n (a ∷ (b ∷ [])) w e names = absurd cc
mux_sound n (a ∷ (b ∷ (c ∷ []))) w e names = record { does = refl; takes = refl; fine = (names.0, names.1.0, names.1.1.0); short = refl }
mux_sound n (a ∷ (b ∷ (c ∷ (d ∷ xs)))) w e names = absurd cc

const_sound : (n : Netlist) (v : Word) (xs : List ℕ) (w : ℕ) → IsWord v → no_operand v.width (signal_widths n xs) ≡ Some w → Sound n (ops.Const v) xs (expressed (ops.Const v) (map (named_spot n) xs))
const_sound n v [] w h e =
    let s = spelled v.width v.bits h.some h.bounded h.fits in
    record {
      does = ap (λ k. ops.Const (record { width = k; bits = literal_value (literal v.width v.bits) })) s.width_is ∙ ap (λ k. ops.Const (record { width = v.width; bits = k })) s.bits_is;
      takes = refl;
      fine = s.written;
      short = kept _ _ s.good;
    }
const_sound n v (a ∷ xs) w h e = absurd cc

pub cell_sound : (n : Netlist) (o : Op) (xs : List ℕ) (w : ℕ) → ((a : ℕ) → xs ≡ a ∷ [] → width_of n a ≤ 128) → op_width o (signal_widths n xs) ≡ Some w →
    HasWord o → Names n xs → Sound n o xs (expressed o (map (named_spot n) xs))
cell_sound n (ops.Const v) xs w known e h names = const_sound n v xs w h e
cell_sound n ops.Copy xs w known e h names = copy_sound n xs w e names
cell_sound n ops.Mux xs w known e h names = mux_sound n xs w e names
cell_sound n (ops.Apply p) xs w known e h names = applied_sound n p xs w known e names
