-- Cells that could not be spared.
use Rattle.safl_opt.proofs.Common.{Cell, CellFits, Netlist, Op, Primitive, Sig, Word, numbers_length, op_width, sig_at, width_of}
use Rattle.std.proofs.Common.{◌≡◌, ◌≢◌, ℕ, zero, suc, ◌<◌, List, [], ◌∷◌, length, take, Some, Bool, true, false, not}
use Rattle.std.proofs.Common.{◌&&◌, slice_index_or, refl, sym, ap, ◌∙◌, arith}
use Rattle.std.proofs.lemmas.List.{length-map}
use Rattle.safl_net.specs.declared.cell.Op.TheVariants.{Const, Copy, Mux, Apply}
use Rattle.safl_net.specs.Making.{numbers, signal_widths, cell_on}
use Rattle.safl_net.specs.Operands.{mux_operands}
use Rattle.safl_opt.specs.Lean.{is_const, is_constant, are_constants}
use Rattle.safl_opt.specs.Spare.{IsChoice, IsNeeded}

-- ---- cells by their operations

pub needed_const : (n : Netlist) (c : Cell) (w : Word) → c.op ≡ Const w → IsNeeded n c
needed_const n c w e = record {
  folded = λ q. absurd (let z = sym (ap is_const e) ∙ q in cc);
  no_copy = λ q. absurd (let z = sym e ∙ q in cc);
  chooses = λ q. absurd (let z = sym e ∙ q in cc);
}

pub needed_copy : (n : Netlist) (c : Cell) → c.op ≡ Copy → IsNeeded n c → ⊥
needed_copy n c e h = h.no_copy e

pub needed_apply : (n : Netlist) (c : Cell) (p : Primitive) → c.op ≡ Apply p → are_constants n c.operands ≡ false → IsNeeded n c
needed_apply n c p e h = record {
  folded = λ q. h;
  no_copy = λ q. absurd (let z = sym e ∙ q in cc);
  chooses = λ q. absurd (let z = sym e ∙ q in cc);
}

pub apply_folded : (n : Netlist) (c : Cell) (p : Primitive) → c.op ≡ Apply p → IsNeeded n c → are_constants n c.operands ≡ false
apply_folded n c p e h = h.folded (ap is_const e)

-- a choice has three operands
three : (ws : List ℕ) (w : ℕ) → mux_operands ws ≡ Some w → length ws ≡ 3
three [] w e = absurd (cc)
three (a ∷ []) w e = absurd (cc)
three (a ∷ (b ∷ [])) w e = absurd (cc)
three (a ∷ (b ∷ (c ∷ []))) w e = refl
three (a ∷ (b ∷ (c ∷ (d ∷ ws)))) w e = absurd (cc)

pub mux_three : (n : Netlist) (c : Cell) (w : ℕ) → CellFits n w c → c.op ≡ Mux → length c.operands ≡ 3
mux_three n c w f e = sym (length-map c.operands (width_of n)) ∙ three (signal_widths n c.operands) w (ap (λ o. op_width o (signal_widths n c.operands)) (sym e) ∙ f.gives)

choice_folded : (n : Netlist) (xs : List ℕ) → length xs ≡ 3 → IsChoice n xs → are_constants n xs ≡ false
choice_folded n [] e h = absurd (omega (arith, e))
choice_folded n (u ∷ []) e h = absurd (omega (arith, e))
choice_folded n (u ∷ (a ∷ [])) e h = absurd (omega (arith, e))
choice_folded n (u ∷ (a ∷ (b ∷ []))) e h = ap (λ x. x && (is_constant n a && (is_constant n b && true))) (h u a b refl).0
choice_folded n (u ∷ (a ∷ (b ∷ (d ∷ xs)))) e h = absurd (omega (arith, e))

pub needed_mux : (n : Netlist) (c : Cell) → c.op ≡ Mux → length c.operands ≡ 3 → IsChoice n c.operands → IsNeeded n c
needed_mux n c e l h = record {
  folded = λ q. choice_folded n c.operands l h;
  no_copy = λ q. absurd (let z = sym e ∙ q in cc);
  chooses = λ q. h;
}

-- a choice of three operands
pub choice : (n : Netlist) (u a b : ℕ) → (is_constant n u ≡ false) × (a ≢ b) → IsChoice n (u ∷ a ∷ b ∷ [])
choice n u a b h v x y e =
    let p : u ≡ v = cc in
    let q : a ≡ x = cc in
    let r : b ≡ y = cc in
    (ap (is_constant n) (sym p) ∙ h.0, λ z. h.1 (q ∙ z ∙ sym r))

-- ---- equal cells

same_numbers : (xs ys : List Sig) → numbers xs ≡ numbers ys → xs ≡ ys
same_numbers [] [] e = refl
same_numbers [] (y ∷ ys) e = absurd (cc)
same_numbers (x ∷ xs) [] e = absurd (cc)
same_numbers (x ∷ xs) (y ∷ ys) e =
    let p : x.0 ≡ y.0 = cc in
    let q : numbers xs ≡ numbers ys = cc in
    ap (λ (k : ℕ). (let s : Sig = record { 0 = k } in s) ∷ xs) p ∙ ap (λ l. y ∷ l) (same_numbers xs ys q)

pub cells_apart : (o p : Op) (xs ys : List Sig) → cell_on o xs ≡ cell_on p ys → (o ≡ p) × (xs ≡ ys)
cells_apart o p xs ys e = (ap (λ (c : Cell). c.op) e, same_numbers xs ys (ap (λ (c : Cell). c.operands) e))

-- ---- constants

pub all_next : (n : Netlist) (xs : List Sig) (i : ℕ) → i < length xs → are_constants n (numbers (take i xs)) ≡ true → is_constant n (sig_at xs i) ≡
    true → are_constants n (numbers (take (suc i) xs)) ≡ true
all_next n [] i lt h k = absurd (omega (arith, lt))
all_next n (x ∷ xs) zero lt h k = ap (λ b. b && true) k
all_next n (x ∷ xs) (suc i) lt h k = by (is_constant n x.0) h (λ r. all_next n xs i (omega (arith, lt)) r k)
  where
    by : (b : Bool) → (b && are_constants n (numbers (take i xs))) ≡ true →
        (are_constants n (numbers (take i xs)) ≡ true → are_constants n (numbers (take (suc i) xs)) ≡ true) → (b && are_constants n (numbers (take (suc i) xs))) ≡ true
    by true q f = f q
    by false q f = absurd (cc)

pub not_all : (n : Netlist) (xs : List Sig) (i : ℕ) → i < length xs → is_constant n (sig_at xs i) ≡ false → are_constants n (numbers xs) ≡ false
not_all n [] i lt k = absurd (omega (arith, lt))
not_all n (x ∷ xs) zero lt k = ap (λ b. b && are_constants n (numbers xs)) k
not_all n (x ∷ xs) (suc i) lt k = by (is_constant n x.0) (not_all n xs i (omega (arith, lt)) k)
  where
    by : (b : Bool) → are_constants n (numbers xs) ≡ false → (b && are_constants n (numbers xs)) ≡ false
    by true q = q
    by false q = refl

pub not_true : (r : Bool) → not r ≡ true → r ≡ true → ⊥
not_true true e h = absurd (cc)
not_true false e h = absurd (cc)

pub not_then_false : (r b : Bool) → r ≡ b → not r ≡ true → b ≡ false
not_then_false true b e h = absurd (cc)
not_then_false false b e h = sym e

pub false_then_not : (r b : Bool) → r ≡ b → b ≡ false → not r ≡ true
false_then_not true b e h = absurd (let z = e ∙ h in cc)
false_then_not false b e h = refl

-- ---- lists of signals

pub three_numbers : (xs : List Sig) → length xs ≡ 3 → numbers xs ≡ (slice_index_or xs 0 (record { 0 = 0 })).0 ∷
    (slice_index_or xs 1 (record { 0 = 0 })).0 ∷ (slice_index_or xs 2 (record { 0 = 0 })).0 ∷ []
three_numbers [] e = absurd (omega (arith, e))
three_numbers (a ∷ []) e = absurd (omega (arith, e))
three_numbers (a ∷ (b ∷ [])) e = absurd (omega (arith, e))
three_numbers (a ∷ (b ∷ (c ∷ []))) e = refl
three_numbers (a ∷ (b ∷ (c ∷ (d ∷ xs)))) e = absurd (omega (arith, e))

pub same_lists : (xs ys : List Sig) → length xs ≡ length ys → ((k : ℕ) → k < length xs → sig_at xs k ≡ sig_at ys k) → numbers xs ≡ numbers ys
same_lists [] [] e h = refl
same_lists [] (y ∷ ys) e h = absurd (omega (arith, e))
same_lists (x ∷ xs) [] e h = absurd (omega (arith, e))
same_lists (x ∷ xs) (y ∷ ys) e h =
    ap (λ k. k ∷ numbers xs) (h 0 (omega arith)) ∙ ap (λ l. y.0 ∷ l) (same_lists xs ys (omega (arith, e)) (λ k lt. h (suc k) (omega (arith, lt))))

pub same_at : (xs ys : List Sig) (k : ℕ) → numbers xs ≡ numbers ys → sig_at xs k ≡ sig_at ys k
same_at [] [] k e = refl
same_at [] (y ∷ ys) k e = absurd (cc)
same_at (x ∷ xs) [] k e = absurd (cc)
same_at (x ∷ xs) (y ∷ ys) zero e = cc
same_at (x ∷ xs) (y ∷ ys) (suc k) e = same_at xs ys k (let q : numbers xs ≡ numbers ys = cc in q)

pub same_long : (xs ys : List Sig) → numbers xs ≡ numbers ys → length xs ≡ length ys
same_long xs ys e = sym (numbers_length xs) ∙ ap length e ∙ numbers_length ys
