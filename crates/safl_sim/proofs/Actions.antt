-- The actions of cells.
use Rattle.std.proofs.Common.{◌≡◌, ◌⊎◌, inl, inr, ℕ, zero, suc, ◌-◌, ◌<◌, ◌≤◌, bit_and, bit_or, List, [], ◌∷◌}
use Rattle.std.proofs.Common.{length, get_or, ◌^◌, Some, None, is_some, slice_index, refl, sym, ap, subst, ◌∙◌, arith}
use Rattle.std.proofs.lemmas.Nat.{and_comm}
use Rattle.std.proofs.lemmas.Bool.{eqb-true}
use Rattle.std.proofs.Math.Pow.{pow_mono}
use Rattle.safl_word.specs.Words.{Word, IsWord, pick, as_word}
use Rattle.safl_word.specs.Primitives.{result_width, apply_prim}
use Rattle.safl_word.proofs.Widths.{only_where}
use Rattle.safl_word.specs.declared.primitive.Primitive.{Primitive}
use Rattle.safl_word.specs.declared.primitive.Primitive.TheVariants.{Add, Sub, Mul, And, Or, Xor, Not, Eq, Ne, Lt, Le, Gt, Ge, Shl, Shr, Cat, Bits, Ext}
use Rattle.safl_net.specs.declared.cell.Sig.{Sig}
use Rattle.safl_net.specs.declared.cell.Op.{Op}
use Rattle.safl_net.specs.declared.cell.Op.TheVariants as op
use Rattle.safl_net.specs.Netlist.{Netlist, Cell, width_in, width_of}
use Rattle.safl_net.specs.Widths.{op_width}
use Rattle.safl_net.specs.Laws.{FitWidths}
use Rattle.safl_net.specs.Making.{cell_on}
use Rattle.safl_net.specs.Rules.{IsNetlist, CellFits}
use Rattle.safl_sim.specs.declared.step.Action.{Action}
use Rattle.safl_sim.specs.declared.step.Action.TheVariants.{Choose, One, Two}
use Rattle.safl_word.specs.Narrow.{HasLow}
use Rattle.safl_word.proofs.Lists.{get_some}
use Rattle.safl_word.proofs.Words.{where_holds}
use Rattle.safl_net.proofs.CellWords.{prim_says}
use Rattle.safl_sim.specs.Steps.{Constant, plain, plain_number, PlainReady, PlainLow, IsNarrow, Performs}

none_on_nil : (p : Primitive) → result_width p [] ≡ None
none_on_nil Add = refl
none_on_nil Sub = refl
none_on_nil Mul = refl
none_on_nil And = refl
none_on_nil Or = refl
none_on_nil Xor = refl
none_on_nil Not = refl
none_on_nil Eq = refl
none_on_nil Ne = refl
none_on_nil Lt = refl
none_on_nil Le = refl
none_on_nil Gt = refl
none_on_nil Ge = refl
none_on_nil Shl = refl
none_on_nil Shr = refl
none_on_nil Cat = refl
none_on_nil (Bits high low) = refl
none_on_nil (Ext n) = refl

none_on_three : (p : Primitive) (u v w : ℕ) (ws : List ℕ) → result_width p (u ∷ (v ∷ (w ∷ ws))) ≡ None
none_on_three Add u v w ws = refl
none_on_three Sub u v w ws = refl
none_on_three Mul u v w ws = refl
none_on_three And u v w ws = refl
none_on_three Or u v w ws = refl
none_on_three Xor u v w ws = refl
none_on_three Not u v w ws = refl
none_on_three Eq u v w ws = refl
none_on_three Ne u v w ws = refl
none_on_three Lt u v w ws = refl
none_on_three Le u v w ws = refl
none_on_three Gt u v w ws = refl
none_on_three Ge u v w ws = refl
none_on_three Shl u v w ws = refl
none_on_three Shr u v w ws = refl
none_on_three Cat u v w ws = refl
none_on_three (Bits high low) u v w ws = refl
none_on_three (Ext n) u v w ws = refl

-- the number of a signal of the net makes a word
pub signal_word : (n : Netlist) (values : List ℕ) (s w : ℕ) → IsNetlist n → FitWidths n (slice_index values) → s < length n.signals → w ≡ width_of n s → IsWord (as_word w (slice_index values s))
signal_word n values s w made fits h e =
    let g = get_some n.signals s h in
    let f = made.signals s g.0 g.1 in
    let q : w ≡ g.0.width = e ∙ ap width_in g.1 in
    subst (λ x. IsWord (as_word x (slice_index values s))) (sym q) (record { some = f.some; bounded = f.most; fits = fits s g.0 g.1 })

-- the number of a narrow signal of the net
pub low_number : (n : Netlist) (values : List ℕ) (s : ℕ) → FitWidths n (slice_index values) → s < length n.signals → width_of n s ≤ 64 → slice_index values s < 2 ^ 64
low_number n values s fits h le =
    let g = get_some n.signals s h in
    let q : width_of n s ≡ g.0.width = ap width_in g.1 in
    let le' : g.0.width ≤ 64 = omega (arith, q, le) in
    let p = pow_mono le' in
    let f = fits s g.0 g.1 in
    omega (arith, p, f)

const_low : (n : Netlist) (v : Word) (s : ℕ) → CellFits n (width_of n s) (cell_on (op.Const v) []) → IsNarrow n s (cell_on (op.Const v) []) → v.bits < 2 ^ 64
const_low n v s f narrow =
    let q : Some v.width ≡ Some (width_of n s) = f.gives in
    let e : v.width ≡ width_of n s = cc in
    let le : v.width ≤ 64 = (let a = narrow.wire in omega (arith, a, e)) in
    let p = pow_mono le in
    let g = f.word.fits in
    omega (arith, p, g)

-- the first operand is a signal of the net
pub first_known : (n : Netlist) (o : Op) (xs : List Sig) (w : ℕ) → CellFits n w (cell_on o xs) → 1 ≤ length xs → (get_or xs 0 (record { 0 = 0 })).0 < length n.signals
first_known n o [] w f h = absurd (omega (arith, h))
first_known n o (x ∷ xs) w f h = f.known 0 0 (omega arith)

pub performs_const : (n : Netlist) (o : Op) (xs : List Sig) (w : ℕ) (action : Action) → CellFits n w (cell_on o xs) → length xs < 1 →
    ((v : Word) → o ≡ op.Const v → plain action ≡ Constant v.bits) → Performs n (cell_on o xs) action
performs_const n (op.Const v) [] w action f h k = record {
  gives = λ g fits. ap (plain_number g) (k v refl);
  ready = λ values l g. subst (PlainReady values) (sym (k v refl)) tt;
  low = λ values s fits g narrow. subst (PlainLow values) (sym (k v refl)) (const_low n v s g narrow);
}
performs_const n op.Copy [] w action f h k = absurd (let e = f.gives in cc)
performs_const n op.Mux [] w action f h k = absurd (let e = f.gives in cc)
performs_const n (op.Apply p) [] w action f h k = absurd (let e = sym (none_on_nil p) ∙ prim_says p [] w f.gives in cc)
performs_const n o (x ∷ xs) w action f h k = absurd (omega (arith, h))

pub performs_one : (n : Netlist) (p : Primitive) (o : Op) (xs : List Sig) (w width : ℕ) → IsNetlist n → CellFits n w (cell_on o xs) → 1 ≤ length xs →
    length xs < 2 → o ≡ op.Apply p → width ≡ width_of n (get_or xs 0 (record { 0 = 0 })).0
    → Performs n (cell_on o xs) (One p width (get_or xs 0 (record { 0 = 0 })).0)
performs_one n p o [] w width made f h k e g = absurd (omega (arith, h))
performs_one n p o (x ∷ (y ∷ xs)) w width made f h k e g = absurd (omega (arith, k))
performs_one n p o (x ∷ []) w width made f h k e g = subst (λ q. Performs n (cell_on q (x ∷ [])) (One p width x.0)) (sym e) (record {
  gives = λ a fits. ap (λ v. (apply_prim p (as_word v (a x.0) ∷ [])).bits) g;
  ready = λ values l fits.
      let here : x.0 < length n.signals = f.known 0 0 (omega arith) in
      let some : result_width p (width_of n x.0 ∷ []) ≡ Some w = prim_says p (width_of n x.0 ∷ []) w (ap (λ q. op_width q (width_of n x.0 ∷ [])) (sym e) ∙ f.gives) in
      (omega (arith, here, l), signal_word n values x.0 width made fits here g, ap (λ v. is_some (result_width p (v ∷ []))) g ∙ ap is_some some);
  low = λ values s fits h' narrow.
      let here : x.0 < length n.signals = f.known 0 0 (omega arith) in
      let small = narrow.operands 0 x.0 refl in
      let some : result_width p (width_of n x.0 ∷ []) ≡ Some (width_of n s) = prim_says p (width_of n x.0 ∷ []) (width_of n s) h'.gives in
      (low_number n values x.0 fits here small, omega (arith, small, g), subst HasLow (sym (ap (λ v. result_width p (v ∷ [])) g ∙ some)) narrow.wire);
})

pub performs_two : (n : Netlist) (p : Primitive) (o : Op) (xs : List Sig) (w width other : ℕ) → IsNetlist n → CellFits n w (cell_on o xs) → 2 ≤ length xs → length xs < 3 → o ≡ op.Apply p
    → width ≡ width_of n (get_or xs 0 (record { 0 = 0 })).0 → other ≡ width_of n (get_or xs 1 (record { 0 = 0 })).0
    → Performs n (cell_on o xs) (Two p width other (get_or xs 0 (record { 0 = 0 })).0 (get_or xs 1 (record { 0 = 0 })).0)
performs_two n p o [] w width other made f h k e g i = absurd (omega (arith, h))
performs_two n p o (x ∷ []) w width other made f h k e g i = absurd (omega (arith, h))
performs_two n p o (x ∷ (y ∷ (z ∷ xs))) w width other made f h k e g i = absurd (omega (arith, k))
performs_two n p o (x ∷ (y ∷ [])) w width other made f h k e g i = subst (λ q. Performs n (cell_on q (x ∷ (y ∷ []))) (Two p width other x.0 y.0)) (sym e) (record {
  gives = λ a fits. ap (λ v. (apply_prim p (as_word v (a x.0) ∷ (as_word other (a y.0) ∷ []))).bits) g ∙ ap (λ v. (apply_prim p (as_word (width_of n x.0) (a x.0) ∷ (as_word v (a y.0) ∷ []))).bits) i;
  ready = λ values l fits.
      let here : x.0 < length n.signals = f.known 0 0 (omega arith) in
      let there : y.0 < length n.signals = f.known 1 0 (omega arith) in
      let some : result_width p (width_of n x.0 ∷ (width_of n y.0 ∷ [])) ≡ Some w = prim_says p (width_of n x.0 ∷ (width_of n y.0 ∷ [])) w
      (ap (λ q. op_width q (width_of n x.0 ∷ (width_of n y.0 ∷ []))) (sym e) ∙ f.gives) in (
        omega (arith, here, l),
        omega (arith, there, l),
        signal_word n values x.0 width made fits here g,
        signal_word n values y.0 other made fits there i,
        ap (λ v. is_some (result_width p (v ∷ (other ∷ [])))) g ∙ ap (λ v. is_some (result_width p (width_of n x.0 ∷ (v ∷ [])))) i ∙ ap is_some some,
      );
  low = λ values s fits h' narrow.
      let here : x.0 < length n.signals = f.known 0 0 (omega arith) in
      let there : y.0 < length n.signals = f.known 1 0 (omega arith) in
      let small = narrow.operands 0 x.0 refl in
      let less = narrow.operands 1 y.0 refl in
      let some : result_width p (width_of n x.0 ∷ (width_of n y.0 ∷ [])) ≡ Some (width_of n s) = prim_says p (width_of n x.0 ∷ (width_of n y.0 ∷ [])) (width_of n s) h'.gives in (
        low_number n values x.0 fits here small,
        low_number n values y.0 fits there less,
        omega (arith, small, g),
        subst HasLow (sym (ap (λ v. result_width p (v ∷ (other ∷ []))) g ∙ ap (λ v. result_width p (width_of n x.0 ∷ (v ∷ []))) i ∙ some)) narrow.wire,
      );
})

pub performs_mux : (n : Netlist) (o : Op) (xs : List Sig) (w : ℕ) → CellFits n w (cell_on o xs) → 3 ≤ length xs → length xs < 4
    → Performs n (cell_on o xs) (Choose (get_or xs 0 (record { 0 = 0 })).0 (get_or xs 1 (record { 0 = 0 })).0 (get_or xs 2 (record { 0 = 0 })).0)
performs_mux n o [] w f h k = absurd (omega (arith, h))
performs_mux n o (x ∷ []) w f h k = absurd (omega (arith, h))
performs_mux n o (x ∷ (y ∷ [])) w f h k = absurd (omega (arith, h))
performs_mux n o (x ∷ (y ∷ (z ∷ (u ∷ xs)))) w f h k = absurd (omega (arith, k))
performs_mux n (op.Const v) (x ∷ (y ∷ (z ∷ []))) w f h k = absurd (let e = f.gives in cc)
performs_mux n op.Copy (x ∷ (y ∷ (z ∷ []))) w f h k = absurd (let e = f.gives in cc)
performs_mux n (op.Apply p) (x ∷ (y ∷ (z ∷ []))) w f h k = absurd (let e = sym (none_on_three p (width_of n x.0) (width_of n y.0) (width_of n z.0) []) ∙ prim_says p _ w f.gives in cc)
performs_mux n op.Mux (x ∷ (y ∷ (z ∷ []))) w f h k = record {
  gives = λ a fits. picked (a x.0) (as_word (width_of n y.0) (a y.0)) (as_word (width_of n z.0) (a z.0));
  ready = λ values l fits.
      let a : x.0 < length n.signals = f.known 0 0 (omega arith) in
      let b : y.0 < length n.signals = f.known 1 0 (omega arith) in
      let c : z.0 < length n.signals = f.known 2 0 (omega arith) in
      (omega (arith, a, l), omega (arith, b, l), omega (arith, c, l));
  low = λ values s fits h' narrow.
      let a : x.0 < length n.signals = f.known 0 0 (omega arith) in
      let b : y.0 < length n.signals = f.known 1 0 (omega arith) in
      let c : z.0 < length n.signals = f.known 2 0 (omega arith) in
      (low_number n values x.0 fits a (narrow.operands 0 x.0 refl), low_number n values y.0 fits b (narrow.operands 1 y.0 refl), low_number n values z.0 fits c (narrow.operands 2 z.0 refl));
}
  where
    picked : (i : ℕ) (a b : Word) → pick i a.bits b.bits ≡ (pick i a b).bits
    picked zero a b = refl
    picked (suc zero) a b = refl
    picked (suc (suc i)) a b = refl

-- one of two that are the same
picked_same : (i a : ℕ) → pick i a a ≡ a
picked_same zero a = refl
picked_same (suc zero) a = refl
picked_same (suc (suc i)) a = refl

pub performs_copy : (n : Netlist) (o : Op) (xs : List Sig) (w : ℕ) → CellFits n w (cell_on o xs) → 1 ≤ length xs → length xs < 2 → ((p : Primitive) → ¬ (o ≡ op.Apply p))
    → Performs n (cell_on o xs) (Choose (get_or xs 0 (record { 0 = 0 })).0 (get_or xs 0 (record { 0 = 0 })).0 (get_or xs 0 (record { 0 = 0 })).0)
performs_copy n o [] w f h k away = absurd (omega (arith, h))
performs_copy n o (x ∷ (y ∷ xs)) w f h k away = absurd (omega (arith, k))
performs_copy n (op.Const v) (x ∷ []) w f h k away = absurd (let e = f.gives in cc)
performs_copy n op.Mux (x ∷ []) w f h k away = absurd (let e = f.gives in cc)
performs_copy n (op.Apply p) (x ∷ []) w f h k away = absurd (away p refl)
performs_copy n op.Copy (x ∷ []) w f h k away =
    let a : x.0 < length n.signals = f.known 0 0 (omega arith) in
    record {
      gives = λ g fits. picked_same (g x.0) (g x.0);
      ready = λ values l fits. (omega (arith, a, l), omega (arith, a, l), omega (arith, a, l));
      low = λ values s fits h' narrow. let b = low_number n values x.0 fits a (narrow.operands 0 x.0 refl) in (b, b, b);
    }

equal_and : (u v w : ℕ) → result_width And (u ∷ (v ∷ [])) ≡ Some w → u ≡ v
equal_and u v w e = eqb-true u v (where_holds _ u w (only_where _ _ w e))

equal_or : (u v w : ℕ) → result_width Or (u ∷ (v ∷ [])) ≡ Some w → u ≡ v
equal_or u v w e = eqb-true u v (where_holds _ u w (only_where _ _ w e))

-- a signal of one bit
one_bit : (n : Netlist) (f : ℕ → ℕ) (s : ℕ) → FitWidths n f → s < length n.signals → width_of n s ≡ 1 → f s < 2
one_bit n f s fits h e =
    let g = get_some n.signals s h in
    let q : 1 ≡ g.0.width = sym e ∙ ap width_in g.1 in
    subst (λ x. f s < 2 ^ x) (sym q) (fits s g.0 g.1)

-- "and" and "or" of single bits are choices
bits_and : (a b : ℕ) → a < 2 → b < 2 → pick a b a ≡ bit_and a b
bits_and zero zero h k = refl
bits_and zero (suc zero) h k = refl
bits_and (suc zero) zero h k = refl
bits_and (suc zero) (suc zero) h k = refl
bits_and (suc (suc a)) b h k = absurd (omega (arith, h))
bits_and zero (suc (suc b)) h k = absurd (omega (arith, k))
bits_and (suc zero) (suc (suc b)) h k = absurd (omega (arith, k))

bits_or : (a b : ℕ) → a < 2 → b < 2 → pick a a b ≡ bit_or a b
bits_or zero zero h k = refl
bits_or zero (suc zero) h k = refl
bits_or (suc zero) zero h k = refl
bits_or (suc zero) (suc zero) h k = refl
bits_or (suc (suc a)) b h k = absurd (omega (arith, h))
bits_or zero (suc (suc b)) h k = absurd (omega (arith, k))
bits_or (suc zero) (suc (suc b)) h k = absurd (omega (arith, k))

performs_and : (n : Netlist) (x y : Sig) (w : ℕ) → CellFits n w (cell_on (op.Apply And) (x ∷ (y ∷ []))) → width_of n x.0 ≡ 1 → Performs n (cell_on (op.Apply And) (x ∷ (y ∷ []))) (Choose x.0 y.0 x.0)
performs_and n x y w f one =
    let a : x.0 < length n.signals = f.known 0 0 (omega arith) in
    let b : y.0 < length n.signals = f.known 1 0 (omega arith) in
    let other : width_of n y.0 ≡ 1 = sym (equal_and (width_of n x.0) (width_of n y.0) w f.gives) ∙ one in
    record {
      gives = λ g fits. bits_and (g x.0) (g y.0) (one_bit n g x.0 fits a one) (one_bit n g y.0 fits b other);
      ready = λ values l fits. (omega (arith, a, l), omega (arith, b, l), omega (arith, a, l));
      low = λ values s fits h narrow. (
        low_number n values x.0 fits a (narrow.operands 0 x.0 refl),
        low_number n values y.0 fits b
            (narrow.operands 1 y.0 refl),
        low_number n values x.0 fits a (narrow.operands 0 x.0 refl),
      );
    }

-- by either of them
performs_turned : (n : Netlist) (x y : Sig) (w : ℕ) → CellFits n w (cell_on (op.Apply And) (x ∷ (y ∷ []))) → width_of n x.0 ≡ 1 → Performs n
    (cell_on (op.Apply And) (x ∷ (y ∷ []))) (Choose y.0 x.0 y.0)
performs_turned n x y w f one =
    let a : x.0 < length n.signals = f.known 0 0 (omega arith) in
    let b : y.0 < length n.signals = f.known 1 0 (omega arith) in
    let other : width_of n y.0 ≡ 1 = sym (equal_and (width_of n x.0) (width_of n y.0) w f.gives) ∙ one in
    record {
      gives = λ g fits. bits_and (g y.0) (g x.0) (one_bit n g y.0 fits b other) (one_bit n g x.0 fits a one) ∙ and_comm (g y.0) (g x.0);
      ready = λ values l fits. (omega (arith, b, l), omega (arith, a, l), omega (arith, b, l));
      low = λ values s fits h narrow. (
        low_number n values y.0 fits b (narrow.operands 1 y.0 refl),
        low_number n values x.0 fits a
            (narrow.operands 0 x.0 refl),
        low_number n values y.0 fits b (narrow.operands 1 y.0 refl),
      );
    }

pub performs_both : (n : Netlist) (x y : Sig) (w : ℕ) (action : Action) → CellFits n w (cell_on (op.Apply And) (x ∷ (y ∷ []))) → width_of n x.0 ≡ 1 →
    (action ≡ Choose x.0 y.0 x.0) ⊎ (action ≡ Choose y.0 x.0 y.0)
    → Performs n (cell_on (op.Apply And) (x ∷ (y ∷ []))) action
performs_both n x y w action f one h = elim h [
  | inl e ↦ subst (λ a. Performs n (cell_on (op.Apply And) (x ∷ (y ∷ []))) a) (sym e) (performs_and n x y w f one)
  | inr e ↦ subst (λ a. Performs n (cell_on (op.Apply And) (x ∷ (y ∷ []))) a) (sym e) (performs_turned n x y w f one)
]

pub performs_or : (n : Netlist) (x y : Sig) (w : ℕ) → CellFits n w (cell_on (op.Apply Or) (x ∷ (y ∷ []))) → width_of n x.0 ≡ 1 → Performs n (cell_on (op.Apply Or) (x ∷ (y ∷ []))) (Choose x.0 x.0 y.0)
performs_or n x y w f one =
    let a : x.0 < length n.signals = f.known 0 0 (omega arith) in
    let b : y.0 < length n.signals = f.known 1 0 (omega arith) in
    let other : width_of n y.0 ≡ 1 = sym (equal_or (width_of n x.0) (width_of n y.0) w f.gives) ∙ one in
    record {
      gives = λ g fits. bits_or (g x.0) (g y.0) (one_bit n g x.0 fits a one) (one_bit n g y.0 fits b other);
      ready = λ values l fits. (omega (arith, a, l), omega (arith, a, l), omega (arith, b, l));
      low = λ values s fits h narrow. (
        low_number n values x.0 fits a (narrow.operands 0 x.0 refl),
        low_number n values x.0 fits a
            (narrow.operands 0 x.0 refl),
        low_number n values y.0 fits b (narrow.operands 1 y.0 refl),
      );
    }

-- actions of one plain form perform one cell
pub performs_alike : (n : Netlist) (c : Cell) (one other : Action) → plain one ≡ plain other → Performs n c other → Performs n c one
performs_alike n c one other e p = record {
  gives = λ f fits. ap (plain_number f) e ∙ p.gives f fits;
  ready = λ values l fits. subst (PlainReady values) (sym e) (p.ready values l fits);
  low = λ values s fits h narrow. subst (PlainLow values) (sym e) (p.low values s fits h narrow);
}

-- a list of two
pub two_of : (xs : List Sig) → 2 ≤ length xs → length xs < 3 → xs ≡ get_or xs 0 (record { 0 = 0 }) ∷ (get_or xs 1 (record { 0 = 0 }) ∷ [])
two_of [] h k = absurd (omega (arith, h))
two_of (x ∷ []) h k = absurd (omega (arith, h))
two_of (x ∷ (y ∷ [])) h k = refl
two_of (x ∷ (y ∷ (z ∷ xs))) h k = absurd (omega (arith, k))

-- a list of one
pub one_of : (xs : List Sig) → 1 ≤ length xs → length xs < 2 → xs ≡ get_or xs 0 (record { 0 = 0 }) ∷ []
one_of [] h k = absurd (omega (arith, h))
one_of (x ∷ []) h k = refl
one_of (x ∷ (y ∷ xs)) h k = absurd (omega (arith, k))
