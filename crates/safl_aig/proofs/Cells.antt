-- Cells on signals whose literals are ready.
use Rattle.safl_aig.proofs.Common.{All, CellFits, Gates, IsNetlist, Lit, Netlist, Pins, Sig}
use Rattle.std.proofs.Common.{◌≡◌, ℕ, zero, suc, ◌+◌, ◌-◌, ◌<◌, ◌≤◌, List, [], ◌∷◌, map, length, Option, Some, None, Bool, true, false, cond, ◌&&◌}
use Rattle.std.proofs.Common.{nat_le, nat_lt, slice_get, slice_index_or, refl, sym, ap, ◌∙◌, subst, arith}
use Rattle.std.proofs.lemmas.List.Elements.{All-head, All-tail}
use Rattle.std.proofs.lemmas.Bool.{and_parts, leb-true, ltb-true}
use Rattle.safl_word.specs.Words.{Word}
use Rattle.safl_word.specs.Limits.{width_max}
use Rattle.safl_word.specs.declared.primitive.Primitive.{Primitive}
use Rattle.safl_word.specs.declared.primitive.Primitive.TheVariants.{Add, Sub, Mul, And, Or, Xor, Not, Eq, Ne, Lt, Le, Gt, Ge, Shl, Shr, Cat, Bits, Ext}
use Rattle.safl_word.specs.Primitives.{is_width, where_true, result_width}
use Rattle.safl_word.proofs.Widths.{only_where}
use Rattle.safl_net.specs.declared.cell.Op.{Op}
use Rattle.safl_net.specs.declared.cell.Op.TheVariants.{Apply}
use Rattle.safl_net.specs.Valuations.{cell_word}
use Rattle.safl_net.specs.Widths.{op_width, prim_width}
use Rattle.safl_net.specs.Making.{cell_on, numbers, signal_widths}
use Rattle.safl_aiger.specs.Literals.{Assignment}
use Rattle.safl_bits.specs.Results.{word, MakesOne, MayTake}
use Rattle.safl_aig.specs.Tables.{lits_at, Ready, AreReady, Agrees, word_of, CellMade, RoomFor, GrowsFor, OpMade, MayDo, GrowsBy}
use Rattle.safl_aig.proofs.Nets.{width_le}

-- no cell extends a word, so a cell's width is the primitive's
pub prim_is : (p : Primitive) (ws : List ℕ) (w : ℕ) → prim_width p ws ≡ Some w → prim_width p ws ≡ result_width p ws
prim_is (Ext n) ws w e = absurd (cc)
prim_is Add ws w e = refl
prim_is Sub ws w e = refl
prim_is Mul ws w e = refl
prim_is And ws w e = refl
prim_is Or ws w e = refl
prim_is Xor ws w e = refl
prim_is Not ws w e = refl
prim_is Eq ws w e = refl
prim_is Ne ws w e = refl
prim_is Lt ws w e = refl
prim_is Le ws w e = refl
prim_is Gt ws w e = refl
prim_is Ge ws w e = refl
prim_is Shl ws w e = refl
prim_is Shr ws w e = refl
prim_is Cat ws w e = refl
prim_is (Bits high low) ws w e = refl

holds_where : (b : Bool) (o : Option ℕ) (v : ℕ) → cond b o None ≡ Some v → b ≡ true
holds_where true o v e = refl
holds_where false o v e = absurd (cc)

-- a cell's primitive takes the width of its operand
pub may_take : (p : Primitive) (w v : ℕ) → prim_width p (w ∷ []) ≡ Some v → MayTake p w
may_take Not w v e = let t = and_parts _ _ (holds_where (is_width w) (Some w) v e) in (leb-true 1 w t.0, leb-true w width_max t.1)
may_take (Bits high low) w v e =
    let t = and_parts _ _ (holds_where (is_width w) (where_true (nat_le low high && nat_lt high w) (high - low + 1)) v e) in
    let u = and_parts _ _ (holds_where (nat_le low high && nat_lt high w) (Some (high - low + 1)) v (only_where (is_width w) _ v e)) in
    (leb-true low high u.0, ltb-true high w u.1, leb-true w width_max t.1)
may_take (Ext n) w v e = absurd (cc)
may_take Add w v e = absurd (cc)
may_take Sub w v e = absurd (cc)
may_take Mul w v e = absurd (cc)
may_take And w v e = absurd (cc)
may_take Or w v e = absurd (cc)
may_take Xor w v e = absurd (cc)
may_take Eq w v e = absurd (cc)
may_take Ne w v e = absurd (cc)
may_take Lt w v e = absurd (cc)
may_take Le w v e = absurd (cc)
may_take Gt w v e = absurd (cc)
may_take Ge w v e = absurd (cc)
may_take Shl w v e = absurd (cc)
may_take Shr w v e = absurd (cc)
may_take Cat w v e = absurd (cc)

pub one_applied : (p : Primitive) (a r : List Lit) (g : Gates) (w : ℕ) → op_width (Apply p) (length a ∷ []) ≡ Some w → MakesOne p a g r → OpMade (Apply p) (a ∷ []) g r
one_applied p a r g w e h = record { fits = h.fits; long = prim_is p (length a ∷ []) w e ∙ h.long; value = h.value }

abbrev pub nothing : Sig
nothing = record { 0 = 0 }

abbrev pub sig : List Sig → ℕ → Sig
sig xs k = slice_index_or xs k nothing

pub shape_1 : (xs : List Sig) → 1 ≤ length xs → length xs < 2 → xs ≡ sig xs 0 ∷ []
shape_1 [] h k = absurd (omega (arith, h))
shape_1 (x ∷ []) h k = refl
shape_1 (x ∷ (y ∷ xs)) h k = absurd (omega (arith, k))

pub shape_2 : (xs : List Sig) → 2 ≤ length xs → length xs < 3 → xs ≡ sig xs 0 ∷ sig xs 1 ∷ []
shape_2 [] h k = absurd (omega (arith, h))
shape_2 (x ∷ []) h k = absurd (omega (arith, h))
shape_2 (x ∷ (y ∷ [])) h k = refl
shape_2 (x ∷ (y ∷ (z ∷ xs))) h k = absurd (omega (arith, k))

pub shape_3 : (xs : List Sig) → 3 ≤ length xs → length xs < 4 → xs ≡ sig xs 0 ∷ sig xs 1 ∷ sig xs 2 ∷ []
shape_3 [] h k = absurd (omega (arith, h))
shape_3 (x ∷ []) h k = absurd (omega (arith, h))
shape_3 (x ∷ (y ∷ [])) h k = absurd (omega (arith, h))
shape_3 (x ∷ (y ∷ (z ∷ []))) h k = refl
shape_3 (x ∷ (y ∷ (z ∷ (u ∷ xs)))) h k = absurd (omega (arith, k))

-- the literals of operands
abbrev pub lits : List Pins → List Sig → List (List Lit)
lits table xs = map (λ (x : Sig). lits_at table x.0) xs

abbrev EachReady : Netlist → Gates → List Pins → List Sig → Type 0
EachReady n g table xs = (k t : ℕ) → slice_get (numbers xs) k ≡ Some t → Ready n g table t

long_lits : (n : Netlist) (g : Gates) (table : List Pins) (xs : List Sig) → EachReady n g table xs → signal_widths n (numbers xs) ≡ map length (lits table xs)
long_lits n g table [] h = refl
long_lits n g table (x ∷ xs) h = λ i. sym (h 0 x.0 refl).long i ∷ long_lits n g table xs (λ k t e. h (suc k) t e) i

same_words : (n : Netlist) (g : Gates) (table : List Pins) (m : Assignment) (f : ℕ → ℕ) (xs : List Sig) → EachReady n g table xs →
    ((k t : ℕ) → slice_get (numbers xs) k ≡ Some t → Agrees m f table t) → map (word m) (lits table xs) ≡ map (word_of n f) (numbers xs)
same_words n g table m f [] h a = refl
same_words n g table m f (x ∷ xs) h a = λ i. record { width = (h 0 x.0 refl).long i; bits = a 0 x.0 refl i } ∷ same_words n g table m f xs (λ k t e. h (suc k) t e) (λ k t e. a (suc k) t e) i

module _ (n : Netlist) (g : Gates) (table : List Pins) (op : Op) (xs : List Sig) (ready : AreReady n g table (cell_on op xs)) where
  pub may_do : RoomFor n g (cell_on op xs) → MayDo op g (map length (lits table xs))
  may_do h = subst (λ (ws : List ℕ). MayDo op g ws) (long_lits n g table xs ready) (h.0, h.1.gives, h.2)

  pub grows_for : (new : Gates) → GrowsBy op g new (map length (lits table xs)) → GrowsFor n g new (cell_on op xs)
  grows_for new h = λ w f. subst (λ (ws : List ℕ). GrowsBy op g new ws) (sym (long_lits n g table xs ready)) h w f.gives

  pub made_for : (new : Gates) (r : List Lit) → OpMade op (lits table xs) new r → CellMade n new table (cell_on op xs) r
  made_for new r h =
      record {
        fits = h.fits;
        long = λ w f. let e = sym h.long ∙ ap (op_width op) (sym (long_lits n g table xs ready)) ∙ f.gives in cc;
        value = λ m f k a. h.value m k ∙ ap (λ (ws : List Word). (cell_word op ws).bits) (same_words n g table m f xs ready a);
      }

-- an operand is a signal of the net
pub operand_known : (n : Netlist) (w : ℕ) (op : Op) (xs : List Sig) (k t : ℕ) → CellFits n w (cell_on op xs) → slice_get (numbers xs) k ≡ Some t → t < length n.signals
operand_known n w op xs k t f e = at (numbers xs) k f.known e
  where
    at : (ts : List ℕ) (k : ℕ) → All (λ s. s < length n.signals) ts → slice_get ts k ≡ Some t → t < length n.signals
    at [] k h e = absurd (cc)
    at (s ∷ ts) zero h e = let q : s ≡ t = cc in subst (λ x. x < length n.signals) q (All-head (λ x. x < length n.signals) s ts h)
    at (s ∷ ts) (suc k) h e = at ts k (All-tail (λ x. x < length n.signals) s ts h) e

pub ready_narrow : (n : Netlist) (g : Gates) (table : List Pins) (t : ℕ) → IsNetlist n → Ready n g table t → length (lits_at table t) ≤ 128
ready_narrow n g table t made h = let a = h.long in let b = width_le n made t in omega (arith, a, b)
