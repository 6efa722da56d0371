-- Zeros before a word.
use Rattle.safl_lower.proofs.Common.{AreSources, IsSource, Netlist, Primitive, Sig, Word, fits, prim_width, width_max, wired_before}
use Rattle.std.proofs.Common.{◌≡◌, ℕ, ◌+◌, ◌*◌, ◌^◌, ◌≤◌, List, [], ◌∷◌, cond, Some, None, Bool, true, false, ◌&&◌, nat_le, Result, Ok, Err, IfOk, slice_index_or, refl, ap, ◌∙◌, arith}
use Rattle.std.proofs.lemmas.Bool.{leb-true, and_parts, le-leb}
use Rattle.safl_word.specs.Primitives.{is_width, where_true, apply_prim, result_width}
use Rattle.safl_word.proofs.Widths.{within, only_where, where_is}
use Rattle.safl_word.specs.declared.primitive.Primitive.TheVariants.{Add, Sub, Mul, And, Or, Xor, Not, Eq, Ne, Lt, Le, Gt, Ge, Shl, Shr, Cat, Bits, Ext}
use Rattle.safl_net.specs.Growth.{Val, words, Wired, Grows}

-- every other primitive has a cell of its width
pub cell_width : (p : Primitive) (ws : List ℕ) → ((x : ℕ) → p ≡ Ext x → ⊥) → prim_width p ws ≡ result_width p ws
cell_width Add ws h = refl
cell_width Sub ws h = refl
cell_width Mul ws h = refl
cell_width And ws h = refl
cell_width Or ws h = refl
cell_width Xor ws h = refl
cell_width Not ws h = refl
cell_width Eq ws h = refl
cell_width Ne ws h = refl
cell_width Lt ws h = refl
cell_width Le ws h = refl
cell_width Gt ws h = refl
cell_width Ge ws h = refl
cell_width Shl ws h = refl
cell_width Shr ws h = refl
cell_width Cat ws h = refl
cell_width (Bits high low) ws h = refl
cell_width (Ext x) ws h = absurd (h x refl)

-- the operand of an extension
pub record Operand (n : Netlist) (xs : List Sig) (a : Sig) (m w : ℕ) : Type 0 where
  pub narrow : ℕ
  pub is : xs ≡ a ∷ []
  pub sized : IsSource n a narrow
  pub some : 1 ≤ narrow
  pub below : narrow ≤ m
  pub bounded : m ≤ width_max
  pub wide : m ≡ w

-- the row has operands of a word's width
tested : (u m w : ℕ) → result_width (Ext m) (u ∷ []) ≡ Some w → is_width u ≡ true
tested u m w e = by (is_width u) e
  where
    by : (b : Bool) → cond b (where_true (nat_le u m && nat_le m width_max) m) None ≡ Some w → b ≡ true
    by true h = refl
    by false h = absurd (cc)

pub operand : (n : Netlist) (xs : List Sig) (ws : List ℕ) (d : Sig) (m w : ℕ) → AreSources n xs ws → result_width (Ext m) ws ≡ Some w → Operand n xs (slice_index_or xs 0 d) m w
operand n [] [] d m w h e = absurd (cc)
operand n [] (u ∷ ws) d m w h e = absurd h.widths
operand n (x ∷ xs) [] d m w h e = absurd h.widths
operand n (x ∷ []) (u ∷ []) d m w h e =
    let q = where_is (nat_le u m && nat_le m width_max) m w (only_where _ _ w e) in
    let r = and_parts _ _ q.0 in
    record {
      narrow = u;
      is = refl;
      sized = record { width = h.widths.0; steady = h.steady.0 };
      some = leb-true 1 u
          (and_parts _ _ (tested u m w e)).0;
      below = leb-true u m r.0;
      bounded = leb-true m width_max r.1;
      wide = q.1;
    }
operand n (x ∷ []) (u ∷ v ∷ ws) d m w h e = absurd h.widths.1
operand n (x ∷ y ∷ xs) (u ∷ []) d m w h e = absurd h.widths.1
operand n (x ∷ y ∷ xs) (u ∷ v ∷ ws) d m w h e = absurd (cc)

pub joined_width : (u w : ℕ) → 1 ≤ u → 1 ≤ w → u + w ≤ width_max → result_width Cat (u ∷ w ∷ []) ≡ Some (u + w)
joined_width u w f s h = rw (within u f (omega arith), within w s (omega arith), le-leb (u + w) width_max h) refl

zeros_first : (z a : Word) (w : ℕ) → z.bits ≡ 0 → z.width + a.width ≡ w → apply_prim Cat (z ∷ a ∷ []) ≡ record { width = w; bits = a.bits }
zeros_first z a w e f =
    ap (λ (k : ℕ). record { width = k; bits = z.bits * 2 ^ a.width + a.bits }) f
    ∙ ap (λ (k : ℕ). record { width = w; bits = k * 2 ^ a.width + a.bits }) e
    ∙ ap (λ (k : ℕ). record { width = w; bits = k }) (let q : 0 * 2 ^ a.width + a.bits ≡ a.bits = omega arith in q)

-- the word stays where it has the width
pub stays_wide : (n : Netlist) (v : Val) (a : Sig) (w m : ℕ) → Wired n v → IsSource n a w → w ≡ m → v a.0 ≡ record { width = m; bits = (v a.0).bits }
stays_wide n v a w m h e f = ap (λ (k : ℕ). record { width = k; bits = (v a.0).bits }) ((fits n v a.0 w h e.width).width ∙ f)

pub extended : {E : Type 0} (n k m : Netlist) (r : Result Sig E) (z a : Sig) (zeros : Word) (u w wide : ℕ) → Grows k m → Grows n k → IsSource n a w →
    zeros ≡ record { width = u; bits = 0 } → u + w ≡ wide
    → ((v : Val) → Wired k v → v z.0 ≡ zeros)
    → IfOk r (λ s. (v : Val) → Wired m v → v s.0 ≡ apply_prim Cat (words v (z ∷ a ∷ [])))
    → IfOk r (λ s. (v : Val) → Wired m v → v s.0 ≡ record { width = wide; bits = (v a.0).bits })
extended n k m (Ok s) z a zeros u w wide g h e f q i j = λ v x.
    let y = wired_before g x in
    let c = i v y ∙ f in
    let t = (fits n v a.0 w (wired_before h y) e.width).width in
    let p = ap (λ (b : Word). b.width) c in
    j v x ∙ zeros_first (v z.0) (v a.0) wide (ap (λ (b : Word). b.bits) c) (omega (arith, t, p, q))
extended n k m (Err x) z a zeros u w wide g h e f q i j = tt
