-- Shifts by amounts that are cut down.
use Rattle.safl_lower.proofs.Common.{AreSources, IsSource, Netlist, Primitive, Sig, Word, fits, prim_width, width_max, wired_before}
use Rattle.std.proofs.Common.{◌≡◌, ℕ, ◌+◌, ◌*◌, ◌/◌, ◌%◌, ◌^◌, ◌<◌, ◌≤◌, inl, inr, List, [], ◌∷◌, length, cond, Some, Bool, true, false, ◌&&◌}
use Rattle.std.proofs.Common.{nat_lt, nat_le, Result, Ok, Err, IfOk, slice_index_or, refl, sym, subst, ap, ◌∙◌, arith}
use Rattle.std.proofs.lemmas.Bool.{leb-true, ltb-true, ltb-false, lt-ltb, le-ltb, eq-eqb, and_parts}
use Rattle.std.proofs.lemmas.Nat.{mod_low}
use Rattle.std.proofs.Math.Pow.{pow_mono}
use Rattle.std.proofs.lemmas.Option.{cond_some}
use Rattle.safl_word.specs.Primitives.{is_width, two_widths, bit_of, apply_prim, result_width}
use Rattle.safl_word.specs.declared.primitive.Primitive.TheVariants.{Gt, Cat, Bits}
use Rattle.safl_word.proofs.Widths.{within}
use Rattle.safl_net.specs.Growth.{Val, words, Wired, Grows}
use Rattle.safl_lower.specs.Heights.{IsGateOf}
use Rattle.safl_lower.proofs.Building.{source_grown}
use Rattle.safl_lower.specs.Shifts.{IsShift, ShiftAlike, IsAmount, ShiftsIt}

-- ---- the operands

-- a row of two signals, of the widths that a shift's have
pub record Operands (n : Netlist) (xs : List Sig) (d : Sig) (w : ℕ) : Type 0 where
  pub is : xs ≡ slice_index_or xs 0 d ∷ slice_index_or xs 1 d ∷ []
  pub word : IsSource n (slice_index_or xs 0 d) w
  pub wide : is_width w ≡ true
  pub amount_width : ℕ
  pub amount : IsSource n (slice_index_or xs 1 d) amount_width
  pub some : 1 ≤ amount_width
  pub most : amount_width ≤ width_max

row_width : (p : Primitive) → IsShift p → (ws : List ℕ) → result_width p ws ≡ two_widths (λ w v. Some w) ws
row_width p (inl e) ws = ap (λ q. result_width q ws) e
row_width p (inr e) ws = ap (λ q. result_width q ws) e

row : (n : Netlist) (xs : List Sig) (ws : List ℕ) (d : Sig) (w : ℕ) → AreSources n xs ws → two_widths (λ w v. Some w) ws ≡ Some w → Operands n xs d w
row n [] [] d w h e = absurd (cc)
row n [] (u ∷ ws) d w h e = absurd h.widths
row n (x ∷ xs) [] d w h e = absurd h.widths
row n (x ∷ []) (u ∷ []) d w h e = absurd (cc)
row n (x ∷ []) (u ∷ v ∷ ws) d w h e = absurd h.widths.1
row n (x ∷ y ∷ xs) (u ∷ []) d w h e = absurd h.widths.1
row n (x ∷ y ∷ []) (u ∷ v ∷ []) d w h e =
    let t = cond_some (is_width u && is_width v) u w e in
    let b = and_parts (is_width u) (is_width v) t.0 in
    let c = and_parts _ _ b.1 in
    record {
      is = refl;
      word = subst (λ (k : ℕ). IsSource n x k) t.1 (record { width = h.widths.0; steady = h.steady.0 });
      wide = subst (λ (k : ℕ). is_width k ≡ true) t.1 b.0;
      amount_width = v;
      amount = record { width = h.widths.1.0; steady = h.steady.1.0 };
      some = leb-true 1 v c.0;
      most = leb-true v width_max c.1;
    }
row n (x ∷ y ∷ []) (u ∷ v ∷ t ∷ ws) d w h e = absurd h.widths.1.1
row n (x ∷ y ∷ z ∷ xs) (u ∷ v ∷ []) d w h e = absurd h.widths.1.1
row n (x ∷ y ∷ z ∷ xs) (u ∷ v ∷ t ∷ ws) d w h e = absurd (cc)

pub operands : (n : Netlist) (p : Primitive) (xs : List Sig) (ws : List ℕ) (d : Sig) (w : ℕ) → IsShift p → AreSources n xs ws → result_width p ws ≡ Some w → Operands n xs d w
operands n p xs ws d w s h e = row n xs ws d w h (sym (row_width p s ws) ∙ e)

pub two_there : {n : Netlist} {xs : List Sig} {d : Sig} {w : ℕ} → Operands n xs d w → 1 < length xs
two_there {n} {xs} {d} {w} o = let e = ap (λ (l : List Sig). length l) o.is in omega (arith, e)

-- the cell of a shift by an amount of another width
pub cell_width : (p : Primitive) → IsShift p → (w u : ℕ) → is_width w ≡ true → 1 ≤ u → u ≤ width_max → prim_width p (w ∷ u ∷ []) ≡ Some w
cell_width p s w u h some most = by_kind s
  where
    row_is : two_widths (λ w v. Some w) (w ∷ u ∷ []) ≡ Some w
    row_is = rw (h, within u some most) refl

    by_kind : IsShift p → prim_width p (w ∷ u ∷ []) ≡ Some w
    by_kind (inl e) = ap (λ q. prim_width q (w ∷ u ∷ [])) e ∙ row_is
    by_kind (inr e) = ap (λ q. prim_width q (w ∷ u ∷ [])) e ∙ row_is

-- ---- amounts that shift alike

moved : (f : ℕ → ℕ) (w j k : ℕ) → w ≤ width_max → ShiftAlike j k → cond (nat_lt j w) (f j) 0 ≡ cond (nat_lt k w) (f k) 0
moved f w j k le (inl e) = ap (λ (i : ℕ). cond (nat_lt i w) (f i) 0) e
moved f w j k le (inr e) =
    let a = e.0 in
    let b = e.1 in
    rw (le-ltb j w (omega (arith, a, le)), le-ltb k w (omega (arith, b, le))) refl

shifted_alike : (p : Primitive) → IsShift p → (a b c : Word) → a.width ≤ width_max → ShiftAlike b.bits c.bits → apply_prim p (a ∷ b ∷ []) ≡ apply_prim p (a ∷ c ∷ [])
shifted_alike p (inl e) a b c le h =
    ap (λ q. apply_prim q (a ∷ b ∷ [])) e
    ∙ ap (λ (k : ℕ). record { width = a.width; bits = k }) (moved (λ i. (a.bits * 2 ^ i) % 2 ^ a.width) a.width b.bits c.bits le h)
    ∙ sym (ap (λ q. apply_prim q (a ∷ c ∷ [])) e)
shifted_alike p (inr e) a b c le h =
    ap (λ q. apply_prim q (a ∷ b ∷ [])) e
    ∙ ap (λ (k : ℕ). record { width = a.width; bits = k }) (moved (λ i. a.bits / 2 ^ i) a.width b.bits c.bits le h)
    ∙ sym (ap (λ q. apply_prim q (a ∷ c ∷ [])) e)

-- k is the net with the amount c, and m that with the shift
pub shift_value : {E : Type 0} (n k m : Netlist) (r : Result Sig E) (p : Primitive) (xs : List Sig) (d c : Sig) (w : ℕ) → IsShift p → Operands n xs d w → Grows n k → Grows k m
    → ((v : Val) → Wired k v → ShiftAlike (v (slice_index_or xs 1 d).0).bits (v c.0).bits)
    → IfOk r (λ s. (v : Val) → Wired m v → v s.0 ≡ apply_prim p (words v (slice_index_or xs 0 d ∷ c ∷ [])))
    → IfOk r (λ s. (v : Val) → Wired m v → v s.0 ≡ apply_prim p (words v xs))
shift_value n k m (Ok s) p xs d c w h o g i alike value = λ v x.
    let y = wired_before i x in
    let t = (fits n v (slice_index_or xs 0 d).0 w (wired_before g y) o.word.width).width in
    let q : w ≤ width_max = leb-true w width_max (and_parts (nat_le 1 w) (nat_le w width_max) o.wide).1 in
    value v x
    ∙ sym (shifted_alike p h (v (slice_index_or xs 0 d).0) (v (slice_index_or xs 1 d).0) (v c.0) (omega (arith, t, q)) (alike v y))
    ∙ sym (ap (λ (l : List Sig). apply_prim p (words v l)) o.is)
shift_value n k m (Err e) p xs d c w h o g i alike value = tt

pub amount_grown : {k m : Netlist} → Grows k m → {c : Sig} → IsAmount k c → IsAmount m c
amount_grown g {c} h = record { width = h.width; source = source_grown g c h.width h.source; some = h.some; narrow = h.narrow }

pub shifts_it : {E : Type 0} (k m : Netlist) (r : Result Sig E) (a c : Sig) → Grows k m → IsAmount k c → IfOk r (λ s. IsGateOf m s (a ∷ c ∷ [])) → IfOk r (λ s. ShiftsIt m s a)
shifts_it k m (Ok s) a c g h e = record { amount = c; reads = e; narrow = amount_grown g h }
shifts_it k m (Err x) a c g h e = tt

-- ---- an amount that is cut down

small : (u : ℕ) → 32 < u → 255 % 2 ^ u ≡ 255
small u le =
    let p = pow_mono {i = 32} {j = u} (omega (arith, le)) in
    let q : 0 * 2 ^ u + 255 ≡ 255 = omega arith in
    subst (λ (k : ℕ). k % 2 ^ u ≡ 255) q (mod_low 0 u 255 (omega (arith, p)))

alike : (b : ℕ) (t : Bool) → nat_lt 255 b ≡ t → ShiftAlike b (bit_of t * 256 + b % 256)
alike b true e = let p = ltb-true 255 b e in inr (omega (arith, p), omega arith)
alike b false e = let p = ltb-false 255 b e in inl (omega (arith, p))

low_is : (b : ℕ) → (b / 2 ^ 0) % 2 ^ 8 ≡ b % 256
low_is b = omega arith

cut_alike : (b limit over low s : Word) (u : ℕ) → 32 < u → limit ≡ record { width = u; bits = 255 % 2 ^ u } → over ≡ apply_prim Gt (b ∷ limit ∷ []) →
    low ≡ apply_prim (Bits 7 0) (b ∷ []) → s ≡ apply_prim Cat (over ∷ low ∷ [])
    → ShiftAlike b.bits s.bits
cut_alike b limit over low s u le i j k e =
    let l : limit.bits ≡ 255 = ap (λ (x : Word). x.bits) i ∙ small u le in
    let o : over.bits ≡ bit_of (nat_lt 255 b.bits) = ap (λ (x : Word). x.bits) j ∙ ap (λ (x : ℕ). bit_of (nat_lt x b.bits)) l in
    let w : low.bits ≡ b.bits % 256 = ap (λ (x : Word). x.bits) k ∙ low_is b.bits in
    let q : low.width ≡ 8 = ap (λ (x : Word). x.width) k in
    let r : s.bits ≡ bit_of (nat_lt 255 b.bits) * 256 + b.bits % 256 =
    ap (λ (x : Word). x.bits) e
    ∙ ap (λ (x : ℕ). x * 2 ^ low.width + low.bits) o
    ∙ ap (λ (x : ℕ). bit_of (nat_lt 255 b.bits) * 2 ^ x + low.bits) q
    ∙ ap (λ (x : ℕ). bit_of (nat_lt 255 b.bits) * 256 + x) w
    in
    subst (λ (x : ℕ). ShiftAlike b.bits x) (sym r) (alike b.bits (nat_lt 255 b.bits) refl)

-- the nets with the limit, with the bit, with the low bits, and with both together
pub cut_value : {E : Type 0} (n1 n2 n3 n4 : Netlist) (r : Result Sig E) (b limit over low : Sig) (u : ℕ) → 32 < u → Grows n1 n2 → Grows n2 n3 → Grows n3 n4
    → ((v : Val) → Wired n1 v → v limit.0 ≡ record { width = u; bits = 255 % 2 ^ u })
    → ((v : Val) → Wired n2 v → v over.0 ≡ apply_prim Gt (words v (b ∷ limit ∷ [])))
    → ((v : Val) → Wired n3 v → v low.0 ≡ apply_prim (Bits 7 0) (words v (b ∷ [])))
    → IfOk r (λ s. (v : Val) → Wired n4 v → v s.0 ≡ apply_prim Cat (words v (over ∷ low ∷ [])))
    → IfOk r (λ s. (v : Val) → Wired n4 v → ShiftAlike (v b.0).bits (v s.0).bits)
cut_value n1 n2 n3 n4 (Ok s) b limit over low u le g h i c1 c2 c3 c4 = λ v x4.
    let x3 = wired_before i x4 in
    let x2 = wired_before h x3 in
    cut_alike (v b.0) (v limit.0) (v over.0) (v low.0) (v s.0) u le (c1 v (wired_before g x2)) (c2 v x2) (c3 v x3) (c4 v x4)
cut_value n1 n2 n3 n4 (Err e) b limit over low u le g h i c1 c2 c3 c4 = tt

pub cut_narrow : {E : Type 0} (m : Netlist) (r : Result Sig E) → IfOk r (λ s. IsSource m s 9) → IfOk r (λ s. IsAmount m s)
cut_narrow m (Ok s) h = record { width = 9; source = h; some = omega arith; narrow = omega arith }
cut_narrow m (Err e) h = tt

pub compared_width : (u : ℕ) → 1 ≤ u → u ≤ width_max → result_width Gt (u ∷ u ∷ []) ≡ Some 1
compared_width u some most = rw (within u some most, eq-eqb u u refl) refl

pub low_width : (u : ℕ) → 32 < u → u ≤ width_max → result_width (Bits 7 0) (u ∷ []) ≡ Some 8
low_width u le most = rw (within u (omega (arith, le)) most, lt-ltb 7 u (omega (arith, le))) refl
