-- A primitive on words gives a word.
use Rattle.safl_word.proofs.Common.{Primitive, pow_mono, width_max}
use Rattle.std.proofs.Common.{◌≡◌, ℕ, suc, ◌+◌, ◌-◌, ◌*◌, ◌/◌, ◌%◌, ◌^◌, ◌<◌, List, [], ◌∷◌, Option, Some, Bool, true, false, cond, not, ◌==◌, nat_lt, nat_le, sym, subst, arith}
use Rattle.std.proofs.lemmas.Nat.{and_le_l, or_lt, xor_lt, pow_pos, pow-add}
use Rattle.std.proofs.lemmas.Bool.{leb-true, ltb-true, eqb-true, and_parts}
use Rattle.std.proofs.Math.Nat.{mod-lt, div-le_self, mul-le-mul_right}
use Rattle.safl_word.specs.Words.{Word, IsWord}
use Rattle.safl_word.specs.declared.primitive.Primitive.TheVariants.{Add, Sub, Mul, And, Or, Xor, Not, Eq, Ne, Lt, Le, Gt, Ge, Shl, Shr, Cat, Bits, Ext}
use Rattle.safl_word.specs.Primitives.{one_width, two_widths, where_true, result_width, one_word, two_words, bit_of, apply_prim}
use Rattle.safl_word.specs.Words.{AreWords}
use Rattle.safl_word.proofs.Widths.{widths, only_where}
use Rattle.safl_word.proofs.Options.{none_is}
use Rattle.safl_word.proofs.Words.{where_holds}

one_fits : (f : ℕ → Option ℕ) (g : Word → Word) (vs : List Word) (n : ℕ) → ((a : Word) → IsWord a → f a.width ≡ Some n → IsWord (g a)) → AreWords vs →
    one_width f (widths vs) ≡ Some n → IsWord (one_word g vs)
one_fits f g [] n h w e = none_is n e
one_fits f g (a ∷ []) n h w e = h a w.0 (only_where _ _ n e)
one_fits f g (a ∷ (b ∷ vs)) n h w e = none_is n e

two_fits : (f : ℕ → ℕ → Option ℕ) (g : Word → Word → Word) (vs : List Word) (n : ℕ) →
    ((a b : Word) → IsWord a → IsWord b → f a.width b.width ≡ Some n → IsWord (g a b)) → AreWords vs → two_widths f (widths vs) ≡ Some n → IsWord (two_words g vs)
two_fits f g [] n h w e = none_is n e
two_fits f g (a ∷ []) n h w e = none_is n e
two_fits f g (a ∷ (b ∷ [])) n h w e = h a b w.0 w.1.0 (only_where _ _ n e)
two_fits f g (a ∷ (b ∷ (c ∷ vs))) n h w e = none_is n e

-- of the first operand's width
like : (a : Word) (n : ℕ) → IsWord a → n < 2 ^ a.width → IsWord (record { width = a.width; bits = n })
like a n w lt = record { some = w.some; bounded = w.bounded; fits = lt }

-- the second operand fits the first one's width, where the two are equal
same_fits : (a b : Word) (n : ℕ) → IsWord b → where_true (a.width == b.width) a.width ≡ Some n → b.bits < 2 ^ a.width
same_fits a b n wb h = subst (λ k. b.bits < 2 ^ k) (sym (eqb-true a.width b.width (where_holds _ _ n h))) wb.fits

-- of one bit
flag : (b : Bool) → IsWord (record { width = 1; bits = bit_of b })
flag true = record { some = omega arith; bounded = omega arith; fits = omega arith }
flag false = record { some = omega arith; bounded = omega arith; fits = omega arith }

below : (m n : ℕ) → n % 2 ^ m < 2 ^ m
below m n = mod-lt n (pow_pos m)

if_lt : (b : Bool) (n m : ℕ) → n < m → cond b n 0 < m
if_lt true n m lt = lt
if_lt false n m lt = omega arith

half : (n k m : ℕ) → n < m → n / k < m
half n k m lt = omega (arith, div-le_self n k)

pub joined : (a b u v : ℕ) → a < 2 ^ u → b < 2 ^ v → a * 2 ^ v + b < 2 ^ (u + v)
joined a b u v la lb =
    let m = mul-le-mul_right {m = suc a} {n = 2 ^ u} (2 ^ v) la in
    let p : 2 ^ (u + v) ≡ 2 ^ u * 2 ^ v = pow-add 2 u v in
    let s : suc a * 2 ^ v ≡ a * 2 ^ v + 2 ^ v = omega arith in
    omega (arith, m, p, s, lb)

pub apply_fits : (o : Primitive) (vs : List Word) (n : ℕ) → AreWords vs → result_width o (widths vs) ≡ Some n → IsWord (apply_prim o vs)
apply_fits Add vs n w e = two_fits _ _ vs n (λ a b wa wb h. like a _ wa (below a.width (a.bits + b.bits))) w e
apply_fits Sub vs n w e = two_fits _ _ vs n (λ a b wa wb h. like a _ wa (below a.width (2 ^ a.width + a.bits - b.bits))) w e
apply_fits Mul vs n w e = two_fits _ _ vs n (λ a b wa wb h. like a _ wa (below a.width (a.bits * b.bits))) w e
apply_fits And vs n w e = two_fits _ _ vs n (λ a b wa wb h. like a _ wa (omega (arith, and_le_l a.bits b.bits, wa.fits))) w e
apply_fits Or vs n w e = two_fits _ _ vs n (λ a b wa wb h. like a _ wa (or_lt a.width a.bits b.bits wa.fits (same_fits a b n wb h))) w e
apply_fits Xor vs n w e = two_fits _ _ vs n (λ a b wa wb h. like a _ wa (xor_lt a.width a.bits b.bits wa.fits (same_fits a b n wb h))) w e
apply_fits Not vs n w e = one_fits _ _ vs n (λ a wa h. like a _ wa (omega (arith, pow_pos a.width))) w e
apply_fits Eq vs n w e = two_fits _ _ vs n (λ a b wa wb h. flag (a.bits == b.bits)) w e
apply_fits Ne vs n w e = two_fits _ _ vs n (λ a b wa wb h. flag (not (a.bits == b.bits))) w e
apply_fits Lt vs n w e = two_fits _ _ vs n (λ a b wa wb h. flag (nat_lt a.bits b.bits)) w e
apply_fits Le vs n w e = two_fits _ _ vs n (λ a b wa wb h. flag (nat_le a.bits b.bits)) w e
apply_fits Gt vs n w e = two_fits _ _ vs n (λ a b wa wb h. flag (nat_lt b.bits a.bits)) w e
apply_fits Ge vs n w e = two_fits _ _ vs n (λ a b wa wb h. flag (nat_le b.bits a.bits)) w e
apply_fits Shl vs n w e = two_fits _ _ vs n (λ a b wa wb h. like a _ wa (if_lt (nat_lt b.bits a.width) _ _ (below a.width (a.bits * 2 ^ b.bits)))) w e
apply_fits Shr vs n w e = two_fits _ _ vs n (λ a b wa wb h. like a _ wa (if_lt (nat_lt b.bits a.width) _ _ (half a.bits (2 ^ b.bits) (2 ^ a.width) wa.fits))) w e
apply_fits Cat vs n w e =
    two_fits _ _ vs n
    (λ a b wa wb h. record {
      some = omega (arith, wa.some);
      bounded = leb-true (a.width + b.width) width_max (where_holds _ _ n h);
      fits = joined a.bits b.bits a.width b.width wa.fits wb.fits;
    })
    w e
apply_fits (Bits high low) vs n w e =
    one_fits _ _ vs n
    (λ a wa h.
    let lt = ltb-true high a.width (and_parts _ _ (where_holds _ _ n h)).1 in
    let le = leb-true low high (and_parts _ _ (where_holds _ _ n h)).0 in
    record { some = omega arith; bounded = omega (arith, wa.bounded, lt, le); fits = below (high - low + 1) (a.bits / 2 ^ low) })
    w e
apply_fits (Ext m) vs n w e =
    one_fits _ _ vs n
    (λ a wa h.
    let le = leb-true a.width m (and_parts _ _ (where_holds _ _ n h)).0 in
    let top = leb-true m width_max (and_parts _ _ (where_holds _ _ n h)).1 in
    record { some = omega (arith, wa.some, le); bounded = top; fits = omega (arith, wa.fits, pow_mono le) })
    w e
