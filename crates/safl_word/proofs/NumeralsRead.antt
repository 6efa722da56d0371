-- A numeral read from its front.
use Rattle.safl_word.proofs.Common.{and_parts, list_all, list_all-append}
use Rattle.std.proofs.Common.{◌≡◌, ℕ, zero, suc, ◌+◌, ◌*◌, ◌^◌, ◌<◌, ◌≤◌, List, [], ◌∷◌, ◌++◌, length, take, get_or, Bool, true, false, ◌==◌, refl, sym, ◌∙◌, ap, subst, arith, add-one, length-append}
use Rattle.std.proofs.lemmas.Nat.{pow-add}
use Rattle.std.proofs.lemmas.List.{take-append-drop}
use Rattle.std.proofs.Math.Seq.{take-suc, take-length}
use Rattle.std.proofs.Math.ListN.{drop}
use Rattle.std.proofs.Math.Nat.{one-le-pow, le-mul_of_pos_right, mul_assoc, add-mul, pow-suc, pow-zero}
use Rattle.safl_word.specs.Numerals.{digit, is_digit, value, IsBounded}

pub value-append : (b : ℕ) (u v : List ℕ) → value b (u ++ v) ≡ value b u * b ^ length v + value b v
value-append b [] v = omega arith
value-append b (c ∷ u) v =
    let h = value-append b u v in
    let l : b ^ length (u ++ v) ≡ b ^ length u * b ^ length v = ap (λ n. b ^ n) (length-append u v) ∙ pow-add b (length u) (length v) in
    let a : digit c * b ^ length (u ++ v) ≡ digit c * b ^ length u * b ^ length v = ap (λ n. digit c * n) l ∙ sym (mul_assoc (digit c) (b ^ length u) (b ^ length v)) in
    let d = add-mul (digit c * b ^ length u) (value b u) (b ^ length v) in
    omega (arith, h, a, d)

-- a digit more
pub value_more : (b : ℕ) (w : List ℕ) (i : ℕ) → i < length w → value b (take (i + 1) w) ≡ value b (take i w) * b + digit (get_or w i 0)
value_more b w i lt = rw (add-one, take-suc w i 0 lt, value-append b (take i w) (get_or w i 0 ∷ [])) (last (value b (take i w)) (digit (get_or w i 0)))
  where
    last : (n d : ℕ) → n * b ^ 1 + (d * b ^ 0 + 0) ≡ n * b + d
    last n d = rw (pow-suc b 0, pow-zero b) (omega arith)

-- a front counts no more than the whole
pub value_front : (b : ℕ) (w : List ℕ) (i : ℕ) → 1 ≤ b → value b (take i w) ≤ value b w
value_front b w i pos =
    let e = ap (value b) (take-append-drop i w) in
    let a = value-append b (take i w) (drop i w) in
    let m : value b (take i w) ≤ value b (take i w) * b ^ length (drop i w) = le-mul_of_pos_right (value b (take i w)) (one-le-pow (length (drop i w)) b pos) in
    omega (arith, e, a, m)

-- digits up to here, and one more
pub digits_more : (p : ℕ → Bool) (w : List ℕ) (i : ℕ) → i < length w → list_all p (take i w) ≡ true → p (get_or w i 0) ≡ true → list_all p (take (i + 1) w) ≡ true
digits_more p w i lt h e = rw (add-one, take-suc w i 0 lt, list_all-append p (take i w) (get_or w i 0 ∷ []), h, e) refl

-- all pass, so one does
pub one_of_all : (p : ℕ → Bool) (w : List ℕ) (i : ℕ) → i < length w → list_all p w ≡ true → p (get_or w i 0) ≡ true
one_of_all p (c ∷ w) zero lt h = (and_parts _ _ h).0
one_of_all p (c ∷ w) (suc i) lt h = one_of_all p w i (omega arith) (and_parts _ _ h).1
one_of_all p [] i lt h = absurd (omega arith)

-- where the next byte is no digit, or the number grows too great, the whole is no such numeral
pub stops_here : (b most bound : ℕ) (w : List ℕ) (i n : ℕ) → 1 ≤ b → i < length w → n ≡ value b (take i w)
    → ((is_digit b (get_or w i 0) ≡ true) × (n * b + digit (get_or w i 0) < bound) → ⊥) → ¬ IsBounded b most bound w
stops_here b most bound w i n pos lt e h k =
    let m = value_more b w i lt in
    let f = value_front b w (i + 1) pos in
    let p : n * b ≡ value b (take i w) * b = ap (λ j. j * b) e in
    h (one_of_all (is_digit b) w i lt k.numeral.digits, omega (arith, m, f, p, k.small))

pub taken : (w : List ℕ) (i : ℕ) → i ≤ length w → length w ≤ i → take i w ≡ w
taken w i l g = let e : length w ≡ i = omega arith in subst (λ k. take k w ≡ w) e (take-length w)

-- a run that was read to its end
pub read_whole : (b most bound : ℕ) (w : List ℕ) (i n : ℕ) → (length w == 0) ≡ false → length w ≤ most → i ≤ length w → length w ≤ i
    → n ≡ value b (take i w) → list_all (is_digit b) (take i w) ≡ true → n < bound → IsBounded b most bound w
read_whole b most bound [] i n s m l g e d lt = cc
read_whole b most bound (c ∷ w) i n s m l g e d lt =
    let whole = taken (c ∷ w) i l g in
    record {
      numeral = record { some = omega arith; digits = rw whole at d };
      short = m;
      small = omega (arith, e, ap (value b) whole, lt);
    }
