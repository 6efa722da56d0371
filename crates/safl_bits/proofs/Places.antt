-- Words of literals, place by place.
use Rattle.safl_bits.proofs.Common.{Assignment, Lit, bit_of, nat_tests, number, on, pow-suc, shown, values}
use Rattle.std.proofs.Common.{◌≡◌, ℕ, suc, ◌+◌, ◌*◌, ◌^◌, ◌<◌, ◌≤◌, List, [], ◌∷◌, ◌++◌, length, take, Bool, true, false, not, cond, ◌&&◌, ◌||◌, ◌==◌}
use Rattle.std.proofs.Common.{bit_and, bit_or, bit_xor, slice_index_or, refl, sym, ap, ◌∙◌, subst, arith}
use Rattle.std.proofs.lemmas.List.{map_push, take_more, length-take-le, length-map}
use Rattle.std.proofs.lemmas.List.Elements.{All-weaker, All-push, All-same}
use Rattle.std.proofs.lemmas.Nat.{and_block, or_block, xor_block}
use Rattle.safl_bits.specs.Gates.{Gates, IsLiteral, AreLiterals, Grows, differ}
use Rattle.safl_bits.specs.declared.words.Gate.{Gate}
use Rattle.safl_bits.specs.declared.words.Gate.TheVariants.{Both, Either, Differ}
use Rattle.safl_bits.specs.Operators.{gate_bit, gate_number}
use Rattle.safl_bits.proofs.Numbers.{number_push, number_lt}
use Rattle.safl_bits.proofs.Growing.{kept}

abbrev pub nothing : Lit
nothing = record { 0 = 0 }

abbrev pub at : List Lit → ℕ → Lit
at ls i = slice_index_or ls i nothing

pub literals_kept : {a b : Gates} {i : ℕ} (ls : List Lit) → Grows a b i → AreLiterals a ls → AreLiterals b ls
literals_kept {a} {b} {i} ls p h = All-weaker (IsLiteral a) (IsLiteral b) (λ l k. kept p k) ls h

-- one more literal at the end
pub literals_push : (g : Gates) (ls : List Lit) {new : List Lit} {l : Lit} → AreLiterals g ls → IsLiteral g l → new ≡ ls ++ l ∷ [] → AreLiterals g new
literals_push g ls {new} {l} h k e = All-same (IsLiteral g) new (ls ++ l ∷ []) e (All-push (IsLiteral g) ls l h k)

pub shown_lt : (m : Assignment) (ls : List Lit) → shown m ls < 2 ^ length ls
shown_lt m ls = subst (λ n. shown m ls < 2 ^ n) (length-map ls (on m)) (number_lt (values m ls))

pub shown_push : (m : Assignment) (ls new : List Lit) (l : Lit) (i : ℕ) → length ls ≡ i → new ≡ ls ++ l ∷ [] → shown m new ≡ shown m ls + 2 ^ i * bit_of (on m l)
shown_push m ls new l i e f =
    ap (shown m) f ∙ ap number (map_push (on m) ls l) ∙ number_push (values m ls) (on m l) ∙ ap (λ n. shown m ls + 2 ^ n * bit_of (on m l)) (length-map ls (on m) ∙ e)

-- one more place of a word
pub shown_more : (m : Assignment) (ls : List Lit) (i : ℕ) → i < length ls → shown m (take (i + 1) ls) ≡ shown m (take i ls) + 2 ^ i * bit_of (on m (at ls i))
shown_more m ls i h = shown_push m (take i ls) (take (i + 1) ls) (at ls i) i (length-take-le i ls (omega arith)) (take_more ls i nothing h)

pub taken_lt : (m : Assignment) (ls : List Lit) (i : ℕ) → i ≤ length ls → shown m (take i ls) < 2 ^ i
taken_lt m ls i h = subst (λ n. shown m (take i ls) < 2 ^ n) (length-take-le i ls h) (shown_lt m (take i ls))

-- ---- gates at each place

bits_and : (x y : Bool) → bit_and (bit_of x) (bit_of y) ≡ bit_of (x && y)
bits_and true true = refl
bits_and true false = refl
bits_and false true = refl
bits_and false false = refl

bits_or : (x y : Bool) → bit_or (bit_of x) (bit_of y) ≡ bit_of (x || y)
bits_or true true = refl
bits_or true false = refl
bits_or false true = refl
bits_or false false = refl

bits_xor : (x y : Bool) → bit_xor (bit_of x) (bit_of y) ≡ bit_of (differ x y)
bits_xor true true = refl
bits_xor true false = refl
bits_xor false true = refl
bits_xor false false = refl

turned : (p x a : ℕ) → a + p * x ≡ x * p + a
turned p x a = grind arith

pub gate_step : (kind : Gate) (i a b : ℕ) (x y : Bool) → a < 2 ^ i → b < 2 ^ i → gate_number kind (a + 2 ^ i * bit_of x) (b + 2 ^ i * bit_of y) ≡
    gate_number kind a b + 2 ^ i * bit_of (gate_bit kind x y)
gate_step Both i a b x y l k = (λ j. bit_and (turned (2 ^ i) (bit_of x) a j) (turned (2 ^ i) (bit_of y) b j)) ∙ and_block i (bit_of x) (bit_of y) a b
    l k ∙ ap (λ n. n * 2 ^ i + bit_and a b) (bits_and x y) ∙ sym (turned (2 ^ i) (bit_of (x && y)) (bit_and a b))
gate_step Either i a b x y l k = (λ j. bit_or (turned (2 ^ i) (bit_of x) a j) (turned (2 ^ i) (bit_of y) b j)) ∙ or_block i (bit_of x) (bit_of y) a b
    l k ∙ ap (λ n. n * 2 ^ i + bit_or a b) (bits_or x y) ∙ sym (turned (2 ^ i) (bit_of (x || y)) (bit_or a b))
gate_step Differ i a b x y l k = (λ j. bit_xor (turned (2 ^ i) (bit_of x) a j) (turned (2 ^ i) (bit_of y) b j)) ∙ xor_block i (bit_of x) (bit_of y) a
    b l k ∙ ap (λ n. n * 2 ^ i + bit_xor a b) (bits_xor x y) ∙ sym (turned (2 ^ i) (bit_of (differ x y)) (bit_xor a b))

pub choice_step : (t x y : Bool) (p a b s : ℕ) → s ≡ cond t a b → s + p * bit_of (cond t x y) ≡ cond t (a + p * bit_of x) (b + p * bit_of y)
choice_step true x y p a b s e = ap (λ n. n + p * bit_of x) e
choice_step false x y p a b s e = ap (λ n. n + p * bit_of y) e

pub masked_step : (t x : Bool) (p a s : ℕ) → s ≡ cond t a 0 → s + p * bit_of (t && x) ≡ cond t (a + p * bit_of x) 0
masked_step true x p a s e = ap (λ n. n + p * bit_of x) e
masked_step false x p a s e = omega (arith, e)

pub complement_step : (x : Bool) (i a s : ℕ) → s + a + 1 ≡ 2 ^ i → (s + 2 ^ i * bit_of (not x)) + (a + 2 ^ i * bit_of x) + 1 ≡ 2 ^ (i + 1)
complement_step true i a s e = let f = pow-suc 2 i in let g : 2 ^ (i + 1) ≡ 2 ^ suc i = ap (λ n. 2 ^ n) (let z : i + 1 ≡ suc i = omega arith in z) in omega (arith, e, f, g)
complement_step false i a s e = let f = pow-suc 2 i in let g : 2 ^ (i + 1) ≡ 2 ^ suc i = ap (λ n. 2 ^ n) (let z : i + 1 ≡ suc i = omega arith in z) in omega (arith, e, f, g)

-- some bit is true
pub any_step : (p a : ℕ) (f x : Bool) → 0 < p → f ≡ not (a == 0) → (f || x) ≡ not (a + p * bit_of x == 0)
any_step p a f true l e = let z : not (a + p * 1 == 0) ≡ true = grind (arith, nat_tests) in or_true f ∙ sym z
  where
    or_true : (y : Bool) → (y || true) ≡ true
    or_true true = refl
    or_true false = refl
any_step p a f false l e = or_false f ∙ e ∙ ap (λ n. not (n == 0)) (let z : a ≡ a + p * 0 = omega arith in z)
  where
    or_false : (y : Bool) → (y || false) ≡ y
    or_false true = refl
    or_false false = refl

-- some places differ
pub apart_step : (p a b : ℕ) (f x y : Bool) → a < p → b < p → f ≡ not (a == b) → (f || differ x y) ≡ not (a + p * bit_of x == b + p * bit_of y)
apart_step p a b true true true l k e = grind (arith, nat_tests)
apart_step p a b true true false l k e = grind (arith, nat_tests)
apart_step p a b true false true l k e = grind (arith, nat_tests)
apart_step p a b true false false l k e = grind (arith, nat_tests)
apart_step p a b false true true l k e = grind (arith, nat_tests)
apart_step p a b false true false l k e = grind (arith, nat_tests)
apart_step p a b false false true l k e = grind (arith, nat_tests)
apart_step p a b false false false l k e = grind (arith, nat_tests)
