-- The names of a circuit's signals are good, and show their heads and what they are of.
use Rattle.safl_unit.proofs.Common.{between, list_all, nat_tests}
use Rattle.std.proofs.Common.{◌≡◌, ℕ, ◌+◌, ◌<◌, ◌≤◌, ◌^◌, ◌%◌, List, [], ◌∷◌, ◌++◌, length, length-append, Bool, true, false, not, cond, ◌==◌, ◌&&◌, nat_le, decimal, refl, ap, ◌∙◌, arith}
use Rattle.std.proofs.lemmas.Bool.{and_parts, and_from, or_left, or_right}
use Rattle.std.proofs.lemmas.Fmt.{decimal_by_steps, length-decimal-le}
use Rattle.safl_word.specs.Tokens.{IsSourceName, begins_name, in_name}
use Rattle.safl_word.proofs.Lexemes.{all_in_name}
use Rattle.safl_word.proofs.Naturals.{short_enough}
use Rattle.safl_net.specs.Names.{is_part, are_parts, is_identifier, is_reserved, is_good}

-- ---- names and numbers, without `$`

pub record IsPiece (x : List ℕ) : Type 0 where
  pub all : list_all in_name x ≡ true
  pub short : length x ≤ 64

pub name_piece : (x : List ℕ) → IsSourceName x → IsPiece x
name_piece x h = record { all = all_in_name x h.like; short = h.short }

digits_push : (ds : List ℕ) (d : ℕ) → list_all (between 48 57) ds ≡ true → between 48 57 d ≡ true → list_all (between 48 57) (ds ++ d ∷ []) ≡ true
digits_push [] d e f = and_from (between 48 57 d) true f refl
digits_push (c ∷ ds) d e f =
    let p = and_parts (between 48 57 c) (list_all (between 48 57) ds) e in
    and_from (between 48 57 c) (list_all (between 48 57) (ds ++ d ∷ [])) p.0 (digits_push ds d p.1 f)

is_digit : (m : ℕ) → m < 10 → between 48 57 (48 + m) ≡ true
is_digit m l = grind (arith, nat_tests)

pub decimal_digits : (n : ℕ) → n < 2 ^ 64 → list_all (between 48 57) (decimal n) ≡ true
decimal_digits n h = decimal_by_steps (λ m ds. list_all (between 48 57) ds ≡ true)
    (λ m k. digits_push [] (48 + m) refl (is_digit m k))
    (λ m ds k e. digits_push ds (48 + m % 10) e (is_digit (m % 10) (omega arith)))
    n h

digits_piece : (x : List ℕ) → list_all (between 48 57) x ≡ true → list_all in_name x ≡ true
digits_piece [] e = refl
digits_piece (c ∷ x) e =
    let p = and_parts (between 48 57 c) (list_all (between 48 57) x) e in
    and_from (in_name c) (list_all in_name x) (or_right (begins_name c) (between 48 57 c) p.0) (digits_piece x p.1)

pub decimal_piece : (n : ℕ) → n < 4294967296 → IsPiece (decimal n)
decimal_piece n h =
    let long = length-decimal-le 10 n (omega arith) (omega (arith, h)) (omega (arith, h)) in
    record { all = digits_piece (decimal n) (decimal_digits n (omega (arith, h))); short = omega (arith, long) }

-- ---- good names

part : (c : ℕ) → in_name c ≡ true → is_part c ≡ true
part c h = or_left (in_name c) (c == 36) h

parts_of : (x : List ℕ) → list_all in_name x ≡ true → are_parts x ≡ true
parts_of [] e = refl
parts_of (c ∷ x) e = let p = and_parts (in_name c) (list_all in_name x) e in and_from (is_part c) (are_parts x) (part c p.0) (parts_of x p.1)

parts_more : (x y : List ℕ) → are_parts x ≡ true → are_parts y ≡ true → are_parts (x ++ y) ≡ true
parts_more [] y e f = f
parts_more (c ∷ x) y e f = let p = and_parts (is_part c) (are_parts x) e in and_from (is_part c) (are_parts (x ++ y)) p.0 (parts_more x y p.1 f)

all_good : (a b c : Bool) → a ≡ true → b ≡ true → c ≡ false → (a && b && not c) ≡ true
all_good true true false e f g = refl
all_good true true true e f g = absurd (cc)
all_good true false c e f g = absurd (cc)
all_good false b c e f g = absurd (cc)

-- a head, and parts of a name after it
pub good_headed : (h x : List ℕ) → is_identifier (h ++ x) ≡ are_parts x → length h ≤ 8 → is_reserved (h ++ x) ≡ false → are_parts x ≡ true → length x ≤ 129 → is_good (h ++ x) ≡ true
unfolding is_good
good_headed h x i l r e s =
    let long = length-append h x in
    all_good (is_identifier (h ++ x)) (nat_le (length (h ++ x)) 200) (is_reserved (h ++ x)) (i ∙ e) (short_enough (length (h ++ x)) (omega (arith, long, l, s))) r

pub piece_parts : (x : List ℕ) → IsPiece x → are_parts x ≡ true
piece_parts x h = parts_of x h.all

pub pair_parts : (x y : List ℕ) → IsPiece x → IsPiece y → are_parts (x ++ (36 ∷ y)) ≡ true
pair_parts x y h k = parts_more x (36 ∷ y) (parts_of x h.all) (parts_of y k.all)

-- ---- what stands before and after the first `$`

abbrev pub before_mark : List ℕ → List ℕ
before_mark [] = []
before_mark (c ∷ x) = cond (c == 36) [] (c ∷ before_mark x)

abbrev pub after_mark : List ℕ → List ℕ
after_mark [] = []
after_mark (c ∷ x) = cond (c == 36) x (after_mark x)

unmarked : (c : ℕ) → in_name c ≡ true → (c == 36) ≡ false
unmarked c h = grind (arith, nat_tests)

pub piece_whole : (x : List ℕ) → list_all in_name x ≡ true → before_mark x ≡ x
piece_whole [] e = refl
piece_whole (c ∷ x) e =
    let p = and_parts (in_name c) (list_all in_name x) e in
    ap (λ b. cond b [] (c ∷ before_mark x)) (unmarked c p.0) ∙ ap (λ l. c ∷ l) (piece_whole x p.1)

pub piece_before : (x y : List ℕ) → list_all in_name x ≡ true → before_mark (x ++ (36 ∷ y)) ≡ x
piece_before [] y e = refl
piece_before (c ∷ x) y e =
    let p = and_parts (in_name c) (list_all in_name x) e in
    ap (λ b. cond b [] (c ∷ before_mark (x ++ (36 ∷ y)))) (unmarked c p.0) ∙ ap (λ l. c ∷ l) (piece_before x y p.1)

pub piece_after : (x y : List ℕ) → list_all in_name x ≡ true → after_mark (x ++ (36 ∷ y)) ≡ y
piece_after [] y e = refl
piece_after (c ∷ x) y e =
    let p = and_parts (in_name c) (list_all in_name x) e in
    ap (λ b. cond b (x ++ (36 ∷ y)) (after_mark (x ++ (36 ∷ y)))) (unmarked c p.0) ∙ piece_after x y p.1
