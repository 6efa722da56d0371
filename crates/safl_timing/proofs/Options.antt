-- Words that are looked at one after the other.
use Rattle.std.proofs.Common.{◌≡◌, ℕ, zero, suc, ◌+◌, ◌<◌, ◌≤◌, List, [], ◌∷◌, length, map, drop, get_or, String, string_bytes, Global}
use Rattle.std.proofs.Common.{Bool, true, false, add-one, refl, sym, ap, ◌∙◌, arith}
use Rattle.std.specs.Prelude.{◌||◌}
use Rattle.safl_timing.specs.Requests.{is_option, has_option}

-- the rest from a word on
rest_at : (ws : List (String Global)) (i : ℕ) (w : String Global) → i < length ws → w ≡ get_or ws i w → map string_bytes (drop i ws) ≡ string_bytes w ∷ map string_bytes (drop (suc i) ws)
rest_at [] i w lt e = absurd (omega arith)
rest_at (x ∷ ws) zero w lt e = ap (λ (y : String Global). string_bytes y ∷ map string_bytes ws) (sym e)
rest_at (x ∷ ws) (suc i) w lt e = rest_at ws i w (omega arith) e

or_true : (b c : Bool) → b ≡ true → (b || c) ≡ true
or_true true c e = refl
or_true false c e = absurd (cc)

or_false : (b c : Bool) → b ≡ false → (b || c) ≡ c
or_false true c e = absurd (cc)
or_false false c e = refl

module _ (ws : List (String Global)) (i : ℕ) (w : String Global) (lt : i < length ws) (at : w ≡ get_or ws i w)
    (before : has_option (map string_bytes (drop i ws)) ≡ has_option (map string_bytes ws)) where
  pub found : is_option (string_bytes w) ≡ true → true ≡ has_option (map string_bytes ws)
  found e = sym (or_true (is_option (string_bytes w)) (has_option (map string_bytes (drop (suc i) ws))) e) ∙ (ap has_option (sym (rest_at ws i w lt at)) ∙ before)

  pub passed : is_option (string_bytes w) ≡ false → has_option (map string_bytes (drop (i + 1) ws)) ≡ has_option (map string_bytes ws)
  passed e =
      ap (λ k. has_option (map string_bytes (drop k ws))) (add-one i)
      ∙ (sym (or_false (is_option (string_bytes w)) (has_option (map string_bytes (drop (suc i) ws))) e) ∙ (ap has_option (sym (rest_at ws i w lt at)) ∙ before))

pub none_left : (ws : List (String Global)) (i : ℕ) → length ws ≤ i → has_option (map string_bytes (drop i ws)) ≡ false
none_left [] zero le = refl
none_left [] (suc i) le = refl
none_left (w ∷ ws) zero le = absurd (omega arith)
none_left (w ∷ ws) (suc i) le = none_left ws i (omega arith)
