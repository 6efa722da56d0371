-- Results that take no gates.
use Rattle.safl_bits.proofs.Common.{AreLiterals, Assignment, Gates, IsLiteral, Lit, nat_tests, shown}
use Rattle.std.proofs.Common.{◌≡◌, ℕ, ◌+◌, ◌-◌, ◌*◌, ◌%◌, ◌^◌, ◌<◌, ◌≤◌, List, [], ◌∷◌, ◌++◌, length, take, drop, Bool, true, false, ◌&&◌, nat_lt}
use Rattle.std.proofs.Common.{nat_le, cond, Some, None, refl, sym, ap, ◌∙◌, arith, length-append}
use Rattle.std.proofs.lemmas.List.{length-drop, length-take-le}
use Rattle.std.proofs.lemmas.List.Elements.{All-same, All-append, All-take, All-drop}
use Rattle.safl_word.specs.Limits.{width_max}
use Rattle.safl_word.specs.declared.primitive.Primitive.TheVariants.{Not, Cat, Bits}
use Rattle.safl_word.specs.Primitives.{is_width, result_width, where_true}
use Rattle.safl_word.proofs.Widths.{within}
use Rattle.safl_bits.specs.Results.{Makes, MakesOne}
use Rattle.safl_bits.proofs.Moving.{shown-append, shown_take, shown_drop}

pub not_makes : (g : Gates) (a r : List Lit) → 1 ≤ length a → length a ≤ width_max → AreLiterals g r → length r ≡ length a →
    ((m : Assignment) → shown m r + shown m a + 1 ≡ 2 ^ length a) → MakesOne Not a g r
not_makes g a r some most f l v = record {
  fits = f;
  long = ap (λ b. cond b (Some (length a)) None) (within (length a) some most) ∙ ap (λ n. Some n)
      (sym l);
  value = λ m h. let e = v m in omega (arith, e);
}

pub cut_makes : (g : Gates) (a r : List Lit) (high low : ℕ) → low ≤ high → high < length a → length a ≤ width_max → AreLiterals g a → r ≡ take
    (high + 1 - low) (drop low a) → MakesOne (Bits high low) a g r
cut_makes g a r high low p q most f e =
    let z : high + 1 - low ≡ high - low + 1 = omega (arith, p) in
    let l : length r ≡ high + 1 - low = ap length e ∙ length-take-le (high + 1 - low) (drop low a) (omega (arith, length-drop low a, p, q)) in
    let t : (nat_le low high && nat_lt high (length a)) ≡ true = grind (arith, nat_tests) in
    record {
      fits = All-same (IsLiteral g) r _ e (All-take (IsLiteral g) (high + 1 - low) (drop low a) (All-drop (IsLiteral g) low a f));
      long = ap (λ b. cond b (where_true (nat_le low high && nat_lt high (length a)) (high - low + 1)) None)
          (within (length a) (omega (arith, q)) most) ∙ ap (λ b. where_true b (high - low + 1)) t ∙ ap (λ n. Some n) (sym (l ∙ z));
      value = λ m h. ap (shown m) e ∙ shown_take m (drop low a) (high + 1 - low) ∙ (λ i. shown_drop m a low i % 2 ^ z i);
    }

true_where : (b : Bool) (n w : ℕ) → where_true b n ≡ Some w → where_true b n ≡ Some n
true_where true n w e = refl
true_where false n w e = absurd (cc)

both_where : (t b : Bool) (n w : ℕ) → cond t (where_true b n) None ≡ Some w → cond t (where_true b n) None ≡ Some n
both_where true b n w e = true_where b n w e
both_where false b n w e = absurd (cc)

pub cat_makes : (g : Gates) (a b r : List Lit) (w : ℕ) → result_width Cat (length a ∷ length b ∷ []) ≡ Some w → AreLiterals g a → AreLiterals g b → r ≡ b ++ a → Makes Cat a b g r
cat_makes g a b r w s f k e =
    let l : length r ≡ length a + length b = ap length e ∙ (let x = length-append b a in omega (arith, x)) in
    record {
      fits = All-same (IsLiteral g) r (b ++ a) e (All-append (IsLiteral g) b a k f);
      long = both_where (is_width (length a) && is_width (length b)) (nat_le (length a + length b) width_max) (length a + length b) w s ∙ ap (λ n. Some n) (sym l);
      value = λ m h. ap (shown m) e ∙ shown-append m b a ∙ (let z : shown m b + 2 ^ length b * shown m a ≡ shown m a * 2 ^ length b + shown m b = grind arith in z);
    }
