-- The digits of codes, from the lowest on.
use Rattle.std.proofs.Common.{◌≡◌, Bool, codes, ℕ, zero, suc, ◌+◌, ◌/◌, ◌%◌, ◌<◌, ◌≤◌, [], ◌∷◌, map, reverse, refl, sym, ap, ◌∙◌, arith}
use Rattle.std.specs.Prelude.{if◌then◌else◌}
use Rattle.std.proofs.Math.Dec.{eqb-suc-zero}
use Rattle.std.proofs.lemmas.List.{reverse-append}
use Rattle.std.proofs.lemmas.Int.Digits.{digits_of_step}
use Rattle.std.specs.Int.Digits.{digits_of}
use Rattle.safl_probe.specs.Texts.{code}

pub code_of : (i : ℕ) → 0 < i → code i ≡ map (λ d. 33 + d) (reverse (digits_of 94 i))
unfolding code
code_of zero pos = absurd (omega (arith, pos))
code_of (suc i) pos = ap (λ (b : Bool). if b then codes "!" else map (λ d. 33 + d) (reverse (digits_of 94 (suc i)))) (eqb-suc-zero i)

-- the digits but the lowest, and then the lowest
step : (i : ℕ) → 0 < i → code i ≡ (33 + i % 94) ∷ map (λ d. 33 + d) (reverse (digits_of 94 (i / 94)))
step i pos =
    code_of i pos
    ∙ ap (λ l. map (λ d. 33 + d) (reverse l)) (digits_of_step 94 i (omega arith) pos)
    ∙ ap (map (λ d. 33 + d)) (reverse-append (digits_of 94 (i / 94)) (i % 94 ∷ []))

pub code_more : (i : ℕ) → 94 ≤ i → code i ≡ (33 + i % 94) ∷ code (i / 94)
code_more i big = step i (omega (arith, big)) ∙ ap (λ l. (33 + i % 94) ∷ l) (sym (code_of (i / 94) (omega (arith, big))))

pub code_last : (i : ℕ) → i < 94 → code i ≡ (33 + i) ∷ []
unfolding code
code_last zero small = refl
code_last (suc i) small =
    let whole : suc i % 94 ≡ suc i = omega (arith, small) in
    let none : suc i / 94 ≡ 0 = omega (arith, small) in
    step (suc i) (omega arith) ∙ ap (λ k. (33 + k) ∷ map (λ d. 33 + d) (reverse (digits_of 94 (suc i / 94)))) whole ∙ ap (λ k. (33 + suc i) ∷ map (λ d. 33 + d) (reverse (digits_of 94 k))) none
