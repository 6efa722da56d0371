-- What the values of an argument say, by what the queries of the matches answer.
use Rattle.std.proofs.Common.{◌≡◌, ℕ, List, [], map, Bool, true, false, Option, Some, None, refl, sym, ap, ◌∙◌}
use Rattle.std.specs.Prelude.{◌↔◌, IsSome, IfSome, option_map, option_and_then, unwrap_or}
use Rattle.std.proofs.lemmas.Bool.{false≢true}
use Rattle.std.specs.Borrow.{Bor}
use Rattle.clap.specs.Words.{Text, rows_of, first_of, first_value, all_of, raw_values, matched_of}
use Rattle.clap.specs.declared.parser.matches.Found.{Found}
use Rattle.clap.proofs.WalkLemmas.{first_value-rows, raw_values-rows}
use Rattle.safl_word.specs.Numerals.{value}
use Rattle.safl_command.proofs.Numbers.{number_if}

module _ (f : Found) (id : Text) where
  -- the first value, if there is one
  pub first_shown : (r : Option (Bor Text)) → option_map (λ s. s.now) r ≡ first_value f id → option_map (λ s. s.now) r ≡ first_of id (rows_of f)
  first_shown r e = e ∙ first_value-rows f id

  pub first_is : (r : Option (Bor Text)) (word : Bor Text) → option_map (λ s. s.now) r ≡ first_value f id → r ≡ Some word → Some word.now ≡ first_of id (rows_of f)
  first_is r word e is = ap (option_map (λ (s : Bor Text). s.now)) (sym is) ∙ first_shown r e

  pub first_is_not : (r : Option (Bor Text)) → option_map (λ s. s.now) r ≡ first_value f id → r ≡ None → None ≡ first_of id (rows_of f)
  first_is_not r e is = ap (option_map (λ (s : Bor Text). s.now)) (sym is) ∙ first_shown r e

  -- what is made of the first value
  pub value_is : {Y : Type 0} (F : Text → Option Y) (r : Option (Bor Text)) (word : Bor Text) → option_map (λ s. s.now) r ≡ first_value f id → r ≡
      Some word → option_and_then F (first_of id (rows_of f)) ≡ F word.now
  value_is F r word e is = ap (option_and_then F) (sym (first_value-rows f id) ∙ sym e ∙ ap (option_map (λ (s : Bor Text). s.now)) is)

  pub no_value : {Y : Type 0} (F : Text → Option Y) (r : Option (Bor Text)) → option_map (λ s. s.now) r ≡ first_value f id → r ≡ None → option_and_then F (first_of id (rows_of f)) ≡ None
  no_value F r e is = ap (option_and_then F) (sym (first_value-rows f id) ∙ sym e ∙ ap (option_map (λ (s : Bor Text). s.now)) is)

  -- all values
  pub values_are : (r : Option (Bor (List (Bor Text)))) (words : Bor (List (Bor Text))) → option_map (λ s. map (λ v. v.now) s.now) r ≡ option_map raw_values (matched_of f id) → r ≡ Some words
      → map (λ v. v.now) words.now ≡ unwrap_or (all_of id (rows_of f)) []
  values_are r words e is =
      ap (λ (o : Option (List Text)). unwrap_or o []) (ap (option_map (λ (s : Bor (List (Bor Text))). map (λ (v : Bor Text). v.now) s.now)) (sym is) ∙ e ∙ raw_values-rows f id)

  pub no_values : (r : Option (Bor (List (Bor Text)))) → option_map (λ s. map (λ v. v.now) s.now) r ≡ option_map raw_values (matched_of f id) → r ≡ None → [] ≡ unwrap_or (all_of id (rows_of f)) []
  no_values r e is =
      ap (λ (o : Option (List Text)). unwrap_or o []) (ap (option_map (λ (s : Bor (List (Bor Text))). map (λ (v : Bor Text). v.now) s.now)) (sym is) ∙ e ∙ raw_values-rows f id)

-- a number that is there exactly where the word fits
pub number_is : (fits : Bool) (word : Text) (r : Option ℕ) → (IsSome r ↔ (fits ≡ true)) → IfSome r (λ n. n ≡ value 10 word) → r ≡ number_if fits word
number_is true word (Some n) some v = ap Some v
number_is true word None some v = absurd (false≢true (some.1 refl))
number_is false word (Some n) some v = absurd (false≢true (some.0 refl))
number_is false word None some v = refl

-- what proves the values of arguments
pub ruleset values = (first_is, first_is_not, value_is, no_value, values_are, no_values, number_is)
