-- Words: a width, and a number below 2 to that width.
use Rattle.std.specs.Prelude.{ℕ, zero, suc, ◌≤◌, ◌<◌, ◌^◌, List, [], ◌∷◌, get_or, map}
use Rattle.safl_word.specs.Limits.{width_max}

pub record Word : Type 0 where
  pub width : ℕ
  pub bits : ℕ

-- the width is from 1 to the greatest, and the number fits the width
pub record IsWord (w : Word) : Type 0 where
  pub some : 1 ≤ w.width
  pub bounded : w.width ≤ width_max
  pub fits : w.bits < 2 ^ w.width

abbrev pub AreWords : List Word → Type 0
AreWords [] = Unit {0}
AreWords (w ∷ ws) = IsWord w × AreWords ws

-- stands where there is no word
abbrev pub no_word : Word
no_word = record { width = 0; bits = 0 }

-- the first if the number is 1, else the second
abbrev pub pick : {A : Type 0} → ℕ → A → A → A
pick (suc zero) a b = a
pick _ a b = b

-- the branch that the word of a condition selects
abbrev pub choose : {A : Type 0} → Word → A → A → A
choose u a b = pick u.bits a b

abbrev pub slot : List Word → ℕ → Word
slot env i = get_or env i no_word

abbrev pub as_word : ℕ → ℕ → Word
as_word width bits = record { width = width; bits = bits }

abbrev pub widths : List Word → List ℕ
widths vs = map (λ v. v.width) vs
