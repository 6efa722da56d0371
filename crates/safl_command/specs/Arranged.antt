-- How the words and options of a command may be arranged on a line.
use Rattle.std.specs.Prelude.{◌≡◌, ◌≢◌, ◌⊎◌, ℕ, List, [], ◌∷◌, ◌++◌, Option, Some, None, codes}
use Rattle.std.specs.Str.{IsUtf8}

-- an option that is given: its name without hyphens, and its value if it takes one
pub record GivenOption : Type 0 where
  pub name : List ℕ
  pub value : Option (List ℕ)

-- the word does not begin with a hyphen, or is a hyphen alone
abbrev pub IsUnhyphened : List ℕ → Type 0
IsUnhyphened [] = Unit {0}
IsUnhyphened (c ∷ []) = Unit {0}
IsUnhyphened (c ∷ (d ∷ ds)) = c ≢ 45

-- the ways to write an option: `--NAME`, or with a value `--NAME VALUE` or `--NAME=VALUE`
abbrev pub IsWritten : List ℕ → Option (List ℕ) → List (List ℕ) → Type 0
IsWritten name None written = written ≡ (codes "--" ++ name) ∷ []
IsWritten name (Some value) written =
    (IsUnhyphened value × (written ≡ (codes "--" ++ name) ∷ value ∷ [])) ⊎ (written ≡ (codes "--" ++ name ++ codes "=" ++ value) ∷ [])

-- A line has these words, in order, and these options, at any place. Words that begin with a hyphen may come last, after `--`.
pub data Arranged : List (List ℕ) → List GivenOption → List (List ℕ) → Type 0 where
  ends : Arranged [] [] []
  then_word : (word : List ℕ) (words : List (List ℕ)) (options : List GivenOption) (line : List (List ℕ)) → IsUnhyphened word
      → Arranged words options line → Arranged (word ∷ words) options (word ∷ line)
  then_option : (words : List (List ℕ)) (before after : List GivenOption) (option : GivenOption) (written line : List (List ℕ))
      → IsWritten option.name option.value written → Arranged words (before ++ after) line
      → Arranged words (before ++ option ∷ after) (written ++ line)
  then_hyphens : (words : List (List ℕ)) → Arranged words [] (codes "--" ∷ words)

-- each word is text in UTF-8, as the words of a call are
abbrev pub AreTexts : List (List ℕ) → Type 0
AreTexts [] = Unit {0}
AreTexts (w ∷ ws) = IsUtf8 w × AreTexts ws
