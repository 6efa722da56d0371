-- The contents of the files that a command reads, as the code has them.
use Rattle.std.specs.Prelude.{ℕ, List, [], get_or}

-- the contents of the file at a place. They are empty if there is none
abbrev pub content_at : List (List ℕ) → ℕ → List ℕ
content_at contents place = get_or contents place []
