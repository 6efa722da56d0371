-- Words that are added one after another, and their widths.
use Rattle.std.proofs.Common.{◌≡◌, ℕ, ◌-◌, List, [], ◌∷◌, ◌++◌, refl, sym, ap, ◌∙◌}
use Rattle.safl_word.specs.Words.{Word, widths}
use Rattle.safl_term.specs.Checked.{CheckedProgram}
use Rattle.safl_term.proofs.HeldByChecked.{main_is_last}

pub widths_push : (xs : List Word) (w : Word) → widths (xs ++ w ∷ []) ≡ widths xs ++ w.width ∷ []
widths_push [] w = refl
widths_push (x ∷ xs) w = ap (λ (l : List ℕ). x.width ∷ l) (widths_push xs w)

-- main is the last function
pub last_function : (c : CheckedProgram) (k : ℕ) → k ≡ c.program.functions → k - 1 ≡ c.program.main
last_function c k e = ap (λ (x : ℕ). x - 1) e ∙ sym (main_is_last c)
