-- The laws of the meaning of programs.
use Rattle.std.specs.Prelude.{◌≡◌, ℕ, List, ◌↔◌}
use Rattle.safl_word.specs.Words.{Word, IsWord}
use Rattle.safl_term.specs.Program.{Program}
use Rattle.safl_term.specs.Meaning.{Main, main_cost, main_calls, loops}
use Rattle.safl_term.specs.Fuel.{GivesInCalls}
use Rattle.safl_term.specs.WellFormed.{AreWordsOf}

-- the meaning by derivations and the meaning by a function agree
abbrev pub OneAnswer : Program → Type 0
OneAnswer C = (args : List Word) (v : Word) (n : ℕ) → GivesInCalls C args v n ↔ ((d : Main C args v) × (main_cost C args d ≡ n))

-- main gives at most one word, in one number of calls
abbrev pub OnePair : Program → Type 0
OnePair C = (args : List Word) (v w : Word) (m n : ℕ) → GivesInCalls C args v m → GivesInCalls C args w n → (v ≡ w) × (m ≡ n)

-- all evaluations of main on the same arguments give one word, by equally many applications and equally many loops, and apply
-- each function to the same argument lists
abbrev pub OneEvaluation : Program → Type 0
OneEvaluation C =
    (args : List Word) (v w : Word) (d : Main C args v) (e : Main C args w)
    → (v ≡ w) × (main_cost C args d ≡ main_cost C args e) × (loops C d ≡ loops C e) × ((f : ℕ) → main_calls C args d f ≡ main_calls C args e f)

-- on words of the widths of its parameters, main gives a word of its width
abbrev pub GivesWords : Program → Type 0
GivesWords C = (args : List Word) (v : Word) → AreWordsOf args (C.params C.main) → Main C args v → IsWord v × (v.width ≡ C.result C.main)
