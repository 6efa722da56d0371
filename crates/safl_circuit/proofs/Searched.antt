-- What the equations search among the functions and sites, by name.
use Rattle.safl_circuit.proofs.Common.{Choice, Program, Word, unit_for}
use Rattle.std.proofs.Common.{ℕ, List, Option, Some, None, cond, not, ◌==◌, ◌&&◌}
use Rattle.std.specs.Prelude.{is_some}
use Rattle.safl_circuit.specs.Equations.{Registers, Inputs, end_word, loop_words, go, go_words, starts_it}

-- the functions of f's unit other than f
abbrev pub other_than : Program → ℕ → ℕ → Option ℕ
other_than C f g = cond (C.unit g == C.unit f && not (g == f)) (Some g) None

-- in unit u: the word of function f if it ends, the function f if it is looped to, the site k if it starts the unit; and the
-- arguments of site k if it starts f
abbrev pub end_in : Program → Choice → Registers → ℕ → ℕ → Option Word
end_in C P r u f = cond (C.unit f == u) (end_word C P r f) None

abbrev pub loop_in : Program → Choice → Registers → ℕ → ℕ → Option ℕ
loop_in C P r u h = cond (C.unit h == u && is_some (loop_words C P r h)) (Some h) None

abbrev pub go_in : Program → Choice → Registers → Inputs → ℕ → ℕ → Option ℕ
go_in C P r i u k = cond (unit_for C k == u && go C P r i k) (Some k) None

abbrev pub load_in : Program → Choice → Registers → Inputs → ℕ → ℕ → Option (List Word)
load_in C P r i f k = cond (C.callee k == f) (go_words C P r i k) None

-- the function g of f's unit other than f, if one starts it
abbrev pub if_other : Program → Choice → Registers → Inputs → ℕ → ℕ → Option ℕ
if_other C P r i f g = cond (C.unit g == C.unit f && (not (g == f) && starts_it C P r i g)) (Some g) None
