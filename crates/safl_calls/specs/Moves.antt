-- The moves: the events other than Returns. A cycle of a circuit has at least one of them.
use Rattle.std.specs.Prelude.{ℕ, ◌+◌, List, [], ◌∷◌}
use Rattle.safl_calls.specs.Machine.{Event, Accept, Finish, Return, LoopInto}

-- 1 for an Accept, a Finish or a Loop, 0 for a Return; and the sum over a list
abbrev pub move_count : Event → ℕ
move_count (Accept k) = 1
move_count (Finish f) = 1
move_count (Return k) = 0
move_count (LoopInto h) = 1

unfoldable pub moves_count : List Event → ℕ
moves_count [] = 0
moves_count (e ∷ es) = move_count e + moves_count es
