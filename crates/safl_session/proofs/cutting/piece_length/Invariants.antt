use Rattle.std.proofs.Common.{◌≡◌, ◌==◌, not, take, true}
use Rattle.std.specs.List.{list_all}
use Rattle.safl_session.proofs.cutting.piece_length.Given as goal

abbrev pub invariant-loop-i : goal.invariant-loop-i
invariant-loop-i l = list_all (λ c. not (c == l.end)) (take l.i l.text) ≡ true
