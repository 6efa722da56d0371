use Rattle.std.proofs.Common.{◌≡◌, ◌==◌, take, true}
use Rattle.std.specs.List.{list_all}
use Rattle.safl_session.proofs.cutting.spaces_length.Given as goal

abbrev pub invariant-loop-i : goal.invariant-loop-i
invariant-loop-i l = list_all (λ c. c == 32) (take l.i l.text) ≡ true
