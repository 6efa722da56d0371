use Rattle.std.proofs.Common.{◌≡◌, ◌==◌, not, take, true}
use Rattle.std.specs.List.{list_all}
use Rattle.safl_vparse.proofs.numbers.quote_at.Given as goal

abbrev pub invariant-loop-i : goal.invariant-loop-i
invariant-loop-i l = list_all (λ c. not (c == 39)) (take l.i l.bytes) ≡ true
