use Rattle.std.specs.Prelude.{◌==◌}
use Rattle.safl_typing.proofs.FunctionsByName.{bound, IsSought}
use Rattle.safl_typing.proofs.heads.find_member.Given as goal

-- it falls to the function before it
abbrev pub decreases-loop-at : goal.decreases-loop-at
decreases-loop-at l = bound l.at

abbrev pub invariant-loop-at : goal.invariant-loop-at
invariant-loop-at l = IsSought (λ u. u == l.unit) l.name l.heads l.at l.found
