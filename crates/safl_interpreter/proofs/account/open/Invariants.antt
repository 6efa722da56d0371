use Rattle.std.proofs.Common.{◌≡◌, false}
use Rattle.std.proofs.Math.ListN.{replicate}
use Rattle.safl_interpreter.proofs.account.open.Given as goal

abbrev pub invariant-loop : goal.invariant-loop
invariant-loop l = l.called.items ≡ replicate l.counter false
