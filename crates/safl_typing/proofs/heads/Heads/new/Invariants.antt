use Rattle.safl_typing.specs.Named.{KeepsNames}
use Rattle.safl_typing.proofs.heads.Heads.new.Given as goal

abbrev pub invariant-loop-number : goal.invariant-loop-number
invariant-loop-number l = KeepsNames l.last.entries l.before.items l.list.items l.number
