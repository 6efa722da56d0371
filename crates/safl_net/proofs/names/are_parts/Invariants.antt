use Rattle.std.proofs.Common.{◌≡◌, drop}
use Rattle.safl_net.specs.Names.{are_parts}
use Rattle.safl_net.proofs.names.are_parts.Given as goal

abbrev pub invariant-loop-b : goal.invariant-loop-b
invariant-loop-b l = are_parts (drop l.b-index l.bytes) ≡ are_parts l.bytes
