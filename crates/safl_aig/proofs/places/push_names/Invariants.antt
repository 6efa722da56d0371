use Rattle.std.proofs.Common.{◌≡◌, ◌++◌}
use Rattle.safl_aiger.specs.Circuits.{names_of}
use Rattle.safl_aig.specs.Places.{bit_names}
use Rattle.safl_aig.proofs.places.push_names.Given as goal

abbrev pub invariant-loop-bit : goal.invariant-loop-bit
invariant-loop-bit l = names_of l.all.items ≡ names_of l.initial.all.items ++ bit_names l.name l.bit
