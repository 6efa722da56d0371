-- The operands of ANDs as keys.
use Rattle.std.specs.Prelude.{ℕ, List, map, ◌++◌}
use Rattle.std.specs.Hash as fed
use Rattle.safl_aiger.specs.declared.literal.Lit.{Lit}
use Rattle.safl_bits.specs.declared.graph.Operands.{Operands}

-- the bytes that a hash takes of a pair of operands
abbrev pub operands_input : Operands → List (List ℕ)
operands_input o = fed.u32 o.low.0 ++ fed.u32 o.high.0

abbrev pub pairs : List Operands → List (Lit × Lit)
pairs os = map (λ (o : Operands). (o.low, o.high)) os
