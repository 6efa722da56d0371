use Rattle.safl_vwrite.proofs.Common.{flat_map, register_declaration, take, ◌++◌, ◌≡◌}
use Rattle.safl_vwrite.proofs.declarations.declare_registers.Given as goal

abbrev pub invariant-loop-i : goal.invariant-loop-i
invariant-loop-i l = l.out.items ≡ l.fn.out.items ++ flat_map register_declaration (take l.i l.net.signals)
