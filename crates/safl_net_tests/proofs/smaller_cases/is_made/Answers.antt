use Rattle.safl_net_tests.proofs.smaller_cases.is_made.Goals as goal

pub is_lean_net-requires : goal.is_lean_net-requires
is_lean_net-requires c = c.in-Ok.ensures.smaller.acyclic
