use Rattle.std.proofs.Common.{◌≡◌, ◌≤◌, ◌++◌, length}
use Rattle.safl_sim.specs.Chains.{chain, numbers_of, nexts_of}
use Rattle.safl_sim.proofs.chains.Chains.append.Given as goal

abbrev pub invariant-links : goal.invariant-links
invariant-links l = record {
  known : l.at ≤ length l.self-inside.links.items;
  rest : l.out.items ++ chain (numbers_of l.self-inside.links.items) (nexts_of l.self-inside.links.items) l.at
      ≡ l.initial.out.items ++ chain (numbers_of l.self-inside.links.items) (nexts_of l.self-inside.links.items) l.initial.at;
}

abbrev pub decreases-links : goal.decreases-links
decreases-links l = l.at
