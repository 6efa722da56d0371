-- The result of `optimise`.
use Rattle.safl_net.specs.Netlist.{Netlist, AllSet}
use Rattle.safl_net.specs.Names.{IsTidy}
use Rattle.safl_net.specs.Valuations.{IsAcyclic}
use Rattle.safl_net.specs.Whole.{IsWhole}
use Rattle.safl_net.specs.Mirrors.{Alike, Mirrors, IsLaidOut}
use Rattle.safl_opt.specs.Lean.{Lean}
use Rattle.safl_net.specs.MirrorRuns.{RunsAlike}

-- The new net has everything of the old one but temporary wires, in the same order, and the same numbers, cycle by cycle and run
-- by run. It is lean.
pub record IsSmaller (n m : Netlist) : Type 0 where
  pub alike : Alike n m
  pub mirrors : Mirrors n m
  pub runs : RunsAlike n m
  pub laid_out : IsLaidOut m
  pub tidy : IsTidy m
  pub set : AllSet m
  pub acyclic : IsAcyclic m
  pub whole : IsWhole n → IsWhole m
  pub lean : Lean m
