-- The laws of nets that mirror a circuit.
use Rattle.safl_term.specs.Program.{Program}
use Rattle.safl_net.specs.Netlist.{Netlist, AllSet}
use Rattle.safl_net.specs.Names.{IsTidy}
use Rattle.safl_net.specs.Rules.{IsNetlist}
use Rattle.safl_net.specs.Valuations.{IsAcyclic}
use Rattle.safl_sites.specs.Plan.{Choice}
use Rattle.safl_term.specs.Names.{Names}
use Rattle.safl_circuit.specs.Layout.{HasPlan}
use Rattle.safl_circuit.specs.Scheme.{Scheme}
use Rattle.safl_net.specs.Mirrors.{Alike, Mirrors, IsLaidOut}

-- two nets, the second of which mirrors the first
pub record AreMirrors (n m : Netlist) : Type 0 where
  pub old : IsNetlist n
  pub new : IsNetlist m
  pub old_tidy : IsTidy n
  pub new_tidy : IsTidy m
  pub whole : AllSet m
  pub acyclic : IsAcyclic m
  pub laid_out : IsLaidOut m
  pub alike : Alike n m
  pub mirrors : Mirrors n m

-- a net that mirrors one with the scheme of a circuit has that scheme
abbrev pub MirrorsKeepSchemes : Type 0
MirrorsKeepSchemes = (C : Program) (D : Names) (P : Choice) (n m : Netlist) → AreMirrors n m → Scheme C D P n → Scheme C D P m

-- a net that mirrors one with the registers and wires of a plan has these too
abbrev pub MirrorsKeepPlans : Type 0
MirrorsKeepPlans = (C : Program) (D : Names) (P : Choice) (n m : Netlist) → AreMirrors n m → HasPlan C D P n → HasPlan C D P m
