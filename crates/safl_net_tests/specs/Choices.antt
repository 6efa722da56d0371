-- A body that chooses one of two calls, and the ports of its circuit.
use Rattle.std.specs.Prelude.{ℕ, suc, ◌≡◌, ◌+◌, [], ◌∷◌}
use Rattle.safl_term.specs.Checked.{CheckedProgram}
use Rattle.safl_net.specs.Netlist.{Netlist}
use Rattle.safl_net.specs.declared.cell.Sig.{Sig}
use Rattle.safl_lower.specs.Sources.{IsSource}
use Rattle.safl_lower.specs.Lowering.{Sited}
use Rattle.safl_lower.specs.declared.lowered.SitePorts.{SitePorts}

-- the function has one parameter, of 8 bits, and two sites, the first two of the program, whose calls give 8 bits
pub record ChoosesCall (c : CheckedProgram) (f : ℕ) : Type 0 where
  pub params : c.program.params f ≡ 8 ∷ []
  pub first : c.first_site f ≡ 1
  pub own : c.first_site f + 2 ≡ c.first_site (suc f)
  pub one : c.program.result (c.program.callee 1) ≡ 8
  pub two : c.program.result (c.program.callee 2) ≡ 8

-- the circuit of such a body may read its run bit, its parameter and both sites from these signals
pub record ArePorts (n : Netlist) (run a : Sig) (first second : SitePorts) : Type 0 where
  pub run_bit : IsSource n run 1
  pub parameter : IsSource n a 8
  pub first_site : Sited n first 8
  pub second_site : Sited n second 8
