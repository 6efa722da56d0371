-- The bit-level circuit of a netlist, and its text.
use Rattle.std.specs.Prelude.{◌≡◌, ℕ, ◌*◌, ◌≤◌, List, length, Err}
use Rattle.safl_net.specs.Netlist.{Netlist}
use Rattle.safl_aiger.specs.Circuits.{Circuit}
use Rattle.safl_aiger.specs.Reads.{AigReads}
use Rattle.safl_aiger.specs.Texts.{written_circuit}
use Rattle.safl_aig.specs.Mirrors.{SameBits}
use Rattle.safl_aig.specs.Places.{HasNames, Answers}
use Rattle.safl_aig.specs.Weights.{weight, most_weight, AllZero}
use Rattle.safl_aig.specs.declared.conversion.BlastErr.{BlastErr}

-- In every cycle, for all inputs, each bit of each register and output of the circuit is that of the netlist. Its inputs, latches and
-- outputs are named after the netlist's bits. It has at most 16 ANDs for each unit of the netlist's weight.
pub record IsBitLevel (n : Netlist) (a : Circuit) : Type 0 where
  pub same : SameBits n a
  pub named : HasNames n a
  pub few : length a.ands ≤ 16 * weight n

-- all registers of the netlist reset to 0, and its weight is within the limit
pub record IsLight (n : Netlist) : Type 0 where
  pub zero : AllZero n
  pub light : weight n ≤ most_weight

-- the text is that of a bit-level circuit of the netlist, which is one that has some, and reads as that circuit
pub record IsTextOf (n : Netlist) (text : List ℕ) : Type 0 where
  pub light : IsLight n
  pub circuit : Circuit
  pub bits : IsBitLevel n circuit
  pub is : text ≡ written_circuit circuit
  pub reads : AigReads text circuit

-- Why a netlist has no circuit: its first register that does not reset to 0; or, if all do, a weight that is too great; or, if it
-- is light, out of memory.
abbrev pub IsRefused : Netlist → BlastErr → Type 0
IsRefused n e = Answers n (Err e)
