-- The laws of nets and bit-level circuits.
use Rattle.safl_net.specs.Netlist.{Netlist}
use Rattle.safl_aiger.specs.Circuits.{Circuit}
use Rattle.safl_aig.specs.Mirrors.{Mirrors, SameBits}

abbrev pub MirrorLaw : Type 0
MirrorLaw = (n : Netlist) (a : Circuit) → Mirrors n a → SameBits n a
