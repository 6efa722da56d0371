-- What is written of a netlist's circuit.
use Rattle.std.proofs.Common.{◌≡◌, ℕ, List, sym, subst}
use Rattle.safl_net.specs.Netlist.{Netlist}
use Rattle.safl_aiger.specs.Circuits.{Circuit, IsCircuit}
use Rattle.safl_aiger.specs.Reads.{AigReads}
use Rattle.safl_aiger.specs.TextLaws.{WrittenReads}
use Rattle.safl_aiger.specs.Texts.{written_circuit}
use Rattle.safl_aig.specs.BitLevel.{IsBitLevel, IsLight, IsTextOf}

pub text_of : WrittenReads → (n : Netlist) (a : Circuit) (text : List ℕ) → IsLight n → IsBitLevel n a → IsCircuit a → text ≡ written_circuit a → IsTextOf n text
text_of law n a text light bits is e = record { light = light; circuit = a; bits = bits; is = e; reads = subst (λ (t : List ℕ). AigReads t a) (sym e) (law a is) }
