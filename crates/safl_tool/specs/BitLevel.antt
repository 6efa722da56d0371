-- Bit-level circuits of netlists in Verilog files, and of AIGER files.
use Rattle.std.specs.Prelude.{◌≡◌, ℕ, ◌<◌, ◌⊎◌, List, true, ◌++◌, codes}
use Rattle.std.specs.Fmt.{decimal}
use Rattle.safl_net.specs.Netlist.{Netlist}
use Rattle.safl_net.specs.Making.{name_at}
use Rattle.safl_aiger.specs.Circuits.{Circuit}
use Rattle.safl_aiger.specs.Rules.{aig_rule_text}
use Rattle.safl_aiger.specs.Reads.{AigReads, HasAigFault}
use Rattle.safl_aiger.specs.declared.reading.AigRule.{AigRule}
use Rattle.safl_aig.specs.Weights.{weight, most_weight, AllZero, IsLeastNonzero}
use Rattle.safl_aig.specs.BitLevel.{IsLight, IsTextOf}
use Rattle.safl_aig.specs.Lines.{counts_lines}
use Rattle.safl_tool.specs.Running.{IsRunnable, IsUnrunnable}
use Rattle.safl_task.specs.Tasks.{Given, only_prints, only_writes}
use Rattle.safl_task.specs.declared.status.Status.{Status}
use Rattle.safl_task.specs.declared.status.Status.TheVariants as status

-- ---- from a Verilog file to an AIGER file

-- the text of a Verilog file reads as a netlist without a loop, and the other text is that of its bit-level circuit
abbrev pub IsConverted : List ℕ → List ℕ → Type 0
IsConverted verilog text = (n : Netlist) × IsRunnable verilog n × IsTextOf n text

-- `aig` gives such a text for a Verilog file
abbrev pub GivesBits : List ℕ → Given → Type 0
GivesBits verilog g = (text : List ℕ) × IsConverted verilog text × (g ≡ only_writes text)

-- the line names the first register that does not reset to 0; or, if all do, it says that the weight is too great
pub data RefusesNetlist (n : Netlist) (s : Status) (line : List ℕ) : Type 0 where
  nonzero : (r : ℕ) → IsLeastNonzero n r → s ≡ status.NotZero → line ≡ codes "register " ++ name_at n r ++ codes " does not reset to 0\n"
      → RefusesNetlist n s line
  heavy : AllZero n → most_weight < weight n → s ≡ status.CircuitTooLarge
      → line ≡ codes "circuit too large: weight " ++ decimal (weight n) ++ codes "\n" → RefusesNetlist n s line

-- the Verilog file with this name reads as no netlist without a loop, or its netlist is refused
abbrev pub RefusesBitsOf : List ℕ → List ℕ → Status → List ℕ → Type 0
RefusesBitsOf name text s line =
    ((s ≡ status.VerilogRefused) × IsUnrunnable name text line) ⊎ ((n : Netlist) × IsRunnable text n × RefusesNetlist n s line)

-- the text reads as a netlist without a loop, of a weight within the limit, all of whose registers reset to 0
abbrev pub HasBits : List ℕ → Type 0
HasBits text = (n : Netlist) × IsRunnable text n × IsLight n

-- ---- AIGER files

-- `aigstat` gives the counts of the circuit that the text reads as
abbrev pub GivesCounts : List ℕ → Given → Type 0
GivesCounts text g = (a : Circuit) × AigReads text a × (g ≡ only_prints true (counts_lines a))

-- the AIGER file with this name has a first fault, which the line reports
abbrev pub RefusesAig : List ℕ → List ℕ → Status → List ℕ → Type 0
RefusesAig name text s line = (s ≡ status.AigRefused) × (e : AigRule) × (n : ℕ) × HasAigFault text e n
    × (line ≡ name ++ codes ":" ++ decimal n ++ codes ": " ++ aig_rule_text e ++ codes "\n")

-- the text reads as a circuit
abbrev pub IsAig : List ℕ → Type 0
IsAig text = (a : Circuit) × AigReads text a
