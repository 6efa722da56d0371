-- The laws of Verilog files.
use Rattle.std.specs.Prelude.{◌≡◌, ℕ, List, [], ◌++◌, ◌⊎◌, codes}
use Rattle.safl_net.specs.Netlist.{Netlist}
use Rattle.safl_net.specs.Arranged.{IsInOrder}
use Rattle.safl_net.specs.Rules.{IsNetlist}
use Rattle.safl_net.specs.Whole.{IsWhole}
use Rattle.safl_net.specs.Written.{written}
use Rattle.safl_verilog.specs.declared.fault.VFault.{VFault}
use Rattle.safl_verilog.specs.Tokens.{VerilogTerminal}
use Rattle.safl_verilog.specs.Files.{File}
use Rattle.safl_verilog.specs.Reads.{IsFile, Reads, HasFault}

abbrev pub OneNetlist : Type 0
OneNetlist = (text : List ℕ) (n m : Netlist) → Reads text n → Reads text m → n ≡ m

abbrev pub OneFault : Type 0
OneFault = (text : List ℕ) (f g : VFault) → HasFault text f → HasFault text g → f ≡ g

abbrev pub NetlistOrFault : Type 0
NetlistOrFault = (text : List ℕ) → ((n : Netlist) × Reads text n) ⊎ ((f : VFault) × HasFault text f)

abbrev pub NotBoth : Type 0
NotBoth = (text : List ℕ) (n : Netlist) (f : VFault) → Reads text n → HasFault text f → ⊥

-- no proper prefix of a file is a file
abbrev pub NoShorterFile : Type 0
NoShorterFile = (u v : List VerilogTerminal) (a b : File) → IsFile u a → IsFile (u ++ v) b → v ≡ []

-- the inputs of a netlist that is read come first, then its registers, then its wires
abbrev pub ReadsInOrder : Type 0
ReadsInOrder = (text : List ℕ) (n : Netlist) → Reads text n → IsInOrder n

-- a netlist that is read is whole: its registers and wires are set, and it has the ports of every circuit
abbrev pub ReadsWhole : Type 0
ReadsWhole = (text : List ℕ) (n : Netlist) → Reads text n → IsWhole n

-- the text that is written for a whole net reads as that net, if its signals are in this order
abbrev pub WrittenReads : Type 0
WrittenReads = (n : Netlist) → IsNetlist n → IsWhole n → IsInOrder n → Reads (written n) n

-- a prefix of the text that is written for any net reads as no netlist, unless it is the whole text, with or without its last
-- line feed
abbrev pub NoShorterText : Type 0
NoShorterText = (n m : Netlist) (part rest : List ℕ) → IsNetlist n → written n ≡ part ++ rest → Reads part m → (rest ≡ []) ⊎ (rest ≡ codes "\n")
