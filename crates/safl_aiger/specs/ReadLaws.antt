-- The laws of reading.
use Rattle.std.specs.Prelude.{◌≡◌, ◌⊎◌, ℕ, List}
use Rattle.safl_aiger.specs.declared.reading.AigRule.{AigRule}
use Rattle.safl_aiger.specs.Circuits.{Circuit, IsCircuit}
use Rattle.safl_aiger.specs.Reads.{AigReads, HasAigFault}

-- what a text reads as is a circuit: its literals and names are as they have to be
abbrev pub ReadIsCircuit : Type 0
ReadIsCircuit = (text : List ℕ) (a : Circuit) → AigReads text a → IsCircuit a

-- a text reads as at most one circuit
abbrev pub OneReading : Type 0
OneReading = (text : List ℕ) (a b : Circuit) → AigReads text a → AigReads text b → a ≡ b

-- a text has at most one first fault
abbrev pub OneFault : Type 0
OneFault = (text : List ℕ) (e d : AigRule) (n m : ℕ) → HasAigFault text e n → HasAigFault text d m → (e ≡ d) × (n ≡ m)

-- a text that reads as a circuit has no fault
abbrev pub NoFault : Type 0
NoFault = (text : List ℕ) (a : Circuit) (e : AigRule) (n : ℕ) → AigReads text a → ¬ (HasAigFault text e n)

-- every text reads as a circuit or has a fault
abbrev pub ReadsOrFails : Type 0
ReadsOrFails =
    (text : List ℕ) → ((a : Circuit) × AigReads text a) ⊎ ((e : AigRule) × (n : ℕ) × HasAigFault text e n)
