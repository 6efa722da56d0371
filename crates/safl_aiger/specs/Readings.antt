-- The errors of reading a text.
use Rattle.std.specs.Prelude.{ℕ, List}
use Rattle.safl_aiger.specs.declared.read.AigErr.{AigErr}
use Rattle.safl_aiger.specs.declared.read.AigErr.TheVariants.{Refused, NoMemory}
use Rattle.safl_aiger.specs.Reads.{HasAigFault}

-- the error is the text's first fault, or out of memory
abbrev pub HasThatFault : List ℕ → AigErr → Type 0
HasThatFault text (Refused e n) = HasAigFault text e n
HasThatFault text NoMemory = Unit {0}
