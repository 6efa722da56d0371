-- The law of written texts.
use Rattle.std.specs.Prelude.{◌≡◌, ◌∷◌, ◌++◌}
use Rattle.safl_aiger.specs.Circuits.{Circuit, variables, IsCircuit}
use Rattle.safl_aiger.specs.Lines.{text_lines}
use Rattle.safl_aiger.specs.Texts.{header_line, body_text, symbol_lines, written_circuit}
use Rattle.safl_aiger.specs.Reads.{IsHeader, AreGood, counts_of, line_kinds, body_numbers, AigReads}

-- the header and the body of a written circuit read as those of the circuit
pub record BodyReads (a : Circuit) : Type 0 where
  pub lines_are : text_lines (written_circuit a) ≡ header_line a ∷ (body_text a ++ symbol_lines a)
  pub header : IsHeader (header_line a) (counts_of a)
  pub good : AreGood (variables a) (line_kinds (counts_of a)) (body_text a) (body_numbers a)

-- the text that is written for a circuit reads as that circuit
abbrev pub WrittenReads : Type 0
WrittenReads = (a : Circuit) → IsCircuit a → AigReads (written_circuit a) a
