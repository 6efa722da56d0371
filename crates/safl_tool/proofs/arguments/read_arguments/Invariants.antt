use Rattle.std.proofs.Common.{map, string_bytes}
use Rattle.safl_tool.proofs.Reading.{ReadSoFar}
use Rattle.safl_tool.proofs.arguments.read_arguments.Given as goal

abbrev pub invariant-arguments : goal.invariant-arguments
invariant-arguments l = ReadSoFar l.widths (map string_bytes l.args) l.words.items l.i
