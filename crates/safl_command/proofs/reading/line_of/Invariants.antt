use Rattle.std.proofs.Common.{◌≡◌, ◌++◌, ◌∷◌, map, drop, string_bytes, codes}
use Rattle.safl_command.proofs.reading.line_of.Given as goal

abbrev pub invariant-loop-word : goal.invariant-loop-word
invariant-loop-word l = map (λ word. word.now) l.line.items ++ map string_bytes (drop l.word-index l.words) ≡ codes "safl" ∷ map string_bytes l.words
