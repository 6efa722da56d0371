use Rattle.std.proofs.Common.{◌≡◌, take}
use Rattle.safl_word.specs.Words.{widths}
use Rattle.safl_tests.proofs.meanings.words_of.Given as goal

abbrev pub invariant-params : goal.invariant-params
invariant-params l = widths l.words.items ≡ take l.i (l.c.program.params l.main)
