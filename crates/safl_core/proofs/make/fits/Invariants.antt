use Rattle.std.proofs.Common.{◌≡◌, take}
use Rattle.safl_word.specs.Words.{widths}
use Rattle.safl_core.proofs.make.fits.Given as goal

abbrev pub invariant-loop-i : goal.invariant-loop-i
invariant-loop-i l = take l.i (widths l.args) ≡ take l.i (l.c.program.params l.c.program.main)
