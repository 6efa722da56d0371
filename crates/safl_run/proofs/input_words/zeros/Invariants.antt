use Rattle.std.proofs.Common.{◌≡◌, take}
use Rattle.safl_run.specs.Rooms.{zeros_of}
use Rattle.safl_run.proofs.input_words.zeros.Given as goal

abbrev pub invariant-signals : goal.invariant-signals
invariant-signals l = l.words.items ≡ zeros_of (take l.i l.net.signals)
