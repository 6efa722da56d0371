use Rattle.std.proofs.Common.{◌≡◌, ◌≤◌, length, take}
use Rattle.safl_run.specs.Rooms.{zeros_of}
use Rattle.safl_run.proofs.input_words.inputs_before.Given as goal

abbrev pub invariant-signals : goal.invariant-signals
invariant-signals l =
    record {
      count : l.count ≡ length (zeros_of (take l.i l.net.signals));
      small : l.count ≤ l.i;
    }
