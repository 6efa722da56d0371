use Rattle.safl_vread.proofs.Common.{partly, shown_declarations, signals_at, ◌≡◌}
use Rattle.safl_vread.proofs.make.connect.Given as goal

abbrev pub invariant-loop-i : goal.invariant-loop-i
invariant-loop-i l = l.net ≡ record { signals = partly l.i (signals_at (shown_declarations l.scope.text.now l.scope.declarations.now) l.drivers l.numbers l.order); outputs = l.initial.net.outputs }
