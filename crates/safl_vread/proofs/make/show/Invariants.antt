use Rattle.safl_vparse.specs.Shown.{shown_declaration}
use Rattle.safl_vread.proofs.Outputs.{Shows}
use Rattle.safl_vread.proofs.make.show.Given as goal

abbrev pub invariant-loop-i : goal.invariant-loop-i
invariant-loop-i l = Shows l.numbers (shown_declaration l.scope.text.now) l.scope.declarations.now l.drivers l.initial.net l.net l.i
