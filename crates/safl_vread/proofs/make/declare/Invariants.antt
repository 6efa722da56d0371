use Rattle.safl_vread.proofs.Common.{opened, shown_declarations, signals_at}
use Rattle.std.proofs.Common.{◌≡◌, ℕ, List, [], map, take}
use Rattle.safl_vread.proofs.make.declare.Given as goal

abbrev pub invariant-loop-place : goal.invariant-loop-place
invariant-loop-place l = (ns : List ℕ) → l.net ≡ record {
  signals = map opened
      (signals_at (shown_declarations l.scope.text.now l.scope.declarations.now) l.drivers ns (take l.place-index l.order));
  outputs = [];
}
