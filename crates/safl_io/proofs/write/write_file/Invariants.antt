use Rattle.std.proofs.Common.{length, take, ◌-◌, ◌≡◌, ◌≤◌, OnSome}
use Rattle.safl_io.specs.Told.{TellsOn}
use Rattle.safl_io.specs.Shelf.{Leaves, SameReads}
use Rattle.safl_io.proofs.write.write_file.Given as goal

abbrev pub invariant-loop-at : goal.invariant-loop-at
invariant-loop-at g l = record {
  within : l.at ≤ length l.bytes;
  written : TellsOn (Leaves l.name (take l.at l.bytes)) (g.S.Shelf.told l.fn.shelf).holds (g.S.Shelf.told l.shelf).holds;
  quiet : (g.S.Shelf.told l.shelf).write_faults ≡ (g.S.Shelf.told l.fn.shelf).write_faults;
  same_reads : SameReads (g.S.Shelf.told l.fn.shelf) (g.S.Shelf.told l.shelf);
  same_strays : OnSome (g.S.Shelf.told l.fn.shelf).holds ((g.S.Shelf.told l.shelf).strays ≡ (g.S.Shelf.told l.fn.shelf).strays);
}

abbrev pub decreases-loop-at : goal.decreases-loop-at
decreases-loop-at g l = length l.bytes - l.at
