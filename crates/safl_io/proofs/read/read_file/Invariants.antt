use Rattle.std.proofs.Common.{◌≡◌, ◌+◌, ◌-◌, length}
use Rattle.safl_io.specs.Shelf.{IsStray, SameFiles}
use Rattle.safl_io.specs.Reading.{IsReadSoFar}
use Rattle.safl_io.proofs.read.read_file.Given as goal

abbrev pub invariant-loop-text : goal.invariant-loop-text
invariant-loop-text g l = record {
  room : length l.buffer.items ≡ 65536;
  read : IsReadSoFar (g.S.Shelf.told l.fn.shelf).holds l.fn.name l.text.items;
  quiet : (g.S.Shelf.told l.shelf).read_faults ≡ (g.S.Shelf.told l.fn.shelf).read_faults;
  same_files : SameFiles (g.S.Shelf.told l.fn.shelf) (g.S.Shelf.told l.shelf);
  same_strays : ¬ IsStray (g.S.Shelf.told l.fn.shelf).holds l.fn.name → (g.S.Shelf.told l.shelf).strays ≡ (g.S.Shelf.told l.fn.shelf).strays;
}

abbrev pub decreases-loop-text : goal.decreases-loop-text
decreases-loop-text g l = l.limit + 1 - length l.text.items
