use Rattle.std.proofs.Common.{◌≡◌, take}
use Rattle.safl_task.specs.Inputs.{shown_inputs, shown_contents, OnlyReads}
use Rattle.safl_task.specs.Tasks.{AreContents, SameStraysWith}
use Rattle.safl_task.proofs.input.read_inputs.Given as goal

abbrev pub invariant-inputs : goal.invariant-inputs
invariant-inputs g l = record {
  read : AreContents (g.S.Shelf.told l.fn.shelf).holds (shown_inputs (take l.i l.inputs)) (shown_contents l.contents.items);
  quiet : (g.S.Shelf.told l.shelf).read_faults ≡ (g.S.Shelf.told l.fn.shelf).read_faults;
  only_reads : OnlyReads (g.S.Shelf.told l.fn.shelf) (g.S.Shelf.told l.shelf);
  no_stray : SameStraysWith (shown_inputs l.inputs) (g.S.Shelf.told l.fn.shelf) (g.S.Shelf.told l.shelf);
}
