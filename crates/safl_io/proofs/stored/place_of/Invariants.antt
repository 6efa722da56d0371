use Rattle.std.proofs.Common.{IsNone, take}
use Rattle.safl_io.specs.Shelf.{file_of}
use Rattle.safl_io.specs.Stored.{pairs_of}
use Rattle.safl_io.proofs.stored.place_of.Given as goal

abbrev pub invariant-loop-place : goal.invariant-loop-place
invariant-loop-place l = IsNone (file_of (pairs_of (take l.place l.files)) l.name)
