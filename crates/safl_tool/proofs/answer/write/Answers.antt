use Rattle.std.proofs.Common.{ℕ, List, Err, refl, ap, subst}
use Rattle.safl_io.specs.Shelf.{ShelfState, Leaves, LeavesOldOrPart}
use Rattle.safl_io.specs.Told.{TellsOn}
use Rattle.safl_tool.proofs.Handing.{file_given, file_begun, only_name}
use Rattle.safl_tool.proofs.answer.write.Goals as goal

pub returns-in-Ok-clause-gives : goal.returns-in-Ok-clause-gives
returns-in-Ok-clause-gives g c = λ out asks ps qs.
    let shelf : ShelfState = g.S.Shelf.told c.args.shelf.now in
    let shelf' : ShelfState = g.S.Shelf.told c.write_file.new.shelf in
    file_given shelf shelf' out c.args.name c.args.text _ refl
    (subst (λ (text : List ℕ). TellsOn (Leaves c.args.name.now text) shelf.holds shelf'.holds) c.deref.ensures.value c.in-Ok.ensures.written)
    c.in-Ok.ensures.same_reads.reads c.in-Ok.ensures.quiet

pub returns-in-Err-Failed-clause-gives : goal.returns-in-Err-Failed-clause-gives
returns-in-Err-Failed-clause-gives g c = λ out asks ps qs.
    let shelf : ShelfState = g.S.Shelf.told c.args.shelf.now in
    let shelf' : ShelfState = g.S.Shelf.told c.write_file.new.shelf in (
      only_name c.args.name.now,
      c.in-Err-Failed.ensures.failed (ap Err c.in-Err-Failed.field-0-is),
      file_begun shelf shelf' out c.args.name c.args.text
          (subst (λ (text : List ℕ). TellsOn (LeavesOldOrPart c.args.name.now text) shelf.holds shelf'.holds) c.deref.ensures.value c.in-Err-Failed.ensures.not_written),
    )

pub returns-clause-gives : goal.returns-clause-gives
returns-clause-gives g c = λ out asks ps qs.
    let shelf : ShelfState = g.S.Shelf.told c.args.shelf.now in
    let shelf' : ShelfState = g.S.Shelf.told c.write_file.new.shelf in
    file_begun shelf shelf' out c.args.name c.args.text
    (subst (λ (text : List ℕ). TellsOn (LeavesOldOrPart c.args.name.now text) shelf.holds shelf'.holds) c.deref.ensures.value c.in-Err-NoMemory.ensures.not_written)
