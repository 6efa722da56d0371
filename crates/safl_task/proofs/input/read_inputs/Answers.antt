use Rattle.std.proofs.Common.{◌∙◌}
use Rattle.safl_io.specs.Shelf.{ShelfState}
use Rattle.safl_task.specs.Inputs.{shown_contents}
use Rattle.safl_task.proofs.Reading.{refused_next, strays_next, contents_next, reads_on}
use Rattle.safl_task.proofs.input.read_inputs.Goals as goal

pub returns-in-Err-clause-refused : goal.returns-in-Err-clause-refused
returns-in-Err-clause-refused g c =
    let old : ShelfState = g.S.Shelf.told c.args.shelf.now in
    let mid : ShelfState = g.S.Shelf.told c.inputs.shelf in
    let new : ShelfState = g.S.Shelf.told c.read_input.new.shelf in
    refused_next c.args.inputs.now c.inputs.i _ c.inputs-test.true old mid new (shown_contents c.inputs.contents.items) c.inputs.invariant.read
    c.inputs.invariant.only_reads c.in-Err.unread c.in-Err.ensures.refused

pub returns-in-Err-clause-no_stray : goal.returns-in-Err-clause-no_stray
returns-in-Err-clause-no_stray g c =
    let old : ShelfState = g.S.Shelf.told c.args.shelf.now in
    let mid : ShelfState = g.S.Shelf.told c.inputs.shelf in
    let new : ShelfState = g.S.Shelf.told c.read_input.new.shelf in
    strays_next c.args.inputs.now c.inputs.i _ c.inputs-test.true old mid new c.inputs.invariant.only_reads.files c.inputs.invariant.no_stray c.in-Err.ensures.no_stray

pub inputs-preserved : goal.inputs-preserved
inputs-preserved g c =
    let old : ShelfState = g.S.Shelf.told c.args.shelf.now in
    let mid : ShelfState = g.S.Shelf.told c.inputs.shelf in
    let new : ShelfState = g.S.Shelf.told c.read_input.new.shelf in
    record {
      read = contents_next c.args.inputs.now c.inputs.i _ c.inputs-test.true old mid c.inputs.invariant.only_reads.files c.inputs.contents.items
          c.push.new.self.items c.in-Ok.bytes c.in-Ok-push.ensures.items c.inputs.invariant.read c.in-Ok.ensures.small c.in-Ok.ensures.read;
      quiet = c.in-Ok.ensures.quiet ∙ c.inputs.invariant.quiet;
      only_reads = reads_on old mid new c.inputs.invariant.only_reads c.in-Ok.ensures.only_reads;
      no_stray = strays_next c.args.inputs.now c.inputs.i _ c.inputs-test.true old mid new c.inputs.invariant.only_reads.files c.inputs.invariant.no_stray c.in-Ok.ensures.no_stray;
    }
