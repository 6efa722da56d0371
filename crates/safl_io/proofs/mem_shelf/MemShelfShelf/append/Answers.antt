use Rattle.std.proofs.Common.{rules, ap, ◌∙◌}
use Rattle.safl_io.specs.MemShelf.{Memory}
use Rattle.safl_io.proofs.ShelfInMemory.{AppendsPart-nothing}
use Rattle.safl_io.proofs.mem_shelf.MemShelfShelf.append.Goals as goal

pub returns-in_err-append-2-clause-not_appended : goal.returns-in_err-append-2-clause-not_appended
returns-in_err-append-2-clause-not_appended c =
    let same = c.in_err-append-2.ensures.same ∙ ap (λ (shelf : Memory). shelf.files) c.self.view_is in
    let nothing = AppendsPart-nothing c.args.name.now c.args.bytes.now _ _ same in
    search (rules, nothing)
