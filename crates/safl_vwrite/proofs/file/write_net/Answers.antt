use Rattle.std.proofs.Common.{◌∙◌, sym}
use Rattle.safl_vwrite.proofs.Tearing.{tells_torn}
use Rattle.safl_vwrite.proofs.file.write_net.Goals as goal

pub returns-in-Err-Failed-clause-torn : goal.returns-in-Err-Failed-clause-torn
returns-in-Err-Failed-clause-torn g c =
    tells_torn c.args.net.now c.args.name.now c.deref.result.now (λ part rest e. c.in-Ok.ensures.torn part rest (sym c.deref.ensures.value ∙ e))
    (g.S.Shelf.told c.args.shelf.now).holds (g.S.Shelf.told c.write_file.new.shelf).holds c.in-Err-Failed.ensures.not_written

pub returns-clause-torn : goal.returns-clause-torn
returns-clause-torn g c =
    tells_torn c.args.net.now c.args.name.now c.deref.result.now (λ part rest e. c.in-Ok.ensures.torn part rest (sym c.deref.ensures.value ∙ e))
    (g.S.Shelf.told c.args.shelf.now).holds (g.S.Shelf.told c.write_file.new.shelf).holds c.in-Err-NoMemory.ensures.not_written
