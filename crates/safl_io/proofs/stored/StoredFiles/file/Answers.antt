use Rattle.std.proofs.Common.{◌≡◌, get_or, Some, ap, sym, ◌∙◌}
use Rattle.safl_io.specs.Stored.{IsPlace}
use Rattle.safl_io.proofs.Places.{file_at}
use Rattle.safl_io.proofs.stored.StoredFiles.file.Goals as goal

pub returns-in-Some : goal.returns-in-Some
returns-in-Some c =
    let is : IsPlace c.self.inside.files.items c.args.name.now c.in-Some.place = rw c.deref.ensures.value at c.in-Some.ensures.found in
    let value : c.deref-in-Some.result.now ≡ (get_or c.self.inside.files.items c.in-Some.place c.index.result.now).bytes.items
    = c.deref-in-Some.ensures.value ∙ ap (λ f. f.bytes.items) c.index.ensures in
    rw (← c.self.view_is) (ap Some value ∙ sym (file_at _ _ _ c.index.result.now is))
