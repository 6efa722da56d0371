use Rattle.std.proofs.Common.{rules, ◌≡◌, ◌++◌, get_or, string_bytes, refl, ap, ◌∙◌}
use Rattle.safl_io.specs.Stored.{IsPlace}
use Rattle.safl_io.proofs.Places.{append_at, same_at}
use Rattle.safl_io.proofs.stored.StoredFiles.append.Goals as goal

pub returns-in_err-extend_from_slice-clause-same : goal.returns-in_err-extend_from_slice-clause-same
returns-in_err-extend_from_slice-clause-same c =
    let same = same_at c.self.inside.files.items c.unwrap-place.result c.index_mut.result.now
    (record { name = c.index_mut.result.now.name; bytes = c.extend_from_slice.new.self })
    refl c.in_err-extend_from_slice.ensures.items c.index_mut.ensures.value in
    let all = same ∙ c.self.view_is in
    search (rules, all)

pub returns-clause-appended : goal.returns-clause-appended
returns-clause-appended c =
    let is : IsPlace c.self.inside.files.items c.args.name.now c.unwrap-place.result = rw (c.unwrap-place.ensures, c.deref.ensures.value) at c.place_of.ensures.found in
    let item : c.index_mut.result.now ≡ get_or c.self.inside.files.items c.unwrap-place.result c.index_mut.result.now = c.index_mut.ensures.value in
    rw (← c.self.view_is) (append_at _ _ _ _ c.index_mut.result.now _ is
    (ap (λ f. string_bytes f.name) item ∙ is.named _)
    (c.in_ok-extend_from_slice.ensures.items ∙ ap (λ f. f.bytes.items ++ c.args.bytes.now) item))
