use Rattle.std.proofs.Common.{rules, ◌≡◌, string_bytes, IsNone}
use Rattle.safl_io.specs.Shelf.{file_of}
use Rattle.safl_io.specs.Stored.{IsPlace, pairs_of}
use Rattle.safl_io.proofs.Places.{put_at, put_last}
use Rattle.safl_io.proofs.stored.StoredFiles.put.Goals as goal

pub returns-in-Some-clause-put : goal.returns-in-Some-clause-put
returns-in-Some-clause-put c =
    let is : IsPlace c.self.inside.files.items c.args.name.now c.in-Some.place = rw c.deref.ensures.value at c.in-Some.ensures.found in
    let named : string_bytes c.in_ok-from_str.field-0 ≡ c.args.name.now = search rules in
    let holds : c.in_ok-from_slice.field-0.items ≡ c.args.bytes.now = search rules in
    rw (← c.self.view_is) (put_at _ _ _ _ _ is named holds)

pub returns-in_ok-push-in-None-clause-put : goal.returns-in_ok-push-in-None-clause-put
returns-in_ok-push-in-None-clause-put c =
    let none : IsNone (file_of (pairs_of c.self.inside.files.items) c.args.name.now) = rw c.deref.ensures.value at c.in-None.ensures.none in
    let named : string_bytes c.in_ok-from_str.field-0 ≡ c.args.name.now = search rules in
    let holds : c.in_ok-from_slice.field-0.items ≡ c.args.bytes.now = search rules in
    rw (c.in_ok-push-in-None.ensures.items, ← c.self.view_is) (put_last _ _ _ _ none named holds)
