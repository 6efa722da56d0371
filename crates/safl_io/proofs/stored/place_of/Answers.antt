use Rattle.std.proofs.Common.{rules, ◌≡◌, ◌<◌, length, true, false, bytes_eq, string_bytes}
use Rattle.safl_io.proofs.Places.{none_more, found}
use Rattle.safl_io.proofs.stored.place_of.Goals as goal

pub loop-place-preserved : goal.loop-place-preserved
loop-place-preserved c =
    let within : c.loop-place.place < length c.args.files.now = search rules in
    let other : bytes_eq (string_bytes c.index-files-place.result.name) c.args.name.now ≡ false = cc in
    none_more _ _ _ _ within c.index-files-place.is other c.loop-place.invariant

pub returns-then-eq-clause-found : goal.returns-then-eq-clause-found
returns-then-eq-clause-found c =
    let within : c.loop-place.place < length c.args.files.now = search rules in
    let same : bytes_eq (string_bytes c.index-files-place.result.name) c.args.name.now ≡ true = cc in
    found _ _ _ _ within c.index-files-place.is same c.loop-place.invariant
