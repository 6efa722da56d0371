-- Stored files, and the place of a name among them.
use Rattle.std.proofs.Common.{◌≡◌, ◌<◌, ℕ, ◌+◌, List, [], ◌∷◌, ◌++◌, length, take, set, get_or, bytes_eq, string_bytes, true, false, Some, IsNone, ap, sym, ◌∙◌}
use Rattle.std.proofs.lemmas.List.{take_more, map-append, map-set, take-map, get_or-map, length-map, get_or_default}
use Rattle.std.proofs.Math.Seq.{map-set_same}
use Rattle.std.proofs.lemmas.Slice.Eq.{bytes_eq-Decides}
use Rattle.safl_io.specs.Shelf.{file_of, Leaves, Appends}
use Rattle.safl_io.specs.Stored.{pairs_of, IsPlace}
use Rattle.safl_io.specs.declared.stored.StoredFile.{StoredFile}
use Rattle.safl_io.proofs.Files.{none-push, Leaves-push, Leaves-set, file_of-place}

abbrev pair_of : StoredFile → List ℕ × List ℕ
pair_of file = (string_bytes file.name, file.bytes.items)

-- one more file has another name
pub none_more : (files : List StoredFile) (name : List ℕ) (place : ℕ) (file : StoredFile) → place < length files → file ≡ get_or files place file →
    bytes_eq (string_bytes file.name) name ≡ false → IsNone (file_of (pairs_of (take place files)) name) → IsNone (file_of (pairs_of (take (place + 1) files)) name)
none_more files name place file within here other none =
    let more : pairs_of (take (place + 1) files) ≡ pairs_of (take place files) ++ pair_of file ∷ []
    = ap pairs_of (take_more files place file within) ∙ map-append pair_of (take place files) (get_or files place file ∷ []) ∙ ap
    (λ last. pairs_of (take place files) ++ pair_of last ∷ []) (sym here) in
    rw more (none-push (pairs_of (take place files)) (pair_of file) name none other)

pub found : (files : List StoredFile) (name : List ℕ) (place : ℕ) (file : StoredFile) → place < length files → file ≡ get_or files place file →
    bytes_eq (string_bytes file.name) name ≡ true → IsNone (file_of (pairs_of (take place files)) name) → IsPlace files name place
found files name place file within here same none = record {
  within = within;
  named = λ other.
      let one : get_or files place other ≡ file = get_or_default files place other file within ∙ sym here in
      ap (λ f. string_bytes f.name) one ∙ (bytes_eq-Decides (string_bytes file.name) name).0 same;
  first = none;
}

-- what Files asks of a place
place_within : (files : List StoredFile) (name : List ℕ) (place : ℕ) → IsPlace files name place → place < length (pairs_of files)
place_within files name place is = rw length-map is.within

place_pair : (files : List StoredFile) (place : ℕ) (d : StoredFile) → place < length files → get_or (pairs_of files) place (pair_of d) ≡ pair_of (get_or files place d)
place_pair files place d within = get_or-map pair_of files place d (pair_of d) within

place_first : (files : List StoredFile) (name : List ℕ) (place : ℕ) → IsPlace files name place → IsNone (file_of (take place (pairs_of files)) name)
place_first files name place is = rw take-map is.first

pub file_at : (files : List StoredFile) (name : List ℕ) (place : ℕ) (d : StoredFile) → IsPlace files name place → file_of (pairs_of files) name ≡ Some (get_or files place d).bytes.items
file_at files name place d is =
    let pair = place_pair files place d is.within in
    file_of-place (pairs_of files) place name (pair_of d) (place_within files name place is) (ap (λ p. p.0) pair ∙ is.named d) (place_first files name place is)
    ∙ ap (λ p. Some p.1) pair

pub put_at : (files : List StoredFile) (name bytes : List ℕ) (place : ℕ) (file : StoredFile) → IsPlace files name place → string_bytes file.name ≡
    name → file.bytes.items ≡ bytes → Leaves name bytes (pairs_of files) (pairs_of (set files place file))
put_at files name bytes place file is named holds =
    let pair = place_pair files place file is.within in
    let left = Leaves-set (pairs_of files) place name bytes (pair_of file) (place_within files name place is) (ap (λ p. p.0) pair ∙ is.named file) (place_first files name place is) in
    let same : (name, bytes) ≡ pair_of file = cc in
    let after : set (pairs_of files) place (name, bytes) ≡ pairs_of (set files place file) = ap (λ p. set (pairs_of files) place p) same ∙ sym (map-set pair_of files place file) in
    rw after at left

pub put_last : (files : List StoredFile) (name bytes : List ℕ) (file : StoredFile) → IsNone (file_of (pairs_of files) name) → string_bytes file.name ≡
    name → file.bytes.items ≡ bytes → Leaves name bytes (pairs_of files) (pairs_of (files ++ file ∷ []))
put_last files name bytes file none named holds =
    let same : (name, bytes) ≡ pair_of file = cc in
    let after : pairs_of files ++ (name, bytes) ∷ [] ≡ pairs_of (files ++ file ∷ []) = ap (λ p. pairs_of files ++ p ∷ []) same ∙ sym (map-append pair_of files (file ∷ [])) in
    rw after at (Leaves-push (pairs_of files) name bytes none)

pub append_at : (files : List StoredFile) (name more : List ℕ) (place : ℕ) (d file : StoredFile) → IsPlace files name place → string_bytes file.name ≡
    name → file.bytes.items ≡ (get_or files place d).bytes.items ++ more → Appends name more (pairs_of files) (pairs_of (set files place file))
append_at files name more place d file is named holds =
    let left = put_at files name ((get_or files place d).bytes.items ++ more) place file is named holds in
    record { file = rw (file_at files name place d is) left.file; others = left.others }

-- a file is replaced by one that shows the same
pub same_at : (files : List StoredFile) (place : ℕ) (d file : StoredFile) → string_bytes file.name ≡ string_bytes d.name → file.bytes.items ≡
    d.bytes.items → d ≡ get_or files place d → pairs_of (set files place file) ≡ pairs_of files
same_at files place d file name bytes here =
    let same : pair_of file ≡ pair_of d = cc in
    map-set_same pair_of files place file d (same ∙ ap pair_of here)
