-- Reads of one file, one after another.
use Rattle.std.proofs.Common.{◌≡◌, ◌≤◌, ◌<◌, ℕ, ◌+◌, List, [], ◌++◌, length, take, drop, Option, Some, None, IfSome, IsSomeAnd, refl, ap, sym, ◌∙◌, arith, append_assoc, length-append}
use Rattle.std.proofs.lemmas.List.{length-take-le, drop_all, append-nil}
use Rattle.safl_io.specs.Shelf.{Files, file_of, ReadsFile, ReadsFrom}
use Rattle.safl_io.specs.Reading.{HasFile, HasLonger, IsFront, IsReadSoFar}

pub read_start : (told : Option Files) (name : List ℕ) → IsReadSoFar told name []
unfolding IsReadSoFar
read_start None name = tt
read_start (Some files) name =
    let at : (file : Option (List ℕ)) → IsFront [] file = elim [ None ↦ refl | Some bytes ↦ refl ] in
    at (file_of files name)

front_more : (text buffer : List ℕ) (count : ℕ) (file : Option (List ℕ)) → count ≤ length buffer → IsFront text file → IsSomeAnd file
    (ReadsFrom (length text) count buffer) → IsFront (text ++ take count buffer) file
front_more text buffer count None within front read = absurd read
front_more text buffer count (Some bytes) within front read =
    let longer : length (text ++ take count buffer) ≡ length text + count
    = length-append text (take count buffer) ∙ ap (λ n. length text + n) (length-take-le count buffer within) in
    rw longer (front ∙ ap (λ rest. text ++ rest) read.bytes ∙ sym (append_assoc text (take count buffer) (drop (length text + count) bytes)))

pub read_more : (told : Option Files) (name text new buffer : List ℕ) (at count : ℕ) → at ≡ length text → new ≡ text ++ take count buffer → count ≤
    length buffer → IfSome told (ReadsFile name at count buffer) → IsReadSoFar told name text → IsReadSoFar told name new
unfolding IsReadSoFar
read_more None name text new buffer at count here longer within read front = tt
read_more (Some files) name text new buffer at count here longer within read front =
    rw longer (front_more text buffer count (file_of files name) within front (rw here at read))

front_end : (text buffer : List ℕ) (count : ℕ) (file : Option (List ℕ)) → count ≡ 0 → 0 < length buffer → IsFront text file → IsSomeAnd file (ReadsFrom (length text) count buffer) → file ≡ Some text
front_end text buffer count None none room front read = absurd read
front_end text buffer count (Some bytes) none room front read =
    let all : drop (length text) bytes ≡ [] = drop_all (length text) bytes (read.end room none) in
    ap Some (front ∙ ap (λ rest. text ++ rest) all ∙ append-nil text)

pub read_end : (told : Option Files) (name text new buffer : List ℕ) (at count : ℕ) → at ≡ length text → new ≡ text ++ take count buffer → 0 < length
    buffer → IfSome told (ReadsFile name at count buffer) → count ≡ 0 → IsReadSoFar told name text → IfSome told (HasFile name new)
unfolding IsReadSoFar
read_end None name text new buffer at count here longer room read none front = tt
read_end (Some files) name text new buffer at count here longer room read none front =
    let nothing : take count buffer ≡ [] = ap (λ n. take n buffer) none in
    let same : new ≡ text = longer ∙ ap (λ rest. text ++ rest) nothing ∙ append-nil text in
    rw same (front_end text buffer count (file_of files name) none room front (rw here at read))

front_longer : (text : List ℕ) (limit : ℕ) (file : Option (List ℕ)) → limit < length text → IsFront text file → IsSomeAnd file (λ bytes. limit < length bytes)
front_longer text limit None more front = absurd (omega (arith, ap length front))
front_longer text limit (Some bytes) more front = omega (arith, ap length front, length-append text (drop (length text) bytes))

pub read_longer : (told : Option Files) (name text : List ℕ) (limit : ℕ) → limit < length text → IsReadSoFar told name text → IfSome told (HasLonger name limit)
unfolding IsReadSoFar
read_longer None name text limit more front = tt
read_longer (Some files) name text limit more front = front_longer text limit (file_of files name) more front
