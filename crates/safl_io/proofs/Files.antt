-- The file of a name in a list of pairs that changes.
use Rattle.std.proofs.Common.{◌≡◌, ◌≢◌, ℕ, zero, suc, ◌<◌, List, [], ◌∷◌, ◌++◌, length, take, set, get_or, bytes_eq, if◌then◌else◌, Bool, true, false, Option, Some, IsNone, refl, ap, sym, ◌∙◌, arith}
use Rattle.std.proofs.lemmas.Slice.Eq.{bytes_eq-Decides}
use Rattle.std.proofs.lemmas.Bool.{false_from_ne_true}
use Rattle.std.proofs.lemmas.List.{set-get_or}
use Rattle.safl_word.proofs.Lists.{bytes_same}
use Rattle.safl_io.specs.Shelf.{Files, file_of, Leaves}

eq_other : (pair other : List ℕ) → other ≢ pair → bytes_eq pair other ≡ false
eq_other pair other ne = false_from_ne_true _ (λ same. ne (sym ((bytes_eq-Decides pair other).0 same)))

-- the pair at the front has that name
pub file_of-here : (pair : List ℕ × List ℕ) (files : Files) (name : List ℕ) → pair.0 ≡ name → file_of (pair ∷ files) name ≡ Some pair.1
file_of-here pair files name same = rw (bytes_same pair.0 name same) refl

-- the pair at the front has another name
pub file_of-past : (pair : List ℕ × List ℕ) (files : Files) (name : List ℕ) → name ≢ pair.0 → file_of (pair ∷ files) name ≡ file_of files name
file_of-past pair files name ne = rw (eq_other pair.0 name ne) refl

none_or : (b : Bool) (bytes : List ℕ) (before after : Option (List ℕ)) → (IsNone before → IsNone after) → IsNone (if b then Some bytes else before) → IsNone (if b then Some bytes else after)
none_or true bytes before after so none = none
none_or false bytes before after so none = so none

some_or : (b : Bool) (bytes had : List ℕ) (before after : Option (List ℕ)) → (IsNone before → after ≡ Some bytes) → IsNone
    (if b then Some had else before) → (if b then Some had else after) ≡ Some bytes
some_or true bytes had before after so none = cc
some_or false bytes had before after so none = so none

-- a pair at the end that has another name
pub none-push : (files : Files) (pair : List ℕ × List ℕ) (name : List ℕ) → IsNone (file_of files name) → bytes_eq pair.0 name ≡ false → IsNone (file_of (files ++ pair ∷ []) name)
none-push [] pair name none other = rw other refl
none-push (first ∷ files) pair name none other =
    none_or (bytes_eq first.0 name) first.1 (file_of files name) (file_of (files ++ pair ∷ []) name) (λ rest. none-push files pair name rest other) none

-- a pair at the end that has a new name
pub push-here : (files : Files) (pair : List ℕ × List ℕ) (name : List ℕ) → IsNone (file_of files name) → pair.0 ≡ name → file_of (files ++ pair ∷ []) name ≡ Some pair.1
push-here [] pair name none same = file_of-here pair [] name same
push-here (first ∷ files) pair name none same =
    some_or (bytes_eq first.0 name) pair.1 first.1 (file_of files name) (file_of (files ++ pair ∷ []) name) (λ rest. push-here files pair name rest same) none

push-others : (files : Files) (pair : List ℕ × List ℕ) (other : List ℕ) → other ≢ pair.0 → file_of (files ++ pair ∷ []) other ≡ file_of files other
push-others [] pair other ne = file_of-past pair [] other ne
push-others (first ∷ files) pair other ne = ap (λ rest. if bytes_eq first.0 other then Some first.1 else rest) (push-others files pair other ne)

-- the first pair with a name is replaced
pub set-here : (files : Files) (place : ℕ) (pair : List ℕ × List ℕ) (name : List ℕ) → place < length files → IsNone (file_of (take place files) name)
    → pair.0 ≡ name → file_of (set files place pair) name ≡ Some pair.1
set-here [] place pair name within first same = absurd (omega arith)
set-here (head ∷ files) zero pair name within first same = file_of-here pair files name same
set-here (head ∷ files) (suc place) pair name within first same =
    some_or (bytes_eq head.0 name) pair.1 head.1 (file_of (take place files) name) (file_of (set files place pair) name) (λ rest. set-here files place pair name (omega arith) rest same) first

set-others : (files : Files) (place : ℕ) (pair d : List ℕ × List ℕ) (other : List ℕ) → other ≢ pair.0 → (get_or files place d).0 ≡ pair.0 → file_of (set files place pair) other ≡ file_of files other
set-others [] place pair d other ne same = refl
set-others (head ∷ files) zero pair d other ne same =
    file_of-past pair files other ne ∙ sym (file_of-past head files other (λ e. ne (e ∙ same)))
set-others (head ∷ files) (suc place) pair d other ne same =
    ap (λ rest. if bytes_eq head.0 other then Some head.1 else rest) (set-others files place pair d other ne same)

pub Leaves-push : (files : Files) (name bytes : List ℕ) → IsNone (file_of files name) → Leaves name bytes files (files ++ (name, bytes) ∷ [])
Leaves-push files name bytes none = record {
  file = push-here files (name, bytes) name none refl;
  others = push-others files (name, bytes);
}

pub Leaves-set : (files : Files) (place : ℕ) (name bytes : List ℕ) (d : List ℕ × List ℕ) → place < length files → (get_or files place d).0 ≡ name →
    IsNone (file_of (take place files) name) → Leaves name bytes files (set files place (name, bytes))
Leaves-set files place name bytes d within named first = record {
  file = set-here files place (name, bytes) name within first refl;
  others = λ other ne. set-others files place (name, bytes) d other ne named;
}

-- the first pair with a name is the file
pub file_of-place : (files : Files) (place : ℕ) (name : List ℕ) (d : List ℕ × List ℕ) → place < length files → (get_or files place d).0 ≡ name →
    IsNone (file_of (take place files) name) → file_of files name ≡ Some (get_or files place d).1
file_of-place files place name d within named first =
    rw set-get_or at (set-here files place (get_or files place d) name within first named)
