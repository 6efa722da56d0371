-- Files that are read one after the other.
use Rattle.std.proofs.Common.{◌≡◌, ℕ, ◌+◌, ◌<◌, ◌≤◌, List, [], ◌∷◌, ◌++◌, map, length, take, drop, Option, Some, None, refl, sym, ap, ◌∙◌, subst, zero, suc, arith}
use Rattle.std.specs.Prelude.{IfSome, OnSome, slice_get, slice_index_or}
use Rattle.std.proofs.lemmas.List.{map_push}
use Rattle.std.specs.declared.alloc.Global.{Global}
use Rattle.std.specs.declared.vec.Vec.{Vec}
use Rattle.safl_word.proofs.Lists.{get_index, map_take_next}
use Rattle.safl_io.specs.Reading.{HasFile}
use Rattle.safl_io.specs.Shelf.{Files, ShelfState}
use Rattle.safl_io.proofs.Telling.{rose_later}
use Rattle.safl_task.specs.Inputs.{shown_input, shown_inputs, shown_contents, OnlyReads, IsUnreadAt, AreUnread}
use Rattle.safl_task.specs.Tasks.{Input, OfFile, AreContents, HoldsInputs, SameStraysWith}
use Rattle.safl_task.specs.declared.input.Input as code
use Rattle.safl_task.specs.declared.input.Unread.{Unread}
use Rattle.safl_task.specs.declared.input.Unread.TheVariants as unread

-- one more was read
pub contents_more : (holds : Option Files) (is : List Input) (cs : List (List ℕ)) (i : Input) (c : List ℕ) → AreContents holds is cs → length c ≤
    i.limit → IfSome holds (HasFile i.name c) → AreContents holds (is ++ i ∷ []) (cs ++ c ∷ [])
contents_more holds [] [] i c h small has = (small, has, tt)
contents_more holds [] (d ∷ cs) i c h small has = absurd h
contents_more holds (j ∷ is) [] i c h small has = absurd h
contents_more holds (j ∷ is) (d ∷ cs) i c h small has = (h.0, h.1, contents_more holds is cs i c h.2 small has)

-- a file that comes later is not read, after those before it were
pub unread_later : (inputs before after : List Input) (i : Input) (old mid new : ShelfState) (cs : List (List ℕ)) → inputs ≡ before ++ i ∷ after →
    AreContents old.holds before cs → mid.holds ≡ old.holds → old.read_faults ≤ mid.read_faults
    → (why : Unread) → IsUnreadAt i mid new why → AreUnread inputs old new why
unread_later inputs before after i old mid new cs is read same later (unread.Failed name) h =
    (i, record { before = before; after = after; is = is; held = (cs, read, tt) }, (h.0, rose_later old.read_faults mid.read_faults new.read_faults later h.1))
unread_later inputs before after i old mid new cs is read same later (unread.TooLong name limit) h =
    (i, record { before = before; after = after; is = is; held = (cs, read, tt) }, (h.0, h.1, subst (λ (o : Option Files). OfFile o i.name (λ bytes. i.limit < length bytes)) same h.2))
unread_later inputs before after i old mid new cs is read same later unread.NoMemory h = tt

-- one shelf after the other
pub reads_on : (old mid new : ShelfState) → OnlyReads old mid → OnlyReads mid new → OnlyReads old new
reads_on old mid new a b = record {
  files = b.files ∙ a.files;
  writes = b.writes ∙ a.writes;
  reads = (let x = a.reads in let y = b.reads in omega (arith, x, y));
}

pub reads_none : (old : ShelfState) → OnlyReads old old
reads_none old = record { files = refl; writes = refl; reads = omega arith }

-- the file of an input is held
pub held_at : (holds : Option Files) (inputs before after : List Input) (i : Input) → inputs ≡ before ++ i ∷ after → HoldsInputs holds inputs → OfFile holds i.name (λ bytes. Unit {0})
held_at holds inputs before after i is h = go before (subst (λ (l : List Input). HoldsInputs holds l) is h)
  where
    go : (before : List Input) → HoldsInputs holds (before ++ i ∷ after) → OfFile holds i.name (λ bytes. Unit {0})
    go [] h = h.0
    go (j ∷ js) h = go js h.1

-- no stray name was used, and none is used later
pub strays_on : (old mid new : ShelfState) → mid.holds ≡ old.holds → OnSome old.holds (mid.strays ≡ old.strays) → OnSome mid.holds
    (new.strays ≡ mid.strays) → OnSome old.holds (new.strays ≡ old.strays)
strays_on old mid new same a b = go old.holds a (subst (λ (o : Option Files). OnSome o (new.strays ≡ mid.strays)) same b)
  where
    go : (o : Option Files) → OnSome o (mid.strays ≡ old.strays) → OnSome o (new.strays ≡ mid.strays) → OnSome o (new.strays ≡ old.strays)
    go None a b = tt
    go (Some files) a b = b ∙ a

-- the inputs before a place, and the one there
pub split_at : {A B : Type 0} (f : A → B) (xs : List A) (i : ℕ) (x : A) → slice_get xs i ≡ Some x → map f xs ≡ map f (take i xs) ++ f x ∷ map f (drop (i + 1) xs)
split_at f [] i x e = absurd (cc)
split_at f (y ∷ xs) zero x e = let q : y ≡ x = cc in ap (λ z. f z ∷ map f xs) q
split_at f (y ∷ xs) (suc i) x e =
    ap (λ l. f y ∷ l) (split_at f xs i x e) ∙ ap (λ k. f y ∷ (map f (take i xs) ++ f x ∷ map f (drop k (y ∷ xs)))) (let z : suc (i + 1) ≡ suc i + 1 = omega arith in z)

-- ---- the input at a place

module _ (xs : List code.Input) (i : ℕ) (d : code.Input) (lt : i < length xs) (old mid : ShelfState) where
  abbrev x : code.Input
  x = slice_index_or xs i d

  is : shown_inputs xs ≡ shown_inputs (take i xs) ++ shown_input x ∷ shown_inputs (drop (i + 1) xs)
  is = split_at shown_input xs i x (get_index xs i d lt)

  -- it is not read
  pub refused_next : (new : ShelfState) (cs : List (List ℕ)) → AreContents old.holds (shown_inputs (take i xs)) cs → OnlyReads old mid →
      (why : Unread) → IsUnreadAt (shown_input x) mid new why → AreUnread (shown_inputs xs) old new why
  refused_next new cs read reads why h = unread_later (shown_inputs xs) (shown_inputs (take i xs)) (shown_inputs (drop (i + 1) xs)) (shown_input x) old mid new cs is read reads.files reads.reads why h

  -- no stray name is used
  pub strays_next : (new : ShelfState) → mid.holds ≡ old.holds → (HoldsInputs old.holds (shown_inputs xs) → OnSome old.holds (mid.strays ≡ old.strays))
      → (OfFile mid.holds x.name.now (λ bytes. Unit {0}) → OnSome mid.holds (new.strays ≡ mid.strays)) → SameStraysWith (shown_inputs xs) old new
  strays_next new same first second held =
      let here : OfFile old.holds x.name.now (λ bytes. Unit {0}) = held_at old.holds (shown_inputs xs) (shown_inputs (take i xs)) (shown_inputs (drop (i + 1) xs)) (shown_input x) is held in
      strays_on old mid new same (first held) (second (subst (λ (o : Option Files). OfFile o x.name.now (λ bytes. Unit {0})) (sym same) here))

  -- it is read
  pub contents_next : mid.holds ≡ old.holds → (contents more : List (Vec ℕ Global)) (bytes : Vec ℕ Global) → more ≡ contents ++ bytes ∷ [] →
      AreContents old.holds (shown_inputs (take i xs)) (shown_contents contents)
      → length bytes.items ≤ x.limit → IfSome mid.holds (HasFile x.name.now bytes.items) → AreContents old.holds (shown_inputs (take (i + 1) xs)) (shown_contents more)
  contents_next same contents more bytes e read small has =
      let here : IfSome old.holds (HasFile x.name.now bytes.items) = subst (λ (o : Option Files). IfSome o (HasFile x.name.now bytes.items)) same has in
      let all = contents_more old.holds (shown_inputs (take i xs)) (shown_contents contents) (shown_input x) bytes.items read small here in
      let names = map_take_next shown_input xs i x (get_index xs i d lt) in
      let texts : shown_contents more ≡ shown_contents contents ++ bytes.items ∷ [] = ap shown_contents e ∙ map_push (λ (v : Vec ℕ Global). v.items) contents bytes in
      subst (λ (l : List Input). AreContents old.holds l (shown_contents more)) (sym names) (subst (λ l. AreContents old.holds (shown_inputs (take i xs) ++ shown_input x ∷ []) l) (sym texts) all)
