-- What is found for an argument, after uses of arguments.
use Rattle.safl_command.proofs.Common.{CommandLine, DefaultValue, Row, Rule, Text, explicit_source, false≢true, or_parts}
use Rattle.std.proofs.Common.{◌≡◌, ◌∙◌, List, [], ◌∷◌, ◌++◌, Bool, true, false, Option, Some, None, cond, refl, sym, ap, subst, ◌||◌, is_some, find, append_assoc}
use Rattle.std.specs.Prelude.{if◌then◌else◌}
use Rattle.std.specs.Str.{bytes_eq}
use Rattle.std.proofs.lemmas.Slice.Eq.{bytes_eq-Decides}
use Rattle.clap.specs.Walk.{at_row, more_values, without, has_row, reading_by, stronger}
use Rattle.clap.specs.declared.parser.matches.ValueSource.{ValueSource}
use Rattle.std.proofs.lemmas.List.{append-nil}

pub same_text : (xs ys : Text) → bytes_eq xs ys ≡ true → xs ≡ ys
same_text xs ys = (bytes_eq-Decides xs ys).0

pub self_text : (xs : Text) → bytes_eq xs xs ≡ true
self_text xs = (bytes_eq-Decides xs xs).1 refl

-- two names of which one is this text and the other is not it
pub apart_text : (x y z : Text) → bytes_eq x y ≡ false → bytes_eq x z ≡ true → bytes_eq y z ≡ false
apart_text x y z n e = go (bytes_eq y z) refl
  where
    go : (b : Bool) → bytes_eq y z ≡ b → b ≡ false
    go true h = absurd (false≢true (sym n ∙ subst (λ t. bytes_eq x t ≡ true) (same_text x z e ∙ sym (same_text y z h)) (self_text x)))
    go false h = refl

-- ---- one use

abbrev pub row_for : Rule → Text → Row
row_for a v = record { id = a.id; values = v ∷ []; count = None; source = Some CommandLine; reading = reading_by a }

abbrev pub more : Rule → Text → List Row → List Row
more a v rows = at_row a.id (more_values CommandLine (v ∷ [])) (row_for a v ∷ []) rows

abbrev pub row : Text → List Row → Option Row
row id rows = find (λ r. bytes_eq r.id id) rows

abbrev with_more : Row → Text → Row
with_more r v = record r { values = r.values ++ v ∷ []; source = Some (stronger r.source CommandLine) }

abbrev added : Bool → Rule → Text → Option Row → Option Row
added false a v o = o
added true a v None = Some (row_for a v)
added true a v (Some r) = Some (with_more r v)

module _ (id : Text) (a : Rule) (v : Text) where
  new_row : (b : Bool) → cond b (Some (row_for a v)) None ≡ added b a v None
  new_row true = refl
  new_row false = refl

  changed_row : (r : Row) (o : Option Row) (b : Bool) → cond b (Some (with_more r v)) o ≡ added b a v (cond b (Some r) o)
  changed_row r o true = refl
  changed_row r o false = refl

  passed_row : (r : Row) (o : Option Row) (b c : Bool) → (b ≡ true → c ≡ false) → cond b (Some r) (added c a v o) ≡ added c a v (cond b (Some r) o)
  passed_row r o true true h = absurd (false≢true (sym (h refl)))
  passed_row r o true false h = refl
  passed_row r o false c h = refl

  row_more : (rows : List Row) → row id (more a v rows) ≡ added (bytes_eq a.id id) a v (row id rows)
  row_more [] = new_row (bytes_eq a.id id)
  row_more (r ∷ rs) = go (bytes_eq r.id a.id) refl (row_more rs)
    where
      go : (b : Bool) → bytes_eq r.id a.id ≡ b → row id (more a v rs) ≡ added (bytes_eq a.id id) a v (row id rs)
          → row id (if b then more_values CommandLine (v ∷ []) r ++ rs else r ∷ more a v rs) ≡ added (bytes_eq a.id id) a v (row id (r ∷ rs))
      go true e ih =
          changed_row r (row id rs) (bytes_eq r.id id)
          ∙ ap (λ (t : Text). added (bytes_eq t id) a v (cond (bytes_eq r.id id) (Some r) (row id rs))) (same_text r.id a.id e)
      go false e ih =
          ap (λ (o : Option Row). cond (bytes_eq r.id id) (Some r) o) ih
          ∙ passed_row r (row id rs) (bytes_eq r.id id) (bytes_eq a.id id) (apart_text r.id a.id id e)

-- ---- whether there is a row

pub has_found : (id : Text) (rows : List Row) → has_row id rows ≡ is_some (row id rows)
has_found id [] = refl
has_found id (r ∷ rs) = go (bytes_eq r.id id) (has_found id rs)
  where
    go : (b : Bool) → has_row id rs ≡ is_some (row id rs) → (b || has_row id rs) ≡ is_some (cond b (Some r) (row id rs))
    go true h = refl
    go false h = h

added_some : (b : Bool) (a : Rule) (v : Text) (o : Option Row) → is_some (added b a v o) ≡ (b || is_some o)
added_some false a v o = refl
added_some true a v None = refl
added_some true a v (Some r) = refl

pub has_more : (id : Text) (a : Rule) (v : Text) (rows : List Row) → has_row id (more a v rows) ≡ (bytes_eq a.id id || has_row id rows)
has_more id a v rows =
    has_found id (more a v rows) ∙ ap is_some (row_more id a v rows) ∙ added_some (bytes_eq a.id id) a v (row id rows)
    ∙ ap (λ (b : Bool). bytes_eq a.id id || b) (sym (has_found id rows))

-- an argument that has no row is not taken away
pub without_none : (id : Text) (rows : List Row) → has_row id rows ≡ false → without id rows ≡ rows
without_none id [] h = refl
without_none id (r ∷ rs) h =
    let p : (bytes_eq r.id id ≡ false) × (has_row id rs ≡ false) = or_parts (bytes_eq r.id id) (has_row id rs) h in
    ap (λ (b : Bool). if b then [] ++ rs else r ∷ without id rs) p.0 ∙ ap (λ (l : List Row). r ∷ l) (without_none id rs p.1)

-- ---- all uses

abbrev pub pour : List (Rule × Text) → List Row → List Row
pour [] rows = rows
pour (u ∷ us) rows = pour us (more u.0 u.1 rows)

-- the values that the uses give for an argument
abbrev pub said : Text → List (Rule × Text) → List Text
said id [] = []
said id (u ∷ us) = if bytes_eq u.0.id id then u.1 ∷ said id us else said id us

abbrev pub IsSomething : List Text → Type 0
IsSomething [] = ⊥
IsSomething (v ∷ vs) = Unit {0}

-- a row has these values, from the command line; and there is none where there are no values
abbrev pub Shows : Option Row → List Text → Type 0
Shows None vs = vs ≡ []
Shows (Some r) vs = (r.values ≡ vs) × (explicit_source r.source ≡ true) × IsSomething vs

explicit_still : (o : Option ValueSource) → explicit_source (Some (stronger o CommandLine)) ≡ true
explicit_still None = refl
explicit_still (Some CommandLine) = refl
explicit_still (Some DefaultValue) = refl

something_more : (vs : List Text) (v : Text) → IsSomething (vs ++ v ∷ [])
something_more [] v = tt
something_more (x ∷ xs) v = tt

shows_added : (b : Bool) (a : Rule) (v : Text) (o : Option Row) (vs : List Text) → Shows o vs → Shows (added b a v o) (if b then vs ++ v ∷ [] else vs)
shows_added false a v o vs h = h
shows_added true a v None vs h = (ap (λ (l : List Text). l ++ v ∷ []) (sym h), refl, something_more vs v)
shows_added true a v (Some r) vs h = (ap (λ (l : List Text). l ++ v ∷ []) h.0, explicit_still r.source, something_more vs v)

pub shows_poured : (id : Text) (us : List (Rule × Text)) (rows : List Row) (vs : List Text) → Shows (row id rows) vs → Shows (row id (pour us rows)) (vs ++ said id us)
shows_poured id [] rows vs h = subst (λ (l : List Text). Shows (row id rows) l) (sym (append-nil vs)) h
shows_poured id (u ∷ us) rows vs h =
    go (bytes_eq u.0.id id)
    (shows_poured id us (more u.0 u.1 rows) (if bytes_eq u.0.id id then vs ++ u.1 ∷ [] else vs)
    (subst (λ (o : Option Row). Shows o (if bytes_eq u.0.id id then vs ++ u.1 ∷ [] else vs)) (sym (row_more id u.0 u.1 rows)) (shows_added (bytes_eq u.0.id id) u.0 u.1 (row id rows) vs h)))
  where
    go : (b : Bool) → Shows (row id (pour (u ∷ us) rows)) ((if b then vs ++ u.1 ∷ [] else vs) ++ said id us)
        → Shows (row id (pour (u ∷ us) rows)) (vs ++ (if b then u.1 ∷ said id us else said id us))
    go true k = subst (λ (l : List Text). Shows (row id (pour (u ∷ us) rows)) l) (append_assoc vs (u.1 ∷ []) (said id us)) k
    go false k = k
