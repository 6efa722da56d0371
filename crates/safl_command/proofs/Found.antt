-- What is found for each argument of a form, by the words and the options of a line.
use Rattle.safl_command.proofs.Common.{GivenOption, Row, Rule, Text, and-false, false≢true, list_any, or-true, or_parts}
use Rattle.std.proofs.Common.{◌≡◌, ◌∙◌, ℕ, List, [], ◌∷◌, Bool, true, false, Option, Some, None, refl, sym, ap, ap₂, subst, not, ◌&&◌, ◌||◌, map, is_some}
use Rattle.std.specs.Prelude.{if◌then◌else◌, slice_get}
use Rattle.std.specs.Str.{bytes_eq}
use Rattle.clap.specs.Takes.{is_given}
use Rattle.safl_command.specs.Forms.{Argument, Name, Option as Needed, Choice, Flag, Rest}
use Rattle.safl_command.proofs.Rows.{same_text, self_text}
use Rattle.safl_command.proofs.Arranging.{among, are_distinct, named, given, given_value, is_place, words_of, AreTaken}
use Rattle.safl_command.proofs.FormValues.{id_of, is_opt, rule_at, next_place, rules_from, names_in, rest_in, is_option, Value, Values, option_at, said_at, options_of}
use Rattle.safl_command.proofs.FormValues.{IsAdded, none, one, added}
use Rattle.safl_command.proofs.FormValues.{first_once, named_other, unnamed}

-- ---- the names of a form

abbrev pub ids_of : List Argument → List Text
ids_of args = map id_of args

-- a name that the form does not have
new_name : (args : List Argument) (id : Text) → among id (ids_of args) ≡ false → (is_place id (names_in args) (rest_in args) ≡ false) × (is_option id args ≡ false)
new_name [] id h = (refl, refl)
new_name (a ∷ args) id h =
    let p : (bytes_eq (id_of a) id ≡ false) × (among id (ids_of args) ≡ false) = or_parts (bytes_eq (id_of a) id) (among id (ids_of args)) h in
    let q : (is_place id (names_in args) (rest_in args) ≡ false) × (is_option id args ≡ false) = new_name args id p.1 in
    (go a p.0 q.0, ap (λ (b : Bool). (is_opt a && b) || is_option id args) p.0 ∙ ap (λ (b : Bool). b || is_option id args) (and-false (is_opt a)) ∙ q.1)
  where
    go : (b : Argument) → bytes_eq (id_of b) id ≡ false → is_place id (names_in args) (rest_in args) ≡ false → is_place id (names_in (b ∷ args)) (rest_in (b ∷ args)) ≡ false
    go (Name n) e q = ap (λ (c : Bool). c || is_place id (names_in args) (rest_in args)) e ∙ q
    go (Rest n) e q = e
    go (Needed n) e q = q
    go (Choice n) e q = q
    go (Flag n) e q = q

-- ---- what is found

abbrev pub pick : Text → Text → List Text → List Text → List Text
pick n id here others = if bytes_eq n id then here else others

-- the words that stand at the place of an argument, or the value of its option; and the words that are left after it
abbrev pub here_at : (a : Argument) → List Text → Value a → List Text
here_at (Name n) [] x = []
here_at (Name n) (w ∷ ws) x = w ∷ []
here_at (Rest n) ws x = ws
here_at a ws x = said_at a x

abbrev pub left_by : Argument → List Text → List Text
left_by (Name n) [] = []
left_by (Name n) (w ∷ ws) = ws
left_by (Rest n) ws = []
left_by a ws = ws

-- the values of each argument
abbrev pub found : (args : List Argument) → List Text → Values args → Text → List Text
found [] ws v id = []
found (a ∷ args) ws v id = pick (id_of a) id (here_at a ws v.0) (found args (left_by a ws) v.1 id)

pick_other : (n id : Text) (here others : List Text) → bytes_eq n id ≡ false → pick n id here others ≡ others
pick_other n id here others e = ap (λ (b : Bool). if b then here else others) e

not_given : (id : Text) (os : List GivenOption) → named id os ≡ false → given id os ≡ []
not_given id [] h = refl
not_given id (o ∷ os) h =
    let p : (bytes_eq o.name id ≡ false) × (named id os ≡ false) = or_parts (bytes_eq o.name id) (named id os) h in
    pick_other o.name id (given_value o ∷ given id os) (given id os) p.0 ∙ not_given id os p.1

no_words : (id : Text) (places : List Text) (rest : Option Text) (ws : List Text) → is_place id places rest ≡ false → words_of id places rest ws ≡ []
no_words id places rest [] h = refl
no_words id [] None (w ∷ ws) h = refl
no_words id [] (Some r) (w ∷ ws) h = pick_other r id (w ∷ words_of id [] (Some r) ws) (words_of id [] (Some r) ws) h ∙ no_words id [] (Some r) ws h
no_words id (n ∷ ns) rest (w ∷ ws) h =
    let p : (bytes_eq n id ≡ false) × (is_place id ns rest ≡ false) = or_parts (bytes_eq n id) (is_place id ns rest) h in
    pick_other n id (w ∷ words_of id ns rest ws) (words_of id ns rest ws) p.0 ∙ no_words id ns rest ws p.1

all_words : (n : Text) (ws : List Text) → words_of n [] (Some n) ws ≡ ws
all_words n [] = refl
all_words n (w ∷ ws) = ap (λ (b : Bool). if b then w ∷ words_of n [] (Some n) ws else words_of n [] (Some n) ws) (self_text n) ∙ ap (λ (l : List Text). w ∷ l) (all_words n ws)

given_here : (a : Argument) (f : List GivenOption → List GivenOption) (here : List Text) → IsAdded a f here → (id : Text) (others : List GivenOption)
    → bytes_eq (id_of a) id ≡ true → named id others ≡ false → given id (f others) ≡ here
given_here a f here none id others e h = not_given id others h
given_here a f here (one value o) id others e h =
    let v : Text = given_value (record { name = id_of a; value = value }) in
    ap (λ (b : Bool). if b then v ∷ given id others else given id others) e ∙ ap (λ (l : List Text). v ∷ l) (not_given id others h)

given_other : (a : Argument) (f : List GivenOption → List GivenOption) (here : List Text) → IsAdded a f here → (id : Text) (others : List GivenOption)
    → bytes_eq (id_of a) id ≡ false → given id (f others) ≡ given id others
given_other a f here none id others e = refl
given_other a f here (one value o) id others e = pick_other (id_of a) id (given_value (record { name = id_of a; value = value }) ∷ given id others) (given id others) e

-- what is said of a name, if it is the words of its place where no option has the name, and the option's value where no place has it
module _ (id : Text) (s : List Text) where
  abbrev IsSaid : (args : List Argument) → List Text → List GivenOption → List Text → Type 0
  IsSaid args ws os what = (named id os ≡ false → s ≡ words_of id (names_in args) (rest_in args) ws) → (is_place id (names_in args) (rest_in args) ≡ false → s ≡ given id os) → s ≡ what

  -- the name is not used again
  abbrev IsLast : List Argument → List GivenOption → Type 0
  IsLast args os = (is_place id (names_in args) (rest_in args) ≡ false) × (named id os ≡ false)

  option_found : (a : Argument) (x : Value a) (args : List Argument) (os : List GivenOption) (ws later : List Text) (b : Bool) → bytes_eq (id_of a) id ≡ b → (b ≡ true → IsLast args os)
      → IsSaid args ws os later → IsSaid args ws (option_at a x os) (if b then said_at a x else later)
  option_found a x args os ws later true e own ih h k = k (own refl).0 ∙ given_here a (option_at a x) (said_at a x) (added a x) id os e (own refl).1
  option_found a x args os ws later false e own ih h k =
      ih (λ y. h (named_other a (option_at a x) (said_at a x) (added a x) id os (ap (λ (c : Bool). is_opt a && c) e ∙ and-false (is_opt a)) y))
      (λ y. k y ∙ given_other a (option_at a x) (said_at a x) (added a x) id os e)

  word_found : (n : Text) (args : List Argument) (os : List GivenOption) (ws later : List Text) (b : Bool) → bytes_eq n id ≡ b → (b ≡ true → IsLast args os)
      → IsSaid args (left_by (Name n) ws) os later → IsSaid (Name n ∷ args) ws os (if b then here_at (Name n) ws tt else later)
  word_found n args os [] later true e own ih h k = h (own refl).1
  word_found n args os (w ∷ ws) later true e own ih h k =
      let more : List Text = words_of id (names_in args) (rest_in args) ws in
      h (own refl).1 ∙ ap (λ (b : Bool). if b then w ∷ more else more) e ∙ ap (λ (l : List Text). w ∷ l) (no_words id (names_in args) (rest_in args) ws (own refl).0)
  word_found n args os [] later false e own ih h k = ih h (λ x. k (ap (λ (b : Bool). b || is_place id (names_in args) (rest_in args)) e ∙ x))
  word_found n args os (w ∷ ws) later false e own ih h k =
      let more : List Text = words_of id (names_in args) (rest_in args) ws in
      ih (λ x. h x ∙ pick_other n id (w ∷ more) more e) (λ x. k (ap (λ (b : Bool). b || is_place id (names_in args) (rest_in args)) e ∙ x))

  rest_found : (n : Text) (args : List Argument) (os : List GivenOption) (ws later : List Text) (b : Bool) → bytes_eq n id ≡ b → (b ≡ true → IsLast args os)
      → IsSaid args [] os later → IsSaid (Rest n ∷ args) ws os (if b then ws else later)
  rest_found n args os ws later true e own ih h k = h (own refl).1 ∙ ap (λ (x : Text). words_of x [] (Some n) ws) (sym (same_text n id e)) ∙ all_words n ws
  rest_found n args os ws later false e own ih h k = ih (λ x. k e ∙ not_given id os x) (λ x. k e)

  pub all_found : (args : List Argument) (ws : List Text) (v : Values args) → are_distinct (ids_of args) ≡ true → IsSaid args ws (options_of args v) (found args ws v id)
  all_found [] ws v d = λ h k. k refl
  all_found (a ∷ args) ws v d =
      let p : (among (id_of a) (ids_of args) ≡ false) × (are_distinct (ids_of args) ≡ true) = first_once (id_of a) (ids_of args) d in
      let q : (is_place (id_of a) (names_in args) (rest_in args) ≡ false) × (is_option (id_of a) args ≡ false) = new_name args (id_of a) p.0 in
      go a v.0 (bytes_eq (id_of a) id) refl
      (λ e. subst (λ (m : Text). (is_place m (names_in args) (rest_in args) ≡ false) × (named m (options_of args v.1) ≡ false)) (same_text (id_of a) id e) (q.0, unnamed args v.1 (id_of a) q.1))
      (λ us. all_found args us v.1 p.1)
    where
      os : List GivenOption
      os = options_of args v.1

      go : (c : Argument) (x : Value c) (b : Bool) → bytes_eq (id_of c) id ≡ b → (b ≡ true → IsLast args os) → ((us : List Text) → IsSaid args us os (found args us v.1 id))
          → IsSaid (c ∷ args) ws (option_at c x os) (if b then here_at c ws x else found args (left_by c ws) v.1 id)
      go (Name n) x b e own ih = word_found n args os ws (found args (left_by (Name n) ws) v.1 id) b e own (ih (left_by (Name n) ws))
      go (Rest n) x b e own ih = rest_found n args os ws (found args [] v.1 id) b e own (ih [])
      go (Needed n) x b e own ih = option_found (Needed n) x args os ws (found args ws v.1 id) b e own (ih ws)
      go (Choice n) x b e own ih = option_found (Choice n) x args os ws (found args ws v.1 id) b e own (ih ws)
      go (Flag n) x b e own ih = option_found (Flag n) x args os ws (found args ws v.1 id) b e own (ih ws)

-- ---- what is wanting

abbrev pub is_there : List Text → Bool
is_there vs = is_some (slice_get vs 0)

-- a required argument has no value
abbrev pub is_wanting : (args : List Argument) → List Text → Values args → Bool
is_wanting [] ws v = false
is_wanting (a ∷ args) ws v = ((rule_at 0 a).required && not (is_there (here_at a ws v.0))) || is_wanting args (left_by a ws) v.1

abbrev pub lacks : List Row → List Rule → Bool
lacks rows rules = list_any (λ a. a.required && not (is_given a.id rows)) rules

-- what the rows give is what is found
abbrev IsSo : List Row → List Argument → (Text → List Text) → Type 0
IsSo rows args of = (id : Text) → among id (ids_of args) ≡ true → is_given id rows ≡ is_there (of id)

pub wanting : (rows : List Row) (args : List Argument) (i : ℕ) (ws : List Text) (v : Values args) → are_distinct (ids_of args) ≡ true → IsSo rows args (found args ws v)
    → lacks rows (rules_from i args) ≡ is_wanting args ws v
wanting rows [] i ws v d h = refl
wanting rows (a ∷ args) i ws v d h =
    let p : (among (id_of a) (ids_of args) ≡ false) × (are_distinct (ids_of args) ≡ true) = first_once (id_of a) (ids_of args) d in
    ap₂ (λ (b c : Bool). b || c) (go a (here_at a ws v.0) first) (wanting rows args (next_place i a) (left_by a ws) v.1 p.1 (later p.0))
  where
    first : is_given (id_of a) rows ≡ is_there (here_at a ws v.0)
    first =
        h (id_of a) (ap (λ (b : Bool). b || among (id_of a) (ids_of args)) (self_text (id_of a)))
        ∙ ap (λ (b : Bool). is_there (if b then here_at a ws v.0 else found args (left_by a ws) v.1 (id_of a))) (self_text (id_of a))

    later : among (id_of a) (ids_of args) ≡ false → IsSo rows args (found args (left_by a ws) v.1)
    later new id there =
        h id (ap (λ (b : Bool). bytes_eq (id_of a) id || b) there ∙ or-true (bytes_eq (id_of a) id))
        ∙ ap (λ (b : Bool). is_there (if b then here_at a ws v.0 else found args (left_by a ws) v.1 id)) (other (bytes_eq (id_of a) id) refl)
      where
        other : (b : Bool) → bytes_eq (id_of a) id ≡ b → b ≡ false
        other true e = absurd (false≢true (sym new ∙ ap (λ (x : Text). among x (ids_of args)) (same_text (id_of a) id e) ∙ there))
        other false e = refl

    go : (b : Argument) (here : List Text) → is_given (id_of b) rows ≡ is_there here
        → ((rule_at i b).required && not (is_given (rule_at i b).id rows)) ≡ ((rule_at 0 b).required && not (is_there here))
    go (Name n) here e = ap not e
    go (Rest n) here e = refl
    go (Needed n) here e = ap not e
    go (Choice n) here e = refl
    go (Flag n) here e = refl

-- ---- where nothing is wanting

-- a value for each argument of a form
abbrev pub Full : List Argument → Type 0
Full [] = Unit {0}
Full (Name n ∷ args) = Text × Full args
Full (Needed n ∷ args) = Text × Full args
Full (Choice n ∷ args) = Option Text × Full args
Full (Flag n ∷ args) = Bool × Full args
Full (Rest n ∷ args) = List Text × Full args

abbrev pub words_in : (args : List Argument) → Full args → List Text
words_in [] f = []
words_in (Name n ∷ args) f = f.0 ∷ words_in args f.1
words_in (Rest n ∷ args) f = f.0
words_in (Needed n ∷ args) f = words_in args f.1
words_in (Choice n ∷ args) f = words_in args f.1
words_in (Flag n ∷ args) f = words_in args f.1

abbrev pub values_in : (args : List Argument) → Full args → Values args
values_in [] f = tt
values_in (Name n ∷ args) f = (tt, values_in args f.1)
values_in (Rest n ∷ args) f = (tt, values_in args f.1)
values_in (Needed n ∷ args) f = (Some f.0, values_in args f.1)
values_in (Choice n ∷ args) f = (f.0, values_in args f.1)
values_in (Flag n ∷ args) f = (f.0, values_in args f.1)

pub record Filled (args : List Argument) (ws : List Text) (v : Values args) : Type 0 where
  pub full : Full args
  pub words : ws ≡ words_in args full
  pub values : v ≡ values_in args full

pub fill : (args : List Argument) (ws : List Text) (v : Values args) → AreTaken (names_in args) (rest_in args) ws → is_wanting args ws v ≡ false → Filled args ws v
fill [] [] v taken h = record { full = tt; words = refl; values = refl }
fill [] (w ∷ ws) v taken h = absurd taken
fill (Name n ∷ args) [] v taken h = absurd (false≢true (sym h))
fill (Name n ∷ args) (w ∷ ws) v taken h =
    let f : Filled args ws v.1 = fill args ws v.1 taken h in
    record { full = (w, f.full); words = ap (λ (l : List Text). w ∷ l) f.words; values = ap (λ (y : Values args). (tt, y)) f.values }
fill (Needed n ∷ args) ws (None, v) taken h = absurd (false≢true (sym h))
fill (Needed n ∷ args) ws (Some x, v) taken h =
    let f : Filled args ws v = fill args ws v taken h in record { full = (x, f.full); words = f.words; values = ap (λ (y : Values args). (Some x, y)) f.values }
fill (Choice n ∷ args) ws (x, v) taken h =
    let f : Filled args ws v = fill args ws v taken h in record { full = (x, f.full); words = f.words; values = ap (λ (y : Values args). (x, y)) f.values }
fill (Flag n ∷ args) ws (x, v) taken h =
    let f : Filled args ws v = fill args ws v taken h in record { full = (x, f.full); words = f.words; values = ap (λ (y : Values args). (x, y)) f.values }
fill (Rest n ∷ args) ws v taken h =
    let f : Filled args [] v.1 = fill args [] v.1 tt h in record { full = (ws, f.full); words = refl; values = ap (λ (y : Values args). (tt, y)) f.values }

all_taken : (n : Text) (ws : List Text) → AreTaken [] (Some n) ws
all_taken n [] = tt
all_taken n (w ∷ ws) = all_taken n ws

-- no word and no option comes after the words that any number may be
abbrev pub rest_is_last : List Argument → Bool
rest_is_last [] = true
rest_is_last (Rest n ∷ []) = true
rest_is_last (Rest n ∷ (a ∷ args)) = false
rest_is_last (a ∷ args) = rest_is_last args

-- full values take all words, and none is wanting
pub full_so : (args : List Argument) (f : Full args) → rest_is_last args ≡ true
    → AreTaken (names_in args) (rest_in args) (words_in args f) × (is_wanting args (words_in args f) (values_in args f) ≡ false)
full_so [] f h = (tt, refl)
full_so (Name n ∷ args) f h = full_so args f.1 h
full_so (Needed n ∷ args) f h = full_so args f.1 h
full_so (Choice n ∷ args) f h = full_so args f.1 h
full_so (Flag n ∷ args) f h = full_so args f.1 h
full_so (Rest n ∷ []) f h = (all_taken n f.0, refl)
full_so (Rest n ∷ (a ∷ args)) f h = absurd (false≢true h)
