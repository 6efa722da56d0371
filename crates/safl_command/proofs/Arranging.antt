-- What a command reads from a line whose words and options are arranged in any way.
use Rattle.safl_command.proofs.Common.{Row, Rule, Shape, Text, list_any, or-true, usize_max}
use Rattle.std.proofs.Common.{◌≡◌, ◌∙◌, ℕ, ◌+◌, min, List, [], ◌∷◌, ◌++◌, Bool, true, false, Option, Some, None, inl, inr, refl, sym, ap, subst, codes, not, ◌&&◌, ◌||◌}
use Rattle.std.specs.Prelude.{if◌then◌else◌, unwrap_or}
use Rattle.std.specs.Str.{bytes_eq}
use Rattle.std.proofs.lemmas.Bool.{false≢true, and_parts, not-true, or_parts}
use Rattle.clap.specs.Walk.{Walk, Waiting, idle, positional, arg_by_id, arg_by_index, has_row}
use Rattle.safl_command.specs.Arranged.{GivenOption, IsWritten, Arranged, ends, then_word, then_option, then_hyphens}
use Rattle.safl_command.proofs.Rows.{more, has_more, same_text, self_text, apart_text, pour, said}
use Rattle.safl_command.proofs.Uses.{valued, flagged, placed, rest_placed, Adds, adds_valued, adds_flagged, adds_placed, adds_rest}
use Rattle.safl_command.proofs.Stepping.{IsRead, read_none, unhyphened_no_flag}
use Rattle.safl_command.proofs.Walking.{at, held, IsOpen, IsPlaced, IsLong, Calm, calm_pending, calm_used, placed_read, rest_read, hyphens_read, waits_read, value_read, joined_read, flag_read}

-- ---- names that are used once

abbrev pub among : Text → List Text → Bool
among id names = list_any (λ n. bytes_eq n id) names

abbrev pub are_distinct : List Text → Bool
are_distinct [] = true
are_distinct (n ∷ ns) = not (among n ns) && are_distinct ns

flipped : (x y : Text) → bytes_eq x y ≡ false → bytes_eq y x ≡ false
flipped x y h = go (bytes_eq y x) refl
  where
    go : (b : Bool) → bytes_eq y x ≡ b → b ≡ false
    go true e = absurd (false≢true (sym h ∙ subst (λ t. bytes_eq x t ≡ true) (sym (same_text y x e)) (self_text x)))
    go false e = refl

-- the second list is the first without x
pub data Without (x : Text) : List Text → List Text → Type 0 where
  here : (l : List Text) → Without x (x ∷ l) l
  later : (y : Text) (l m : List Text) → Without x l m → Without x (y ∷ l) (y ∷ m)

pub away : (x : Text) (l m : List Text) → Without x l m → (y : Text) → among y l ≡ false → (bytes_eq x y ≡ false) × (among y m ≡ false)
away x l m (here k) y h = or_parts (bytes_eq x y) (among y k) h
away x l m (later z k j w) y h =
    let p : (bytes_eq z y ≡ false) × (among y k ≡ false) = or_parts (bytes_eq z y) (among y k) h in
    let q : (bytes_eq x y ≡ false) × (among y j ≡ false) = away x k j w y p.1 in
    (q.0, ap (λ (b : Bool). b || among y j) p.0 ∙ q.1)

pub still_among : (x : Text) (l m : List Text) → Without x l m → (y : Text) → among y m ≡ true → among y l ≡ true
still_among x l m w y h = go (among y l) refl
  where
    go : (b : Bool) → among y l ≡ b → b ≡ true
    go true e = refl
    go false e = absurd (false≢true (sym (away x l m w y e).1 ∙ h))

pub gone : (x : Text) (l m : List Text) → Without x l m → are_distinct l ≡ true → among x m ≡ false
gone x l m (here k) h = not-true (among x k) (and_parts (not (among x k)) (are_distinct k) h).0
gone x l m (later z k j w) h =
    let p : (not (among z k) ≡ true) × (are_distinct k ≡ true) = and_parts (not (among z k)) (are_distinct k) h in
    let q : bytes_eq x z ≡ false = (away x k j w z (not-true (among z k) p.0)).0 in
    ap (λ (b : Bool). b || among x j) (flipped x z q) ∙ gone x k j w p.1

pub distinct_still : (x : Text) (l m : List Text) → Without x l m → are_distinct l ≡ true → are_distinct m ≡ true
distinct_still x l m (here k) h = (and_parts (not (among x k)) (are_distinct k) h).1
distinct_still x l m (later z k j w) h =
    let p : (not (among z k) ≡ true) × (are_distinct k ≡ true) = and_parts (not (among z k)) (are_distinct k) h in
    ap (λ (b : Bool). not b && are_distinct j) (away x k j w z (not-true (among z k) p.0)).1 ∙ distinct_still x k j w p.1

-- ---- what is said of an argument

abbrev pub named : Text → List GivenOption → Bool
named id os = list_any (λ o. bytes_eq o.name id) os

abbrev pub given_value : GivenOption → Text
given_value o = unwrap_or o.value (codes "true")

abbrev pub given : Text → List GivenOption → List Text
given id [] = []
given id (o ∷ os) = if bytes_eq o.name id then given_value o ∷ given id os else given id os

abbrev pub is_rest : Text → Option Text → Bool
is_rest id None = false
is_rest id (Some r) = bytes_eq r id

abbrev pub is_place : Text → List Text → Option Text → Bool
is_place id [] rest = is_rest id rest
is_place id (n ∷ ns) rest = bytes_eq n id || is_place id ns rest

abbrev pub words_of : Text → List Text → Option Text → List Text → List Text
words_of id places rest [] = []
words_of id [] None (w ∷ ws) = []
words_of id [] (Some r) (w ∷ ws) = if bytes_eq r id then w ∷ words_of id [] (Some r) ws else words_of id [] (Some r) ws
words_of id (n ∷ ns) rest (w ∷ ws) = if bytes_eq n id then w ∷ words_of id ns rest ws else words_of id ns rest ws

-- there is a place for each word
abbrev pub AreTaken : List Text → Option Text → List Text → Type 0
AreTaken places rest [] = Unit {0}
AreTaken [] None (w ∷ ws) = ⊥
AreTaken [] (Some r) (w ∷ ws) = AreTaken [] (Some r) ws
AreTaken (n ∷ ns) rest (w ∷ ws) = AreTaken ns rest ws

-- the names of the options to come, and of the places
abbrev pub ids : List GivenOption → List Text → List Text
ids [] places = places
ids (o ∷ os) places = o.name ∷ ids os places

option_gone : (before after : List GivenOption) (o : GivenOption) (places : List Text) → Without o.name (ids (before ++ o ∷ after) places) (ids (before ++ after) places)
option_gone [] after o places = here (ids after places)
option_gone (b ∷ bs) after o places = later b.name (ids (bs ++ o ∷ after) places) (ids (bs ++ after) places) (option_gone bs after o places)

pub place_gone : (os : List GivenOption) (n : Text) (places : List Text) → Without n (ids os (n ∷ places)) (ids os places)
place_gone [] n places = here places
place_gone (o ∷ os) n places = later o.name (ids os (n ∷ places)) (ids os places) (place_gone os n places)

pub named_middle : (id : Text) (before after : List GivenOption) (o : GivenOption) → named id (before ++ o ∷ after) ≡ false → (bytes_eq o.name id ≡ false) × (named id (before ++ after) ≡ false)
named_middle id [] after o h = or_parts (bytes_eq o.name id) (named id after) h
named_middle id (b ∷ bs) after o h =
    let p : (bytes_eq b.name id ≡ false) × (named id (bs ++ o ∷ after) ≡ false) = or_parts (bytes_eq b.name id) (named id (bs ++ o ∷ after)) h in
    let q : (bytes_eq o.name id ≡ false) × (named id (bs ++ after) ≡ false) = named_middle id bs after o p.1 in
    (q.0, ap (λ (c : Bool). c || named id (bs ++ after)) p.0 ∙ q.1)

-- what the names before the option are not
named_before : (before after : List GivenOption) (o : GivenOption) (places : List Text) → among o.name (ids (before ++ after) places) ≡ false → named o.name before ≡ false
named_before [] after o places h = refl
named_before (b ∷ bs) after o places h =
    let p : (bytes_eq b.name o.name ≡ false) × (among o.name (ids (bs ++ after) places) ≡ false) = or_parts (bytes_eq b.name o.name) (among o.name (ids (bs ++ after) places)) h in
    ap (λ (c : Bool). c || named o.name bs) p.0 ∙ named_before bs after o places p.1

given_middle : (id : Text) (before after : List GivenOption) (o : GivenOption) → named o.name before ≡ false
    → (if bytes_eq o.name id then given_value o ∷ given id (before ++ after) else given id (before ++ after)) ≡ given id (before ++ o ∷ after)
given_middle id [] after o h = refl
given_middle id (b ∷ bs) after o h =
    let p : (bytes_eq b.name o.name ≡ false) × (named o.name bs ≡ false) = or_parts (bytes_eq b.name o.name) (named o.name bs) h in
    go (bytes_eq b.name id) (bytes_eq o.name id) (λ e. apart_text b.name o.name id p.0 e) (given id (bs ++ after))
    ∙ ap (λ (l : List Text). if bytes_eq b.name id then given_value b ∷ l else l) (given_middle id bs after o p.1)
  where
    go : (c d : Bool) → (c ≡ true → d ≡ false) → (l : List Text)
        → (if d then given_value o ∷ (if c then given_value b ∷ l else l) else (if c then given_value b ∷ l else l))
        ≡ (if c then given_value b ∷ (if d then given_value o ∷ l else l) else (if d then given_value o ∷ l else l))
    go true true h l = absurd (false≢true (sym (h refl)))
    go true false h l = refl
    go false d h l = refl

-- ---- what a command declares

module _ (s : Shape) where
  pub record IsFlag (name : Text) : Type 0 where
    pub is : IsLong s (45 ∷ 45 ∷ name) name None (flagged name)

  pub record IsValued (required : Bool) (name : Text) : Type 0 where
    pub apart : IsLong s (45 ∷ 45 ∷ name) name None (valued required name)
    pub joined : (v : Text) → IsLong s (codes "--" ++ name ++ codes "=" ++ v) name (Some v) (valued required name)
    pub by_id : arg_by_id s.rules name ≡ Some (valued required name)
    pub self : bytes_eq name name ≡ true

  abbrev pub IsDeclared : Text → Option Text → Type 0
  IsDeclared name None = IsFlag name
  IsDeclared name (Some v) = (required : Bool) × IsValued required name

  abbrev pub AreDeclared : List GivenOption → Type 0
  AreDeclared [] = Unit {0}
  AreDeclared (o ∷ os) = IsDeclared o.name o.value × AreDeclared os

  declared_middle : (before after : List GivenOption) (o : GivenOption) → AreDeclared (before ++ o ∷ after) → IsDeclared o.name o.value × AreDeclared (before ++ after)
  declared_middle [] after o h = h
  declared_middle (b ∷ bs) after o h = let p : IsDeclared o.name o.value × AreDeclared (bs ++ after) = declared_middle bs after o h.1 in (p.0, (h.0, p.1))

  pub record IsPlace (position : ℕ) (id : Text) : Type 0 where
    pub by_index : arg_by_index s.rules position ≡ Some (placed position id)
    pub by_id : arg_by_id s.rules id ≡ Some (placed position id)

  pub record IsRest (position : ℕ) (id : Text) : Type 0 where
    pub by_index : arg_by_index s.rules position ≡ Some (rest_placed position id)
    pub by_id : arg_by_id s.rules id ≡ Some (rest_placed position id)

  abbrev pub ArePlaces : ℕ → List Text → Option Text → Type 0
  ArePlaces position [] None = arg_by_index s.rules position ≡ None
  ArePlaces position [] (Some id) = IsRest position id
  ArePlaces position (id ∷ more) rest = IsPlace position id × ArePlaces (min (position + 1) usize_max) more rest

  abbrev pub IsNotAmong : Option Text → List Text → Type 0
  IsNotAmong None names = Unit {0}
  IsNotAmong (Some r) names = among r names ≡ false

  -- before a word or an option, with these rows
  pub record Ready (sum : List Row) (position : ℕ) (os : List GivenOption) (places : List Text) (rest : Option Text) : Type 0 where
    pub declared : AreDeclared os
    pub are_places : ArePlaces position places rest
    pub distinct : are_distinct (ids os places) ≡ true
    pub new : (id : Text) → among id (ids os places) ≡ true → has_row id sum ≡ false
    pub other : IsNotAmong rest (ids os places)

  not_among_still : (x : Text) (l m : List Text) → Without x l m → (rest : Option Text) → IsNotAmong rest l → IsNotAmong rest m
  not_among_still x l m w None h = tt
  not_among_still x l m w (Some r) h = (away x l m w r h).1

  -- other names stay new
  pub still_new : (x : Text) (names : List Text) (a : Rule) (v : Text) (sum : List Row) → a.id ≡ x → among x names ≡ false → ((id : Text) → among id names ≡ true → has_row id sum ≡ false)
      → (id : Text) → among id names ≡ true → has_row id (more a v sum) ≡ false
  still_new x names a v sum is away_so new id h =
      has_more id a v sum
      ∙ ap (λ (t : Text). bytes_eq t id || has_row id sum) is
      ∙ ap (λ (b : Bool). b || has_row id sum) (go (bytes_eq x id) refl)
      ∙ new id h
    where
      go : (b : Bool) → bytes_eq x id ≡ b → b ≡ false
      go true e = absurd (false≢true (sym (subst (λ t. among t names ≡ false) (same_text x id e) away_so) ∙ h))
      go false e = refl

  pub self_among : (x : Text) (l m : List Text) → Without x l m → among x l ≡ true
  self_among x l m (here k) = ap (λ (b : Bool). b || among x k) (self_text x)
  self_among x l m (later y k j w) = ap (λ (b : Bool). bytes_eq y x || b) (self_among x k j w) ∙ or-true (bytes_eq y x)

  -- ---- what is read

  pub record IsReadSo (w : Walk) (line : List Text) (sum : List Row) (os : List GivenOption) (places : List Text) (rest : Option Text) (ws : List Text) : Type 0 where
    pub uses : List (Rule × Text)
    pub end : Walk
    pub read : IsRead s w line end
    pub calm : Calm s end.held (pour uses sum)
    pub words : (id : Text) → named id os ≡ false → said id uses ≡ words_of id places rest ws
    pub options : (id : Text) → is_place id places rest ≡ false → said id uses ≡ given id os

  module _ (rows : List Row) (pending : Option (Text × List Text)) (waiting : Waiting) (position : ℕ) (sum : List Row) (open_so : IsOpen waiting) (calm : Calm s (held rows pending) sum) where
    pub nothing_read : (after_hyphens : Bool) (places : List Text) (rest : Option Text) → IsReadSo (at rows pending waiting position after_hyphens) [] sum [] places rest []
    nothing_read after_hyphens places rest = record {
      uses = [];
      end = at rows pending waiting position after_hyphens;
      read = read_none s (at rows pending waiting position after_hyphens);
      calm = calm;
      words = λ id h. refl;
      options = λ id h. refl;
    }

    -- a word
    pub record WordStep (after_hyphens : Bool) (word : Text) (os : List GivenOption) (places : List Text) (rest : Option Text) (ws : List Text) : Type 0 where
      pub a : Rule
      pub pending_then : Option (Text × List Text)
      pub waiting_then : Waiting
      pub position_then : ℕ
      pub places_then : List Text
      pub open_then : IsOpen waiting_then
      pub calm_then : Calm s (held sum pending_then) (more a word sum)
      pub ready_then : Ready (more a word sum) position_then os places_then rest
      pub taken_then : AreTaken places_then rest ws
      pub goes : (line : List Text) (end : Walk) → IsRead s (at sum pending_then waiting_then position_then after_hyphens) line end
          → IsRead s (at rows pending waiting position after_hyphens) (word ∷ line) end
      pub words_then : (id : Text) → (if bytes_eq a.id id then word ∷ words_of id places_then rest ws else words_of id places_then rest ws) ≡ words_of id places rest (word ∷ ws)
      pub other_then : (id : Text) → is_place id places rest ≡ false → (bytes_eq a.id id ≡ false) × (is_place id places_then rest ≡ false)
      pub taken_back : (us : List Text) → AreTaken places_then rest us → AreTaken places rest (word ∷ us)
      pub fewer : (id : Text) → among id places_then ≡ true → among id places ≡ true

    pub word_step : (after_hyphens : Bool) (word : Text) → IsPlaced word after_hyphens
        → (os : List GivenOption) (places : List Text) (rest : Option Text) (ws : List Text) → Ready sum position os places rest → AreTaken places rest (word ∷ ws)
        → WordStep after_hyphens word os places rest ws
    word_step after_hyphens word plain_so os [] None ws ready taken = absurd taken
    word_step after_hyphens word plain_so os [] (Some r) ws ready taken =
        let p : IsRest position r = ready.are_places in
        let a : Rule = rest_placed position r in
        record {
          a = a;
          pending_then = Some (r, word ∷ []);
          waiting_then = positional;
          position_then = position;
          places_then = [];
          open_then = tt;
          calm_then = calm_pending s sum a (word ∷ []) word p.by_id (adds_rest s.args_override_self r word sum position);
          ready_then = record {
            declared = ready.declared;
            are_places = p;
            distinct = ready.distinct;
            new = still_new r (ids os []) a word sum refl ready.other ready.new;
            other = ready.other;
          };
          taken_then = taken;
          goes = λ line end k. rest_read s rows pending waiting position sum open_so calm line end word after_hyphens position r plain_so p.by_index k;
          words_then = λ id. refl;
          other_then = λ id h. (h, h);
          taken_back = λ us h. h;
          fewer = λ id h. h;
        }
    word_step after_hyphens word plain_so os (n ∷ ns) rest ws ready taken =
        let p : IsPlace position n = ready.are_places.0 in
        let a : Rule = placed position n in
        let w : Without n (ids os (n ∷ ns)) (ids os ns) = place_gone os n ns in
        let there : among n (ids os (n ∷ ns)) ≡ true = self_among n (ids os (n ∷ ns)) (ids os ns) w in
        record {
          a = a;
          pending_then = Some (n, word ∷ []);
          waiting_then = idle;
          position_then = min (position + 1) usize_max;
          places_then = ns;
          open_then = tt;
          calm_then = calm_pending s sum a (word ∷ []) word p.by_id (adds_placed s.args_override_self n word sum position (ready.new n there));
          ready_then = record {
            declared = ready.declared;
            are_places = ready.are_places.1;
            distinct = distinct_still n (ids os (n ∷ ns)) (ids os ns) w ready.distinct;
            new = still_new n (ids os ns) a word sum refl (gone n (ids os (n ∷ ns)) (ids os ns) w ready.distinct)
                (λ id h. ready.new id (still_among n (ids os (n ∷ ns)) (ids os ns) w id h));
            other = not_among_still n (ids os (n ∷ ns)) (ids os ns) w rest ready.other;
          };
          taken_then = taken;
          goes = λ line end k. placed_read s rows pending waiting position sum open_so calm line end word after_hyphens position n plain_so p.by_index k;
          words_then = λ id. refl;
          other_then = λ id h. or_parts (bytes_eq n id) (is_place id ns rest) h;
          taken_back = λ us h. h;
          fewer = λ id h. ap (λ (b : Bool). bytes_eq n id || b) h ∙ or-true (bytes_eq n id);
        }

    after_word : (after_hyphens : Bool) (word : Text) (line : List Text) (os : List GivenOption) (places : List Text) (rest : Option Text) (ws : List Text)
        → (t : WordStep after_hyphens word os places rest ws)
        → IsReadSo (at sum t.pending_then t.waiting_then t.position_then after_hyphens) line (more t.a word sum) os t.places_then rest ws
        → IsReadSo (at rows pending waiting position after_hyphens) (word ∷ line) sum os places rest (word ∷ ws)
    after_word after_hyphens word line os places rest ws t k = record {
      uses = (t.a, word) ∷ k.uses;
      end = k.end;
      read = t.goes line k.end k.read;
      calm = k.calm;
      words = λ id h. ap (λ (l : List Text). if bytes_eq t.a.id id then word ∷ l else l) (k.words id h) ∙ t.words_then id;
      options = λ id h.
          let p : (bytes_eq t.a.id id ≡ false) × (is_place id t.places_then rest ≡ false) = t.other_then id h in
          ap (λ (b : Bool). if b then word ∷ said id k.uses else said id k.uses) p.0 ∙ k.options id p.1;
    }

    -- an option
    pub record OptionStep (name value : Text) (written : List Text) : Type 0 where
      pub a : Rule
      pub is : a.id ≡ name
      pub rows_then : List Row
      pub pending_then : Option (Text × List Text)
      pub calm_then : Calm s (held rows_then pending_then) (more a value sum)
      pub goes : (line : List Text) (end : Walk) → IsRead s (at rows_then pending_then idle position false) line end
          → IsRead s (at rows pending waiting position false) (written ++ line) end

    pub option_step : (name : Text) (value : Option Text) (written : List Text) → IsDeclared name value → IsWritten name value written → has_row name sum ≡ false
        → OptionStep name (unwrap_or value (codes "true")) written
    option_step name None written d e h =
        let adds : Adds s.args_override_self (flagged name) [] (codes "true") sum = adds_flagged s.args_override_self name [] sum h in
        record {
          a = flagged name;
          is = refl;
          rows_then = more (flagged name) (codes "true") sum;
          pending_then = None;
          calm_then = calm_used s (more (flagged name) (codes "true") sum) (more (flagged name) (codes "true") sum) refl;
          goes = λ line end k. subst (λ (x : List Text). IsRead s (at rows pending waiting position false) (x ++ line) end) (sym e)
              (flag_read s rows pending waiting position sum open_so calm line end (45 ∷ 45 ∷ name) name d.is adds k);
        }
    option_step name (Some v) written d (inl p) h =
        let a : Rule = valued d.0 name in
        let adds : Adds s.args_override_self a (v ∷ []) v sum = adds_valued s.args_override_self name v sum d.0 h in
        record {
          a = a;
          is = refl;
          rows_then = sum;
          pending_then = Some (name, v ∷ []);
          calm_then = calm_pending s sum a (v ∷ []) v d.1.by_id adds;
          goes = λ line end k. subst (λ (x : List Text). IsRead s (at rows pending waiting position false) (x ++ line) end) (sym p.1)
              (waits_read s rows pending waiting position sum open_so calm (v ∷ line) end (45 ∷ 45 ∷ name) name d.0 d.1.apart
              (value_read s sum position name v d.0 (unhyphened_no_flag v p.0) d.1.by_id d.1.self line end k));
        }
    option_step name (Some v) written d (inr e) h =
        let a : Rule = valued d.0 name in
        let adds : Adds s.args_override_self a (v ∷ []) v sum = adds_valued s.args_override_self name v sum d.0 h in
        record {
          a = a;
          is = refl;
          rows_then = more a v sum;
          pending_then = None;
          calm_then = calm_used s (more a v sum) (more a v sum) refl;
          goes = λ line end k. subst (λ (x : List Text). IsRead s (at rows pending waiting position false) (x ++ line) end) (sym e)
              (joined_read s rows pending waiting position sum open_so calm line end (codes "--" ++ name ++ codes "=" ++ v) name v d.0 (d.1.joined v) adds k);
        }

    after_option : (before after : List GivenOption) (o : GivenOption) (written line : List Text) (places : List Text) (rest : Option Text) (ws : List Text)
        → Ready sum position (before ++ o ∷ after) places rest → (t : OptionStep o.name (given_value o) written)
        → IsReadSo (at t.rows_then t.pending_then idle position false) line (more t.a (given_value o) sum) (before ++ after) places rest ws
        → IsReadSo (at rows pending waiting position false) (written ++ line) sum (before ++ o ∷ after) places rest ws
    after_option before after o written line places rest ws ready t k =
        let out : among o.name (ids (before ++ after) places) ≡ false =
        gone o.name (ids (before ++ o ∷ after) places) (ids (before ++ after) places) (option_gone before after o places) ready.distinct in
        record {
          uses = (t.a, given_value o) ∷ k.uses;
          end = k.end;
          read = t.goes line k.end k.read;
          calm = k.calm;
          words = λ id h.
              let p : (bytes_eq o.name id ≡ false) × (named id (before ++ after) ≡ false) = named_middle id before after o h in
              ap (λ (b : Bool). if b then given_value o ∷ said id k.uses else said id k.uses) (ap (λ (x : Text). bytes_eq x id) t.is ∙ p.0) ∙ k.words id p.1;
          options = λ id h.
              ap (λ (x : Text). if bytes_eq x id then given_value o ∷ said id k.uses else said id k.uses) t.is
              ∙ ap (λ (l : List Text). if bytes_eq o.name id then given_value o ∷ l else l) (k.options id h)
              ∙ given_middle id before after o (named_before before after o places out);
        }

  -- after an option
  ready_after : (before after : List GivenOption) (o : GivenOption) (places : List Text) (rest : Option Text) (a : Rule) (v : Text) (sum : List Row) (position : ℕ) → a.id ≡ o.name
      → Ready sum position (before ++ o ∷ after) places rest → Ready (more a v sum) position (before ++ after) places rest
  ready_after before after o places rest a v sum position is ready =
      let w : Without o.name (ids (before ++ o ∷ after) places) (ids (before ++ after) places) = option_gone before after o places in
      record {
        declared = (declared_middle before after o ready.declared).1;
        are_places = ready.are_places;
        distinct = distinct_still o.name (ids (before ++ o ∷ after) places) (ids (before ++ after) places) w ready.distinct;
        new = still_new o.name (ids (before ++ after) places) a v sum is (gone o.name (ids (before ++ o ∷ after) places) (ids (before ++ after) places) w ready.distinct)
            (λ id h. ready.new id (still_among o.name (ids (before ++ o ∷ after) places) (ids (before ++ after) places) w id h));
        other = not_among_still o.name (ids (before ++ o ∷ after) places) (ids (before ++ after) places) w rest ready.other;
      }

  -- the words after `--`
  words_read : (ws : List Text) (rows : List Row) (pending : Option (Text × List Text)) (waiting : Waiting) (position : ℕ) (sum : List Row) (places : List Text) (rest : Option Text)
      → IsOpen waiting → Calm s (held rows pending) sum → Ready sum position [] places rest → AreTaken places rest ws
      → IsReadSo (at rows pending waiting position true) ws sum [] places rest ws
  words_read [] rows pending waiting position sum places rest open_so calm ready taken = nothing_read rows pending waiting position sum open_so calm true places rest
  words_read (word ∷ ws) rows pending waiting position sum places rest open_so calm ready taken =
      let t : WordStep rows pending waiting position sum open_so calm true word [] places rest ws = word_step rows pending waiting position sum
      open_so calm true word tt [] places rest ws ready taken in
      after_word rows pending waiting position sum open_so calm true word ws [] places rest ws t
      (words_read ws sum t.pending_then t.waiting_then t.position_then (more t.a word sum) t.places_then rest t.open_then t.calm_then t.ready_then t.taken_then)

  -- all of a line
  line_read : (ws : List Text) (os : List GivenOption) (line : List Text) → Arranged ws os line
      → (rows : List Row) (pending : Option (Text × List Text)) (waiting : Waiting) (position : ℕ) (sum : List Row) (places : List Text) (rest : Option Text)
      → IsOpen waiting → Calm s (held rows pending) sum → Ready sum position os places rest → AreTaken places rest ws
      → IsReadSo (at rows pending waiting position false) line sum os places rest ws
  line_read ws os line ends rows pending waiting position sum places rest open_so calm ready taken = nothing_read rows pending waiting position sum open_so calm false places rest
  line_read ws os line (then_word word words options more_line plain_so so) rows pending waiting position sum places rest open_so calm ready taken =
      let t : WordStep rows pending waiting position sum open_so calm false word options places rest words =
      word_step rows pending waiting position sum open_so calm false word (unhyphened_no_flag word plain_so) options places rest words ready taken in
      after_word rows pending waiting position sum open_so calm false word more_line options places rest words t
      (line_read words options more_line so sum t.pending_then t.waiting_then t.position_then (more t.a word sum) t.places_then rest t.open_then t.calm_then t.ready_then t.taken_then)
  line_read ws os line (then_option words before after o written more_line is_written so) rows pending waiting position sum places rest open_so calm ready taken =
      let d : IsDeclared o.name o.value × AreDeclared (before ++ after) = declared_middle before after o ready.declared in
      let there : among o.name (ids (before ++ o ∷ after) places) ≡ true =
      self_among o.name (ids (before ++ o ∷ after) places) (ids (before ++ after) places) (option_gone before after o places) in
      let t : OptionStep rows pending waiting position sum open_so calm o.name (given_value o) written =
      option_step rows pending waiting position sum open_so calm o.name o.value written d.0 is_written (ready.new o.name there) in
      after_option rows pending waiting position sum open_so calm before after o written more_line places rest words ready t
      (line_read words (before ++ after) more_line so t.rows_then t.pending_then idle position (more t.a (given_value o) sum) places rest tt t.calm_then
      (ready_after before after o places rest t.a (given_value o) sum position t.is ready) taken)
  line_read ws os line (then_hyphens words) rows pending waiting position sum places rest open_so calm ready taken =
      let k : IsReadSo (at rows pending waiting position true) words sum [] places rest words = words_read words rows pending waiting position sum places rest open_so calm ready taken in
      record {
        uses = k.uses;
        end = k.end;
        read = hyphens_read s rows pending waiting position words k.end k.read;
        calm = k.calm;
        words = k.words;
        options = k.options;
      }

  -- all of a command's line
  pub arranged_read : (ws : List Text) (os : List GivenOption) (line : List Text) → Arranged ws os line → (places : List Text) (rest : Option Text)
      → AreDeclared os → ArePlaces 1 places rest → are_distinct (ids os places) ≡ true → IsNotAmong rest (ids os places) → AreTaken places rest ws
      → IsReadSo (at [] None idle 1 false) line [] os places rest ws
  arranged_read ws os line so places rest declared are_places distinct other taken =
      line_read ws os line so [] None idle 1 [] places rest tt (calm_used s [] [] refl)
      (record { declared = declared; are_places = are_places; distinct = distinct; new = λ id h. refl; other = other }) taken
