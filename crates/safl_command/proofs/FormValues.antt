-- The arguments of a form: their rules, their values, the options that say these values, and the names that tell them apart.
use Rattle.safl_command.proofs.Common.{GivenOption, Rule, Shape, Text, list_all, list_any, or-true, usize_max}
use Rattle.std.proofs.Common.{◌≡◌, ◌∙◌, ℕ, ◌+◌, min, List, [], ◌∷◌, ◌++◌, Bool, true, false, Option, Some, None, cond, refl, sym, ap, subst, ◌⊎◌, inl, inr, codes, ◌||◌, ◌&&◌, not}
use Rattle.std.specs.Prelude.{if◌then◌else◌, option_to_list}
use Rattle.std.specs.Str.{bytes_eq}
use Rattle.std.proofs.lemmas.Bool.{false≢true, and_parts, not-true, or_parts}
use Rattle.clap.specs.Simple.{filled, help_rule}
use Rattle.clap.specs.Walk.{arg_by_long, arg_by_short}
use Rattle.safl_command.specs.Forms.{Argument, Name, Option as Needed, Choice, Flag, Rest}
use Rattle.safl_command.specs.Laws.{flag, option_if}
use Rattle.safl_command.proofs.Rows.{same_text, self_text}
use Rattle.safl_command.proofs.Uses.{valued, flagged, placed, rest_placed}
use Rattle.safl_command.proofs.Arranging.{IsFlag, IsValued, AreDeclared, among, are_distinct, named, ids, given_value}

abbrev pub id_of : Argument → Text
id_of (Name id) = id
id_of (Needed id) = id
id_of (Choice id) = id
id_of (Flag id) = id
id_of (Rest id) = id

-- it is an option
abbrev pub is_opt : Argument → Bool
is_opt (Name id) = false
is_opt (Rest id) = false
is_opt a = true

-- the rule of an argument, the next word's place being `i`; and the next place after it
abbrev pub rule_at : ℕ → Argument → Rule
rule_at i (Name id) = placed i id
rule_at i (Needed id) = valued true id
rule_at i (Choice id) = valued false id
rule_at i (Flag id) = flagged id
rule_at i (Rest id) = rest_placed i id

abbrev pub next_place : ℕ → Argument → ℕ
next_place i a = if is_opt a then i else min (i + 1) usize_max

abbrev pub rules_from : ℕ → List Argument → List Rule
rules_from i [] = filled help_rule ∷ []
rules_from i (a ∷ args) = rule_at i a ∷ rules_from (next_place i a) args

-- the places of words, and the one that takes all others
abbrev pub names_in : List Argument → List Text
names_in [] = []
names_in (Name id ∷ args) = id ∷ names_in args
names_in (Rest id ∷ args) = []
names_in (a ∷ args) = names_in args

abbrev pub rest_in : List Argument → Option Text
rest_in [] = None
rest_in (Rest id ∷ args) = Some id
rest_in (a ∷ args) = rest_in args

abbrev pub is_option : Text → List Argument → Bool
is_option id args = list_any (λ a. is_opt a && bytes_eq (id_of a) id) args

-- ---- the values of options

abbrev pub Value : Argument → Type 0
Value (Needed id) = Option Text
Value (Choice id) = Option Text
Value (Flag id) = Bool
Value a = Unit {0}

abbrev pub Values : List Argument → Type 0
Values [] = Unit {0}
Values (a ∷ args) = Value a × Values args

abbrev pub flag_if : Text → Bool → List GivenOption → List GivenOption
flag_if name true others = flag name others
flag_if name false others = others

-- the option with this value, before others
abbrev pub option_at : (a : Argument) → Value a → List GivenOption → List GivenOption
option_at (Needed id) x others = option_if id x others
option_at (Choice id) x others = option_if id x others
option_at (Flag id) x others = flag_if id x others
option_at a x others = others

-- what is found for it
abbrev pub said_at : (a : Argument) → Value a → List Text
said_at (Needed id) x = option_to_list x
said_at (Choice id) x = option_to_list x
said_at (Flag id) x = if x then codes "true" ∷ [] else []
said_at a x = []

-- the options with these values, in the order of the form
abbrev pub options_of : (args : List Argument) → Values args → List GivenOption
options_of [] v = []
options_of (a ∷ args) v = option_at a v.0 (options_of args v.1)

-- before other options stands none, or one of this argument; and this is what is found for it
pub data IsAdded (a : Argument) : (List GivenOption → List GivenOption) → List Text → Type 0 where
  none : IsAdded a (λ others. others) []
  one : (value : Option Text) → is_opt a ≡ true → IsAdded a (λ others. record { name = id_of a; value = value } ∷ others) (given_value (record { name = id_of a; value = value }) ∷ [])

pub added : (a : Argument) (x : Value a) → IsAdded a (option_at a x) (said_at a x)
added (Name id) x = none
added (Rest id) x = none
added (Needed id) None = none
added (Needed id) (Some v) = one (Some v) refl
added (Choice id) None = none
added (Choice id) (Some v) = one (Some v) refl
added (Flag id) false = none
added (Flag id) true = one None refl

-- no option is given
abbrev pub no_value : (a : Argument) → Value a
no_value (Needed id) = None
no_value (Choice id) = None
no_value (Flag id) = false
no_value (Name id) = tt
no_value (Rest id) = tt

abbrev pub no_values : (args : List Argument) → Values args
no_values [] = tt
no_values (a ∷ args) = (no_value a, no_values args)

pub no_options : (args : List Argument) → options_of args (no_values args) ≡ []
no_options [] = refl
no_options (a ∷ args) = go a ∙ no_options args
  where
    go : (b : Argument) → option_at b (no_value b) (options_of args (no_values args)) ≡ options_of args (no_values args)
    go (Name id) = refl
    go (Rest id) = refl
    go (Needed id) = refl
    go (Choice id) = refl
    go (Flag id) = refl

-- ---- one more option

-- it is an option of the form, with some value
abbrev pub IsOptionAt : Argument → GivenOption → Type 0
IsOptionAt a o = (x : Value a) × ((others : List GivenOption) → option_at a x others ≡ o ∷ others)

abbrev pub IsOptionOf : List Argument → GivenOption → Type 0
IsOptionOf [] o = ⊥
IsOptionOf (a ∷ args) o = IsOptionAt a o ⊎ IsOptionOf args o

option_name : (a : Argument) (o : GivenOption) → IsOptionAt a o → (is_opt a && bytes_eq (id_of a) o.name) ≡ true
option_name a o h = go (option_at a h.0) (said_at a h.0) (added a h.0) h.1
  where
    first_name : List GivenOption → Text
    first_name [] = []
    first_name (x ∷ xs) = x.name

    go : (f : List GivenOption → List GivenOption) (here : List Text) → IsAdded a f here → ((others : List GivenOption) → f others ≡ o ∷ others) → (is_opt a && bytes_eq (id_of a) o.name) ≡ true
    go f here none is = absurd (let e : [] ≡ o ∷ [] = is [] in cc)
    go f here (one value e) is = ap (λ (b : Bool). b && bytes_eq (id_of a) o.name) e ∙ ap (λ (x : Text). bytes_eq (id_of a) x) (sym (ap first_name (is []))) ∙ self_text (id_of a)

pub option_is : (args : List Argument) (o : GivenOption) → IsOptionOf args o → is_option o.name args ≡ true
option_is [] o h = absurd h
option_is (a ∷ args) o (inl h) = ap (λ (b : Bool). b || is_option o.name args) (option_name a o h)
option_is (a ∷ args) o (inr h) = ap (λ (b : Bool). (is_opt a && bytes_eq (id_of a) o.name) || b) (option_is args o h) ∙ or-true (is_opt a && bytes_eq (id_of a) o.name)

-- an option that is given besides these
pub record Inserted (V : Type 0) (options : V → List GivenOption) (old : List GivenOption) (o : GivenOption) : Type 0 where
  pub values_then : V
  pub before : List GivenOption
  pub after : List GivenOption
  pub is : old ≡ before ++ after
  pub then_is : options values_then ≡ before ++ (o ∷ after)

put : (a : Argument) (args : List Argument) (v : Values (a ∷ args)) (o : GivenOption) (f : List GivenOption → List GivenOption) (here : List Text) → IsAdded a f here
    → ((w : Values args) → option_at a v.0 (options_of args w) ≡ f (options_of args w)) → IsOptionOf (a ∷ args) o → named o.name (f (options_of args v.1)) ≡ false
    → (IsOptionOf args o → named o.name (options_of args v.1) ≡ false → Inserted (Values args) (options_of args) (options_of args v.1) o)
    → Inserted (Values (a ∷ args)) (options_of (a ∷ args)) (f (options_of args v.1)) o
put a args v o f here none keep (inl h) new deeper = record { values_then = (h.0, v.1); before = []; after = options_of args v.1; is = refl; then_is = h.1 (options_of args v.1) }
put a args v o f here (one value e) keep (inl h) new deeper =
    absurd (false≢true (sym (or_parts (bytes_eq (id_of a) o.name) (named o.name (options_of args v.1)) new).0
    ∙ ap (λ (b : Bool). b && bytes_eq (id_of a) o.name) (sym e) ∙ option_name a o h))
put a args v o f here none keep (inr k) new deeper =
    let i : Inserted (Values args) (options_of args) (options_of args v.1) o = deeper k new in
    record { values_then = (v.0, i.values_then); before = i.before; after = i.after; is = i.is; then_is = keep i.values_then ∙ i.then_is }
put a args v o f here (one value e) keep (inr k) new deeper =
    let i : Inserted (Values args) (options_of args) (options_of args v.1) o = deeper k (or_parts (bytes_eq (id_of a) o.name) (named o.name (options_of args v.1)) new).1 in
    record {
      values_then = (v.0, i.values_then);
      before = record { name = id_of a; value = value } ∷ i.before;
      after = i.after;
      is = ap (λ (l : List GivenOption). record { name = id_of a; value = value } ∷ l) i.is;
      then_is = keep i.values_then ∙ ap (λ (l : List GivenOption). record { name = id_of a; value = value } ∷ l) i.then_is;
    }

pub insert : (args : List Argument) (v : Values args) (o : GivenOption) → IsOptionOf args o → named o.name (options_of args v) ≡ false
    → Inserted (Values args) (options_of args) (options_of args v) o
insert [] v o h new = absurd h
insert (a ∷ args) v o h new = put a args v o (option_at a v.0) (said_at a v.0) (added a v.0) (λ w. refl) h new (insert args v.1 o)

-- ---- what a command declares

module _ (s : Shape) where
  abbrev pub IsKnown : Argument → Type 0
  IsKnown (Needed id) = IsValued s true id
  IsKnown (Choice id) = IsValued s false id
  IsKnown (Flag id) = IsFlag s id
  IsKnown a = Unit {0}

  abbrev pub AreKnown : List Argument → Type 0
  AreKnown [] = Unit {0}
  AreKnown (a ∷ args) = IsKnown a × AreKnown args

  -- what the name of an option comes to
  pub data LongView (whole : List Argument) (name : Text) : Type 0 where
    unknown : arg_by_long s.rules name ≡ None → LongView whole name
    helps : arg_by_long s.rules name ≡ Some (filled help_rule) → LongView whole name
    takes : (required : Bool) → IsValued s required name → ((v : Text) → IsOptionOf whole (record { name = name; value = Some v })) → LongView whole name
    switches : IsFlag s name → IsOptionOf whole (record { name = name; value = None }) → LongView whole name

  module _ (whole : List Argument) (name : Text) where
    abbrev View : Type 0
    View = LongView whole name

    last_view : (b : Bool) → bytes_eq (codes "help") name ≡ b → arg_by_long s.rules name ≡ cond (b || false) (Some (filled help_rule)) None → View
    last_view true e is = helps is
    last_view false e is = unknown is

    valued_view : (id : Text) (b : Bool) → bytes_eq id name ≡ b → (required : Bool) → IsValued s required id → ((v : Text) → IsOptionOf whole (record { name = id; value = Some v }))
        → (o n : Option Rule) → arg_by_long s.rules name ≡ cond (b || false) o n → (arg_by_long s.rules name ≡ n → View) → View
    valued_view id true e required d in_whole o n is deeper = subst (λ (x : Text). LongView whole x) (same_text id name e) (takes required d in_whole)
    valued_view id false e required d in_whole o n is deeper = deeper is

    flag_view : (id : Text) (b : Bool) → bytes_eq id name ≡ b → IsFlag s id → IsOptionOf whole (record { name = id; value = None })
        → (o n : Option Rule) → arg_by_long s.rules name ≡ cond (b || false) o n → (arg_by_long s.rules name ≡ n → View) → View
    flag_view id true e d in_whole o n is deeper = subst (λ (x : Text). LongView whole x) (same_text id name e) (switches d in_whole)
    flag_view id false e d in_whole o n is deeper = deeper is

    pub long_view : (args : List Argument) (i : ℕ) → AreKnown args → ((o : GivenOption) → IsOptionOf args o → IsOptionOf whole o)
        → arg_by_long s.rules name ≡ arg_by_long (rules_from i args) name → View
    long_view [] i known inside is = last_view (bytes_eq (codes "help") name) refl is
    long_view (Name id ∷ args) i known inside is = long_view args (min (i + 1) usize_max) known.1 (λ o h. inside o (inr h)) is
    long_view (Needed id ∷ args) i known inside is =
        valued_view id (bytes_eq id name) refl true known.0 (λ v. inside (record { name = id; value = Some v }) (inl (Some v, λ l. refl)))
        (Some (valued true id)) (arg_by_long (rules_from i args) name) is
        (long_view args i known.1 (λ o h. inside o (inr h)))
    long_view (Choice id ∷ args) i known inside is =
        valued_view id (bytes_eq id name) refl false known.0 (λ v. inside (record { name = id; value = Some v }) (inl (Some v, λ l. refl)))
        (Some (valued false id)) (arg_by_long (rules_from i args) name) is
        (long_view args i known.1 (λ o h. inside o (inr h)))
    long_view (Flag id ∷ args) i known inside is =
        flag_view id (bytes_eq id name) refl known.0 (inside (record { name = id; value = None }) (inl (true, λ l. refl))) (Some (flagged id)) (arg_by_long (rules_from i args) name) is
        (long_view args i known.1 (λ o h. inside o (inr h)))
    long_view (Rest id ∷ args) i known inside is = long_view args (min (i + 1) usize_max) known.1 (λ o h. inside o (inr h)) is

pub shorts : (args : List Argument) (i x : ℕ) → arg_by_short (rules_from i args) x ≡ arg_by_short (filled help_rule ∷ []) x
shorts [] i x = refl
shorts (a ∷ args) i x = go a ∙ shorts args (next_place i a) x
  where
    go : (b : Argument) → arg_by_short (rule_at i b ∷ rules_from (next_place i a) args) x ≡ arg_by_short (rules_from (next_place i a) args) x
    go (Name id) = refl
    go (Rest id) = refl
    go (Needed id) = refl
    go (Choice id) = refl
    go (Flag id) = refl

-- ---- names that are used once

-- the names of the options, before other names
abbrev pub option_ids : List Argument → List Text → List Text
option_ids [] others = others
option_ids (a ∷ args) others = if is_opt a then id_of a ∷ option_ids args others else option_ids args others

-- the first name is used once
pub first_once : (n : Text) (ns : List Text) → are_distinct (n ∷ ns) ≡ true → (among n ns ≡ false) × (are_distinct ns ≡ true)
first_once n ns h = let p : (not (among n ns) ≡ true) × (are_distinct ns ≡ true) = and_parts (not (among n ns)) (are_distinct ns) h in (not-true (among n ns) p.0, p.1)

pub other_options : (args : List Argument) (v : Values args) (places : List Text) (n : Text) → among n (option_ids args places) ≡ false → among n (ids (options_of args v) places) ≡ false
other_options [] v places n h = h
other_options (a ∷ args) v places n h = go (option_at a v.0) (said_at a v.0) (added a v.0) (other_options args v.1 places n)
  where
    X : List Text
    X = option_ids args places

    fewer : (b : Bool) → among n (if b then id_of a ∷ X else X) ≡ false → among n X ≡ false
    fewer true k = (or_parts (bytes_eq (id_of a) n) (among n X) k).1
    fewer false k = k

    go : (f : List GivenOption → List GivenOption) (here : List Text) → IsAdded a f here → (among n X ≡ false → among n (ids (options_of args v.1) places) ≡ false)
        → among n (ids (f (options_of args v.1)) places) ≡ false
    go f here none ih = ih (fewer (is_opt a) h)
    go f here (one value e) ih =
        let p : (bytes_eq (id_of a) n ≡ false) × (among n X ≡ false) =
        or_parts (bytes_eq (id_of a) n) (among n X) (ap (λ (b : Bool). among n (if b then id_of a ∷ X else X)) (sym e) ∙ h) in
        ap (λ (b : Bool). b || among n (ids (options_of args v.1) places)) p.0 ∙ ih p.1

pub distinct_options : (args : List Argument) (v : Values args) (places : List Text) → are_distinct (option_ids args places) ≡ true → are_distinct (ids (options_of args v) places) ≡ true
distinct_options [] v places h = h
distinct_options (a ∷ args) v places h = go (option_at a v.0) (said_at a v.0) (added a v.0) (distinct_options args v.1 places)
  where
    X : List Text
    X = option_ids args places

    fewer : (b : Bool) → are_distinct (if b then id_of a ∷ X else X) ≡ true → are_distinct X ≡ true
    fewer true k = (first_once (id_of a) X k).1
    fewer false k = k

    go : (f : List GivenOption → List GivenOption) (here : List Text) → IsAdded a f here → (are_distinct X ≡ true → are_distinct (ids (options_of args v.1) places) ≡ true)
        → are_distinct (ids (f (options_of args v.1)) places) ≡ true
    go f here none ih = ih (fewer (is_opt a) h)
    go f here (one value e) ih =
        let p : (among (id_of a) X ≡ false) × (are_distinct X ≡ true) = first_once (id_of a) X (ap (λ (b : Bool). are_distinct (if b then id_of a ∷ X else X)) (sym e) ∙ h) in
        ap (λ (b : Bool). not b && are_distinct (ids (options_of args v.1) places)) (other_options args v.1 places (id_of a) p.0) ∙ ih p.1

-- the options are declared
pub declared_options : (s : Shape) (args : List Argument) (v : Values args) → AreKnown s args → AreDeclared s (options_of args v)
declared_options s [] v known = tt
declared_options s (a ∷ args) v known = go a v.0 known.0 (declared_options s args v.1 known.1)
  where
    go : (b : Argument) (x : Value b) → IsKnown s b → AreDeclared s (options_of args v.1) → AreDeclared s (option_at b x (options_of args v.1))
    go (Name id) x k d = d
    go (Rest id) x k d = d
    go (Needed id) None k d = d
    go (Needed id) (Some y) k d = ((true, k), d)
    go (Choice id) None k d = d
    go (Choice id) (Some y) k d = ((false, k), d)
    go (Flag id) false k d = d
    go (Flag id) true k d = (k, d)

-- ---- names that are no option's

pub named_other : (a : Argument) (f : List GivenOption → List GivenOption) (here : List Text) → IsAdded a f here → (id : Text) (others : List GivenOption)
    → (is_opt a && bytes_eq (id_of a) id) ≡ false → named id others ≡ false → named id (f others) ≡ false
named_other a f here none id others e h = h
named_other a f here (one value o) id others e h = ap (λ (b : Bool). b || named id others) (ap (λ (b : Bool). b && bytes_eq (id_of a) id) (sym o) ∙ e) ∙ h

pub unnamed : (args : List Argument) (v : Values args) (id : Text) → is_option id args ≡ false → named id (options_of args v) ≡ false
unnamed [] v id h = refl
unnamed (a ∷ args) v id h =
    let p : ((is_opt a && bytes_eq (id_of a) id) ≡ false) × (is_option id args ≡ false) = or_parts (is_opt a && bytes_eq (id_of a) id) (is_option id args) h in
    named_other a (option_at a v.0) (said_at a v.0) (added a v.0) id (options_of args v.1) p.0 (unnamed args v.1 id p.1)

-- no place has the name of an option
abbrev pub are_no_options : List Argument → List Text → Bool
are_no_options args places = list_all (λ n. not (is_option n args)) places

first_or : (args : List Argument) (n : Text) (ns : List Text) (id : Text) → is_option n args ≡ false → (b : Bool) → bytes_eq n id ≡ b → (bytes_eq n id || among id ns) ≡ true
    → (among id ns ≡ true → is_option id args ≡ false) → is_option id args ≡ false
first_or args n ns id new true e there later = subst (λ (x : Text). is_option x args ≡ false) (same_text n id e) new
first_or args n ns id new false e there later = later (subst (λ (b : Bool). (b || among id ns) ≡ true) e there)

pub no_options_among : (args : List Argument) (places : List Text) → are_no_options args places ≡ true → (id : Text) → among id places ≡ true → is_option id args ≡ false
no_options_among args [] h id there = absurd (false≢true there)
no_options_among args (n ∷ ns) h id there =
    let p : (not (is_option n args) ≡ true) × (are_no_options args ns ≡ true) = and_parts (not (is_option n args)) (are_no_options args ns) h in
    first_or args n ns id (not-true (is_option n args) p.0) (bytes_eq n id) refl there (no_options_among args ns p.1 id)
