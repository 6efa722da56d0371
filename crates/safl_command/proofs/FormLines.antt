-- Which command a line is, by the words and the options of a form.
use Rattle.safl_command.proofs.Common.{AreTexts, Arranged, DefaultValue, explicit_source, false≢true, option_map_or, or-true, or_parts}
use Rattle.std.proofs.Common.{◌≡◌, ◌∙◌, ℕ, List, [], ◌∷◌, ◌++◌, Bool, true, false, Option, Some, None, refl, sym, ap, ap₂, subst, fold, cond, codes, ◌||◌, find, is_some}
use Rattle.std.specs.Prelude.{if◌then◌else◌, option_and_then, option_map, slice_get, unwrap_or}
use Rattle.std.specs.Str.{bytes_eq}
use Rattle.std.proofs.Math.Path.{fun_ext}
use Rattle.clap.specs.Words.{Shape, Kinds, Row, Text}
use Rattle.clap.specs.Kinds.{or_else, check_kinds}
use Rattle.clap.specs.Simple.{built, new_shape, rows_at, filled, help_rule}
use Rattle.clap.specs.Walk.{Held, idle, at_row, settled, has_row, with_default, more_values, walked, walk_from, nothing_held}
use Rattle.clap.specs.Faults.{default_fault, defaults_fault, given_default_fault, check_fault, walk_fault, level_fault, settle_fault}
use Rattle.clap.proofs.OnLiterals.{clap_on_literals}
use Rattle.safl_command.specs.Commands.{Command, command_of, command_in, command_from, faultless}
use Rattle.safl_command.specs.Forms.{Argument, Name, Option as Needed, Choice, Flag, Rest, app, forms}
use Rattle.safl_command.proofs.Rows.{pour, row, row_for, said, Shows, shows_poured, has_found, same_text}
use Rattle.safl_command.proofs.Uses.{flagged}
use Rattle.safl_command.proofs.Arranging.{IsReadSo, AreTaken, ArePlaces, IsNotAmong, are_distinct, ids, arranged_read}
use Rattle.safl_command.proofs.FormValues.{rule_at, next_place, rules_from, names_in, rest_in, Values, options_of, AreKnown}
use Rattle.safl_command.proofs.FormValues.{option_ids, distinct_options, other_options, declared_options, are_no_options, no_options_among}
use Rattle.safl_command.proofs.Found.{ids_of, found, all_found, is_there, is_wanting, wanting, Full, words_in, values_in, Filled, fill, rest_is_last, full_so}
use Rattle.safl_command.proofs.Parting.{Parts, parted}
use Rattle.safl_command.proofs.Refused.{IsQuiet, both_none}
use Rattle.safl_command.proofs.Stepping.{Enters, command_entered, command_read}
use Rattle.safl_command.proofs.Walking.{at}

-- ---- the forms

-- what `clap` builds of a form
abbrev pub form_of : Text → List Argument → Shape
form_of word args = record (new_shape word) { rules = rules_from 1 args; disable_help_subcommand = true; is_built = true }

-- the program has this command, and its arguments can be told apart
pub record IsForm (word : Text) (args : List Argument) : Type 0 where
  pub enters : Enters (built app) word (form_of word args)
  pub known : AreKnown (form_of word args) args
  pub are : ArePlaces (form_of word args) 1 (names_in args) (rest_in args)
  pub apart : are_no_options args (names_in args) ≡ true
  pub distinct : are_distinct (names_in args) ≡ true
  pub options_distinct : are_distinct (option_ids args (names_in args)) ≡ true
  pub all_distinct : are_distinct (ids_of args) ≡ true
  pub rest_last : rest_is_last args ≡ true
  pub names_other : IsNotAmong (form_of word args) (rest_in args) (names_in args)
  pub other : IsNotAmong (form_of word args) (rest_in args) (option_ids args (names_in args))

-- each form is so
abbrev pub Each : (Text → List Argument → Type 0) → List (Text × List Argument) → Type 0
Each P [] = Unit {0}
Each P (f ∷ fs) = P f.0 f.1 × Each P fs

abbrev pub HasForm : List (Text × List Argument) → Text → List Argument → Type 0
HasForm fs word args = find (λ f. bytes_eq f.0 word) fs ≡ Some (word, args)

pub each_in : (P : Text → List Argument → Type 0) (fs : List (Text × List Argument)) → Each P fs → (word : Text) (args : List Argument) → HasForm fs word args → P word args
each_in P [] each word args h = absurd (cc)
each_in P (f ∷ fs) each word args h = go (bytes_eq f.0 word) h (each_in P fs each.1 word args)
  where
    go : (b : Bool) → cond b (Some f) (find (λ g. bytes_eq g.0 word) fs) ≡ Some (word, args) → (HasForm fs word args → P word args) → P word args
    go true e later = subst (λ (g : Text × List Argument). P g.0 g.1) (ap (λ (o : Option (Text × List Argument)). unwrap_or o f) e) each.0
    go false e later = later e

all_forms : Each IsForm forms
unfolding app clap_on_literals
all_forms = search parts 40

form_in : (word : Text) (args : List Argument) → HasForm forms word args → IsForm word args
form_in = each_in IsForm forms all_forms

-- ---- the default value of a flag

abbrev is_flag : Text → List Argument → Bool
is_flag id [] = false
is_flag id (Flag n ∷ args) = bytes_eq n id || is_flag id args
is_flag id (a ∷ args) = is_flag id args

abbrev false_row : Text → Row
false_row id = record (row_for (flagged id) (codes "false")) { source = Some DefaultValue }

abbrev with_flag : Bool → Text → Option Row → Option Row
with_flag false id o = o
with_flag true id None = Some (false_row id)
with_flag true id (Some r) = Some r

either : {T : Type 0} (b : Bool) (x : T) → (if b then x else x) ≡ x
either true x = refl
either false x = refl

new_row : (id key : Text) (change : Row → List Row) (new : Row) (rows : List Row) → has_row key rows ≡ false
    → row id (at_row key change (new ∷ []) rows) ≡ (if is_some (row id rows) then row id rows else row id (new ∷ []))
new_row id key change new [] h = refl
new_row id key change new (r ∷ rs) h =
    let p : (bytes_eq r.id key ≡ false) × (has_row key rs ≡ false) = or_parts (bytes_eq r.id key) (has_row key rs) h in
    ap (λ (b : Bool). row id (if b then change r ++ rs else r ∷ at_row key change (new ∷ []) rs)) p.0
    ∙ ap (λ (o : Option Row). cond (bytes_eq r.id id) (Some r) o) (new_row id key change new rs p.1)
    ∙ go (bytes_eq r.id id)
  where
    go : (b : Bool) → cond b (Some r) (if is_some (row id rs) then row id rs else row id (new ∷ []))
        ≡ (if is_some (cond b (Some r) (row id rs)) then cond b (Some r) (row id rs) else row id (new ∷ []))
    go true = refl
    go false = refl

flag_row : (id n : Text) (rows : List Row) → row id (with_default rows (flagged n)) ≡ with_flag (bytes_eq n id) id (row id rows)
flag_row id n rows = go (has_row n rows) refl
  where
    there : (o : Option Row) → is_some o ≡ true → o ≡ with_flag true id o
    there None h = absurd (false≢true h)
    there (Some r) h = refl

    old : (b : Bool) → bytes_eq n id ≡ b → has_row n rows ≡ true → row id rows ≡ with_flag b id (row id rows)
    old true e h = there (row id rows) (sym (has_found id rows) ∙ ap (λ (x : Text). has_row x rows) (sym (same_text n id e)) ∙ h)
    old false e h = refl

    new : (b : Bool) → bytes_eq n id ≡ b → (o : Option Row) → (if is_some o then o else cond b (Some (false_row n)) None) ≡ with_flag b id o
    new true e None = ap (λ (x : Text). Some (false_row x)) (same_text n id e)
    new true e (Some r) = refl
    new false e None = refl
    new false e (Some r) = refl

    go : (b : Bool) → has_row n rows ≡ b → row id (if b then rows else at_row n (more_values DefaultValue (codes "false" ∷ [])) (false_row n ∷ []) rows) ≡ with_flag (bytes_eq n id) id (row id rows)
    go true h = old (bytes_eq n id) refl h
    go false h = new_row id n (more_values DefaultValue (codes "false" ∷ [])) (false_row n) rows h ∙ new (bytes_eq n id) refl (row id rows)

last_row : (id : Text) (args : List Argument) (i : ℕ) (rows : List Row) → row id (fold with_default rows (rules_from i args)) ≡ with_flag (is_flag id args) id (row id rows)
last_row id [] i rows = ap (row id) (either (has_row (codes "help") rows) rows)
last_row id (a ∷ args) i rows = last_row id args (next_place i a) (with_default rows (rule_at i a)) ∙ go a
  where
    twice : (b c : Bool) (o : Option Row) → with_flag c id (with_flag b id o) ≡ with_flag (b || c) id o
    twice true true None = refl
    twice true true (Some r) = refl
    twice true false o = refl
    twice false c o = refl

    same : (n : Text) → with_flag (is_flag id args) id (row id (if has_row n rows then rows else rows)) ≡ with_flag (is_flag id args) id (row id rows)
    same n = ap (λ (l : List Row). with_flag (is_flag id args) id (row id l)) (either (has_row n rows) rows)

    go : (b : Argument) → with_flag (is_flag id args) id (row id (with_default rows (rule_at i b))) ≡ with_flag (is_flag id (b ∷ args)) id (row id rows)
    go (Name n) = same n
    go (Rest n) = same n
    go (Needed n) = same n
    go (Choice n) = same n
    go (Flag n) = ap (λ (o : Option Row). with_flag (is_flag id args) id o) (flag_row id n rows) ∙ twice (bytes_eq n id) (is_flag id args) (row id rows)

no_faults : (args : List Argument) (i : ℕ) (rows : List Row) → defaults_fault rows (rules_from i args) ≡ []
unfolding clap_on_literals
no_faults [] i rows = ap (λ (k : Kinds). or_else k []) (ap (λ (b : Bool). if b then [] else given_default_fault (filled help_rule) []) (or-true (has_row (codes "help") rows)))
no_faults (a ∷ args) i rows =
    ap (λ (k : Kinds). or_else k (defaults_fault (with_default rows (rule_at i a)) (rules_from (next_place i a) args))) (go a) ∙ no_faults args (next_place i a) (with_default rows (rule_at i a))
  where
    go : (b : Argument) → default_fault rows (rule_at i b) ≡ []
    go (Name n) = either (has_row n rows || true) []
    go (Rest n) = either (has_row n rows || true) []
    go (Needed n) = either (has_row n rows || true) []
    go (Choice n) = either (has_row n rows || true) []
    go (Flag n) = either (has_row n rows || false) []

-- ---- what is found at the end

abbrev with_false : Bool → List Text → List Text
with_false false vs = vs
with_false true [] = codes "false" ∷ []
with_false true (v ∷ vs) = v ∷ vs

abbrev values : Option Row → List Text
values None = []
values (Some r) = r.values

values_shown : (b : Bool) (id : Text) (o : Option Row) (vs : List Text) → Shows o vs → values (with_flag b id o) ≡ with_false b vs
values_shown false id None vs h = sym h
values_shown false id (Some r) vs h = h.0
values_shown true id None vs h = ap (with_false true) (sym h)
values_shown true id (Some r) [] h = absurd h.2
values_shown true id (Some r) (v ∷ vs) h = h.0

given_shown : (b : Bool) (id : Text) (o : Option Row) (vs : List Text) → Shows o vs → option_map_or (λ r. explicit_source r.source) (with_flag b id o) false ≡ is_there vs
given_shown false id None vs h = ap is_there (sym h)
given_shown true id None vs h = ap is_there (sym h)
given_shown b id (Some r) [] h = absurd h.2
given_shown false id (Some r) (v ∷ vs) h = h.1
given_shown true id (Some r) (v ∷ vs) h = h.1

first_value : (o : Option Row) → option_and_then (λ r. slice_get r.values 0) o ≡ slice_get (values o) 0
first_value None = refl
first_value (Some r) = refl

all_values : (o : Option Row) → unwrap_or (option_map (λ r. r.values) o) [] ≡ values o
all_values None = refl
all_values (Some r) = refl

-- the values of each argument at the end, and the command that they make
abbrev pub final : (args : List Argument) → List Text → Values args → Text → List Text
final args ws v id = with_false (is_flag id args) (found args ws v id)

abbrev pub made : Text → (args : List Argument) → List Text → Values args → Option Command
made word args ws v = command_from word (λ id. slice_get (final args ws v id) 0) (final args ws v (codes "ARG"))

-- ---- the command of a line

-- the fault of a level, and then its command
abbrev judged : Shape → List Row → Kinds → Option Command
judged s rows fault = faultless (or_else fault (check_fault s rows false)) (Some (s.name, rows))

module _ (word : Text) (args : List Argument) (form : IsForm word args) (line : List Text) where
  abbrev S : Shape
  S = form_of word args

  module _ (ws : List Text) (v : Values args) (taken : AreTaken (names_in args) (rest_in args) ws) (so : Arranged ws (options_of args v) line) where
    still_other : (rest : Option Text) → IsNotAmong S rest (option_ids args (names_in args)) → IsNotAmong S rest (ids (options_of args v) (names_in args))
    still_other None h = tt
    still_other (Some r) h = other_options args v (names_in args) r h

    read : IsReadSo S (at [] None idle 1 false) line [] (options_of args v) (names_in args) (rest_in args) ws
    read =
        arranged_read S ws (options_of args v) line so (names_in args) (rest_in args) (declared_options S args v form.known) form.are
        (distinct_options args v (names_in args) form.options_distinct) (still_other (rest_in args) form.other) taken

    abbrev Rows : List Row
    Rows = pour read.uses []

    abbrev Last : List Row
    Last = fold with_default Rows S.rules

    shows : (id : Text) → Shows (row id Rows) (found args ws v id)
    shows id =
        subst (λ (vs : List Text). Shows (row id Rows) vs) (all_found id (said id read.uses) args ws v form.all_distinct (read.words id) (read.options id))
        (shows_poured id read.uses [] [] refl)

    values_so : (id : Text) → values (row id Last) ≡ final args ws v id
    values_so id = ap values (last_row id args 1 Rows) ∙ values_shown (is_flag id args) id (row id Rows) (found args ws v id) (shows id)

    made_so : command_in word Last ≡ made word args ws v
    made_so =
        ap₂ (λ (first : Text → Option Text) (rest : List Text). command_from word first rest)
        (fun_ext (λ id. first_value (row id Last) ∙ ap (λ (l : List Text). slice_get l 0) (values_so id)))
        (all_values (row (codes "ARG") Last) ∙ values_so (codes "ARG"))

    pub line_read : command_of (word ∷ line) ≡ (if is_wanting args ws v then None else made word args ws v)
    line_read =
        command_read word S line read.end form.enters read.read
        ∙ ap (λ (fault : Kinds). faultless (or_else fault (or_else (defaults_fault (settled S.rules read.end.held).rows S.rules)
        (check_fault S (fold with_default (settled S.rules read.end.held).rows S.rules) false))) (Some (word, fold with_default (settled S.rules read.end.held).rows S.rules))) read.calm.fault
        ∙ ap (λ (rows : List Row). judged S (fold with_default rows S.rules) (defaults_fault rows S.rules)) read.calm.rows_are
        ∙ ap (judged S Last) (no_faults args 1 Rows)
        ∙ ap (λ (b : Bool). faultless (check_kinds false false b) (Some (word, Last)))
        (wanting Last args 1 ws v form.all_distinct (λ id there. ap (λ (o : Option Row). option_map_or (λ r. explicit_source r.source) o false) (last_row id args 1 Rows)
        ∙ given_shown (is_flag id args) id (row id Rows) (found args ws v id) (shows id)))
        ∙ go (is_wanting args ws v)
      where
        go : (b : Bool) → faultless (check_kinds false false b) (Some (word, Last)) ≡ (if b then None else made word args ws v)
        go true = refl
        go false = made_so

  -- ---- a line that is a command

  module _ (texts : AreTexts line) (c : Command) (is : command_of (word ∷ line) ≡ Some c) where
    no_fault : (kinds : Kinds) (entered : Option (Text × List Row)) → faultless kinds entered ≡ Some c → kinds ≡ []
    no_fault [] entered e = refl
    no_fault (k ∷ ks) entered e = absurd (cc)

    quiet : IsQuiet S (at [] None idle 1 false) line
    quiet =
        let end : Held = (fold (walked S.rules []) (walk_from nothing_held) line).held in
        let p : (walk_fault S [] (walk_from nothing_held) line ≡ []) × (or_else (settle_fault S.rules S.args_override_self end)
        (or_else (defaults_fault (settled S.rules end).rows S.rules) (check_fault S (fold with_default (settled S.rules end).rows S.rules) false)) ≡ []) =
        both_none (walk_fault S [] (walk_from nothing_held) line) _
        (no_fault (level_fault S [] nothing_held line false []) (Some (rows_at S line)) (sym (command_entered word S form.enters line) ∙ is)) in
        record { turns = p.0; settles = (both_none (settle_fault S.rules S.args_override_self end) _ p.1).0 }

    pub parts : Parts S args refl form.known refl line [] (names_in args) (rest_in args)
    parts =
        parted S args refl form.known refl line texts (names_in args) (rest_in args) form.are form.distinct form.names_other (no_options_among args (names_in args) form.apart) quiet

    whole : (b : Bool) → (if b then None else made word args parts.words parts.values) ≡ Some c → b ≡ false
    whole true e = absurd (cc)
    whole false e = refl

    pub all_given : Filled args parts.words parts.values
    all_given =
        fill args parts.words parts.values parts.taken
        (whole (is_wanting args parts.words parts.values) (sym (line_read parts.words parts.values parts.taken parts.arranged) ∙ is))

-- the words and the options with these values make this command
abbrev pub makes : Text → (args : List Argument) → Full args → Option Command
makes word args f = made word args (words_in args f) (values_in args f)

abbrev pub IsLineOf : (args : List Argument) → Full args → List Text → Type 0
IsLineOf args f line = Arranged (words_in args f) (options_of args (values_in args f)) line

pub reads : {word : Text} {args : List Argument} → HasForm forms word args → (f : Full args) (line : List Text) → IsLineOf args f line → command_of (word ∷ line) ≡ makes word args f
reads {word} {args} h f line so =
    let whole : AreTaken (names_in args) (rest_in args) (words_in args f) × (is_wanting args (words_in args f) (values_in args f) ≡ false) =
    full_so args f (form_in word args h).rest_last in
    line_read word args (form_in word args h) line (words_in args f) (values_in args f) whole.0 so
    ∙ ap (λ (b : Bool). if b then None else makes word args f) whole.1

pub record Given (word : Text) (args : List Argument) (line : List Text) (c : Command) : Type 0 where
  pub values : Full args
  pub arranged : IsLineOf args values line
  pub is : makes word args values ≡ Some c

pub given_in : {word : Text} {args : List Argument} → HasForm forms word args → (line : List Text) → AreTexts line → (c : Command) → command_of (word ∷ line) ≡ Some c → Given word args line c
given_in {word} {args} h line texts c is =
    let form : IsForm word args = form_in word args h in
    let p = parts word args form line texts c is in
    let f : Filled args p.words p.values = all_given word args form line texts c is in
    let so : IsLineOf args f.full line =
    subst (λ (v : Values args). Arranged (words_in args f.full) (options_of args v) line) f.values (subst (λ (ws : List Text). Arranged ws (options_of args p.values) line) f.words p.arranged) in
    record { values = f.full; arranged = so; is = sym (reads h f.full line so) ∙ is }
