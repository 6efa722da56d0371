-- A line that a command reads without a fault is arranged of words and options of the command's form.
use Rattle.safl_command.proofs.Common.{Row, Rule, Shape, Text, false≢true, option_map_or, or_else, or_parts}
use Rattle.std.proofs.Common.{◌≡◌, ◌∙◌, ℕ, List, [], ◌∷◌, ◌++◌, Bool, true, false, Option, Some, None, refl, sym, ap, subst, inl, inr, codes, ◌||◌, append_assoc}
use Rattle.std.specs.Str.{bytes_eq, IsUtf8}
use Rattle.clap.specs.Simple.{filled, help_rule}
use Rattle.clap.specs.Walk.{Held, Walk, Waiting, Step, idle, option, arg_by_short, has_row, arg_by_long, settled}
use Rattle.clap.specs.Faults.{turn_fault, step_fault, settle_fault, stray_fault, positional_fault, use_fault, long_fault}
use Rattle.safl_command.specs.Arranged.{GivenOption, IsUnhyphened, IsWritten, Arranged, AreTexts, ends, then_word, then_option, then_hyphens}
use Rattle.safl_command.specs.Forms.{Argument}
use Rattle.safl_command.proofs.Rows.{more, has_more, same_text, self_text}
use Rattle.safl_command.proofs.Uses.{valued, flagged, adds_valued, repeated}
use Rattle.safl_command.proofs.Stepping.{read_none, unhyphened_no_flag}
use Rattle.safl_command.proofs.Walking.{at, held, IsOpen, IsPlaced, IsLong, Calm, calm_pending, calm_used}
use Rattle.safl_command.proofs.Walking.{hyphens_read, waits_read, value_read, word_quiet, long_quiet, met}
use Rattle.safl_command.proofs.Arranging.{among, are_distinct, named, given_value, AreTaken, IsFlag, IsValued, IsDeclared, ArePlaces, IsNotAmong, Ready, still_new}
use Rattle.safl_command.proofs.Arranging.{WordStep, word_step, OptionStep, option_step}
use Rattle.safl_command.proofs.Looks.{Looks, plain, hyphens, long, short, looks, Cut, whole, cut, cut_of}
use Rattle.safl_command.proofs.Refused.{IsQuiet, first_quiet, quiet_after, both_none, not_none, long_none}
use Rattle.safl_command.proofs.Refused.{short_none, help_refused, open_settles, trailing_settles, stray_refused, long_settles}
use Rattle.safl_command.proofs.FormValues.{rules_from, is_option, Values, options_of, no_values, no_options, IsOptionOf, option_is, Inserted}
use Rattle.safl_command.proofs.FormValues.{insert, AreKnown, LongView, unknown, helps, takes, switches, long_view, shorts}

-- ---- options that are inserted

named_insert : (id : Text) (before after : List GivenOption) (o : GivenOption) → bytes_eq o.name id ≡ false → named id (before ++ after) ≡ false → named id (before ++ (o ∷ after)) ≡ false
named_insert id [] after o h k = ap (λ (b : Bool). b || named id after) h ∙ k
named_insert id (x ∷ xs) after o h k =
    let p : (bytes_eq x.name id ≡ false) × (named id (xs ++ after) ≡ false) = or_parts (bytes_eq x.name id) (named id (xs ++ after)) k in
    ap (λ (b : Bool). b || named id (xs ++ (o ∷ after))) p.0 ∙ named_insert id xs after o h p.1

no_name_twice : (id v : Text) (a : Rule) (sum : List Row) → a.id ≡ id → has_row id (more a v sum) ≡ false → ⊥
no_name_twice id v a sum is h =
    let p : (bytes_eq a.id id ≡ false) × (has_row id sum ≡ false) = or_parts (bytes_eq a.id id) (has_row id sum) (sym (has_more id a v sum) ∙ h) in
    false≢true (sym p.0 ∙ ap (λ (x : Text). bytes_eq x id) is ∙ self_text id)

-- the word of an option with its value
joined_word : (name v : Text) → 45 ∷ (45 ∷ (name ++ (61 ∷ v))) ≡ codes "--" ++ name ++ codes "=" ++ v
joined_word name v = ap (λ (l : Text). 45 ∷ (45 ∷ l)) (sym (append_assoc name (61 ∷ []) v))

-- a use that has no fault is the first one
first_use : (again b : Bool) → again ≡ false → repeated again b ≡ [] → b ≡ false
first_use again false e h = refl
first_use again true e h = absurd (not_none _ _ (ap (λ (x : Bool). repeated x true) (sym e) ∙ h))

-- ---- the words and options of a line

module _ (s : Shape) (args : List Argument) (rules_are : s.rules ≡ rules_from 1 args) (known : AreKnown s args) (once : s.args_override_self ≡ false) where
  short_so : (x : ℕ) → arg_by_short s.rules x ≡ arg_by_short (filled help_rule ∷ []) x
  short_so x = ap (λ (l : List Rule). arg_by_short l x) rules_are ∙ shorts args 1 x

  -- the words and options of a line, where `sum` was found before it
  pub record Parts (line : List Text) (sum : List Row) (places : List Text) (rest : Option Text) : Type 0 where
    pub words : List Text
    pub values : Values args
    pub arranged : Arranged words (options_of args values) line
    pub fresh : (id : Text) → named id (options_of args values) ≡ true → has_row id sum ≡ false
    pub taken : AreTaken places rest words

  -- the places of the words to come, which are not options
  pub record ArePlaced (sum : List Row) (position : ℕ) (places : List Text) (rest : Option Text) : Type 0 where
    pub ready : Ready s sum position [] places rest
    pub apart : (id : Text) → among id places ≡ true → is_option id args ≡ false

  option_filled : (sum : List Row) (position : ℕ) (places : List Text) (rest : Option Text) (o : GivenOption) (a : Rule) (v : Text) → IsOptionOf args o → a.id ≡ o.name
      → ArePlaced sum position places rest → ArePlaced (more a v sum) position places rest
  option_filled sum position places rest o a v is_of is p = record {
    ready = record {
      declared = tt;
      are_places = p.ready.are_places;
      distinct = p.ready.distinct;
      new = still_new s o.name places a v sum is (go (among o.name places) refl) p.ready.new;
      other = p.ready.other;
    };
    apart = p.apart;
  }
    where
      go : (b : Bool) → among o.name places ≡ b → b ≡ false
      go true e = absurd (false≢true (sym (p.apart o.name e) ∙ option_is args o is_of))
      go false e = refl

  -- ---- what a word adds

  with_option : (o : GivenOption) (written line : List Text) (sum : List Row) (places : List Text) (rest : Option Text) (a : Rule) (v : Text) → IsOptionOf args o
      → IsWritten o.name o.value written → has_row o.name sum ≡ false → a.id ≡ o.name → Parts line (more a v sum) places rest → Parts (written ++ line) sum places rest
  with_option o written line sum places rest a v is_of is_written new is p =
      let i : Inserted (Values args) (options_of args) (options_of args p.values) o = insert args p.values o is_of (unnamed (named o.name (options_of args p.values)) refl) in
      record {
        words = p.words;
        values = i.values_then;
        arranged = subst (λ (os : List GivenOption). Arranged p.words os (written ++ line)) (sym i.then_is)
            (then_option p.words i.before i.after o written line is_written (subst (λ (os : List GivenOption). Arranged p.words os line) i.is p.arranged));
        fresh = λ id h. still i id h (has_row id sum) refl;
        taken = p.taken;
      }
    where
      unnamed : (b : Bool) → named o.name (options_of args p.values) ≡ b → b ≡ false
      unnamed true e = absurd (no_name_twice o.name v a sum is (p.fresh o.name e))
      unnamed false e = refl

      -- a name that has a row is none of these
      other : (id : Text) → has_row id sum ≡ true → (b : Bool) → named id (options_of args p.values) ≡ b → b ≡ false
      other id there true e =
          absurd (false≢true (sym (or_parts (bytes_eq a.id id) (has_row id sum) (sym (has_more id a v sum) ∙ p.fresh id e)).1 ∙ there))
      other id there false e = refl

      apart : (id : Text) → has_row id sum ≡ true → (b : Bool) → bytes_eq o.name id ≡ b → b ≡ false
      apart id there true e = absurd (false≢true (sym new ∙ ap (λ (x : Text). has_row x sum) (same_text o.name id e) ∙ there))
      apart id there false e = refl

      still : (i : Inserted (Values args) (options_of args) (options_of args p.values) o) → (id : Text) → named id (options_of args i.values_then) ≡ true → (b : Bool) → has_row id sum ≡ b → b ≡ false
      still i id h false e = refl
      still i id h true e =
          let none : named id (i.before ++ i.after) ≡ false = ap (λ (l : List GivenOption). named id l) (sym i.is) ∙ other id e (named id (options_of args p.values)) refl in
          let all : named id (i.before ++ (o ∷ i.after)) ≡ false = named_insert id i.before i.after o (apart id e (bytes_eq o.name id) refl) none in
          absurd (false≢true (sym all ∙ ap (λ (l : List GivenOption). named id l) (sym i.then_is) ∙ h))

  no_parts : (line words : List Text) (sum : List Row) (places : List Text) (rest : Option Text) → AreTaken places rest words → Arranged words [] line → Parts line sum places rest
  no_parts line words sum places rest taken so = record {
    words = words;
    values = no_values args;
    arranged = subst (λ (os : List GivenOption). Arranged words os line) (sym (no_options args)) so;
    fresh = λ id h. absurd (false≢true (ap (λ (os : List GivenOption). named id os) (sym (no_options args)) ∙ h));
    taken = taken;
  }

  -- ---- the walk

  module _ (rows : List Row) (pending : Option (Text × List Text)) (waiting : Waiting) (position : ℕ) (sum : List Row) (open_so : IsOpen waiting) (calm : Calm s (held rows pending) sum)
      (is_trailing : Bool) (word : Text) (plain_so : IsPlaced word is_trailing) (line : List Text) (q : IsQuiet s (at rows pending waiting position is_trailing) (word ∷ line)) where
    -- a word that goes to no place has a fault
    has_place : (places : List Text) (rest : Option Text) → ArePlaces s position places rest → AreTaken places rest (word ∷ [])
    has_place [] None are =
        absurd (stray_refused s s.is_leaf (ap (λ (o : Option Rule). option_map_or (λ a. positional_fault s.rules s.args_override_self a (held rows pending)) o (stray_fault s)) (sym are)
        ∙ sym (word_quiet s rows pending waiting position open_so word is_trailing plain_so)
        ∙ first_quiet s (at rows pending waiting position is_trailing) word line q))
    has_place [] (Some r) are = tt
    has_place (n ∷ ns) rest are = tt

    step_of : (places : List Text) (rest : Option Text) → ArePlaced sum position places rest → WordStep s rows pending waiting position sum open_so calm is_trailing word [] places rest []
    step_of places rest p =
        word_step s rows pending waiting position sum open_so calm is_trailing word plain_so [] places rest [] p.ready (has_place places rest p.ready.are_places)

    -- the line after it, and its places
    module _ (places : List Text) (rest : Option Text) (p : ArePlaced sum position places rest) (t : WordStep s rows pending waiting position sum open_so calm is_trailing word [] places rest []) where
      quiet_then : IsQuiet s (at sum t.pending_then t.waiting_then t.position_then is_trailing) line
      quiet_then =
          let w : Walk = at sum t.pending_then t.waiting_then t.position_then is_trailing in
          quiet_after s (word ∷ []) line (at rows pending waiting position is_trailing) w (t.goes [] w (read_none s w)) q

      placed_then : ArePlaced (more t.a word sum) t.position_then t.places_then rest
      placed_then = record { ready = t.ready_then; apart = λ id h. p.apart id (t.fewer id h) }

  -- the words after `--`
  trailing_taken : (line : List Text) (rows : List Row) (pending : Option (Text × List Text)) (waiting : Waiting) (position : ℕ) (sum : List Row) (places : List Text) (rest : Option Text)
      → IsOpen waiting → Calm s (held rows pending) sum → ArePlaced sum position places rest → IsQuiet s (at rows pending waiting position true) line → AreTaken places rest line
  trailing_taken [] rows pending waiting position sum places rest open_so calm p q = tt
  trailing_taken (word ∷ line) rows pending waiting position sum places rest open_so calm p q =
      let t : WordStep s rows pending waiting position sum open_so calm true word [] places rest [] = step_of rows pending waiting position sum open_so calm true word tt line q places rest p in
      t.taken_back line (trailing_taken line sum t.pending_then t.waiting_then t.position_then (more t.a word sum) t.places_then rest t.open_then t.calm_then
      (placed_then rows pending waiting position sum open_so calm true word tt line q places rest p t) (quiet_then rows pending waiting position sum open_so calm true word tt line q places rest p t))

  -- a line that is read where nothing waits for a value
  abbrev IsParted : List Text → Type 0
  IsParted line = (rows : List Row) (pending : Option (Text × List Text)) (waiting : Waiting) (position : ℕ) (sum : List Row) (places : List Text) (rest : Option Text)
      → IsOpen waiting → Calm s (held rows pending) sum → ArePlaced sum position places rest → IsQuiet s (at rows pending waiting position false) line → Parts line sum places rest

  -- a line that is read where an option waits for its value
  record Valued (line : List Text) (name : Text) (a : Rule) (sum : List Row) (places : List Text) (rest : Option Text) : Type 0 where
    pub v : Text
    pub after : List Text
    pub is : line ≡ v ∷ after
    pub unhyphened : IsUnhyphened v
    pub new : has_row name sum ≡ false
    pub parts : Parts after (more a v sum) places rest

  abbrev IsValuedFirst : List Text → Type 0
  IsValuedFirst line = (name : Text) (required : Bool) (d : IsValued s required name) → ((v : Text) → IsOptionOf args (record { name = name; value = Some v }))
      → (position : ℕ) (sum : List Row) (places : List Text) (rest : Option Text) → ArePlaced sum position places rest
      → IsQuiet s (at sum (Some (name, [])) (option name) position false) line → Valued line name (valued required name) sum places rest

  -- an option without a value cannot be used
  no_value_yet : (name : Text) (required : Bool) (d : IsValued s required name) (sum : List Row) → settle_fault s.rules s.args_override_self (held sum (Some (name, []))) ≡ [] → ⊥
  no_value_yet name required d sum e =
      not_none _ _ (ap (λ (o : Option Rule). option_map_or (λ a. use_fault s.args_override_self a [] sum) o []) (sym d.by_id) ∙ e)

  -- ---- one word of a line

  module _ (line : List Text) (rows : List Row) (pending : Option (Text × List Text)) (waiting : Waiting) (position : ℕ) (sum : List Row) (open_so : IsOpen waiting)
      (calm : Calm s (held rows pending) sum) where
    abbrev Now : Walk
    Now = at rows pending waiting position false

    plain_parted : IsParted line → (word : Text) → IsUnhyphened word → (places : List Text) (rest : Option Text) → ArePlaced sum position places rest
        → IsQuiet s Now (word ∷ line) → Parts (word ∷ line) sum places rest
    plain_parted ih word u places rest p q =
        let no_flag : IsPlaced word false = unhyphened_no_flag word u in
        let t : WordStep s rows pending waiting position sum open_so calm false word [] places rest [] =
        step_of rows pending waiting position sum open_so calm false word no_flag line q places rest p in
        let k : Parts line (more t.a word sum) t.places_then rest =
        ih sum t.pending_then t.waiting_then t.position_then (more t.a word sum) t.places_then rest t.open_then t.calm_then
        (placed_then rows pending waiting position sum open_so calm false word no_flag line q places rest p t)
        (quiet_then rows pending waiting position sum open_so calm false word no_flag line q places rest p t) in
        record {
          words = word ∷ k.words;
          values = k.values;
          arranged = then_word word k.words (options_of args k.values) line u k.arranged;
          fresh = λ id h. (or_parts (bytes_eq t.a.id id) (has_row id sum) (sym (has_more id t.a word sum) ∙ k.fresh id h)).1;
          taken = t.taken_back k.words k.taken;
        }

    -- the use of an option has no fault
    use_none : (word name : Text) (v : Option Text) (a : Rule) → IsLong s word name v a → IsQuiet s Now (word ∷ line)
        → long_fault s.rules s.args_override_self (Some a) v (held rows pending) ≡ []
    use_none word name v a l q =
        let m : Held × Step = met s rows pending waiting position sum open_so calm line Now word v a in
        (both_none (long_fault s.rules s.args_override_self (Some a) v (held rows pending)) (step_fault s position m.0 m.1)
        (sym (long_quiet s rows pending waiting position sum open_so calm line Now word name v a l) ∙ first_quiet s Now word line q)).0

    module _ (places : List Text) (rest : Option Text) (p : ArePlaced sum position places rest) where
      -- an option that is used by one word
      used_parted : IsParted line → (word : Text) (o : GivenOption) → IsDeclared s o.name o.value → IsWritten o.name o.value (word ∷ []) → IsOptionOf args o
          → has_row o.name sum ≡ false → IsQuiet s Now (word ∷ line) → Parts (word ∷ line) sum places rest
      used_parted ih word o d w is_of new q =
          let v : Text = given_value o in
          let t : OptionStep s rows pending waiting position sum open_so calm o.name v (word ∷ []) = option_step s rows pending waiting position sum open_so calm o.name o.value (word ∷ []) d w new in
          let then : Walk = at t.rows_then t.pending_then idle position false in
          with_option o (word ∷ []) line sum places rest t.a v is_of w new t.is
          (ih t.rows_then t.pending_then idle position (more t.a v sum) places rest tt t.calm_then (option_filled sum position places rest o t.a v is_of t.is p)
          (quiet_after s (word ∷ []) line Now then (t.goes [] then (read_none s then)) q))

      -- its name is new
      new_name : (word name : Text) (v : Option Text) (a : Rule) (vs : List Text) → IsLong s word name v a → IsQuiet s Now (word ∷ line)
          → long_fault s.rules s.args_override_self (Some a) v (held rows pending)
          ≡ or_else (settle_fault s.rules s.args_override_self (held rows pending)) (use_fault s.args_override_self a vs (settled s.rules (held rows pending)).rows)
          → use_fault s.args_override_self a vs sum ≡ repeated s.args_override_self (has_row name sum) → has_row name sum ≡ false
      new_name word name v a vs l q comes uses =
          let again : Bool = s.args_override_self in
          first_use again (has_row name sum) once (sym uses ∙ ap (λ (rs : List Row). use_fault again a vs rs) (sym calm.rows_are)
          ∙ (both_none (settle_fault s.rules again (held rows pending)) (use_fault again a vs (settled s.rules (held rows pending)).rows) (sym comes ∙ use_none word name v a l q)).1)

      flag_parted : IsParted line → (name : Text) → IsFlag s name → IsOptionOf args (record { name = name; value = None })
          → IsQuiet s Now ((45 ∷ (45 ∷ name)) ∷ line) → Parts ((45 ∷ (45 ∷ name)) ∷ line) sum places rest
      flag_parted ih name d is_of q =
          used_parted ih (45 ∷ (45 ∷ name)) (record { name = name; value = None }) d refl is_of (new_name (45 ∷ (45 ∷ name)) name None (flagged name) [] d.is q refl refl) q

      joined_parted : IsParted line → (name v : Text) (required : Bool) → IsValued s required name → IsOptionOf args (record { name = name; value = Some v })
          → IsQuiet s Now ((codes "--" ++ name ++ codes "=" ++ v) ∷ line) → Parts ((codes "--" ++ name ++ codes "=" ++ v) ∷ line) sum places rest
      joined_parted ih name v required d is_of q =
          let word : Text = codes "--" ++ name ++ codes "=" ++ v in
          used_parted ih word (record { name = name; value = Some v }) (required, d) (inr refl) is_of (new_name word name (Some v) (valued required name) (v ∷ []) (d.joined v) q refl refl) q

      apart_parted : IsValuedFirst line → (name : Text) (required : Bool) → IsValued s required name → ((v : Text) → IsOptionOf args (record { name = name; value = Some v }))
          → IsQuiet s Now ((45 ∷ (45 ∷ name)) ∷ line) → Parts ((45 ∷ (45 ∷ name)) ∷ line) sum places rest
      apart_parted first name required d is_of q =
          let word : Text = 45 ∷ (45 ∷ name) in
          let a : Rule = valued required name in
          let w : Walk = at sum (Some (name, [])) (option name) position false in
          let t : Valued line name a sum places rest =
          first name required d is_of position sum places rest p
          (quiet_after s (word ∷ []) line Now w (waits_read s rows pending waiting position sum open_so calm [] w word name required d.apart (read_none s w)) q) in
          subst (λ (l : List Text). Parts (word ∷ l) sum places rest) (sym t.is)
          (with_option (record { name = name; value = Some t.v }) (word ∷ (t.v ∷ [])) t.after sum places rest a t.v (is_of t.v) (inl (t.unhyphened, refl)) t.new refl t.parts)

      hyphens_parted : IsQuiet s Now ((45 ∷ (45 ∷ [])) ∷ line) → Parts ((45 ∷ (45 ∷ [])) ∷ line) sum places rest
      hyphens_parted q =
          let w : Walk = at rows pending waiting position true in
          no_parts ((45 ∷ (45 ∷ [])) ∷ line) line sum places rest
          (trailing_taken line rows pending waiting position sum places rest open_so calm p
          (quiet_after s ((45 ∷ (45 ∷ [])) ∷ []) line Now w (hyphens_read s rows pending waiting position [] w (read_none s w)) q))
          (then_hyphens line)

      long_parted : IsParted line → IsValuedFirst line → (e : ℕ) (es : Text) → Cut (e ∷ es) → IsQuiet s Now ((45 ∷ (45 ∷ (e ∷ es))) ∷ line)
          → Parts ((45 ∷ (45 ∷ (e ∷ es))) ∷ line) sum places rest
      long_parted ih first e es (whole name is same) q =
          go (long_view s args name args 1 known (λ o h. h) (ap (λ (l : List Rule). arg_by_long l name) rules_are))
        where
          fault : long_fault s.rules s.args_override_self (arg_by_long s.rules name) None (held rows pending) ≡ []
          fault = long_none s rows pending waiting position (e ∷ es) name None is refl (first_quiet s Now (45 ∷ (45 ∷ (e ∷ es))) line q)

          over : (IsQuiet s Now ((45 ∷ (45 ∷ name)) ∷ line) → Parts ((45 ∷ (45 ∷ name)) ∷ line) sum places rest) → Parts ((45 ∷ (45 ∷ (e ∷ es))) ∷ line) sum places rest
          over f = subst (λ (t : Text). IsQuiet s Now ((45 ∷ (45 ∷ t)) ∷ line) → Parts ((45 ∷ (45 ∷ t)) ∷ line) sum places rest) (sym same) f q

          go : LongView s args name → Parts ((45 ∷ (45 ∷ (e ∷ es))) ∷ line) sum places rest
          go (unknown none) = absurd (not_none _ _ (ap (λ (o : Option Rule). long_fault s.rules s.args_override_self o None (held rows pending)) (sym none) ∙ fault))
          go (helps there) =
              absurd (help_refused s.rules s.args_override_self None (held rows pending)
              (ap (λ (o : Option Rule). long_fault s.rules s.args_override_self o None (held rows pending)) (sym there) ∙ fault))
          go (takes required d is_of) = over (apart_parted first name required d is_of)
          go (switches d is_of) = over (flag_parted ih name d is_of)
      long_parted ih first e es (cut name v is same) q =
          go (long_view s args name args 1 known (λ o h. h) (ap (λ (l : List Rule). arg_by_long l name) rules_are))
        where
          fault : long_fault s.rules s.args_override_self (arg_by_long s.rules name) (Some v) (held rows pending) ≡ []
          fault = long_none s rows pending waiting position (e ∷ es) name (Some v) is refl (first_quiet s Now (45 ∷ (45 ∷ (e ∷ es))) line q)

          over : (IsQuiet s Now ((codes "--" ++ name ++ codes "=" ++ v) ∷ line) → Parts ((codes "--" ++ name ++ codes "=" ++ v) ∷ line) sum places rest)
              → Parts ((45 ∷ (45 ∷ (e ∷ es))) ∷ line) sum places rest
          over f =
              subst (λ (t : Text). IsQuiet s Now (t ∷ line) → Parts (t ∷ line) sum places rest)
              (sym (ap (λ (t : Text). 45 ∷ (45 ∷ t)) same ∙ joined_word name v)) f q

          go : LongView s args name → Parts ((45 ∷ (45 ∷ (e ∷ es))) ∷ line) sum places rest
          go (unknown none) = absurd (not_none _ _ (ap (λ (o : Option Rule). long_fault s.rules s.args_override_self o (Some v) (held rows pending)) (sym none) ∙ fault))
          go (helps there) =
              absurd (help_refused s.rules s.args_override_self (Some v) (held rows pending)
              (ap (λ (o : Option Rule). long_fault s.rules s.args_override_self o (Some v) (held rows pending)) (sym there) ∙ fault))
          go (takes required d is_of) = over (joined_parted ih name v required d (is_of v))
          go (switches d is_of) =
              absurd (not_none _ _ (ap (λ (o : Option Rule). long_fault s.rules s.args_override_self o (Some v) (held rows pending)) (sym d.is.by_long) ∙ fault))

      word_parted : IsParted line → IsValuedFirst line → (word : Text) → IsUtf8 word → Looks word → IsQuiet s Now (word ∷ line) → Parts (word ∷ line) sum places rest
      word_parted ih first word text (plain w u) q = plain_parted ih w u places rest p q
      word_parted ih first word text hyphens q = hyphens_parted q
      word_parted ih first word text (long e es) q = long_parted ih first e es (cut_of e es) q
      word_parted ih first word text (short d ds other) q =
          absurd (short_none s rows pending waiting position short_so d ds other text (first_quiet s Now (45 ∷ (d ∷ ds)) line q))

  -- ---- the value of an option

  module _ (line : List Text) (texts : AreTexts line) (name : Text) (required : Bool) (d : IsValued s required name) (is_of : (v : Text) → IsOptionOf args (record { name = name; value = Some v }))
      (position : ℕ) (sum : List Row) (places : List Text) (rest : Option Text) (p : ArePlaced sum position places rest) where
    abbrev Waits : Walk
    Waits = at sum (Some (name, [])) (option name) position false

    value_parted : IsParted line → (v : Text) → IsUtf8 v → Looks v → IsQuiet s Waits (v ∷ line) → Valued (v ∷ line) name (valued required name) sum places rest
    value_parted ih v text (plain w u) q =
        let a : Rule = valued required name in
        let again : Bool = s.args_override_self in
        let held_then : Walk = at sum (Some (name, w ∷ [])) idle position false in
        let quiet : IsQuiet s held_then line =
        quiet_after s (w ∷ []) line Waits held_then (value_read s sum position name w required (unhyphened_no_flag w u) d.by_id d.self [] held_then (read_none s held_then)) q in
        let settles : settle_fault s.rules again (held sum (Some (name, w ∷ []))) ≡ [] =
        open_settles s sum (Some (name, w ∷ [])) idle position places rest p.ready.are_places tt short_so line texts quiet in
        let f : use_fault again a (w ∷ []) sum ≡ [] = ap (λ (o : Option Rule). option_map_or (λ r. use_fault again r (w ∷ []) sum) o []) (sym d.by_id) ∙ settles in
        let new : has_row name sum ≡ false = first_use again (has_row name sum) once f in
        record {
          v = w;
          after = line;
          is = refl;
          unhyphened = u;
          new = new;
          parts = ih sum (Some (name, w ∷ [])) idle position (more a w sum) places rest tt
              (calm_pending s sum a (w ∷ []) w d.by_id (adds_valued again name w sum required new))
              (option_filled sum position places rest (record { name = name; value = Some w }) a w (is_of w) refl p) quiet;
        }
    value_parted ih v text hyphens q =
        absurd (no_value_yet name required d sum (trailing_settles s sum (Some (name, [])) (option name) position places rest p.ready.are_places line
        (quiet_after s ((45 ∷ (45 ∷ [])) ∷ []) line Waits (at sum (Some (name, [])) (option name) position true)
        (hyphens_read s sum (Some (name, [])) (option name) position [] (at sum (Some (name, [])) (option name) position true)
        (read_none s (at sum (Some (name, [])) (option name) position true))) q)))
    value_parted ih v text (short x xs other) q =
        absurd (short_none s sum (Some (name, [])) (option name) position short_so x xs other text (first_quiet s Waits (45 ∷ (x ∷ xs)) line q))
    value_parted ih v text (long e es) q = by_cut (cut_of e es)
      where
        turn : turn_fault s [] (at sum (Some (name, [])) (option name) position false) (45 ∷ (45 ∷ (e ∷ es))) ≡ []
        turn = first_quiet s (at sum (Some (name, [])) (option name) position false) (45 ∷ (45 ∷ (e ∷ es))) line q

        by_cut : Cut (e ∷ es) → Valued (v ∷ line) name (valued required name) sum places rest
        by_cut (whole other is same) =
            absurd (no_value_yet name required d sum (long_settles s.rules s.args_override_self (arg_by_long s.rules other) None (held sum (Some (name, [])))
            (long_none s sum (Some (name, [])) (option name) position (e ∷ es) other None is refl turn)))
        by_cut (cut other x is same) =
            absurd (no_value_yet name required d sum (long_settles s.rules s.args_override_self (arg_by_long s.rules other) (Some x) (held sum (Some (name, [])))
            (long_none s sum (Some (name, [])) (option name) position (e ∷ es) other (Some x) is refl turn)))

  -- ---- all of a line

  both_parted : (line : List Text) → AreTexts line → IsParted line × IsValuedFirst line
  both_parted [] texts = (
    λ rows pending waiting position sum places rest open_so calm p q. no_parts [] [] sum places rest tt ends,
    λ name required d is_of position sum places rest p q. absurd (no_value_yet name required d sum q.settles),
  )
  both_parted (word ∷ line) texts =
      let ih : IsParted line × IsValuedFirst line = both_parted line texts.1 in (
        λ rows pending waiting position sum places rest open_so calm p q.
            word_parted line rows pending waiting position sum open_so calm places rest p ih.0 ih.1 word texts.0 (looks word) q,
        λ name required d is_of position sum places rest p q. value_parted line texts.1 name required d is_of position sum places rest p ih.0 word texts.0 (looks word) q,
      )

  pub parted : (line : List Text) → AreTexts line → (places : List Text) (rest : Option Text) → ArePlaces s 1 places rest → are_distinct places ≡ true → IsNotAmong s rest places
      → ((id : Text) → among id places ≡ true → is_option id args ≡ false) → IsQuiet s (at [] None idle 1 false) line → Parts line [] places rest
  parted line texts places rest are distinct other apart q =
      (both_parted line texts).0 [] None idle 1 [] places rest tt (calm_used s [] [] refl)
      (record { ready = record { declared = tt; are_places = are; distinct = distinct; new = λ id h. refl; other = other }; apart = apart }) q
