-- Words that have a fault wherever they stand.
use Rattle.safl_command.proofs.Common.{AreTexts, ErrorKind, Kinds, Row, Rule, Shape, Text, and-false, option_map_or, or_else}
use Rattle.std.proofs.Common.{◌≡◌, ◌∙◌, ℕ, List, [], ◌∷◌, ◌++◌, Bool, true, false, Option, Some, None, cond, refl, sym, ap, subst, fold}
use Rattle.std.specs.Prelude.{◌==◌, if◌then◌else◌, slice_get, ◌||◌, ◌&&◌, is_some, option_and_then, length, drop}
use Rattle.std.specs.Str.{bytes_eq, chars, IsUtf8, encode_utf8_all}
use Rattle.std.specs.Char.{encode_utf8}
use Rattle.std.proofs.lemmas.Str.{encodes-chars}
use Rattle.clap.specs.Lexer.{long_of, long_of_rest}
use Rattle.clap.specs.Simple.{filled, help_rule}
use Rattle.clap.specs.Walk.{Held, Walk, Waiting, walked, value, is_pending, takes_values, arg_by_short, arg_by_long, reacted}
use Rattle.clap.specs.Walk.{settled, Step, word_met, subcommand_met}
use Rattle.clap.specs.Faults.{walk_fault, turn_fault, step_fault, other_fault, flag_word_fault, bundle_fault, bundle_step_fault, flags_fault}
use Rattle.clap.specs.Faults.{short_fault, long_fault, react_fault, option_fault, settle_fault, positional_fault, stray_fault, use_fault}
use Rattle.clap.specs.declared.error.kind.ErrorKind.TheVariants as kind
use Rattle.safl_command.proofs.Uses.{placed, rest_placed}
use Rattle.safl_command.proofs.Stepping.{IsRead, unhyphened_no_flag, read_none}
use Rattle.safl_command.proofs.Walking.{at, held, IsOpen, no_subcommand, word_quiet, hyphens_read}
use Rattle.safl_command.proofs.Arranging.{ArePlaces}
use Rattle.safl_command.proofs.Looks.{Looks, plain, hyphens, long, short, looks, Cut, whole, cut, cut_of}

-- ---- faults in turn

pub not_none : (k : ErrorKind) (ks : Kinds) → k ∷ ks ≡ [] → ⊥
not_none k ks h = cc

pub both_none : (a b : Kinds) → or_else a b ≡ [] → (a ≡ []) × (b ≡ [])
both_none [] b h = (refl, h)
both_none (k ∷ ks) b h = absurd (not_none k ks h)

module _ (s : Shape) where
  -- the walk over these words has no fault, and what is pending at its end has none
  pub record IsQuiet (w : Walk) (line : List Text) : Type 0 where
    pub turns : walk_fault s [] w line ≡ []
    pub settles : settle_fault s.rules s.args_override_self (fold (walked s.rules []) w line).held ≡ []

  pub first_quiet : (w : Walk) (word : Text) (line : List Text) → IsQuiet w (word ∷ line) → turn_fault s [] w word ≡ []
  unfolding walk_fault
  first_quiet w word line q = (both_none (turn_fault s [] w word) (walk_fault s [] (walked s.rules [] w word) line) q.turns).0

  next_quiet : (w : Walk) (word : Text) (line : List Text) → IsQuiet w (word ∷ line) → IsQuiet (walked s.rules [] w word) line
  unfolding walk_fault
  next_quiet w word line q = record {
    turns = (both_none (turn_fault s [] w word) (walk_fault s [] (walked s.rules [] w word) line) q.turns).1;
    settles = q.settles;
  }

  rest_quiet : (front line : List Text) (w : Walk) → IsQuiet w (front ++ line) → IsQuiet (fold (walked s.rules []) w front) line
  rest_quiet [] line w q = q
  rest_quiet (word ∷ front) line w q = rest_quiet front line (walked s.rules [] w word) (next_quiet w word (front ++ line) q)

  pub quiet_after : (front line : List Text) (w mid : Walk) → IsRead s w front mid → IsQuiet w (front ++ line) → IsQuiet mid line
  quiet_after front line w mid r q = subst (λ (m : Walk). IsQuiet m line) r.walks (rest_quiet front line w q)

-- ---- letters after one hyphen

react_refused : (c : List Rule) (again : Bool) (h : Held) → react_fault c again (filled help_rule) [] h ≡ [] → ⊥
react_refused c again h e =
    let u : use_fault again (filled help_rule) [] (settled c h).rows ≡ [] = (both_none (settle_fault c again h) (use_fault again (filled help_rule) [] (settled c h).rows) e).1 in
    not_none _ _ u

short_refused : (c : List Rule) (again : Bool) (b : Bool) (rest : Text) (h : Held) (next : Held → Kinds)
    → short_fault c again (cond b (Some (filled help_rule)) None) rest h next ≡ [] → ⊥
short_refused c again false rest h next e = not_none _ _ e
short_refused c again true rest h next e =
    react_refused c again h (both_none (react_fault c again (filled help_rule) [] h) (next (reacted c (filled help_rule) [] h)) e).0

-- a word that begins with a hyphen has a first letter after it
has_letter : (d : ℕ) (ds : Text) → IsUtf8 (45 ∷ (d ∷ ds)) → chars (d ∷ ds) ≡ [] → ⊥
unfolding chars encode_utf8
has_letter d ds text e =
    let a : chars (45 ∷ (d ∷ ds)) ≡ 45 ∷ [] = ap (λ (l : List ℕ). 45 ∷ l) e in
    let b : 45 ∷ [] ≡ 45 ∷ (d ∷ ds) = ap encode_utf8_all (sym a) ∙ encodes-chars (45 ∷ (d ∷ ds)) text in
    cc

bundle_refused : (c : List Rule) (again : Bool) → ((x : ℕ) → arg_by_short c x ≡ arg_by_short (filled help_rule ∷ []) x) → (d : ℕ) (ds : Text) → IsUtf8 (45 ∷ (d ∷ ds))
    → (rows : List Row) (pending : Option (Text × List Text)) → bundle_fault c again (d ∷ ds) (held rows pending) ≡ [] → ⊥
unfolding flags_fault
bundle_refused c again shorts d ds text rows pending e = go (chars (d ∷ ds)) refl
  where
    next : Text → ℕ → Held → Kinds
    next = flags_fault c again (length ds)

    go : (l : List ℕ) → chars (d ∷ ds) ≡ l → ⊥
    go [] is = has_letter d ds text is
    go (x ∷ xs) is =
        let rest : Text = drop (length (encode_utf8 x)) (d ∷ ds) in
        let a : bundle_step_fault c again (Some x) (d ∷ ds) 0 (held rows pending) next ≡ [] =
        ap (λ (l : List ℕ). bundle_step_fault c again (slice_get l 0) (d ∷ ds) 0 (held rows pending) next) (sym is) ∙ e in
        let b : short_fault c again (arg_by_short (filled help_rule ∷ []) x) rest (held rows pending) (next rest 0) ≡ [] =
        ap (λ (o : Option Rule). short_fault c again o rest (held rows pending) (next rest 0)) (sym (shorts x)) ∙ a in
        short_refused c again (104 == x || false) rest (held rows pending) (next rest 0) b

-- ---- options

pub long_settles : (c : List Rule) (again : Bool) (o : Option Rule) (v : Option Text) (h : Held) → long_fault c again o v h ≡ [] → settle_fault c again h ≡ []
long_settles c again None v h e = absurd (not_none _ _ e)
long_settles c again (Some a) v h e = go (takes_values a) v e
  where
    go : (b : Bool) (w : Option Text) → (if b then option_fault c again a w h else (if is_some w then kind.TooManyValues ∷ [] else react_fault c again a [] h)) ≡ []
        → settle_fault c again h ≡ []
    go true (Some x) k = (both_none (settle_fault c again h) (use_fault again a (x ∷ []) (settled c h).rows) k).0
    go true None k = k
    go false (Some x) k = absurd (not_none _ _ k)
    go false None k = (both_none (settle_fault c again h) (use_fault again a [] (settled c h).rows) k).0

pub help_refused : (c : List Rule) (again : Bool) (v : Option Text) (h : Held) → long_fault c again (Some (filled help_rule)) v h ≡ [] → ⊥
help_refused c again (Some x) h e = not_none _ _ e
help_refused c again None h e = react_refused c again h e

-- ---- words at a place of the walk

pub stray_refused : (s : Shape) (b : Bool) → (if b then kind.UnknownArgument ∷ [] else kind.UnknownArgument ∷ (kind.InvalidSubcommand ∷ [])) ≡ [] → ⊥
stray_refused s true e = not_none _ _ e
stray_refused s false e = not_none _ _ e

module _ (s : Shape) (rows : List Row) (pending : Option (Text × List Text)) (waiting : Waiting) (position : ℕ) where
  flag_fault_none : (word : Text) → bytes_eq word (45 ∷ (45 ∷ [])) ≡ false → turn_fault s [] (at rows pending waiting position false) word ≡ []
      → flag_word_fault s.rules s.args_override_self (long_of word) word (held rows pending) ≡ []
  flag_fault_none word dashes e =
      let h : Held = held rows pending in
      let met : Held × Step = word_met s.rules [] false waiting position word h in
      let a : other_fault s (subcommand_met [] waiting word) word h ≡ [] = (both_none (other_fault s (subcommand_met [] waiting word) word h) (step_fault s position met.0 met.1) e).0 in
      let b : other_fault s None word h ≡ [] = ap (λ (o : Option Text). other_fault s o word h) (sym (no_subcommand word waiting)) ∙ a in
      ap (λ (x : Bool). if x then [] else flag_word_fault s.rules s.args_override_self (long_of word) word h) (sym dashes) ∙ b

  pub long_none : (text name : Text) (v : Option Text) → long_of (45 ∷ (45 ∷ text)) ≡ Some (name, v) → bytes_eq (45 ∷ (45 ∷ text)) (45 ∷ (45 ∷ [])) ≡ false
      → turn_fault s [] (at rows pending waiting position false) (45 ∷ (45 ∷ text)) ≡ []
      → long_fault s.rules s.args_override_self (arg_by_long s.rules name) v (held rows pending) ≡ []
  long_none text name v is dashes e =
      ap (λ (o : Option (Text × Option Text)). flag_word_fault s.rules s.args_override_self o (45 ∷ (45 ∷ text)) (held rows pending)) (sym is)
      ∙ flag_fault_none (45 ∷ (45 ∷ text)) dashes e

  pub short_none : ((x : ℕ) → arg_by_short s.rules x ≡ arg_by_short (filled help_rule ∷ []) x) → (d : ℕ) (ds : Text) → (d == 45) ≡ false → IsUtf8 (45 ∷ (d ∷ ds))
      → turn_fault s [] (at rows pending waiting position false) (45 ∷ (d ∷ ds)) ≡ [] → ⊥
  short_none shorts d ds other text e =
      let h : Held = held rows pending in
      let word : Text = 45 ∷ (d ∷ ds) in
      let a : flag_word_fault s.rules s.args_override_self (long_of word) word h ≡ [] =
      flag_fault_none word (ap (λ (b : Bool). b && bytes_eq ds []) other) e in
      let b : flag_word_fault s.rules s.args_override_self None word h ≡ [] =
      ap (λ (x : Bool). flag_word_fault s.rules s.args_override_self (option_and_then long_of_rest (if x then Some ds else None)) word h) (sym other) ∙ a in
      let c : bundle_fault s.rules s.args_override_self (d ∷ ds) h ≡ [] =
      ap (λ (x : Bool). option_map_or (λ flags. bundle_fault s.rules s.args_override_self flags h) (if x then None else Some (d ∷ ds)) []) (sym other) ∙ b in
      bundle_refused s.rules s.args_override_self shorts d ds text rows pending c

  -- ---- what is pending has a fault, and nothing waits for its value

  module _ (names : List Text) (rest : Option Text) (are : ArePlaces s position names rest) where
    value_settles : step_fault s position (held rows pending) value ≡ [] → settle_fault s.rules s.args_override_self (held rows pending) ≡ []
    value_settles e = go names rest are
      where
        F : Option Rule → Kinds
        F o = option_map_or (λ a. positional_fault s.rules s.args_override_self a (held rows pending)) o (stray_fault s)

        go : (ns : List Text) (r : Option Text) → ArePlaces s position ns r → settle_fault s.rules s.args_override_self (held rows pending) ≡ []
        go [] None none = absurd (stray_refused s s.is_leaf (ap F (sym none) ∙ e))
        go [] (Some id) p =
            ap (λ (c : Bool). if c then [] else settle_fault s.rules s.args_override_self (held rows pending)) (sym (and-false (is_pending (rest_placed position id) pending)))
            ∙ ap F (sym p.by_index) ∙ e
        go (n ∷ ns) r p =
            ap (λ (c : Bool). if c then [] else settle_fault s.rules s.args_override_self (held rows pending)) (sym (and-false (is_pending (placed position n) pending)))
            ∙ ap F (sym p.0.by_index) ∙ e

    -- after `--`
    pub trailing_settles : (line : List Text) → IsQuiet s (at rows pending waiting position true) line → settle_fault s.rules s.args_override_self (held rows pending) ≡ []
    trailing_settles [] q = q.settles
    trailing_settles (word ∷ line) q = value_settles (first_quiet s (at rows pending waiting position true) word line q)

    -- before it
    pub open_settles : IsOpen waiting → ((x : ℕ) → arg_by_short s.rules x ≡ arg_by_short (filled help_rule ∷ []) x) → (line : List Text) → AreTexts line
        → IsQuiet s (at rows pending waiting position false) line → settle_fault s.rules s.args_override_self (held rows pending) ≡ []
    open_settles open_so shorts [] texts q = q.settles
    open_settles open_so shorts (first ∷ line) texts q = go first (looks first) texts.0 q
      where
        go : (w : Text) → Looks w → IsUtf8 w → IsQuiet s (at rows pending waiting position false) (w ∷ line) → settle_fault s.rules s.args_override_self (held rows pending) ≡ []
        go word (plain w u) text k =
            value_settles (sym (word_quiet s rows pending waiting position open_so w false (unhyphened_no_flag w u)) ∙ first_quiet s (at rows pending waiting position false) w line k)
        go word hyphens text k =
            trailing_settles line (quiet_after s ((45 ∷ (45 ∷ [])) ∷ []) line (at rows pending waiting position false) (at rows pending waiting position true)
            (hyphens_read s rows pending waiting position [] (at rows pending waiting position true) (read_none s (at rows pending waiting position true))) k)
        go word (short d ds other) text k = absurd (short_none shorts d ds other text (first_quiet s (at rows pending waiting position false) (45 ∷ (d ∷ ds)) line k))
        go word (long e es) text k = by_cut (cut_of e es) (first_quiet s (at rows pending waiting position false) (45 ∷ (45 ∷ (e ∷ es))) line k)
          where
            by_cut : Cut (e ∷ es) → turn_fault s [] (at rows pending waiting position false) (45 ∷ (45 ∷ (e ∷ es))) ≡ [] → settle_fault s.rules s.args_override_self (held rows pending) ≡ []
            by_cut (whole name is same) f =
                long_settles s.rules s.args_override_self (arg_by_long s.rules name) None (held rows pending) (long_none (e ∷ es) name None is refl f)
            by_cut (cut name v is same) f =
                long_settles s.rules s.args_override_self (arg_by_long s.rules name) (Some v) (held rows pending) (long_none (e ∷ es) name (Some v) is refl f)
