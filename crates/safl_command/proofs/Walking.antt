-- How `clap` reads the words and the options of a command, one by one.
use Rattle.safl_command.proofs.Common.{Kinds, Row, Rule, Shape, Text, option_map_or, or_else}
use Rattle.std.proofs.Common.{◌≡◌, ◌∙◌, ℕ, ◌+◌, min, List, [], ◌∷◌, Bool, true, false, Option, Some, None, refl, ap, codes, ◌||◌}
use Rattle.std.specs.Prelude.{if◌then◌else◌, nat_lt}
use Rattle.std.specs.Str.{bytes_eq}
use Rattle.clap.specs.Lexer.{long_of, usize_max}
use Rattle.clap.specs.Walk.{Held, Walk, Step, Waiting, idle, option, positional, value, trailing, walked, after_step, after_flag, plain_word}
use Rattle.clap.specs.Walk.{option_word, long_met, long_or_other, subcommand_met, subcommand_or_other, settled, settled_rows}
use Rattle.clap.specs.Walk.{to_positional, pushed, used, next, is_pending, arg_by_id, arg_by_index, arg_by_long, used_by_id}
use Rattle.clap.specs.Faults.{turn_fault, step_fault, other_fault, flag_word_fault, long_fault, settle_fault, positional_fault, stray_fault, use_fault}
use Rattle.std.proofs.Math.Bool.{and-false, or-false}
use Rattle.safl_command.proofs.Rows.{more}
use Rattle.safl_command.proofs.Uses.{valued, flagged, placed, rest_placed, Adds}
use Rattle.safl_command.proofs.Stepping.{IsRead, IsNoFlag, read_word, read_so, walked_plain, quiet_plain, plain_walk}

-- between two words
abbrev pub at : List Row → Option (Text × List Text) → Waiting → ℕ → Bool → Walk
at rows pending waiting position is_trailing = record {
  held = record { rows = rows; pending = pending; skip = 0 };
  waiting = waiting;
  position = position;
  is_trailing = is_trailing;
  stopped = None;
}

-- nothing waits for a value
abbrev pub IsOpen : Waiting → Type 0
IsOpen idle = Unit {0}
IsOpen positional = Unit {0}
IsOpen (option id) = ⊥

-- what is pending can be used, and then these are the rows
pub record Calm (s : Shape) (h : Held) (sum : List Row) : Type 0 where
  pub fault : settle_fault s.rules s.args_override_self h ≡ []
  pub rows_are : (settled s.rules h).rows ≡ sum

abbrev pub held : List Row → Option (Text × List Text) → Held
held rows pending = record { rows = rows; pending = pending; skip = 0 }

module _ (s : Shape) (sum : List Row) where
  -- a use that is pending
  pub calm_pending : (a : Rule) (vs : List Text) (v : Text) → arg_by_id s.rules a.id ≡ Some a → Adds s.args_override_self a vs v sum
      → Calm s (held sum (Some (a.id, vs))) (more a v sum)
  calm_pending a vs v by adds = record {
    fault = ap (λ (o : Option Rule). option_map_or (λ r. use_fault s.args_override_self r vs sum) o []) by ∙ adds.fault;
    rows_are = ap (λ (o : Option Rule). used_by_id o vs sum) by ∙ adds.rows_are;
  }

  -- a use that is made
  pub calm_used : (rows : List Row) → rows ≡ sum → Calm s (held rows None) sum
  calm_used rows e = record { fault = refl; rows_are = e }

-- a word is no flag, or stands after `--`
abbrev pub IsPlaced : Text → Bool → Type 0
IsPlaced word false = IsNoFlag word
IsPlaced word true = Unit {0}

-- the word is that of an option
pub record IsLong (s : Shape) (word name : Text) (v : Option Text) (a : Rule) : Type 0 where
  pub dashes : bytes_eq word (45 ∷ 45 ∷ []) ≡ false
  pub long : long_of word ≡ Some (name, v)
  pub by_long : arg_by_long s.rules name ≡ Some a

pub no_subcommand : (word : Text) (w : Waiting) → subcommand_met [] w word ≡ None
no_subcommand word idle = refl
no_subcommand word (option id) = refl
no_subcommand word positional = refl

module _ (s : Shape) (rows : List Row) (pending : Option (Text × List Text)) (waiting : Waiting) (position : ℕ) where
  pub word_quiet : IsOpen waiting → (word : Text) (after_hyphens : Bool) → IsPlaced word after_hyphens → turn_fault s [] (at rows pending waiting position after_hyphens) word
      ≡ step_fault s position (held rows pending) value
  word_quiet open_so word true plain_so = refl
  word_quiet open_so word false plain_so = quiet_plain s (at rows pending waiting position false) word plain_so refl refl ∙ go waiting open_so
    where
      go : (w : Waiting) → IsOpen w
          → step_fault s position (plain_word s.rules w word (held rows pending)).0 (plain_word s.rules w word (held rows pending)).1 ≡ step_fault s position (held rows pending) value
      go idle h = refl
      go positional h = refl
      go (option id) h = absurd h

  -- `--`
  pub hyphens_read : (line : List Text) (end : Walk) → IsRead s (at rows pending waiting position true) line end → IsRead s (at rows pending waiting position false) ((45 ∷ 45 ∷ []) ∷ line) end
  unfolding walked
  hyphens_read line end r =
      let w : Walk = at rows pending waiting position false in
      read_word s w (45 ∷ 45 ∷ []) line (at rows pending waiting position true) end
      (ap (λ (o : Option Text). or_else (other_fault s o (45 ∷ 45 ∷ []) (held rows pending))
      (step_fault s position (subcommand_or_other s.rules o waiting position (45 ∷ 45 ∷ []) (held rows pending)).0
      (subcommand_or_other s.rules o waiting position (45 ∷ 45 ∷ []) (held rows pending)).1))
      (no_subcommand (45 ∷ 45 ∷ []) waiting))
      (ap (λ (o : Option Text). after_step s.rules (45 ∷ 45 ∷ []) w (subcommand_or_other s.rules o waiting position (45 ∷ 45 ∷ []) (held rows pending)).0
      (subcommand_or_other s.rules o waiting position (45 ∷ 45 ∷ []) (held rows pending)).1) (no_subcommand (45 ∷ 45 ∷ []) waiting))
      r

module _ (s : Shape) (rows : List Row) (pending : Option (Text × List Text)) (waiting : Waiting) (position : ℕ) (sum : List Row) (open_so : IsOpen waiting)
    (calm : Calm s (held rows pending) sum) (line : List Text) (end : Walk) where
  -- ---- a word that goes to its place

  pub word_walked : (word : Text) (after_hyphens : Bool) → IsPlaced word after_hyphens → walked s.rules [] (at rows pending waiting position after_hyphens) word
      ≡ to_positional s.rules (arg_by_index s.rules position) word (at rows pending waiting position after_hyphens) (held rows pending)
  unfolding walked
  word_walked word true plain_so = refl
  word_walked word false plain_so = walked_plain s (at rows pending waiting position false) word plain_so refl refl ∙ go waiting open_so
    where
      go : (w : Waiting) → IsOpen w → plain_walk s.rules (at rows pending w position false) word
          ≡ to_positional s.rules (arg_by_index s.rules position) word (at rows pending w position false) (held rows pending)
      go idle h = refl
      go positional h = refl
      go (option id) h = absurd h

  pub placed_read : (word : Text) (after_hyphens : Bool) (index : ℕ) (id : Text) → IsPlaced word after_hyphens → arg_by_index s.rules position ≡ Some (placed index id)
      → IsRead s (at sum (Some (id, word ∷ [])) idle (min (position + 1) usize_max) after_hyphens) line end → IsRead s (at rows pending waiting position after_hyphens) (word ∷ line) end
  placed_read word after_hyphens index id plain_so by r =
      let b : Bool = is_pending (placed index id) pending in
      let W : Bool → List Row → Bool → Walk = λ c rs t. record {
        held = pushed id word (if c then held rows pending else held rs None);
        waiting = idle;
        position = min (position + 1) usize_max;
        is_trailing = t;
        stopped = None;
      } in
      read_word s (at rows pending waiting position after_hyphens) word line _ end
      (word_quiet s rows pending waiting position open_so word after_hyphens plain_so
      ∙ ap (λ (o : Option Rule). option_map_or (λ a. positional_fault s.rules s.args_override_self a (held rows pending)) o (stray_fault s)) by
      ∙ ap (λ (c : Bool). if c then [] else settle_fault s.rules s.args_override_self (held rows pending)) (and-false b)
      ∙ calm.fault)
      (word_walked word after_hyphens plain_so
      ∙ ap (λ (o : Option Rule). to_positional s.rules o word (at rows pending waiting position after_hyphens) (held rows pending)) by
      ∙ ap (λ (c : Bool). W c (settled_rows s.rules pending rows) (after_hyphens || false)) (and-false b)
      ∙ ap (λ (rs : List Row). W false rs (after_hyphens || false)) calm.rows_are
      ∙ ap (λ (t : Bool). W false sum t) (or-false after_hyphens))
      r

  pub rest_read : (word : Text) (after_hyphens : Bool) (index : ℕ) (id : Text) → IsPlaced word after_hyphens → arg_by_index s.rules position ≡ Some (rest_placed index id)
      → IsRead s (at sum (Some (id, word ∷ [])) positional position after_hyphens) line end → IsRead s (at rows pending waiting position after_hyphens) (word ∷ line) end
  rest_read word after_hyphens index id plain_so by r =
      let b : Bool = is_pending (rest_placed index id) pending in
      let W : Bool → List Row → Bool → Walk = λ c rs t. record {
        held = pushed id word (if c then held rows pending else held rs None);
        waiting = positional;
        position = position;
        is_trailing = t;
        stopped = None;
      } in
      read_word s (at rows pending waiting position after_hyphens) word line _ end
      (word_quiet s rows pending waiting position open_so word after_hyphens plain_so
      ∙ ap (λ (o : Option Rule). option_map_or (λ a. positional_fault s.rules s.args_override_self a (held rows pending)) o (stray_fault s)) by
      ∙ ap (λ (c : Bool). if c then [] else settle_fault s.rules s.args_override_self (held rows pending)) (and-false b)
      ∙ calm.fault)
      (word_walked word after_hyphens plain_so
      ∙ ap (λ (o : Option Rule). to_positional s.rules o word (at rows pending waiting position after_hyphens) (held rows pending)) by
      ∙ ap (λ (c : Bool). W c (settled_rows s.rules pending rows) (after_hyphens || false)) (and-false b)
      ∙ ap (λ (rs : List Row). W false rs (after_hyphens || false)) calm.rows_are
      ∙ ap (λ (t : Bool). W false sum t) (or-false after_hyphens))
      r

  -- ---- an option

  abbrev pub met : Text → Option Text → Rule → Held × Step
  met word v a =
      let m = long_met s.rules (Some a) v (held rows pending) in
      after_flag s.rules waiting word m.0 m.1

  pub long_walked : (word name : Text) (v : Option Text) (a : Rule) → IsLong s word name v a
      → walked s.rules [] (at rows pending waiting position false) word ≡ after_step s.rules word (at rows pending waiting position false) (met word v a).0 (met word v a).1
  unfolding walked
  long_walked word name v a l =
      let h : Held = held rows pending in
      let A : Held × Step → Walk = λ m. after_step s.rules word (at rows pending waiting position false) m.0 m.1 in
      ap (λ (o : Option Text). A (subcommand_or_other s.rules o waiting position word h)) (no_subcommand word waiting)
      ∙ ap (λ (b : Bool). A (if b then (h, trailing position) else long_or_other s.rules waiting word (long_of word) h)) l.dashes
      ∙ ap (λ (o : Option (Text × Option Text)). A (long_or_other s.rules waiting word o h)) l.long
      ∙ ap (λ (o : Option Rule). A (after_flag s.rules waiting word (long_met s.rules o v h).0 (long_met s.rules o v h).1)) l.by_long

  pub long_quiet : (word name : Text) (v : Option Text) (a : Rule) → IsLong s word name v a
      → turn_fault s [] (at rows pending waiting position false) word ≡ or_else
      (long_fault s.rules s.args_override_self (Some a) v (held rows pending)) (step_fault s position (met word v a).0 (met word v a).1)
  long_quiet word name v a l =
      let h : Held = held rows pending in
      let again : Bool = s.args_override_self in
      let B : Kinds → Held × Step → Kinds = λ k m. or_else k (step_fault s position m.0 m.1) in
      ap (λ (o : Option Text). B (other_fault s o word h) (subcommand_or_other s.rules o waiting position word h)) (no_subcommand word waiting)
      ∙ ap (λ (b : Bool). B (if b then [] else flag_word_fault s.rules again (long_of word) word h)
      (if b then (h, trailing position) else long_or_other s.rules waiting word (long_of word) h)) l.dashes
      ∙ ap (λ (o : Option (Text × Option Text)). B (flag_word_fault s.rules again o word h) (long_or_other s.rules waiting word o h)) l.long
      ∙ ap (λ (o : Option Rule). B (long_fault s.rules again o v h) (after_flag s.rules waiting word (long_met s.rules o v h).0 (long_met s.rules o v h).1)) l.by_long

  -- an option that waits for its value
  pub waits_read : (word name : Text) (required : Bool) → IsLong s word name None (valued required name)
      → IsRead s (at sum (Some (name, [])) (option name) position false) line end → IsRead s (at rows pending waiting position false) (word ∷ line) end
  waits_read word name required l r =
      read_word s (at rows pending waiting position false) word line (at sum (Some (name, [])) (option name) position false) end
      (long_quiet word name None (valued required name) l ∙ ap (λ (k : Kinds). or_else k []) calm.fault)
      (long_walked word name None (valued required name) l ∙ ap (λ (rs : List Row). at rs (Some (name, [])) (option name) position false) calm.rows_are)
      r

  -- an option with its value in the same word
  pub joined_read : (word name v : Text) (required : Bool) → IsLong s word name (Some v) (valued required name) → Adds s.args_override_self (valued required name) (v ∷ []) v sum
      → IsRead s (at (more (valued required name) v sum) None idle position false) line end → IsRead s (at rows pending waiting position false) (word ∷ line) end
  joined_read word name v required l adds r =
      let a : Rule = valued required name in
      read_word s (at rows pending waiting position false) word line (at (more a v sum) None idle position false) end
      (long_quiet word name (Some v) a l
      ∙ ap (λ (k : Kinds). or_else (or_else k (use_fault s.args_override_self a (v ∷ []) (settled s.rules (held rows pending)).rows)) []) calm.fault
      ∙ ap (λ (rs : List Row). or_else (use_fault s.args_override_self a (v ∷ []) rs) []) calm.rows_are
      ∙ ap (λ (k : Kinds). or_else k []) adds.fault)
      (long_walked word name (Some v) a l
      ∙ ap (λ (rs : List Row). at (used a (v ∷ []) rs) None idle position false) calm.rows_are
      ∙ ap (λ (rs : List Row). at rs None idle position false) adds.rows_are)
      r

  -- an option without a value
  pub flag_read : (word name : Text) → IsLong s word name None (flagged name) → Adds s.args_override_self (flagged name) [] (codes "true") sum
      → IsRead s (at (more (flagged name) (codes "true") sum) None idle position false) line end → IsRead s (at rows pending waiting position false) (word ∷ line) end
  flag_read word name l adds r =
      let a : Rule = flagged name in
      read_word s (at rows pending waiting position false) word line (at (more a (codes "true") sum) None idle position false) end
      (long_quiet word name None a l
      ∙ ap (λ (k : Kinds). or_else (or_else k (use_fault s.args_override_self a [] (settled s.rules (held rows pending)).rows)) []) calm.fault
      ∙ ap (λ (rs : List Row). or_else (use_fault s.args_override_self a [] rs) []) calm.rows_are
      ∙ ap (λ (k : Kinds). or_else k []) adds.fault)
      (long_walked word name None a l
      ∙ ap (λ (rs : List Row). at (used a [] rs) None idle position false) calm.rows_are
      ∙ ap (λ (rs : List Row). at rs None idle position false) adds.rows_are)
      r

-- the value of an option that waits for it
pub value_read : (s : Shape) (sum : List Row) (position : ℕ) (name v : Text) (required : Bool) → IsNoFlag v → arg_by_id s.rules name ≡ Some (valued required name)
    → bytes_eq name name ≡ true → (line : List Text) (end : Walk) → IsRead s (at sum (Some (name, v ∷ [])) idle position false) line end
    → IsRead s (at sum (Some (name, [])) (option name) position false) (v ∷ line) end
value_read s sum position name v required plain_so by self line end r =
    let w : Walk = at sum (Some (name, [])) (option name) position false in
    read_so s w v plain_so refl refl line (at sum (Some (name, v ∷ [])) idle position false) end refl
    (ap (λ (o : Option Rule). after_step s.rules v w (option_word o name v w.held).0 (next (option_word o name v w.held).1)) by
    ∙ ap (λ (b : Bool). at sum (Some (name, v ∷ [])) (if nat_lt (if b then 1 else 0) 1 then option name else idle) position false) self)
    r
