-- How `clap` reads words that are no flags, word by word.
use Rattle.safl_command.proofs.Common.{IsUnhyphened, or_else}
use Rattle.std.proofs.Common.{◌≡◌, ◌∙◌, List, [], ◌∷◌, ◌++◌, Bool, true, false, Option, Some, None, refl, ap, codes, arith}
use Rattle.std.specs.Prelude.{◌==◌, find, fold, is_some, if◌then◌else◌}
use Rattle.std.specs.Str.{bytes_eq}
use Rattle.std.proofs.lemmas.List.{append_assoc, append-nil}
use Rattle.clap.specs.Words.{App, Shape, Kinds, Row, Rule, Text}
use Rattle.clap.specs.Lexer.{long_of, short_of}
use Rattle.clap.specs.Simple.{built, names_of, label_of, rows_at, entered, argument_words}
use Rattle.clap.specs.Walk.{Names, Held, Walk, Step, Waiting, idle, option, positional, walked, walked_from, walk_from, nothing_held, after_step}
use Rattle.clap.specs.Walk.{word_met, subcommand_or_other, subcommand_met, plain_word, answers_to, finished, settled, stop_after}
use Rattle.clap.specs.Faults.{walk_fault, turn_fault, word_fault, other_fault, step_fault, level_fault, built_fault, entered_fault, settle_fault, defaults_fault, check_fault}
use Rattle.safl_command.specs.Forms.{app}
use Rattle.safl_command.specs.Commands.{Command, command_of, command_of_line, faultless}

-- ---- the program's own level: after the command's word, all words go to the command

-- a walk that has stopped at a word
abbrev pub stopped_at : Text → List Text → Walk
stopped_at word after = record { held = nothing_held; waiting = idle; position = 1; is_trailing = false; stopped = Some (word, after) }

stopped_on : (rules : List Rule) (names : Names) (word : Text) (after more : List Text) → fold (walked rules names) (stopped_at word after) more ≡ stopped_at word (after ++ more)
unfolding walked
stopped_on rules names word after [] = ap (stopped_at word) (simp append-nil)
stopped_on rules names word after (w ∷ more) = stopped_on rules names word (after ++ w ∷ []) more ∙ ap (stopped_at word) (append_assoc after (w ∷ []) more)

stopped_quiet : (s : Shape) (names : Names) (word : Text) (after more : List Text) → walk_fault s names (stopped_at word after) more ≡ []
unfolding walked walk_fault
stopped_quiet s names word after [] = refl
stopped_quiet s names word after (w ∷ more) = stopped_quiet s names word (after ++ w ∷ []) more

or_nothing : (k : Kinds) → or_else k [] ≡ k
or_nothing [] = refl
or_nothing (x ∷ xs) = refl

-- what is checked at the end of a level, and is not of its subcommand
abbrev pub end_fault : Shape → Bool → Held → Kinds
end_fault s entered h =
    or_else (settle_fault s.rules s.args_override_self h)
    (or_else (defaults_fault (settled s.rules h).rows s.rules) (check_fault s (finished s.rules h) entered))

-- the word is that of a subcommand
pub record Enters (t : App) (word : Text) (s : Shape) : Type 0 where
  pub stops : walked t.top.rules (names_of t) (walk_from nothing_held) word ≡ stopped_at word []
  pub quiet : turn_fault t.top (names_of t) (walk_from nothing_held) word ≡ []
  pub found : find (λ x. answers_to word (label_of x)) t.subs ≡ Some s
  pub ends : end_fault t.top true nothing_held ≡ []

module _ (t : App) (word : Text) (s : Shape) (e : Enters t word s) (ws : List Text) where
  walk_stops : fold (walked t.top.rules (names_of t)) (walk_from nothing_held) (word ∷ ws) ≡ stopped_at word ws
  walk_stops = ap (λ (w : Walk). fold (walked t.top.rules (names_of t)) w ws) e.stops ∙ stopped_on t.top.rules (names_of t) word [] ws

  walk_quiet : walk_fault t.top (names_of t) (walk_from nothing_held) (word ∷ ws) ≡ []
  unfolding walk_fault
  walk_quiet =
      ap (λ (k : Kinds). or_else k (walk_fault t.top (names_of t) (walked t.top.rules (names_of t) (walk_from nothing_held) word) ws)) e.quiet
      ∙ ap (λ (w : Walk). walk_fault t.top (names_of t) w ws) e.stops
      ∙ stopped_quiet t.top (names_of t) word [] ws

  entered_so : entered t (Some (word, ws)) ≡ Some (rows_at s ws)
  entered_so = rw e.found refl

  fault_so : entered_fault t (Some (word, ws)) ≡ level_fault s [] nothing_held ws false []
  fault_so = rw e.found refl

  pub built_fault_so : built_fault t nothing_held (word ∷ ws) ≡ level_fault s [] nothing_held ws false []
  built_fault_so =
      let F : Walk → Kinds → Kinds = λ w k. or_else k (or_else (entered_fault t w.stopped) (end_fault t.top (is_some (entered t w.stopped)) w.held)) in
      let first : Kinds = walk_fault t.top (names_of t) (walk_from nothing_held) (word ∷ ws) in
      let a : built_fault t nothing_held (word ∷ ws) ≡ F (stopped_at word ws) first = ap (λ (w : Walk). F w first) walk_stops in
      let b : F (stopped_at word ws) first ≡ F (stopped_at word ws) [] = ap (F (stopped_at word ws)) walk_quiet in
      let c : F (stopped_at word ws) [] ≡ or_else (entered_fault t (Some (word, ws))) (end_fault t.top true nothing_held) =
      ap (λ (o : Option (Text × List Row)). or_else (entered_fault t (Some (word, ws))) (end_fault t.top (is_some o) nothing_held)) entered_so in
      a ∙ b ∙ c ∙ ap (or_else (entered_fault t (Some (word, ws)))) e.ends ∙ or_nothing (entered_fault t (Some (word, ws))) ∙ fault_so

  pub entered_there : entered t (stop_after t.top.rules (names_of t) (word ∷ ws)) ≡ Some (rows_at s ws)
  entered_there = ap (λ (w : Walk). entered t w.stopped) walk_stops ∙ entered_so

-- the words after the program's name
pub words_after : (word : Text) (ws : List Text) → argument_words app (codes "safl" ∷ word ∷ ws) ≡ word ∷ ws
unfolding app
words_after word ws = refl

pub command_entered : (word : Text) (s : Shape) → Enters (built app) word s → (ws : List Text)
    → command_of (word ∷ ws) ≡ faultless (level_fault s [] nothing_held ws false []) (Some (rows_at s ws))
unfolding command_of_line
command_entered word s e ws =
    ap (λ (l : List Text). faultless (built_fault (built app) nothing_held l) (entered (built app) (stop_after (built app).top.rules (names_of (built app)) l))) (words_after word ws)
    ∙ ap (λ (k : Kinds). faultless k (entered (built app) (stop_after (built app).top.rules (names_of (built app)) (word ∷ ws)))) (built_fault_so (built app) word s e ws)
    ∙ ap (faultless (level_fault s [] nothing_held ws false [])) (entered_there (built app) word s e ws)

-- ---- the command's level

-- a walk goes so over the words, without a fault
pub record IsRead (s : Shape) (w : Walk) (ws : List Text) (end : Walk) : Type 0 where
  pub walks : fold (walked s.rules []) w ws ≡ end
  pub quiet : walk_fault s [] w ws ≡ []

pub read_none : (s : Shape) (w : Walk) → IsRead s w [] w
unfolding walk_fault
read_none s w = record { walks = refl; quiet = refl }

-- one word, and then the others
pub read_word : (s : Shape) (w : Walk) (word : Text) (ws : List Text) (mid end : Walk) → turn_fault s [] w word ≡ [] → walked s.rules [] w word ≡ mid
    → IsRead s mid ws end → IsRead s w (word ∷ ws) end
unfolding walk_fault
read_word s w word ws mid end quiet is r = record {
  walks = ap (λ (x : Walk). fold (walked s.rules []) x ws) is ∙ r.walks;
  quiet = ap (λ (k : Kinds). or_else k (walk_fault s [] (walked s.rules [] w word) ws)) quiet ∙ ap (λ (x : Walk). walk_fault s [] x ws) is ∙ r.quiet;
}

-- the words are read so, and then the command is that of what was found
pub command_read : (word : Text) (s : Shape) (ws : List Text) (end : Walk) → Enters (built app) word s → IsRead s (walk_from nothing_held) ws end
    → command_of (word ∷ ws) ≡ faultless (end_fault s false end.held) (Some (s.name, finished s.rules end.held))
command_read word s ws end e r =
    let F : Walk → Kinds → Option Command = λ w k. faultless (or_else k (end_fault s false w.held)) (Some (s.name, finished s.rules w.held)) in
    let first : Kinds = walk_fault s [] (walk_from nothing_held) ws in
    command_entered word s e ws ∙ ap (λ (w : Walk). F w first) r.walks ∙ ap (F end) r.quiet

-- ---- words that are no flags

pub record IsNoFlag (word : Text) : Type 0 where
  pub dashes : bytes_eq word (45 ∷ 45 ∷ []) ≡ false
  pub long : long_of word ≡ None
  pub short : short_of word ≡ None

pub unhyphened_no_flag : (word : Text) → IsUnhyphened word → IsNoFlag word
unhyphened_no_flag [] h = record { dashes = refl; long = refl; short = refl }
unhyphened_no_flag (c ∷ []) h = one_byte (c == 45) refl
  where
    one_byte : (b : Bool) → (c == 45) ≡ b → IsNoFlag (c ∷ [])
    one_byte true e = record { dashes = rw e refl; long = rw e refl; short = rw e refl }
    one_byte false e = record { dashes = rw e refl; long = rw e refl; short = rw e refl }
unhyphened_no_flag (c ∷ (d ∷ ds)) h =
    let e : (c == 45) ≡ false = grind arith in
    record { dashes = rw e refl; long = rw e refl; short = rw e refl }

-- the walk after such a word
abbrev pub plain_walk : List Rule → Walk → Text → Walk
plain_walk rules w word = after_step rules word w (plain_word rules w.waiting word w.held).0 (plain_word rules w.waiting word w.held).1

module _ (s : Shape) (w : Walk) (word : Text) (no : IsNoFlag word) (going : w.stopped ≡ None) (plainly : w.is_trailing ≡ false) where
  no_name : (waiting : Waiting) → subcommand_met [] waiting word ≡ None
  no_name idle = refl
  no_name (option id) = refl
  no_name positional = refl

  met_so : (waiting : Waiting) → word_met s.rules [] false waiting w.position word w.held ≡ plain_word s.rules waiting word w.held
  met_so waiting =
      ap (λ (o : Option Text). subcommand_or_other s.rules o waiting w.position word w.held) (no_name waiting)
      ∙ rw no.dashes (rw no.long (rw no.short refl))

  pub walked_plain : walked s.rules [] w word ≡ plain_walk s.rules w word
  unfolding walked
  walked_plain =
      let G : Held × Step → Walk = λ m. after_step s.rules word w m.0 m.1 in
      ap (λ (o : Option (Text × List Text)). walked_from s.rules [] o w word) going
      ∙ ap (λ (b : Bool). G (word_met s.rules [] b w.waiting w.position word w.held)) plainly
      ∙ ap G (met_so w.waiting)

  quiet_so : (waiting : Waiting) → word_fault s [] false waiting word w.held ≡ []
  quiet_so waiting =
      ap (λ (o : Option Text). other_fault s o word w.held) (no_name waiting)
      ∙ rw no.dashes (rw no.long (rw no.short refl))

  pub quiet_plain : turn_fault s [] w word ≡ step_fault s w.position (plain_word s.rules w.waiting word w.held).0 (plain_word s.rules w.waiting word w.held).1
  quiet_plain =
      let H : Bool → Bool → Kinds = λ b c. if b then [] else or_else (word_fault s [] c w.waiting word w.held)
      (step_fault s w.position (word_met s.rules [] c w.waiting w.position word w.held).0 (word_met s.rules [] c w.waiting w.position word w.held).1) in
      let a : turn_fault s [] w word ≡ H (is_some w.stopped) w.is_trailing = refl in
      a
      ∙ ap (λ (o : Option (Text × List Text)). H (is_some o) w.is_trailing) going
      ∙ ap (H false) plainly
      ∙ ap (λ (k : Kinds). or_else k (step_fault s w.position (word_met s.rules [] false w.waiting w.position word w.held).0
      (word_met s.rules [] false w.waiting w.position word w.held).1)) (quiet_so w.waiting)
      ∙ ap (λ (m : Held × Step). step_fault s w.position m.0 m.1) (met_so w.waiting)

  -- the same, where the walk comes to a known place
  pub read_so : (ws : List Text) (mid end : Walk) → step_fault s w.position (plain_word s.rules w.waiting word w.held).0 (plain_word s.rules w.waiting word w.held).1 ≡ []
      → plain_walk s.rules w word ≡ mid → IsRead s mid ws end → IsRead s w (word ∷ ws) end
  read_so ws mid end quiet is r = read_word s w word ws mid end (quiet_plain ∙ quiet) (walked_plain ∙ is) r
