-- Exactly which lines are commands.
use Rattle.safl_command.proofs.Common.{AreTexts, Kinds, Row, Rule, Shape, Text, false≢true, list_any, option_map_or, or_else, or_parts}
use Rattle.std.proofs.Common.{◌≡◌, ◌∙◌, List, [], ◌∷◌, ◌++◌, map, Bool, true, false, Option, Some, None, refl, sym, ap, subst, fold, codes, cond, ◌||◌}
use Rattle.std.specs.Prelude.{option_map, find, is_some}
use Rattle.std.specs.Str.{bytes_eq, IsUtf8}
use Rattle.clap.specs.Simple.{App, built, names_of, entered}
use Rattle.clap.specs.Walk.{Names, Walk, idle, answers_to, subcommand_met, subcommand_or_other}
use Rattle.clap.specs.Walk.{walk_from, nothing_held, arg_by_long, arg_by_short, arg_by_index, walked, stop_after}
use Rattle.clap.specs.Faults.{walk_fault, turn_fault, other_fault, step_fault, long_fault, positional_fault, stray_fault, built_fault, entered_fault}
use Rattle.clap.proofs.OnLiterals.{clap_on_literals}
use Rattle.safl_command.specs.Forms.{Argument, app, forms}
use Rattle.safl_command.specs.Commands.{Command, command_of, command_of_line, faultless}
use Rattle.safl_command.specs.Spelled as spells
use Rattle.safl_command.specs.Spelled.{IsLineOf, LinesAreExact, OthersAreNone, CasesAreNone}
use Rattle.safl_command.proofs.Rows.{same_text}
use Rattle.safl_command.proofs.Arranging.{among}
use Rattle.safl_command.proofs.Stepping.{unhyphened_no_flag, words_after, end_fault}
use Rattle.safl_command.proofs.Walking.{at, held, word_quiet}
use Rattle.safl_command.proofs.Looks.{Looks, plain, hyphens, long, short, looks, Cut, whole, cut, cut_of}
use Rattle.safl_command.proofs.Refused.{not_none, stray_refused, long_none, short_none, help_refused}
use Rattle.safl_command.proofs.FormValues.{rules_from, options_of, LongView, unknown, helps, takes, switches, long_view, shorts}
use Rattle.safl_command.proofs.Found.{words_in, values_in}
use Rattle.safl_command.proofs.FormLines.{HasForm, each_in, Given, given_in}
use Rattle.safl_command.proofs.SaidWords.{check_words, build_words, optimise_words, sim_words, walk_words, run_words, report_words, gen_words}
use Rattle.safl_command.proofs.SaidWords.{bench_words, copy_words, unfold_words, session_words, aig_words, aigstat_words}
use Rattle.safl_command.proofs.SaidLines.{IsSpelled, all_rows, said, build_lines, sim_lines, walk_lines, run_lines, gen_lines, bench_lines, copy_lines, unfold_lines}
use Rattle.safl_command.proofs.SaidLines.{session_lines, aig_lines}

-- ---- a first word that is no command's

abbrev pub the_words : List Text
the_words = map (λ f. f.0) forms

-- the program's own names are these, and `help`
answer_none : (word : Text) (ns : List Text) → among word ns ≡ false
    → find (answers_to word) (map (λ (n : Text). (n, [])) ns ++ ((codes "help", []) ∷ [])) ≡ cond (bytes_eq (codes "help") word || false) (Some (codes "help", [])) None
answer_none word [] h = refl
answer_none word (n ∷ ns) h =
    let p : (bytes_eq n word ≡ false) × (among word ns ≡ false) = or_parts (bytes_eq n word) (among word ns) h in
    ap (λ (b : Bool). cond (b || false) (Some (n, [])) (find (answers_to word) (map (λ (m : Text). (m, [])) ns ++ ((codes "help", []) ∷ [])))) p.0 ∙ answer_none word ns p.1

names_are : names_of (built app) ≡ map (λ (n : Text). (n, [])) the_words ++ ((codes "help", []) ∷ [])
unfolding app clap_on_literals
names_are = refl

-- the first word's fault
abbrev first_fault : Option Text → Text → Kinds
first_fault o word =
    or_else (other_fault (built app).top o word nothing_held)
    (step_fault (built app).top 1 (subcommand_or_other (built app).top.rules o idle 1 word nothing_held).0 (subcommand_or_other (built app).top.rules o idle 1 word nothing_held).1)

top_rules : (built app).top.rules ≡ rules_from 1 []
unfolding app clap_on_literals
top_rules = refl

top_last : arg_by_index (built app).top.rules 1 ≡ None
unfolding app clap_on_literals
top_last = refl

no_help_word : (line : List Text) → command_of (codes "help" ∷ line) ≡ None
unfolding app clap_on_literals command_of_line
no_help_word line = refl

no_hyphens : (line : List Text) → command_of ((45 ∷ (45 ∷ [])) ∷ line) ≡ None
unfolding app clap_on_literals command_of_line
no_hyphens [] = refl
no_hyphens (w ∷ ws) = refl

pub no_words : command_of [] ≡ None
unfolding app clap_on_literals command_of_line
no_words = refl

-- a first word that has a fault
stops : (kinds more after : Kinds) (found : Option (Text × List Row)) → (kinds ≡ [] → ⊥) → faultless (or_else (or_else kinds more) after) found ≡ None
stops [] more after found h = absurd (h refl)
stops (k ∷ ks) more after found h = refl

faulty : (word : Text) (line : List Text) → (turn_fault (built app).top (names_of (built app)) (walk_from nothing_held) word ≡ [] → ⊥) → command_of (word ∷ line) ≡ None
unfolding command_of_line walk_fault
faulty word line h =
    let t : App = built app in
    let ns : Names = names_of t in
    let w : Walk = fold (walked t.top.rules ns) (walk_from nothing_held) (word ∷ line) in
    ap (λ (l : List Text). faultless (built_fault t nothing_held l) (entered t (stop_after t.top.rules ns l))) (words_after word line)
    ∙ stops (turn_fault t.top ns (walk_from nothing_held) word) (walk_fault t.top ns (walked t.top.rules ns (walk_from nothing_held) word) line)
    (or_else (entered_fault t w.stopped) (end_fault t.top (is_some (entered t w.stopped)) w.held)) (entered t (stop_after t.top.rules ns (word ∷ line))) h

top_refused : (word : Text) → IsUtf8 word → Looks word → (word ≡ 45 ∷ (45 ∷ []) → ⊥) → turn_fault (built app).top [] (at [] None idle 1 false) word ≡ [] → ⊥
top_refused word text (plain w u) other e =
    let s : Shape = (built app).top in
    stray_refused s s.is_leaf
    (ap (λ (o : Option Rule). option_map_or (λ a. positional_fault s.rules s.args_override_self a (held [] None)) o (stray_fault s)) (sym top_last)
    ∙ sym (word_quiet s [] None idle 1 tt w false (unhyphened_no_flag w u)) ∙ e)
top_refused word text hyphens other e = other refl
top_refused word text (short d ds letter) other e =
    short_none (built app).top [] None idle 1 (λ x. ap (λ (l : List Rule). arg_by_short l x) top_rules ∙ shorts [] 1 x) d ds letter text e
top_refused word text (long b bs) other e = by_cut (cut_of b bs)
  where
    no_name : (name : Text) (v : Option Text) → LongView (built app).top [] name
        → long_fault (built app).top.rules (built app).top.args_override_self (arg_by_long (built app).top.rules name) v (held [] None) ≡ [] → ⊥
    no_name name v (unknown none) f =
        not_none _ _ (ap (λ (o : Option Rule). long_fault (built app).top.rules (built app).top.args_override_self o v (held [] None)) (sym none) ∙ f)
    no_name name v (helps there) f =
        help_refused (built app).top.rules (built app).top.args_override_self v (held [] None)
        (ap (λ (o : Option Rule). long_fault (built app).top.rules (built app).top.args_override_self o v (held [] None)) (sym there) ∙ f)
    no_name name v (takes required d is_of) f = is_of []
    no_name name v (switches d is_of) f = is_of

    view : (name : Text) → LongView (built app).top [] name
    view name = long_view (built app).top [] name [] 1 tt (λ o h. h) (ap (λ (l : List Rule). arg_by_long l name) top_rules)

    by_cut : Cut (b ∷ bs) → ⊥
    by_cut (whole name is same) = no_name name None (view name) (long_none (built app).top [] None idle 1 (b ∷ bs) name None is refl e)
    by_cut (cut name v is same) = no_name name (Some v) (view name) (long_none (built app).top [] None idle 1 (b ∷ bs) name (Some v) is refl e)

pub others_none : OthersAreNone
others_none word line text new = go (bytes_eq (codes "help") word) refl (bytes_eq word (45 ∷ (45 ∷ []))) refl
  where
    met_none : bytes_eq (codes "help") word ≡ false → subcommand_met (names_of (built app)) idle word ≡ None
    met_none e =
        ap (λ (ns : Names). subcommand_met ns idle word) names_are
        ∙ ap (λ (o : Option (Text × List Text)). option_map (λ (s : Text × List Text). s.0) o) (answer_none word the_words new)
        ∙ ap (λ (b : Bool). option_map (λ (s : Text × List Text). s.0) (cond (b || false) (Some (codes "help", [])) None)) e

    go : (b : Bool) → bytes_eq (codes "help") word ≡ b → (d : Bool) → bytes_eq word (45 ∷ (45 ∷ [])) ≡ d → command_of (word ∷ line) ≡ None
    go true e d f = subst (λ (w : Text). command_of (w ∷ line) ≡ None) (same_text (codes "help") word e) (no_help_word line)
    go false e true f = subst (λ (w : Text). command_of (w ∷ line) ≡ None) (sym (same_text word (45 ∷ (45 ∷ [])) f)) (no_hyphens line)
    go false e false f =
        faulty word line (λ k. top_refused word text (looks word) (λ is. false≢true (sym f ∙ ap (λ (x : Text). bytes_eq x (45 ∷ (45 ∷ []))) is))
        (ap (λ (o : Option Text). first_fault o word) (sym (met_none e)) ∙ k))

-- ---- all lines

record FormOf (fs : List (Text × List Argument)) (word : Text) : Type 0 where
  pub args : List Argument
  pub has : HasForm fs word args

form_of_word : (fs : List (Text × List Argument)) (word : Text) → list_any (λ f. bytes_eq f.0 word) fs ≡ true → FormOf fs word
form_of_word [] word there = absurd (false≢true there)
form_of_word (f ∷ fs) word there = go (bytes_eq f.0 word) refl there (form_of_word fs word)
  where
    go : (b : Bool) → bytes_eq f.0 word ≡ b → (b || list_any (λ g. bytes_eq g.0 word) fs) ≡ true → (list_any (λ g. bytes_eq g.0 word) fs ≡ true → FormOf fs word) → FormOf (f ∷ fs) word
    go true e h later = record {
      args = f.1;
      has = ap (λ (b : Bool). cond b (Some f) (find (λ g. bytes_eq g.0 word) fs)) e ∙ ap (λ (w : Text). Some (w, f.1)) (same_text f.0 word e);
    }
    go false e h later =
        let o : FormOf fs word = later h in
        record { args = o.args; has = ap (λ (b : Bool). cond b (Some f) (find (λ g. bytes_eq g.0 word) fs)) e ∙ o.has }

by_first : (word : Text) (line : List Text) (c : Command) → AreTexts (word ∷ line) → (b : Bool) → list_any (λ (f : Text × List Argument). bytes_eq f.0 word) forms ≡ b
    → command_of (word ∷ line) ≡ Some c → IsLineOf (word ∷ line) c
by_first word line c texts true there e =
    let f : FormOf forms word = form_of_word forms word there in
    let g : Given word f.args line c = given_in f.has line texts.1 c e in
    record {
      word = word;
      others = line;
      names = words_in f.args g.values;
      options = options_of f.args (values_in f.args g.values);
      is = refl;
      spells = each_in IsSpelled forms all_rows word f.args f.has g.values c g.is;
      arranged = g.arranged;
    }
by_first word line c texts false there e = absurd (let n : None ≡ Some c = sym (others_none word line texts.0 there) ∙ e in cc)

is_line : (line : List Text) (c : Command) → AreTexts line → command_of line ≡ Some c → IsLineOf line c
is_line [] c texts e = absurd (let n : None ≡ Some c = sym no_words ∙ e in cc)
is_line (word ∷ line) c texts e = by_first word line c texts (list_any (λ (f : Text × List Argument). bytes_eq f.0 word) forms) refl e

pub exact_lines : LinesAreExact
exact_lines line c texts = (is_line line c texts, λ l. subst (λ (x : List Text). command_of x ≡ Some c) (sym l.is) (said l.others l.spells l.arranged))

pub cases_none : CasesAreNone
unfolding app clap_on_literals command_of_line
cases_none = record {
  no_word = refl;
  unknown_word = refl;
  help_word = refl;
  no_cycles = refl;
  no_option = refl;
  no_value = refl;
  option_twice = refl;
  unknown_option = refl;
  value_of_flag = refl;
  no_name = refl;
  empty_name = refl;
  word_too_many = refl;
  same_traces = refl;
  count_too_great = refl;
}

-- what proves the laws of each row
pub ruleset laws = (
  exact_lines,
  others_none,
  cases_none,
  said,
  spells.check,
  spells.optimise,
  spells.report,
  spells.aigstat,
  build_lines,
  sim_lines,
  walk_lines,
  run_lines,
  gen_lines,
  bench_lines,
  copy_lines,
  unfold_lines,
  session_lines,
  aig_lines,
  check_words,
  build_words,
  optimise_words,
  sim_words,
  walk_words,
  run_words,
  report_words,
  gen_words,
  bench_words,
  copy_words,
  unfold_words,
  session_words,
  aig_words,
  aigstat_words,
)
