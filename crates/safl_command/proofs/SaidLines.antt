-- The commands of the lines, row by row: what the words and options of a row make, and which values make a command.
use Rattle.safl_command.proofs.Common.{Arranged, GivenOption, Text, option_map_or}
use Rattle.std.proofs.Common.{◌≡◌, ◌∙◌, List, [], ◌∷◌, Bool, true, false, Option, Some, None, refl, ap, subst, codes, unwrap_or}
use Rattle.std.specs.Prelude.{if◌then◌else◌, option_and_then, option_map, option_to_list, slice_get, find}
use Rattle.std.specs.Str.{bytes_eq}
use Rattle.safl_word.specs.Numerals.{value}
use Rattle.safl_command.specs.Forms.{Argument, forms}
use Rattle.safl_command.specs.Values.{filled}
use Rattle.safl_command.specs.Traces.{Traces, are_apart}
use Rattle.safl_command.specs.Commands.{Command, Sim, command_of}
use Rattle.safl_command.specs.Laws.{IsName, CheckLines, BuildLines, OptimiseLines, SimLines, WalkLines, RunLines, GenLines, BenchLines}
use Rattle.safl_command.specs.Laws.{CopyLines, UnfoldLines, SessionLines, AigLines}
use Rattle.safl_command.specs.Spelled.{Spells}
use Rattle.safl_command.specs.Spelled as spells
use Rattle.safl_command.proofs.FormValues.{options_of}
use Rattle.safl_command.proofs.Found.{Full, words_in, values_in}
use Rattle.safl_command.proofs.FormLines.{Each, makes, reads}

-- the traces with these files, as they are read
abbrev read_traces : Option Text → Option Text → Option Text → Traces
read_traces vcd starts toggles = record { vcd = slice_get (option_to_list vcd) 0; starts = slice_get (option_to_list starts) 0; toggles = slice_get (option_to_list toggles) 0 }

traces_read : (t : Traces) → read_traces t.vcd t.starts t.toggles ≡ t
traces_read t = λ i. record { vcd = one t.vcd i; starts = one t.starts i; toggles = one t.toggles i }
  where
    one : (o : Option Text) → slice_get (option_to_list o) 0 ≡ o
    one None = refl
    one (Some v) = refl

-- ---- what words and options make

name_makes : (F : Text → Option Command) (w : Text) → IsName w → option_and_then F (filled w) ≡ F w
name_makes F [] h = absurd h
name_makes F (c ∷ cs) h = refl

last_name_makes : (F : Text → Command) (w : Text) → IsName w → option_map F (filled w) ≡ Some (F w)
last_name_makes F [] h = absurd h
last_name_makes F (c ∷ cs) h = refl

makes_if : {T : Type 0} (F : T → Option Command) (x : T) (b : Bool) → b ≡ true → option_and_then F (if b then Some x else None) ≡ F x
makes_if F x true h = refl
makes_if F x false h = absurd (cc)

last_makes_if : {T : Type 0} (F : T → Command) (x : T) (b : Bool) → b ≡ true → option_map F (if b then Some x else None) ≡ Some (F x)
last_makes_if F x true h = refl
last_makes_if F x false h = absurd (cc)

pub said : {c : Command} {word : Text} {names : List Text} {options : List GivenOption} (line : List Text) → Spells c word names options → Arranged names options line
    → command_of (word ∷ line) ≡ Some c
said line (spells.check i h) a = reads refl (i, tt) line a ∙ last_name_makes _ i h
said line (spells.build i o h k) a = reads refl (i, (o, (false, tt))) line a ∙ name_makes _ i h ∙ name_makes _ o k
said line (spells.optimise i o h k) a = reads refl (i, (o, (true, tt))) line a ∙ name_makes _ i h ∙ name_makes _ o k
said line (spells.sim i l t args h k m) a =
    reads refl (i, (l, (t.vcd, (t.starts, (t.toggles, (args, tt)))))) line a ∙ name_makes _ i h ∙ makes_if _ _ _ k
    ∙ ap (λ (x : Traces). option_map (λ (y : Traces). Sim i (value 10 l) y args) (if are_apart x then Some x else None)) (traces_read t) ∙ last_makes_if _ _ _ m
said line (spells.walk i s n args h k m) a = reads refl (i, (s, (n, (args, tt)))) line a ∙ name_makes _ i h ∙ makes_if _ _ _ k ∙ last_makes_if _ _ _ m
said line (spells.run i l args h k) a = reads refl (i, (l, (args, tt))) line a ∙ name_makes _ i h ∙ last_makes_if _ _ _ k
said line (spells.report i h) a = reads refl (i, tt) line a ∙ last_name_makes _ i h
said line (spells.gen s n h k) a = reads refl (s, (n, tt)) line a ∙ makes_if _ _ _ h ∙ last_makes_if _ _ _ k
said line (spells.bench s n l h k m) a = reads refl (s, (n, (l, tt))) line a ∙ makes_if _ _ _ h ∙ makes_if _ _ _ k ∙ last_makes_if _ _ _ m
said line (spells.copied i o n h k m) a = reads refl (i, (o, (Some n, (None, tt)))) line a ∙ name_makes _ i h ∙ name_makes _ o k ∙ last_makes_if _ _ _ m
said line (spells.unfolded i o n h k m) a = reads refl (i, (o, (None, (Some n, tt)))) line a ∙ name_makes _ i h ∙ name_makes _ o k ∙ last_makes_if _ _ _ m
said line (spells.session i s l h k m) a = reads refl (i, (s, (l, tt))) line a ∙ name_makes _ i h ∙ name_makes _ s k ∙ last_makes_if _ _ _ m
said line (spells.aig i o h k) a = reads refl (i, (o, tt)) line a ∙ name_makes _ i h ∙ name_makes _ o k
said line (spells.aigstat i h) a = reads refl (i, tt) line a ∙ last_name_makes _ i h

pub check_lines : CheckLines
check_lines i line h a = said line (spells.check i h) a

pub build_lines : BuildLines
build_lines i o line h k a = said line (spells.build i o h k) a

pub optimise_lines : OptimiseLines
optimise_lines i o line h k a = said line (spells.optimise i o h k) a

pub sim_lines : SimLines
sim_lines i l t args line h k m a = said line (spells.sim i l t args h k m) a

pub walk_lines : WalkLines
walk_lines i s n args line h k m a = said line (spells.walk i s n args h k m) a

pub run_lines : RunLines
run_lines i l args line h k a = said line (spells.run i l args h k) a

pub gen_lines : GenLines
gen_lines s n line h k a = said line (spells.gen s n h k) a

pub bench_lines : BenchLines
bench_lines s n l line h k m a = said line (spells.bench s n l h k m) a

pub copy_lines : CopyLines
copy_lines i o n line h k m a = said line (spells.copied i o n h k m) a

pub unfold_lines : UnfoldLines
unfold_lines i o n line h k m a = said line (spells.unfolded i o n h k m) a

pub session_lines : SessionLines
session_lines i s l line h k m a = said line (spells.session i s l h k m) a

pub aig_lines : AigLines
aig_lines i o line h k a = said line (spells.aig i o h k) a

-- ---- which values make a command

module _ {T : Type 0} {c : Command} where
  named : (F : Text → Option Command) (w : Text) → (IsName w → F w ≡ Some c → T) → option_and_then F (filled w) ≡ Some c → T
  named F [] k e = absurd (cc)
  named F (x ∷ xs) k e = k tt e

  last_named : (F : Text → Command) (w : Text) → (IsName w → Some (F w) ≡ Some c → T) → option_map F (filled w) ≡ Some c → T
  last_named F [] k e = absurd (cc)
  last_named F (x ∷ xs) k e = k tt e

  fitting : {X : Type 0} (F : X → Option Command) (x : X) (b : Bool) → (b ≡ true → F x ≡ Some c → T) → option_and_then F (if b then Some x else None) ≡ Some c → T
  fitting F x true k e = k refl e
  fitting F x false k e = absurd (cc)

  last_fitting : {X : Type 0} (F : X → Command) (x : X) (b : Bool) → (b ≡ true → Some (F x) ≡ Some c → T) → option_map F (if b then Some x else None) ≡ Some c → T
  last_fitting F x true k e = k refl e
  last_fitting F x false k e = absurd (cc)

as_spelled : {c d : Command} {word : Text} {names : List Text} {options : List GivenOption} → Spells d word names options → Some d ≡ Some c → Spells c word names options
as_spelled {c} {d} {word} {names} {options} s e = subst (λ (x : Command). Spells x word names options) (ap (λ (o : Option Command). unwrap_or o d) e) s

-- what values make is spelled by their words and options
abbrev pub IsSpelled : Text → List Argument → Type 0
IsSpelled word args = (f : Full args) (c : Command) → makes word args f ≡ Some c → Spells c word (words_in args f) (options_of args (values_in args f))

abbrev IsRow : Text → Type 0
IsRow word = IsSpelled word (option_map_or (λ (f : Text × List Argument). f.1) (find (λ (f : Text × List Argument). bytes_eq f.0 word) forms) [])

check_row : IsRow (codes "check")
check_row f c e = last_named _ f.0 (λ h. as_spelled (spells.check f.0 h)) e

build_row : IsRow (codes "build")
build_row (i, (o, (false, _))) c e = named _ i (λ h. named _ o (λ k. as_spelled (spells.build i o h k))) e
build_row (i, (o, (true, _))) c e = named _ i (λ h. named _ o (λ k. as_spelled (spells.optimise i o h k))) e

sim_row : IsRow (codes "sim")
sim_row (i, (l, (vcd, (starts, (toggles, (args, _)))))) c e =
    let t : Traces = record { vcd = vcd; starts = starts; toggles = toggles } in
    named _ i (λ h. fitting _ _ _ (λ k x. last_fitting _ _ _ (λ m. as_spelled (spells.sim i l t args h k m))
    (subst (λ (u : Traces). option_map (λ (y : Traces). Sim i (value 10 l) y args) (if are_apart u then Some u else None) ≡ Some c) (traces_read t) x))) e

walk_row : IsRow (codes "walk")
walk_row (i, (s, (n, (args, _)))) c e = named _ i (λ h. fitting _ _ _ (λ k. last_fitting _ _ _ (λ m. as_spelled (spells.walk i s n args h k m)))) e

run_row : IsRow (codes "run")
run_row (i, (l, (args, _))) c e = named _ i (λ h. last_fitting _ _ _ (λ m. as_spelled (spells.run i l args h m))) e

report_row : IsRow (codes "report")
report_row f c e = last_named _ f.0 (λ h. as_spelled (spells.report f.0 h)) e

gen_row : IsRow (codes "gen")
gen_row (s, (n, _)) c e = fitting _ _ _ (λ h. last_fitting _ _ _ (λ m. as_spelled (spells.gen s n h m))) e

bench_row : IsRow (codes "bench")
bench_row (s, (n, (l, _))) c e = fitting _ _ _ (λ h. fitting _ _ _ (λ k. last_fitting _ _ _ (λ m. as_spelled (spells.bench s n l h k m)))) e

reshape_row : IsRow (codes "reshape")
reshape_row (i, (o, (Some n, (None, _)))) c e = named _ i (λ h. named _ o (λ k. last_fitting _ _ _ (λ m. as_spelled (spells.copied i o n h k m)))) e
reshape_row (i, (o, (None, (Some n, _)))) c e = named _ i (λ h. named _ o (λ k. last_fitting _ _ _ (λ m. as_spelled (spells.unfolded i o n h k m)))) e
reshape_row (i, (o, (None, (None, _)))) c e = named _ i (λ h. named _ o (λ k x. absurd (cc))) e
reshape_row (i, (o, (Some n, (Some m, _)))) c e = named _ i (λ h. named _ o (λ k x. absurd (cc))) e

session_row : IsRow (codes "session")
session_row (i, (s, (l, _))) c e = named _ i (λ h. named _ s (λ k. last_fitting _ _ _ (λ m. as_spelled (spells.session i s l h k m)))) e

aig_row : IsRow (codes "aig")
aig_row (i, (o, _)) c e = named _ i (λ h. named _ o (λ k. as_spelled (spells.aig i o h k))) e

aigstat_row : IsRow (codes "aigstat")
aigstat_row f c e = last_named _ f.0 (λ h. as_spelled (spells.aigstat f.0 h)) e

pub all_rows : Each IsSpelled forms
all_rows = (check_row, (build_row, (sim_row, (walk_row, (run_row, (report_row, (gen_row, (bench_row, (reshape_row, (session_row, (aig_row, (aigstat_row, tt))))))))))))
