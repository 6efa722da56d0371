-- The command of the words as the usage has them: each is a line on which words and options are arranged.
use Rattle.std.proofs.Common.{List, [], ◌∷◌, ◌++◌, Option, Some, None, inl, refl, codes}
use Rattle.clap.specs.Words.{Text}
use Rattle.safl_command.specs.Arranged.{GivenOption, IsUnhyphened, Arranged, ends, then_word, then_option}
use Rattle.safl_command.specs.Laws.{AreUnhyphened, IsUnhyphenedIf, option, option_if, words_if, CheckWords, BuildWords, OptimiseWords, SimWords, WalkWords, RunWords}
use Rattle.safl_command.specs.Laws.{ReportWords, GenWords, BenchWords, CopyWords, UnfoldWords, SessionWords, AigWords, AigstatWords}
use Rattle.safl_command.specs.Spelled as spells
use Rattle.safl_command.proofs.Numbers.{number_unhyphened, limit_unhyphened, count_unhyphened}
use Rattle.safl_command.proofs.SaidLines.{said}

module _ {words : List Text} {options : List GivenOption} {line : List Text} where
  next : {word : Text} → IsUnhyphened word → Arranged words options line → Arranged (word ∷ words) options (word ∷ line)
  next {word} h a = then_word word words options line h a

  -- an option with its value, before other words
  set : {value : Text} (name : Text) → IsUnhyphened value → Arranged words options line → Arranged words (option name value options) ((codes "--" ++ name) ∷ value ∷ line)
  set {value} name h a = then_option words [] options (record { name = name; value = Some value }) ((codes "--" ++ name) ∷ value ∷ []) line (inl (h, refl)) a

  set_if : (name : Text) (value : Option Text) → IsUnhyphenedIf value → Arranged words options line → Arranged words (option_if name value options) (words_if (codes "--" ++ name) value line)
  set_if name None h a = a
  set_if name (Some value) h a = set name h a

all_words : (words : List Text) → AreUnhyphened words → Arranged words [] words
all_words [] h = ends
all_words (w ∷ ws) h = next h.0 (all_words ws h.1)

pub check_words : CheckWords
check_words i h = said _ (spells.check i h.0) (next h.1 ends)

pub build_words : BuildWords
build_words i o h k = said _ (spells.build i o h.0 k.0) (next h.1 (next k.1 ends))

pub optimise_words : OptimiseWords
optimise_words i o h k =
    said _ (spells.optimise i o h.0 k.0) (next h.1 (next k.1 (then_option [] [] [] (record { name = codes "opt"; value = None }) (codes "--opt" ∷ []) [] refl ends)))

pub sim_words : SimWords
sim_words i l t args h k u m a =
    said _ (spells.sim i l t args h.0 k m)
    (next h.1 (set (codes "cycles") (limit_unhyphened l k)
    (set_if (codes "vcd") t.vcd u.0 (set_if (codes "starts") t.starts u.1 (set_if (codes "toggles") t.toggles u.2 (all_words args a))))))

pub walk_words : WalkWords
walk_words i s n args h k m a =
    said _ (spells.walk i s n args h.0 k m) (next h.1 (set (codes "order") (number_unhyphened s k) (set (codes "steps") (limit_unhyphened n m) (all_words args a))))

pub run_words : RunWords
run_words i l args h k a = said _ (spells.run i l args h.0 k) (next h.1 (set (codes "cycles") (limit_unhyphened l k) (all_words args a)))

pub report_words : ReportWords
report_words i h = said _ (spells.report i h.0) (next h.1 ends)

pub gen_words : GenWords
gen_words s n h k = said _ (spells.gen s n h k) (next (number_unhyphened s h) (next (count_unhyphened n k) ends))

pub bench_words : BenchWords
bench_words s n l h k m =
    said _ (spells.bench s n l h k m) (next (number_unhyphened s h) (next (count_unhyphened n k) (set (codes "cycles") (limit_unhyphened l m) ends)))

pub copy_words : CopyWords
copy_words i o n h k m = said _ (spells.copied i o n h.0 k.0 m) (next h.1 (next k.1 (set (codes "copy") (number_unhyphened n m) ends)))

pub unfold_words : UnfoldWords
unfold_words i o n h k m = said _ (spells.unfolded i o n h.0 k.0 m) (next h.1 (next k.1 (set (codes "unfold") (number_unhyphened n m) ends)))

pub session_words : SessionWords
session_words i s l h k m = said _ (spells.session i s l h.0 k.0 m) (next h.1 (next k.1 (set (codes "cycles") (limit_unhyphened l m) ends)))

pub aig_words : AigWords
aig_words i o h k = said _ (spells.aig i o h.0 k.0) (next h.1 (next k.1 ends))

pub aigstat_words : AigstatWords
aigstat_words i h = said _ (spells.aigstat i h.0) (next h.1 ends)
