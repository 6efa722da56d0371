-- What is promised is kept, command by command.
use Rattle.safl_tool.proofs.Common.{Done, EvaluatesEach, GivesReplies, HaveFault, IsAccepted, IsAcyclic, IsOutcome, IsSourceOf, Names}
use Rattle.safl_tool.proofs.Common.{Netlist, NoFault, Program, Status, Walked, Word, argument_widths, file_within, source_max}
use Rattle.std.proofs.Common.{◌≡◌, ℕ, zero, suc, List, [], ◌∷◌, Option, Some, None, true, slice_get, refl, sym, ap, subst, arith, inl, inr, codes}
use Rattle.safl_term.specs.Meaning.{Main}
use Rattle.safl_compiler.specs.Laws.{OneProgram, NotBoth}
use Rattle.safl_verilog.specs.Laws as verilog
use Rattle.safl_command.specs.Commands.{Command, Check, Build, Sim, Walk, Run, Optimise, Report, Gen, Bench, CopySite, UnfoldSite, Session, Aig, Aigstat}
use Rattle.std.specs.Prelude.{is_some, false, Bool}
use Rattle.safl_command.specs.Traces.{Traces}
use Rattle.safl_tool.specs.Tracing.{have_probes, files_for}
use Rattle.safl_session.specs.Lines.{IsArgument, AreArguments}
use Rattle.safl_tool.specs.Simulating.{Simulates, IsMisgiven, Limited, InCycles, InEvents, Evaluates}
use Rattle.safl_tool.specs.Walking.{MainGives, Walks}
use Rattle.safl_tool.specs.Running.{RunsText, IsMisrun, IsUnrunnable, faulty, looped, Finishes}
use Rattle.safl_task.specs.Limits.{script_max, verilog_max, aig_max}
use Rattle.safl_task.specs.Tasks.{Input, Given, Only, Both, reading, reading_both}
use Rattle.safl_tool.specs.CommandTasks.{task_if, usage_task, reshape_task, command_task, traces_in, task_of}
use Rattle.safl_tool.specs.CommandTasks.{RefusesSourceOf, RefusesGiven, RefusesText, GivesNumbers, GivesCircuit, GivesOptimised, GivesTraces}
use Rattle.safl_tool.specs.CommandTasks.{GivesWalk, GivesRun, end_of_walk, GivesMeasure, RefusesReshaping, RefusesSession}
use Rattle.safl_tool.specs.BitLevel.{GivesBits, GivesCounts, HasBits, IsAig, RefusesAig, RefusesBitsOf}
use Rattle.safl_session.specs.Circuits.{CircuitsReply, ResetIsQuiet}
use Rattle.safl_session.specs.Laws as sessions
use Rattle.safl_tree.specs.Laws.{OneProgram as OneTree}
use Rattle.safl_session.proofs.WordsOfLines.{args_long, args_once}
use Rattle.safl_tool.specs.Reshaping.{Reshaping, copies, unfolds, IsReshapable, GivesReshaped}
use Rattle.safl_tool.proofs.Reshaped.{reshapable_not_refused}
use Rattle.safl_tool.specs.Reporting.{GivesReport, Measures, made_source, made_args}
use Rattle.safl_task.proofs.Following.{IsKept, Refusing, Giving}
use Rattle.safl_tool.proofs.Simulated.{read_words}
use Rattle.safl_tool.proofs.Bits.{bits_not_refused, aig_not_refused}
use Rattle.safl_tool.proofs.Conversed.{misscripted_not, replies_come}

read_at : (widths : List ℕ) (args : List (List ℕ)) (vs : List Word) (i w : ℕ) (t : List ℕ) → AreArguments widths args vs → slice_get widths i ≡ Some w
    → slice_get args i ≡ Some t → (v : Word) × IsArgument w t v
read_at [] [] [] i w t r e f = absurd (cc)
read_at [] [] (v ∷ vs) i w t r e f = absurd r
read_at [] (x ∷ ts) vs i w t r e f = absurd r
read_at (y ∷ ws) [] vs i w t r e f = absurd r
read_at (y ∷ ws) (x ∷ ts) [] i w t r e f = absurd r
read_at (y ∷ ws) (x ∷ ts) (v ∷ vs) zero w t r e f =
    let a : y ≡ w = cc in
    let b : x ≡ t = cc in
    (v, subst (λ k. IsArgument k t v) a (subst (λ k. IsArgument y k v) b r.0))
read_at (y ∷ ws) (x ∷ ts) (v ∷ vs) (suc i) w t r e f = read_at ws ts vs i w t r.1 e f

no_fault : (widths : List ℕ) (args : List (List ℕ)) (vs : List Word) (line : List ℕ) → AreArguments widths args vs → HaveFault widths args line → ⊥
no_fault widths args vs line r f = elim f [
  | inl m ↦ m.0 (args_long widths args vs r)
  | inr u ↦ let v = read_at widths args vs u.0.index u.0.width u.0.text r u.0.at_width u.0.at_text in u.0.bad v.0 v.1
]

-- main gives a value in time, so done comes
-- the same evaluation, of the same program with the same words
abbrev Fitting : Program → List Word → Word → Limited → Type 0
Fitting C words v Fits = (d : Main C words v) × Fits C words v d

fitting : OneProgram → (source : List ℕ) (args : List (List ℕ)) (Fits : Limited) (e : Evaluates source args Fits) (C : Program) (D : Names) →
    IsSourceOf source C D → (words : List Word) → AreArguments (C.params C.main) args words → Fitting C words e.5 Fits
fitting once source args Fits e C D of words read =
    let same : e.0 ≡ C = (once source e.0 C e.1 D e.2 of).0 in
    let given : AreArguments (C.params C.main) args e.3 = subst (λ (x : Program). AreArguments (x.params x.main) args e.3) same e.4 in
    let here : (d : Main C e.3 e.5) × Fits C e.3 e.5 d = subst (λ (x : Program). (d : Main x e.3 e.5) × Fits x e.3 e.5 d) same (e.6, e.7) in
    subst (λ l. (d : Main C l e.5) × Fits C l e.5 d) (args_once (C.params C.main) args e.3 words given read) here

comes_in_time : OneProgram → (source : List ℕ) (args : List (List ℕ)) (limit : ℕ) → Simulates source args limit None → Evaluates source args (InCycles limit) → ⊥
comes_in_time once source args limit s e =
    let f = fitting once source args (InCycles limit) e s.program s.names s.source_of s.words s.read in
    let o = s.outcome.answers in
    let d = s.circuit.circuit.correct.behaves.prompt s.words (read_words (s.program.params s.program.main) args s.words s.read) o.cycles o.call.run
    e.5 f.0 (let a = o.long in let b = f.1 in omega (arith, a, b)) in
    let off = o.not_done d.cycle d.words (let a = d.in_time in let b = f.1 in omega (arith, a, b)) d.there in
    let on = d.done in
    absurd (cc)

misgiven_not : OneProgram → (source : List ℕ) (args : List (List ℕ)) (Fits : Limited) → ((line : List ℕ) × IsMisgiven source args line) → Evaluates source args Fits → ⊥
misgiven_not once source args Fits m e =
    let C : m.1.0 ≡ e.0 = (once source m.1.0 e.0 m.1.1 e.1 m.1.2 e.2).0 in
    no_fault (m.1.0.params m.1.0.main) args e.3 m.0 (subst (λ (x : Program). AreArguments (x.params x.main) args e.3) (sym C) e.4) m.1.3

-- main gives a value in time, so it returns
returns_in_time : OneProgram → (source : List ℕ) (args : List (List ℕ)) (seed steps : ℕ) (w : Walked) → Walks source args seed steps w → w.result ≡ None → Evaluates source args (InEvents steps) → ⊥
returns_in_time once source args seed steps w s none e =
    let f = fitting once source args (InEvents steps) e s.0 s.1 s.3 s.2 s.4 in
    let short : MainGives s.0 s.2 steps w.events None = subst (λ (r : Option Word). MainGives s.0 s.2 steps w.events r) none s.5.gives in
    let a = short.1 e.5 f.0 in
    let b = f.1 in
    omega (arith, a, b)

-- of a file whose netlist finishes no other thing is said
never_finishes : verilog.OneNetlist → (text : List ℕ) (args : List (List ℕ)) (limit : ℕ) → RunsText text args limit None → Finishes text args limit → ⊥
never_finishes one text args limit r f =
    let g = f.1 in
    let words : List Word = g.2.words in
    let n : g.0 ≡ r.0 = one text g.0 r.0 g.1.reads r.1.reads in
    let read : AreArguments (argument_widths r.0.signals) args words = subst (λ (x : Netlist). AreArguments (argument_widths x.signals) args words) n g.2.read in
    let same : words ≡ r.2.words = args_once (argument_widths r.0.signals) args words r.2.words read r.2.read in
    let done : IsOutcome r.0 r.2.words limit (Some f.0) =
    subst (λ (l : List Word). IsOutcome r.0 l limit (Some f.0)) same (subst (λ (x : Netlist). IsOutcome x words limit (Some f.0)) n g.2.outcome)
    in
    let never : None ≡ Some f.0 = done.alone None r.2.outcome.after r.2.outcome.answers in
    absurd (cc)

misrun_not : verilog.OneNetlist → (text : List ℕ) (args : List (List ℕ)) (limit : ℕ) → ((line : List ℕ) × IsMisrun text args line) → Finishes text args limit → ⊥
misrun_not one text args limit m f =
    let g = f.1 in
    let words : List Word = g.2.words in
    let n : g.0 ≡ m.1.0 = one text g.0 m.1.0 g.1.reads m.1.1.reads in
    no_fault (argument_widths m.1.0.signals) args words m.0 (subst (λ (x : Netlist). AreArguments (argument_widths x.signals) args words) n g.2.read) m.1.2

unrunnable_not : verilog.OneNetlist → verilog.NotBoth → (name text line : List ℕ) (args : List (List ℕ)) (limit : ℕ) → IsUnrunnable name text line → Finishes text args limit → ⊥
unrunnable_not one apart name text line args limit (faulty f h is) e = apart text e.1.0 f e.1.1.reads h
unrunnable_not one apart name text line args limit (looped n ws h l cyclic is) e =
    cyclic (subst (λ (x : Netlist). IsAcyclic x) (one text e.1.0 n e.1.1.reads h) e.1.1.acyclic)

-- ---- the commands

usage_kept : IsKept usage_task
usage_kept = record { refuses = λ contents s line p r. absurd p; gives = λ contents g p h. absurd p }

-- what is said of the only content
only : (P Q : List ℕ → Type 0) (R : Type 0) → ((content : List ℕ) → P content → Q content → R) → (contents : List (List ℕ)) → Only P contents → Only Q contents → R
only P Q R f [] p q = absurd p
only P Q R f (c ∷ []) p q = f c p q
only P Q R f (c ∷ (d ∷ cs)) p q = absurd p

-- what is said of the only two contents
both : (P Q : List ℕ → List ℕ → Type 0) (R : Type 0) → ((first second : List ℕ) → P first second → Q first second → R) → (contents : List (List ℕ)) → Both P contents → Both Q contents → R
both P Q R f [] p q = absurd p
both P Q R f (c ∷ []) p q = absurd p
both P Q R f (c ∷ (d ∷ [])) p q = f c d p q
both P Q R f (c ∷ (d ∷ (e ∷ cs))) p q = absurd p

-- a command that reads one file, and one that reads two
reading_kept : (input : Input) (outputs : List (List ℕ)) (R : Refusing) (G : Giving) (P : List ℕ → Type 0)
    → ((content : List ℕ) (s : Status) (line : List ℕ) → P content → R content s line → ⊥) →
    ((content : List ℕ) (g : Given) → P content → G content g → g.comes ≡ true) → IsKept (reading input outputs R G P)
reading_kept input outputs R G P not comes = record {
  refuses = λ contents s line. only P (λ content. R content s line) ⊥ (λ content. not content s line) contents;
  gives = λ contents g. only P (λ content. G content g) (g.comes ≡ true) (λ content. comes content g) contents;
}

reading_both_kept : (one two : Input) (R : List ℕ → Refusing) (G : List ℕ → Giving) (P : List ℕ → List ℕ → Type 0)
    → ((c d : List ℕ) (s : Status) (line : List ℕ) → P c d → R c d s line → ⊥) → ((c d : List ℕ) (g : Given) → P c d → G c d g → g.comes ≡ true) → IsKept (reading_both one two R G P)
reading_both_kept one two R G P not comes = record {
  refuses = λ contents s line. both P (λ c d. R c d s line) ⊥ (λ c d. not c d s line) contents;
  gives = λ contents g. both P (λ c d. G c d g) (g.comes ≡ true) (λ c d. comes c d g) contents;
}

accepted_not_refused : NotBoth → (name source : List ℕ) (s : Status) (line : List ℕ) → IsAccepted source → RefusesSourceOf name source s line → ⊥
accepted_not_refused apart name source s line a r = apart source a.0 a.1 r.1.0 a.2 r.1.1

-- a source that is accepted is not refused
accepted_kept : NotBoth → (input : List ℕ) (outputs : List (List ℕ)) (G : Giving) → ((source : List ℕ) (g : Given) → G source g → g.comes ≡ true) →
    IsKept (reading (file_within input source_max) outputs (RefusesSourceOf input) G IsAccepted)
accepted_kept apart input outputs G comes =
    reading_kept (file_within input source_max) outputs (RefusesSourceOf input) G IsAccepted
    (λ source s line a r. accepted_not_refused apart input source s line a r) (λ source g a h. comes source g h)

given_not_refused : OneProgram → NotBoth → (name : List ℕ) (args : List (List ℕ)) (Fits : Limited) (s : Status) (line source : List ℕ) → Evaluates
    source args Fits → RefusesGiven name args source s line → ⊥
given_not_refused once apart name args Fits s line source e r = elim r [
  | inl f ↦ apart source e.0 e.1 f.1.0 e.2 f.1.1
  | inr m ↦ misgiven_not once source args Fits (line, m.1) e
]

traces_come : OneProgram → (traces : Traces) (args : List (List ℕ)) (limit : ℕ) (g : Given) (source : List ℕ) → Evaluates source args (InCycles limit)
    → GivesTraces traces args limit source g → g.comes ≡ true
traces_come once traces args limit g source e h = by h.answer h.simulates (ap (λ (x : Given). x.comes) h.is)
  where
    by : (answer : Option Done) → Simulates source args limit answer → g.comes ≡ is_some answer → g.comes ≡ true
    by None s is = absurd (comes_in_time once source args limit s e)
    by (Some d) s is = is

walk_comes : OneProgram → (args : List (List ℕ)) (seed steps : ℕ) (g : Given) (source : List ℕ) → Evaluates source args (InEvents steps) → GivesWalk args seed steps source g → g.comes ≡ true
walk_comes once args seed steps g source e (w, walks, is) = by w.result refl is
  where
    by : (r : Option Word) → w.result ≡ r → g ≡ end_of_walk steps w r → g.comes ≡ true
    by None none is = absurd (returns_in_time once source args seed steps w walks none e)
    by (Some v) some is = ap (λ (x : Given). x.comes) is

text_not_refused : verilog.OneNetlist → verilog.NotBoth → (name : List ℕ) (args : List (List ℕ)) (limit : ℕ) (s : Status) (line text : List ℕ) →
    Finishes text args limit → RefusesText name args text s line → ⊥
text_not_refused one apart name args limit s line text f r = elim r [
  | inl u ↦ unrunnable_not one apart name text line args limit u.1 f
  | inr m ↦ misrun_not one text args limit (line, m.1) f
]

run_comes : verilog.OneNetlist → (args : List (List ℕ)) (limit : ℕ) (g : Given) (text : List ℕ) → Finishes text args limit → GivesRun args limit text g → g.comes ≡ true
run_comes one args limit g text f (None, r, is) = absurd (never_finishes one text args limit r f)
run_comes one args limit g text f (Some d, r, is) = ap (λ (x : Given). x.comes) is

-- the run that was measured
measured_run : (source : List ℕ) (args : List (List ℕ)) (limit : ℕ) (head : List ℕ) (answer : Option Done) → Measures source args limit head answer → Simulates source args limit answer
measured_run source args limit head answer m = m.simulates

measure_comes : OneProgram → (args : List (List ℕ)) (limit : ℕ) (g : Given) (source : List ℕ) → Evaluates source args (InCycles limit) → GivesMeasure args limit source g → g.comes ≡ true
measure_comes once args limit g source e (head, None, m, is) = absurd (comes_in_time once source args limit (measured_run source args limit head None m) e)
measure_comes once args limit g source e (head, Some d, m, is) = ap (λ (x : Given). x.comes) is

source_reshapable_not_refused : NotBoth → (r : Reshaping) (source : List ℕ) (name : List ℕ) (s : Status) (line : List ℕ) → IsReshapable r source → RefusesSourceOf name source s line → ⊥
source_reshapable_not_refused apart r source name s line k f =
    apart source k.program k.names f.1.0 k.source_of f.1.1

-- what is true of sources, of scripts, of Verilog texts and of AIGER texts
pub record Laws : Type 1 where
  pub once : OneProgram
  pub apart : NotBoth
  pub one : verilog.OneNetlist
  pub free : verilog.NotBoth
  pub trees : OneTree
  pub sound : NoFault
  pub replies : CircuitsReply
  pub reset : ResetIsQuiet
  pub script : sessions.OneScript
  pub misread : sessions.NotBoth

reshape_kept : Laws → (r : Reshaping) (input output : List ℕ) (site : ℕ) → IsKept (reshape_task r input output site)
reshape_kept l r input output site =
    reading_kept (file_within input source_max) (output ∷ []) (RefusesReshaping r input site) (GivesReshaped r) (IsReshapable r)
    (λ source s line k q. elim q [
      | inl f ↦ source_reshapable_not_refused l.apart r source input s line k f
      | inr u ↦ reshapable_not_refused l.trees l.once r site source s line k u
    ]) (λ source g k h. ap (λ (x : Given). x.comes) h.is)

session_kept : Laws → (input script : List ℕ) (limit : ℕ) → IsKept (command_task (Session input script limit))
session_kept l input script limit =
    reading_both_kept (file_within input source_max) (file_within script script_max) (RefusesSession input) (GivesReplies limit) (λ source text. EvaluatesEach source text limit)
    (λ source text s line e r. elim r [
      | inl f ↦ l.apart source e.0 e.1 f.1.0 e.3 f.1.1
      | inr m ↦ misscripted_not l.once l.misread source text limit line e m.1
    ]) (λ source text g e h. replies_come l.once l.replies l.reset l.script limit source text g e h)

command_kept : Laws → (m : Command) → IsKept (command_task m)
command_kept l (Check input) = accepted_kept l.apart input [] GivesNumbers (λ source g h. ap (λ (x : Given). x.comes) h.3)
command_kept l (Build input output) = accepted_kept l.apart input (output ∷ []) GivesCircuit (λ source g h. ap (λ (x : Given). x.comes) h.1.is)
command_kept l (Optimise input output) = accepted_kept l.apart input (output ∷ []) GivesOptimised (λ source g h. ap (λ (x : Given). x.comes) h.1.is)
command_kept l (Sim input limit traces args) =
    reading_kept (file_within input source_max) (files_for traces) (RefusesGiven input args) (GivesTraces traces args limit) (λ source. Evaluates source args (InCycles limit))
    (λ source s line e r. given_not_refused l.once l.apart input args (InCycles limit) s line source e r) (λ source g e h. traces_come l.once traces args limit g source e h)
command_kept l (Walk input seed steps args) =
    reading_kept (file_within input source_max) [] (RefusesGiven input args) (GivesWalk args seed steps) (λ source. Evaluates source args (InEvents steps))
    (λ source s line e r. given_not_refused l.once l.apart input args (InEvents steps) s line source e r) (λ source g e h. walk_comes l.once args seed steps g source e h)
command_kept l (Run input limit args) =
    reading_kept (file_within input verilog_max) [] (RefusesText input args) (GivesRun args limit) (λ text. Finishes text args limit)
    (λ text s line f r. text_not_refused l.one l.free input args limit s line text f r) (λ text g f h. run_comes l.one args limit g text f h)
command_kept l (Report input) = accepted_kept l.apart input [] GivesReport (λ source g h. ap (λ (x : Given). x.comes) h.5)
command_kept l (Gen seed count) = record { refuses = λ contents s line p r. absurd r; gives = λ contents g p h. ap (λ (x : Given). x.comes) h }
command_kept l (Bench seed count limit) = record {
  refuses = λ contents s line p r. given_not_refused l.once l.apart (codes "bench") (made_args seed count) (InCycles limit) s line (made_source seed count) p r;
  gives = λ contents g p h. measure_comes l.once (made_args seed count) limit g (made_source seed count) p h;
}
command_kept l (CopySite input output site) = reshape_kept l (copies site) input output site
command_kept l (UnfoldSite input output site) = reshape_kept l (unfolds site) input output site
command_kept l (Session input script limit) = session_kept l input script limit
command_kept l (Aig input output) =
    reading_kept (file_within input verilog_max) (output ∷ []) (RefusesBitsOf input) GivesBits HasBits
    (λ text s line p r. bits_not_refused l.one l.free input s line text p r) (λ text g p h. ap (λ (x : Given). x.comes) h.2)
command_kept l (Aigstat input) =
    reading_kept (file_within input aig_max) [] (RefusesAig input) GivesCounts IsAig (λ text s line a r. aig_not_refused l.sound input s line text a r) (λ text g a h. ap (λ (x : Given). x.comes) h.2)

pub kept : Laws → (kinds : List ℕ) (m : Option Command) → IsKept (task_of kinds m)
kept l kinds None = usage_kept
kept l kinds (Some m) = go (have_probes (traces_in m) kinds)
  where
    go : (b : Bool) → IsKept (task_if b (command_task m) usage_task)
    go true = command_kept l m
    go false = usage_kept
