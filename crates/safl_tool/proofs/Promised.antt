-- What commands come to at status Ok, from how a call ends.
use Rattle.safl_tool.proofs.Common.{Files, IsSomeAnd, Names, Netlist, Program, Sends, SinkState, Status, TellsOn, Word, as_word}
use Rattle.safl_tool.proofs.Common.{bytes_eq-Decides, file_of, file_within, option_or, reset_state, source_max, until_done, written}
use Rattle.std.proofs.Common.{◌≡◌, ◌≤◌, ◌∙◌, ℕ, List, [], ◌∷◌, ◌++◌, length, Bool, true, false, Option, Some, None, bytes_eq, if◌then◌else◌, refl, sym, ap, subst, inl, inr, codes}
use Rattle.std.proofs.lemmas.Bool.{eqb-true}
use Rattle.safl_sim.specs.declared.done.Done.{Done as Reply}
use Rattle.safl_session.specs.Circuits.{Serves}
use Rattle.safl_session.specs.Transcripts.{reply_lines, calls_line, late_line, are_all}
use Rattle.safl_command.specs.Arranged.{GivenOption, IsUnhyphened, Arranged, ends, then_word, then_option}
use Rattle.safl_command.specs.Laws.{IsName, IsLimit, flag, option, trace_options}
use Rattle.safl_command.specs.Commands.{Command, Check, Build, Optimise, Sim, Session, Aig, command_of}
use Rattle.safl_command.proofs.SaidWords.{build_words, optimise_words}
use Rattle.safl_command.proofs.SaidLines.{check_lines, optimise_lines, sim_lines, session_lines, aig_lines}
use Rattle.safl_word.specs.Numerals.{value}
use Rattle.safl_command.specs.Apart.{Traces, are_apart}
use Rattle.safl_task.specs.Limits.{script_max, verilog_max}
use Rattle.safl_task.specs.Tasks.{Input, Given, Only, Both, AreContents, OfFile, end_of, files_of, only_writes, status_if}
use Rattle.safl_task.specs.Endings.{Outside, LeavesAll, Gave}
use Rattle.safl_task.specs.declared.status.Status.TheVariants as status
use Rattle.safl_task.proofs.Following.{gave_at_ok}
use Rattle.safl_tool.specs.BitLevel.{GivesBits, IsConverted}
use Rattle.safl_tool.specs.Calling.{Converses as Conversed, GivesReplies, told}
use Rattle.safl_tool.specs.CommandTasks.{WritesCircuit, GivesNumbers, GivesOptimised, GivesTraces, command_task, task_if, traced, traces_in, usage_task}
use Rattle.safl_tool.specs.Simulating.{Simulates as Simulated}
use Rattle.safl_tool.specs.Tracing.{have_probes, kinds_of, traces_of}
use Rattle.safl_tool.specs.Headline.{SayBuild, IsBuilt, Turns}
use Rattle.safl_tool.specs.Promises.{Say, IsPrinted, IsChecked, IsSimulated, EachReply, IsSession}
use Rattle.safl_tool.specs.Worlds.{World, EndsBy, Unprobed, task_in}

-- ---- what was given

-- at Ok a command gave all that it gives
abbrev GaveAll : {P : Type 0} → Command → World P → World P → Type 0
GaveAll m old new = (g : Given) × Gave (command_task m) old.outside new.outside g × (end_of g ≡ status.Ok)

of_task : (m : Command) (b : Bool) (old new : Outside) (g : Given) → Gave (task_if b (command_task m) usage_task) old new g
    → Gave (command_task m) old new g
of_task m true old new g h = h
of_task m false old new g h = absurd h.given.2

module _ {P : Type 0} (words : List (List ℕ)) (old new : World P) (before after : SinkState) (s : Status)
    (end : EndsBy (command_of words) old new before after s) (ok : s ≡ status.Ok) where
  said_gave : (m : Command) → command_of words ≡ Some m → GaveAll m old new
  said_gave m e =
      let h : EndsBy (Some m) old new before after s = subst (λ (x : Option Command). EndsBy x old new before after s) e end in
      let y = gave_at_ok (task_in (Some m) old) (Unprobed (Some m) old new) old.outside new.outside before after s h ok in
      (y.0, of_task m (have_probes (traces_in m) (kinds_of old.states)) old.outside new.outside y.0 y.1, y.2)

-- ---- files that are written

-- the text of the one output file
output_text : (output text : List ℕ) (a b : Files) → LeavesAll (files_of (output ∷ []) (text ∷ [])) a b → file_of b output ≡ Some text
output_text output text a b leaves =
    let same : bytes_eq output output ≡ true = (bytes_eq-Decides output output).1 refl in
    subst (λ (e : Bool). file_of b output ≡ option_or (if e then Some text else None) (file_of a output)) same (leaves output)

-- what is given of a content within a limit is a text that is so
abbrev IsWriting : ℕ → (List ℕ → List ℕ → Type 0) → (List ℕ → Given → Type 0) → Type 0
IsWriting limit R Q = (content : List ℕ) (g : Given) → length content ≤ limit → Q content g → (text : List ℕ) × (g ≡ only_writes text) × R content text

turned : (R : List ℕ → List ℕ → Type 0) (Q : List ℕ → Given → Type 0) → (i : Input) → IsWriting i.limit R Q → (output : List ℕ) (a b : Option Files)
    (contents : List (List ℕ)) (g : Given) → AreContents a (i ∷ []) contents → Only (λ content. Q content g) contents
    → TellsOn (LeavesAll (files_of (output ∷ []) g.texts)) a b → TellsOn (Turns R i.name output) a b
turned R Q i writes output None b contents g are gives leaves = tt
turned R Q i writes output (Some a) None contents g are gives leaves = leaves
turned R Q i writes output (Some a) (Some b) [] g are gives leaves = absurd gives
turned R Q i writes output (Some a) (Some b) (content ∷ (other ∷ more)) g are gives leaves = absurd gives
turned R Q i writes output (Some a) (Some b) (content ∷ []) g are gives leaves =
    let w : (text : List ℕ) × (g ≡ only_writes text) × R content text = writes content g are.0 gives in
    let all : LeavesAll (files_of (output ∷ []) (w.0 ∷ [])) a b = subst (λ (x : Given). LeavesAll (files_of (output ∷ []) x.texts) a b) w.1 leaves in
    let begins : file_of a i.name ≡ Some content = are.1 in
    subst (λ (o : Option (List ℕ)). IsSomeAnd o (λ x. IsSomeAnd (file_of b output) (R x))) (sym begins)
    (subst (λ (o : Option (List ℕ)). IsSomeAnd o (R content)) (sym (output_text output w.0 a b all)) w.2)

-- ---- texts that are printed

prints : (Q : List ℕ → Type 0) (text : List ℕ) (before after : Option (List ℕ)) → Q text → TellsOn (Sends text) before after
    → TellsOn (λ old new. (x : List ℕ) × Q x × Sends x old new) before after
prints Q text None after q sends = tt
prints Q text (Some old) None q sends = sends
prints Q text (Some old) (Some new) q sends = (text, q, sends)

in_file : (Q : List ℕ → Type 0) (holds : Option Files) (i : Input) (content : List ℕ) (rest : List Input) (contents : List (List ℕ))
    → AreContents holds (i ∷ rest) (content ∷ contents) → Q content → OfFile holds i.name Q
in_file Q None i content rest contents are q = tt
in_file Q (Some files) i content rest contents are q =
    let begins : file_of files i.name ≡ Some content = are.1 in subst (λ (o : Option (List ℕ)). IsSomeAnd o Q) (sym begins) q

-- where the one content is so, or both, they are otherwise too
only : (Q R : List ℕ → Type 0) → ((c : List ℕ) → Q c → R c) → (contents : List (List ℕ)) → Only Q contents → Only R contents
only Q R f [] h = absurd h
only Q R f (c ∷ []) h = f c h
only Q R f (c ∷ (d ∷ more)) h = absurd h

both : (Q R : List ℕ → List ℕ → Type 0) → ((c d : List ℕ) → Q c d → R c d) → (contents : List (List ℕ)) → Both Q contents → Both R contents
both Q R f [] h = absurd h
both Q R f (c ∷ []) h = absurd h
both Q R f (c ∷ (d ∷ [])) h = f c d h
both Q R f (c ∷ (d ∷ (e ∷ more))) h = absurd h

-- what is given of one content, or of two, is printed
of_one : (R : List ℕ → List ℕ → Type 0) (holds : Option Files) (i : Input) (contents : List (List ℕ)) (g : Given) (before after : SinkState)
    → AreContents holds (i ∷ []) contents → Only (λ content. R content g.printed) contents → TellsOn (Sends g.printed) before.sent after.sent
    → OfFile holds i.name (λ content. IsPrinted (R content) before after)
of_one R holds i [] g before after are gives sends = absurd gives
of_one R holds i (content ∷ (other ∷ more)) g before after are gives sends = absurd gives
of_one R holds i (content ∷ []) g before after are gives sends =
    in_file (λ c. IsPrinted (R c) before after) holds i content [] [] are (prints (R content) g.printed before.sent after.sent gives sends)

of_two : (R : List ℕ → List ℕ → List ℕ → Type 0) (holds : Option Files) (i j : Input) (contents : List (List ℕ)) (g : Given) (before after : SinkState)
    → AreContents holds (i ∷ j ∷ []) contents → Both (λ one two. R one two g.printed) contents → TellsOn (Sends g.printed) before.sent after.sent
    → OfFile holds i.name (λ one. OfFile holds j.name (λ two. IsPrinted (R one two) before after))
of_two R holds i j [] g before after are gives sends = absurd gives
of_two R holds i j (one ∷ []) g before after are gives sends = absurd gives
of_two R holds i j (one ∷ (two ∷ (three ∷ more))) g before after are gives sends = absurd gives
of_two R holds i j (one ∷ (two ∷ [])) g before after are gives sends =
    in_file (λ c. OfFile holds j.name (λ d. IsPrinted (R c d) before after)) holds i one (j ∷ []) (two ∷ []) are
    (in_file (λ d. IsPrinted (R one d) before after) holds j two [] [] are.2 (prints (R one two) g.printed before.sent after.sent gives sends))

-- ---- what the five commands give

is_built : (source : List ℕ) (net : Netlist) (g : Given) → length source ≤ source_max → WritesCircuit source net g → IsBuilt source (written net)
is_built source net g short w = record {
  short = short;
  program = w.program;
  names = w.names;
  net = net;
  source_of = w.source_of;
  reads = w.reads;
  correct = w.circuit.circuit.correct;
}

built : IsWriting source_max IsBuilt (λ source g. (net : Netlist) × WritesCircuit source net g)
built source g short w = (written w.0, w.1.is, is_built source w.0 g short w.1)

optimised : IsWriting source_max IsBuilt GivesOptimised
optimised source g short w = (written w.0, w.1.is, is_built source w.0 g short w.1)

converted : IsWriting verilog_max IsConverted GivesBits
converted text g short w = (w.0, w.2, w.1)

checked : (source : List ℕ) (g : Given) → GivesNumbers source g → IsChecked source g.printed
checked source g h = (h.0, h.1, h.2, ap (λ (x : Given). x.printed) h.3)

simulated : (args : List (List ℕ)) (limit : ℕ) (source : List ℕ) (g : Given) (answer : Option Reply) (texts : List (List ℕ))
    → Simulated source args limit answer → g ≡ traced limit answer texts → end_of g ≡ status.Ok → IsSimulated args source g.printed
simulated args limit source g None texts sim is ok = absurd (let e : status.NoResult ≡ status.Ok = sym (ap end_of is) ∙ ok in cc)
simulated args limit source g (Some d) texts sim is ok = (
  sim.program,
  sim.names,
  sim.words,
  as_word (sim.program.result sim.program.main) d.result.bits,
  d.cycle,
  sim.source_of,
  sim.read,
  sim.value,
  ap (λ (x : Given). x.printed) is,
)

each_reply : (C : Program) (D : Names) (n : Netlist) (limit : ℕ) (state : ℕ → ℕ) (calls : List (List Word)) (rs : List Reply)
    → Serves C D n limit state calls rs → length rs ≡ length calls → EachReply C calls rs
each_reply C D n limit state [] [] serves e = tt
each_reply C D n limit state [] (r ∷ rs) serves e = absurd serves
each_reply C D n limit state (args ∷ calls) [] serves e = absurd (cc)
each_reply C D n limit state (args ∷ calls) (r ∷ rs) serves e =
    (serves.0, each_reply C D n limit serves.1 calls rs serves.5 (cc))

answered_by : (limit : ℕ) (source script : List ℕ) (calls : List (List Word)) (replies : List Reply) → Conversed source script limit calls replies → (g : Given)
    → g ≡ told limit calls replies → end_of g ≡ status.Ok → (b : Bool) → are_all (length calls) replies ≡ b → IsSession source script g.printed
answered_by limit source script calls replies h g is ok false e = absurd (
    let never : status.NoResult ≡ status.Ok = sym (ap end_of is ∙ ap (λ (x : Bool). status_if x) e) ∙ ok in cc
    )
answered_by limit source script calls replies h g is ok true e = (
  h.program,
  h.names,
  calls,
  replies,
  h.source_of,
  h.read,
  each_reply h.program h.names h.net limit (reset_state h.net) calls replies h.serves (eqb-true (length replies) (length calls) e),
  ap (λ (x : Given). x.printed) is ∙ ap (λ (x : Bool). reply_lines replies ++ (if x then calls_line (length calls) else late_line limit)) e,
)

answered : (limit : ℕ) (source script : List ℕ) (g : Given) → GivesReplies limit source script g → end_of g ≡ status.Ok → IsSession source script g.printed
answered limit source script g h ok = answered_by limit source script h.0 h.1 h.2 g h.3 ok (are_all (length h.0) h.1) refl

-- ---- by the words

abbrev opt : GivenOption
opt = record { name = codes "opt"; value = None }

two_words : (input output : List ℕ) → IsUnhyphened input → IsUnhyphened output → Arranged (input ∷ output ∷ []) [] (input ∷ output ∷ [])
two_words input output i o = then_word input (output ∷ []) [] (output ∷ []) i (then_word output [] [] [] o ends)

-- `--opt` stands before the names, or between them
opt_first : (input output : List ℕ) → IsUnhyphened input → IsUnhyphened output
    → Arranged (input ∷ output ∷ []) (flag (codes "opt") []) (codes "--opt" ∷ input ∷ output ∷ [])
opt_first input output i o = then_option (input ∷ output ∷ []) [] [] opt (codes "--opt" ∷ []) (input ∷ output ∷ []) refl (two_words input output i o)

opt_between : (input output : List ℕ) → IsUnhyphened input → IsUnhyphened output
    → Arranged (input ∷ output ∷ []) (flag (codes "opt") []) (input ∷ codes "--opt" ∷ output ∷ [])
opt_between input output i o =
    then_word input (output ∷ []) (flag (codes "opt") []) (codes "--opt" ∷ output ∷ []) i
    (then_option (output ∷ []) [] [] opt (codes "--opt" ∷ []) (output ∷ []) refl (then_word output [] [] [] o ends))

-- what words say
abbrev pub SayCheck : List ℕ → List (List ℕ) → Type 0
SayCheck input words = IsName input × Say (codes "check") (input ∷ []) [] words

abbrev pub SaySim : List ℕ → List ℕ → Traces → List (List ℕ) → List (List ℕ) → Type 0
SaySim input limit traces args words =
    IsName input × IsLimit limit × (are_apart traces ≡ true)
    × Say (codes "sim") (input ∷ args) (option (codes "cycles") limit (trace_options traces)) words

abbrev pub SaySession : List ℕ → List ℕ → List ℕ → List (List ℕ) → Type 0
SaySession input script limit words =
    IsName input × IsName script × IsLimit limit × Say (codes "session") (input ∷ script ∷ []) (option (codes "cycles") limit []) words

abbrev pub SayAig : List ℕ → List ℕ → List (List ℕ) → Type 0
SayAig input output words = IsName input × IsName output × Say (codes "aig") (input ∷ output ∷ []) [] words

module _ {P : Type 0} (words : List (List ℕ)) (old new : World P) (before after : SinkState) (s : Status)
    (end : EndsBy (command_of words) old new before after s) (ok : s ≡ status.Ok) where
  -- the words are these, which are a command
  is_command : (command : List ℕ) (names : List (List ℕ)) (options : List GivenOption) (m : Command) → Say command names options words
      → ((line : List (List ℕ)) → Arranged names options line → command_of (command ∷ line) ≡ Some m) → GaveAll m old new
  is_command command names options m say law =
      said_gave words old new before after s end ok m (ap command_of say.2 ∙ law say.0 say.1)

  -- `build` alone, and with `--opt`
  plainly : (input output : List ℕ) → command_of words ≡ Some (Build input output)
      → TellsOn (Turns IsBuilt input output) old.outside.shelf.holds new.outside.shelf.holds
  plainly input output e =
      let y : GaveAll (Build input output) old new = said_gave words old new before after s end ok (Build input output) e in
      turned IsBuilt (λ source g. (net : Netlist) × WritesCircuit source net g) (file_within input source_max) built output
      old.outside.shelf.holds new.outside.shelf.holds y.1.given.0 y.0 y.1.given.1 y.1.given.2 y.1.files

  smaller : (input output : List ℕ) → command_of words ≡ Some (Optimise input output)
      → TellsOn (Turns IsBuilt input output) old.outside.shelf.holds new.outside.shelf.holds
  smaller input output e =
      let y : GaveAll (Optimise input output) old new = said_gave words old new before after s end ok (Optimise input output) e in
      turned IsBuilt GivesOptimised (file_within input source_max) optimised output
      old.outside.shelf.holds new.outside.shelf.holds y.1.given.0 y.0 y.1.given.1 y.1.given.2 y.1.files

  pub builds : (input output : List ℕ) → SayBuild input output words → TellsOn (Turns IsBuilt input output) old.outside.shelf.holds new.outside.shelf.holds
  builds input output say = elim say.2 [
    | inl e ↦ plainly input output (ap command_of e ∙ build_words input output say.0 say.1)
    | inr given ↦ elim given [
      | inl e ↦ smaller input output (ap command_of e ∙ optimise_words input output say.0 say.1)
      | inr more ↦ elim more [
        | inl e ↦ smaller input output (ap command_of e ∙ optimise_lines input output _ say.0.0 say.1.0 (opt_between input output say.0.1 say.1.1))
        | inr e ↦ smaller input output (ap command_of e ∙ optimise_lines input output _ say.0.0 say.1.0 (opt_first input output say.0.1 say.1.1))
      ]
    ]
  ]

  pub converts : (input output : List ℕ) → SayAig input output words → TellsOn (Turns IsConverted input output) old.outside.shelf.holds new.outside.shelf.holds
  converts input output say =
      let y : GaveAll (Aig input output) old new =
      is_command (codes "aig") (input ∷ output ∷ []) [] (Aig input output) say.2 (λ line. aig_lines input output line say.0 say.1) in
      turned IsConverted GivesBits (file_within input verilog_max) converted output
      old.outside.shelf.holds new.outside.shelf.holds y.1.given.0 y.0 y.1.given.1 y.1.given.2 y.1.files

  pub checks : (input : List ℕ) → SayCheck input words
      → OfFile old.outside.shelf.holds input (λ source. IsPrinted (IsChecked source) old.outside.out new.outside.out)
  checks input say =
      let y : GaveAll (Check input) old new = is_command (codes "check") (input ∷ []) [] (Check input) say.1 (λ line. check_lines input line say.0) in
      let are : Only (λ source. IsChecked source y.0.printed) y.1.given.0 =
      only (λ source. GivesNumbers source y.0) (λ source. IsChecked source y.0.printed) (λ source h. checked source y.0 h) y.1.given.0 y.1.given.2 in
      of_one IsChecked old.outside.shelf.holds (file_within input source_max) y.1.given.0 y.0 old.outside.out new.outside.out y.1.given.1 are y.1.printed

  pub simulates : (input limit : List ℕ) (traces : Traces) (args : List (List ℕ)) → SaySim input limit traces args words
      → OfFile old.outside.shelf.holds input (λ source. IsPrinted (IsSimulated args source) old.outside.out new.outside.out)
  simulates input limit traces args say =
      let y : GaveAll (Sim input (value 10 limit) traces args) old new =
      is_command (codes "sim") (input ∷ args) (option (codes "cycles") limit (trace_options traces)) (Sim input (value 10 limit) traces args) say.3
      (λ line. sim_lines input limit traces args line say.0 say.1 say.2) in
      let are : Only (λ source. IsSimulated args source y.0.printed) y.1.given.0 =
      only (λ source. GivesTraces traces args (value 10 limit) source y.0) (λ source. IsSimulated args source y.0.printed)
      (λ source h. simulated args (value 10 limit) source y.0 h.answer (traces_of traces h.simulates.net (until_done h.simulates.net h.run))
      h.simulates h.is y.2)
      y.1.given.0 y.1.given.2 in
      of_one (IsSimulated args) old.outside.shelf.holds (file_within input source_max) y.1.given.0 y.0 old.outside.out new.outside.out y.1.given.1 are y.1.printed

  pub converses : (input script limit : List ℕ) → SaySession input script limit words
      → OfFile old.outside.shelf.holds input (λ source. OfFile old.outside.shelf.holds script
      (λ lines. IsPrinted (IsSession source lines) old.outside.out new.outside.out))
  converses input script limit say =
      let y : GaveAll (Session input script (value 10 limit)) old new =
      is_command (codes "session") (input ∷ script ∷ []) (option (codes "cycles") limit []) (Session input script (value 10 limit)) say.3
      (λ line. session_lines input script limit line say.0 say.1 say.2) in
      let are : Both (λ source lines. IsSession source lines y.0.printed) y.1.given.0 =
      both (λ source lines. GivesReplies (value 10 limit) source lines y.0) (λ source lines. IsSession source lines y.0.printed)
      (λ source lines h. answered (value 10 limit) source lines y.0 h y.2) y.1.given.0 y.1.given.2 in
      of_two IsSession old.outside.shelf.holds (file_within input source_max) (file_within script script_max) y.1.given.0 y.0 old.outside.out new.outside.out y.1.given.1 are y.1.printed
