-- What a session of a compiled source says.
use Rattle.safl_tool.proofs.Common.{AreWords, AreWordsOf, IsCompiled, IsReadySession, Names, Netlist, OneProgram, Opened, Program}
use Rattle.safl_tool.proofs.Common.{ReadySession, ShelfState, SinkState, Status, Word, argument_widths, may_give, outside, reset_state}
use Rattle.safl_tool.proofs.Common.{resets, slice_get_within}
use Rattle.std.proofs.Common.{◌≡◌, ℕ, ◌<◌, ◌≤◌, List, [], ◌∷◌, map, length, Bool, true, false, slice_index, refl, sym, ap, subst, ◌∙◌, arith, inl, inr}
use Rattle.std.specs.Prelude.{All}
use Rattle.std.proofs.Math.Path.{fun_ext}
use Rattle.std.proofs.lemmas.Bool.{eq-eqb}
use Rattle.std.proofs.lemmas.List.Elements.{All-nil, All-cons}
use Rattle.safl_sim.proofs.Builds.{resets_fit}
use Rattle.safl_net.proofs.SignalKinds.{reset_at}
use Rattle.safl_circuit.proofs.WholeCircuits.{schemes_whole}
use Rattle.safl_session.specs.Lines.{ScriptFault, Count, Argument, error_of}
use Rattle.safl_session.specs.declared.script.ScriptErr.TheVariants as errors
use Rattle.safl_sim.specs.declared.done.Done.{Done as Reply}
use Rattle.safl_session.specs.Circuits.{CircuitsServe, CircuitsReply, ResetIsQuiet, IsInTime, Serves}
use Rattle.safl_session.specs.Laws as sessions
use Rattle.safl_session.specs.Laws.{AreCallsOf}
use Rattle.safl_session.specs.Lines as lines
use Rattle.safl_session.specs.Replies.{AreReplies}
use Rattle.safl_session.specs.Scripts.{AreCalls, IsScript, IsScriptFault, RefusesScript}
use Rattle.safl_session.specs.Holding.{IsReady, IsHeld, IsBegun}
use Rattle.safl_tool.specs.Calling.{Converses, GivesReplies, IsMisscripted, EvaluatesEach, script_line, told}
use Rattle.safl_tool.specs.CommandTasks.{RefusesSession}
use Rattle.safl_tool.specs.Lines.{count_line, argument_line, numbered_line}
use Rattle.safl_task.specs.Tasks.{Given, status_if}
use Rattle.safl_tool.specs.Answers.{IsTranscript, IsGiven, IsGivenInPart}
use Rattle.safl_tool.specs.declared.answer.Answer.TheVariants as answer
use Rattle.safl_task.specs.declared.status.Status.TheVariants as status
use Rattle.safl_task.proofs.Ending.{same_all, same_parts}

-- nothing is given where the source or the script is refused
pub session_quiet : (name source script : List ℕ) (s : Status) (line : List ℕ) → RefusesSession name source script s line → may_give s ≡ false
session_quiet name source script s line r = elim r [ inl f ↦ ap may_give f.0 | inr m ↦ ap may_give m.0 ]

-- ---- the calls of a script

words_fit : (widths : List ℕ) (texts : List (List ℕ)) (args : List Word) → lines.AreArguments widths texts args → AreWords args × (map (λ (w : Word). w.width) args ≡ widths)
words_fit [] [] [] a = (tt, refl)
words_fit [] [] (v ∷ vs) a = absurd a
words_fit [] (t ∷ ts) vs a = absurd a
words_fit (w ∷ ws) [] vs a = absurd a
words_fit (w ∷ ws) (t ∷ ts) [] a = absurd a
words_fit (w ∷ ws) (t ∷ ts) (v ∷ vs) a =
    let rest = words_fit ws ts vs a.1 in
    ((a.0.word, rest.0), ap (λ x. x ∷ map (λ (u : Word). u.width) vs) (ap (λ (x : Word). x.width) a.0.is) ∙ ap (λ l. w ∷ l) rest.1)

words_sized : (widths : List ℕ) (texts : List (List ℕ)) (args : List Word) → lines.AreArguments widths texts args → AreWordsOf args widths
words_sized [] [] [] a = tt
words_sized [] [] (v ∷ vs) a = absurd a
words_sized [] (t ∷ ts) vs a = absurd a
words_sized (w ∷ ws) [] vs a = absurd a
words_sized (w ∷ ws) (t ∷ ts) [] a = absurd a
words_sized (w ∷ ws) (t ∷ ts) (v ∷ vs) a = (a.0.word, ap (λ (x : Word). x.width) a.0.is, words_sized ws ts vs a.1)

calls_fit_in : (widths : List ℕ) (texts : List (List ℕ)) (calls : List (List Word)) → AreCalls widths texts calls → All (λ args. AreWords args × (map (λ (w : Word). w.width) args ≡ widths)) calls
calls_fit_in widths [] [] a = All-nil (λ args. AreWords args × (map (λ (w : Word). w.width) args ≡ widths))
calls_fit_in widths [] (c ∷ calls) a = absurd a
calls_fit_in widths (t ∷ texts) [] a = absurd a
calls_fit_in widths (t ∷ texts) (c ∷ calls) a =
    All-cons (λ args. AreWords args × (map (λ (w : Word). w.width) args ≡ widths)) c calls (words_fit widths a.0.0 c a.0.2) (calls_fit_in widths texts calls a.1)

calls_sized_in : (widths : List ℕ) (texts : List (List ℕ)) (calls : List (List Word)) → AreCalls widths texts calls → All (λ args. AreWordsOf args widths) calls
calls_sized_in widths [] [] a = All-nil (λ args. AreWordsOf args widths)
calls_sized_in widths [] (c ∷ calls) a = absurd a
calls_sized_in widths (t ∷ texts) [] a = absurd a
calls_sized_in widths (t ∷ texts) (c ∷ calls) a = All-cons (λ args. AreWordsOf args widths) c calls (words_sized widths a.0.0 c a.0.2) (calls_sized_in widths texts calls a.1)

calls_sized : (widths script : List ℕ) (calls : List (List Word)) → IsScript widths script calls → All (λ args. AreWordsOf args widths) calls
calls_sized widths script calls s = calls_sized_in widths s.0 calls s.2

-- ---- a session that is opened

module _ (source script : List ℕ) (o : ReadySession) (is : IsReadySession source script o) where
  abbrev net : Netlist
  net = is.net

  abbrev calls : List (List Word)
  calls = o.calls

  pub ready : IsReady o.session
  ready = subst (λ (x : Opened). IsReady x) (sym is.fresh) (record {
    opened = refl;
    made = is.compiled.made;
    whole = is.compiled.whole;
    acyclic = is.compiled.circuit.circuit.correct.acyclic;
    state = resets_fit is.net is.compiled.made;
  })

  pub calls_fit : AreCallsOf o.session.net o.calls
  calls_fit = subst (λ (x : Opened). AreCallsOf x.net o.calls) (sym is.fresh) (calls_fit_in (argument_widths is.net.signals) is.calls.0 o.calls is.calls.2)

  module _ (serves : CircuitsServe) (reset : ResetIsQuiet) (limit : ℕ) where
    replied : (rs : List Reply) → AreReplies o.session.net limit (slice_index o.session.state) calls rs → AreReplies net limit (reset_state net) calls rs
    replied rs a =
        let e : slice_index (resets net) ≡ reset_state net = fun_ext (reset_at net.signals) in
        subst (λ (f : ℕ → ℕ). AreReplies net limit f calls rs) e (subst (λ (x : Opened). AreReplies x.net limit (slice_index x.state) calls rs) is.fresh a)

    conversed : (rs : List Reply) → AreReplies o.session.net limit (slice_index o.session.state) calls rs → Converses source script limit calls rs
    conversed rs a =
        let c = is.compiled in
        let read : IsScript (c.program.params c.program.main) script calls = subst (λ (ws : List ℕ). IsScript ws script calls) c.params is.calls in
        record {
          program = c.program;
          names = c.names;
          net = net;
          source_of = c.source_of;
          circuit = c.circuit;
          made = c.made;
          read = read;
          serves =
              serves c.program c.names c.circuit.choice net c.circuit.scheme c.circuit.circuit c.made c.whole limit (reset_state net) (reset c.program c.names c.circuit.choice net c.circuit.scheme)
              calls (calls_sized (c.program.params c.program.main) script calls read) rs (replied rs a);
        }

    -- what it gives is what the source and the script give
    pub gives_replies : (g : Given) → IsTranscript o limit g → GivesReplies limit source script g
    gives_replies g h = (calls, h.replies, conversed h.replies h.are, h.is)

-- ---- the transcript was sent

module _ (o : ReadySession) (limit : ℕ) (shelf : ShelfState) (out out' : SinkState) where
  pub held_given : (complete : Bool) → IsHeld o.session o.calls limit out.sent out'.sent complete → out'.faults ≡ out.faults → (s : Status) → s ≡ status_if complete → IsGiven
      (answer.Replies o limit) (outside shelf out) (outside shelf out') s
  held_given complete h quiet s e = record {
    given = told limit o.calls h.replies;
    will = record { replies = h.replies; are = h.are; is = refl };
    all = record { files = same_all shelf.holds shelf.holds refl; printed = h.sent };
    counts = record { shelf = record { reads = refl; writes = refl }; prints = quiet };
    is = e ∙ ap (λ (b : Bool). status_if b) h.is;
  }

  pub begun_given : IsBegun o.session o.calls limit out.sent out'.sent → IsGivenInPart (answer.Replies o limit) (outside shelf out) (outside shelf out')
  begun_given h = record {
    whole = told limit o.calls h.replies;
    will = record { replies = h.replies; are = h.are; is = refl };
    part = record { files = same_parts [] shelf.holds shelf.holds refl; printed = h.sent };
  }

-- ---- a script that is refused

not_memory : (f : ScriptFault) → error_of f ≡ errors.NoMemory → ⊥
not_memory (Count l given) e = cc
not_memory (Argument l place) e = cc

said_once : (f g : ScriptFault) → error_of f ≡ error_of g → f ≡ g
said_once (Count l given) (Count k other) e =
    let p : l ≡ k = cc in
    let q : given ≡ other = cc in
    ap (λ x. Count x given) p ∙ ap (λ x. Count k x) q
said_once (Count l given) (Argument k place) e = absurd (cc)
said_once (Argument l place) (Count k given) e = absurd (cc)
said_once (Argument l place) (Argument k other) e =
    let p : l ≡ k = cc in
    let q : place ≡ other = cc in
    ap (λ x. Argument x place) p ∙ ap (λ x. Argument k x) q

-- an error that says a fault is no other
fault_of : (widths script : List ℕ) (f : ScriptFault) → RefusesScript widths script (error_of f) → IsScriptFault widths script f
fault_of widths script f (inl none) = absurd (not_memory f none)
fault_of widths script f (inr (g, is, has)) = subst (λ x. IsScriptFault widths script x) (said_once g f (sym is)) has

pub misscripted : (name source script : List ℕ) (n : Netlist) → IsCompiled source n → (f : ScriptFault) → RefusesScript (argument_widths n.signals) script (error_of f)
    → (line : List ℕ) → line ≡ script_line (argument_widths n.signals) f → RefusesSession name source script status.BadArgs line
misscripted name source script n c f r line is = inr (
  refl,
  (
    c.program,
    c.names,
    f,
    c.source_of,
    subst (λ (ws : List ℕ). IsScriptFault ws script f) c.params (fault_of (argument_widths n.signals) script f r),
    subst (λ (ws : List ℕ). line ≡ script_line ws f) c.params is,
  ),
)

-- the place of an argument that is refused
pub placed : (widths script : List ℕ) (l p : ℕ) → RefusesScript widths script (errors.Argument l p) → (0 < p) × (p ≤ length widths)
placed widths script l p r =
    let m = (fault_of widths script (Argument l p) r).fault.1 in
    let a = slice_get_within widths m.2.index m.2.width m.2.at_width in
    let b = m.3 in
    (omega (arith, b), omega (arith, a, b))

-- the lines of both faults
pub count_told : (l m k n g h : ℕ) → l ≡ m → k ≡ n → g ≡ h → numbered_line l (count_line k g) ≡ numbered_line m (count_line n h)
count_told l m k n g h a b c =
    ap (λ (x : ℕ). numbered_line x (count_line k g)) a ∙ ap (λ (x : ℕ). numbered_line m (count_line x g)) b ∙ ap (λ (x : ℕ). numbered_line m (count_line n x)) c

pub argument_told : (l m q p w v : ℕ) → l ≡ m → q ≡ p → w ≡ v → numbered_line l (argument_line q w) ≡ numbered_line m (argument_line p v)
argument_told l m q p w v a b c =
    ap (λ (x : ℕ). numbered_line x (argument_line q w)) a ∙ ap (λ (x : ℕ). numbered_line m (argument_line x w)) b ∙ ap (λ (x : ℕ). numbered_line m (argument_line p x)) c

-- ---- what is promised

-- calls that are served have these replies
served : (C : Program) (D : Names) (n : Netlist) (limit : ℕ) (state : ℕ → ℕ) (calls : List (List Word)) (rs : List Reply) → Serves C D n limit state calls rs
    → AreReplies n limit state calls rs
served C D n limit state [] [] s = tt
served C D n limit state [] (r ∷ rs) s = s
served C D n limit state (args ∷ calls) [] s = s.0
served C D n limit state (args ∷ calls) (r ∷ rs) s = (s.1, s.2, served C D n limit s.1 calls rs s.5)

pub misscripted_not : OneProgram → sessions.NotBoth → (source script : List ℕ) (limit : ℕ) (line : List ℕ) → EvaluatesEach source script limit → IsMisscripted source script line → ⊥
misscripted_not once apart source script limit line e m =
    let C : m.0 ≡ e.0 = (once source m.0 e.0 m.1 e.1 m.3 e.3).0 in
    apart (m.0.params m.0.main) script e.2 m.2 (subst (λ (x : Program). IsScript (x.params x.main) script e.2) (sym C) e.4) m.4

pub replies_come : OneProgram → CircuitsReply → ResetIsQuiet → sessions.OneScript → (limit : ℕ) (source script : List ℕ) (g : Given) → EvaluatesEach
    source script limit → GivesReplies limit source script g → g.comes ≡ true
replies_come once reply reset script_once limit source script g e (calls, rs, v, is) =
    let C : v.program ≡ e.0 = (once source v.program e.0 v.names e.1 v.source_of e.3).0 in
    let read : IsScript (v.program.params v.program.main) script e.2 = subst (λ (x : Program). IsScript (x.params x.main) script e.2) (sym C) e.4 in
    let same : e.2 ≡ calls = script_once (v.program.params v.program.main) script e.2 calls read v.read in
    let each : All (IsInTime v.program limit) calls = subst (λ (l : List (List Word)). All (IsInTime v.program limit) l) same
    (subst (λ (x : Program). All (IsInTime x limit) e.2) (sym C) e.5) in
    let whole = schemes_whole v.program v.names v.circuit.choice v.net v.circuit.scheme in
    let long : length rs ≡ length calls =
    reply v.program v.names v.circuit.choice v.net v.circuit.scheme v.circuit.circuit v.made whole limit (reset_state v.net) (reset v.program v.names v.circuit.choice v.net v.circuit.scheme)
    calls (calls_sized (v.program.params v.program.main) script calls v.read) each rs
    (served v.program v.names v.net limit (reset_state v.net) calls rs v.serves) in
    ap (λ (x : Given). x.comes) is ∙ eq-eqb (length rs) (length calls) long
