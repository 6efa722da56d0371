-- What becomes of the probes that a command asks, by what its parts answer.
use Rattle.safl_tool.proofs.Common.{Answer, AreAskedFor, Asked, Bor, Files, IfOk, IsReadyOf, MatchResult, Netlist, ProbeState, Ready}
use Rattle.safl_tool.proofs.Common.{Refusal, SinkState, Status, command_task, content_at, traces_in}
use Rattle.std.proofs.Common.{◌≡◌, ◌∙◌, ℕ, List, [], ◌∷◌, Bool, true, false, Option, Some, None, Result, Ok, Err, OnOk, refl, sym, ap, subst, inl, inr}
use Rattle.safl_command.specs.Commands.{Command, Sim, shown_command}
use Rattle.safl_command.specs.declared.command.Command as code
use Rattle.safl_command.specs.declared.command.Command.TheVariants as command
use Rattle.safl_command.specs.declared.traces.Traces as given
use Rattle.safl_command.specs.Traces.{Traces}
use Rattle.safl_session.specs.Lines.{AreArguments}
use Rattle.safl_task.specs.Endings.{Outside, Ended, may_give}
use Rattle.safl_task.specs.Lines.{memory_line}
use Rattle.safl_task.specs.Tasks.{Input, Task, AreContents, OfInputs, Only, status_if}
use Rattle.safl_task.specs.declared.status.Status.TheVariants as status
use Rattle.safl_tool.specs.Answers.{GivesBy}
use Rattle.safl_tool.specs.Refusals.{SendsLine, sent, cut, SendsRefusal, made, unmade, status_of, line_of}
use Rattle.safl_tool.specs.Watched.{IsShown, IsShownRun, ShowsCommand, ShowsAnswer, ShowsFor, Attends, WatchesFor, AttendsFor, Attended}
use Rattle.safl_tool.specs.declared.answer.Answer.TheVariants as answer
use Rattle.safl_tool.specs.declared.refusal.Refusal.TheVariants as refusal
use Rattle.safl_tool.proofs.Answered.{given_on, one_is}
use Rattle.safl_tool.proofs.Simulated.{has_value, read_words}

-- ---- an answer

-- a run of what is ready is one of the circuit of the source
shown_run : (source : List ℕ) (args : List (List ℕ)) (limit : ℕ) (r : Ready) → IsReadyOf source args r → (asks : Asked) (ps qs : List ProbeState)
    → IsShown r.sim.net r.words.items limit asks ps qs → IsShownRun args limit asks ps qs source
shown_run source args limit r of asks ps qs told =
    let c = of.compiled in
    let widths : List ℕ = c.program.params c.program.main in
    let p : AreArguments widths args r.words.items = subst (λ l. AreArguments l args r.words.items) c.params of.ready.read in
    let k : IsShown of.net r.words.items limit asks ps qs = subst (λ (n : Netlist). IsShown n r.words.items limit asks ps qs) of.ready.net told in (
      k.answer,
      record {
        program = c.program;
        names = c.names;
        net = of.net;
        words = r.words.items;
        source_of = c.source_of;
        circuit = c.circuit;
        read = p;
        outcome = k.outcome;
        value = has_value c.program c.names c.circuit.choice of.net c.circuit.circuit r.words.items (read_words widths args r.words.items p) limit k.answer k.outcome;
      },
      k.run,
      k.is_run,
      k.shown,
    )

pub shows_run : (i : Input) (cs : List (List ℕ)) → AreContents None (i ∷ []) cs → (content : List ℕ) → content ≡ content_at cs 0
    → (args : List (List ℕ)) (limit : ℕ) (traces : Bor given.Traces) (input : List ℕ) (t : Traces) (x : Result Ready Refusal) (y : Result Answer Refusal)
    → MatchResult x (λ d. y ≡ Ok (answer.Traced (record { ready = d; limit = limit; traces = traces }))) (λ r. y ≡ Err r)
    → IfOk x (IsReadyOf content args) → IfOk y (ShowsFor (Sim input limit t args) cs)
shows_run i cs within content is args limit traces input t x y same p =
    given_on (λ (d : Ready). answer.Traced (record { ready = d; limit = limit; traces = traces })) x y same (IsReadyOf content args) (ShowsFor (Sim input limit t args) cs)
    (λ d of asks ps qs told. subst (λ (l : List (List ℕ)). Only (λ source. IsShownRun args limit asks ps qs source) l) (one_is i cs within)
    (subst (IsShownRun args limit asks ps qs) is (shown_run content args limit d of asks ps qs told))) p

-- other commands have no run that is shown
abbrev pub HasNoRun : code.Command → Type 0
HasNoRun (command.Sim input limit traces args) = ⊥
HasNoRun _ = Unit {0}

pub shows_none : (r : Result Answer Refusal) (m : code.Command) (cs : List (List ℕ)) → HasNoRun m → IfOk r (ShowsFor (shown_command m) cs)
shows_none (Err r) m cs k = tt
shows_none (Ok a) (command.Sim input limit traces args) cs k = absurd k
shows_none (Ok a) m cs k = λ asks ps qs told. tt

-- ---- a command

-- its answer was given, or not
pub attends_given : {P : Type 0} (m : Command) (asks : Asked) (holds : Option Files) (ps qs : List P) (ss ts : List ProbeState) (cs : List (List ℕ))
    → AreContents holds (command_task m).inputs cs → (a : Answer) → ShowsFor m cs a → (old new : Outside) (r : Result Status Refusal)
    → GivesBy a asks ss ts old new r → OnOk r (ShowsAnswer a asks ss ts) → Attends m asks holds ps qs ss ts r
attends_given m asks holds ps qs ss ts cs are a shows old new (Ok s) gives told = (cs, are, shows asks ss ts told)
attends_given m asks holds ps qs ss ts cs are a shows old new (Err refusal.Output) gives told = λ e. absurd (cc)
attends_given m asks holds ps qs ss ts cs are a shows old new (Err (refusal.Write name)) gives told = λ e. absurd (cc)
attends_given m asks holds ps qs ss ts cs are a shows old new (Err (refusal.Probe kind)) gives told = λ e. absurd (cc)
attends_given m asks holds ps qs ss ts cs are a shows old new (Err refusal.NoMemory) gives told = λ e. absurd (cc)
attends_given m asks holds ps qs ss ts cs are a shows old new (Err r) gives told = absurd gives

-- the probes can be asked
pub attends_asked : {P : Type 0} (m : Command) (holds : Option Files) (ps qs : List P) (ss ts : List ProbeState) (asks : Asked)
    → AreAskedFor (traces_in m) asks ss → (r : Result Status Refusal) → Attends m asks holds ps qs ss ts r → AttendsFor (Some m) holds ps qs ss ts r
attends_asked m holds ps qs ss ts asks a (Ok s) h = subst (λ (l : Asked). OfInputs holds (command_task m).inputs (ShowsCommand m l ss ts)) a.is h
attends_asked m holds ps qs ss ts asks a (Err r) h = h

-- ---- a call

-- the statuses at which a command came to its end
abbrev is_end : Status → Bool
is_end status.Ok = true
is_end status.NoResult = true
is_end _ = false

no_end : (r : Refusal) → is_end (status_of r) ≡ false
no_end refusal.Usage = refl
no_end (refusal.Source name f line column) = refl
no_end (refusal.Read name) = refl
no_end (refusal.TooLong name limit) = refl
no_end (refusal.Write name) = refl
no_end refusal.Output = refl
no_end (refusal.Verilog name f line column) = refl
no_end (refusal.Loop name wires) = refl
no_end (refusal.Count params given) = refl
no_end (refusal.Argument index width) = refl
no_end (refusal.ScriptCount line params given) = refl
no_end (refusal.ScriptArgument line index width) = refl
no_end (refusal.Site site text) = refl
no_end (refusal.Aig name line rule) = refl
no_end (refusal.Heavy weight) = refl
no_end (refusal.Register name) = refl
no_end (refusal.Probe kind) = refl
no_end refusal.NoMemory = refl

module _ {P : Type 0} (m : Option Command) (holds : Option Files) (ps qs : List P) (ss ts : List ProbeState) where
  -- a line was sent
  line_attended : (s : Status) (line : List ℕ) (before after : SinkState) (end : Status) → is_end s ≡ false → (may_give s ≡ false → qs ≡ ps)
      → SendsLine s line before after end → Attended m holds ps qs ss ts end
  line_attended s line before after _ other h (sent g) = record {
    watched = λ e. elim e [
      | inl a ↦ absurd (let b : is_end s ≡ true = ap is_end a in cc)
      | inr a ↦ absurd (let b : is_end s ≡ true = ap is_end a in cc)
    ];
    alone = h;
  }
  line_attended s line before after _ other h (cut g) = record {
    watched = λ e. elim e [ inl a ↦ absurd (cc) | inr a ↦ absurd (cc) ];
    alone = λ e. absurd (cc);
  }

  -- a refusal was told
  pub refusal_attended : (r : Refusal) (before after : SinkState) (s : Status) → (may_give (status_of r) ≡ false → qs ≡ ps)
      → SendsRefusal r before after s → Attended m holds ps qs ss ts s
  refusal_attended r before after s h (made g) = line_attended (status_of r) (line_of r) before after s (no_end r) h g
  refusal_attended r before after s h (unmade g) = line_attended status.NoMemory memory_line before after s refl (λ e. absurd (cc)) g

  may_give_end : (b : Bool) → may_give (status_if b) ≡ true
  may_give_end true = refl
  may_give_end false = refl

  -- it came to its end
  pub end_attended : (t : Task) (old new : Outside) (s : Status) → Ended t old new s → WatchesFor m holds ss ts → Attended m holds ps qs ss ts s
  end_attended t old new s ended h = record {
    watched = λ e. h;
    alone = λ e. absurd (let a : may_give s ≡ true = ap may_give (sym ended.2) ∙ may_give_end ended.0.comes in cc);
  }
