-- How a run with traces is given, by what its parts answer.
use Rattle.safl_tool.proofs.Common.{AreApart, AreWords, Asked, Done, Given, IsAcyclic, IsAsked, IsNetlist, IsOutcome, IsReadyOf, IsRunOf}
use Rattle.safl_tool.proofs.Common.{IsSomeAnd, IsWhole, Lines, Netlist, ProbeState, Ready, Refusal, Sends, SendsPart, Status, TellsOn}
use Rattle.safl_tool.proofs.Common.{Valuation, WatchingFails, Word, end_of, files_of, resets, trace_at, until_done}
use Rattle.std.proofs.Common.{◌≡◌, ◌⊎◌, ℕ, List, [], ◌∷◌, take, true, Option, Some, None, Result, Ok, Err, refl, sym, ap, subst, ◌∙◌, inl, inr, arith}
use Rattle.safl_io.specs.Shelf.{Files, ShelfState, SameFaults, file_of}
use Rattle.safl_io.proofs.Telling.{TellsOn-then, nothing_part}
use Rattle.safl_net.specs.Arguments.{argument_widths, AreArguments as AreFit}
use Rattle.safl_probe.specs.Ending.{Ending, RunsEnd}
use Rattle.safl_probe.specs.Growth.{AllGrow, Made, OldOrPart}
use Rattle.safl_command.specs.Traces.{Traces, are_apart, shown_traces}
use Rattle.safl_session.specs.Lines.{AreArguments}
use Rattle.safl_task.specs.Endings.{Outside, outside, LeavesAll, LeavesParts}
use Rattle.safl_task.proofs.Ending.{all_parts}
use Rattle.safl_tool.specs.Answers.{CanRun, IsGiven, IsGivenInPart, GivingFails, GivesBy, IsTraced, printed}
use Rattle.safl_tool.specs.CommandTasks.{outcome, traced, GivesTraces}
use Rattle.safl_tool.specs.Tracing.{AreAskedFor, files_for, traces_of, kinds_of}
use Rattle.safl_tool.specs.declared.answer.Answer.TheVariants as answer
use Rattle.safl_tool.specs.declared.refusal.Refusal.TheVariants as refusal
use Rattle.safl_tool.specs.declared.tracing.TracedRun.{TracedRun}
use Rattle.safl_tool.proofs.Asked.{asked_apart, asked_output, files_whole, files_parts}
use Rattle.safl_tool.proofs.Simulated.{has_value, read_words, read_widths}

-- ---- files

whole_then : (T : Files) (x y z : Option Files) → TellsOn (LeavesAll T) x y → TellsOn (LeavesAll []) y z → TellsOn (LeavesAll T) x z
whole_then T = TellsOn-then (LeavesAll T) (LeavesAll []) (LeavesAll T) (λ a b c f g name. g name ∙ f name)

no_part : (a b o : Option (List ℕ)) → o ≡ None → (b ≡ a) ⊎ IsSomeAnd o (λ text. (count : ℕ) × (b ≡ Some (take count text))) → b ≡ a
no_part a b None e h = elim h [ inl f ↦ f | inr never ↦ absurd never ]
no_part a b (Some x) e h = absurd (cc)

whole_then_part : (T : Files) (x y z : Option Files) → TellsOn (LeavesAll T) x y → TellsOn (LeavesParts []) y z → TellsOn (LeavesAll T) x z
whole_then_part T = TellsOn-then (LeavesAll T) (LeavesParts []) (LeavesAll T) (λ a b c f g name. no_part (file_of b name) (file_of c name) None refl (g name) ∙ f name)

none_written : (x : Option Files) → TellsOn (LeavesParts []) x x
none_written None = tt
none_written (Some a) = λ name. inl refl

read_are_words : (widths : List ℕ) (args : List (List ℕ)) (words : List Word) → AreArguments widths args words → AreWords words
read_are_words [] [] [] r = tt
read_are_words [] [] (v ∷ vs) r = absurd r
read_are_words [] (t ∷ ts) vs r = absurd r
read_are_words (w ∷ ws) [] vs r = absurd r
read_are_words (w ∷ ws) (t ∷ ts) [] r = absurd r
read_are_words (w ∷ ws) (t ∷ ts) (v ∷ vs) r = (r.0.word, read_are_words ws ts vs r.1)

-- ---- the circuit of a source

module _ (source : List ℕ) (args : List (List ℕ)) (r : Ready) (of : IsReadyOf source args r) where
  -- it can be run
  pub can_run : CanRun r
  can_run =
      let c = of.compiled in
      record {
        made = subst (λ (n : Netlist). IsNetlist n) (sym of.ready.net) c.made;
        whole = subst (λ (n : Netlist). IsWhole n) (sym of.ready.net) c.whole;
        acyclic = subst (λ (n : Netlist). IsAcyclic n) (sym of.ready.net) c.circuit.scheme.acyclic;
        fresh = of.ready.fresh ∙ ap resets (sym of.ready.net);
        words = read_are_words (argument_widths of.net.signals) args r.words.items of.ready.read;
        fit = subst (λ (n : Netlist). AreFit n r.words.items) (sym of.ready.net) (read_widths (argument_widths of.net.signals) args r.words.items of.ready.read);
      }

  -- what its run gives is what the source gives
  pub gives_traces : (limit : ℕ) (t : Traces) (g : Given) → IsTraced r.sim.net r.words.items limit t g → GivesTraces t args limit source g
  gives_traces limit t g h =
      let c = of.compiled in
      let widths : List ℕ = c.program.params c.program.main in
      let p : AreArguments widths args r.words.items = subst (λ l. AreArguments l args r.words.items) c.params of.ready.read in
      let k : IsTraced of.net r.words.items limit t g = subst (λ (n : Netlist). IsTraced n r.words.items limit t g) of.ready.net h in
      record {
        answer = k.done;
        simulates = record {
          program = c.program;
          names = c.names;
          net = of.net;
          words = r.words.items;
          source_of = c.source_of;
          circuit = c.circuit;
          read = p;
          outcome = k.outcome;
          value = has_value c.program c.names c.circuit.choice of.net c.circuit.circuit r.words.items (read_words widths args r.words.items p) limit k.done k.outcome;
        };
        run = k.run;
        is_run = k.is_run;
        is = k.is;
      }

-- ---- a run that is given

-- the files that are asked for are apart
pub asked_are_apart : (t : Traces) (asks : Asked) (ps : List ProbeState) → are_apart t ≡ true → AreAskedFor t asks ps → AreApart asks
asked_are_apart t asks ps apart a = subst (λ (l : Asked). AreApart l) (sym a.is) (asked_apart t (kinds_of ps) apart)

module _ (run : TracedRun) (can : CanRun run.ready) (asks : Asked) (ps : List ProbeState) (asked : AreAskedFor (shown_traces run.traces.now) asks ps) (law : RunsEnd) (old : Outside) where
  abbrev net : Netlist
  net = run.ready.sim.net

  abbrev words : List Word
  words = run.ready.words.items

  abbrev t : Traces
  t = shown_traces run.traces.now

  abbrev Watched : (Option (List ℕ) → List ℕ → Option (List ℕ) → Type 0) → ShelfState → Type 0
  Watched R after = (vs : List Valuation) → IsRunOf net words run.limit vs → TellsOn (AllGrow R asks (trace_at net vs ps)) old.shelf.holds after.holds

  pub ending : Ending net words run.limit
  ending = law net can.made can.whole can.acyclic words can.words can.fit run.limit

  abbrev texts : List (List ℕ)
  texts = traces_of t net (until_done net ending.run)

  files : (after : ShelfState) → Watched Made after → TellsOn (LeavesAll (files_of (files_for t) texts)) old.shelf.holds after.holds
  files after h =
      files_whole t ps asked.can net (until_done net ending.run) old.shelf.holds after.holds
      (subst (λ (l : Asked). TellsOn (AllGrow Made l (trace_at net ending.run ps)) old.shelf.holds after.holds) asked.is (h ending.run ending.is_run))

  parts : (after : ShelfState) → Watched OldOrPart after → TellsOn (LeavesParts (files_of (files_for t) texts)) old.shelf.holds after.holds
  parts after h =
      files_parts t ps asked.can net (until_done net ending.run) old.shelf.holds after.holds
      (subst (λ (l : Asked). TellsOn (AllGrow OldOrPart l (trace_at net ending.run ps)) old.shelf.holds after.holds) asked.is (h ending.run ending.is_run))

  will : (done : Option Done) → IsOutcome net words run.limit done → IsTraced net words run.limit t (traced run.limit done texts)
  will done o = record { done = done; outcome = o; run = ending.run; is_run = ending.is_run; is = refl }

  -- it was watched in part
  torn : (after : ShelfState) → Watched OldOrPart after → IsGivenInPart (answer.Traced run) old (outside after old.out)
  torn after h = record {
    whole = traced run.limit ending.answer texts;
    will = will ending.answer ending.outcome;
    part = record { files = parts after h; printed = nothing_part _ old.out.sent };
  }

  pub torn_fails : (qs : List ProbeState) (after : ShelfState) → Watched OldOrPart after → (r : Refusal) → WatchingFails asks ps qs old.shelf after r
      → GivingFails (answer.Traced run) asks ps qs old (outside after old.out) r
  torn_fails qs after h (refusal.Probe kind) failed = (failed, torn after h)
  torn_fails qs after h (refusal.Write name) failed =
      (asked_output t (kinds_of ps) failed.0.0 name.now (subst (λ (l : Asked). IsAsked l failed.0.0 name.now) asked.is failed.0.1), failed.1, torn after h)
  torn_fails qs after h refusal.NoMemory failed = torn after h
  torn_fails qs after h _ never = absurd never

  -- it was watched to its end
  module _ (qs : List ProbeState) (after : ShelfState) (h : Watched Made after) (done : Option Done) (o : IsOutcome net words run.limit done)
      (quiet : SameFaults old.shelf after) where
    begun : (new : Outside) → TellsOn (LeavesParts []) after.holds new.shelf.holds → TellsOn (SendsPart (outcome run.limit done).printed) old.out.sent
        new.out.sent → IsGivenInPart (answer.Traced run) old new
    begun new kept sent = record {
      whole = traced run.limit done texts;
      will = will done o;
      part = record { files = all_parts _ old.shelf.holds new.shelf.holds (whole_then_part _ old.shelf.holds after.holds new.shelf.holds (files after h) kept); printed = sent };
    }

    -- memory ran out before printing
    pub unprinted : IsGivenInPart (answer.Traced run) old (outside after old.out)
    unprinted = begun (outside after old.out) (none_written after.holds) (nothing_part _ old.out.sent)

    -- the outcome was printed
    module _ (l : Lines) (is : printed l ≡ outcome run.limit done) (new : Outside) where
      outcome_given : (s : Status) → IsGiven (answer.Printed l) (outside after old.out) new s → IsGiven (answer.Traced run) old new s
      outcome_given s p = record {
        given = traced run.limit done texts;
        will = will done o;
        all = record {
          files = whole_then _ old.shelf.holds after.holds new.shelf.holds (files after h)
              (subst (λ (g : Given). TellsOn (LeavesAll (files_of [] g.texts)) after.holds new.shelf.holds) (p.will ∙ is) p.all.files);
          printed = subst (λ (g : Given). TellsOn (Sends g.printed) old.out.sent new.out.sent) (p.will ∙ is) p.all.printed;
        };
        counts = record {
          shelf = record { reads = p.counts.shelf.reads ∙ quiet.reads; writes = p.counts.shelf.writes ∙ quiet.writes };
          prints = p.counts.prints;
        };
        is = p.is ∙ ap end_of (p.will ∙ is);
      }

      outcome_begun : IsGivenInPart (answer.Printed l) (outside after old.out) new → IsGivenInPart (answer.Traced run) old new
      outcome_begun p =
          begun new (subst (λ (g : Given). TellsOn (LeavesParts (files_of [] g.texts)) after.holds new.shelf.holds) (p.will ∙ is) p.part.files)
          (subst (λ (g : Given). TellsOn (SendsPart g.printed) old.out.sent new.out.sent) (p.will ∙ is) p.part.printed)

      outcome_fails : (r : Refusal) → GivingFails (answer.Printed l) asks ps qs (outside after old.out) new r → GivingFails (answer.Traced run) asks ps qs old new r
      outcome_fails refusal.Output p = (p.0, outcome_begun p.1)
      outcome_fails (refusal.Write name) p = absurd (let a = p.0.1 in omega (arith, a))
      outcome_fails (refusal.Probe kind) p = (p.0, outcome_begun p.1)
      outcome_fails refusal.NoMemory p = outcome_begun p
      outcome_fails _ never = absurd never

      pub outcome_gives : (r : Result Status Refusal) → GivesBy (answer.Printed l) asks ps qs (outside after old.out) new r → GivesBy (answer.Traced run) asks ps qs old new r
      outcome_gives (Ok s) p = outcome_given s p
      outcome_gives (Err r) p = outcome_fails r p
