use Rattle.safl_tool.proofs.Common.{Asked, IsOutcome, IsWriting, ProbeState, Word, WriteFailed, asked}
use Rattle.std.proofs.Common.{List, map, length, refl, sym, ap, subst, ◌∙◌, arith}
use Rattle.std.specs.Prelude.{IsSome}
use Rattle.std.proofs.lemmas.List.{length-map}
use Rattle.safl_net.specs.Arguments.{AreArguments}
use Rattle.safl_probe.specs.Growth.{Made, OldOrPart}
use Rattle.safl_probe.specs.Runs.{RunIsShown}
use Rattle.safl_command.specs.Traces.{Traces, shown_traces}
use Rattle.safl_tool.specs.Tracing.{file_at}
use Rattle.safl_tool.proofs.Asked.{files_long, handed, there, its_file, wrote}
use Rattle.safl_tool.proofs.Traced.{asked_are_apart}
use Rattle.safl_tool.proofs.tracing.watch.Goals as goal

pub drive-requires-clause-begins : goal.drive-requires-clause-begins
drive-requires-clause-begins g c = record {
  whole = c.requires.can.whole;
  fresh = c.requires.can.fresh;
  arguments = subst (λ (l : List Word). AreArguments c.args.run.ready.sim.net l) (sym c.deref.ensures.value) c.requires.can.fit;
}

pub drive-requires-clause-probes : goal.drive-requires-clause-probes
drive-requires-clause-probes g c = record {
  files = files_long (λ p. (goal.Probe-dyn g (p.vtable, p.value)).state p.value) c.args.probes.now.items (shown_traces c.args.run.traces.now) c.args.files.now c.requires.asked;
  waiting = λ i name asked. c.requires.asked.waiting i;
}

-- ---- it was watched

pub returns-in-Ok-clause-outcome : goal.returns-in-Ok-clause-outcome
returns-in-Ok-clause-outcome g c = subst (λ (l : List Word). IsOutcome c.args.run.ready.sim.net l c.args.run.limit c.in-Ok.done) c.deref.ensures.value c.in-Ok.ensures.outcome

pub returns-in-Ok-clause-traced : goal.returns-in-Ok-clause-traced
returns-in-Ok-clause-traced g c =
    let ps : List ProbeState = map (λ p. (goal.Probe-dyn g (p.vtable, p.value)).state p.value) c.args.probes.now.items in
    let names : Asked = asked c.args.files.now in
    handed Made c.args.run.ready.sim.net c.deref.result.now c.args.run.ready.words.items c.args.run.limit names ps (g.S.Shelf.told c.args.shelf.now).holds (g.S.Shelf.told c.drive.new.shelf).holds
    c.deref.ensures.value (asked_are_apart (shown_traces c.args.run.traces.now) names ps c.args.run.traces.now.separate c.requires.asked) c.in-Ok.ensures.traced.files

pub returns-in-Ok-clause-told : goal.returns-in-Ok-clause-told
returns-in-Ok-clause-told g c = record {
  shown =
      subst (λ (l : List Word). RunIsShown c.args.run.ready.sim.net l c.args.run.limit c.args.files.now (λ p. (goal.Probe-dyn g (p.vtable, p.value)).state p.value)
      c.args.probes.now.items c.drive.new.probes.items) c.deref.ensures.value c.in-Ok.ensures.traced.shown;
  quiet = c.in-Ok.ensures.traced.quiet;
}

pub returns-in-Err-Probe-clause-part : goal.returns-in-Err-Probe-clause-part
returns-in-Err-Probe-clause-part g c =
    let ps : List ProbeState = map (λ p. (goal.Probe-dyn g (p.vtable, p.value)).state p.value) c.args.probes.now.items in
    let names : Asked = asked c.args.files.now in
    handed OldOrPart c.args.run.ready.sim.net c.deref.result.now c.args.run.ready.words.items c.args.run.limit names ps (g.S.Shelf.told c.args.shelf.now).holds (g.S.Shelf.told c.drive.new.shelf).holds
    c.deref.ensures.value (asked_are_apart (shown_traces c.args.run.traces.now) names ps c.args.run.traces.now.separate c.requires.asked) c.in-Err-Probe.ensures.part

pub returns-in-Err-Write-clause-part : goal.returns-in-Err-Write-clause-part
returns-in-Err-Write-clause-part g c =
    let ps : List ProbeState = map (λ p. (goal.Probe-dyn g (p.vtable, p.value)).state p.value) c.args.probes.now.items in
    let names : Asked = asked c.args.files.now in
    handed OldOrPart c.args.run.ready.sim.net c.deref.result.now c.args.run.ready.words.items c.args.run.limit names ps (g.S.Shelf.told c.args.shelf.now).holds (g.S.Shelf.told c.drive.new.shelf).holds
    c.deref.ensures.value (asked_are_apart (shown_traces c.args.run.traces.now) names ps c.args.run.traces.now.separate c.requires.asked) c.in-Err-Write.ensures.part

pub returns-clause-part : goal.returns-clause-part
returns-clause-part g c =
    let ps : List ProbeState = map (λ p. (goal.Probe-dyn g (p.vtable, p.value)).state p.value) c.args.probes.now.items in
    let names : Asked = asked c.args.files.now in
    handed OldOrPart c.args.run.ready.sim.net c.deref.result.now c.args.run.ready.words.items c.args.run.limit names ps (g.S.Shelf.told c.args.shelf.now).holds (g.S.Shelf.told c.drive.new.shelf).holds
    c.deref.ensures.value (asked_are_apart (shown_traces c.args.run.traces.now) names ps c.args.run.traces.now.separate c.requires.asked) c.in-Err-NoMemory.ensures.part

-- ---- the shelf

pub returns-in-Ok-clause-strays : goal.returns-in-Ok-clause-strays
returns-in-Ok-clause-strays g c = c.in-Ok.ensures.shelf.strays

pub returns-in-Err-Probe-clause-strays : goal.returns-in-Err-Probe-clause-strays
returns-in-Err-Probe-clause-strays g c = c.in-Err-Probe.ensures.shelf.strays

pub returns-in-Err-Write-clause-strays : goal.returns-in-Err-Write-clause-strays
returns-in-Err-Write-clause-strays g c = c.in-Err-Write.ensures.shelf.strays

pub returns-clause-strays : goal.returns-clause-strays
returns-clause-strays g c = c.in-Err-NoMemory.ensures.shelf.strays

-- ---- why it was not

pub returns-in-Err-Probe-clause-refused : goal.returns-in-Err-Probe-clause-refused
returns-in-Err-Probe-clause-refused g c = rw c.in-Err-Probe.field-0-is at c.in-Err-Probe.ensures.stopped

pub unwritten-requires-clause-there : goal.unwritten-requires-clause-there
unwritten-requires-clause-there g c =
    let ps : List ProbeState = map (λ p. (goal.Probe-dyn g (p.vtable, p.value)).state p.value) c.args.probes.now.items in
    let qs : List ProbeState = map (λ p. (goal.Probe-dyn g (p.vtable, p.value)).state p.value) c.drive.new.probes.items in
    let failed : WriteFailed c.in-Err-Write.place (asked c.args.files.now) (g.S.Shelf.told c.args.shelf.now) (g.S.Shelf.told c.drive.new.shelf) = rw
    c.in-Err-Write.field-0-is at c.in-Err-Write.ensures.stopped in
    let lt = there (shown_traces c.args.run.traces.now) (asked c.args.files.now) ps qs c.requires.asked c.in-Err-Write.ensures.probes.probes
    c.in-Err-Write.place (g.S.Shelf.told c.args.shelf.now) (g.S.Shelf.told c.drive.new.shelf) failed in
    let long = length-map c.drive.new.probes.items (λ p. (goal.Probe-dyn g (p.vtable, p.value)).state p.value) in
    let same = ap (λ l. length l) c.deref-in-Err-Write.ensures.value in
    omega (arith, lt, long, same)

pub unwritten-requires-clause-named : goal.unwritten-requires-clause-named
unwritten-requires-clause-named g c =
    let t : Traces = shown_traces c.args.run.traces.now in
    let ps : List ProbeState = map (λ p. (goal.Probe-dyn g (p.vtable, p.value)).state p.value) c.args.probes.now.items in
    let qs : List ProbeState = map (λ p. (goal.Probe-dyn g (p.vtable, p.value)).state p.value) c.drive.new.probes.items in
    let failed : WriteFailed c.in-Err-Write.place (asked c.args.files.now) (g.S.Shelf.told c.args.shelf.now) (g.S.Shelf.told c.drive.new.shelf) = rw
    c.in-Err-Write.field-0-is at c.in-Err-Write.ensures.stopped in
    subst (λ o. IsSome o) (sym (ap (λ xs. file_at t (map (λ p. (goal.Probe-dyn g (p.vtable, p.value)).state p.value) xs) c.in-Err-Write.place)
    c.deref-in-Err-Write.ensures.value ∙ its_file t (asked c.args.files.now) ps qs c.requires.asked c.in-Err-Write.ensures.probes.probes
    c.in-Err-Write.place (g.S.Shelf.told c.args.shelf.now) (g.S.Shelf.told c.drive.new.shelf) failed)) refl

pub returns-in-Err-Write-clause-refused : goal.returns-in-Err-Write-clause-refused
returns-in-Err-Write-clause-refused g c =
    let t : Traces = shown_traces c.args.run.traces.now in
    let ps : List ProbeState = map (λ p. (goal.Probe-dyn g (p.vtable, p.value)).state p.value) c.args.probes.now.items in
    let qs : List ProbeState = map (λ p. (goal.Probe-dyn g (p.vtable, p.value)).state p.value) c.drive.new.probes.items in
    let failed : WriteFailed c.in-Err-Write.place (asked c.args.files.now) (g.S.Shelf.told c.args.shelf.now) (g.S.Shelf.told c.drive.new.shelf) = rw
    c.in-Err-Write.field-0-is at c.in-Err-Write.ensures.stopped in
    wrote t (asked c.args.files.now) ps qs c.requires.asked c.in-Err-Write.ensures.probes.probes c.in-Err-Write.place (g.S.Shelf.told c.args.shelf.now)
    (g.S.Shelf.told c.drive.new.shelf) failed c.unwritten.result
    (subst (λ xs. IsWriting (file_at t (map (λ p. (goal.Probe-dyn g (p.vtable, p.value)).state p.value) xs) c.in-Err-Write.place) c.unwritten.result)
    c.deref-in-Err-Write.ensures.value c.unwritten.ensures)
