use Rattle.safl_tool.proofs.Common.{Answer, AreAskedFor, Asked, ProbeState, ShelfState, SinkState, asked, on_ok_always, outside}
use Rattle.std.proofs.Common.{List, map, sym, subst}
use Rattle.safl_probe.proofs.Rounds.{kept_same}
use Rattle.safl_tool.specs.Answers.{CanBeGiven, GivesBy, traces_for}
use Rattle.std.specs.Prelude.{OnOk}
use Rattle.safl_tool.specs.Watched.{ShowsAnswer}
use Rattle.safl_tool.proofs.Performed.{same_strays}
use Rattle.safl_tool.proofs.answer.give.Goals as goal

-- ---- Printed

pub returns-in-Printed-clause-gives : goal.returns-in-Printed-clause-gives
returns-in-Printed-clause-gives g c =
    let ps : List ProbeState = map (λ p. (goal.Probe-dyn g (p.vtable, p.value)).state p.value) c.args.probes.now.items in
    let shelf : ShelfState = g.S.Shelf.told c.args.shelf.now in
    let out : SinkState = g.O.Sink.told c.args.out.now in
    let out' : SinkState = g.O.Sink.told c.print.new.out in
    let asks : Asked = asked c.args.files.now in
    subst (λ (a : Answer). GivesBy a asks ps ps (outside shelf out) (outside shelf out') c.print.result) (sym c.in-Printed.is) (c.print.ensures shelf asks ps ps)

pub returns-in-Printed-clause-same_strays : goal.returns-in-Printed-clause-same_strays
returns-in-Printed-clause-same_strays g c = same_strays (g.S.Shelf.told c.args.shelf.now)

pub returns-in-Printed-clause-told : goal.returns-in-Printed-clause-told
returns-in-Printed-clause-told g c =
    let ps : List ProbeState = map (λ p. (goal.Probe-dyn g (p.vtable, p.value)).state p.value) c.args.probes.now.items in
    on_ok_always c.print.result (subst (λ (a : Answer). ShowsAnswer a (asked c.args.files.now) ps ps) (sym c.in-Printed.is) tt)

pub returns-in-Printed-clause-probes : goal.returns-in-Printed-clause-probes
returns-in-Printed-clause-probes g c = kept_same (asked c.args.files.now) (λ p. (goal.Probe-dyn g (p.vtable, p.value)).state p.value) c.args.probes.now.items

-- ---- File

pub returns-in-File-clause-gives : goal.returns-in-File-clause-gives
returns-in-File-clause-gives g c =
    let ps : List ProbeState = map (λ p. (goal.Probe-dyn g (p.vtable, p.value)).state p.value) c.args.probes.now.items in
    let shelf : ShelfState = g.S.Shelf.told c.args.shelf.now in
    let shelf' : ShelfState = g.S.Shelf.told c.write.new.shelf in
    let out : SinkState = g.O.Sink.told c.args.out.now in
    let asks : Asked = asked c.args.files.now in
    subst (λ (a : Answer). GivesBy a asks ps ps (outside shelf out) (outside shelf' out) c.write.result) (sym c.in-File.is) (c.write.ensures.gives out asks ps ps)

pub returns-in-File-clause-told : goal.returns-in-File-clause-told
returns-in-File-clause-told g c =
    let ps : List ProbeState = map (λ p. (goal.Probe-dyn g (p.vtable, p.value)).state p.value) c.args.probes.now.items in
    on_ok_always c.write.result (subst (λ (a : Answer). ShowsAnswer a (asked c.args.files.now) ps ps) (sym c.in-File.is) tt)

pub returns-in-File-clause-probes : goal.returns-in-File-clause-probes
returns-in-File-clause-probes g c = kept_same (asked c.args.files.now) (λ p. (goal.Probe-dyn g (p.vtable, p.value)).state p.value) c.args.probes.now.items

-- ---- Replies

pub converse-requires-clause-ready : goal.converse-requires-clause-ready
converse-requires-clause-ready g c = (subst (λ (a : Answer). CanBeGiven a) c.in-Replies.is c.requires.can).0

pub converse-requires-clause-calls : goal.converse-requires-clause-calls
converse-requires-clause-calls g c = (subst (λ (a : Answer). CanBeGiven a) c.in-Replies.is c.requires.can).1

pub returns-in-Replies-clause-gives : goal.returns-in-Replies-clause-gives
returns-in-Replies-clause-gives g c =
    let ps : List ProbeState = map (λ p. (goal.Probe-dyn g (p.vtable, p.value)).state p.value) c.args.probes.now.items in
    let shelf : ShelfState = g.S.Shelf.told c.args.shelf.now in
    let out : SinkState = g.O.Sink.told c.args.out.now in
    let out' : SinkState = g.O.Sink.told c.converse.new.out in
    let asks : Asked = asked c.args.files.now in
    subst (λ (a : Answer). GivesBy a asks ps ps (outside shelf out) (outside shelf out') c.converse.result) (sym c.in-Replies.is) (c.converse.ensures shelf asks ps ps)

pub returns-in-Replies-clause-same_strays : goal.returns-in-Replies-clause-same_strays
returns-in-Replies-clause-same_strays g c = same_strays (g.S.Shelf.told c.args.shelf.now)

pub returns-in-Replies-clause-told : goal.returns-in-Replies-clause-told
returns-in-Replies-clause-told g c =
    let ps : List ProbeState = map (λ p. (goal.Probe-dyn g (p.vtable, p.value)).state p.value) c.args.probes.now.items in
    on_ok_always c.converse.result (subst (λ (a : Answer). ShowsAnswer a (asked c.args.files.now) ps ps) (sym c.in-Replies.is) tt)

pub returns-in-Replies-clause-probes : goal.returns-in-Replies-clause-probes
returns-in-Replies-clause-probes g c = kept_same (asked c.args.files.now) (λ p. (goal.Probe-dyn g (p.vtable, p.value)).state p.value) c.args.probes.now.items

-- ---- Traced

pub trace-requires-clause-can : goal.trace-requires-clause-can
trace-requires-clause-can g c = subst (λ (a : Answer). CanBeGiven a) c.in-Traced.is c.requires.can

pub trace-requires-clause-asked : goal.trace-requires-clause-asked
trace-requires-clause-asked g c =
    let ps : List ProbeState = map (λ p. (goal.Probe-dyn g (p.vtable, p.value)).state p.value) c.args.probes.now.items in
    subst (λ (a : Answer). AreAskedFor (traces_for a) (asked c.args.files.now) ps) c.in-Traced.is c.requires.asked

pub returns-in-Traced-clause-gives : goal.returns-in-Traced-clause-gives
returns-in-Traced-clause-gives g c =
    let ps : List ProbeState = map (λ p. (goal.Probe-dyn g (p.vtable, p.value)).state p.value) c.args.probes.now.items in
    let qs : List ProbeState = map (λ p. (goal.Probe-dyn g (p.vtable, p.value)).state p.value) c.trace.new.probes.items in
    let shelf : ShelfState = g.S.Shelf.told c.args.shelf.now in
    let shelf' : ShelfState = g.S.Shelf.told c.trace.new.shelf in
    let out : SinkState = g.O.Sink.told c.args.out.now in
    let out' : SinkState = g.O.Sink.told c.trace.new.out in
    subst (λ (a : Answer). GivesBy a (asked c.args.files.now) ps qs (outside shelf out) (outside shelf' out') c.trace.result) (sym c.in-Traced.is) c.trace.ensures.gives

pub returns-in-Traced-clause-told : goal.returns-in-Traced-clause-told
returns-in-Traced-clause-told g c =
    let ps : List ProbeState = map (λ p. (goal.Probe-dyn g (p.vtable, p.value)).state p.value) c.args.probes.now.items in
    let qs : List ProbeState = map (λ p. (goal.Probe-dyn g (p.vtable, p.value)).state p.value) c.trace.new.probes.items in
    subst (λ (a : Answer). OnOk c.trace.result (ShowsAnswer a (asked c.args.files.now) ps qs)) (sym c.in-Traced.is) c.trace.ensures.told
