use Rattle.safl_tool.proofs.Common.{Asked, List, ProbeState, ShelfState, asked, err_from_is_err_and, map, on_ok_always}
use Rattle.safl_task.specs.Endings.{Outside, outside}
use Rattle.safl_tool.specs.Watched.{IsShown}
use Rattle.safl_tool.proofs.Traced.{ending, torn_fails, unprinted, outcome_gives}
use Rattle.safl_tool.proofs.tracing.trace.Goals as goal

pub returns-in_err-done-clause-gives : goal.returns-in_err-done-clause-gives
returns-in_err-done-clause-gives g c =
    let p = err_from_is_err_and c.from_residual.result c.from_residual.ensures.1 in
    let ps : List ProbeState = map (λ p. (goal.Probe-dyn g (p.vtable, p.value)).state p.value) c.args.probes.now.items in
    let qs : List ProbeState = map (λ p. (goal.Probe-dyn g (p.vtable, p.value)).state p.value) c.watch.new.probes.items in
    let asks : Asked = asked c.args.files.now in
    let old : Outside = outside (g.S.Shelf.told c.args.shelf.now) (g.O.Sink.told c.args.out.now) in
    let after : ShelfState = g.S.Shelf.told c.watch.new.shelf in
    rw (p.1, p.2)
    (torn_fails c.args.run c.requires.can asks ps c.requires.asked c.end_law.ensures old qs after c.in_err-done.ensures.part c.in_err-done.field-0.0 c.in_err-done.ensures.refused)

pub returns-clause-gives : goal.returns-clause-gives
returns-clause-gives g c =
    let ps : List ProbeState = map (λ p. (goal.Probe-dyn g (p.vtable, p.value)).state p.value) c.args.probes.now.items in
    let qs : List ProbeState = map (λ p. (goal.Probe-dyn g (p.vtable, p.value)).state p.value) c.watch.new.probes.items in
    let asks : Asked = asked c.args.files.now in
    let old : Outside = outside (g.S.Shelf.told c.args.shelf.now) (g.O.Sink.told c.args.out.now) in
    let after : ShelfState = g.S.Shelf.told c.watch.new.shelf in
    let new : Outside = outside after (g.O.Sink.told c.print.new.out) in
    outcome_gives c.args.run c.requires.can asks ps c.requires.asked c.end_law.ensures old qs after c.in_ok-done.ensures.traced c.in_ok-done.done c.in_ok-done.ensures.outcome
    c.in_ok-done.ensures.told.quiet
    c.in_ok-lines.lines c.in_ok-lines.ensures new c.print.result (c.print.ensures after asks ps qs)

pub returns-clause-told : goal.returns-clause-told
returns-clause-told g c =
    let ps : List ProbeState = map (λ p. (goal.Probe-dyn g (p.vtable, p.value)).state p.value) c.args.probes.now.items in
    let qs : List ProbeState = map (λ p. (goal.Probe-dyn g (p.vtable, p.value)).state p.value) c.watch.new.probes.items in
    let asks : Asked = asked c.args.files.now in
    let old : Outside = outside (g.S.Shelf.told c.args.shelf.now) (g.O.Sink.told c.args.out.now) in
    let end = ending c.args.run c.requires.can asks ps c.requires.asked c.end_law.ensures old in
    let told : IsShown c.args.run.ready.sim.net c.args.run.ready.words.items c.args.run.limit asks ps qs =
    record { answer = c.in_ok-done.done; outcome = c.in_ok-done.ensures.outcome; run = end.run; is_run = end.is_run; shown = c.in_ok-done.ensures.told.shown end.run end.is_run } in
    on_ok_always c.print.result told

pub returns-in_err-lines-clause-gives : goal.returns-in_err-lines-clause-gives
returns-in_err-lines-clause-gives g c =
    let p = err_from_is_err_and c.from_residual-in_err-lines.result c.from_residual-in_err-lines.ensures.1 in
    let ps : List ProbeState = map (λ p. (goal.Probe-dyn g (p.vtable, p.value)).state p.value) c.args.probes.now.items in
    let qs : List ProbeState = map (λ p. (goal.Probe-dyn g (p.vtable, p.value)).state p.value) c.watch.new.probes.items in
    let asks : Asked = asked c.args.files.now in
    let old : Outside = outside (g.S.Shelf.told c.args.shelf.now) (g.O.Sink.told c.args.out.now) in
    let after : ShelfState = g.S.Shelf.told c.watch.new.shelf in
    rw (p.1, p.2)
    (unprinted c.args.run c.requires.can asks ps c.requires.asked c.end_law.ensures old qs after c.in_ok-done.ensures.traced c.in_ok-done.done c.in_ok-done.ensures.outcome
    c.in_ok-done.ensures.told.quiet)
