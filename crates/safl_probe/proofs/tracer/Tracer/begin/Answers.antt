use Rattle.safl_probe.proofs.Common.{TraceKind, ap, begun, map, spot_of, ◌∙◌}
use Rattle.safl_probe.specs.Watching.{watched_by}
use Rattle.safl_probe.proofs.Told.{told_begun}
use Rattle.safl_probe.proofs.tracer.Tracer.begin.Goals as goal

pub returns-clause-told : goal.returns-clause-told
returns-clause-told c =
    let n = c.args.net.now in
    let s = c.self.inside in
    told_begun n s.kind s.stage c.signals-self-inside.result c.in_ok-entries.entries.items s.entries.items c.in_ok-spots.spots.items s.spots.items s.turn
    c.signals-self-inside.ensures.count
    (c.in_ok-entries.ensures ∙ ap (λ (k : TraceKind). watched_by k n) c.kind_of-kind.ensures)
    (c.in_ok-spots.ensures ∙ ap (map spot_of) c.deref.ensures.value)
    s.signals
    ∙ ap (begun n) c.self.view_is
