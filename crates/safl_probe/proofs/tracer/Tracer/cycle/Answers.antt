use Rattle.safl_probe.proofs.Common.{ProbeState, Valuation, Word, after_frame, ap, arith, map, sym, with_items_is, ◌∙◌}
use Rattle.std.specs.Vec.{with_items}
use Rattle.safl_probe.specs.Entries.{looked_all}
use Rattle.safl_probe.proofs.Told.{told_after}
use Rattle.safl_probe.proofs.tracer.Tracer.cycle.Goals as goal

pub returns-clause-told : goal.returns-clause-told
returns-clause-told c =
    let frame : Valuation = map (λ (w : Word). w.bits) c.args.frame.now in
    let s = c.self.inside in
    let kept = with_items_is s.spots c.send_frame.new.spots (
    let a = c.send_frame.auto.spots in let b = c.deref_mut.ensures.len in let d = s.spots.ok.0 in omega (arith, a, b, d)) in
    told_after s.kind s.stage s.signals s.entries.items s.spots.items (with_items s.spots c.send_frame.new.spots).items c.args.t s.turn frame
    (ap (λ (p : ProbeState). p.stage) c.self.view_is ∙ c.requires.watching)
    (c.requires.turn ∙ ap (λ (p : ProbeState). p.turn) (sym c.self.view_is))
    (kept ∙ c.in_ok-send_frame.ensures.now ∙ ap (looked_all frame) c.deref_mut.ensures.value)
    ∙ ap (after_frame frame) c.self.view_is
