use Rattle.safl_probe.proofs.Common.{TraceKind, Valuation, Watched, Word, on_ok_weaker, seen, watched_from}
use Rattle.std.proofs.Common.{List, ◌++◌, map, None, sym, ap, ◌∙◌}
use Rattle.safl_probe.specs.Texts.{Text, frame_text}
use Rattle.safl_probe.proofs.Spots.{dump_is, starts_are}
use Rattle.safl_probe.proofs.texts.push_first.Goals as goal

pub returns-in-Vcd-clause-added : goal.returns-in-Vcd-clause-added
returns-in-Vcd-clause-added c =
    let frame : Valuation = map (λ (w : Word). w.bits) c.args.frame.now in
    let ws : List Watched = watched_from 0 c.args.entries.now c.args.spots.now in
    on_ok_weaker c.push_dump.result (λ added. added ∙ ap (λ (l : Text). c.args.out.now.items ++ l) (
    dump_is c.args.t c.args.entries.now c.args.spots.now c.look.new.spots frame c.look.ensures
    ∙ sym (ap (λ (k : TraceKind). frame_text k ws c.args.t None (seen ws frame)) c.in-Vcd.is))) c.push_dump.ensures

pub returns-in-Starts-clause-added : goal.returns-in-Starts-clause-added
returns-in-Starts-clause-added c =
    let frame : Valuation = map (λ (w : Word). w.bits) c.args.frame.now in
    let ws : List Watched = watched_from 0 c.args.entries.now c.args.spots.now in
    on_ok_weaker c.push_starts.result (λ added. added ∙ ap (λ (l : Text). c.args.out.now.items ++ l) (
    starts_are c.args.t c.args.entries.now c.args.spots.now c.look.new.spots frame c.look.ensures
    ∙ sym (ap (λ (k : TraceKind). frame_text k ws c.args.t None (seen ws frame)) c.in-Starts.is))) c.push_starts.ensures
