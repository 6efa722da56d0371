use Rattle.safl_probe.proofs.Common.{TraceKind, Valuation, Watched, Word, numbers, on_ok_weaker, seen, watched_from}
use Rattle.std.proofs.Common.{ℕ, List, ◌++◌, map, Some, sym, ap, ◌∙◌}
use Rattle.safl_probe.specs.Texts.{Text, frame_text, toggles}
use Rattle.safl_probe.proofs.Spots.{starts_are, changes_are, toggles_are}
use Rattle.safl_probe.proofs.texts.push_later.Goals as goal

pub returns-in-Vcd-clause-added : goal.returns-in-Vcd-clause-added
returns-in-Vcd-clause-added c =
    let frame : Valuation = map (λ (w : Word). w.bits) c.args.frame.now in
    let ws : List Watched = watched_from 0 c.args.entries.now c.args.spots.now in
    on_ok_weaker c.push_change.result (λ added. added ∙ ap (λ (l : Text). c.args.out.now.items ++ l) (
    changes_are c.args.t c.args.entries.now c.args.spots.now frame
    ∙ sym (ap (λ (k : TraceKind). frame_text k ws c.args.t (Some (numbers c.args.spots.now)) (seen ws frame)) c.in-Vcd.is))) c.push_change.ensures.added

pub returns-in-Starts-clause-added : goal.returns-in-Starts-clause-added
returns-in-Starts-clause-added c =
    let frame : Valuation = map (λ (w : Word). w.bits) c.args.frame.now in
    let ws : List Watched = watched_from 0 c.args.entries.now c.args.spots.now in
    on_ok_weaker c.push_starts.result (λ added. added ∙ ap (λ (l : Text). c.args.out.now.items ++ l) (
    starts_are c.args.t c.args.entries.now c.args.spots.now c.look.new.spots frame c.look.ensures
    ∙ sym (ap (λ (k : TraceKind). frame_text k ws c.args.t (Some (numbers c.args.spots.now)) (seen ws frame)) c.in-Starts.is))) c.push_starts.ensures

pub returns-in-Toggles-clause-added : goal.returns-in-Toggles-clause-added
returns-in-Toggles-clause-added c =
    let frame : Valuation = map (λ (w : Word). w.bits) c.args.frame.now in
    let ws : List Watched = watched_from 0 c.args.entries.now c.args.spots.now in
    on_ok_weaker c.push_toggles.result (λ added. added ∙ ap (λ (l : Text). c.args.out.now.items ++ l) (
    ap (λ (count : ℕ). toggles c.args.t count) (c.toggle-count.ensures.count ∙ toggles_are c.args.entries.now c.args.spots.now frame)
    ∙ sym (ap (λ (k : TraceKind). frame_text k ws c.args.t (Some (numbers c.args.spots.now)) (seen ws frame)) c.in-Toggles.is))) c.push_toggles.ensures
