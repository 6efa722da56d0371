use Rattle.std.proofs.Common.{◌≤◌, ℕ, List, [], ◌∷◌, length, refl, sym, ap, subst, ◌∙◌}
use Rattle.safl_io.specs.Shelf.{ShelfState}
use Rattle.safl_word.specs.Limits.{source_max}
use Rattle.safl_task.specs.Endings.{Outside, outside}
use Rattle.safl_task.specs.Inputs.{AreUnread, shown_contents}
use Rattle.safl_task.specs.Tasks.{Input, AreContents}
use Rattle.safl_tool.proofs.Refusing.{unread_stops}
use Rattle.safl_timing.specs.Endings.{NoProbe, first_of}
use Rattle.safl_timing.specs.Requests.{Request, shown_request}
use Rattle.safl_timing.specs.Secrets.{StopsAs}
use Rattle.safl_timing.specs.Tasks.{Gives, Refuses, request_task, shown}
use Rattle.safl_timing.proofs.Done as on
use Rattle.safl_timing.proofs.top.obey.Goals as goal

pub returns-in-Err : goal.returns-in-Err
returns-in-Err g c =
    let old : Outside = outside (g.S.Shelf.told c.args.shelf.now) (g.O.Sink.told c.args.out.now) in
    let new : Outside = outside (g.S.Shelf.told c.read_inputs.new.shelf) (g.O.Sink.told c.args.out.now) in
    unread_stops (request_task (shown_request c.args.request)) NoProbe old new (record { files = c.in-Err.ensures.only_reads.files; out = refl }) c.in-Err.unread
    (subst (λ (l : List Input). AreUnread l old.shelf new.shelf c.in-Err.unread) (ap (λ i. i ∷ []) c.source.ensures) c.in-Err.ensures.refused) c.of_unread.result c.of_unread.ensures

pub returns-in-Ok-answer : goal.returns-in-Ok-answer
returns-in-Ok-answer g c =
    let old : Outside = outside (g.S.Shelf.told c.args.shelf.now) (g.O.Sink.told c.args.out.now) in
    let mid : ShelfState = g.S.Shelf.told c.read_inputs.new.shelf in
    let r : Request = shown_request c.args.request in
    let are = subst (λ (l : List Input). AreContents old.shelf.holds l (shown_contents c.in-Ok.contents.items)) (ap (λ i. i ∷ []) c.source.ensures) c.in-Ok.ensures.read in
    let source = c.first.ensures ∙ ap (λ l. first_of (shown_contents l)) c.deref.ensures.value in
    on.printed_does r old (shown_contents c.in-Ok.contents.items) are mid (g.O.Sink.told c.print.new.out)
    c.in-Ok.ensures.only_reads c.in-Ok.ensures.quiet c.in-Ok-answer.lines
    (subst (λ l. Gives r.asked l (shown c.in-Ok-answer.lines)) source c.in-Ok-answer.ensures.gives) c.print.result c.print.ensures

pub returns : goal.returns
returns g c =
    let old : Outside = outside (g.S.Shelf.told c.args.shelf.now) (g.O.Sink.told c.args.out.now) in
    let new : Outside = outside (g.S.Shelf.told c.read_inputs.new.shelf) (g.O.Sink.told c.args.out.now) in
    let r : Request = shown_request c.args.request in
    let are = subst (λ (l : List Input). AreContents old.shelf.holds l (shown_contents c.in-Ok.contents.items)) (ap (λ i. i ∷ []) c.source.ensures) c.in-Ok.ensures.read in
    let source = c.first.ensures ∙ ap (λ l. first_of (shown_contents l)) c.deref.ensures.value in
    on.refused_does r old (shown_contents c.in-Ok.contents.items) are new
    (record { files = c.in-Ok.ensures.only_reads.files; out = refl }) c.in-Err-answer.stop
    (subst (λ l. StopsAs (Refuses r.input r.asked l) c.in-Err-answer.stop) source c.in-Err-answer.ensures.refused)

pub answer-requires : goal.answer-requires
answer-requires g c =
    let old : Outside = outside (g.S.Shelf.told c.args.shelf.now) (g.O.Sink.told c.args.out.now) in
    let are = subst (λ (l : List Input). AreContents old.shelf.holds l (shown_contents c.in-Ok.contents.items)) (ap (λ i. i ∷ []) c.source.ensures) c.in-Ok.ensures.read in
    let source = c.first.ensures ∙ ap (λ l. first_of (shown_contents l)) c.deref.ensures.value in
    subst (λ (l : List ℕ). length l ≤ source_max) (sym source) (on.within (shown_request c.args.request) old (shown_contents c.in-Ok.contents.items) are)
