use Rattle.std.proofs.Common.{Option, refl, subst, ◌∙◌}
use Rattle.safl_io.specs.Sink.{SinkState}
use Rattle.safl_task.specs.Endings.{Outside, outside, Ends}
use Rattle.safl_task.proofs.Ending.{ended_ends}
use Rattle.safl_timing.specs.Endings.{NoProbe}
use Rattle.safl_timing.specs.Requests.{Request, shown_request}
use Rattle.safl_timing.specs.Tasks.{request_task, task_of}
use Rattle.safl_timing.proofs.Done as on
use Rattle.safl_timing.proofs.top.run.Goals as goal

pub returns-in-Ok-clause-ends : goal.returns-in-Ok-clause-ends
returns-in-Ok-clause-ends g c =
    let old : Outside = outside (g.S.Shelf.told c.args.shelf.now) (g.O.Sink.told c.args.out.now) in
    let new : Outside = outside (g.S.Shelf.told c.obey.new.shelf) (g.O.Sink.told c.obey.new.out) in
    let before : SinkState = g.E.Sink.told c.args.err.now in
    subst (λ (m : Option Request). Ends (task_of m) NoProbe old new before before c.in-Ok.status) c.in-Some.ensures
    (ended_ends (request_task (shown_request c.in-Some.request)) NoProbe old new before before c.in-Ok.status c.in-Ok.ensures refl)

pub returns-in-Ok-clause-times : goal.returns-in-Ok-clause-times
returns-in-Ok-clause-times g c = λ input args e ok.
    let old : Outside = outside (g.S.Shelf.told c.args.shelf.now) (g.O.Sink.told c.args.out.now) in
    let new : Outside = outside (g.S.Shelf.told c.obey.new.shelf) (g.O.Sink.told c.obey.new.out) in
    let before : SinkState = g.E.Sink.told c.args.err.now in
    on.times_ok input args old new before before c.in-Ok.status
    (subst (λ (m : Option Request). Ends (task_of m) NoProbe old new before before c.in-Ok.status) (c.in-Some.ensures ∙ e)
    (ended_ends (request_task (shown_request c.in-Some.request)) NoProbe old new before before c.in-Ok.status c.in-Ok.ensures refl)) ok

pub returns-in-Err-clause-ends : goal.returns-in-Err-clause-ends
returns-in-Err-clause-ends g c =
    let old : Outside = outside (g.S.Shelf.told c.args.shelf.now) (g.O.Sink.told c.args.out.now) in
    let new : Outside = outside (g.S.Shelf.told c.obey.new.shelf) (g.O.Sink.told c.obey.new.out) in
    let before : SinkState = g.E.Sink.told c.args.err.now in
    let after : SinkState = g.E.Sink.told c.stopped.new.err in
    subst (λ (m : Option Request). Ends (task_of m) NoProbe old new before after c.stopped.result) c.in-Some.ensures
    (on.stopped_ends (request_task (shown_request c.in-Some.request)) old new before after c.in-Err.stop c.stopped.result c.in-Err.ensures c.stopped.ensures)

pub returns-in-Err-clause-times : goal.returns-in-Err-clause-times
returns-in-Err-clause-times g c = λ input args e ok.
    let old : Outside = outside (g.S.Shelf.told c.args.shelf.now) (g.O.Sink.told c.args.out.now) in
    let new : Outside = outside (g.S.Shelf.told c.obey.new.shelf) (g.O.Sink.told c.obey.new.out) in
    let before : SinkState = g.E.Sink.told c.args.err.now in
    let after : SinkState = g.E.Sink.told c.stopped.new.err in
    on.times_ok input args old new before after c.stopped.result
    (subst (λ (m : Option Request). Ends (task_of m) NoProbe old new before after c.stopped.result) (c.in-Some.ensures ∙ e)
    (on.stopped_ends (request_task (shown_request c.in-Some.request)) old new before after c.in-Err.stop c.stopped.result c.in-Err.ensures c.stopped.ensures)) ok

pub returns-in-Err-clause-blind : goal.returns-in-Err-clause-blind
returns-in-Err-clause-blind g c = λ input list listed e ok.
    let old : Outside = outside (g.S.Shelf.told c.args.shelf.now) (g.O.Sink.told c.args.out.now) in
    let new : Outside = outside (g.S.Shelf.told c.obey.new.shelf) (g.O.Sink.told c.obey.new.out) in
    let before : SinkState = g.E.Sink.told c.args.err.now in
    let after : SinkState = g.E.Sink.told c.stopped.new.err in
    on.blind_ok input list listed old new before after c.stopped.result
    (subst (λ (m : Option Request). Ends (task_of m) NoProbe old new before after c.stopped.result) (c.in-Some.ensures ∙ e)
    (on.stopped_ends (request_task (shown_request c.in-Some.request)) old new before after c.in-Err.stop c.stopped.result c.in-Err.ensures c.stopped.ensures)) ok

pub returns-in-None-clause-ends : goal.returns-in-None-clause-ends
returns-in-None-clause-ends g c =
    let old : Outside = outside (g.S.Shelf.told c.args.shelf.now) (g.O.Sink.told c.args.out.now) in
    let before : SinkState = g.E.Sink.told c.args.err.now in
    let after : SinkState = g.E.Sink.told c.tell.new.err in
    subst (λ (m : Option Request). Ends (task_of m) NoProbe old old before after c.tell.result) c.in-None.ensures (on.usage_ends old before after c.tell.result c.tell.ensures)

pub returns-in-Ok-clause-blind : goal.returns-in-Ok-clause-blind
returns-in-Ok-clause-blind g c = λ input list listed e ok.
    let old : Outside = outside (g.S.Shelf.told c.args.shelf.now) (g.O.Sink.told c.args.out.now) in
    let new : Outside = outside (g.S.Shelf.told c.obey.new.shelf) (g.O.Sink.told c.obey.new.out) in
    let before : SinkState = g.E.Sink.told c.args.err.now in
    on.blind_ok input list listed old new before before c.in-Ok.status
    (subst (λ (m : Option Request). Ends (task_of m) NoProbe old new before before c.in-Ok.status) (c.in-Some.ensures ∙ e)
    (ended_ends (request_task (shown_request c.in-Some.request)) NoProbe old new before before c.in-Ok.status c.in-Ok.ensures refl)) ok
