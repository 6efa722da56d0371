use Rattle.safl_tool.proofs.Common.{AreAskedFor, ProbeState, ShelfState, asked, command_task, outside, shown_command, starved, world}
use Rattle.std.proofs.Common.{◌≡◌, List, None, map, refl, sym, ap, subst, ◌∙◌, inl}
use Rattle.std.proofs.lemmas.Result.{err_from_is_err_and}
use Rattle.safl_command.specs.Traces.{Traces}
use Rattle.safl_task.specs.Inputs.{AreUnread, shown_inputs, shown_contents}
use Rattle.safl_task.specs.Tasks.{Input, Task, AreContents}
use Rattle.safl_tool.specs.Refusals.{TellsProbe}
use Rattle.safl_tool.proofs.Answered.{contents_alone}
use Rattle.safl_tool.proofs.Performed.{gives_does, spares_none, spares_read, spares_given}
use Rattle.safl_tool.proofs.Quiet.{quiet}
use Rattle.safl_tool.proofs.Refusing.{unread_stops, content_stops}
use Rattle.safl_tool.proofs.Watched.{attends_given}
use Rattle.safl_tool.proofs.work.carry_out.Goals as goal

-- ---- no memory for the inputs

pub returns-in_err-inputs-clause-does : goal.returns-in_err-inputs-clause-does
returns-in_err-inputs-clause-does g c =
    let p = err_from_is_err_and c.from_residual.result c.from_residual.ensures.1 in rw (p.1, p.2) (starved (inl (record { files = refl; out = refl })))

pub returns-in_err-inputs-clause-attends : goal.returns-in_err-inputs-clause-attends
returns-in_err-inputs-clause-attends g c =
    let p = err_from_is_err_and c.from_residual.result c.from_residual.ensures.1 in rw (p.1, p.2) (λ e. refl)

pub returns-in_err-inputs-clause-spares : goal.returns-in_err-inputs-clause-spares
returns-in_err-inputs-clause-spares g c = spares_none _ _ _

-- ---- an input was not read

pub returns-in-Err-clause-does : goal.returns-in-Err-clause-does
returns-in-Err-clause-does g c =
    let t : Task = command_task (shown_command c.args.command.now) in
    let ps : List ProbeState = map (λ p. (goal.Probe-dyn g (p.vtable, p.value)).state p.value) c.args.probes.now.items in
    let old = world (g.S.Shelf.told c.args.shelf.now) (g.O.Sink.told c.args.out.now) (λ p. (goal.Probe-dyn g (p.vtable, p.value)).state p.value) c.args.probes.now.items in
    let new = world (g.S.Shelf.told c.read_inputs.new.shelf) (g.O.Sink.told c.args.out.now) (λ p. (goal.Probe-dyn g (p.vtable, p.value)).state p.value) c.args.probes.now.items in
    let is : shown_inputs c.deref.result.now ≡ t.inputs = ap shown_inputs c.deref.ensures.value ∙ c.in_ok-inputs.ensures in
    unread_stops t (TellsProbe (asked c.args.files.now) ps ps) old.outside new.outside (record { files = c.in-Err.ensures.only_reads.files; out = refl }) c.in-Err.unread
    (subst (λ (l : List Input). AreUnread l old.outside.shelf new.outside.shelf c.in-Err.unread) is c.in-Err.ensures.refused) c.of_unread.result c.of_unread.ensures

pub returns-in-Err-clause-attends : goal.returns-in-Err-clause-attends
returns-in-Err-clause-attends g c = λ e. refl

pub returns-in-Err-clause-spares : goal.returns-in-Err-clause-spares
returns-in-Err-clause-spares g c =
    let t : Task = command_task (shown_command c.args.command.now) in
    let old = world (g.S.Shelf.told c.args.shelf.now) (g.O.Sink.told c.args.out.now) (λ p. (goal.Probe-dyn g (p.vtable, p.value)).state p.value) c.args.probes.now.items in
    let new = world (g.S.Shelf.told c.read_inputs.new.shelf) (g.O.Sink.told c.args.out.now) (λ p. (goal.Probe-dyn g (p.vtable, p.value)).state p.value) c.args.probes.now.items in
    let is : shown_inputs c.deref.result.now ≡ t.inputs = ap shown_inputs c.deref.ensures.value ∙ c.in_ok-inputs.ensures in
    spares_read t (asked c.args.files.now) old new refl refl (shown_inputs c.deref.result.now) is c.in-Err.ensures.no_stray

-- ---- they are refused

pub answer_of-requires : goal.answer_of-requires
answer_of-requires g c =
    let t : Task = command_task (shown_command c.args.command.now) in
    let old : ShelfState = g.S.Shelf.told c.args.shelf.now in
    let is : shown_inputs c.deref.result.now ≡ t.inputs = ap shown_inputs c.deref.ensures.value ∙ c.in_ok-inputs.ensures in
    subst (λ l. AreContents None t.inputs (shown_contents l)) (sym c.deref-2.ensures.value)
    (contents_alone old.holds t.inputs (shown_contents c.in-Ok.contents.items)
    (subst (λ (l : List Input). AreContents old.holds l (shown_contents c.in-Ok.contents.items)) is c.in-Ok.ensures.read))

pub returns-in_err-answer-clause-does : goal.returns-in_err-answer-clause-does
returns-in_err-answer-clause-does g c =
    let p = err_from_is_err_and c.from_residual-in_err-answer.result c.from_residual-in_err-answer.ensures.1 in
    let t : Task = command_task (shown_command c.args.command.now) in
    let ps : List ProbeState = map (λ p. (goal.Probe-dyn g (p.vtable, p.value)).state p.value) c.args.probes.now.items in
    let old = world (g.S.Shelf.told c.args.shelf.now) (g.O.Sink.told c.args.out.now) (λ p. (goal.Probe-dyn g (p.vtable, p.value)).state p.value) c.args.probes.now.items in
    let new = world (g.S.Shelf.told c.read_inputs.new.shelf) (g.O.Sink.told c.args.out.now) (λ p. (goal.Probe-dyn g (p.vtable, p.value)).state p.value) c.args.probes.now.items in
    let is : shown_inputs c.deref.result.now ≡ t.inputs = ap shown_inputs c.deref.ensures.value ∙ c.in_ok-inputs.ensures in
    let are : AreContents old.outside.shelf.holds t.inputs (shown_contents c.deref-2.result.now) =
    subst (λ l. AreContents old.outside.shelf.holds t.inputs (shown_contents l)) (sym c.deref-2.ensures.value)
    (subst (λ (l : List Input). AreContents old.outside.shelf.holds l (shown_contents c.in-Ok.contents.items)) is c.in-Ok.ensures.read) in
    rw (p.1, p.2)
    (content_stops t (TellsProbe (asked c.args.files.now) ps ps) old.outside new.outside (shown_contents c.deref-2.result.now) are
    (quiet (shown_command c.args.command.now) (shown_contents c.deref-2.result.now))
    (record { files = c.in-Ok.ensures.only_reads.files; out = refl }) c.in_err-answer.field-0.0 c.in_err-answer.ensures.refused)

pub returns-in_err-answer-clause-attends : goal.returns-in_err-answer-clause-attends
returns-in_err-answer-clause-attends g c =
    let p = err_from_is_err_and c.from_residual-in_err-answer.result c.from_residual-in_err-answer.ensures.1 in rw (p.1, p.2) (λ e. refl)

pub returns-in_err-answer-clause-spares : goal.returns-in_err-answer-clause-spares
returns-in_err-answer-clause-spares g c =
    let t : Task = command_task (shown_command c.args.command.now) in
    let old = world (g.S.Shelf.told c.args.shelf.now) (g.O.Sink.told c.args.out.now) (λ p. (goal.Probe-dyn g (p.vtable, p.value)).state p.value) c.args.probes.now.items in
    let new = world (g.S.Shelf.told c.read_inputs.new.shelf) (g.O.Sink.told c.args.out.now) (λ p. (goal.Probe-dyn g (p.vtable, p.value)).state p.value) c.args.probes.now.items in
    let is : shown_inputs c.deref.result.now ≡ t.inputs = ap shown_inputs c.deref.ensures.value ∙ c.in_ok-inputs.ensures in
    spares_read t (asked c.args.files.now) old new refl refl (shown_inputs c.deref.result.now) is c.in-Ok.ensures.no_stray

-- ---- the answer is given

pub give-requires-clause-can : goal.give-requires-clause-can
give-requires-clause-can g c = c.in_ok-answer.ensures.answers.can

pub give-requires-clause-asked : goal.give-requires-clause-asked
give-requires-clause-asked g c =
    let ps : List ProbeState = map (λ p. (goal.Probe-dyn g (p.vtable, p.value)).state p.value) c.args.probes.now.items in
    subst (λ (t : Traces). AreAskedFor t (asked c.args.files.now) ps) (sym c.in_ok-answer.ensures.traces) c.requires

pub returns-clause-does : goal.returns-clause-does
returns-clause-does g c =
    let t : Task = command_task (shown_command c.args.command.now) in
    let old = world (g.S.Shelf.told c.args.shelf.now) (g.O.Sink.told c.args.out.now) (λ p. (goal.Probe-dyn g (p.vtable, p.value)).state p.value) c.args.probes.now.items in
    let mid : ShelfState = g.S.Shelf.told c.read_inputs.new.shelf in
    let new = world (g.S.Shelf.told c.give.new.shelf) (g.O.Sink.told c.give.new.out) (λ p. (goal.Probe-dyn g (p.vtable, p.value)).state p.value) c.give.new.probes.items in
    let is : shown_inputs c.deref.result.now ≡ t.inputs = ap shown_inputs c.deref.ensures.value ∙ c.in_ok-inputs.ensures in
    let are : AreContents old.outside.shelf.holds t.inputs (shown_contents c.deref-2.result.now) =
    subst (λ l. AreContents old.outside.shelf.holds t.inputs (shown_contents l)) (sym c.deref-2.ensures.value)
    (subst (λ (l : List Input). AreContents old.outside.shelf.holds l (shown_contents c.in-Ok.contents.items)) is c.in-Ok.ensures.read) in
    gives_does t (asked c.args.files.now) old new mid c.in-Ok.ensures.only_reads (shown_contents c.deref-2.result.now) are
    c.in_ok-answer.answer c.in_ok-answer.ensures.answers c.in-Ok.ensures.quiet c.give.result c.give.ensures.gives

pub returns-clause-spares : goal.returns-clause-spares
returns-clause-spares g c =
    let t : Task = command_task (shown_command c.args.command.now) in
    let old = world (g.S.Shelf.told c.args.shelf.now) (g.O.Sink.told c.args.out.now) (λ p. (goal.Probe-dyn g (p.vtable, p.value)).state p.value) c.args.probes.now.items in
    let mid : ShelfState = g.S.Shelf.told c.read_inputs.new.shelf in
    let new = world (g.S.Shelf.told c.give.new.shelf) (g.O.Sink.told c.give.new.out) (λ p. (goal.Probe-dyn g (p.vtable, p.value)).state p.value) c.give.new.probes.items in
    let is : shown_inputs c.deref.result.now ≡ t.inputs = ap shown_inputs c.deref.ensures.value ∙ c.in_ok-inputs.ensures in
    spares_given t (asked c.args.files.now) old new mid c.in-Ok.ensures.only_reads.files (shown_inputs c.deref.result.now) is
    c.in-Ok.ensures.no_stray c.give.ensures.same_strays c.give.ensures.probes.unasked c.give.ensures.probes.probes

pub returns-clause-attends : goal.returns-clause-attends
returns-clause-attends g c =
    let t : Task = command_task (shown_command c.args.command.now) in
    let old = world (g.S.Shelf.told c.args.shelf.now) (g.O.Sink.told c.args.out.now) (λ p. (goal.Probe-dyn g (p.vtable, p.value)).state p.value) c.args.probes.now.items in
    let mid : ShelfState = g.S.Shelf.told c.read_inputs.new.shelf in
    let new = world (g.S.Shelf.told c.give.new.shelf) (g.O.Sink.told c.give.new.out) (λ p. (goal.Probe-dyn g (p.vtable, p.value)).state p.value) c.give.new.probes.items in
    let is : shown_inputs c.deref.result.now ≡ t.inputs = ap shown_inputs c.deref.ensures.value ∙ c.in_ok-inputs.ensures in
    let are : AreContents old.outside.shelf.holds t.inputs (shown_contents c.deref-2.result.now) =
    subst (λ l. AreContents old.outside.shelf.holds t.inputs (shown_contents l)) (sym c.deref-2.ensures.value)
    (subst (λ (l : List Input). AreContents old.outside.shelf.holds l (shown_contents c.in-Ok.contents.items)) is c.in-Ok.ensures.read) in
    attends_given (shown_command c.args.command.now) (asked c.args.files.now) old.outside.shelf.holds old.probes new.probes old.states new.states
    (shown_contents c.deref-2.result.now) are c.in_ok-answer.answer c.in_ok-answer.ensures.shows (outside mid old.outside.out) new.outside
    c.give.result c.give.ensures.gives c.give.ensures.told
