use Rattle.safl_tool.proofs.Common.{Attended, ProbeState, SinkState, starved}
use Rattle.std.proofs.Common.{List, map, string_bytes, refl, subst, inl, Option}
use Rattle.std.specs.Prelude.{option_map}
use Rattle.safl_command.specs.Commands.{Command, command_of, shown_command}
use Rattle.safl_task.proofs.Ending.{ended_ends}
use Rattle.safl_tool.specs.Worlds.{world, EndsBy, SparesFor, Unprobed, task_in}
use Rattle.safl_tool.specs.declared.refusal.Refusal.TheVariants as refusal
use Rattle.safl_tool.proofs.Performed.{spares_none}
use Rattle.safl_tool.proofs.Refusing.{refusal_ends}
use Rattle.safl_tool.proofs.Watched.{end_attended, refusal_attended}
use Rattle.safl_tool.proofs.top.dispatch.Goals as goal

pub returns-in-Err-clause-ends : goal.returns-in-Err-clause-ends
returns-in-Err-clause-ends g c =
    let m : Option Command = command_of (map string_bytes c.args.words.now) in
    let old = world (g.S.Shelf.told c.args.shelf.now) (g.O.Sink.told c.args.out.now) (λ p. (goal.Probe-dyn g (p.vtable, p.value)).state p.value) c.args.probes.now.items in
    refusal_ends (task_in m old) (Unprobed m old old) old.outside old.outside (g.E.Sink.told c.args.err.now) (g.E.Sink.told c.refuse.new.err)
    refusal.NoMemory c.refuse.result (starved (inl (record { files = refl; out = refl }))) c.refuse.ensures

pub returns-in-Err-clause-spares : goal.returns-in-Err-clause-spares
returns-in-Err-clause-spares g c = spares_none _ _ _

pub returns-in-Ok-obey-clause-ends : goal.returns-in-Ok-obey-clause-ends
returns-in-Ok-obey-clause-ends g c =
    let old = world (g.S.Shelf.told c.args.shelf.now) (g.O.Sink.told c.args.out.now) (λ p. (goal.Probe-dyn g (p.vtable, p.value)).state p.value) c.args.probes.now.items in
    let new = world (g.S.Shelf.told c.obey.new.shelf) (g.O.Sink.told c.obey.new.out) (λ p. (goal.Probe-dyn g (p.vtable, p.value)).state p.value) c.obey.new.probes.items in
    let before : SinkState = g.E.Sink.told c.args.err.now in
    let m : Option Command = option_map shown_command c.in-Ok.command in
    subst (λ (m : Option Command). EndsBy m old new before before c.in-Ok-obey.status) c.in-Ok.ensures
    (ended_ends (task_in m old) (Unprobed m old new) old.outside new.outside before before c.in-Ok-obey.status c.in-Ok-obey.ensures.does refl)

pub returns-in-Ok-obey-clause-spares : goal.returns-in-Ok-obey-clause-spares
returns-in-Ok-obey-clause-spares g c =
    let old = world (g.S.Shelf.told c.args.shelf.now) (g.O.Sink.told c.args.out.now) (λ p. (goal.Probe-dyn g (p.vtable, p.value)).state p.value) c.args.probes.now.items in
    let new = world (g.S.Shelf.told c.obey.new.shelf) (g.O.Sink.told c.obey.new.out) (λ p. (goal.Probe-dyn g (p.vtable, p.value)).state p.value) c.obey.new.probes.items in
    subst (λ (m : Option Command). SparesFor m old new) c.in-Ok.ensures c.in-Ok-obey.ensures.spares

pub returns-clause-ends : goal.returns-clause-ends
returns-clause-ends g c =
    let old = world (g.S.Shelf.told c.args.shelf.now) (g.O.Sink.told c.args.out.now) (λ p. (goal.Probe-dyn g (p.vtable, p.value)).state p.value) c.args.probes.now.items in
    let new = world (g.S.Shelf.told c.obey.new.shelf) (g.O.Sink.told c.obey.new.out) (λ p. (goal.Probe-dyn g (p.vtable, p.value)).state p.value) c.obey.new.probes.items in
    let before : SinkState = g.E.Sink.told c.args.err.now in
    let after : SinkState = g.E.Sink.told c.refuse-in-Err-obey.new.err in
    let m : Option Command = option_map shown_command c.in-Ok.command in
    subst (λ (m : Option Command). EndsBy m old new before after c.refuse-in-Err-obey.result) c.in-Ok.ensures
    (refusal_ends (task_in m old) (Unprobed m old new) old.outside new.outside before after c.in-Err-obey.refusal c.refuse-in-Err-obey.result c.in-Err-obey.ensures.does c.refuse-in-Err-obey.ensures)

pub returns-clause-spares : goal.returns-clause-spares
returns-clause-spares g c =
    let old = world (g.S.Shelf.told c.args.shelf.now) (g.O.Sink.told c.args.out.now) (λ p. (goal.Probe-dyn g (p.vtable, p.value)).state p.value) c.args.probes.now.items in
    let new = world (g.S.Shelf.told c.obey.new.shelf) (g.O.Sink.told c.obey.new.out) (λ p. (goal.Probe-dyn g (p.vtable, p.value)).state p.value) c.obey.new.probes.items in
    subst (λ (m : Option Command). SparesFor m old new) c.in-Ok.ensures c.in-Err-obey.ensures.spares

-- ---- the probes

pub returns-in-Err-clause-attended : goal.returns-in-Err-clause-attended
returns-in-Err-clause-attended g c =
    let ps : List ProbeState = map (λ p. (goal.Probe-dyn g (p.vtable, p.value)).state p.value) c.args.probes.now.items in
    refusal_attended (command_of (map string_bytes c.args.words.now)) (g.S.Shelf.told c.args.shelf.now).holds c.args.probes.now.items c.args.probes.now.items ps ps
    refusal.NoMemory (g.E.Sink.told c.args.err.now) (g.E.Sink.told c.refuse.new.err) c.refuse.result (λ e. refl) c.refuse.ensures

pub returns-in-Ok-obey-clause-attended : goal.returns-in-Ok-obey-clause-attended
returns-in-Ok-obey-clause-attended g c =
    let old = world (g.S.Shelf.told c.args.shelf.now) (g.O.Sink.told c.args.out.now) (λ p. (goal.Probe-dyn g (p.vtable, p.value)).state p.value) c.args.probes.now.items in
    let new = world (g.S.Shelf.told c.obey.new.shelf) (g.O.Sink.told c.obey.new.out) (λ p. (goal.Probe-dyn g (p.vtable, p.value)).state p.value) c.obey.new.probes.items in
    let m : Option Command = option_map shown_command c.in-Ok.command in
    subst (λ (m : Option Command). Attended m old.outside.shelf.holds old.probes new.probes old.states new.states c.in-Ok-obey.status) c.in-Ok.ensures
    (end_attended m old.outside.shelf.holds old.probes new.probes old.states new.states (task_in m old) old.outside new.outside c.in-Ok-obey.status
    c.in-Ok-obey.ensures.does c.in-Ok-obey.ensures.attends)

pub returns-clause-attended : goal.returns-clause-attended
returns-clause-attended g c =
    let old = world (g.S.Shelf.told c.args.shelf.now) (g.O.Sink.told c.args.out.now) (λ p. (goal.Probe-dyn g (p.vtable, p.value)).state p.value) c.args.probes.now.items in
    let new = world (g.S.Shelf.told c.obey.new.shelf) (g.O.Sink.told c.obey.new.out) (λ p. (goal.Probe-dyn g (p.vtable, p.value)).state p.value) c.obey.new.probes.items in
    let m : Option Command = option_map shown_command c.in-Ok.command in
    subst (λ (m : Option Command). Attended m old.outside.shelf.holds old.probes new.probes old.states new.states c.refuse-in-Err-obey.result) c.in-Ok.ensures
    (refusal_attended m old.outside.shelf.holds old.probes new.probes old.states new.states c.in-Err-obey.refusal (g.E.Sink.told c.args.err.now)
    (g.E.Sink.told c.refuse-in-Err-obey.new.err) c.refuse-in-Err-obey.result c.in-Err-obey.ensures.attends c.refuse-in-Err-obey.ensures)
