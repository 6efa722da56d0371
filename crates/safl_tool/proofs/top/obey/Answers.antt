use Rattle.safl_tool.proofs.Common.{ProbeState, shown_command, usage_line}
use Rattle.std.proofs.Common.{[], List, Option, map, refl, sym, subst}
use Rattle.std.specs.Prelude.{option_map, Err}
use Rattle.safl_command.specs.declared.command.Command.{Command}
use Rattle.safl_task.specs.Endings.{refused}
use Rattle.safl_task.specs.declared.status.Status.TheVariants as status
use Rattle.safl_tool.specs.Worlds.{world, DoesCommand, SparesFor}
use Rattle.safl_tool.specs.declared.refusal.Refusal.TheVariants as refusal
use Rattle.safl_tool.specs.Watched.{AttendsFor}
use Rattle.safl_tool.proofs.Performed.{spares_none}
use Rattle.safl_tool.proofs.top.obey.Goals as goal

pub returns-in-Some-clause-does : goal.returns-in-Some-clause-does
returns-in-Some-clause-does g c =
    let old = world (g.S.Shelf.told c.args.shelf.now) (g.O.Sink.told c.args.out.now) (λ p. (goal.Probe-dyn g (p.vtable, p.value)).state p.value) c.args.probes.now.items in
    let new = world (g.S.Shelf.told c.perform.new.shelf) (g.O.Sink.told c.perform.new.out) (λ p. (goal.Probe-dyn g (p.vtable, p.value)).state p.value) c.perform.new.probes.items in
    subst (λ (m : Option Command). DoesCommand (option_map shown_command m) old new c.perform.result) (sym c.in-Some.is) c.perform.ensures.does

pub returns-in-Some-clause-spares : goal.returns-in-Some-clause-spares
returns-in-Some-clause-spares g c =
    let old = world (g.S.Shelf.told c.args.shelf.now) (g.O.Sink.told c.args.out.now) (λ p. (goal.Probe-dyn g (p.vtable, p.value)).state p.value) c.args.probes.now.items in
    let new = world (g.S.Shelf.told c.perform.new.shelf) (g.O.Sink.told c.perform.new.out) (λ p. (goal.Probe-dyn g (p.vtable, p.value)).state p.value) c.perform.new.probes.items in
    subst (λ (m : Option Command). SparesFor (option_map shown_command m) old new) (sym c.in-Some.is) c.perform.ensures.spares

pub returns-in-None-clause-does : goal.returns-in-None-clause-does
returns-in-None-clause-does g c =
    let old = world (g.S.Shelf.told c.args.shelf.now) (g.O.Sink.told c.args.out.now) (λ p. (goal.Probe-dyn g (p.vtable, p.value)).state p.value) c.args.probes.now.items in
    subst (λ (m : Option Command). DoesCommand (option_map shown_command m) old old (Err refusal.Usage)) (sym c.in-None.is)
    (refused status.Usage usage_line refl ([], tt, (refl, refl)) (record { files = refl; out = refl }))

pub returns-in-None-clause-spares : goal.returns-in-None-clause-spares
returns-in-None-clause-spares g c = spares_none _ _ _

pub returns-in-Some-clause-attends : goal.returns-in-Some-clause-attends
returns-in-Some-clause-attends g c =
    let ps : List ProbeState = map (λ p. (goal.Probe-dyn g (p.vtable, p.value)).state p.value) c.args.probes.now.items in
    let qs : List ProbeState = map (λ p. (goal.Probe-dyn g (p.vtable, p.value)).state p.value) c.perform.new.probes.items in
    subst (λ (m : Option Command). AttendsFor (option_map shown_command m) (g.S.Shelf.told c.args.shelf.now).holds c.args.probes.now.items
    c.perform.new.probes.items ps qs c.perform.result) (sym c.in-Some.is) c.perform.ensures.attends

pub returns-in-None-clause-attends : goal.returns-in-None-clause-attends
returns-in-None-clause-attends g c = λ e. refl
