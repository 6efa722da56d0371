use Rattle.safl_tool.proofs.Common.{Asked, asked, probe_at, shown_command, starved, traces_given, traces_in, world}
use Rattle.std.proofs.Common.{◌≡◌, List, map, refl, sym, ap, subst, ◌∙◌, inl}
use Rattle.safl_probe.specs.Probing.{ProbeState, IsWaiting}
use Rattle.safl_command.specs.Traces.{Traces}
use Rattle.safl_tool.specs.Tracing.{AreAskedFor, have_probes, kinds_of}
use Rattle.safl_tool.proofs.Performed.{spares_none, not_asked, does_asked, spares_asked}
use Rattle.safl_tool.proofs.Watched.{attends_asked}
use Rattle.safl_tool.proofs.work.perform.Goals as goal

-- the files are those that the command asks for
handed : (t u : Traces) (ps qs : List ProbeState) (asks : Asked) → t ≡ u → qs ≡ ps → AreAskedFor t asks qs → AreAskedFor u asks ps
handed t u ps qs asks e f a = subst (λ (x : Traces). AreAskedFor x asks ps) e (subst (λ (l : List ProbeState). AreAskedFor t asks l) f a)

pub asked_files-requires : goal.asked_files-requires
asked_files-requires g c = λ i.
    subst (λ l. IsWaiting (probe_at (map (λ p. (goal.Probe-dyn g (p.vtable, p.value)).state p.value) l) i)) (sym c.deref.ensures.value) (c.requires i)

pub carry_out-requires : goal.carry_out-requires
carry_out-requires g c =
    let ps : List ProbeState = map (λ p. (goal.Probe-dyn g (p.vtable, p.value)).state p.value) c.args.probes.now.items in
    let qs : List ProbeState = map (λ p. (goal.Probe-dyn g (p.vtable, p.value)).state p.value) c.deref.result.now in
    subst (λ l. AreAskedFor (traces_in (shown_command c.args.command.now)) (asked l) ps) (sym c.deref-in-Ok-Some.ensures.value)
    (handed _ (traces_in (shown_command c.args.command.now)) ps qs (asked c.in-Ok-Some.files.items) c.traces_of.ensures
    (ap (λ l. map (λ p. (goal.Probe-dyn g (p.vtable, p.value)).state p.value) l) c.deref.ensures.value) (rw c.in-Ok-Some.field-0-is at c.in-Ok-Some.ensures))

pub returns-in-Ok-Some-clause-does : goal.returns-in-Ok-Some-clause-does
returns-in-Ok-Some-clause-does g c =
    let ps : List ProbeState = map (λ p. (goal.Probe-dyn g (p.vtable, p.value)).state p.value) c.args.probes.now.items in
    let qs : List ProbeState = map (λ p. (goal.Probe-dyn g (p.vtable, p.value)).state p.value) c.deref.result.now in
    does_asked (shown_command c.args.command.now) (world (g.S.Shelf.told c.args.shelf.now) (g.O.Sink.told c.args.out.now)
    (λ p. (goal.Probe-dyn g (p.vtable, p.value)).state p.value) c.args.probes.now.items)
    (world (g.S.Shelf.told c.carry_out.new.shelf) (g.O.Sink.told c.carry_out.new.out) (λ p. (goal.Probe-dyn g (p.vtable, p.value)).state p.value)
    c.carry_out.new.probes.items) (asked c.deref-in-Ok-Some.result.now)
    (subst (λ l. AreAskedFor (traces_in (shown_command c.args.command.now)) (asked l) ps) (sym c.deref-in-Ok-Some.ensures.value)
    (handed _ (traces_in (shown_command c.args.command.now)) ps qs (asked c.in-Ok-Some.files.items) c.traces_of.ensures
    (ap (λ l. map (λ p. (goal.Probe-dyn g (p.vtable, p.value)).state p.value) l) c.deref.ensures.value) (rw c.in-Ok-Some.field-0-is at c.in-Ok-Some.ensures)))
    c.carry_out.result c.carry_out.ensures.does

pub returns-in-Ok-Some-clause-spares : goal.returns-in-Ok-Some-clause-spares
returns-in-Ok-Some-clause-spares g c =
    let ps : List ProbeState = map (λ p. (goal.Probe-dyn g (p.vtable, p.value)).state p.value) c.args.probes.now.items in
    let qs : List ProbeState = map (λ p. (goal.Probe-dyn g (p.vtable, p.value)).state p.value) c.deref.result.now in
    spares_asked (shown_command c.args.command.now) (world (g.S.Shelf.told c.args.shelf.now) (g.O.Sink.told c.args.out.now)
    (λ p. (goal.Probe-dyn g (p.vtable, p.value)).state p.value) c.args.probes.now.items)
    (world (g.S.Shelf.told c.carry_out.new.shelf) (g.O.Sink.told c.carry_out.new.out) (λ p. (goal.Probe-dyn g (p.vtable, p.value)).state p.value)
    c.carry_out.new.probes.items) (asked c.deref-in-Ok-Some.result.now)
    (subst (λ l. AreAskedFor (traces_in (shown_command c.args.command.now)) (asked l) ps) (sym c.deref-in-Ok-Some.ensures.value)
    (handed _ (traces_in (shown_command c.args.command.now)) ps qs (asked c.in-Ok-Some.files.items) c.traces_of.ensures
    (ap (λ l. map (λ p. (goal.Probe-dyn g (p.vtable, p.value)).state p.value) l) c.deref.ensures.value) (rw c.in-Ok-Some.field-0-is at c.in-Ok-Some.ensures)))
    c.carry_out.ensures.spares

pub returns-in-Ok-Some-clause-attends : goal.returns-in-Ok-Some-clause-attends
returns-in-Ok-Some-clause-attends g c =
    let ps : List ProbeState = map (λ p. (goal.Probe-dyn g (p.vtable, p.value)).state p.value) c.args.probes.now.items in
    let qs : List ProbeState = map (λ p. (goal.Probe-dyn g (p.vtable, p.value)).state p.value) c.deref.result.now in
    let rs : List ProbeState = map (λ p. (goal.Probe-dyn g (p.vtable, p.value)).state p.value) c.carry_out.new.probes.items in
    attends_asked (shown_command c.args.command.now) (g.S.Shelf.told c.args.shelf.now).holds c.args.probes.now.items c.carry_out.new.probes.items ps rs
    (asked c.deref-in-Ok-Some.result.now)
    (subst (λ l. AreAskedFor (traces_in (shown_command c.args.command.now)) (asked l) ps) (sym c.deref-in-Ok-Some.ensures.value)
    (handed _ (traces_in (shown_command c.args.command.now)) ps qs (asked c.in-Ok-Some.files.items) c.traces_of.ensures
    (ap (λ l. map (λ p. (goal.Probe-dyn g (p.vtable, p.value)).state p.value) l) c.deref.ensures.value) (rw c.in-Ok-Some.field-0-is at c.in-Ok-Some.ensures)))
    c.carry_out.result c.carry_out.ensures.attends

pub returns-in-Ok-None-clause-does : goal.returns-in-Ok-None-clause-does
returns-in-Ok-None-clause-does g c =
    not_asked (shown_command c.args.command.now) (world (g.S.Shelf.told c.args.shelf.now) (g.O.Sink.told c.args.out.now) (λ p. (goal.Probe-dyn g
    (p.vtable, p.value)).state p.value) c.args.probes.now.items)
    (ap (λ t. have_probes t (kinds_of (map (λ p. (goal.Probe-dyn g (p.vtable, p.value)).state p.value) c.args.probes.now.items)))
    (sym c.traces_of.ensures) ∙ ap (λ l. have_probes (traces_given c.traces_of.result)
    (kinds_of (map (λ p. (goal.Probe-dyn g (p.vtable, p.value)).state p.value) l))) (sym c.deref.ensures.value) ∙
    (rw c.in-Ok-None.field-0-is at c.in-Ok-None.ensures))

pub returns-in-Ok-None-clause-attends : goal.returns-in-Ok-None-clause-attends
returns-in-Ok-None-clause-attends g c = λ e. refl

pub returns-in-Ok-None-clause-spares : goal.returns-in-Ok-None-clause-spares
returns-in-Ok-None-clause-spares g c = spares_none _ _ _

pub returns-in-Err-clause-does : goal.returns-in-Err-clause-does
returns-in-Err-clause-does g c = starved (inl (record { files = refl; out = refl }))

pub returns-in-Err-clause-attends : goal.returns-in-Err-clause-attends
returns-in-Err-clause-attends g c = λ e. refl

pub returns-in-Err-clause-spares : goal.returns-in-Err-clause-spares
returns-in-Err-clause-spares g c = spares_none _ _ _
