use Rattle.safl_unit.proofs.Common.{CheckedProgram, InEachCycle, IsChecked, Ports, SitePorts, on, slice_get_read}
use Rattle.std.proofs.Common.{◌≡◌, List, IfOk, length, refl, sym, subst, ◌∙◌, arith}
use Rattle.safl_lower.specs.Bodies.{CanLower, IsLowered}
use Rattle.safl_circuit.specs.Equations.{path}
use Rattle.safl_unit.specs.Outcomes.{AreOwnPorts}
use Rattle.safl_unit.proofs.equations.Lowered.{body_able, all_built, all_has}
use Rattle.safl_unit.proofs.bodies.body_of.Goals as goal

pub own_ports-requires-clause-checked : goal.own_ports-requires-clause-checked
own_ports-requires-clause-checked c = subst IsChecked (sym c.program-c.ensures.same) c.program-c.ensures.checked

pub lower-requires-clause-able : goal.lower-requires-clause-able
lower-requires-clause-able c =
    let d = c.args.p.now.checked in
    let P = c.args.p.now.choice in
    let same = c.program-c.ensures.same in
    let q : Ports = record { run = c.in_ok-run.run'; args = c.in_ok-args.args; sites = c.in_ok-sites.sites } in
    let b = c.requires.pins.bank.members_length in
    let l = c.requires.function in
    let runs = subst (λ (x : CheckedProgram). InEachCycle x.program P c.body_path.new.net c.args.pins.now
    (λ v r i. on v c.in_ok-run.run' ≡ path x.program r c.args.f)) same (c.in_ok-run.ensures.shows P) in
    let ports = subst (λ (x : CheckedProgram). AreOwnPorts x c.args.returns.now.ports.items c.args.f c.in_ok-sites.sites.items) same
    (subst (λ (xs : List SitePorts). AreOwnPorts c.program-c.result.now xs c.args.f c.in_ok-sites.sites.items) c.deref-2.ensures.value c.in_ok-sites.ensures) in
    subst (λ (x : CheckedProgram). CanLower x c.args.f c.body_path.new.net q) (sym same)
    (body_able d c.program-c.ensures.checked P c.args.f l c.args.net.now c.body_path.new.net c.args.pins.now c.args.returns.now q c.index.result.now
    c.in_ok-run.ensures.built c.requires.pins c.requires.returns c.in_ok-run.ensures.fits runs
    ports (slice_get_read c.args.pins.now.bank.members.items (length c.args.pins.now.bank.members.items) c.args.f c.index.result.now refl (omega (arith, b, l)) c.index.ensures)
    (c.in_ok-args.ensures.items ∙ c.deref.ensures.value)
    c.requires.room.room)

pub returns-clause-built : goal.returns-clause-built
returns-clause-built c =
    let d = c.args.p.now.checked in
    let P = c.args.p.now.choice in
    let same = c.program-c.ensures.same in
    let q : Ports = record { run = c.in_ok-run.run'; args = c.in_ok-args.args; sites = c.in_ok-sites.sites } in
    let b = c.requires.pins.bank.members_length in
    let l = c.requires.function in
    let runs = subst (λ (x : CheckedProgram). InEachCycle x.program P c.body_path.new.net c.args.pins.now
    (λ v r i. on v c.in_ok-run.run' ≡ path x.program r c.args.f)) same (c.in_ok-run.ensures.shows P) in
    let ports = subst (λ (x : CheckedProgram). AreOwnPorts x c.args.returns.now.ports.items c.args.f c.in_ok-sites.sites.items) same
    (subst (λ (xs : List SitePorts). AreOwnPorts c.program-c.result.now xs c.args.f c.in_ok-sites.sites.items) c.deref-2.ensures.value c.in_ok-sites.ensures) in
    all_built d c.program-c.ensures.checked P c.args.f l c.args.net.now c.body_path.new.net c.args.pins.now c.args.returns.now q c.index.result.now
    c.in_ok-run.ensures.built c.requires.pins c.requires.returns c.in_ok-run.ensures.fits runs
    ports (slice_get_read c.args.pins.now.bank.members.items (length c.args.pins.now.bank.members.items) c.args.f c.index.result.now refl (omega (arith, b, l)) c.index.ensures)
    (c.in_ok-args.ensures.items ∙ c.deref.ensures.value)
    c.lower.new.net c.lower.result (subst (λ (x : CheckedProgram). IfOk c.lower.result (λ y. IsLowered x c.args.f q c.body_path.new.net c.lower.new.net y)) same c.lower.ensures.done)

pub returns-clause-done : goal.returns-clause-done
returns-clause-done c =
    let d = c.args.p.now.checked in
    let P = c.args.p.now.choice in
    let same = c.program-c.ensures.same in
    let q : Ports = record { run = c.in_ok-run.run'; args = c.in_ok-args.args; sites = c.in_ok-sites.sites } in
    let b = c.requires.pins.bank.members_length in
    let l = c.requires.function in
    let runs = subst (λ (x : CheckedProgram). InEachCycle x.program P c.body_path.new.net c.args.pins.now
    (λ v r i. on v c.in_ok-run.run' ≡ path x.program r c.args.f)) same (c.in_ok-run.ensures.shows P) in
    let ports = subst (λ (x : CheckedProgram). AreOwnPorts x c.args.returns.now.ports.items c.args.f c.in_ok-sites.sites.items) same
    (subst (λ (xs : List SitePorts). AreOwnPorts c.program-c.result.now xs c.args.f c.in_ok-sites.sites.items) c.deref-2.ensures.value c.in_ok-sites.ensures) in
    all_has d c.program-c.ensures.checked P c.args.f l c.args.net.now c.body_path.new.net c.args.pins.now c.args.returns.now q c.index.result.now
    c.in_ok-run.ensures.built c.requires.pins c.requires.returns c.in_ok-run.ensures.fits runs
    ports (slice_get_read c.args.pins.now.bank.members.items (length c.args.pins.now.bank.members.items) c.args.f c.index.result.now refl (omega (arith, b, l)) c.index.ensures)
    (c.in_ok-args.ensures.items ∙ c.deref.ensures.value)
    c.lower.new.net c.lower.result (subst (λ (x : CheckedProgram). IfOk c.lower.result (λ y. IsLowered x c.args.f q c.body_path.new.net c.lower.new.net y)) same c.lower.ensures.done)
