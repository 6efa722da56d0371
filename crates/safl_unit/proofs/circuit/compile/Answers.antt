use Rattle.safl_unit.proofs.Common.{Grows, HasGoes, Netlist, ap, arith, builds_on, length, subst, sym, ◌*◌, ◌+◌}
use Rattle.safl_term.specs.Sizes.{body_nodes}
use Rattle.safl_unit.proofs.equations.Keeping.{pins_kept, bank_kept, returns_kept, outcomes_kept, goes_kept, next_kept}
use Rattle.safl_unit.proofs.layout.Counting.{declared_few, room_for}
use Rattle.safl_unit.proofs.assembly.Scheming.{finished_scheme, finished_plan, finished_count}
use Rattle.safl_unit.proofs.assembly.Arranging.{finished_whole, finished_order}
use Rattle.safl_unit.proofs.circuit.compile.Goals as goal

pub returns-requires-clause-room : goal.returns-requires-clause-room
returns-requires-clause-room c =
    let C = c.args.p.now.program in
    let P = c.args.p.now.choice in
    let pins = c.in_ok-declared.declared.pins in
    let h = c.in_ok-declared.ensures.checked in
    let d = c.in_ok-declared.ensures.net in
    let f = h.limits.functions in
    let s = h.limits.sites in
    let m = h.limits.nodes in
    record {
      tidy = c.in_ok-declared.ensures.tidy;
      room =
          room_for c.args.p.now.checked h P c.in_ok-declared.declared.net c.in_ok-declared.declared.net 0 (5 * C.sites) d (omega arith) (omega (arith, f, s));
    }

pub lower_bodies-requires-clause-pins : goal.lower_bodies-requires-clause-pins
lower_bodies-requires-clause-pins c =
    let C = c.args.p.now.program in
    let P = c.args.p.now.choice in
    let pins = c.in_ok-declared.declared.pins in
    let h = c.in_ok-declared.ensures.checked in
    let d = c.in_ok-declared.ensures.net in
    pins_kept c.in_ok-shown.ensures.built c.in_ok-declared.ensures.fits

pub lower_bodies-requires-clause-room : goal.lower_bodies-requires-clause-room
lower_bodies-requires-clause-room c =
    let C = c.args.p.now.program in
    let P = c.args.p.now.choice in
    let pins = c.in_ok-declared.declared.pins in
    let h = c.in_ok-declared.ensures.checked in
    let d = c.in_ok-declared.ensures.net in
    let f = h.limits.functions in
    let s = h.limits.sites in
    let m = h.limits.nodes in
    record {
      tidy = c.in_ok-shown.ensures.built.tidy;
      room =
          room_for c.args.p.now.checked h P c.in_ok-declared.declared.net c.returns.new.net (5 * C.sites) (33 * body_nodes C C.functions + 33 * C.functions)
          d (c.in_ok-shown.ensures.built).count (omega (arith, f, s, m));
    }

pub grants-requires-clause-pins : goal.grants-requires-clause-pins
grants-requires-clause-pins c =
    let C = c.args.p.now.program in
    let P = c.args.p.now.choice in
    let pins = c.in_ok-declared.declared.pins in
    let h = c.in_ok-declared.ensures.checked in
    let d = c.in_ok-declared.ensures.net in
    pins_kept (builds_on c.in_ok-shown.ensures.built c.in_ok-outcomes.ensures.built) c.in_ok-declared.ensures.fits

pub grants-requires-clause-room : goal.grants-requires-clause-room
grants-requires-clause-room c =
    let C = c.args.p.now.program in
    let P = c.args.p.now.choice in
    let pins = c.in_ok-declared.declared.pins in
    let h = c.in_ok-declared.ensures.checked in
    let d = c.in_ok-declared.ensures.net in
    let f = h.limits.functions in
    let s = h.limits.sites in
    let m = h.limits.nodes in
    record {
      tidy = c.in_ok-outcomes.ensures.built.tidy;
      room =
          room_for c.args.p.now.checked h P c.in_ok-declared.declared.net c.lower_bodies.new.net
          (5 * C.sites + (33 * body_nodes C C.functions + 33 * C.functions)) (5 * C.sites + 2) d
          (builds_on c.in_ok-shown.ensures.built c.in_ok-outcomes.ensures.built).count (omega (arith, f, s, m));
    }

pub edge-requires-clause-settled : goal.edge-requires-clause-settled
edge-requires-clause-settled c =
    (builds_on (builds_on c.in_ok-shown.ensures.built c.in_ok-outcomes.ensures.built) c.in_ok-goes.ensures.built).settles.settled c.in_ok-declared.ensures.settled

pub edge-requires-clause-pins : goal.edge-requires-clause-pins
edge-requires-clause-pins c =
    let C = c.args.p.now.program in
    let P = c.args.p.now.choice in
    let pins = c.in_ok-declared.declared.pins in
    let h = c.in_ok-declared.ensures.checked in
    let d = c.in_ok-declared.ensures.net in
    pins_kept (builds_on (builds_on c.in_ok-shown.ensures.built c.in_ok-outcomes.ensures.built) (c.in_ok-goes.ensures.built)) c.in_ok-declared.ensures.fits

pub edge-requires-clause-returns : goal.edge-requires-clause-returns
edge-requires-clause-returns c =
    let C = c.args.p.now.program in
    let P = c.args.p.now.choice in
    let pins = c.in_ok-declared.declared.pins in
    let h = c.in_ok-declared.ensures.checked in
    let d = c.in_ok-declared.ensures.net in
    returns_kept (builds_on c.in_ok-outcomes.ensures.built c.in_ok-goes.ensures.built) c.in_ok-shown.ensures.done

pub edge-requires-clause-outcomes : goal.edge-requires-clause-outcomes
edge-requires-clause-outcomes c =
    let C = c.args.p.now.program in
    let P = c.args.p.now.choice in
    let pins = c.in_ok-declared.declared.pins in
    let h = c.in_ok-declared.ensures.checked in
    let d = c.in_ok-declared.ensures.net in
    outcomes_kept c.in_ok-goes.ensures.built c.in_ok-outcomes.ensures.done

pub edge-requires-clause-goes : goal.edge-requires-clause-goes
edge-requires-clause-goes c =
    subst (λ xs. HasGoes c.args.p.now.program c.args.p.now.choice c.grants.new.net c.in_ok-declared.declared.pins xs) (sym c.as_slice-starts.ensures.value) c.in_ok-goes.ensures.done

pub edge-requires-clause-room : goal.edge-requires-clause-room
edge-requires-clause-room c =
    let C = c.args.p.now.program in
    let P = c.args.p.now.choice in
    let pins = c.in_ok-declared.declared.pins in
    let h = c.in_ok-declared.ensures.checked in
    let d = c.in_ok-declared.ensures.net in
    let f = h.limits.functions in
    let s = h.limits.sites in
    let m = h.limits.nodes in
    record {
      tidy = c.in_ok-goes.ensures.built.tidy;
      room =
          room_for c.args.p.now.checked h P c.in_ok-declared.declared.net c.grants.new.net
          ((5 * C.sites + (33 * body_nodes C C.functions + 33 * C.functions)) + (5 * C.sites + 2)) (1024 * C.functions + 32 * C.sites + 32) d
          (builds_on (builds_on c.in_ok-shown.ensures.built c.in_ok-outcomes.ensures.built) (c.in_ok-goes.ensures.built)).count (omega (arith, f, s, m));
    }

pub controls-requires : goal.controls-requires
controls-requires c =
    let C = c.args.p.now.program in
    let P = c.args.p.now.choice in
    let pins = c.in_ok-declared.declared.pins in
    let h = c.in_ok-declared.ensures.checked in
    let d = c.in_ok-declared.ensures.net in
    let f = h.limits.functions in
    let s = h.limits.sites in
    let m = h.limits.nodes in
    record {
      room = record {
        tidy = c.in_ok-next.ensures.built.tidy;
        room =
            room_for c.args.p.now.checked h P c.in_ok-declared.declared.net c.edge.new.net
            (((5 * C.sites + (33 * body_nodes C C.functions + 33 * C.functions)) + (5 * C.sites + 2)) + (1024 * C.functions + 32 * C.sites + 32)) (1) d
            (builds_on (builds_on (builds_on c.in_ok-shown.ensures.built c.in_ok-outcomes.ensures.built) (c.in_ok-goes.ensures.built))
            (c.in_ok-next.ensures.built)).count (omega (arith, f, s, m));
      };
    }

pub finish-requires-clause-room : goal.finish-requires-clause-room
finish-requires-clause-room c =
    let C = c.args.p.now.program in
    let P = c.args.p.now.choice in
    let h = c.in_ok-declared.ensures.checked in
    let d = c.in_ok-declared.ensures.net in
    let f = h.limits.functions in
    let s = h.limits.sites in
    let m = h.limits.nodes in
    record {
      tidy = c.in_ok-copied.ensures.built.tidy;
      room =
          room_for c.args.p.now.checked h P c.in_ok-declared.declared.net c.controls.new.net
          ((((5 * C.sites + (33 * body_nodes C C.functions + 33 * C.functions)) + (5 * C.sites + 2)) + (1024 * C.functions + 32 * C.sites + 32)) + 1) (0)
          d (builds_on (builds_on (builds_on (builds_on c.in_ok-shown.ensures.built c.in_ok-outcomes.ensures.built) (c.in_ok-goes.ensures.built))
          (c.in_ok-next.ensures.built)) (c.in_ok-copied.ensures.built)).count (omega (arith, f, s, m));
    }

pub finish-requires-clause-grown : goal.finish-requires-clause-grown
finish-requires-clause-grown c =
    let C = c.args.p.now.program in
    let P = c.args.p.now.choice in
    let pins = c.in_ok-declared.declared.pins in
    let h = c.in_ok-declared.ensures.checked in
    let d = c.in_ok-declared.ensures.net in
    subst (λ n. Grows n c.controls.new.net) d (builds_on (builds_on
    (builds_on (builds_on c.in_ok-shown.ensures.built c.in_ok-outcomes.ensures.built) (c.in_ok-goes.ensures.built)) (c.in_ok-next.ensures.built))
    (c.in_ok-copied.ensures.built)).grows

pub finish-requires-clause-settled : goal.finish-requires-clause-settled
finish-requires-clause-settled c =
    let C = c.args.p.now.program in
    let P = c.args.p.now.choice in
    let pins = c.in_ok-declared.declared.pins in
    let h = c.in_ok-declared.ensures.checked in
    let d = c.in_ok-declared.ensures.net in
    (builds_on (builds_on (builds_on (builds_on c.in_ok-shown.ensures.built c.in_ok-outcomes.ensures.built) (c.in_ok-goes.ensures.built))
    (c.in_ok-next.ensures.built)) (c.in_ok-copied.ensures.built)).settles.settled c.in_ok-declared.ensures.settled

pub finish-requires-clause-fits : goal.finish-requires-clause-fits
finish-requires-clause-fits c =
    let C = c.args.p.now.program in
    let P = c.args.p.now.choice in
    let pins = c.in_ok-declared.declared.pins in
    let h = c.in_ok-declared.ensures.checked in
    let d = c.in_ok-declared.ensures.net in
    pins_kept (builds_on (builds_on (builds_on (builds_on c.in_ok-shown.ensures.built c.in_ok-outcomes.ensures.built) (c.in_ok-goes.ensures.built))
    (c.in_ok-next.ensures.built)) (c.in_ok-copied.ensures.built)) c.in_ok-declared.ensures.fits

pub finish-requires-clause-next : goal.finish-requires-clause-next
finish-requires-clause-next c =
    let C = c.args.p.now.program in
    let P = c.args.p.now.choice in
    let pins = c.in_ok-declared.declared.pins in
    let h = c.in_ok-declared.ensures.checked in
    let d = c.in_ok-declared.ensures.net in
    bank_kept c.in_ok-copied.ensures.built c.in_ok-next.ensures.done.fits

pub finish-requires-clause-controls : goal.finish-requires-clause-controls
finish-requires-clause-controls c =
    let C = c.args.p.now.program in
    let P = c.args.p.now.choice in
    let pins = c.in_ok-declared.declared.pins in
    let h = c.in_ok-declared.ensures.checked in
    let d = c.in_ok-declared.ensures.net in
    (c.in_ok-copied.ensures.done C P pins
    (returns_kept (builds_on c.in_ok-outcomes.ensures.built (builds_on c.in_ok-goes.ensures.built c.in_ok-next.ensures.built)) c.in_ok-shown.ensures.done)
    (outcomes_kept (builds_on c.in_ok-goes.ensures.built c.in_ok-next.ensures.built) c.in_ok-outcomes.ensures.done)
    (goes_kept c.in_ok-next.ensures.built (subst (λ xs. HasGoes C P c.grants.new.net pins xs) (sym c.as_slice-starts.ensures.value) c.in_ok-goes.ensures.done))).fits

pub returns-clause-scheme : goal.returns-clause-scheme
returns-clause-scheme c =
    let C = c.args.p.now.program in
    let P = c.args.p.now.choice in
    let pins = c.in_ok-declared.declared.pins in
    let h = c.in_ok-declared.ensures.checked in
    let d = c.in_ok-declared.ensures.net in
    finished_scheme c.args.p.now.checked h P c.controls.new.net c.finish.new.net pins c.in_ok-next.next c.in_ok-copied.copied
    c.signals-signals.ensures.netlist (subst (λ n. Grows n c.controls.new.net) d
    (builds_on (builds_on (builds_on (builds_on c.in_ok-shown.ensures.built c.in_ok-outcomes.ensures.built) (c.in_ok-goes.ensures.built))
    (c.in_ok-next.ensures.built)) (c.in_ok-copied.ensures.built)).grows) c.in_ok-declared.ensures.pins
    (pins_kept (builds_on (builds_on (builds_on (builds_on c.in_ok-shown.ensures.built c.in_ok-outcomes.ensures.built)
    (c.in_ok-goes.ensures.built)) (c.in_ok-next.ensures.built)) (c.in_ok-copied.ensures.built)) c.in_ok-declared.ensures.fits)
    (next_kept c.in_ok-copied.ensures.built c.in_ok-next.ensures.done) (c.in_ok-copied.ensures.done C P pins
    (returns_kept (builds_on c.in_ok-outcomes.ensures.built (builds_on c.in_ok-goes.ensures.built c.in_ok-next.ensures.built)) c.in_ok-shown.ensures.done)
    (outcomes_kept (builds_on c.in_ok-goes.ensures.built c.in_ok-next.ensures.built) c.in_ok-outcomes.ensures.done)
    (goes_kept c.in_ok-next.ensures.built (subst (λ xs. HasGoes C P c.grants.new.net pins xs) (sym c.as_slice-starts.ensures.value) c.in_ok-goes.ensures.done))) c.in_ok-finish.ensures.done

pub returns-clause-plan : goal.returns-clause-plan
returns-clause-plan c =
    let C = c.args.p.now.program in
    let P = c.args.p.now.choice in
    let pins = c.in_ok-declared.declared.pins in
    let h = c.in_ok-declared.ensures.checked in
    let d = c.in_ok-declared.ensures.net in
    finished_plan c.args.p.now.checked h P c.controls.new.net c.finish.new.net pins c.in_ok-next.next c.in_ok-copied.copied
    c.signals-signals.ensures.netlist (subst (λ n. Grows n c.controls.new.net) d
    (builds_on (builds_on (builds_on (builds_on c.in_ok-shown.ensures.built c.in_ok-outcomes.ensures.built) (c.in_ok-goes.ensures.built))
    (c.in_ok-next.ensures.built)) (c.in_ok-copied.ensures.built)).grows) c.in_ok-declared.ensures.pins
    (pins_kept (builds_on (builds_on (builds_on (builds_on c.in_ok-shown.ensures.built c.in_ok-outcomes.ensures.built)
    (c.in_ok-goes.ensures.built)) (c.in_ok-next.ensures.built)) (c.in_ok-copied.ensures.built)) c.in_ok-declared.ensures.fits)
    (next_kept c.in_ok-copied.ensures.built c.in_ok-next.ensures.done) (c.in_ok-copied.ensures.done C P pins
    (returns_kept (builds_on c.in_ok-outcomes.ensures.built (builds_on c.in_ok-goes.ensures.built c.in_ok-next.ensures.built)) c.in_ok-shown.ensures.done)
    (outcomes_kept (builds_on c.in_ok-goes.ensures.built c.in_ok-next.ensures.built) c.in_ok-outcomes.ensures.done)
    (goes_kept c.in_ok-next.ensures.built (subst (λ xs. HasGoes C P c.grants.new.net pins xs) (sym c.as_slice-starts.ensures.value) c.in_ok-goes.ensures.done))) c.in_ok-finish.ensures.done

pub returns-clause-circuit : goal.returns-clause-circuit
returns-clause-circuit c =
    let C = c.args.p.now.program in
    let P = c.args.p.now.choice in
    let pins = c.in_ok-declared.declared.pins in
    let h = c.in_ok-declared.ensures.checked in
    let d = c.in_ok-declared.ensures.net in
    c.circuit_law.ensures C c.args.p.now.names P c.finish.new.net h.formed (c.plan_law.ensures C P.arbiter P.kept c.in_ok-declared.ensures.plan)
    (finished_scheme c.args.p.now.checked h P c.controls.new.net c.finish.new.net pins c.in_ok-next.next c.in_ok-copied.copied
    c.signals-signals.ensures.netlist (subst (λ n. Grows n c.controls.new.net) d
    (builds_on (builds_on (builds_on (builds_on c.in_ok-shown.ensures.built c.in_ok-outcomes.ensures.built) (c.in_ok-goes.ensures.built))
    (c.in_ok-next.ensures.built)) (c.in_ok-copied.ensures.built)).grows) c.in_ok-declared.ensures.pins
    (pins_kept (builds_on (builds_on (builds_on (builds_on c.in_ok-shown.ensures.built c.in_ok-outcomes.ensures.built)
    (c.in_ok-goes.ensures.built)) (c.in_ok-next.ensures.built)) (c.in_ok-copied.ensures.built)) c.in_ok-declared.ensures.fits)
    (next_kept c.in_ok-copied.ensures.built c.in_ok-next.ensures.done) (c.in_ok-copied.ensures.done C P pins
    (returns_kept (builds_on c.in_ok-outcomes.ensures.built (builds_on c.in_ok-goes.ensures.built c.in_ok-next.ensures.built)) c.in_ok-shown.ensures.done)
    (outcomes_kept (builds_on c.in_ok-goes.ensures.built c.in_ok-next.ensures.built) c.in_ok-outcomes.ensures.done)
    (goes_kept c.in_ok-next.ensures.built (subst (λ xs. HasGoes C P c.grants.new.net pins xs) (sym c.as_slice-starts.ensures.value) c.in_ok-goes.ensures.done))) c.in_ok-finish.ensures.done)

pub returns-clause-whole : goal.returns-clause-whole
returns-clause-whole c =
    let C = c.args.p.now.program in
    let D = c.args.p.now.names in
    let P = c.args.p.now.choice in
    let pins = c.in_ok-declared.declared.pins in
    finished_whole C D P pins c.in_ok-next.next c.in_ok-copied.copied c.controls.new.net c.finish.new.net c.in_ok-finish.ensures.done c.signals-signals.ensures.netlist (returns-clause-scheme c)

pub returns-clause-in_order : goal.returns-clause-in_order
returns-clause-in_order c =
    let C = c.args.p.now.program in
    let D = c.args.p.now.names in
    let P = c.args.p.now.choice in
    let pins = c.in_ok-declared.declared.pins in
    let d = c.in_ok-declared.ensures.net in
    finished_order C D P pins c.in_ok-next.next c.in_ok-copied.copied c.controls.new.net c.finish.new.net c.in_ok-finish.ensures.done
    (subst (λ n. Grows n c.controls.new.net) d (builds_on (builds_on
    (builds_on (builds_on c.in_ok-shown.ensures.built c.in_ok-outcomes.ensures.built) (c.in_ok-goes.ensures.built)) (c.in_ok-next.ensures.built))
    (c.in_ok-copied.ensures.built)).grows)

pub returns-clause-acyclic : goal.returns-clause-acyclic
returns-clause-acyclic c = c.in_ok-finish.ensures.done.acyclic

pub returns-clause-count : goal.returns-clause-count
returns-clause-count c =
    let C = c.args.p.now.program in
    let P = c.args.p.now.choice in
    let pins = c.in_ok-declared.declared.pins in
    let h = c.in_ok-declared.ensures.checked in
    let d = c.in_ok-declared.ensures.net in
    let f = h.limits.functions in
    let s = h.limits.sites in
    let m = h.limits.nodes in
    let n = finished_count c.args.p.now.checked h P c.controls.new.net c.finish.new.net pins c.in_ok-next.next c.in_ok-copied.copied
    c.signals-signals.ensures.netlist (subst (λ n. Grows n c.controls.new.net) d
    (builds_on (builds_on (builds_on (builds_on c.in_ok-shown.ensures.built c.in_ok-outcomes.ensures.built) (c.in_ok-goes.ensures.built))
    (c.in_ok-next.ensures.built)) (c.in_ok-copied.ensures.built)).grows) c.in_ok-declared.ensures.pins
    (pins_kept (builds_on (builds_on (builds_on (builds_on c.in_ok-shown.ensures.built c.in_ok-outcomes.ensures.built)
    (c.in_ok-goes.ensures.built)) (c.in_ok-next.ensures.built)) (c.in_ok-copied.ensures.built)) c.in_ok-declared.ensures.fits)
    (next_kept c.in_ok-copied.ensures.built c.in_ok-next.ensures.done) (c.in_ok-copied.ensures.done C P pins
    (returns_kept (builds_on c.in_ok-outcomes.ensures.built (builds_on c.in_ok-goes.ensures.built c.in_ok-next.ensures.built)) c.in_ok-shown.ensures.done)
    (outcomes_kept (builds_on c.in_ok-goes.ensures.built c.in_ok-next.ensures.built) c.in_ok-outcomes.ensures.done)
    (goes_kept c.in_ok-next.ensures.built (subst (λ xs. HasGoes C P c.grants.new.net pins xs) (sym c.as_slice-starts.ensures.value) c.in_ok-goes.ensures.done))) c.in_ok-finish.ensures.done in
    let few = (builds_on (builds_on (builds_on (builds_on c.in_ok-shown.ensures.built c.in_ok-outcomes.ensures.built) (c.in_ok-goes.ensures.built))
    (c.in_ok-next.ensures.built)) (c.in_ok-copied.ensures.built)).count in
    let first = declared_few c.args.p.now.checked h P in
    let e = ap (λ (x : Netlist). length x.signals) d in
    omega (arith, f, s, m, n, few, first, e)
