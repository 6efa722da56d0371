use Rattle.safl_probe.proofs.Common.{Asked, Files, HasWidths, IsNetlist, Made, Netlist, OldOrPart, Word, after_frames, asked}
use Rattle.safl_probe.proofs.Common.{err_from_is_err_and, on_err_always, probe_at, reads_same, reads_then, with_items_is}
use Rattle.std.proofs.Common.{◌≡◌, List, map, slice_index, Vec, Global, Option, refl, sym, ap, subst, ◌∙◌, arith}
use Rattle.safl_net.specs.Valuations.{Valuation, IsAcyclic, reset_state}
use Rattle.safl_run.specs.Calls.{cycles_of}
use Rattle.safl_run.specs.Steps.{IsCalled}
use Rattle.safl_run.proofs.OneAnswer.{outcome, answers_along, from_reset}
use Rattle.safl_probe.specs.Probing.{ProbeState, IsWaiting, Tells, begun, ended}
use Rattle.safl_probe.specs.Runs.{until_done}
use Rattle.safl_probe.proofs.Ends.{opened_whole, opened_part, told_begun, closed_whole, closed_part, can_finish}
use Rattle.safl_probe.proofs.Frames.{ready, all_untouched, tells_frames}
use Rattle.safl_probe.proofs.Growing.{strays_none}
use Rattle.safl_probe.proofs.Rounds.{kept_then, kept_same, there_then, strays_then}
use Rattle.safl_probe.proofs.Stops.{stopped_later, lent_probes, lent_stopped, lent_told, lent_traces}
use Rattle.safl_probe.proofs.Whole.{going_begins, watched_are, traced, end_torn, run_torn, begin_torn}
use Rattle.safl_probe.proofs.driving.drive.Goals as goal

-- ---- the calls

pub tell_all-requires : goal.tell_all-requires
tell_all-requires g c = record {
  files = c.requires.probes.files ∙ sym (let a = c.as_mut_slice-probes.ensures.len in omega (arith, a));
  can = λ i name k.
      subst (λ l. IsWaiting (probe_at (map (λ p. (goal.Probe-dyn g (p.vtable, p.value)).state p.value) l) i)) (sym c.as_mut_slice-probes.ensures.value)
      (c.requires.probes.waiting i name k);
}

pub watch-requires-clause-called : goal.watch-requires-clause-called
watch-requires-clause-called g c =
    (c.args.args.now, (subst (λ m. IsCalled m c.args.args.now c.take_arguments.new.harness) c.net-net.ensures c.take_arguments.ensures))

pub watch-requires-clause-ready : goal.watch-requires-clause-ready
watch-requires-clause-ready g c =
    let n : Netlist = c.args.sim.now.net in
    let names : Asked = asked c.args.files.now in
    let ps : List ProbeState = map (λ p. (goal.Probe-dyn g (p.vtable, p.value)).state p.value) c.as_mut_slice-probes.result.now in
    let qs : List ProbeState = map (λ p. (goal.Probe-dyn g (p.vtable, p.value)).state p.value) c.tell_all.new.probes in
    record {
      files = (let l = c.as_mut_slice-probes.ensures.len in let a = c.tell_all.auto.probes in let b = c.requires.probes.files in omega (arith, l, a, b));
      ready = λ i name k. ready n (probe_at ps i) (probe_at qs i) (told_begun c.net-net.result.now n c.net-net.ensures names ps qs c.in_ok-tell_all.ensures.told.tells i name k);
    }

pub watch-requires-clause-room : goal.watch-requires-clause-room
watch-requires-clause-room g c =
    subst (λ (v : Vec Word Global). HasWidths c.args.sim.now.net v.items) (sym c.in_ok-tell_all.ensures.same_frame) c.in_ok-room.ensures

pub tell_all-requires-2 : goal.tell_all-requires-2
tell_all-requires-2 g c =
    let n : Netlist = c.args.sim.now.net in
    let names : Asked = asked c.args.files.now in
    let ps : List ProbeState = map (λ p. (goal.Probe-dyn g (p.vtable, p.value)).state p.value) c.as_mut_slice-probes.result.now in
    let qs : List ProbeState = map (λ p. (goal.Probe-dyn g (p.vtable, p.value)).state p.value) c.tell_all.new.probes in
    let rs : List ProbeState = map (λ p. (goal.Probe-dyn g (p.vtable, p.value)).state p.value) c.watch.new.probes in
    let d = c.in_ok-done.ensures.watched.watches c.args.args.now (subst (λ m. IsCalled m c.args.args.now c.take_arguments.new.harness) c.net-net.ensures c.take_arguments.ensures) in
    let frames : List Valuation = cycles_of n c.args.limit (slice_index c.args.sim.now.state) c.args.args.now c.in_ok-done.done (slice_index c.watch.new.sim.state) d.answers in
    record {
      files = (let l = c.as_mut_slice-probes.ensures.len in let a = c.tell_all.auto.probes in let b = c.watch.auto.probes in let f = c.requires.probes.files in omega (arith, l, a, b, f));
      can = λ i name k. can_finish n frames (probe_at ps i) (probe_at qs i) (probe_at rs i)
          (told_begun c.net-net.result.now n c.net-net.ensures names ps qs c.in_ok-tell_all.ensures.told.tells i name k) (d.shown.told i name k);
    }

-- ---- no memory for the schedule

pub returns-in_err-harness-clause-part : goal.returns-in_err-harness-clause-part
returns-in_err-harness-clause-part g c =
    on_err_always c.from_residual.result _ (λ vs r apart. all_untouched (asked c.args.files.now) _ _)

pub returns-in_err-harness-clause-probes : goal.returns-in_err-harness-clause-probes
returns-in_err-harness-clause-probes g c =
    kept_same (asked c.args.files.now) _ _

pub returns-in_err-harness-clause-stopped : goal.returns-in_err-harness-clause-stopped
returns-in_err-harness-clause-stopped g c =
    let p = err_from_is_err_and c.from_residual.result c.from_residual.ensures.1 in rw (p.1, p.2) tt

pub returns-in_err-harness-clause-shelf : goal.returns-in_err-harness-clause-shelf
returns-in_err-harness-clause-shelf g c =
    record { reads = reads_same _ _ refl; strays = strays_none _ _ }

-- ---- no memory for the room

pub returns-in_err-room-clause-part : goal.returns-in_err-room-clause-part
returns-in_err-room-clause-part g c =
    on_err_always c.from_residual-in_err-room.result _ (λ vs r apart. all_untouched (asked c.args.files.now) _ _)

pub returns-in_err-room-clause-probes : goal.returns-in_err-room-clause-probes
returns-in_err-room-clause-probes g c =
    kept_same (asked c.args.files.now) _ _

pub returns-in_err-room-clause-stopped : goal.returns-in_err-room-clause-stopped
returns-in_err-room-clause-stopped g c =
    let p = err_from_is_err_and c.from_residual-in_err-room.result c.from_residual-in_err-room.ensures.1 in rw (p.1, p.2) tt

pub returns-in_err-room-clause-shelf : goal.returns-in_err-room-clause-shelf
returns-in_err-room-clause-shelf g c =
    record { reads = reads_same _ _ refl; strays = strays_none _ _ }

-- ---- the beginning was torn

pub returns-in_err-tell_all-clause-part : goal.returns-in_err-tell_all-clause-part
returns-in_err-tell_all-clause-part g c =
    let n : Netlist = c.args.sim.now.net in
    let names : Asked = asked c.args.files.now in
    let ps : List ProbeState = map (λ p. (goal.Probe-dyn g (p.vtable, p.value)).state p.value) c.as_mut_slice-probes.result.now in
    let y : Option Files = (g.S.Shelf.told c.tell_all.new.shelf).holds in
    let back = with_items_is c.args.probes.now c.tell_all.new.probes (let l = c.as_mut_slice-probes.ensures.len in let a = c.tell_all.auto.probes in omega (arith, l, a)) in
    on_err_always c.from_residual-in_err-tell_all.result _
    (lent_traces _ (λ p. (goal.Probe-dyn g (p.vtable, p.value)).state p.value) _ _ _ _ c.as_mut_slice-probes.ensures.value back OldOrPart n c.args.args.now c.args.limit names _ y
    (λ vs r. begin_torn n names vs ps _ y (opened_part c.net-net.result.now n c.net-net.ensures names ps _ y c.in_err-tell_all.ensures.part.grown)))

pub returns-in_err-tell_all-clause-probes : goal.returns-in_err-tell_all-clause-probes
returns-in_err-tell_all-clause-probes g c =
    let back = with_items_is c.args.probes.now c.tell_all.new.probes (let l = c.as_mut_slice-probes.ensures.len in let a = c.tell_all.auto.probes in omega (arith, l, a)) in
    lent_probes _ (λ p. (goal.Probe-dyn g (p.vtable, p.value)).state p.value) _ _ _ _ c.as_mut_slice-probes.ensures.value back (asked c.args.files.now) c.in_err-tell_all.ensures.probes

pub returns-in_err-tell_all-clause-stopped : goal.returns-in_err-tell_all-clause-stopped
returns-in_err-tell_all-clause-stopped g c =
    let back = with_items_is c.args.probes.now c.tell_all.new.probes (let l = c.as_mut_slice-probes.ensures.len in let a = c.tell_all.auto.probes in omega (arith, l, a)) in
    let p = err_from_is_err_and c.from_residual-in_err-tell_all.result c.from_residual-in_err-tell_all.ensures.1 in
    rw (p.1, p.2) (lent_stopped _ (λ p. (goal.Probe-dyn g (p.vtable, p.value)).state p.value) _ _ _ _ c.as_mut_slice-probes.ensures.value back c.in_err-tell_all.field-0.0
    (asked c.args.files.now) _ _ c.in_err-tell_all.ensures.part.stopped)

pub returns-in_err-tell_all-clause-shelf : goal.returns-in_err-tell_all-clause-shelf
returns-in_err-tell_all-clause-shelf g c =
    record { reads = c.in_err-tell_all.ensures.reads; strays = c.in_err-tell_all.ensures.strays (λ i name k. tt) }

-- ---- the cycles were torn

pub returns-in_err-done-clause-part : goal.returns-in_err-done-clause-part
returns-in_err-done-clause-part g c =
    let n : Netlist = c.args.sim.now.net in
    let names : Asked = asked c.args.files.now in
    let ps : List ProbeState = map (λ p. (goal.Probe-dyn g (p.vtable, p.value)).state p.value) c.as_mut_slice-probes.result.now in
    let qs : List ProbeState = map (λ p. (goal.Probe-dyn g (p.vtable, p.value)).state p.value) c.tell_all.new.probes in
    let y : Option Files = (g.S.Shelf.told c.tell_all.new.shelf).holds in
    let back = with_items_is c.args.probes.now c.watch.new.probes
    (let l = c.as_mut_slice-probes.ensures.len in let a = c.watch.auto.probes in let b = c.tell_all.auto.probes in omega (arith, l, a, b)) in
    let b = c.in_err-done.ensures.broken.broken c.args.args.now (subst (λ m. IsCalled m c.args.args.now c.take_arguments.new.harness) c.net-net.ensures c.take_arguments.ensures) in
    on_err_always c.from_residual-in_err-done.result _
    (lent_traces _ (λ p. (goal.Probe-dyn g (p.vtable, p.value)).state p.value) _ _ _ _ c.as_mut_slice-probes.ensures.value back OldOrPart n c.args.args.now c.args.limit names _ _
    (λ vs r.
    let go = going_begins n c.args.args.now c.args.limit (subst (λ m. IsNetlist m) c.net-net.ensures c.in_ok-harness.ensures.made) c.requires.begins.whole
    (subst (λ m. IsAcyclic m) c.ordered.ensures c.net-ordered.ensures.acyclic) c.args.sim.now.state c.requires.begins.fresh b.frames vs b.call b.in_time b.off r in
    run_torn n names vs ps qs (told_begun c.net-net.result.now n c.net-net.ensures names ps qs c.in_ok-tell_all.ensures.told.tells) _ y b.frames go.0 _
    go.1 (opened_whole c.net-net.result.now n c.net-net.ensures names ps _ y c.in_ok-tell_all.ensures.told.grown) b.files))

pub returns-in_err-done-clause-probes : goal.returns-in_err-done-clause-probes
returns-in_err-done-clause-probes g c =
    let back = with_items_is c.args.probes.now c.watch.new.probes
    (let l = c.as_mut_slice-probes.ensures.len in let a = c.watch.auto.probes in let b = c.tell_all.auto.probes in omega (arith, l, a, b)) in
    lent_probes _ (λ p. (goal.Probe-dyn g (p.vtable, p.value)).state p.value) _ _ _ _ c.as_mut_slice-probes.ensures.value back (asked c.args.files.now)
    (kept_then (asked c.args.files.now) _ _ _ _ c.in_ok-tell_all.ensures.probes c.in_err-done.ensures.probes)

pub returns-in_err-done-clause-stopped : goal.returns-in_err-done-clause-stopped
returns-in_err-done-clause-stopped g c =
    let back = with_items_is c.args.probes.now c.watch.new.probes
    (let l = c.as_mut_slice-probes.ensures.len in let a = c.watch.auto.probes in let b = c.tell_all.auto.probes in omega (arith, l, a, b)) in
    let p = err_from_is_err_and c.from_residual-in_err-done.result c.from_residual-in_err-done.ensures.1 in
    rw (p.1, p.2)
    (lent_stopped _ (λ p. (goal.Probe-dyn g (p.vtable, p.value)).state p.value) _ _ _ _ c.as_mut_slice-probes.ensures.value back c.in_err-done.field-0.0 (asked c.args.files.now) _ _
    (stopped_later c.in_err-done.field-0.0 (asked c.args.files.now) _ _ _ _ _ _ c.in_ok-tell_all.ensures.probes.probes c.in_ok-tell_all.ensures.reads c.in_err-done.ensures.broken.stopped))

pub returns-in_err-done-clause-shelf : goal.returns-in_err-done-clause-shelf
returns-in_err-done-clause-shelf g c =
    record {
      reads = reads_then _ _ _ c.in_ok-tell_all.ensures.reads c.in_err-done.ensures.reads;
      strays = strays_then (asked c.args.files.now) _ _ _ _ _ (c.in_ok-tell_all.ensures.strays (λ i name k. tt)) (c.in_ok-tell_all.ensures.told.there (λ i name k. tt))
          c.in_err-done.ensures.strays;
    }

-- ---- the end was torn

pub returns-in_err-tell_all-2-clause-part : goal.returns-in_err-tell_all-2-clause-part
returns-in_err-tell_all-2-clause-part g c =
    let n : Netlist = c.args.sim.now.net in
    let names : Asked = asked c.args.files.now in
    let ps : List ProbeState = map (λ p. (goal.Probe-dyn g (p.vtable, p.value)).state p.value) c.as_mut_slice-probes.result.now in
    let qs : List ProbeState = map (λ p. (goal.Probe-dyn g (p.vtable, p.value)).state p.value) c.tell_all.new.probes in
    let rs : List ProbeState = map (λ p. (goal.Probe-dyn g (p.vtable, p.value)).state p.value) c.watch.new.probes in
    let y : Option Files = (g.S.Shelf.told c.tell_all.new.shelf).holds in
    let z : Option Files = (g.S.Shelf.told c.watch.new.shelf).holds in
    let w : Option Files = (g.S.Shelf.told c.tell_all-2.new.shelf).holds in
    let d = c.in_ok-done.ensures.watched.watches c.args.args.now (subst (λ m. IsCalled m c.args.args.now c.take_arguments.new.harness) c.net-net.ensures c.take_arguments.ensures) in
    let back = with_items_is c.args.probes.now c.tell_all-2.new.probes
    (let l = c.as_mut_slice-probes.ensures.len in let a = c.tell_all-2.auto.probes in let b = c.watch.auto.probes in let d = c.tell_all.auto.probes in omega (arith, l, a, b, d)) in
    on_err_always c.from_residual-in_err-tell_all-2.result _
    (lent_traces _ (λ p. (goal.Probe-dyn g (p.vtable, p.value)).state p.value) _ _ _ _ c.as_mut_slice-probes.ensures.value back OldOrPart n c.args.args.now c.args.limit names _ w
    (λ vs r.
    end_torn n names vs ps qs (told_begun c.net-net.result.now n c.net-net.ensures names ps qs c.in_ok-tell_all.ensures.told.tells) _ y _ rs z w
    (watched_are n c.args.args.now c.args.limit (subst (λ m. IsNetlist m) c.net-net.ensures c.in_ok-harness.ensures.made) c.requires.begins.whole
    (subst (λ m. IsAcyclic m) c.ordered.ensures c.net-ordered.ensures.acyclic) c.args.sim.now.state c.requires.begins.fresh _ _ d.answers vs r)
    (opened_whole c.net-net.result.now n c.net-net.ensures names ps _ y c.in_ok-tell_all.ensures.told.grown) d.shown (closed_part names rs z w c.in_err-tell_all-2.ensures.part.grown)))

pub returns-in_err-tell_all-2-clause-probes : goal.returns-in_err-tell_all-2-clause-probes
returns-in_err-tell_all-2-clause-probes g c =
    let back = with_items_is c.args.probes.now c.tell_all-2.new.probes
    (let l = c.as_mut_slice-probes.ensures.len in let a = c.tell_all-2.auto.probes in let b = c.watch.auto.probes in let d = c.tell_all.auto.probes in omega (arith, l, a, b, d)) in
    lent_probes _ (λ p. (goal.Probe-dyn g (p.vtable, p.value)).state p.value) _ _ _ _ c.as_mut_slice-probes.ensures.value back (asked c.args.files.now)
    (kept_then (asked c.args.files.now) _ _ _ _ c.in_ok-tell_all.ensures.probes (kept_then (asked c.args.files.now) _ _ _ _ c.in_ok-done.ensures.probes c.in_err-tell_all-2.ensures.probes))

pub returns-in_err-tell_all-2-clause-stopped : goal.returns-in_err-tell_all-2-clause-stopped
returns-in_err-tell_all-2-clause-stopped g c =
    let back = with_items_is c.args.probes.now c.tell_all-2.new.probes
    (let l = c.as_mut_slice-probes.ensures.len in let a = c.tell_all-2.auto.probes in let b = c.watch.auto.probes in let d = c.tell_all.auto.probes in omega (arith, l, a, b, d)) in
    let p = err_from_is_err_and c.from_residual-in_err-tell_all-2.result c.from_residual-in_err-tell_all-2.ensures.1 in
    let same = kept_then (asked c.args.files.now) _ _ _ _ c.in_ok-tell_all.ensures.probes c.in_ok-done.ensures.probes in
    let reads = reads_then _ _ _ c.in_ok-tell_all.ensures.reads c.in_ok-done.ensures.reads in
    rw (p.1, p.2)
    (lent_stopped _ (λ p. (goal.Probe-dyn g (p.vtable, p.value)).state p.value) _ _ _ _ c.as_mut_slice-probes.ensures.value back c.in_err-tell_all-2.field-0.0 (asked c.args.files.now) _ _
    (stopped_later c.in_err-tell_all-2.field-0.0 (asked c.args.files.now) _ _ _ _ _ _ same.probes reads c.in_err-tell_all-2.ensures.part.stopped))

pub returns-in_err-tell_all-2-clause-shelf : goal.returns-in_err-tell_all-2-clause-shelf
returns-in_err-tell_all-2-clause-shelf g c =
    let d = c.in_ok-done.ensures.watched.watches c.args.args.now (subst (λ m. IsCalled m c.args.args.now c.take_arguments.new.harness) c.net-net.ensures c.take_arguments.ensures) in
    let names : Asked = asked c.args.files.now in
    let there = c.in_ok-tell_all.ensures.told.there (λ i name k. tt) in
    let strays = c.in_ok-tell_all.ensures.strays (λ i name k. tt) in
    record {
      reads = reads_then _ _ _ c.in_ok-tell_all.ensures.reads (reads_then _ _ _ c.in_ok-done.ensures.reads c.in_err-tell_all-2.ensures.reads);
      strays = strays_then names _ _ _ _ _ (strays_then names _ _ _ _ _ strays there c.in_ok-done.ensures.strays) (there_then names _ _ _ there d.shown.there)
          c.in_err-tell_all-2.ensures.strays;
    }

-- ---- the run is whole

pub returns-clause-outcome : goal.returns-clause-outcome
returns-clause-outcome g c =
    let n : Netlist = c.args.sim.now.net in
    let after = slice_index c.watch.new.sim.state in
    let d = c.in_ok-done.ensures.watched.watches c.args.args.now (subst (λ m. IsCalled m c.args.args.now c.take_arguments.new.harness) c.net-net.ensures c.take_arguments.ensures) in
    outcome n (subst (λ m. IsNetlist m) c.net-net.ensures c.in_ok-harness.ensures.made) c.requires.begins.whole
    (subst (λ m. IsAcyclic m) c.ordered.ensures c.net-ordered.ensures.acyclic) c.args.args.now c.args.limit c.in_ok-done.done after
    (answers_along n c.args.limit (slice_index c.args.sim.now.state) (reset_state n) c.args.args.now c.in_ok-done.done after (from_reset n c.args.sim.now.state c.requires.begins.fresh)
    d.answers)

pub returns-clause-traced : goal.returns-clause-traced
returns-clause-traced g c =
    let n : Netlist = c.args.sim.now.net in
    let names : Asked = asked c.args.files.now in
    let ps : List ProbeState = map (λ p. (goal.Probe-dyn g (p.vtable, p.value)).state p.value) c.as_mut_slice-probes.result.now in
    let qs : List ProbeState = map (λ p. (goal.Probe-dyn g (p.vtable, p.value)).state p.value) c.tell_all.new.probes in
    let rs : List ProbeState = map (λ p. (goal.Probe-dyn g (p.vtable, p.value)).state p.value) c.watch.new.probes in
    let ws : List ProbeState = map (λ p. (goal.Probe-dyn g (p.vtable, p.value)).state p.value) c.tell_all-2.new.probes in
    let y : Option Files = (g.S.Shelf.told c.tell_all.new.shelf).holds in
    let z : Option Files = (g.S.Shelf.told c.watch.new.shelf).holds in
    let w : Option Files = (g.S.Shelf.told c.tell_all-2.new.shelf).holds in
    let d = c.in_ok-done.ensures.watched.watches c.args.args.now (subst (λ m. IsCalled m c.args.args.now c.take_arguments.new.harness) c.net-net.ensures c.take_arguments.ensures) in
    let frames : List Valuation = cycles_of n c.args.limit (slice_index c.args.sim.now.state) c.args.args.now c.in_ok-done.done (slice_index c.watch.new.sim.state) d.answers in
    let back = with_items_is c.args.probes.now c.tell_all-2.new.probes
    (let l = c.as_mut_slice-probes.ensures.len in let a = c.tell_all-2.auto.probes in let b = c.watch.auto.probes in let d = c.tell_all.auto.probes in omega (arith, l, a, b, d)) in
    record {
      files =
          lent_traces _ (λ p. (goal.Probe-dyn g (p.vtable, p.value)).state p.value) _ _ _ _ c.as_mut_slice-probes.ensures.value back Made n c.args.args.now c.args.limit names _ w
          (λ vs r.
          traced n names vs ps qs (told_begun c.net-net.result.now n c.net-net.ensures names ps qs c.in_ok-tell_all.ensures.told.tells) _ y _ rs z w
          (watched_are n c.args.args.now c.args.limit (subst (λ m. IsNetlist m) c.net-net.ensures c.in_ok-harness.ensures.made) c.requires.begins.whole
          (subst (λ m. IsAcyclic m) c.ordered.ensures c.net-ordered.ensures.acyclic) c.args.sim.now.state c.requires.begins.fresh _ _ d.answers vs r)
          (opened_whole c.net-net.result.now n c.net-net.ensures names ps _ y c.in_ok-tell_all.ensures.told.grown) d.shown
          (closed_whole names rs z w c.in_ok-tell_all-2.ensures.told.grown));
      shown =
          lent_told _ (λ p. (goal.Probe-dyn g (p.vtable, p.value)).state p.value) _ _ _ _ c.as_mut_slice-probes.ensures.value back n c.args.args.now c.args.limit names
          (λ vs r i name k.
          let same : until_done n vs ≡ frames =
          watched_are n c.args.args.now c.args.limit (subst (λ m. IsNetlist m) c.net-net.ensures c.in_ok-harness.ensures.made) c.requires.begins.whole
          (subst (λ m. IsAcyclic m) c.ordered.ensures c.net-ordered.ensures.acyclic) c.args.sim.now.state c.requires.begins.fresh _ _ d.answers vs r in
          let p : ProbeState = begun n (probe_at ps i) in
          let begins : Tells p (probe_at qs i) =
          told_begun c.net-net.result.now n c.net-net.ensures names ps qs c.in_ok-tell_all.ensures.told.tells i name k in
          let shows : Tells (after_frames frames p) (probe_at rs i) = tells_frames frames p (probe_at qs i) (probe_at rs i) begins (d.shown.told i name k) in
          let ends : Tells (ended (after_frames frames p)) (probe_at ws i) = c.in_ok-tell_all-2.ensures.told.tells i name k ∙ ap ended shows in
          subst (λ (fs : List Valuation). Tells (ended (after_frames fs p)) (probe_at ws i)) (sym same) ends);
      quiet = record {
        reads = c.in_ok-tell_all-2.ensures.reads.reads ∙ c.in_ok-done.ensures.reads.reads ∙ c.in_ok-tell_all.ensures.reads.reads;
        writes = c.in_ok-tell_all-2.ensures.told.quiet ∙ c.in_ok-done.ensures.watched.quiet ∙ c.in_ok-tell_all.ensures.told.quiet;
      };
    }

pub returns-clause-probes : goal.returns-clause-probes
returns-clause-probes g c =
    let back = with_items_is c.args.probes.now c.tell_all-2.new.probes
    (let l = c.as_mut_slice-probes.ensures.len in let a = c.tell_all-2.auto.probes in let b = c.watch.auto.probes in let d = c.tell_all.auto.probes in omega (arith, l, a, b, d)) in
    lent_probes _ (λ p. (goal.Probe-dyn g (p.vtable, p.value)).state p.value) _ _ _ _ c.as_mut_slice-probes.ensures.value back (asked c.args.files.now)
    (kept_then (asked c.args.files.now) _ _ _ _ c.in_ok-tell_all.ensures.probes (kept_then (asked c.args.files.now) _ _ _ _ c.in_ok-done.ensures.probes c.in_ok-tell_all-2.ensures.probes))

pub returns-clause-shelf : goal.returns-clause-shelf
returns-clause-shelf g c =
    let d = c.in_ok-done.ensures.watched.watches c.args.args.now (subst (λ m. IsCalled m c.args.args.now c.take_arguments.new.harness) c.net-net.ensures c.take_arguments.ensures) in
    let names : Asked = asked c.args.files.now in
    let there = c.in_ok-tell_all.ensures.told.there (λ i name k. tt) in
    let strays = c.in_ok-tell_all.ensures.strays (λ i name k. tt) in
    record {
      reads = reads_then _ _ _ c.in_ok-tell_all.ensures.reads (reads_then _ _ _ c.in_ok-done.ensures.reads c.in_ok-tell_all-2.ensures.reads);
      strays = strays_then names _ _ _ _ _ (strays_then names _ _ _ _ _ strays there c.in_ok-done.ensures.strays) (there_then names _ _ _ there d.shown.there)
          c.in_ok-tell_all-2.ensures.strays;
    }
