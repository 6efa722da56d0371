use Rattle.safl_probe.proofs.Common.{HasWidths, Netlist, Valuation, asked, err_from_is_err_and, reads_same, reads_then}
use Rattle.std.proofs.Common.{◌≡◌, ◌+◌, [], ◌∷◌, ◌++◌, map, length, slice_index, refl, sym, ap, subst, ◌∙◌, arith, inl, inr}
use Rattle.std.proofs.lemmas.List.{length_push}
use Rattle.safl_word.proofs.Lists.{get_pushed}
use Rattle.safl_run.specs.Steps.{IsCalled, Goes}
use Rattle.safl_run.proofs.Going.{going_none}
use Rattle.safl_run.proofs.Stepping.{goes_along, goes_call, goes_on, replied}
use Rattle.safl_probe.proofs.Growing.{strays_none}
use Rattle.safl_probe.proofs.Stops.{stopped_later}
use Rattle.safl_probe.proofs.Frames.{fits_more, turn_more, watching_more}
use Rattle.safl_probe.proofs.Rounds.{cycle_grown, cycle_part, shown_along, shown_none, shown_unasked, shown_more, shown_part, kept_then, kept_same, strays_then}
use Rattle.safl_probe.proofs.watch.watch.Goals as goal

-- ---- no probe is asked

pub returns-then-not-is_any_asked-clause-watched : goal.returns-then-not-is_any_asked-clause-watched
returns-then-not-is_any_asked-clause-watched g c =
    let none = c.is_any_asked.ensures c.if-not-is_any_asked.true in
    record {
      watches = λ args called. record { answers = c.run_called.ensures.answers args called; shown = shown_unasked (asked c.args.files.now) _ none _ _ };
      quiet = refl;
    }

pub returns-then-not-is_any_asked-clause-probes : goal.returns-then-not-is_any_asked-clause-probes
returns-then-not-is_any_asked-clause-probes g c = kept_same (asked c.args.files.now) _ _

pub returns-then-not-is_any_asked-clause-reads : goal.returns-then-not-is_any_asked-clause-reads
returns-then-not-is_any_asked-clause-reads g c = reads_same _ _ refl

pub returns-then-not-is_any_asked-clause-strays : goal.returns-then-not-is_any_asked-clause-strays
returns-then-not-is_any_asked-clause-strays g c = λ h. strays_none _ _

-- ---- the cycles that are shown

pub cycles-init : goal.cycles-init
cycles-init g c = record {
  net = refl;
  frames = [];
  count = refl;
  going = λ args called. going_none _ _ args;
  given = λ h. absurd (omega (arith, h));
  shown = shown_none (asked c.args.files.now) _ _;
  room = c.requires.room;
  long = refl;
  probes = kept_same (asked c.args.files.now) _ _;
  quiet = refl;
  reads = reads_same _ _ refl;
  strays = λ h. strays_none _ _;
}

pub step-done-requires-clause-called : goal.step-done-requires-clause-called
step-done-requires-clause-called g c =
    let k = c.requires.called in (k.0, subst (λ m. IsCalled m k.0 c.args.harness.now) (sym c.cycles.invariant.net) k.1)

pub cycles-preserved : goal.cycles-preserved
cycles-preserved g c =
    let i = c.cycles.invariant in
    let n : Netlist = c.args.sim.now.net in
    let v : Valuation = c.step-done.new.sim.values in
    record {
      net = c.step-done.ensures.net ∙ i.net;
      frames = i.frames ++ v ∷ [];
      count = length_push i.frames v ∙ ap (λ k. k + 1) i.count;
      going = λ args called.
          goes_on n (slice_index c.args.sim.now.state) args i.frames c.step-done.new.sim c.step-done.result (sym c.is_some.ensures ∙ c.if-is_some.false)
          (goes_along n (slice_index c.args.sim.now.state) args i.frames c.args.harness.now c.cycles.cycle c.cycles.sim c.step-done.new.sim
          c.step-done.result i.net c.step-done.ensures.goes called i.count (i.going args called));
      given = λ h. c.step-done.ensures.given (omega (arith, h));
      shown =
          shown_more (asked c.args.files.now) _ i.frames v _ _ _ _ _ i.shown c.in_ok-show.ensures.shown.tells
          (cycle_grown c.cycles.cycle v (asked c.args.files.now) (map (λ p. (goal.Probe-dyn g (p.vtable, p.value)).state p.value) c.cycles.probes) _ _
          c.in_ok-show.ensures.shown.grown) c.in_ok-show.ensures.shown.there;
      room = subst (λ (m : Netlist). HasWidths m c.show.new.room.frame.items) (c.step-done.ensures.net ∙ i.net) c.in_ok-show.ensures.room;
      long = c.show.auto.probes ∙ i.long;
      probes = kept_then (asked c.args.files.now) _ _ _ _ i.probes c.in_ok-show.ensures.probes;
      quiet = c.in_ok-show.ensures.shown.quiet ∙ i.quiet;
      reads = reads_then _ _ _ i.reads c.in_ok-show.ensures.reads;
      strays = λ h. strays_then (asked c.args.files.now) _ _ _ _ _ (i.strays h) (i.shown.there h) c.in_ok-show.ensures.strays;
    }

pub returns-in_err-show-clause-probes : goal.returns-in_err-show-clause-probes
returns-in_err-show-clause-probes g c = kept_then (asked c.args.files.now) _ _ _ _ c.cycles.invariant.probes c.in_err-show.ensures.probes

pub returns-in_err-show-clause-strays : goal.returns-in_err-show-clause-strays
returns-in_err-show-clause-strays g c = λ h.
    let i = c.cycles.invariant in strays_then (asked c.args.files.now) _ _ _ _ _ (i.strays h) (i.shown.there h) c.in_err-show.ensures.strays

pub returns-in_err-show-clause-reads : goal.returns-in_err-show-clause-reads
returns-in_err-show-clause-reads g c = reads_then _ _ _ c.cycles.invariant.reads c.in_err-show.ensures.reads

pub returns-then-is_some-clause-reads : goal.returns-then-is_some-clause-reads
returns-then-is_some-clause-reads g c = reads_then _ _ _ c.cycles.invariant.reads c.in_ok-show.ensures.reads

pub returns-then-is_some-clause-probes : goal.returns-then-is_some-clause-probes
returns-then-is_some-clause-probes g c = kept_then (asked c.args.files.now) _ _ _ _ c.cycles.invariant.probes c.in_ok-show.ensures.probes

pub returns-then-is_some-clause-strays : goal.returns-then-is_some-clause-strays
returns-then-is_some-clause-strays g c = λ h.
    let i = c.cycles.invariant in strays_then (asked c.args.files.now) _ _ _ _ _ (i.strays h) (i.shown.there h) c.in_ok-show.ensures.strays

pub returns-in_err-show-clause-broken : goal.returns-in_err-show-clause-broken
returns-in_err-show-clause-broken g c =
    let i = c.cycles.invariant in
    let n : Netlist = c.args.sim.now.net in
    let v : Valuation = c.step-done.new.sim.values in
    let long : length (i.frames ++ v ∷ []) ≡ length i.frames + 1 = length_push i.frames v in
    let p = err_from_is_err_and c.from_residual.result c.from_residual.ensures.1 in
    rw (p.1, p.2)
    (record {
      broken = λ args called.
          let goes : Goes n (slice_index c.args.sim.now.state) args i.frames c.step-done.new.sim c.step-done.result =
          goes_along n (slice_index c.args.sim.now.state) args i.frames c.args.harness.now c.cycles.cycle c.cycles.sim c.step-done.new.sim
          c.step-done.result i.net c.step-done.ensures.goes called i.count (i.going args called) in
          record {
            frames = i.frames ++ v ∷ [];
            call = goes_call n (slice_index c.args.sim.now.state) args i.frames c.step-done.new.sim c.step-done.result goes;
            in_time = let a = i.count in let b = c.cycles-test.true in omega (arith, a, b, long);
            off = λ x w below f. elim (get_pushed i.frames v w x f) [ inl h ↦ (i.going args called).not_done x w h | inr h ↦ absurd (let p = h.0 in omega (arith, p, below, long)) ];
            files = shown_part (asked c.args.files.now) _ i.frames v _ _ _ _ i.shown
                (cycle_part c.cycles.cycle v (asked c.args.files.now) (map (λ p. (goal.Probe-dyn g (p.vtable, p.value)).state p.value) c.cycles.probes) _ _ c.in_err-show.ensures.part.grown);
          };
      stopped = stopped_later c.in_err-show.field-0.0 (asked c.args.files.now) _ _ _ _ _ _ i.probes.probes i.reads c.in_err-show.ensures.part.stopped;
    })

pub returns-clause-watched : goal.returns-clause-watched
returns-clause-watched g c =
    let i = c.cycles.invariant in
    let end = c.cycles-test.false in
    let most = c.cycles.auto.cycle-end in
    let count = i.count in
    record {
      watches = λ args called. record {
        answers = record { cycles = i.frames; call = (i.going args called).call; long = omega (arith, end, most, count); not_done = λ x v h e. (i.going args called).not_done x v e };
        shown = i.shown;
      };
      quiet = i.quiet;
    }

pub returns-then-is_some-clause-watched : goal.returns-then-is_some-clause-watched
returns-then-is_some-clause-watched g c =
    let i = c.cycles.invariant in
    let n : Netlist = c.args.sim.now.net in
    let v : Valuation = c.step-done.new.sim.values in
    record {
      watches = λ args called.
          let goes : Goes n (slice_index c.args.sim.now.state) args i.frames c.step-done.new.sim c.step-done.result =
          goes_along n (slice_index c.args.sim.now.state) args i.frames c.args.harness.now c.cycles.cycle c.cycles.sim c.step-done.new.sim
          c.step-done.result i.net c.step-done.ensures.goes called i.count (i.going args called) in
          let r = replied n (slice_index c.args.sim.now.state) args i.frames c.step-done.new.sim c.args.limit (slice_index c.cycles.sim.state)
          c.step-done.result (sym c.is_some.ensures ∙ c.if-is_some.true) (i.going args called)
          (let a = i.count in let b = c.cycles-test.true in omega (arith, a, b)) goes in
          record {
            answers = r.0;
            shown = shown_along _ _ (asked c.args.files.now) _ _ _ _ r.1 (shown_more (asked c.args.files.now) _ i.frames v _ _ _ _ _ i.shown c.in_ok-show.ensures.shown.tells
                (cycle_grown c.cycles.cycle v (asked c.args.files.now) (map (λ p. (goal.Probe-dyn g (p.vtable, p.value)).state p.value) c.cycles.probes) _ _
                c.in_ok-show.ensures.shown.grown) c.in_ok-show.ensures.shown.there);
          };
      quiet = c.in_ok-show.ensures.shown.quiet ∙ i.quiet;
    }

pub show-requires-clause-can : goal.show-requires-clause-can
show-requires-clause-can g c =
    let i = c.cycles.invariant in
    let b = c.cycles-test.true in
    let f = c.ranges.limit.fits in
    record {
      files = c.requires.ready.files ∙ sym i.long;
      can = λ j name k. record {
        watching = watching_more i.frames _ _ (c.requires.ready.ready j name k).watching (i.shown.told j name k);
        fits = fits_more c.args.sim.now.net i.frames c.step-done.new.sim.values _ _ (c.requires.ready.ready j name k) (i.shown.told j name k)
            (c.step-done.ensures.full ∙ ap (λ (m : Netlist). length m.signals) (c.step-done.ensures.net ∙ i.net));
        turn = turn_more c.args.sim.now.net i.frames _ _ c.cycles.cycle (c.requires.ready.ready j name k) (i.shown.told j name k) i.count;
        room = omega (arith, b, f);
      };
    }

pub show-requires-clause-room : goal.show-requires-clause-room
show-requires-clause-room g c =
    let i = c.cycles.invariant in
    record {
      frame = subst (λ (m : Netlist). HasWidths m c.cycles.room.frame.items) (sym (c.step-done.ensures.net ∙ i.net)) i.room;
      values = c.step-done.ensures.full;
    }
