use Rattle.safl_probe.proofs.Common.{Asked, Files, HasWidths, SameReads, Shown, Valuation, Word, asked}
use Rattle.std.proofs.Common.{◌≡◌, ◌<◌, List, map, length, slice_index, Option, OnSome}
use Rattle.safl_probe.specs.Growth.{AllThere}
use Rattle.safl_probe.specs.Stopping.{KeepsProbes}
use Rattle.safl_sim.specs.Places.{HasWords}
use Rattle.safl_run.specs.Steps.{IsCalled, IsGoing}
use Rattle.safl_probe.specs.declared.moment.Moment.TheVariants as moments
use Rattle.safl_probe.proofs.watch.watch.Given as goal

abbrev pub invariant-cycles : goal.invariant-cycles
invariant-cycles g l =
    let names : Asked = asked l.files in
    let x : Option Files = (g.S.Shelf.told l.fn.shelf).holds in
    let y : Option Files = (g.S.Shelf.told l.shelf).holds in
    record {
      net : l.sim.net ≡ l.fn.sim.net;
      frames : List Valuation;
      count : length frames ≡ l.cycle;
      going : (args : List Word) → IsCalled l.fn.sim.net args l.harness → IsGoing l.fn.sim.net (slice_index l.fn.sim.state) args frames (slice_index l.sim.state);
      given : 1 < l.cycle → HasWords l.sim.net l.sim.values l.harness.room.later.items;
      shown : Shown frames names (map (λ p. (goal.Probe-dyn g (p.vtable, p.value)).state p.value) l.fn.probes) (map (λ p. (goal.Probe-dyn g (p.vtable, p.value)).state p.value) l.probes) x y;
      room : HasWidths l.fn.sim.net l.room.frame.items;
      long : length l.probes ≡ length l.fn.probes;
      probes : KeepsProbes names (λ p. (goal.Probe-dyn g (p.vtable, p.value)).state p.value) l.fn.probes l.probes;
      quiet : (g.S.Shelf.told l.shelf).write_faults ≡ (g.S.Shelf.told l.fn.shelf).write_faults;
      reads : SameReads (g.S.Shelf.told l.fn.shelf) (g.S.Shelf.told l.shelf);
      strays : AllThere moments.End names x → OnSome x ((g.S.Shelf.told l.shelf).strays ≡ (g.S.Shelf.told l.fn.shelf).strays);
    }
