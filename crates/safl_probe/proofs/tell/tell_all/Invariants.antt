use Rattle.safl_probe.proofs.Common.{AreApart, Asked, Files, SameReads, TellsOn, Valuation, Word, asked, probe_at}
use Rattle.std.proofs.Common.{◌≡◌, map, Option, OnSome}
use Rattle.safl_probe.specs.Moments.{text_at}
use Rattle.safl_probe.specs.Growth.{FirstGrow, Grown, AllThere}
use Rattle.safl_probe.proofs.Growing.{ThereTo}
use Rattle.safl_probe.proofs.Telling.{ToldTo}
use Rattle.safl_probe.proofs.tell.tell_all.Given as goal

abbrev pub invariant-probes : goal.invariant-probes
invariant-probes g l =
    let names : Asked = asked l.files in
    let frame : Valuation = map (λ (w : Word). w.bits) l.fn.room.frame.items in
    let x : Option Files = (g.S.Shelf.told l.fn.shelf).holds in
    let y : Option Files = (g.S.Shelf.told l.shelf).holds in
    record {
      told : ToldTo _ (λ p. (goal.Probe-dyn g (p.vtable, p.value)).state p.value) l.moment l.net frame names l.fn.probes l.probes l.i;
      grown : AreApart names → TellsOn (FirstGrow (Grown l.moment) names
          (λ i. text_at l.moment l.net frame (probe_at (map (λ p. (goal.Probe-dyn g (p.vtable, p.value)).state p.value) l.fn.probes) i)) l.i) x y;
      same_frame : l.room.frame ≡ l.fn.room.frame;
      quiet : (g.S.Shelf.told l.shelf).write_faults ≡ (g.S.Shelf.told l.fn.shelf).write_faults;
      reads : SameReads (g.S.Shelf.told l.fn.shelf) (g.S.Shelf.told l.shelf);
      strays : AllThere l.moment names x → OnSome x ((g.S.Shelf.told l.shelf).strays ≡ (g.S.Shelf.told l.fn.shelf).strays);
      there : AllThere l.moment names x → TellsOn (λ _ now. ThereTo l.moment names l.i now) x y;
    }
