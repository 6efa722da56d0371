use Rattle.safl_unit.proofs.Common.{BitsFit, Load, Sig, SitesNext, SomeFit, UnitsNext, bits_kept, builds_on, builds_within}
use Rattle.std.proofs.Common.{◌+◌, ◌*◌, List, [], ◌∷◌, Option, length, sym, ap, subst, ◌∙◌, arith}
use Rattle.safl_unit.proofs.equations.Keeping.{pins_kept, returns_kept, outcomes_kept, goes_kept}
use Rattle.safl_unit.proofs.equations.Whole.{events_kept, events_fit, units_next_kept, members_next_kept, has_next}
use Rattle.safl_unit.proofs.edge.edge.Goals as goal

pub edge_events-requires-clause-outcomes : goal.edge_events-requires-clause-outcomes
edge_events-requires-clause-outcomes c = c.requires.outcomes.fits

pub edge_events-requires-clause-goes : goal.edge_events-requires-clause-goes
edge_events-requires-clause-goes c = record { count = c.requires.goes.count; each = c.requires.goes.fits }

pub edge_events-requires-clause-room : goal.edge_events-requires-clause-room
edge_events-requires-clause-room c = let r = c.requires.room.room in record { tidy = c.requires.room.tidy; room = omega (arith, r) }

pub next_units-requires-clause-pins : goal.next_units-requires-clause-pins
next_units-requires-clause-pins c = pins_kept c.in_ok-events.ensures.built c.requires.pins

pub next_units-requires-clause-ends : goal.next_units-requires-clause-ends
next_units-requires-clause-ends c =
    let C = c.args.p.now.program in
    let e = (c.in_ok-events.ensures.done c.args.pins.now c.requires.outcomes c.requires.goes).ends in
    record {
      count = ap (λ (xs : List (Option Load)). length xs) c.deref.ensures.value ∙ e.count;
      each = subst (λ (xs : List (Option Load)). SomeFit c.edge_events.new.net xs (λ u. C.result u ∷ [])) (sym c.deref.ensures.value) e.fits;
    }

pub next_units-requires-clause-starts : goal.next_units-requires-clause-starts
next_units-requires-clause-starts c =
    let e = (c.in_ok-events.ensures.done c.args.pins.now c.requires.outcomes c.requires.goes).starts in
    record {
      count = ap (λ (xs : List (Option Sig)). length xs) c.deref-2.ensures.value ∙ e.count;
      each = subst (λ (xs : List (Option Sig)). BitsFit c.edge_events.new.net xs) (sym c.deref-2.ensures.value) e.fits;
    }

pub next_units-requires-clause-room : goal.next_units-requires-clause-room
next_units-requires-clause-room c =
    let r = c.requires.room.room in
    let b = c.in_ok-events.ensures.built.count in
    record { tidy = c.in_ok-events.ensures.built.tidy; room = omega (arith, r, b) }

pub next_members-requires-clause-settled : goal.next_members-requires-clause-settled
next_members-requires-clause-settled c = (builds_on c.in_ok-events.ensures.built c.in_ok-units.ensures.built).settles.settled c.requires.settled

pub next_members-requires-clause-pins : goal.next_members-requires-clause-pins
next_members-requires-clause-pins c = pins_kept (builds_on c.in_ok-events.ensures.built c.in_ok-units.ensures.built) c.requires.pins

pub next_members-requires-clause-events : goal.next_members-requires-clause-events
next_members-requires-clause-events c =
    let C = c.args.p.now.program in
    let P = c.args.p.now.choice in
    let g = c.requires.goes in
    events_fit C P c.next_units.new.net c.args.pins.now c.in_ok-events.events
    (events_kept c.in_ok-units.ensures.built C P c.args.pins.now c.in_ok-events.events (c.in_ok-events.ensures.done c.args.pins.now c.requires.outcomes g))

pub next_members-requires-clause-outcomes : goal.next_members-requires-clause-outcomes
next_members-requires-clause-outcomes c = (outcomes_kept (builds_on c.in_ok-events.ensures.built c.in_ok-units.ensures.built) c.requires.outcomes).fits

pub next_members-requires-clause-room : goal.next_members-requires-clause-room
next_members-requires-clause-room c =
    let r = c.requires.room.room in
    let b = (builds_on c.in_ok-events.ensures.built c.in_ok-units.ensures.built).count in
    record { tidy = c.in_ok-units.ensures.built.tidy; room = omega (arith, r, b) }

pub next_sites-requires-clause-pins : goal.next_sites-requires-clause-pins
next_sites-requires-clause-pins c = pins_kept (builds_on (builds_on c.in_ok-events.ensures.built c.in_ok-units.ensures.built) c.in_ok-members.ensures.built) c.requires.pins

pub next_sites-requires-clause-returns : goal.next_sites-requires-clause-returns
next_sites-requires-clause-returns c = (returns_kept (builds_on (builds_on c.in_ok-events.ensures.built c.in_ok-units.ensures.built) c.in_ok-members.ensures.built) c.requires.returns).fits

pub next_sites-requires-clause-goes : goal.next_sites-requires-clause-goes
next_sites-requires-clause-goes c =
    let built = builds_on (builds_on c.in_ok-events.ensures.built c.in_ok-units.ensures.built) c.in_ok-members.ensures.built in
    record { count = c.requires.goes.count; each = (goes_kept built c.requires.goes).fits }

pub next_sites-requires-clause-clears : goal.next_sites-requires-clause-clears
next_sites-requires-clause-clears c =
    let e = (c.in_ok-events.ensures.done c.args.pins.now c.requires.outcomes c.requires.goes).clears in
    record {
      count = ap (λ (xs : List (Option Sig)). length xs) c.deref-3.ensures.value ∙ e.count;
      each = subst (λ (xs : List (Option Sig)). BitsFit c.next_members.new.net xs) (sym c.deref-3.ensures.value)
          (bits_kept (builds_on c.in_ok-units.ensures.built c.in_ok-members.ensures.built) c.in_ok-events.events.clears.items e.fits);
    }

pub next_sites-requires-clause-room : goal.next_sites-requires-clause-room
next_sites-requires-clause-room c =
    let r = c.requires.room.room in
    let b = (builds_on (builds_on c.in_ok-events.ensures.built c.in_ok-units.ensures.built) c.in_ok-members.ensures.built).count in
    record { tidy = c.in_ok-members.ensures.built.tidy; room = omega (arith, r, b) }

pub returns-clause-built : goal.returns-clause-built
returns-clause-built c =
    let C = c.args.p.now.program in
    builds_within (1024 * C.functions + 32 * C.sites + 32) (builds_on
    (builds_on (builds_on c.in_ok-events.ensures.built c.in_ok-units.ensures.built) c.in_ok-members.ensures.built) c.in_ok-sites.ensures.built) (omega arith)

pub returns-clause-done : goal.returns-clause-done
returns-clause-done c =
    let C = c.args.p.now.program in
    let P = c.args.p.now.choice in
    let g = c.requires.goes in
    let p = c.args.pins.now in
    let back = builds_on (builds_on c.in_ok-units.ensures.built c.in_ok-members.ensures.built) c.in_ok-sites.ensures.built in
    let all = builds_on c.in_ok-events.ensures.built back in
    let events = c.in_ok-events.events in
    has_next C P c.next_sites.new.net p c.args.returns.now c.args.outcomes.now c.args.goes.now events
    (record { units = c.in_ok-units.units; members = c.in_ok-members.members; sites = c.in_ok-sites.sites })
    c.next_units.ensures.checked.formed (pins_kept all c.requires.pins) (returns_kept all c.requires.returns) (outcomes_kept all c.requires.outcomes) (goes_kept all c.requires.goes)
    (events_kept back C P p events (c.in_ok-events.ensures.done p c.requires.outcomes g))
    (units_next_kept (builds_on c.in_ok-members.ensures.built c.in_ok-sites.ensures.built)
    (subst (λ (xs : List (Option Load)). UnitsNext C c.next_units.new.net p.bank.units.items xs events.starts.items c.in_ok-units.units.items C.functions) c.deref.ensures.value
    (subst (λ (xs : List (Option Sig)). UnitsNext C c.next_units.new.net p.bank.units.items c.deref.result.now xs c.in_ok-units.units.items
    C.functions) c.deref-2.ensures.value c.in_ok-units.ensures.done)))
    (members_next_kept c.in_ok-sites.ensures.built c.in_ok-members.ensures.done)
    (subst (λ (xs : List (Option Sig)). SitesNext C P c.next_sites.new.net p.bank.units.items p.bank.sites.items c.args.returns.now.ret.items
    c.args.goes.now xs c.in_ok-sites.sites.items C.sites) c.deref-3.ensures.value c.in_ok-sites.ensures.done)
