-- All registers after the edge.
use Rattle.safl_unit.proofs.Common.{Bank, Builds, Choice, Load, MemberPins, MembersNext, Netlist, Outcomes, Pins, Program, Returns, Sig}
use Rattle.safl_unit.proofs.Common.{SitesNext, UnitPins, UnitsNext, get_some, on, on_from, pin, slice_get_within, taken_from, wired_before}
use Rattle.std.proofs.Common.{ℕ, ◌<◌, ◌≤◌, List, Option, is_some, subst, arith}
use Rattle.safl_term.specs.WellFormed.{IsWellFormed}
use Rattle.safl_circuit.specs.Equations.{starts, clears, starts_it, starts_other}
use Rattle.safl_unit.specs.declared.events.Events.{Events}
use Rattle.safl_unit.specs.Cycles.{PinsFit, UnitShows}
use Rattle.safl_unit.specs.Stages.{HasReturns, HasOutcomes, HasGoes, HasNext}
use Rattle.safl_unit.specs.Coming.{HasEvents, EventsFit}
use Rattle.safl_unit.proofs.equations.Keeping.{unit_kept, member_kept, ends_kept, all_loads_kept, tests_kept}
use Rattle.safl_unit.proofs.equations.Following.{unit_follows, member_follows, site_follows}

-- ---- what is known of a net is known of what is built on it

pub events_kept : {a b : Netlist} {k : ℕ} → Builds a b k → (C : Program) (P : Choice) (p : Pins) (e : Events) → HasEvents C P a p e → HasEvents C P b p e
events_kept h C P p e q = record {
  ends = ends_kept h q.ends;
  starts = tests_kept h C P p e.starts.items (λ r i u. is_some (starts C P r i u)) q.starts;
  clears = tests_kept h C P p e.clears.items (λ r i u. clears C P r u) q.clears;
  loads = all_loads_kept h q.loads;
  entries = tests_kept h C P p e.entries.items (λ r i f. starts_it C P r i f) q.entries;
  rivals = tests_kept h C P p e.rivals.items (λ r i f. starts_other C P r i f) q.rivals;
}

pub events_fit : (C : Program) (P : Choice) (n : Netlist) (p : Pins) (e : Events) → HasEvents C P n p e → EventsFit C n e
events_fit C P n p e q = record {
  ends_length = q.ends.count;
  starts_length = q.starts.count;
  clears_length = q.clears.count;
  loads_length = q.loads.count;
  entries_length = q.entries.count;
  rivals_length = q.rivals.count;
  ends = q.ends.fits;
  loads = q.loads.fits;
  starts = q.starts.fits;
  clears = q.clears.fits;
  entries = q.entries.fits;
  rivals = q.rivals.fits;
}

pub units_next_kept : {a b : Netlist} {k : ℕ} → Builds a b k → {C : Program} {now : List UnitPins} {ends : List (Option Load)}
    {starts : List (Option Sig)} {after : List UnitPins} {count : ℕ} → UnitsNext C a now ends starts after count → UnitsNext C b now ends starts after count
units_next_kept h q = record { entries = q.entries; fits = λ f y e. unit_kept h (q.fits f y e); shows = λ v w. q.shows v (wired_before h.grows w) }

pub members_next_kept : {a b : Netlist} {k : ℕ} → Builds a b k → {C : Program} {now : List MemberPins} {entries rivals : List (Option Sig)}
    {loads looped : List (Option Load)} {after : List MemberPins} {count : ℕ}
    → MembersNext C a now entries rivals loads looped after count → MembersNext C b now entries rivals loads looped after count
members_next_kept h q = record { entries_after = q.entries_after; fits = λ f y e. member_kept h (q.fits f y e); shows = λ v w. q.shows v (wired_before h.grows w) }

-- ---- the registers

pub has_next : (C : Program) (P : Choice) (n : Netlist) (p : Pins) (s : Returns) (o : Outcomes) (goes : List Sig) (e : Events) (b : Bank) →
    IsWellFormed C → PinsFit C n p → HasReturns C P n p s → HasOutcomes C P n p o → HasGoes C P n p goes
    → HasEvents C P n p e → UnitsNext C n p.bank.units.items e.ends.items e.starts.items b.units.items C.functions
    → MembersNext C n p.bank.members.items e.entries.items e.rivals.items e.loads.items o.loops.items b.members.items C.functions
    → SitesNext C P n p.bank.units.items p.bank.sites.items s.ret.items goes e.clears.items b.sites.items C.sites → HasNext C P n p b
has_next C P n p s o goes e b formed pf hs ho hg he U M S = record {
  fits = record { units_length = U.entries; members_length = M.entries_after; sites_length = S.entries; units = U.fits; members = M.fits; sites = S.fits };
  shows = λ v r i c. record {
    units = λ f y q.
        let within = slice_get_within b.units.items f y q in
        let count = U.entries in
        let first = formed.first f (omega (arith, within, count)) in
        let low = first.0 in
        let u = C.unit f in
        let ul : u < C.functions = omega (arith, low, within, count) in
        let many = pf.bank.units_length in
        let x = get_some p.bank.units.items u (omega (arith, ul, many)) in
        unit_follows C P v r i u (taken_from v e.ends.items u) (on_from v e.starts.items u) x.0 y (U.shows v c.wired f y q x.0 x.1)
        (subst (λ (k : ℕ). UnitShows v x.0 r k) first.1 (c.bank.units u x.0 x.1))
        (he.ends.shows v r i c u ul) (he.starts.shows v r i c u ul);
    members = λ f y q.
        let within = slice_get_within b.members.items f y q in
        let count = M.entries_after in
        let l : f < C.functions = omega (arith, within, count) in
        let many = pf.bank.members_length in
        let x = get_some p.bank.members.items f (omega (arith, l, many)) in
        member_follows C P v r i f (on_from v e.entries.items f) (on_from v e.rivals.items f) (taken_from v e.loads.items f)
        (taken_from v o.loops.items f) x.0 y (M.shows v c.wired f y q x.0 x.1) (c.bank.members f x.0 x.1)
        (he.entries.shows v r i c f l) (he.rivals.shows v r i c f l) (he.loads.shows v r i c f l) ((ho.shows v r i c).loops f l);
    sites = λ k y q above.
        let within = slice_get_within b.sites.items k y q in
        let count = S.entries in
        let l : k ≤ C.sites = omega (arith, within, count) in
        let calls = formed.calls k above l in
        let callee = calls.1 in
        let caller = calls.0 in
        let units = pf.bank.units_length in
        let sites = pf.bank.sites_length in
        let u = get_some p.bank.units.items (C.callee k) (omega (arith, callee, units)) in
        let x = get_some p.bank.sites.items k (omega (arith, l, sites)) in
        let low = (formed.first (C.caller k) caller).0 in
        site_follows C P v r i k (on v (pin s.ret.items k)) (on v (pin goes k)) (on_from v e.clears.items (C.unit (C.caller k))) (v u.0.res.0) x.0 y
        (S.shows v c.wired k y q above u.0 x.0 u.1 x.1) (c.bank.sites k x.0 x.1 above)
        ((hs.shows v r i c).ret k above l) (hg.shows v r i c k l) (he.clears.shows v r i c (C.unit (C.caller k)) (omega (arith, low, caller))) (c.bank.units (C.callee k) u.0 u.1).res;
  };
}
