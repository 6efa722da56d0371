-- What is known of a net is known of what is built on it.
use Rattle.safl_unit.proofs.Common.{Bank, Bool, Builds, Choice, List, Load, MemberPins, Netlist, Option, Outcomes, Pins, Program, Returns}
use Rattle.safl_unit.proofs.Common.{Sig, SitePins, SitePorts, UnitPins, Val, bits_kept, entry_in, load_kept, maybe_load_kept, slice_get}
use Rattle.safl_unit.proofs.Common.{some_kept, source_kept, sources_kept, wired_before, ℕ}
use Rattle.safl_circuit.specs.Equations.{Registers, Inputs}
use Rattle.safl_unit.specs.Cycles.{UnitFits, MemberFits, SiteFits, BankFits, PinsFit, Cycle}
use Rattle.safl_unit.specs.Stages.{PortFits, GoesFit, HasReturns, HasOutcomes, HasGoes, HasEnds, HasLoads, HasBits, HasNext}

module _ {a b : Netlist} {most : ℕ} (h : Builds a b most) where
  -- ---- widths and sources

  pub port_kept : {p : SitePorts} {w : ℕ} → PortFits a p w → PortFits b p w
  port_kept q = record { sent = source_kept h q.sent; returned = source_kept h q.returned; value = source_kept h q.value }

  pub unit_kept : {u : UnitPins} {w : ℕ} → UnitFits a u w → UnitFits b u w
  unit_kept q = record { run = source_kept h q.run; fin = source_kept h q.fin; res = source_kept h q.res }

  pub member_kept : {m : MemberPins} {ws : List ℕ} → MemberFits a m ws → MemberFits b m ws
  member_kept q = record { at = source_kept h q.at; args = sources_kept h q.args }

  pub site_kept : {s : SitePins} {w : ℕ} → SiteFits a s w → SiteFits b s w
  site_kept q = record { sent = source_kept h q.sent; got = source_kept h q.got; keep = source_kept h q.keep }

  pub bank_kept : {C : Program} {r : Bank} → BankFits C a r → BankFits C b r
  bank_kept q = record {
    units_length = q.units_length;
    members_length = q.members_length;
    sites_length = q.sites_length;
    units = λ f u e. unit_kept (q.units f u e);
    members = λ f m e. member_kept (q.members f m e);
    sites = λ k s e l. site_kept (q.sites k s e l);
  }

  pub pins_kept : {C : Program} {p : Pins} → PinsFit C a p → PinsFit C b p
  pins_kept q = record { start = source_kept h q.start; words = sources_kept h q.words; bank = bank_kept q.bank }

  -- ---- cycles

  pub cycle_before : {C : Program} {P : Choice} {p : Pins} {v : Val} {r : Registers} {i : Inputs} → Cycle C P b p v r i → Cycle C P a p v r i
  cycle_before c = record { wired = wired_before h.grows c.wired; start = c.start; words = c.words; bank = c.bank }

  -- ---- the parts

  pub returns_kept : {C : Program} {P : Choice} {p : Pins} {s : Returns} → HasReturns C P a p s → HasReturns C P b p s
  returns_kept q = record {
    fits = record {
      ret_length = q.fits.ret_length;
      ports_length = q.fits.ports_length;
      ret = λ k l m. source_kept h (q.fits.ret k l m);
      port = λ k x l m e. port_kept (q.fits.port k x l m e);
    };
    shows = λ v r i c. q.shows v r i (cycle_before c);
  }

  pub goes_fit_kept : {C : Program} {goes : List Sig} → GoesFit C a goes → GoesFit C b goes
  goes_fit_kept q = record { count = q.count; each = λ k l. source_kept h (q.each k l) }

  pub outcomes_kept : {C : Program} {P : Choice} {p : Pins} {o : Outcomes} → HasOutcomes C P a p o → HasOutcomes C P b p o
  outcomes_kept {C} {P} {p} {o} q = record {
    fits = record {
      ends_length = q.fits.ends_length;
      loops_length = q.fits.loops_length;
      wants_length = q.fits.wants_length;
      ends = λ f l e. load_kept h (q.fits.ends f l e);
      loops = some_kept h o.loops.items C.params q.fits.loops;
      wants = λ k l e. load_kept h (q.fits.wants k l e);
    };
    shows = λ v r i c. q.shows v r i (cycle_before c);
  }

  pub goes_kept : {C : Program} {P : Choice} {p : Pins} {goes : List Sig} → HasGoes C P a p goes → HasGoes C P b p goes
  goes_kept q = record { count = q.count; fits = λ k l. source_kept h (q.fits k l); shows = λ v r i c. q.shows v r i (cycle_before c) }

  pub ends_kept : {C : Program} {P : Choice} {p : Pins} {all : List (Option Load)} → HasEnds C P a p all → HasEnds C P b p all
  ends_kept {C} {P} {p} {all} q = record { count = q.count; fits = λ u. maybe_load_kept h (entry_in (slice_get all u)) _ (q.fits u); shows = λ v r i c. q.shows v r i (cycle_before c) }

  pub all_loads_kept : {C : Program} {P : Choice} {p : Pins} {all : List (Option Load)} → HasLoads C P a p all → HasLoads C P b p all
  all_loads_kept {C} {P} {p} {all} q = record { count = q.count; fits = some_kept h all C.params q.fits; shows = λ v r i c. q.shows v r i (cycle_before c) }

  pub tests_kept : (C : Program) (P : Choice) (p : Pins) (bits : List (Option Sig)) (test : Registers → Inputs → ℕ → Bool) → HasBits C P a p bits test → HasBits C P b p bits test
  tests_kept C P p bits test q = record { count = q.count; fits = bits_kept h bits q.fits; shows = λ v r i c. q.shows v r i (cycle_before c) }

  pub next_kept : {C : Program} {P : Choice} {p : Pins} {r : Bank} → HasNext C P a p r → HasNext C P b p r
  next_kept q = record { fits = bank_kept q.fits; shows = λ v r i c. q.shows v r i (cycle_before c) }
