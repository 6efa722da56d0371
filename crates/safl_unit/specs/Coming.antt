-- The events at the edge.
use Rattle.std.specs.Prelude.{◌≡◌, List, [], ◌∷◌, length, Result, IfOk}
use Rattle.safl_term.specs.Program.{Program}
use Rattle.safl_net.specs.declared.cell.Sig.{Sig}
use Rattle.safl_net.specs.Netlist.{Netlist}
use Rattle.safl_sites.specs.Plan.{Choice}
use Rattle.safl_lower.specs.Tables.{SomeFit, BitsFit}
use Rattle.safl_unit.specs.declared.pins.Pins.{Pins}
use Rattle.safl_unit.specs.declared.pins.Outcomes.{Outcomes}
use Rattle.safl_unit.specs.declared.events.Events.{Events}
use Rattle.safl_unit.specs.Stages.{HasOutcomes, HasGoes, HasEnds, HasLoads, HasStarts, HasClears, HasEntries, HasRivals}

pub record HasEvents (C : Program) (P : Choice) (n : Netlist) (p : Pins) (e : Events) : Type 0 where
  pub ends : HasEnds C P n p e.ends.items
  pub starts : HasStarts C P n p e.starts.items
  pub clears : HasClears C P n p e.clears.items
  pub loads : HasLoads C P n p e.loads.items
  pub entries : HasEntries C P n p e.entries.items
  pub rivals : HasRivals C P n p e.rivals.items

-- on success, if the outcomes and starts are those of the program, so are the events
abbrev pub GivesEvents : {E : Type 0} → Result Events E → Program → Choice → Netlist → Netlist → Outcomes → List Sig → Type 0
GivesEvents r C P old new o goes = (p : Pins) → HasOutcomes C P old p o → HasGoes C P old p goes → IfOk r (λ e. HasEvents C P new p e)

-- the tables of events have their widths
pub record EventsFit (C : Program) (n : Netlist) (e : Events) : Type 0 where
  pub ends_length : length e.ends.items ≡ C.functions
  pub starts_length : length e.starts.items ≡ C.functions
  pub clears_length : length e.clears.items ≡ C.functions
  pub loads_length : length e.loads.items ≡ C.functions
  pub entries_length : length e.entries.items ≡ C.functions
  pub rivals_length : length e.rivals.items ≡ C.functions
  pub ends : SomeFit n e.ends.items (λ u. C.result u ∷ [])
  pub loads : SomeFit n e.loads.items C.params
  pub starts : BitsFit n e.starts.items
  pub clears : BitsFit n e.clears.items
  pub entries : BitsFit n e.entries.items
  pub rivals : BitsFit n e.rivals.items
