-- What the ports and registers of a circuit show in a cycle.
use Rattle.std.specs.Prelude.{◌≡◌, ℕ, suc, ◌<◌, List, length, true}
use Rattle.safl_term.specs.Program.{Program}
use Rattle.safl_sites.specs.Plan.{Choice}
use Rattle.safl_net.specs.Netlist.{Netlist}
use Rattle.safl_net.specs.Growth.{Val, words, Wired}
use Rattle.safl_net.specs.Bits.{on}
use Rattle.safl_circuit.specs.Equations.{Registers, Inputs, many}
use Rattle.safl_lower.specs.Sources.{IsSource, AreSources}
use Rattle.safl_lower.specs.Tables.{EachAt}
use Rattle.safl_unit.specs.declared.pins.UnitPins.{UnitPins}
use Rattle.safl_unit.specs.declared.pins.MemberPins.{MemberPins}
use Rattle.safl_unit.specs.declared.pins.SitePins.{SitePins}
use Rattle.safl_unit.specs.declared.pins.Bank.{Bank}
use Rattle.safl_unit.specs.declared.pins.Pins.{Pins}

-- the signals have the widths of a unit's registers; of a function's; of a site's
pub record UnitFits (n : Netlist) (u : UnitPins) (w : ℕ) : Type 0 where
  pub run : IsSource n u.run 1
  pub fin : IsSource n u.fin 1
  pub res : IsSource n u.res w

pub record MemberFits (n : Netlist) (m : MemberPins) (ws : List ℕ) : Type 0 where
  pub at : IsSource n m.at 1
  pub args : AreSources n m.args.items ws

pub record SiteFits (n : Netlist) (s : SitePins) (w : ℕ) : Type 0 where
  pub sent : IsSource n s.sent 1
  pub got : IsSource n s.got 1
  pub keep : IsSource n s.keep w

pub record BankFits (C : Program) (n : Netlist) (b : Bank) : Type 0 where
  pub units_length : length b.units.items ≡ C.functions
  pub members_length : length b.members.items ≡ C.functions
  pub sites_length : length b.sites.items ≡ suc C.sites
  pub units : EachAt b.units.items (λ f u. UnitFits n u (C.result f))
  pub members : EachAt b.members.items (λ f m. MemberFits n m (C.params f))
  pub sites : EachAt b.sites.items (λ k s. 0 < k → SiteFits n s (C.result (C.callee k)))

-- the signals have the words of the registers of a unit; of a function; of a site
pub record UnitShows (v : Val) (u : UnitPins) (r : Registers) (unit : ℕ) : Type 0 where
  pub run : on v u.run ≡ r.run unit
  pub fin : on v u.fin ≡ r.fin unit
  pub res : v u.res.0 ≡ r.res unit

pub record MemberShows (C : Program) (v : Val) (m : MemberPins) (r : Registers) (f : ℕ) : Type 0 where
  pub at : many C f ≡ true → on v m.at ≡ r.at f
  pub arg : words v m.args.items ≡ r.arg f

pub record SiteShows (P : Choice) (v : Val) (s : SitePins) (r : Registers) (k : ℕ) : Type 0 where
  pub sent : on v s.sent ≡ r.sent k
  pub got : on v s.got ≡ r.got k
  pub keep : P.kept k ≡ true → v s.keep.0 ≡ r.keep k

pub record BankShows (C : Program) (P : Choice) (b : Bank) (v : Val) (r : Registers) : Type 0 where
  pub units : EachAt b.units.items (λ f u. UnitShows v u r (C.unit f))
  pub members : EachAt b.members.items (λ f m. MemberShows C v m r f)
  pub sites : EachAt b.sites.items (λ k s. 0 < k → SiteShows P v s r k)

-- the ports and registers have their widths
pub record PinsFit (C : Program) (n : Netlist) (p : Pins) : Type 0 where
  pub start : IsSource n p.start 1
  pub words : AreSources n p.words.items (C.params C.main)
  pub bank : BankFits C n p.bank

-- a valuation that the net allows, in which the ports and registers show these inputs and registers
pub record Cycle (C : Program) (P : Choice) (n : Netlist) (p : Pins) (v : Val) (r : Registers) (i : Inputs) : Type 0 where
  pub wired : Wired n v
  pub start : on v p.start ≡ i.start
  pub words : words v p.words.items ≡ i.words
  pub bank : BankShows C P p.bank v r

-- it holds in every such cycle
abbrev pub InEachCycle : Program → Choice → Netlist → Pins → (Val → Registers → Inputs → Type 0) → Type 0
InEachCycle C P n p Q = (v : Val) (r : Registers) (i : Inputs) → Cycle C P n p v r i → Q v r i
