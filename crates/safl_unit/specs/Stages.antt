-- What the parts of a circuit show in each cycle.
use Rattle.std.specs.Prelude.{◌≡◌, ℕ, zero, suc, ◌<◌, ◌≤◌, List, [], ◌∷◌, length, Option, Some, None, Bool, cond, slice_get, is_some}
use Rattle.safl_sites.specs.Plan.{Choice}
use Rattle.safl_word.specs.Words.{Word}
use Rattle.safl_term.specs.Program.{Program}
use Rattle.safl_net.specs.declared.cell.Sig.{Sig}
use Rattle.safl_net.specs.Netlist.{Netlist}
use Rattle.safl_net.specs.Growth.{Val}
use Rattle.safl_lower.specs.declared.lowered.SitePorts.{SitePorts}
use Rattle.safl_net.specs.Bits.{on}
use Rattle.safl_lower.specs.Lowering.{returned_word, was_sent}
use Rattle.safl_circuit.specs.Equations.{Registers, Inputs, ret, on_wires, body_wants, end_word, loop_words}
use Rattle.safl_circuit.specs.Equations.{go, ends, loads, starts, clears, starts_it, starts_other, next}
use Rattle.safl_lower.specs.declared.loads.Load.{Load}
use Rattle.safl_lower.specs.Sources.{IsSource}
use Rattle.safl_lower.specs.Tables.{pin, taken_at, taken_from, on_from, one_word, LoadsFit, SomeFit, BitsFit}
use Rattle.safl_unit.specs.declared.pins.Bank.{Bank}
use Rattle.safl_unit.specs.declared.pins.Pins.{Pins}
use Rattle.safl_unit.specs.declared.pins.Returns.{Returns}
use Rattle.safl_unit.specs.declared.pins.Outcomes.{Outcomes}
use Rattle.safl_unit.specs.Cycles.{BankFits, BankShows, InEachCycle}

-- ---- what the sites show

-- the ports of a site are two bits and a word of the width of the called function's result
pub record PortFits (n : Netlist) (p : SitePorts) (w : ℕ) : Type 0 where
  pub sent : IsSource n p.sent 1
  pub returned : IsSource n p.returned 1
  pub value : IsSource n p.value w

pub record ReturnsFit (C : Program) (n : Netlist) (s : Returns) : Type 0 where
  pub ret_length : length s.ret.items ≡ suc C.sites
  pub ports_length : length s.ports.items ≡ suc C.sites
  pub ret : (k : ℕ) → 0 < k → k ≤ C.sites → IsSource n (pin s.ret.items k) 1
  pub port : (k : ℕ) (p : SitePorts) → 0 < k → k ≤ C.sites → slice_get s.ports.items k ≡ Some p → PortFits n p (C.result (C.callee k))

-- whether each site is delivered to, has returned and was sent is as the equations say
pub record ReturnsShow (C : Program) (P : Choice) (s : Returns) (v : Val) (r : Registers) : Type 0 where
  pub ret : (k : ℕ) → 0 < k → k ≤ C.sites → on v (pin s.ret.items k) ≡ ret C r k
  pub back : (k : ℕ) → 0 < k → k ≤ C.sites → returned_word v (slice_get s.ports.items k) ≡ on_wires C P r k
  pub sent : (k : ℕ) → 0 < k → k ≤ C.sites → was_sent v (slice_get s.ports.items k) ≡ r.sent k

pub record HasReturns (C : Program) (P : Choice) (n : Netlist) (p : Pins) (s : Returns) : Type 0 where
  pub fits : ReturnsFit C n s
  pub shows : InEachCycle C P n p (λ v r i. ReturnsShow C P s v r)

-- ---- what the bodies come to

-- the words with which a call is wanted. The call of main from outside is wanted by `start`
abbrev pub called : Program → Choice → Registers → Inputs → ℕ → Option (List Word)
called C P r i zero = cond i.start (Some i.words) None
called C P r i (suc k) = body_wants C P r (suc k)

pub record OutcomesFit (C : Program) (n : Netlist) (o : Outcomes) : Type 0 where
  pub ends_length : length o.ends.items ≡ C.functions
  pub loops_length : length o.loops.items ≡ C.functions
  pub wants_length : length o.wants.items ≡ suc C.sites
  pub ends : LoadsFit n o.ends.items (λ f. C.result f ∷ [])
  pub loops : SomeFit n o.loops.items C.params
  pub wants : LoadsFit n o.wants.items (λ k. C.params (C.callee k))

pub record OutcomesShow (C : Program) (P : Choice) (o : Outcomes) (v : Val) (r : Registers) (i : Inputs) : Type 0 where
  pub ends : (f : ℕ) → f < C.functions → taken_at v o.ends.items f ≡ one_word (end_word C P r f)
  pub loops : (f : ℕ) → f < C.functions → taken_from v o.loops.items f ≡ loop_words C P r f
  pub wants : (k : ℕ) → k ≤ C.sites → taken_at v o.wants.items k ≡ called C P r i k

pub record HasOutcomes (C : Program) (P : Choice) (n : Netlist) (p : Pins) (o : Outcomes) : Type 0 where
  pub fits : OutcomesFit C n o
  pub shows : InEachCycle C P n p (λ v r i. OutcomesShow C P o v r i)

-- ---- which sites start; site 0 is the call of main from outside

-- a bit for each site
pub record GoesFit (C : Program) (n : Netlist) (goes : List Sig) : Type 0 where
  pub count : length goes ≡ suc C.sites
  pub each : (k : ℕ) → k ≤ C.sites → IsSource n (pin goes k) 1

pub record HasGoes (C : Program) (P : Choice) (n : Netlist) (p : Pins) (goes : List Sig) : Type 0 where
  pub count : length goes ≡ suc C.sites
  pub fits : (k : ℕ) → k ≤ C.sites → IsSource n (pin goes k) 1
  pub shows : InEachCycle C P n p (λ v r i. (k : ℕ) → k ≤ C.sites → on v (pin goes k) ≡ go C P r i k)

-- ---- the edge

-- by unit, a load of its results' width, where there is one
pub record EndsFit (C : Program) (n : Netlist) (all : List (Option Load)) : Type 0 where
  pub count : length all ≡ C.functions
  pub each : SomeFit n all (λ u. C.result u ∷ [])

-- by unit or by function, a bit, where there is one
pub record TestsFit (C : Program) (n : Netlist) (bits : List (Option Sig)) : Type 0 where
  pub count : length bits ≡ C.functions
  pub each : BitsFit n bits

-- for each unit, the word of the first of its functions that ends
pub record HasEnds (C : Program) (P : Choice) (n : Netlist) (p : Pins) (all : List (Option Load)) : Type 0 where
  pub count : length all ≡ C.functions
  pub fits : SomeFit n all (λ u. C.result u ∷ [])
  pub shows : InEachCycle C P n p (λ v r i. (u : ℕ) → u < C.functions → taken_from v all u ≡ one_word (ends C P r u))

-- for each function, the arguments of the first site that loads it
pub record HasLoads (C : Program) (P : Choice) (n : Netlist) (p : Pins) (all : List (Option Load)) : Type 0 where
  pub count : length all ≡ C.functions
  pub fits : SomeFit n all C.params
  pub shows : InEachCycle C P n p (λ v r i. (f : ℕ) → f < C.functions → taken_from v all f ≡ loads C P r i f)

-- the bits of a table show a test on units or functions
pub record HasBits (C : Program) (P : Choice) (n : Netlist) (p : Pins) (bits : List (Option Sig)) (test : Registers → Inputs → ℕ → Bool) : Type 0 where
  pub count : length bits ≡ C.functions
  pub fits : BitsFit n bits
  pub shows : InEachCycle C P n p (λ v r i. (f : ℕ) → f < C.functions → on_from v bits f ≡ test r i f)

-- for each unit, whether a site starts it; and whether its sites are cleared
abbrev pub HasStarts : Program → Choice → Netlist → Pins → List (Option Sig) → Type 0
HasStarts C P n p bits = HasBits C P n p bits (λ r i u. is_some (starts C P r i u))

abbrev pub HasClears : Program → Choice → Netlist → Pins → List (Option Sig) → Type 0
HasClears C P n p bits = HasBits C P n p bits (λ r i u. clears C P r u)

-- for each function, whether a site or a tail call starts it; and whether one starts another function of its unit
abbrev pub HasEntries : Program → Choice → Netlist → Pins → List (Option Sig) → Type 0
HasEntries C P n p bits = HasBits C P n p bits (λ r i f. starts_it C P r i f)

abbrev pub HasRivals : Program → Choice → Netlist → Pins → List (Option Sig) → Type 0
HasRivals C P n p bits = HasBits C P n p bits (λ r i f. starts_other C P r i f)

-- the next words of all registers
pub record HasNext (C : Program) (P : Choice) (n : Netlist) (p : Pins) (b : Bank) : Type 0 where
  pub fits : BankFits C n b
  pub shows : InEachCycle C P n p (λ v r i. BankShows C P b v (next C P i r))
