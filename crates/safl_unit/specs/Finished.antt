-- The circuit before its temporaries are made, and after everything is set.
use Rattle.std.specs.Prelude.{◌≡◌, ℕ, suc, ◌+◌, ◌<◌, ◌≤◌, List, [], ◌∷◌, ◌++◌, map, length, Some, None, Result, IfOk, codes, is_some, slice_get, false}
use Rattle.safl_term.specs.Names.{Names}
use Rattle.safl_term.specs.Program.{Program}
use Rattle.safl_net.specs.declared.cell.Op.TheVariants.{Copy}
use Rattle.safl_net.specs.declared.cell.Sig.{Sig}
use Rattle.safl_net.specs.Netlist.{Netlist, Signal, Input, Reg, Wire}
use Rattle.safl_net.specs.Valuations.{IsAcyclic}
use Rattle.safl_net.specs.Growth.{Says}
use Rattle.safl_net.specs.Bits.{on}
use Rattle.safl_circuit.specs.Equations.{many, end_word, loop_words, want, ret, go}
use Rattle.safl_sites.specs.Plan.{Choice}
use Rattle.safl_circuit.specs.Layout.{Line, layout_inputs, layout_registers, layout_wires}
use Rattle.safl_lower.specs.Sources.{IsSource}
use Rattle.safl_lower.specs.Tables.{pin, EachAt}
use Rattle.safl_unit.specs.declared.pins.UnitPins.{UnitPins}
use Rattle.safl_unit.specs.declared.pins.Bank.{Bank}
use Rattle.safl_unit.specs.declared.pins.Pins.{Pins}
use Rattle.safl_unit.specs.declared.pins.Returns.{Returns}
use Rattle.safl_unit.specs.declared.pins.Outcomes.{Outcomes}
use Rattle.safl_unit.specs.declared.pins.Controls.{Controls}
use Rattle.safl_unit.specs.Cycles.{InEachCycle}
use Rattle.safl_unit.specs.Stages.{HasReturns, HasOutcomes, HasGoes}
use Rattle.safl_unit.specs.Ties.{Tie, sig_of, numbered, register_ties, wire_ties}

-- ---- the declared signals

abbrev pub input_line : Line → Signal
input_line l = record { name = l.0; width = l.1; kind = Input }

abbrev pub open_register : Line → Signal
open_register l = record { name = l.0; width = l.1; kind = Reg 0 None }

abbrev pub open_wire : Line → Signal
open_wire l = record { name = l.0; width = l.1; kind = Wire None }

abbrev pub declared_signals : Program → Names → Choice → List Signal
declared_signals C D P = map input_line (layout_inputs C D) ++ (map open_register (layout_registers C D P) ++ map open_wire (layout_wires C D P))

abbrev pub declared_net : Program → Names → Choice → Netlist
declared_net C D P = record { signals = declared_signals C D P; outputs = [] }

-- The pins are the ports and registers of the layout, in its order. A function has the registers of its unit. A function without
-- others in its unit has no register `at`, and a site that is not kept has no register `keep`; other signals of the same widths
-- stand for them.
pub record ArePins (C : Program) (D : Names) (P : Choice) (p : Pins) : Type 0 where
  pub start : p.start ≡ record { 0 = 0 }
  pub words : p.words.items ≡ numbered 1 (length (C.params C.main))
  pub first_register : p.first_register ≡ length (layout_inputs C D)
  pub first_wire : p.first_wire ≡ p.first_register + length (layout_registers C D P)
  pub registers : map sig_of (register_ties C D P p.bank) ≡ numbered p.first_register (length (layout_registers C D P))
  pub units_length : length p.bank.units.items ≡ C.functions
  pub members_length : length p.bank.members.items ≡ C.functions
  pub sites_length : length p.bank.sites.items ≡ suc C.sites
  pub unit : (f : ℕ) → f < C.functions → slice_get p.bank.units.items f ≡ slice_get p.bank.units.items (C.unit f)
  pub args : EachAt p.bank.members.items (λ f m. length m.args.items ≡ length (C.params f))
  pub lone : EachAt p.bank.members.items (λ f m. many C f ≡ false → (u : UnitPins) → slice_get p.bank.units.items f ≡ Some u → m.at ≡ u.run)
  pub spare : EachAt p.bank.sites.items (λ k s. 0 < k → P.kept k ≡ false → (u : UnitPins) → slice_get p.bank.units.items (C.callee k) ≡ Some u → s.keep ≡ u.res)

-- ---- the named wires

pub record ControlsFit (C : Program) (n : Netlist) (T : Controls) : Type 0 where
  pub ends_length : length T.ends.items ≡ C.functions
  pub loops_length : length T.loops.items ≡ C.functions
  pub wants_length : length T.wants.items ≡ suc C.sites
  pub rets_length : length T.rets.items ≡ suc C.sites
  pub goes_length : length T.goes.items ≡ suc C.sites
  pub ends : (f : ℕ) → f < C.functions → IsSource n (pin T.ends.items f) 1
  pub loops : (f : ℕ) → f < C.functions → IsSource n (pin T.loops.items f) 1
  pub wants : (k : ℕ) → 0 < k → k ≤ C.sites → IsSource n (pin T.wants.items k) 1
  pub rets : (k : ℕ) → 0 < k → k ≤ C.sites → IsSource n (pin T.rets.items k) 1
  pub goes : (k : ℕ) → k ≤ C.sites → IsSource n (pin T.goes.items k) 1

pub record HasControls (C : Program) (P : Choice) (n : Netlist) (p : Pins) (T : Controls) : Type 0 where
  pub fits : ControlsFit C n T
  pub ends : InEachCycle C P n p (λ v r i. (f : ℕ) → f < C.functions → on v (pin T.ends.items f) ≡ is_some (end_word C P r f))
  pub loops : InEachCycle C P n p (λ v r i. (f : ℕ) → f < C.functions → on v (pin T.loops.items f) ≡ is_some (loop_words C P r f))
  pub wants : InEachCycle C P n p (λ v r i. (k : ℕ) → 0 < k → k ≤ C.sites → on v (pin T.wants.items k) ≡ want C P r k)
  pub rets : InEachCycle C P n p (λ v r i. (k : ℕ) → 0 < k → k ≤ C.sites → on v (pin T.rets.items k) ≡ ret C r k)
  pub goes : InEachCycle C P n p (λ v r i. (k : ℕ) → k ≤ C.sites → on v (pin T.goes.items k) ≡ go C P r i k)

-- on success, if the returns, outcomes and starts are those of the program, so are the controls
abbrev pub GivesControls : {E : Type 0} → Result Controls E → Netlist → Netlist → Returns → Outcomes → List Sig → Type 0
GivesControls r old new s o goes = (C : Program) (P : Choice) (p : Pins)
    → HasReturns C P old p s → HasOutcomes C P old p o → HasGoes C P old p goes → IfOk r (λ t. HasControls C P new p t)

-- ---- the signals after everything is set

abbrev pub set_register : Tie → Signal
set_register t = record { name = t.0.0; width = t.0.1; kind = Reg 0 (Some t.1.0) }

abbrev pub set_wire : Tie → Signal
set_wire t = record { name = t.0.0; width = t.0.1; kind = Wire (Some (record { op = Copy; operands = t.1.0 ∷ [] })) }

-- The old net had the declared signals and some more. In the new one each register has its next signal, each named wire copies
-- its signal, and the outputs are those of main's unit.
pub record Finishes (C : Program) (D : Names) (P : Choice) (p : Pins) (next : Bank) (T : Controls) (old new : Netlist) : Type 0 where
  pub more : List Signal
  pub before : old.signals ≡ declared_signals C D P ++ more
  pub signals : new.signals ≡ (map input_line (layout_inputs C D) ++ (map set_register (register_ties C D P next)
      ++ map set_wire (wire_ties C D P p.first_wire T))) ++ more
  pub main : UnitPins
  pub is_main : slice_get p.bank.units.items C.main ≡ Some main
  pub outputs : new.outputs ≡ (codes "done", main.fin.0) ∷ (codes "result", main.res.0) ∷ []
  pub acyclic : IsAcyclic new
  pub says : Says old new
