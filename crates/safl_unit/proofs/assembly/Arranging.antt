-- A circuit that is finished is whole, and its signals stand in order.
use Rattle.safl_unit.proofs.Common.{AreTemps, Bank, Choice, Controls, Grows, HasCell, IsNetlist, Names, Pins, Program, Scheme}
use Rattle.safl_unit.proofs.Common.{append_cancel_left, codes, kind_in, wires}
use Rattle.std.proofs.Common.{◌≡◌, ℕ, suc, List, [], ◌∷◌, ◌++◌, map, Option, Some, is_some, slice_get, refl, sym, ap, subst, ◌∙◌, append_assoc}
use Rattle.safl_net.specs.Netlist.{Netlist, Signal, Kind, Input, Reg, Wire, Cell, width_in}
use Rattle.safl_net.specs.Whole.{IsWhole}
use Rattle.safl_net.specs.Arranged.{IsInput, IsRegister, IsWire, Each, IsInOrder}
use Rattle.safl_net.proofs.Reading.{place_of, output_place_of}
use Rattle.safl_net.proofs.EachOf.{each_join}
use Rattle.safl_circuit.specs.Layout.{Line, layout_inputs}
use Rattle.safl_unit.specs.Ties.{register_ties, wire_ties}
use Rattle.safl_unit.specs.Finished.{input_line, set_register, set_wire, declared_signals, declared_net, Finishes}

-- ---- what each signal of a list is

each_made : {A : Type 0} (Q : Signal → Type 0) (make : A → Signal) (xs : List A) → ((x : A) → Q (make x)) → Each Q (map make xs)
each_made Q make [] f = tt
each_made Q make (x ∷ xs) f = (f x, each_made Q make xs f)

wire_kind : (k : Kind) → HasCell k → (cell : Option Cell) × (k ≡ Wire cell)
wire_kind Input h = absurd h
wire_kind (Reg init next) h = absurd h
wire_kind (Wire cell) h = (cell, refl)

temps_wires : (i : ℕ) (gs : List Signal) → AreTemps i gs → Each IsWire gs
temps_wires i [] h = tt
temps_wires i (g ∷ gs) h = (wire_kind g.kind h.1, temps_wires (suc i) gs h.2)

abbrev first_width : List Line → ℕ
first_width [] = 0
first_width (l ∷ ls) = l.1

-- ---- the finished net

module _ (C : Program) (D : Names) (P : Choice) (p : Pins) (b : Bank) (T : Controls) (old new : Netlist) (f : Finishes C D P p b T old new) where
  abbrev inputs : List Signal
  inputs = map input_line (layout_inputs C D)

  abbrev registers : List Signal
  registers = map set_register (register_ties C D P b)

  abbrev named : List Signal
  named = map set_wire (wire_ties C D P p.first_wire T)

  pub finished_order : Grows (declared_net C D P) old → IsInOrder new
  finished_order grown = record {
    inputs = inputs;
    registers = registers;
    wires = named ++ f.more;
    joined = f.signals ∙ append_assoc inputs (registers ++ named) f.more ∙ ap (λ l. inputs ++ l) (append_assoc registers named f.more);
    are_inputs = each_made IsInput input_line (layout_inputs C D) (λ l. refl);
    are_registers = each_made IsRegister set_register (register_ties C D P b) (λ t. (0, Some t.1.0, refl));
    are_wires = each_join IsWire named f.more (each_made IsWire set_wire (wire_ties C D P p.first_wire T) (λ t. (_, refl)))
        (temps_wires (wires (declared_signals C D P)) f.more (subst (AreTemps (wires (declared_signals C D P)))
        (append_cancel_left (declared_signals C D P) grown.more f.more (sym grown.is ∙ f.before)) grown.temps));
  }

  pub finished_whole : IsNetlist new → Scheme C D P new → IsWhole new
  finished_whole netlist s = record {
    set = s.whole;
    start = record {
      signal = 0;
      at = place_of new 0 (input_line (codes "start", 1)) netlist (ap (λ gs. slice_get gs 0) f.signals);
      input = ap (λ gs. kind_in (slice_get gs 0)) f.signals;
      bit = ap (λ gs. width_in (slice_get gs 0)) f.signals;
    };
    done = record {
      signal = f.main.fin.0;
      at = output_place_of new 0 (codes "done", f.main.fin.0) netlist (ap (λ os. slice_get os 0) f.outputs);
      bit = sym (ap (λ os. first_width (map (λ (o : List ℕ × ℕ). (o.0, width_in (slice_get new.signals o.1))) os)) f.outputs) ∙ ap first_width s.outputs;
    };
    result = ap is_some (output_place_of new 1 (codes "result", f.main.res.0) netlist (ap (λ os. slice_get os 1) f.outputs));
  }
