-- The text that is written of a whole netlist reads as that netlist, where its signals stand in order.
use Rattle.safl_verilog.proofs.Common.{IsNetlist, IsWhole, Kind, Netlist, Reads, Signal, append-nil, each_stands, filter, filter-append}
use Rattle.std.proofs.Common.{◌≡◌, List, [], ◌∷◌, ◌++◌, Bool, true, false, refl, sym, ap, subst, ◌∙◌}
use Rattle.safl_net.specs.Written.{written}
use Rattle.safl_net.specs.Arranged.{IsInput, Each, IsInOrder}
use Rattle.safl_verilog.specs.Tokens.{tokens_from}
use Rattle.safl_verilog.proofs.WholeNets.{all_set, whole_ports, IsUpdated, IsAssigned, HasPorts}
use Rattle.safl_verilog.proofs.Grammar.{spelled}
use Rattle.safl_verilog.proofs.Distinct.{filter_all, filter_none}
use Rattle.safl_verilog.proofs.Printed.{file_pieces}
use Rattle.safl_verilog.proofs.PrintedReads.{reads_back}
use Rattle.safl_verilog.proofs.Bare.{alike_faults, alike_netlist}
use Rattle.safl_verilog.proofs.FileOf.{clock, reset, ports, declarations_of, statements_of, file_of, input_kind, register_kind, wire_kind, updated_kind, assigned_kind, of_kind}
use Rattle.safl_verilog.proofs.WrittenLaid.{LaidOut, laid_out}
use Rattle.safl_verilog.proofs.WrittenRules
use Rattle.safl_verilog.proofs.WrittenMeans

module _ (n : Netlist) (net : IsNetlist n) (is rs ws : List Signal) (whole : n.signals ≡ is ++ (rs ++ ws)) (inputs : Each IsInput is) (registers : Each IsUpdated rs) (wires : Each IsAssigned ws) where
  -- the signals of each kind are those of one of the lists
  of_kind_is : (p : Kind → Bool) (a b c : List Signal) → filter (λ (g : Signal). p g.kind) is ≡ a → filter (λ (g : Signal). p g.kind) rs ≡ b → filter
      (λ (g : Signal). p g.kind) ws ≡ c → of_kind p n ≡ a ++ (b ++ c)
  of_kind_is p a b c e f g =
      let q : Signal → Bool = λ (g : Signal). p g.kind in
      ap (filter q) whole ∙ filter-append q is (rs ++ ws) ∙ ap (λ (l : List Signal). l ++ filter q (rs ++ ws)) e
      ∙ ap (λ (l : List Signal). a ++ l) (filter-append q rs ws ∙ ap (λ (l : List Signal). l ++ filter q ws) f ∙ ap (λ (l : List Signal). b ++ l) g)

  all_are : (p : Kind → Bool) (P : Signal → Type 0) → ((g : Signal) → P g → p g.kind ≡ true) → (gs : List Signal) → Each P gs → filter (λ (g : Signal). p g.kind) gs ≡ gs
  all_are p P f gs h = filter_all (λ (g : Signal). p g.kind) gs (each_stands P (λ g. p g.kind ≡ true) f gs h)

  none_are : (p : Kind → Bool) (P : Signal → Type 0) → ((g : Signal) → P g → p g.kind ≡ false) → (gs : List Signal) → Each P gs → filter (λ (g : Signal). p g.kind) gs ≡ []
  none_are p P f gs h = filter_none (λ (g : Signal). p g.kind) gs (each_stands P (λ g. p g.kind ≡ false) f gs h)

  inputs_are : of_kind input_kind n ≡ is
  inputs_are =
      of_kind_is input_kind is [] [] (all_are input_kind IsInput (λ g e. ap input_kind e) is inputs) (none_are input_kind IsUpdated (λ g e. ap input_kind e.2) rs registers)
      (none_are input_kind IsAssigned (λ g e. ap input_kind e.1) ws wires) ∙ append-nil is

  registers_are : of_kind register_kind n ≡ rs
  registers_are =
      of_kind_is register_kind [] rs [] (none_are register_kind IsInput (λ g e. ap register_kind e) is inputs) (all_are register_kind IsUpdated (λ g e. ap register_kind e.2) rs registers)
      (none_are register_kind IsAssigned (λ g e. ap register_kind e.1) ws wires) ∙ append-nil rs

  wires_are : of_kind wire_kind n ≡ ws
  wires_are =
      of_kind_is wire_kind [] [] ws (none_are wire_kind IsInput (λ g e. ap wire_kind e) is inputs) (none_are wire_kind IsUpdated (λ g e. ap wire_kind e.2) rs registers)
      (all_are wire_kind IsAssigned (λ g e. ap wire_kind e.1) ws wires)

  updated_are : of_kind updated_kind n ≡ rs
  updated_are =
      of_kind_is updated_kind [] rs [] (none_are updated_kind IsInput (λ g e. ap updated_kind e) is inputs) (all_are updated_kind IsUpdated (λ g e. ap updated_kind e.2) rs registers)
      (none_are updated_kind IsAssigned (λ g e. ap updated_kind e.1) ws wires) ∙ append-nil rs

  assigned_are : of_kind assigned_kind n ≡ ws
  assigned_are =
      of_kind_is assigned_kind [] [] ws (none_are assigned_kind IsInput (λ g e. ap assigned_kind e) is inputs) (none_are assigned_kind IsUpdated (λ g e. ap assigned_kind e.2) rs registers)
      (all_are assigned_kind IsAssigned (λ g e. ap assigned_kind e.1) ws wires)

  laid : LaidOut n is rs ws rs ws
  laid =
      subst (λ (l : List Signal). LaidOut n is rs ws rs l) assigned_are (subst (λ (l : List Signal). LaidOut n is rs ws l (of_kind assigned_kind n)) updated_are
      (subst (λ (l : List Signal). LaidOut n is rs l (of_kind updated_kind n) (of_kind assigned_kind n)) wires_are
      (subst (λ (l : List Signal). LaidOut n is l (of_kind wire_kind n) (of_kind updated_kind n) (of_kind assigned_kind n)) registers_are
      (subst (λ (l : List Signal). LaidOut n l (of_kind register_kind n) (of_kind wire_kind n) (of_kind updated_kind n) (of_kind assigned_kind n)) inputs_are (laid_out n net)))))

  reads : HasPorts n → Reads (written n) n
  reads p =
      let x = ports n is in
      let ds = declarations_of n is rs ws in
      let ss = statements_of n rs ws in
      let pieces = file_pieces clock (reset ∷ x) ds ss in
      let back = reads_back clock (reset ∷ x) ds ss laid.statements in
      record {
        tokens = tokens_from 0 pieces;
        cut = record { pieces = pieces; joined = sym laid.text; stand = laid.stand; tokens = refl };
        file = back.file;
        derived = spelled (tokens_from 0 pieces) back.file [] back.read;
        kept = alike_faults back.file (file_of n is rs ws) back.same (WrittenRules.nothing_broken n net is rs ws whole inputs registers wires p);
        means = alike_netlist back.file (file_of n is rs ws) back.same ∙ WrittenMeans.means n net is rs ws whole inputs registers wires;
      }

pub written_reads : (n : Netlist) → IsNetlist n → IsWhole n → IsInOrder n → Reads (written n) n
written_reads n net h order =
    let set = all_set n order.inputs order.registers order.wires h.set order.joined order.are_registers order.are_wires in
    reads n net order.inputs order.registers order.wires order.joined order.are_inputs set.0 set.1 (whole_ports n h)
