-- A net that mirrors the circuit of a program is a circuit of it too.
use Rattle.std.proofs.Common.{ℕ, List, [], ◌∷◌, ◌++◌, Bool}
use Rattle.safl_term.specs.Program.{Program}
use Rattle.safl_term.specs.WellFormed.{IsWellFormed}
use Rattle.safl_net.specs.Netlist.{Netlist, Signal}
use Rattle.safl_net.specs.Arranged.{IsWire, Each, IsInOrder}
use Rattle.safl_sites.specs.Plan.{IsPlan, Suffices}
use Rattle.safl_term.specs.Names.{Names}
use Rattle.safl_circuit.specs.Theorem.{SchemesAreCircuits}
use Rattle.safl_net.specs.Mirrors.{IsLaidOut, IsNamed, IsTemp}
use Rattle.safl_circuit.specs.Mirrored.{AreMirrors, MirrorsKeepSchemes, MirrorsKeepPlans}
use Rattle.safl_compiler.specs.Circuits.{IsCircuitOf}

module _ (law : SchemesAreCircuits) (suffice : (C : Program) (arbiter kept : ℕ → Bool) → IsPlan C arbiter kept → Suffices C arbiter kept)
    (schemes : MirrorsKeepSchemes) (plans : MirrorsKeepPlans) where
  pub mirrored : (C : Program) (D : Names) (n m : Netlist) → IsWellFormed C → IsCircuitOf C D n → AreMirrors n m → IsCircuitOf C D m
  mirrored C D n m formed c a =
      let scheme = schemes C D c.choice n m a c.scheme in
      record {
        choice = c.choice;
        plan = c.plan;
        laid = plans C D c.choice n m a c.laid;
        scheme = scheme;
        circuit = law C D c.choice m formed (suffice C c.choice.arbiter c.choice.kept c.plan) scheme;
      }

-- ---- the order of signals

named_wires : (gs : List Signal) → Each IsNamed gs → Each IsWire gs
named_wires [] e = tt
named_wires (g ∷ gs) e = (e.0.0, named_wires gs e.1)

temporary_wires : (gs : List Signal) → Each IsTemp gs → Each IsWire gs
temporary_wires [] e = tt
temporary_wires (g ∷ gs) e = (e.0.0, temporary_wires gs e.1)

both_wires : (gs hs : List Signal) → Each IsWire gs → Each IsWire hs → Each IsWire (gs ++ hs)
both_wires [] hs e f = f
both_wires (g ∷ gs) hs e f = (e.0, both_wires gs hs e.1 f)

pub laid_in_order : (n : Netlist) → IsLaidOut n → IsInOrder n
laid_in_order n l = record {
  inputs = l.inputs;
  registers = l.registers;
  wires = l.named ++ l.temporary;
  joined = l.joined;
  are_inputs = l.are_inputs;
  are_registers = l.are_registers;
  are_wires = both_wires l.named l.temporary (named_wires l.named l.are_named) (temporary_wires l.temporary l.are_temporary);
}
