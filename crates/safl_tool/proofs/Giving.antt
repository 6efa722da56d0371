-- What a command gives, by what its parts answer.
use Rattle.safl_tool.proofs.Common.{Done, IsCircuitOf, IsNetlist, IsSourceOf, IsWhole, Names, Netlist, Program, written}
use Rattle.std.proofs.Common.{◌≡◌, ℕ, List, ◌++◌, take, drop, Option, Bool, sym, ap, ◌∙◌}
use Rattle.std.specs.Prelude.{is_some}
use Rattle.std.proofs.lemmas.List.{take-append-drop}
use Rattle.safl_verilog.specs.Laws.{WrittenReads, NoShorterText}
use Rattle.safl_vwrite.proofs.Tearing.{torn}
use Rattle.safl_net.specs.Arranged.{IsInOrder}
use Rattle.safl_tool.specs.Printed.{outcome_lines}
use Rattle.safl_tool.specs.CommandTasks.{WritesCircuit, outcome_after}
use Rattle.safl_task.specs.Tasks.{only_prints, only_writes}

-- the lines of an outcome after others
pub outcome_given : (head : List ℕ) (limit : ℕ) (answer : Option Done) (comes : Bool) (text : List ℕ) → comes ≡ is_some answer → text ≡ head ++ outcome_lines limit answer
    → only_prints comes text ≡ outcome_after head limit answer
outcome_given head limit answer comes text e f = ap (λ (b : Bool). only_prints b text) e ∙ ap (λ (t : List ℕ). only_prints (is_some answer) t) f

module _ (source : List ℕ) (C : Program) (D : Names) (n : Netlist) (reads : WrittenReads) (short : NoShorterText) where
  unfoldable pub writes : IsSourceOf source C D → IsCircuitOf C D n → IsNetlist n → IsWhole n → IsInOrder n → (text : List ℕ) → text ≡ written n → WritesCircuit source n (only_writes text)
  writes of circuit made whole in_order text is = record {
    program = C;
    names = D;
    source_of = of;
    circuit = circuit;
    made = made;
    reads = reads n made whole in_order;
    torn = λ count. torn short n made (take count (written n)) (drop count (written n)) (sym (take-append-drop count (written n)));
    is = ap only_writes is;
  }
