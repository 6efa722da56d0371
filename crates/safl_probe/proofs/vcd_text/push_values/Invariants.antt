use Rattle.safl_probe.proofs.Common.{drop, nameless, numbers, ◌++◌, ◌≡◌}
use Rattle.safl_probe.specs.Texts.{value_texts}
use Rattle.safl_probe.proofs.vcd_text.push_values.Given as goal

abbrev pub invariant-spots : goal.invariant-spots
invariant-spots l = l.out.items ++ value_texts l.i (nameless (drop l.i l.spots)) (numbers (drop l.i l.spots)) ≡ l.fn.out.items ++ value_texts 0 (nameless l.spots) (numbers l.spots)
