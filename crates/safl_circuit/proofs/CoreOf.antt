-- The machine's laws, as the circuit uses them.
use Rattle.safl_circuit.proofs.Common.{IsWellFormed, Main, Program, latest, numbered}
use Rattle.std.proofs.Common.{◌≡◌, List, arith}
use Rattle.safl_word.specs.Words.{Word, widths}
use Rattle.safl_calls.proofs.PictureLaws.{one_meaning}
use Rattle.safl_calls.proofs.MachineLaws.{right, goes_on, few_moves}
use Rattle.safl_circuit.proofs.DoneOnce.{Core}

pub core_of : (C : Program) → IsWellFormed C → (args : List Word) → widths args ≡ C.params C.main → (v : Word) (d : Main C args v) → Core C args v (latest C args d)
core_of C wf args sized v d = record {
  value = λ es legal w over. let r = right C C.functions (numbered C wf) wf.numbered args es legal w over in (one_meaning C args w v r.0 d).0;
  most = λ es legal. let b = few_moves C C.functions (numbered C wf) wf.numbered args es legal v d in omega (arith, b);
  lively = λ es legal not_yet. goes_on C C.functions (numbered C wf) wf.numbered args es legal sized (λ w e. absurd (not_yet w e));
}
