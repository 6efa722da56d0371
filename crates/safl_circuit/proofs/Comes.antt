-- When done comes, by the number of calls alone.
use Rattle.std.proofs.Common.{arith}
use Rattle.safl_net.specs.Valuations.{reset_state}
use Rattle.safl_circuit.specs.Theorem.{BehavedOnesCome, CorrectOnesCome}
use Rattle.safl_term.proofs.Fuelled.{agree_to}

pub behaved_come : BehavedOnesCome
behaved_come C D n state behaves args sized vs run v m gives long =
    let e = agree_to C args v m gives in
    let cost = e.1 in
    let here = behaves.prompt args sized vs run v e.0 (omega (arith, cost, long)) in
    record {
      cycle = here.cycle;
      in_time = let soon = here.in_time in omega (arith, cost, soon);
      words = here.words;
      there = here.there;
      done = here.done;
      result = here.result;
      once = here.once;
    }

pub correct_come : CorrectOnesCome
correct_come C D n correct = behaved_come C D n (reset_state n) correct.behaves
