use Rattle.safl_interpreter.proofs.Common.{Enter, Figures, shown_turn}
use Rattle.std.proofs.Common.{◌+◌, ◌-◌, ◌*◌, []}
use Rattle.std.specs.Prelude.{◌↔◌}
use Rattle.safl_interpreter.specs.Accounts.{opening, shown_account}
use Rattle.safl_interpreter.specs.Rounds.{IsState, Ends, shown_stack, work}
use Rattle.safl_interpreter.specs.Sound.{call_work}
use Rattle.safl_interpreter.proofs.evaluation.measure.Given as goal

abbrev pub invariant-loop-stack : goal.invariant-loop-stack
invariant-loop-stack l = record {
  alike : (out : Figures) → Ends l.c.program [] (Enter (l.c.program.body (l.c.program.callee 0)) l.args 2) (opening l.c.program.functions) out
      ↔ Ends l.c.program (shown_stack l.stack.items) (shown_turn l.turn) (shown_account l.account) out;
  state : IsState l.c.program (shown_stack l.stack.items) (shown_turn l.turn) (shown_account l.account) l.budget;
}

abbrev pub decreases-loop-stack : goal.decreases-loop-stack
decreases-loop-stack l = work (shown_stack l.stack.items) (shown_turn l.turn) + call_work * (l.budget - l.account.calls)
