use Rattle.safl_check.proofs.Common.{All, BodyHasSlots, shown_definitions}
use Rattle.safl_check.proofs.Walked.{IsWalked}
use Rattle.safl_check.proofs.functions.check_functions.Given as goal

abbrev pub invariant-loop-number : goal.invariant-loop-number
invariant-loop-number l = record {
  walked : IsWalked (shown_definitions l.defs) l.all_heads l.functions.items l.number l.first_site;
  slots : All BodyHasSlots l.functions.items;
}
