use Rattle.safl_check.proofs.Common.{shown_definitions, sym, ◌∙◌}
use Rattle.safl_check.proofs.OutcomeByParts.{count_first, limit_next, few}
use Rattle.safl_check.proofs.program.heads_within.Goals as goal

pub returns-in-Some-clause-refused : goal.returns-in-Some-clause-refused
returns-in-Some-clause-refused c = count_first (shown_definitions c.args.defs.now) c.in-Some.fault (sym c.in-Some.ensures)

pub heads_of-requires : goal.heads_of-requires
heads_of-requires c = few c.args.defs.now (sym c.in_default.ensures)

pub find_limit_fault-requires-clause-few : goal.find_limit_fault-requires-clause-few
find_limit_fault-requires-clause-few c = few c.args.defs.now (sym c.in_default.ensures)

pub returns-in-Some-2-clause-refused : goal.returns-in-Some-2-clause-refused
returns-in-Some-2-clause-refused c = limit_next (shown_definitions c.args.defs.now) c.in-Some-2.fault (sym c.in_default.ensures) (sym c.in_ok-fault.ensures ∙ c.in-Some-2.is)
