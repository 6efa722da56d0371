use Rattle.safl_vread.proofs.statements.driver_of.Goals as goal

pub returns-in-Assign-clause-steps : goal.returns-in-Assign-clause-steps
returns-in-Assign-clause-steps c = rw c.in-Assign.is c.assignment.ensures.steps

pub returns-in-Always-clause-steps : goal.returns-in-Always-clause-steps
returns-in-Always-clause-steps c = rw c.in-Always.is c.update_of.ensures.steps
