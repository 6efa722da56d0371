use Rattle.std.proofs.Common.{subst}
use Rattle.safl_run.specs.Steps.{IsCalled}
use Rattle.safl_run.proofs.harness.call.Goals as goal

pub run_called-requires : goal.run_called-requires
run_called-requires c = (c.args.args.now, subst (λ m. IsCalled m c.args.args.now c.take_arguments.new.harness) c.net.ensures c.take_arguments.ensures)

pub returns-clause-answers : goal.returns-clause-answers
returns-clause-answers c =
    c.run_called.ensures.answers c.args.args.now (subst (λ m. IsCalled m c.args.args.now c.take_arguments.new.harness) c.net.ensures c.take_arguments.ensures)
