use Rattle.safl_command.proofs.Common.{found_of, sym, ◌∙◌}
use Rattle.safl_command.specs.Values.{is_within, number_within}
use Rattle.safl_command.proofs.Values.{value_is, number_is}
use Rattle.safl_command.proofs.arguments.within_in.Goals as goal

pub returns-in-Some-clause-number : goal.returns-in-Some-clause-number
returns-in-Some-clause-number c =
    number_is (is_within c.args.most c.in-Some.word.now) c.in-Some.word.now c.number_within.result c.number_within.ensures.there c.number_within.ensures.number
    ∙ sym (value_is (found_of c.args.values.now) c.args.id.now (number_within c.args.most) c.get_str.result c.in-Some.word c.get_str.ensures c.in-Some.is)
