use Rattle.safl_command.proofs.Common.{found_of, sym, ◌∙◌}
use Rattle.safl_command.specs.Values.{is_number, number_of}
use Rattle.safl_command.proofs.Values.{value_is, number_is}
use Rattle.safl_command.proofs.arguments.number_in.Goals as goal

pub returns-in-Some : goal.returns-in-Some
returns-in-Some c =
    number_is (is_number c.in-Some.word.now) c.in-Some.word.now c.number_of.result c.number_of.ensures.some c.number_of.ensures.number
    ∙ sym (value_is (found_of c.args.values.now) c.args.id.now number_of c.get_str.result c.in-Some.word c.get_str.ensures c.in-Some.is)
