use Rattle.safl_lower.proofs.Zeroing.{constant_right, choice_right, choice_three}
use Rattle.safl_lower.proofs.resets.form_of.Goals as goal

pub choice_form-requires : goal.choice_form-requires
choice_form-requires c =
    choice_three c.args.net.now c.signals-count.ensures.netlist c.args.s c.in-Some.cell.now c.in-Some.ensures c.in-Mux.is c.as_slice.result.now c.as_slice.ensures.value

pub returns-in-Const : goal.returns-in-Const
returns-in-Const c = constant_right c.args.net.now c.args.s c.in-Some.cell.now c.in-Const.word c.in-Some.ensures c.in-Const.is c.constant_form.result c.constant_form.ensures

pub returns-in-Mux : goal.returns-in-Mux
returns-in-Mux c =
    choice_right c.args.net.now c.signals-count.ensures.netlist c.requires.settled c.args.s c.in-Some.cell.now c.in-Some.ensures c.in-Mux.is
    c.as_slice.result.now c.as_slice.ensures.value c.choice_form.result c.choice_form.ensures
