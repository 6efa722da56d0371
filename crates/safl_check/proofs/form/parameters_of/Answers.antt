use Rattle.safl_check.proofs.NamesAsText.{param_name, params_next}
use Rattle.safl_check.proofs.form.parameters_of.Goals as goal

pub text_of-requires : goal.text_of-requires
text_of-requires c = param_name c.args.params.now c.loop-param.param-index c.param-item.result c.requires c.loop-param-test.true c.param-item.is

pub loop-param-preserved : goal.loop-param-preserved
loop-param-preserved c = params_next c.loop-param.all.items c.push.new.self.items c.args.params.now c.loop-param.param-index c.param-item.result
    c.in_ok-name.name c.loop-param-test.true c.param-item.is c.loop-param.invariant c.in_ok-name.ensures c.in_ok-push.ensures.items
