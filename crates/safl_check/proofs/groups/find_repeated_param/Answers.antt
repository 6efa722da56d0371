use Rattle.safl_check.proofs.Common.{Fault, Param}
use Rattle.std.proofs.Common.{◌∙◌, List, [], ap, sym, Some}
use Rattle.safl_typing.specs.Walk.{repeated}
use Rattle.safl_check.proofs.EarlierNames.{places, repeated_here, repeated_next}
use Rattle.safl_check.proofs.groups.find_repeated_param.Goals as goal

pub returns-then-is_named : goal.returns-then-is_named
returns-then-is_named c =
    let here = repeated_here c.as_slice-params.result.now c.loop-i.i c.index-params-i.result c.is_named.result c.loop-i-test.true c.index-params-i.is c.is_named.ensures c.if-is_named.true in
    ap (λ (f : Fault). Some f) c.fault_at.ensures ∙ sym (sym (ap (λ (l : List Param). repeated [] (places l)) c.as_slice-params.ensures.value) ∙ (c.loop-i.invariant ∙ here))

pub loop-i-preserved : goal.loop-i-preserved
loop-i-preserved c =
    c.loop-i.invariant ∙ repeated_next c.as_slice-params.result.now c.loop-i.i c.index-params-i.result c.is_named.result c.loop-i-test.true c.index-params-i.is c.is_named.ensures c.if-is_named.false
