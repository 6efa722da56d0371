use Rattle.safl_reshape.proofs.Common.{ap, is_member, known, sym, ◌∙◌}
use Rattle.safl_reshape.proofs.CalledMembers.{if_calls, arms_go_on, let_calls, case_calls, op_calls, call_calls}
use Rattle.safl_reshape.proofs.own.+own.Goals as goal
use Rattle.safl_reshape.proofs.own.+own.Goals.{calls_own-then-calls_own, calls_own-else-calls_own}

pub calls_own-returns-else-calls_own-2 : goal.calls_own-returns-else-calls_own-2
calls_own-returns-else-calls_own-2 t c =
    elim c.if-calls_own.branch [
      | calls_own-then-calls_own w ↦ absurd (let v = w.value-is in let y = w.if-calls_own.true in let n = c.if-calls_own-2.false in cc)
      | calls_own-else-calls_own w ↦
          if_calls is_member (known c.args.heads.now c.args.unit) c.in-If.ensures.shown (sym c.calls_own.ensures ∙ w.if-calls_own.false)
          (sym w.calls_own-else-calls_own.ensures ∙ (sym w.value-is ∙ c.if-calls_own-2.false)) c.calls_own-else-calls_own-2.ensures
    ]

pub some_arm_calls_own-loop-arm-preserved : goal.some_arm_calls_own-loop-arm-preserved
some_arm_calls_own-loop-arm-preserved t c =
    arms_go_on is_member (known c.args.heads.now c.args.unit) c.args.arms.now c.loop-arm.arm-index c.arm-item.result _ c.loop-arm-test.true c.arm-item.is
    (sym c.calls_own.ensures ∙ c.if-calls_own.false) (sym c.calls_own-else-calls_own.ensures ∙ c.if-calls_own-2.false) c.loop-arm.invariant

pub calls_own-returns-in-Let : goal.calls_own-returns-in-Let
calls_own-returns-in-Let t c =
    let_calls is_member (known c.args.heads.now c.args.unit) _ c.in-Let.ensures.shown c.some_bind_calls_own-in_binds.ensures
    c.calls_own-in_body.ensures c.either.ensures

pub calls_own-returns-in-Case : goal.calls_own-returns-in-Case
calls_own-returns-in-Case t c =
    case_calls is_member (known c.args.heads.now c.args.unit) _ _ c.in-Case.ensures.shown c.calls_own-in_value.ensures
    c.some_arm_calls_own-in_arms.ensures c.calls_own-in_other.ensures c.any_of_three.ensures

pub calls_own-returns-in-Op : goal.calls_own-returns-in-Op
calls_own-returns-in-Op t c = op_calls is_member (known c.args.heads.now c.args.unit) _ c.in-Op.ensures.shown c.some_calls_own.ensures

pub calls_own-returns-in-Call : goal.calls_own-returns-in-Call
calls_own-returns-in-Call t c =
    call_calls is_member (known c.args.heads.now c.args.unit) _ c.in-Call.ensures.shown
    (c.is_member-itself.ensures ∙ ap is_member c.find_callee.ensures.found) c.some_calls_own-in_arguments.ensures c.either-in-Call.ensures
