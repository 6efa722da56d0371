use Rattle.safl_sites.proofs.Common.{shown_term, sym, ◌∙◌}
use Rattle.safl_sites.proofs.LetsReach.{in_body_call, in_body_other, in_body_const, in_body_var, not_if, not_let, not_op, not_loop}
use Rattle.safl_sites.proofs.PartsOfParts.{may_args}
use Rattle.safl_sites.proofs.keep.reach_body.Goals as goal

pub reach_in-requires : goal.reach_in-requires
reach_in-requires c = (_, may_args c.in-Call.ensures c.requires.1)

pub returns-in-Call : goal.returns-in-Call
returns-in-Call c = λ k. rw c.in-Call.ensures (in_body_call _ k _ _ _ (c.reach_in.ensures k))

pub returns-in-If : goal.returns-in-If
returns-in-If c = λ k. in_body_other _ k (shown_term c.args.body.now) (λ f j ts q. not_if (sym c.in-If.ensures ∙ q)) (c.reach.ensures k)

pub returns-in-Let : goal.returns-in-Let
returns-in-Let c = λ k. in_body_other _ k (shown_term c.args.body.now) (λ f j ts q. not_let (sym c.in-Let.ensures ∙ q)) (c.reach-in-Let.ensures k)

pub returns-in-Op : goal.returns-in-Op
returns-in-Op c = λ k. in_body_other _ k (shown_term c.args.body.now) (λ f j ts q. not_op (sym c.in-Op.ensures ∙ q)) (c.reach-in-Op.ensures k)

pub returns-in-Loop : goal.returns-in-Loop
returns-in-Loop c = λ k. in_body_other _ k (shown_term c.args.body.now) (λ f j ts q. not_loop (sym c.in-Loop.ensures ∙ q)) (c.reach-in-Loop.ensures k)

pub returns-in-Const : goal.returns-in-Const
returns-in-Const c = λ k. rw c.in-Const.ensures (in_body_const _ k _)

pub returns-in-Var : goal.returns-in-Var
returns-in-Var c = λ k. rw c.in-Var.ensures (in_body_var _ k _)
