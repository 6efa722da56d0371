use Rattle.safl_typing.proofs.Common.{List, ap, known, refl, sym, ◌∙◌}
use Rattle.safl_tree.specs.Shown.{shown_tree}
use Rattle.safl_typing.specs.Heads.{callee, is_site}
use Rattle.safl_typing.proofs.PlainLists.{ok_plain}
use Rattle.safl_typing.proofs.HeadsByName.{site_plain}
use Rattle.safl_typing.proofs.MarksOfParts.{marked_push, bound_push}
use Rattle.safl_typing.proofs.ListsRewritten.{let_rewrites, case_rewrites, op_rewrites, call_rewrites, all_push, binds_push, arms_front, arms_whole}
use Rattle.safl_typing.proofs.rewrite.+rewriting.Goals as goal

pub rewrite-returns-in_ok-body-in-Let-clause-rewritten : goal.rewrite-returns-in_ok-body-in-Let-clause-rewritten
rewrite-returns-in_ok-body-in-Let-clause-rewritten t c = ok_plain c.bind.result _ _ c.bind.ensures.made
    (let_rewrites c.args.e.now.place c.in-Let.ensures.shown c.in_ok-bound-in-Let.ensures.rewritten c.in_ok-body-in-Let.ensures.rewritten)

pub rewrite-returns-in_ok-body-in-Case-clause-rewritten : goal.rewrite-returns-in_ok-body-in-Case-clause-rewritten
rewrite-returns-in_ok-body-in-Case-clause-rewritten t c =
    let arms = c.in_ok-body-in-Case.ensures.rewritten (shown_tree c.in-Case.default.now) c.in_ok-default-in-Case.ensures.rewritten in
    ok_plain c.scrutinise.result _ _ c.scrutinise.ensures.made
    (case_rewrites c.args.e.now.place c.in-Case.ensures.shown c.in_ok-value-in-Case.ensures.rewritten arms)

pub rewrite-returns-in_ok-operands-in-Op-clause-rewritten : goal.rewrite-returns-in_ok-operands-in-Op-clause-rewritten
rewrite-returns-in_ok-operands-in-Op-clause-rewritten t c =
    c.operate.ensures.made ∙ op_rewrites c.args.e.now.place c.in-Op.ensures.shown c.in_ok-operands-in-Op.ensures.rewritten

pub rewrite-returns-in_ok-copied-in-Call-clause-rewritten : goal.rewrite-returns-in_ok-copied-in-Call-clause-rewritten
rewrite-returns-in_ok-copied-in-Call-clause-rewritten t c = c.call.ensures.made ∙ call_rewrites c.args.e.now.place c.in-Call.ensures.shown
    c.in_ok-copied-in-Call.ensures c.in_ok-arguments-in-Call.ensures.rewritten

pub rewrite-returns-in_ok-copied-in-Call-clause-marked : goal.rewrite-returns-in_ok-copied-in-Call-clause-marked
rewrite-returns-in_ok-copied-in-Call-clause-marked t c =
    let one = c.sites_of_callee-own.ensures ∙ sym (site_plain c.args.heads.now c.find_callee.result c.find_callee.ensures.one) ∙ ap is_site
    c.find_callee.ensures.found ∙ ap (λ (x : List _). is_site (callee (known c.args.heads.now c.args.unit) x)) (sym c.in_ok-copied-in-Call.ensures) in
    c.call.ensures.marked (known c.args.heads.now c.args.unit) one c.in_ok-arguments-in-Call.ensures.marked

pub rewrite_all-loop-e-preserved : goal.rewrite_all-loop-e-preserved
rewrite_all-loop-e-preserved t c = record {
  rewritten = all_push c.args.es.now c.loop-e.e-index c.e-item.result c.loop-e.all.items c.push.new.self.items c.in_ok-next.next c.loop-e-test.true
      c.e-item.is c.in_ok-push.ensures.items c.loop-e.invariant.rewritten c.in_ok-next.ensures.rewritten;
  marked = marked_push (known c.args.heads.now c.args.unit) c.loop-e.all.items c.push.new.self.items c.in_ok-next.next c.in_ok-push.ensures.items c.loop-e.invariant.marked c.in_ok-next.ensures.marked;
}

pub rewrite_binds-loop-b-preserved : goal.rewrite_binds-loop-b-preserved
rewrite_binds-loop-b-preserved t c = record {
  rewritten = binds_push c.args.binds.now c.loop-b.b-index c.b-item.result c.loop-b.all.items c.push.new.self.items _ c.in_ok-name.name
      c.loop-b-test.true c.b-item.is c.in_ok-push.ensures.items c.loop-b.invariant.rewritten refl c.in_ok-name.ensures refl c.in_ok-value.ensures.rewritten;
  marked = bound_push (known c.args.heads.now c.args.unit) c.loop-b.all.items c.push.new.self.items _ c.in_ok-push.ensures.items c.loop-b.invariant.marked c.in_ok-value.ensures.marked;
}

pub rewrite_arms-loop-done-preserved : goal.rewrite_arms-loop-done-preserved
rewrite_arms-loop-done-preserved t c =
    let k = known c.args.heads.now c.args.unit in
    record {
      rewritten = λ d e. arms_front c.args.place c.args.arms.now c.loop-done.done c.index-arms-count.result c.in_ok-label.label c.in_ok-value.value
          c.loop-done.body _ _ d c.loop-done-test.true c.index-arms-count.is c.in_ok-condition.ensures.made c.in_ok-label.ensures.rewritten
          c.in_ok-value.ensures.rewritten (c.loop-done.invariant.rewritten d e) c.in_ok-body.ensures.made;
      marked = λ h. c.in_ok-body.ensures.marked k (c.in_ok-condition.ensures.marked k c.in_ok-label.ensures.marked) c.in_ok-value.ensures.marked (c.loop-done.invariant.marked h);
    }

pub rewrite_arms-returns : goal.rewrite_arms-returns
rewrite_arms-returns t c = record {
  rewritten = λ d e. c.loop-done.invariant.rewritten d e ∙ arms_whole c.args.place c.args.arms.now c.loop-done.done d c.loop-done-test.false;
  marked = c.loop-done.invariant.marked;
}
