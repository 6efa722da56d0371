use Rattle.std.proofs.Common.{List, ap, ◌∙◌, arith}
use Rattle.safl_tree.specs.Shown.{shown_node}
use Rattle.safl_tree.specs.declared.tree.Node.{Node, size-Node}
use Rattle.safl_tree.specs.declared.tree.Node.TheViews.{sized-If, sized-Let, sized-Case, sized-Op, sized-Call}
use Rattle.safl_tree.specs.declared.tree.Expr.{Expr, size-Expr, size_is-Expr}
use Rattle.safl_tree.specs.declared.tree.Bind.{Bind, size-Bind}
use Rattle.safl_tree.specs.declared.tree.Arm.{Arm, size-Arm}
use denote.Param.Weighed.{most}
use Rattle.safl_tree.proofs.ShownTrees.{let_shows, case_shows, op_shows, call_shows}
use Rattle.safl_tree.proofs.opened.top.Goals as goal

pub returns-in-Let-clause-shown : goal.returns-in-Let-clause-shown
returns-in-Let-clause-shown c =
    let p = c.args.e.now.place in
    rw (c.deref-in-Let.ensures.value, c.deref-in-Let-2.ensures) (ap (λ (n : Node). shown_node n p) c.in-Let.is ∙ let_shows c.in-Let.binds c.in-Let.body p)

pub returns-in-Case-clause-shown : goal.returns-in-Case-clause-shown
returns-in-Case-clause-shown c =
    let p = c.args.e.now.place in
    rw (c.deref-in-Case.ensures, c.deref-in-Case-2.ensures.value, c.deref-in-Case-3.ensures)
    (ap (λ (n : Node). shown_node n p) c.in-Case.is ∙ case_shows c.in-Case.scrutinee c.in-Case.arms c.in-Case.default p)

pub returns-in-Op-clause-shown : goal.returns-in-Op-clause-shown
returns-in-Op-clause-shown c =
    let p = c.args.e.now.place in
    rw c.deref-in-Op.ensures.value (ap (λ (n : Node). shown_node n p) c.in-Op.is ∙ op_shows c.in-Op.operator c.in-Op.operands p)

pub returns-in-Call-clause-shown : goal.returns-in-Call-clause-shown
returns-in-Call-clause-shown c =
    let p = c.args.e.now.place in
    rw c.deref-in-Call.ensures.value (ap (λ (n : Node). shown_node n p) c.in-Call.is ∙ call_shows c.in-Call.name c.in-Call.arguments p)

pub returns-in-If-clause-below : goal.returns-in-If-clause-below
returns-in-If-clause-below c =
    let n = ap size-Node c.in-If.is ∙ sized-If c.in-If.condition c.in-If.first c.in-If.second in
    let e = size_is-Expr c.args.e.now in (
      omega (arith, e, n, ap size-Expr c.deref.ensures),
      omega (arith, e, n, ap size-Expr c.deref-in-If.ensures),
      omega (arith, e, n, ap size-Expr c.deref-in-If-2.ensures),
    )

pub returns-in-Let-clause-below : goal.returns-in-Let-clause-below
returns-in-Let-clause-below c =
    let n = ap size-Node c.in-Let.is ∙ sized-Let c.in-Let.binds c.in-Let.body in
    let e = size_is-Expr c.args.e.now in
    (omega (arith, e, n, ap (λ (l : List Bind). most size-Bind l) c.deref-in-Let.ensures.value), omega (arith, e, n, ap size-Expr c.deref-in-Let-2.ensures))

pub returns-in-Case-clause-below : goal.returns-in-Case-clause-below
returns-in-Case-clause-below c =
    let n = ap size-Node c.in-Case.is ∙ sized-Case c.in-Case.scrutinee c.in-Case.arms c.in-Case.default in
    let e = size_is-Expr c.args.e.now in (
      omega (arith, e, n, ap size-Expr c.deref-in-Case.ensures),
      omega (arith, e, n, ap (λ (l : List Arm). most size-Arm l) c.deref-in-Case-2.ensures.value),
      omega (arith, e, n, ap size-Expr c.deref-in-Case-3.ensures),
    )

pub returns-in-Op-clause-below : goal.returns-in-Op-clause-below
returns-in-Op-clause-below c =
    let n = ap size-Node c.in-Op.is ∙ sized-Op c.in-Op.operator c.in-Op.operands in
    omega (arith, size_is-Expr c.args.e.now, n, ap (λ (l : List Expr). most size-Expr l) c.deref-in-Op.ensures.value)

pub returns-in-Call-clause-below : goal.returns-in-Call-clause-below
returns-in-Call-clause-below c =
    let n = ap size-Node c.in-Call.is ∙ sized-Call c.in-Call.name c.in-Call.arguments in
    omega (arith, size_is-Expr c.args.e.now, n, ap (λ (l : List Expr). most size-Expr l) c.deref-in-Call.ensures.value)
