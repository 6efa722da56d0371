use Rattle.safl_parse.proofs.Common.{comes, err_from_is_err_and, goes_on, operators, stops_here, sym, terminals, ◌∙◌}
use Rattle.safl_tree.specs.Shown.{shown_tree, shown_trees, shown_bounds}
use Rattle.safl_tree.specs.Reader.{comma, operand_at, expr_at, read_unary, read_chain, read_joined, read_another, read_another_bind}
use Rattle.safl_tree.proofs.Layers.{joined_eats}
use Rattle.safl_parse.proofs.Loops.{another_eats, another_bind_eats, fails, chain_none, chain_compared, chain_chained, expr_cases}
use Rattle.safl_parse.proofs.parser.Parser.+descent.Goals as goal

pub expr-returns-then-comes-3 : goal.expr-returns-then-comes-3
expr-returns-then-comes-3 t c = rw (expr_cases c.args.levels (terminals c.args.self.now.text.now c.args.tokens.now) c.if-levels-eq0.false
    (sym c.comes.ensures ∙ c.if-comes.false) (sym c.comes-else-comes.ensures ∙ c.if-comes-2.false) (sym c.comes-else-comes-2.ensures ∙ c.if-comes-3.true)) c.cases.ensures

pub chain-returns-then-layers-eq0 : goal.chain-returns-then-layers-eq0
chain-returns-then-layers-eq0 t c = rw (chain_none c.args.layers (read_unary (operand_at c.args.levels) (expr_at c.args.levels))
    (terminals c.args.self.now.text.now c.args.tokens.now) c.if-layers-eq0.true) c.unary.ensures

pub chain-returns-then-layer-eq-COMPARISONS : goal.chain-returns-then-layer-eq-COMPARISONS
chain-returns-then-layer-eq-COMPARISONS t c = rw (chain_compared c.args.layers (read_unary (operand_at c.args.levels) (expr_at c.args.levels))
    (terminals c.args.self.now.text.now c.args.tokens.now) c.if-layers-eq0.false c.if-layer-eq-COMPARISONS.true) c.compared.ensures

pub chain-returns-else-layer-eq-COMPARISONS : goal.chain-returns-else-layer-eq-COMPARISONS
chain-returns-else-layer-eq-COMPARISONS t c = rw (chain_chained c.args.layers (read_unary (operand_at c.args.levels) (expr_at c.args.levels))
    (terminals c.args.self.now.text.now c.args.tokens.now) c.if-layers-eq0.false c.if-layer-eq-COMPARISONS.false) c.chained.ensures

pub chained-returns : goal.chained-returns
chained-returns t c = stops_here (comes (operators c.args.layer))
    (read_joined c.args.layer (read_chain c.args.layer (read_unary (operand_at c.args.levels) (expr_at c.args.levels))))
    (joined_eats c.args.layer c.args.levels) (shown_tree c.chain.left.expr) (terminals c.args.self.now.text.now c.chain.rest.now) _ c.chain.invariant
    (sym c.comes_operator.ensures ∙ c.chain-test.false)

pub chained-chain-smaller : goal.chained-chain-smaller
chained-chain-smaller t c = joined_eats c.args.layer c.args.levels (shown_tree c.chain.left.expr)
    (terminals c.args.self.now.text.now c.chain.rest.now) (terminals c.args.self.now.text.now c.in_ok-next.after.now)
    (shown_tree c.in_ok-next.next.expr) c.in_ok-next.ensures

pub chained-chain-preserved : goal.chained-chain-preserved
chained-chain-preserved t c = goes_on (comes (operators c.args.layer))
    (read_joined c.args.layer (read_chain c.args.layer (read_unary (operand_at c.args.levels) (expr_at c.args.levels))))
    (joined_eats c.args.layer c.args.levels) (shown_tree c.chain.left.expr) (terminals c.args.self.now.text.now c.chain.rest.now) _ c.chain.invariant
    (shown_tree c.in_ok-next.next.expr) (terminals c.args.self.now.text.now c.in_ok-next.after.now) (sym c.comes_operator.ensures ∙ c.chain-test.true)
    c.in_ok-next.ensures

pub chained-returns-in_err-next : goal.chained-returns-in_err-next
chained-returns-in_err-next t c =
    let p = err_from_is_err_and c.from_residual-in_err-next.result c.from_residual-in_err-next.ensures.1 in
    rw (p.1, p.2) (fails c.args.self.now.text.now c.in_err-next.field-0.0 (comes (operators c.args.layer))
    (read_joined c.args.layer (read_chain c.args.layer (read_unary (operand_at c.args.levels) (expr_at c.args.levels))))
    (joined_eats c.args.layer c.args.levels) (shown_tree c.chain.left.expr) (terminals c.args.self.now.text.now c.chain.rest.now) _
    c.chain.invariant (sym c.comes_operator.ensures ∙ c.chain-test.true) c.in_err-next.ensures)

pub exprs-returns : goal.exprs-returns
exprs-returns t c = stops_here (comes comma) (read_another (expr_at c.args.levels)) (another_eats c.args.levels)
    (shown_trees c.list.parts.exprs.items) (terminals c.args.self.now.text.now c.list.rest.now) _ c.list.invariant (sym c.comes.ensures ∙ c.list-test.false)

pub exprs-list-smaller : goal.exprs-list-smaller
exprs-list-smaller t c = (another_eats c.args.levels) (shown_trees c.list.parts.exprs.items) (terminals c.args.self.now.text.now c.list.rest.now)
    (terminals c.args.self.now.text.now c.in_ok-next.after.now) (shown_trees c.in_ok-next.next.exprs.items) c.in_ok-next.ensures

pub exprs-list-preserved : goal.exprs-list-preserved
exprs-list-preserved t c = goes_on (comes comma) (read_another (expr_at c.args.levels)) (another_eats c.args.levels)
    (shown_trees c.list.parts.exprs.items) (terminals c.args.self.now.text.now c.list.rest.now) _ c.list.invariant
    (shown_trees c.in_ok-next.next.exprs.items) (terminals c.args.self.now.text.now c.in_ok-next.after.now) (sym c.comes.ensures ∙ c.list-test.true) c.in_ok-next.ensures

pub exprs-returns-in_err-next : goal.exprs-returns-in_err-next
exprs-returns-in_err-next t c =
    let p = err_from_is_err_and c.from_residual-in_err-next.result c.from_residual-in_err-next.ensures.1 in
    rw (p.1, p.2) (fails c.args.self.now.text.now c.in_err-next.field-0.0 (comes comma) (read_another (expr_at c.args.levels))
    (another_eats c.args.levels) (shown_trees c.list.parts.exprs.items) (terminals c.args.self.now.text.now c.list.rest.now) _ c.list.invariant
    (sym c.comes.ensures ∙ c.list-test.true) c.in_err-next.ensures)

pub binds-returns : goal.binds-returns
binds-returns t c = stops_here (comes comma) (read_another_bind (expr_at c.args.levels)) (another_bind_eats c.args.levels)
    (shown_bounds c.bound.bindings.binds.items) (terminals c.args.self.now.text.now c.bound.rest.now) _ c.bound.invariant (sym c.comes.ensures ∙ c.bound-test.false)

pub binds-bound-smaller : goal.binds-bound-smaller
binds-bound-smaller t c = (another_bind_eats c.args.levels) (shown_bounds c.bound.bindings.binds.items)
    (terminals c.args.self.now.text.now c.bound.rest.now) (terminals c.args.self.now.text.now c.in_ok-next.after.now)
    (shown_bounds c.in_ok-next.next.binds.items) c.in_ok-next.ensures

pub binds-bound-preserved : goal.binds-bound-preserved
binds-bound-preserved t c = goes_on (comes comma) (read_another_bind (expr_at c.args.levels)) (another_bind_eats c.args.levels)
    (shown_bounds c.bound.bindings.binds.items) (terminals c.args.self.now.text.now c.bound.rest.now) _ c.bound.invariant
    (shown_bounds c.in_ok-next.next.binds.items) (terminals c.args.self.now.text.now c.in_ok-next.after.now) (sym c.comes.ensures ∙ c.bound-test.true)
    c.in_ok-next.ensures

pub binds-returns-in_err-next : goal.binds-returns-in_err-next
binds-returns-in_err-next t c =
    let p = err_from_is_err_and c.from_residual-in_err-next.result c.from_residual-in_err-next.ensures.1 in
    rw (p.1, p.2) (fails c.args.self.now.text.now c.in_err-next.field-0.0 (comes comma) (read_another_bind (expr_at c.args.levels))
    (another_bind_eats c.args.levels) (shown_bounds c.bound.bindings.binds.items) (terminals c.args.self.now.text.now c.bound.rest.now) _
    c.bound.invariant (sym c.comes.ensures ∙ c.bound-test.true) c.in_err-next.ensures)
