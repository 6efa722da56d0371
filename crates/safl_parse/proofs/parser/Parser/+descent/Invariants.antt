use Rattle.safl_parse.proofs.Common.{comes, operators, read_many, shown_bounds, shown_tree, shown_trees, terminals}
use Rattle.std.proofs.Common.{◌≡◌, ◌+◌, ◌*◌, length}
use Rattle.safl_tree.specs.Reader.{comma, operand_at, expr_at, read_unary, read_chain, read_joined, read_chained, read_exprs, read_another, read_binds, read_another_bind}
use Rattle.safl_parse.proofs.parser.Parser.+descent.Given as goal

abbrev pub decreases-expr : goal.decreases-expr
decreases-expr l = 64 * l.levels

abbrev pub decreases-operand : goal.decreases-operand
decreases-operand l = 64 * l.levels

abbrev pub decreases-choice : goal.decreases-choice
decreases-choice l = 64 * l.levels + 1

abbrev pub decreases-chain : goal.decreases-chain
decreases-chain l = 64 * l.levels + 10 + 3 * l.layers

abbrev pub decreases-joined : goal.decreases-joined
decreases-joined l = 64 * l.levels + 11 + 3 * l.layer

abbrev pub decreases-compared : goal.decreases-compared
decreases-compared l = 64 * l.levels + 12 + 3 * l.layer

abbrev pub decreases-chained : goal.decreases-chained
decreases-chained l = 64 * l.levels + 12 + 3 * l.layer

abbrev pub decreases-unary : goal.decreases-unary
decreases-unary l = 64 * l.levels + 7

abbrev pub decreases-inverted : goal.decreases-inverted
decreases-inverted l = 64 * l.levels + 1

abbrev pub decreases-primary : goal.decreases-primary
decreases-primary l = 64 * l.levels + 6

abbrev pub decreases-parenthesised : goal.decreases-parenthesised
decreases-parenthesised l = 64 * l.levels + 1

abbrev pub decreases-cat : goal.decreases-cat
decreases-cat l = 64 * l.levels + 1

abbrev pub decreases-bits : goal.decreases-bits
decreases-bits l = 64 * l.levels + 1

abbrev pub decreases-ext : goal.decreases-ext
decreases-ext l = 64 * l.levels + 1

abbrev pub decreases-named : goal.decreases-named
decreases-named l = 64 * l.levels + 5

abbrev pub decreases-call : goal.decreases-call
decreases-call l = 64 * l.levels + 4

abbrev pub decreases-exprs : goal.decreases-exprs
decreases-exprs l = 64 * l.levels + 3

abbrev pub decreases-another : goal.decreases-another
decreases-another l = 64 * l.levels + 2

abbrev pub decreases-binding : goal.decreases-binding
decreases-binding l = 64 * l.levels + 4

abbrev pub decreases-bind : goal.decreases-bind
decreases-bind l = 64 * l.levels + 1

abbrev pub decreases-binds : goal.decreases-binds
decreases-binds l = 64 * l.levels + 3

abbrev pub decreases-another_bind : goal.decreases-another_bind
decreases-another_bind l = 64 * l.levels + 2

abbrev pub decreases-cases : goal.decreases-cases
decreases-cases l = 64 * l.levels + 3

abbrev pub decreases-arms : goal.decreases-arms
decreases-arms l = 64 * l.levels + 2

abbrev pub decreases-arm : goal.decreases-arm
decreases-arm l = 64 * l.levels + 1

abbrev pub decreases-last_arm : goal.decreases-last_arm
decreases-last_arm l = 64 * l.levels + 1

abbrev pub invariant-chained-chain : goal.invariant-chained-chain
invariant-chained-chain l = read_many (comes (operators l.layer))
    (read_joined l.layer (read_chain l.layer (read_unary (operand_at l.levels) (expr_at l.levels)))) (shown_tree l.left.expr)
    (terminals l.self.text.now l.rest) ≡ read_chained l.layer (read_chain l.layer (read_unary (operand_at l.levels) (expr_at l.levels)))
    (terminals l.self.text.now l.fn.tokens)

abbrev pub decreases-chained-chain : goal.decreases-chained-chain
decreases-chained-chain l = length (terminals l.self.text.now l.rest)

abbrev pub invariant-exprs-list : goal.invariant-exprs-list
invariant-exprs-list l = read_many (comes comma) (read_another (expr_at l.levels)) (shown_trees l.parts.exprs.items)
    (terminals l.self.text.now l.rest) ≡ read_exprs (expr_at l.levels) (terminals l.self.text.now l.fn.tokens)

abbrev pub decreases-exprs-list : goal.decreases-exprs-list
decreases-exprs-list l = length (terminals l.self.text.now l.rest)

abbrev pub invariant-binds-bound : goal.invariant-binds-bound
invariant-binds-bound l = read_many (comes comma) (read_another_bind (expr_at l.levels)) (shown_bounds l.bindings.binds.items)
    (terminals l.self.text.now l.rest) ≡ read_binds (expr_at l.levels) (terminals l.self.text.now l.fn.tokens)

abbrev pub decreases-binds-bound : goal.decreases-binds-bound
decreases-binds-bound l = length (terminals l.self.text.now l.rest)
