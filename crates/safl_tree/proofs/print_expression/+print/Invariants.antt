use Rattle.safl_tree.proofs.Common.{binds_of, drop, shown_bounds, shown_labelled, shown_trees, trees_of}
use Rattle.safl_word.specs.declared.token.Sym.TheVariants as syms
use Rattle.safl_tree.specs.Printed.{sym, part_words, bind_words, labelled_words}
use Rattle.safl_tree.proofs.Writing.{behind, Leaves}
use Rattle.safl_tree.proofs.print_expression.+print.Given as goal

-- with what is left the text is that of all
abbrev pub invariant-push_arms-loop-arm : goal.invariant-push_arms-loop-arm
invariant-push_arms-loop-arm l = Leaves l.out.items (labelled_words (shown_labelled (drop l.arm-index l.arms))) l.initial.out.items (labelled_words (shown_labelled l.arms))

abbrev pub invariant-push_bindings-loop-b : goal.invariant-push_bindings-loop-b
invariant-push_bindings-loop-b l = Leaves l.out.items (behind (sym syms.Comma) (bind_words (binds_of (shown_bounds (drop l.b-index l.rest)))))
    l.initial.out.items (behind (sym syms.Comma) (bind_words (binds_of (shown_bounds l.rest))))

abbrev pub invariant-push_parts-loop-e : goal.invariant-push_parts-loop-e
invariant-push_parts-loop-e l = Leaves l.out.items (behind (sym l.between)
    (part_words l.right l.right (trees_of (shown_trees (drop l.e-index l.rest))))) l.initial.out.items
    (behind (sym l.between) (part_words l.right l.right (trees_of (shown_trees l.rest))))
