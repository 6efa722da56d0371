use Rattle.safl_tree.proofs.Common.{Arm, Bind, Expr, Primitive, binds_of, drop_read, trees_of}
use Rattle.std.proofs.Common.{◌≡◌, ℕ, ◌+◌, ◌-◌, List, [], ◌∷◌, ◌++◌, length, take, drop, OnOk, Bool, false, leb, refl, sym, ap, subst, ◌∙◌, arith}
use Rattle.safl_word.specs.declared.token.Key.TheVariants as keys
use Rattle.safl_word.specs.declared.token.Sym.TheVariants as syms
use Rattle.safl_tree.specs.Shown.{shown_tree, shown_trees, shown_bounds, shown_labelled}
use Rattle.std.proofs.lemmas.Bool.{lt-leb}
use Rattle.safl_tree.specs.Printable.{layers_of, left_context, right_context}
use Rattle.safl_tree.specs.Printed
use Rattle.safl_tree.specs.Printed.{PrintedToken, separated, enclosed, part_words, bind_words, bound_words, labelled_words, words, Writes}
use Rattle.safl_tree.proofs.Writing.{Leaves, behind, leaves_less, chain_3, chain_4, chain_6, chain_8, items_step, items_end, by_first, case_split}
use Rattle.safl_tree.proofs.print_expression.+print.Goals as goal

-- ---- an expression

pub push_expr-returns-in_ok-push_expr-in-Case-2 : goal.push_expr-returns-in_ok-push_expr-in-Case-2
push_expr-returns-in_ok-push_expr-in-Case-2 t c =
    let i = c.in-Case in
    subst (λ (ws : List PrintedToken). OnOk c.push_sym-in-Case-2.result (Writes c.args.out.now.items c.push_sym-in-Case-2.new.out.items ws))
    (ap (λ (ws : List PrintedToken). Printed.key keys.Case ∷ ws) (case_split (shown_tree i.scrutinee.now) (shown_tree i.default.now) (shown_labelled i.arms.now)) ∙ sym (ap words i.ensures.shown))
    (chain_8 c.push_sym-in-Case-2.result c.args.out.now.items c.push_key-in-Case.new.out.items c.push_expr-in-Case.new.out.items
    c.push_sym.new.out.items c.push_arms.new.out.items c.push_key-in-Case-2.new.out.items c.push_sym-in-Case.new.out.items
    c.push_expr-in-Case-2.new.out.items c.push_sym-in-Case-2.new.out.items (Printed.key keys.Case ∷ []) (words (shown_tree i.scrutinee.now))
    (Printed.sym syms.OpenBrace ∷ []) (labelled_words (shown_labelled i.arms.now)) (Printed.key keys.Default ∷ []) (Printed.sym syms.Arrow ∷ [])
    (words (shown_tree i.default.now)) (Printed.sym syms.CloseBrace ∷ []) c.in_ok-push_key-in-Case.ensures
    c.in_ok-push_expr-in-Case.ensures c.in_ok-push_sym-in-Case.ensures c.in_ok-push_arms-in-Case.ensures c.in_ok-push_key-in-Case-2.ensures
    c.in_ok-push_sym-in-Case-2.ensures c.in_ok-push_expr-in-Case-2.ensures c.push_sym-in-Case-2.ensures)

-- ---- calls and operators

pub push_call-returns : goal.push_call-returns
push_call-returns t c =
    chain_4 c.push_sym-2.result c.args.out.now.items c.push_name.new.out.items c.push_sym.new.out.items c.push_parts.new.out.items
    c.push_sym-2.new.out.items (Printed.name c.args.f.now ∷ []) (Printed.sym syms.OpenParen ∷ [])
    (separated (Printed.sym syms.Comma) (part_words 8 8 (trees_of (shown_trees c.args.es.now)))) (Printed.sym syms.CloseParen ∷ [])
    c.in_ok-push_name.ensures c.in_ok-push_sym.ensures c.in_ok-push_parts.ensures c.push_sym-2.ensures

pub push_bits-returns : goal.push_bits-returns
push_bits-returns t c =
    chain_8 c.push_sym-4.result c.args.out.now.items c.push_key.new.out.items c.push_sym.new.out.items c.push_parts.new.out.items
    c.push_sym-2.new.out.items c.push_number.new.out.items c.push_sym-3.new.out.items c.push_number-2.new.out.items c.push_sym-4.new.out.items
    (Printed.key keys.Bits ∷ []) (Printed.sym syms.OpenParen ∷ [])
    (separated (Printed.sym syms.Comma) (part_words 8 8 (trees_of (shown_trees c.args.es.now)))) (Printed.sym syms.Comma ∷ [])
    (Printed.number_word c.args.high ∷ []) (Printed.sym syms.Comma ∷ []) (Printed.number_word c.args.low ∷ []) (Printed.sym syms.CloseParen ∷ [])
    c.in_ok-push_key.ensures c.in_ok-push_sym.ensures c.in_ok-push_parts.ensures c.in_ok-push_sym-2.ensures
    (subst (λ (n : ℕ). Writes c.push_sym-2.new.out.items c.push_number.new.out.items (Printed.number_word n ∷ [])) c.from.ensures
    c.in_ok-push_number.ensures) c.in_ok-push_sym-3.ensures (subst
    (λ (n : ℕ). Writes c.push_sym-3.new.out.items c.push_number-2.new.out.items (Printed.number_word n ∷ [])) c.from-2.ensures
    c.in_ok-push_number-2.ensures) c.push_sym-4.ensures

pub push_ext-returns : goal.push_ext-returns
push_ext-returns t c =
    chain_6 c.push_sym-3.result c.args.out.now.items c.push_key.new.out.items c.push_sym.new.out.items c.push_parts.new.out.items
    c.push_sym-2.new.out.items c.push_number.new.out.items c.push_sym-3.new.out.items (Printed.key keys.Ext ∷ [])
    (Printed.sym syms.OpenParen ∷ []) (separated (Printed.sym syms.Comma) (part_words 8 8 (trees_of (shown_trees c.args.es.now))))
    (Printed.sym syms.Comma ∷ []) (Printed.number_word c.args.width ∷ []) (Printed.sym syms.CloseParen ∷ []) c.in_ok-push_key.ensures
    c.in_ok-push_sym.ensures c.in_ok-push_parts.ensures c.in_ok-push_sym-2.ensures
    (subst (λ (n : ℕ). Writes c.push_sym-2.new.out.items c.push_number.new.out.items (Printed.number_word n ∷ [])) c.from.ensures
    c.in_ok-push_number.ensures) c.push_sym-3.ensures

pub push_operation-returns-in_ok-push_parts-in-Cat : goal.push_operation-returns-in_ok-push_parts-in-Cat
push_operation-returns-in_ok-push_parts-in-Cat t c =
    subst (λ (p : Primitive). OnOk c.push_sym-in-Cat-2.result (Writes c.args.out.now.items c.push_sym-in-Cat-2.new.out.items
    (Printed.applied p (part_words (left_context p) (right_context p) (trees_of (shown_trees c.args.es.now)))))) (sym c.in-Cat.is)
    (chain_4 c.push_sym-in-Cat-2.result c.args.out.now.items c.push_key.new.out.items c.push_sym-in-Cat.new.out.items
    c.push_parts-in-Cat.new.out.items c.push_sym-in-Cat-2.new.out.items (Printed.key keys.Cat ∷ []) (Printed.sym syms.OpenParen ∷ [])
    (separated (Printed.sym syms.Comma) (part_words 8 8 (trees_of (shown_trees c.args.es.now)))) (Printed.sym syms.CloseParen ∷ [])
    c.in_ok-push_key-in-Cat.ensures c.in_ok-push_sym-in-Cat.ensures c.in_ok-push_parts-in-Cat.ensures c.push_sym-in-Cat-2.ensures)

pub push_part-returns-in_ok-push_expr : goal.push_part-returns-in_ok-push_expr
push_part-returns-in_ok-push_expr t c =
    let over : leb (layers_of (shown_tree c.args.e.now)) c.args.place
    ≡ false = lt-leb (layers_of (shown_tree c.args.e.now)) c.args.place (omega (arith, c.layers_of.ensures, c.if-layers_of-place.false)) in
    subst (λ (b : Bool). OnOk c.push_sym-else-layers_of-place.result (Writes c.args.out.now.items c.push_sym-else-layers_of-place.new.out.items (enclosed b (words (shown_tree c.args.e.now)))))
    (sym over)
    (chain_3 c.push_sym-else-layers_of-place.result c.args.out.now.items c.push_sym.new.out.items c.push_expr-else-layers_of-place.new.out.items
    c.push_sym-else-layers_of-place.new.out.items (Printed.sym syms.OpenParen ∷ []) (words (shown_tree c.args.e.now)) (Printed.sym syms.CloseParen ∷ [])
    c.in_ok-push_sym.ensures c.in_ok-push_expr.ensures c.push_sym-else-layers_of-place.ensures)

-- ---- loops

pub push_arms-loop-arm-preserved : goal.push_arms-loop-arm-preserved
push_arms-loop-arm-preserved t c =
    let x = c.arm-item.result in
    let rest = drop (c.loop-arm.arm-index + 1) c.args.arms.now in
    let tail = labelled_words (shown_labelled rest) in
    let all = labelled_words (shown_labelled c.args.arms.now) in
    let start = subst (λ (l : List Arm). Leaves c.loop-arm.out.items (labelled_words (shown_labelled l)) c.args.out.now.items all)
    (drop_read c.args.arms.now c.loop-arm.arm-index x c.loop-arm-test.true c.arm-item.is) c.loop-arm.invariant in
    let one = leaves_less c.args.out.now.items c.loop-arm.out.items c.push_expr.new.out.items (words (shown_tree x.label))
    (Printed.sym syms.Arrow ∷ (words (shown_tree x.value) ++ (Printed.sym syms.Comma ∷ tail))) all start c.in_ok-push_expr.ensures in
    let two = leaves_less c.args.out.now.items c.push_expr.new.out.items c.push_sym.new.out.items (Printed.sym syms.Arrow ∷ [])
    (words (shown_tree x.value) ++ (Printed.sym syms.Comma ∷ tail)) all one c.in_ok-push_sym.ensures in
    let three = leaves_less c.args.out.now.items c.push_sym.new.out.items c.push_expr-in-loop-arm.new.out.items (words (shown_tree x.value))
    (Printed.sym syms.Comma ∷ tail) all two c.in_ok-push_expr-2.ensures in
    leaves_less c.args.out.now.items c.push_expr-in-loop-arm.new.out.items c.push_sym-in-loop-arm.new.out.items (Printed.sym syms.Comma ∷ []) tail all three c.in_ok-push_sym-2.ensures

pub push_bindings-loop-b-preserved : goal.push_bindings-loop-b-preserved
push_bindings-loop-b-preserved t c =
    items_step (λ (b : Bind). bound_words b.name b.width (words (shown_tree b.value))) (λ (l : List Bind). bind_words (binds_of (shown_bounds l)))
    refl (λ b l. refl) (Printed.sym syms.Comma) (take (length c.args.bs.now - 1) (drop 1 c.args.bs.now)) c.loop-b.b-index c.b-item.result
    c.loop-b-test.true c.b-item.is c.push_binding.new.out.items c.loop-b.out.items c.push_sym.new.out.items c.push_binding-in-loop-b.new.out.items
    (behind (Printed.sym syms.Comma) (bind_words (binds_of (shown_bounds (take (length c.args.bs.now - 1) (drop 1 c.args.bs.now))))))
    c.loop-b.invariant c.in_ok-push_sym.ensures c.in_ok-push_binding-2.ensures

pub push_bindings-returns-after-loop-b : goal.push_bindings-returns-after-loop-b
push_bindings-returns-after-loop-b t c =
    subst (λ (l : List Bind). Writes c.args.out.now.items c.loop-b.out.items
    (separated (Printed.sym syms.Comma) (bind_words (binds_of (shown_bounds l))))) (sym (by_first c.args.bs.now c.first-item.result (omega arith) c.first-item.is))
    (items_end (λ (b : Bind). bound_words b.name b.width (words (shown_tree b.value))) (λ (l : List Bind). bind_words (binds_of (shown_bounds l)))
    refl (λ b l. refl) (Printed.sym syms.Comma) (take (length c.args.bs.now - 1) (drop 1 c.args.bs.now)) c.loop-b.b-index c.loop-b-test.false
    c.args.out.now.items c.push_binding.new.out.items c.loop-b.out.items
    (bound_words c.first-item.result.name c.first-item.result.width (words (shown_tree c.first-item.result.value))) c.loop-b.invariant c.in_ok-push_binding.ensures)

pub push_parts-loop-e-preserved : goal.push_parts-loop-e-preserved
push_parts-loop-e-preserved t c =
    items_step (λ (e : Expr). enclosed (leb (layers_of (shown_tree e)) c.args.right) (words (shown_tree e)))
    (λ (l : List Expr). part_words c.args.right c.args.right (trees_of (shown_trees l))) refl (λ e l. refl) (Printed.sym c.args.between)
    (take (length c.args.es.now - 1) (drop 1 c.args.es.now)) c.loop-e.e-index c.e-item.result c.loop-e-test.true c.e-item.is
    c.push_part.new.out.items c.loop-e.out.items c.push_sym.new.out.items c.push_part-in-loop-e.new.out.items
    (behind (Printed.sym c.args.between) (part_words c.args.right c.args.right
    (trees_of (shown_trees (take (length c.args.es.now - 1) (drop 1 c.args.es.now)))))) c.loop-e.invariant c.in_ok-push_sym.ensures c.in_ok-push_part-2.ensures

pub push_parts-returns-after-loop-e : goal.push_parts-returns-after-loop-e
push_parts-returns-after-loop-e t c =
    subst (λ (l : List Expr). Writes c.args.out.now.items c.loop-e.out.items
    (separated (Printed.sym c.args.between) (part_words c.args.left c.args.right (trees_of (shown_trees l)))))
    (sym (by_first c.args.es.now c.first-item.result (omega arith) c.first-item.is))
    (items_end (λ (e : Expr). enclosed (leb (layers_of (shown_tree e)) c.args.right) (words (shown_tree e)))
    (λ (l : List Expr). part_words c.args.right c.args.right (trees_of (shown_trees l))) refl (λ e l. refl) (Printed.sym c.args.between)
    (take (length c.args.es.now - 1) (drop 1 c.args.es.now)) c.loop-e.e-index c.loop-e-test.false c.args.out.now.items c.push_part.new.out.items
    c.loop-e.out.items (enclosed (leb (layers_of (shown_tree c.first-item.result)) c.args.left) (words (shown_tree c.first-item.result)))
    c.loop-e.invariant c.in_ok-push_part.ensures)
