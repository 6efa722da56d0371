use Rattle.safl_parse.proofs.Common.{[], comes, goes_on, shown_definitions, stops_here, sym, terminals, word_code, ◌∙◌, ◌∷◌}
use Rattle.std.proofs.lemmas.Result.{err_from_is_err_and}
use Rattle.safl_word.specs.declared.token.Key.TheVariants as keys
use Rattle.safl_tree.specs.Reader.{expr_at, read_another_group}
use Rattle.safl_tree.proofs.PrintedPrograms.{group_eats}
use Rattle.safl_parse.proofs.Loops.{fails}
use Rattle.safl_parse.proofs.parser.Parser.groups.Goals as goal

pub returns : goal.returns
returns c = stops_here (comes (word_code keys.Fun ∷ [])) (read_another_group (expr_at 100)) group_eats (shown_definitions c.list.defs.items)
    (terminals c.args.self.now.text.now c.list.rest.now) _ c.list.invariant (sym c.comes.ensures ∙ c.list-test.false)

pub list-smaller : goal.list-smaller
list-smaller c = group_eats (shown_definitions c.list.defs.items) (terminals c.args.self.now.text.now c.list.rest.now)
    (terminals c.args.self.now.text.now c.in_ok-next.after.now) (shown_definitions c.in_ok-next.next.items) c.in_ok-next.ensures

pub list-preserved : goal.list-preserved
list-preserved c = goes_on (comes (word_code keys.Fun ∷ [])) (read_another_group (expr_at 100)) group_eats
    (shown_definitions c.list.defs.items) (terminals c.args.self.now.text.now c.list.rest.now) _ c.list.invariant
    (shown_definitions c.in_ok-next.next.items) (terminals c.args.self.now.text.now c.in_ok-next.after.now) (sym c.comes.ensures ∙ c.list-test.true) c.in_ok-next.ensures

pub returns-in_err-next : goal.returns-in_err-next
returns-in_err-next c =
    let p = err_from_is_err_and c.from_residual.result c.from_residual.ensures.1 in
    rw (p.1, p.2) (fails c.args.self.now.text.now c.in_err-next.field-0.0 (comes (word_code keys.Fun ∷ [])) (read_another_group (expr_at 100))
    group_eats (shown_definitions c.list.defs.items) (terminals c.args.self.now.text.now c.list.rest.now) _ c.list.invariant
    (sym c.comes.ensures ∙ c.list-test.true) c.in_err-next.ensures)
