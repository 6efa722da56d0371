use Rattle.safl_tree.proofs.Common.{Param, Writes, param_words, separated, shown_parameters}
use Rattle.std.proofs.Common.{◌-◌, List, [], ◌∷◌, length, take, drop, refl, sym, subst, arith}
use Rattle.safl_word.specs.declared.token.Sym.TheVariants as syms
use Rattle.safl_tree.specs.Printed
use Rattle.safl_tree.proofs.Writing.{items_end, by_first}
use Rattle.safl_tree.proofs.print_program.push_params.Goals as goal

pub returns-after-loop-param : goal.returns-after-loop-param
returns-after-loop-param c =
    subst (λ (l : List Param). Writes c.args.out.now.items c.loop-param.out.items
    (separated (Printed.sym syms.Comma) (param_words (shown_parameters l)))) (sym (by_first c.args.params.now c.first-item.result (omega arith) c.first-item.is))
    (items_end (λ (p : Param). Printed.name p.name ∷ (Printed.sym syms.Colon ∷ (Printed.number_word p.width ∷ [])))
    (λ (l : List Param). param_words (shown_parameters l)) refl (λ p l. refl) (Printed.sym syms.Comma)
    (take (length c.args.params.now - 1) (drop 1 c.args.params.now)) c.loop-param.param-index c.loop-param-test.false c.args.out.now.items
    c.push_param.new.out.items c.loop-param.out.items (Printed.name c.first-item.result.name ∷
    (Printed.sym syms.Colon ∷ (Printed.number_word c.first-item.result.width ∷ []))) c.loop-param.invariant c.in_ok-push_param.ensures)
