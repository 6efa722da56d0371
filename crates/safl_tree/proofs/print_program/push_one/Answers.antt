use Rattle.safl_tree.proofs.Common.{Param, Writes, param_words, separated, shown_parameters, shown_tree}
use Rattle.std.proofs.Common.{ℕ, List, [], ◌∷◌, subst}
use Rattle.safl_word.specs.declared.token.Sym.TheVariants as syms
use Rattle.safl_tree.specs.Printed
use Rattle.safl_tree.proofs.Writing.{chain_8}
use Rattle.safl_tree.proofs.print_program.push_one.Goals as goal

pub returns : goal.returns
returns c =
    chain_8 c.push_expr.result c.args.out.now.items c.push_name.new.out.items c.push_sym.new.out.items c.push_params.new.out.items
    c.push_sym-2.new.out.items c.push_sym-3.new.out.items c.push_number.new.out.items c.push_sym-4.new.out.items c.push_expr.new.out.items
    (Printed.name c.args.def.now.name ∷ []) (Printed.sym syms.OpenParen ∷ [])
    (separated (Printed.sym syms.Comma) (param_words (shown_parameters c.args.def.now.params.items))) (Printed.sym syms.CloseParen ∷ [])
    (Printed.sym syms.Colon ∷ []) (Printed.number_word c.args.def.now.width ∷ []) (Printed.sym syms.Assign ∷ [])
    (Printed.words (shown_tree c.args.def.now.body)) c.in_ok-push_name.ensures c.in_ok-push_sym.ensures
    (subst (λ (l : List Param). Writes c.push_sym.new.out.items c.push_params.new.out.items
    (separated (Printed.sym syms.Comma) (param_words (shown_parameters l)))) c.deref.ensures.value c.in_ok-push_params.ensures)
    c.in_ok-push_sym-2.ensures c.in_ok-push_sym-3.ensures (subst
    (λ (n : ℕ). Writes c.push_sym-3.new.out.items c.push_number.new.out.items (Printed.number_word n ∷ [])) c.from.ensures c.in_ok-push_number.ensures)
    c.in_ok-push_sym-4.ensures c.push_expr.ensures
