use Rattle.safl_tree.proofs.Common.{drop, shown_parameters}
use Rattle.safl_word.specs.declared.token.Sym.TheVariants as syms
use Rattle.safl_tree.specs.Printed.{sym, param_words}
use Rattle.safl_tree.proofs.Writing.{behind, Leaves}
use Rattle.safl_tree.proofs.print_program.push_params.Given as goal

-- with what is left the text is that of all
abbrev pub invariant-loop-param : goal.invariant-loop-param
invariant-loop-param l = Leaves l.out.items (behind (sym syms.Comma) (param_words (shown_parameters (drop l.param-index l.rest)))) l.initial.out.items
    (behind (sym syms.Comma) (param_words (shown_parameters l.rest)))
