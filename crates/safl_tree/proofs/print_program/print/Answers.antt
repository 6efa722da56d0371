use Rattle.safl_tree.proofs.Common.{Def, printed}
use Rattle.std.proofs.Common.{◌≡◌, ◌++◌, ℕ, List, length, sym, ap, subst, ◌∙◌, arith}
use Rattle.std.proofs.lemmas.List.{append-nil, drop_all}
use Rattle.safl_tree.specs.Shown.{shown_definitions, shown_program}
use Rattle.safl_tree.specs.Laws.{SpelledBy}
use Rattle.safl_tree.proofs.PrintedPrograms.{printed_spells}
use Rattle.safl_tree.proofs.print_program.print.Goals as goal

pub returns-clause-spells : goal.returns-clause-spells
returns-clause-spells c =
    let none = drop_all c.loop-def.def-index c.args.p.now.defs.items (omega (arith, c.loop-def-test.false, ap (λ (ds : List Def). length ds) c.deref-def-items.ensures.value)) in
    let text : c.loop-def.out.items ≡ printed (shown_program c.args.p.now) = sym (append-nil c.loop-def.out.items) ∙ ap
    (λ (ds : List Def). c.loop-def.out.items ++ printed (shown_definitions ds)) (sym none) ∙ c.loop-def.invariant in
    subst (λ (l : List ℕ). SpelledBy l (shown_program c.args.p.now)) (sym text) (printed_spells (shown_program c.args.p.now) c.requires)
