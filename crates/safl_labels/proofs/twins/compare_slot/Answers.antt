use Rattle.std.proofs.Common.{true, sym, ap, subst, ◌∙◌}
use Rattle.safl_term.specs.Terms.{Term, Var}
use Rattle.safl_labels.specs.Likeness.{IsLike, same_if}
use Rattle.safl_labels.proofs.Alike.{var_alike}
use Rattle.safl_labels.proofs.twins.compare_slot.Goals as goal

pub returns-then-i-j : goal.returns-then-i-j
returns-then-i-j c = λ L.
    let e = c.in-Var.ensures ∙ ap Var (sym c.if-i-j.true) in
    subst (λ (u : Term). IsLike L c.args.slots.now (Var c.args.i) u c.word_if.result) (sym e)
    (var_alike L c.args.slots.now c.args.i c.word_if.result (c.word_if.ensures ∙ ap same_if c.is_public.ensures))
