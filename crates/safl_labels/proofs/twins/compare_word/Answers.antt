use Rattle.std.proofs.Common.{◌≡◌, ℕ, true, sym, ap, subst, ◌∙◌}
use Rattle.safl_calls.specs.Labels.{Twins, t_const}
use Rattle.safl_term.specs.Terms.{Term, Const}
use Rattle.safl_word.specs.Words.{Word}
use Rattle.safl_labels.proofs.twins.compare_word.Goals as goal

same_word : (v w : Word) → v.width ≡ w.width → v.bits ≡ w.bits → v ≡ w
same_word v w e f = ap (λ (n : ℕ). record { width = n; bits = v.bits }) e ∙ ap (λ (n : ℕ). record { width = w.width; bits = n }) f

pub returns-then-bits : goal.returns-then-bits
returns-then-bits c = λ L ls.
    let w = sym c.width.ensures.value ∙ (c.if-width.true ∙ c.width-in-Const.ensures.value) in
    let b = sym c.bits.ensures.value ∙ (c.if-bits.true ∙ c.bits-then-width.ensures.value) in
    let e = c.in-Const.ensures ∙ ap Const (sym (same_word c.args.word c.in-Const.other w b)) in
    subst (λ (u : Term). Twins L ls (Const c.args.word) u true) (sym e) t_const
