use Rattle.safl_lower.proofs.Common.{Word, ap, cond, on, sym, wired_before, word_or_zero, ◌∙◌}
use Rattle.safl_lower.proofs.Building.{source_kept, builds_on}
use Rattle.safl_lower.proofs.Zeroing.{chosen_one}
use Rattle.safl_lower.proofs.resets.last_choice.Goals as goal

pub with_reset-requires-clause-shape : goal.with_reset-requires-clause-shape
with_reset-requires-clause-shape c = let b = c.requires.branches in (b.0, c.in_ok-next-in_default.ensures.shape b.0 b.2 b.3, source_kept c.choose.ensures.built b.4)

pub returns-in_ok-chosen-in-Never-Always-clause-fits : goal.returns-in_ok-chosen-in-Never-Always-clause-fits
returns-in_ok-chosen-in-Never-Always-clause-fits c = λ w s word other like.
    c.in_ok-chosen-in-Never-Always.ensures.fits w s (other.width (λ never. let q = sym c.in-Never-Always.is-1 ∙ never in cc))

pub returns-in_ok-last-in_default-clause-built : goal.returns-in_ok-last-in_default-clause-built
returns-in_ok-last-in_default-clause-built c = builds_on c.choose.ensures.built c.in_ok-last-in_default.ensures.built

pub returns-in_ok-last-in_default-clause-fits : goal.returns-in_ok-last-in_default-clause-fits
returns-in_ok-last-in_default-clause-fits c = λ w s word other like.
    c.in_ok-last-in_default.ensures.fits w (c.in_ok-next-in_default.ensures.shape w word other) (source_kept c.choose.ensures.built like)

pub returns-in_ok-last-in_default-clause-value : goal.returns-in_ok-last-in_default-clause-value
returns-in_ok-last-in_default-clause-value c = λ w p like v u.
    let u1 = wired_before c.in_ok-last-in_default.ensures.built.grows u in
    let t = c.word_of in
    c.in_ok-last-in_default.ensures.value w (source_kept c.choose.ensures.built like) v u
    ∙ chosen_one v c.in_ok-next-in_default.next t.result c.args.word c.args.other c.args.bit w t.ensures.ready t.ensures.value (c.in_ok-next-in_default.ensures.value v u1)
    ∙ ap (λ (x : Word). cond (on v c.args.bit) x (word_or_zero v w c.args.other)) (sym (p v (wired_before c.choose.ensures.built.grows u1)))
