use Rattle.safl_lower.proofs.Common.{Form, Word, ap, arith, cond, on, subst, wired_before, ◌*◌, ◌∙◌}
use Rattle.safl_lower.specs.Resets.{word_or_zero, IsOfForm}
use Rattle.safl_lower.proofs.Building.{source_kept, builds_on, builds_within}
use Rattle.safl_lower.proofs.Kept.{shaped_kept}
use Rattle.safl_lower.proofs.Zeroing.{if_ok}
use Rattle.safl_lower.proofs.resets.+split.Goals as goal

pub join-requires-clause-test : goal.join-requires-clause-test
join-requires-clause-test t c =
    let q = c.requires.source in
    let h = subst (λ (f : Form). IsOfForm c.args.net.now c.args.s q.0 f) c.in-Choice.is (c.form_of.ensures q.0 q.1) in
    source_kept (builds_on c.in_ok-yes-in-Choice.ensures.built c.in_ok-no-in-Choice.ensures.built) h.test

pub join-requires-clause-branches : goal.join-requires-clause-branches
join-requires-clause-branches t c =
    let q = c.requires.source in
    let h = subst (λ (f : Form). IsOfForm c.args.net.now c.args.s q.0 f) c.in-Choice.is (c.form_of.ensures q.0 q.1) in
    let y = c.in_ok-yes-in-Choice.ensures in
    let n = c.in_ok-no-in-Choice.ensures in (
      q.0,
      source_kept (builds_on y.built n.built) q.1,
      shaped_kept n.built.grows c.in_ok-yes-in-Choice.yes q.0 (y.shape q.0 h.taken),
      n.shape q.0 (source_kept y.built h.other),
    )

pub returns-in_ok-no-in-Choice-clause-built : goal.returns-in_ok-no-in-Choice-clause-built
returns-in_ok-no-in-Choice-clause-built t c =
    let z = c.if-count-eq0.false in
    if_ok c.join.result
    (builds_within (5 * c.args.count) (builds_on (builds_on c.in_ok-yes-in-Choice.ensures.built c.in_ok-no-in-Choice.ensures.built) c.join.ensures.built) (omega (arith, z)))

pub returns-in_ok-no-in-Choice-clause-shape : goal.returns-in_ok-no-in-Choice-clause-shape
returns-in_ok-no-in-Choice-clause-shape t c = λ w q.
    let h = subst (λ (f : Form). IsOfForm c.args.net.now c.args.s w f) c.in-Choice.is (c.form_of.ensures w q) in
    let y = c.in_ok-yes-in-Choice.ensures in
    let n = c.in_ok-no-in-Choice.ensures in
    c.join.ensures.shape w (source_kept (builds_on y.built n.built) q) (shaped_kept n.built.grows c.in_ok-yes-in-Choice.yes w (y.shape w h.taken)) (n.shape w (source_kept y.built h.other))

pub returns-in_ok-no-in-Choice-clause-value : goal.returns-in_ok-no-in-Choice-clause-value
returns-in_ok-no-in-Choice-clause-value t c = λ w q.
    let h = subst (λ (f : Form). IsOfForm c.args.net.now c.args.s w f) c.in-Choice.is (c.form_of.ensures w q) in
    let y = c.in_ok-yes-in-Choice.ensures in
    let n = c.in_ok-no-in-Choice.ensures in
    c.join.ensures.value w (λ v u.
    let u1 = wired_before n.built.grows u in
    h.word v (wired_before y.built.grows u1)
    ∙ ap (λ (x : Word). cond (on v c.in-Choice.c) x (v c.in-Choice.b.0)) (y.value w h.taken v u1)
    ∙ ap (λ (x : Word). cond (on v c.in-Choice.c) (word_or_zero v w c.in_ok-yes-in-Choice.yes) x) (n.value w (source_kept y.built h.other) v u))
