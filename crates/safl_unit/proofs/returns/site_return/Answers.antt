use Rattle.safl_unit.proofs.Common.{Bool, ap, builds_on, on, refl, source_kept, wired_before, ◌&&◌, ◌∙◌}
use Rattle.safl_unit.proofs.returns.site_return.Goals as goal

pub either-requires-clause-first : goal.either-requires-clause-first
either-requires-clause-first c = let b = c.requires.fits in source_kept (builds_on (builds_on c.inverse.ensures.built c.both.ensures.built) c.both-2.ensures.built) b.2.got

pub site_word-requires-clause-ret : goal.site_word-requires-clause-ret
site_word-requires-clause-ret c = source_kept c.either.ensures.built c.in_ok-ret.ensures.fits

pub site_word-requires-clause-words : goal.site_word-requires-clause-words
site_word-requires-clause-words c =
    let b = c.requires.fits in
    let h = builds_on (builds_on (builds_on c.inverse.ensures.built c.both.ensures.built) c.both-2.ensures.built) c.either.ensures.built in
    (b.0, source_kept h b.1.res, source_kept h b.2.keep)

pub returns-clause-built : goal.returns-clause-built
returns-clause-built c = builds_on (builds_on (builds_on (builds_on c.inverse.ensures.built c.both.ensures.built) c.both-2.ensures.built) c.either.ensures.built) c.site_word.ensures.built

pub returns-clause-fits : goal.returns-clause-fits
returns-clause-fits c = λ w p q.
    let front = builds_on (builds_on (builds_on c.inverse.ensures.built c.both.ensures.built) c.both-2.ensures.built) c.either.ensures.built in
    let last = c.site_word.ensures.built in (
      source_kept (builds_on c.either.ensures.built last) c.in_ok-ret.ensures.fits,
      record {
        sent = source_kept (builds_on front last) q.sent;
        returned = source_kept last c.in_ok-returned.ensures.fits;
        value = c.in_ok-value.ensures.fits w (source_kept front p.res) (source_kept front q.keep);
      },
    )

pub returns-clause-shows : goal.returns-clause-shows
returns-clause-shows c = λ v w.
    let w4 = wired_before c.site_word.ensures.built.grows w in
    let w3 = wired_before c.either.ensures.built.grows w4 in
    let w2 = wired_before c.both-2.ensures.built.grows w3 in
    let w1 = wired_before c.both.ensures.built.grows w2 in
    record {
      ret = c.in_ok-ret.ensures.value v w3 ∙ ap (λ (x : Bool). on v c.args.unit.fin && x)
          (c.in_ok-awaited.ensures.value v w2 ∙ ap (λ (x : Bool). on v c.args.site.sent && x) (c.in_ok-open.ensures.value v w1));
      sent = refl;
      returned = c.in_ok-returned.ensures.value v w4;
      value = c.in_ok-value.ensures.value v w;
    }
