use Rattle.safl_unit.proofs.Common.{Word, builds_on, maybe_bit_kept, on, source_kept, wired_before}
use Rattle.std.proofs.Common.{◌≡◌, Bool, true, false, not, ◌&&◌, cond, refl, ◌∙◌}
use Rattle.safl_unit.proofs.next.next_site.Goals as goal

turned : (kept ret : Bool) (res keep : Word) → kept ≡ true → cond (kept && not ret) keep res ≡ cond ret res keep
turned true true res keep e = refl
turned true false res keep e = refl
turned false ret res keep e = absurd (cc)

pub next_bit-requires-clause-now : goal.next_bit-requires-clause-now
next_bit-requires-clause-now c = let b = c.requires.fits in b.2.sent

pub next_bit-requires-2-clause-now : goal.next_bit-requires-2-clause-now
next_bit-requires-2-clause-now c = let b = c.requires.fits in source_kept c.in_ok-sent.ensures.built b.2.got

pub next_bit-requires-2-clause-set : goal.next_bit-requires-2-clause-set
next_bit-requires-2-clause-set c = source_kept c.in_ok-sent.ensures.built c.requires.ret

pub next_bit-requires-2-clause-clear : goal.next_bit-requires-2-clause-clear
next_bit-requires-2-clause-clear c = maybe_bit_kept c.in_ok-sent.ensures.built c.args.clear c.requires.clear

pub site_word-requires-clause-ret : goal.site_word-requires-clause-ret
site_word-requires-clause-ret c = source_kept (builds_on c.in_ok-sent.ensures.built c.in_ok-got.ensures.built) c.requires.ret

pub site_word-requires-clause-words : goal.site_word-requires-clause-words
site_word-requires-clause-words c =
    let b = c.requires.fits in
    let h = builds_on c.in_ok-sent.ensures.built c.in_ok-got.ensures.built in
    (b.0, source_kept h b.1, source_kept h b.2.keep)

pub returns-clause-built : goal.returns-clause-built
returns-clause-built c = builds_on (builds_on c.in_ok-sent.ensures.built c.in_ok-got.ensures.built) c.site_word.ensures.built

pub returns-clause-fits : goal.returns-clause-fits
returns-clause-fits c = λ w p q.
    let h = builds_on c.in_ok-sent.ensures.built c.in_ok-got.ensures.built in
    let last = c.site_word.ensures.built in
    record {
      sent = source_kept (builds_on c.in_ok-got.ensures.built last) c.in_ok-sent.ensures.fits;
      got = source_kept last c.in_ok-got.ensures.fits;
      keep = c.in_ok-keep.ensures.fits w (source_kept h p) (source_kept h q.keep);
    }

pub returns-clause-shows : goal.returns-clause-shows
returns-clause-shows c = λ v w.
    let w2 = wired_before c.site_word.ensures.built.grows w in
    let w1 = wired_before c.in_ok-got.ensures.built.grows w2 in
    record {
      sent = c.in_ok-sent.ensures.value v w1;
      got = c.in_ok-got.ensures.value v w2;
      keep = λ m. c.in_ok-keep.ensures.value v w ∙ turned
          c.args.kept (on v c.args.ret) (v c.args.res.0) (v c.args.site.keep.0) m;
    }
