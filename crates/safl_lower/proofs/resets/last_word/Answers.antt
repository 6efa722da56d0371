use Rattle.safl_lower.proofs.Common.{Load, Sig, on, slice_get_read, word_in, word_or_zero}
use Rattle.std.proofs.Common.{◌+◌, ◌*◌, length, Option, cond, sym, refl, ap, ◌∙◌, arith}
use Rattle.safl_lower.proofs.Building.{source_kept, builds_on, builds_within}
use Rattle.safl_lower.proofs.Joining.{first_fits}
use Rattle.safl_lower.proofs.Kept.{shaped_kept}
use Rattle.safl_lower.proofs.Zeroing.{placed, pin_is}
use Rattle.safl_lower.proofs.resets.last_word.Goals as goal

pub index-s-requires : goal.index-s-requires
index-s-requires c =
    let b = c.requires.fits in
    let l = (placed c.args.net.now c.in-Some.load.words.items b.0 c.args.place b.1 (first_fits c.in-Some.is b.2).words b.3).0 in
    let k = c.in-Some.load.words.ok.0 in
    omega (arith, l, k)

pub split-requires-clause-source : goal.split-requires-clause-source
split-requires-clause-source c =
    let b = c.requires.fits in
    let xs = c.in-Some.load.words.items in
    let p = placed c.args.net.now xs b.0 c.args.place b.1 (first_fits c.in-Some.is b.2).words b.3 in
    let at = slice_get_read xs (length xs) c.args.place c.index-s.result.now refl p.0 c.index-s.ensures in
    (b.1, p.1 c.index-s.result.now at)

pub last_choice-requires-clause-test : goal.last_choice-requires-clause-test
last_choice-requires-clause-test c = source_kept c.in_ok-word-in-Some.ensures.built (first_fits c.in-Some.is c.requires.fits.2).bit

pub last_choice-requires-clause-branches : goal.last_choice-requires-clause-branches
last_choice-requires-clause-branches c =
    let b = c.requires.fits in
    let xs = c.in-Some.load.words.items in
    let p = placed c.args.net.now xs b.0 c.args.place b.1 (first_fits c.in-Some.is b.2).words b.3 in
    let at = slice_get_read xs (length xs) c.args.place c.index-s.result.now refl p.0 c.index-s.ensures in
    let q = p.1 c.index-s.result.now at in
    let e = c.in_ok-word-in-Some.ensures in
    (b.1, source_kept e.built q, e.shape b.1 q, shaped_kept e.built.grows c.args.other b.1 b.4, source_kept e.built b.5)

pub returns-in_ok-last-in-Some-clause-built : goal.returns-in_ok-last-in-Some-clause-built
returns-in_ok-last-in-Some-clause-built c =
    builds_within (5 * c.args.count + 7) (builds_on c.in_ok-word-in-Some.ensures.built c.in_ok-last-in-Some.ensures.built) (omega arith)

pub returns-in_ok-last-in-Some-clause-fits : goal.returns-in_ok-last-in-Some-clause-fits
returns-in_ok-last-in-Some-clause-fits c = λ ws w f k other like.
    let xs = c.in-Some.load.words.items in
    let p = placed c.args.net.now xs ws c.args.place w (first_fits c.in-Some.is f).words k in
    let at = slice_get_read xs (length xs) c.args.place c.index-s.result.now refl p.0 c.index-s.ensures in
    let q = p.1 c.index-s.result.now at in
    let e = c.in_ok-word-in-Some.ensures in
    c.in_ok-last-in-Some.ensures.fits w (source_kept e.built q) (e.shape w q) (shaped_kept e.built.grows c.args.other w other) (source_kept e.built like)

pub returns-in_ok-last-in-Some-clause-value : goal.returns-in_ok-last-in-Some-clause-value
returns-in_ok-last-in-Some-clause-value c = λ ws w f k like v u.
    let xs = c.in-Some.load.words.items in
    let p = placed c.args.net.now xs ws c.args.place w (first_fits c.in-Some.is f).words k in
    let at = slice_get_read xs (length xs) c.args.place c.index-s.result.now refl p.0 c.index-s.ensures in
    let e = c.in_ok-word-in-Some.ensures in
    c.in_ok-last-in-Some.ensures.value w (e.value w (p.1 c.index-s.result.now at)) (source_kept e.built like) v u
    ∙ ap (λ (z : Sig). cond (on v c.in-Some.load.bit) (v z.0) (word_or_zero v w c.args.other)) (sym (pin_is xs c.args.place c.index-s.result.now at))
    ∙ sym (ap (λ (z : Option Load). word_in v z c.args.place (word_or_zero v w c.args.other)) c.in-Some.is)
