use Rattle.safl_lower.proofs.Common.{IsSource, Sig, arith, length, refl, slice_get_read, subst, sym, ◌*◌, ◌+◌}
use Rattle.safl_lower.proofs.Building.{source_kept, builds_on, builds_within}
use Rattle.safl_lower.proofs.Joining.{first_fits}
use Rattle.safl_lower.proofs.Kept.{shaped_kept}
use Rattle.safl_lower.proofs.Zeroing.{placed, chosen_word, loads_word, if_ok}
use Rattle.safl_lower.proofs.resets.loaded.Goals as goal

pub index-requires : goal.index-requires
index-requires c =
    let b = c.requires.fits in
    let l = (placed c.args.net.now c.in-Some.load.words.items b.0 c.args.place b.1 (first_fits c.in-Some.is b.2).words b.3).0 in
    let k = c.in-Some.load.words.ok.0 in
    omega (arith, l, k)

pub split-requires-clause-source : goal.split-requires-clause-source
split-requires-clause-source c =
    let b = c.requires.fits in
    let xs = c.in-Some.load.words.items in
    let p = placed c.args.net.now xs b.0 c.args.place b.1 (first_fits c.in-Some.is b.2).words b.3 in
    (b.1, p.1 c.index.result.now (slice_get_read xs (length xs) c.args.place c.index.result.now refl p.0 c.index.ensures))

pub choose-requires-clause-test : goal.choose-requires-clause-test
choose-requires-clause-test c =
    subst (λ (s : Sig). IsSource c.split.new.net s 1) (sym c.word_of.ensures.value)
    (source_kept c.in_ok-word-in-Some.ensures.built (first_fits c.in-Some.is c.requires.fits.2).bit)

pub choose-requires-clause-branches : goal.choose-requires-clause-branches
choose-requires-clause-branches c =
    let b = c.requires.fits in
    let xs = c.in-Some.load.words.items in
    let p = placed c.args.net.now xs b.0 c.args.place b.1 (first_fits c.in-Some.is b.2).words b.3 in
    let e = c.in_ok-word-in-Some.ensures in (
      b.1,
      e.shape b.1 (p.1 c.index.result.now (slice_get_read xs (length xs) c.args.place c.index.result.now refl p.0 c.index.ensures)),
      shaped_kept e.built.grows c.args.other b.1 b.4,
    )

pub returns-in_ok-word-in-Some-clause-built : goal.returns-in_ok-word-in-Some-clause-built
returns-in_ok-word-in-Some-clause-built c =
    if_ok c.choose.result (builds_within (5 * c.args.count + 5) (builds_on c.in_ok-word-in-Some.ensures.built c.choose.ensures.built) (omega arith))

pub returns-in_ok-word-in-Some-clause-shape : goal.returns-in_ok-word-in-Some-clause-shape
returns-in_ok-word-in-Some-clause-shape c = λ ws w f k other.
    let xs = c.in-Some.load.words.items in
    let p = placed c.args.net.now xs ws c.args.place w (first_fits c.in-Some.is f).words k in
    let e = c.in_ok-word-in-Some.ensures in
    c.choose.ensures.shape w (e.shape w (p.1 c.index.result.now (slice_get_read xs (length xs) c.args.place c.index.result.now refl p.0 c.index.ensures)))
    (shaped_kept e.built.grows c.args.other w other)

pub returns-in_ok-word-in-Some-clause-value : goal.returns-in_ok-word-in-Some-clause-value
returns-in_ok-word-in-Some-clause-value c = λ ws w f k.
    let xs = c.in-Some.load.words.items in
    let p = placed c.args.net.now xs ws c.args.place w (first_fits c.in-Some.is f).words k in
    let at = slice_get_read xs (length xs) c.args.place c.index.result.now refl p.0 c.index.ensures in
    let e = c.in_ok-word-in-Some.ensures in
    let t = c.word_of in
    loads_word c.split.new.net c.choose.new.net c.choose.result c.args.load.now c.in-Some.load c.args.place c.index.result.now
    c.in_ok-word-in-Some.word c.args.other w c.choose.ensures.built.grows c.in-Some.is at (e.value w (p.1 c.index.result.now at))
    (chosen_word c.choose.new.net c.choose.result t.result c.in_ok-word-in-Some.word c.args.other c.in-Some.load.bit w t.ensures.ready t.ensures.value c.choose.ensures.value)
