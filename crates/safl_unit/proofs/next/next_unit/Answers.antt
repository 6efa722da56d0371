use Rattle.safl_unit.proofs.Common.{builds_on, maybe_bit_kept, maybe_load_kept, on, on_in, source_kept, wired_before}
use Rattle.std.proofs.Common.{[], ◌∷◌, Bool, ◌&&◌, ◌||◌, not, ap, ◌∙◌}
use Rattle.safl_unit.proofs.equations.Chains.{load_bit_fits, load_bit_shows}
use Rattle.safl_unit.proofs.next.next_unit.Goals as goal

pub or_some-requires-clause-second : goal.or_some-requires-clause-second
or_some-requires-clause-second c = let b = c.requires.fits in b.2.run

pub and_none-requires-clause-second : goal.and_none-requires-clause-second
and_none-requires-clause-second c =
    let b = c.requires.fits in
    maybe_bit_kept c.or_some.ensures.built c.load_bit-bit.result (load_bit_fits c.args.net.now c.args.end.now c.load_bit-bit.result (b.0 ∷ []) c.load_bit-bit.ensures b.1)

pub some_bit-requires-clause-bit : goal.some_bit-requires-clause-bit
some_bit-requires-clause-bit c =
    let b = c.requires.fits in
    maybe_bit_kept (builds_on c.or_some.ensures.built c.and_none.ensures.built) c.load_bit-bit.result
    (load_bit_fits c.args.net.now c.args.end.now c.load_bit-bit.result (b.0 ∷ []) c.load_bit-bit.ensures b.1)

pub load_word-requires-clause-fits : goal.load_word-requires-clause-fits
load_word-requires-clause-fits c =
    let b = c.requires.fits in
    let h = builds_on (builds_on c.or_some.ensures.built c.and_none.ensures.built) c.some_bit.ensures.built in
    (b.0, maybe_load_kept h c.args.end.now (b.0 ∷ []) b.1, source_kept h b.2.res)

pub returns-clause-built : goal.returns-clause-built
returns-clause-built c = builds_on (builds_on (builds_on c.or_some.ensures.built c.and_none.ensures.built) c.some_bit.ensures.built) c.in_ok-res.ensures.built

pub returns-clause-fits : goal.returns-clause-fits
returns-clause-fits c = λ w p q.
    let h = builds_on (builds_on c.or_some.ensures.built c.and_none.ensures.built) c.some_bit.ensures.built in
    let last = c.in_ok-res.ensures.built in
    record {
      run = source_kept (builds_on c.some_bit.ensures.built last) c.in_ok-run.ensures.fits;
      fin = source_kept last c.in_ok-fin.ensures.fits;
      res = c.in_ok-res.ensures.fits w (maybe_load_kept h c.args.end.now (w ∷ []) p) (source_kept h q.res);
    }

pub returns-clause-shows : goal.returns-clause-shows
returns-clause-shows c = λ v w.
    let w4 = wired_before c.in_ok-res.ensures.built.grows w in
    let w3 = wired_before c.some_bit.ensures.built.grows w4 in
    let w1 = wired_before c.and_none.ensures.built.grows w3 in
    let bit = load_bit_shows v c.args.end.now c.load_bit-bit.result c.load_bit-bit.ensures in
    record {
      run = c.in_ok-run.ensures.value v w3 ∙ ap (λ (x : Bool). x && not (on_in v c.load_bit-bit.result)) (c.in_ok-started.ensures.value v w1)
          ∙ ap (λ (x : Bool). (on_in v c.args.start || on v c.args.unit.run) && not x) bit;
      fin = c.in_ok-fin.ensures.value v w4 ∙ bit;
      res = c.in_ok-res.ensures.value v w;
    }
