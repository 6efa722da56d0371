use Rattle.safl_lower.proofs.Common.{IsSource, Readiness, ReadyAt, When, Word, on, wired_before}
use Rattle.std.proofs.Common.{ℕ, cond, sym, ap, subst, ◌∙◌, arith}
use Rattle.safl_lower.specs.Resets.{zero_word}
use Rattle.safl_lower.proofs.Building.{source_kept, builds_on}
use Rattle.safl_lower.proofs.Zeroing.{when_ready, width_fits, same_width}
use Rattle.safl_lower.proofs.resets.with_reset.Goals as goal

pub zeros-requires-clause-some : goal.zeros-requires-clause-some
zeros-requires-clause-some c =
    let s = c.requires.shape in
    let f = (width_fits c.args.net.now c.signals-count.ensures.netlist c.args.like.0 s.0 s.2.width).0 in
    let e = same_width c.args.net.now c.args.like s.0 c.width-width.result s.2 c.width-width.ensures in
    omega (arith, e, f)

pub zeros-requires-clause-most : goal.zeros-requires-clause-most
zeros-requires-clause-most c =
    let s = c.requires.shape in
    let f = (width_fits c.args.net.now c.signals-count.ensures.netlist c.args.like.0 s.0 s.2.width).1 in
    let e = same_width c.args.net.now c.args.like s.0 c.width-width.result s.2 c.width-width.ensures in
    omega (arith, e, f)

pub zeros-requires-in-When-clause-some : goal.zeros-requires-in-When-clause-some
zeros-requires-in-When-clause-some c =
    let s = c.requires.shape in
    let f = (width_fits c.args.net.now c.signals-count.ensures.netlist c.args.like.0 s.0 s.2.width).0 in
    let e = same_width c.args.net.now c.args.like s.0 c.width-width.result s.2 c.width-width.ensures in
    omega (arith, e, f)

pub zeros-requires-in-When-clause-most : goal.zeros-requires-in-When-clause-most
zeros-requires-in-When-clause-most c =
    let s = c.requires.shape in
    let f = (width_fits c.args.net.now c.signals-count.ensures.netlist c.args.like.0 s.0 s.2.width).1 in
    let e = same_width c.args.net.now c.args.like s.0 c.width-width.result s.2 c.width-width.ensures in
    omega (arith, e, f)

pub mux-requires-clause-test : goal.mux-requires-clause-test
mux-requires-clause-test c =
    source_kept c.zeros-in-When.ensures.built (subst (λ (r : Readiness). ReadyAt c.args.net.now r) c.in-When.is c.requires.shape.1.ready)

pub mux-requires-clause-branches : goal.mux-requires-clause-branches
mux-requires-clause-branches c =
    let s = c.requires.shape in
    let e = same_width c.args.net.now c.args.like s.0 c.width-width.result s.2 c.width-width.ensures in
    let z = c.in_ok-zero-in-When in (
      s.0,
      source_kept z.ensures.built (s.1.width (λ never. let q = sym c.in-When.is ∙ never in cc)),
      subst (λ (k : ℕ). IsSource c.zeros-in-When.new.net z.zero k) e z.ensures.fits,
    )

pub returns-in_ok-chosen-in-When-clause-built : goal.returns-in_ok-chosen-in-When-clause-built
returns-in_ok-chosen-in-When-clause-built c = builds_on c.zeros-in-When.ensures.built c.mux.ensures.built

pub returns-in_ok-chosen-in-When-clause-fits : goal.returns-in_ok-chosen-in-When-clause-fits
returns-in_ok-chosen-in-When-clause-fits c = λ w shape source.
    let e = same_width c.args.net.now c.args.like w c.width-width.result source c.width-width.ensures in
    let z = c.in_ok-zero-in-When in
    c.in_ok-chosen-in-When.ensures.fits w (source_kept z.ensures.built (shape.width (λ never. let q = sym c.in-When.is ∙ never in cc)))
    (subst (λ (k : ℕ). IsSource c.zeros-in-When.new.net z.zero k) e z.ensures.fits)

pub returns-in_ok-chosen-in-When-clause-value : goal.returns-in_ok-chosen-in-When-clause-value
returns-in_ok-chosen-in-When-clause-value c = λ w source v u.
    let e = same_width c.args.net.now c.args.like w c.width-width.result source c.width-width.ensures in
    let z = c.in_ok-zero-in-When.ensures.value v (wired_before c.mux.ensures.built.grows u) in
    c.in_ok-chosen-in-When.ensures.value v u
    ∙ ap (λ (x : Word). cond (on v c.in-When.bit) (v c.args.word.value.0) x) (z ∙ ap zero_word e)
    ∙ sym (when_ready v w c.args.word (When c.in-When.bit) c.in-When.is)
