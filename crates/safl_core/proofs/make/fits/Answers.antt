use Rattle.safl_core.proofs.Common.{ap, arith, slice_get, sym, ◌∙◌}
use Rattle.safl_term.specs.Program.{arity}
use Rattle.safl_core.proofs.KeptAtFirst.{fits_count, fits_off, fits_more, fits_all}
use Rattle.safl_core.proofs.make.fits.Goals as goal

pub returns-then-args-count : goal.returns-then-args-count
returns-then-args-count c =
    let C = c.args.c.now.program in
    let m = c.main-main.ensures.number in
    fits_count c.args.args.now (C.params C.main) (λ q. c.if-args-count.true (q ∙ sym (c.params-count.ensures.count ∙ ap (arity C) m)))

pub returns-then-width-param_width : goal.returns-then-width-param_width
returns-then-width-param_width c =
    let C = c.args.c.now.program in
    let m = c.main-main.ensures.number in
    fits_off c.args.args.now (C.params C.main) c.loop-i.i c.width.result c.param_width.result c.index-args-i.result
    (omega (arith, c.if-args-count.false, c.loop-i-test.true)) c.index-args-i.is c.width.ensures.value
    (sym (ap (λ n. slice_get (C.params n) c.loop-i.i) m) ∙ c.param_width.ensures.width) c.if-width-param_width.true

pub loop-i-preserved : goal.loop-i-preserved
loop-i-preserved c =
    let C = c.args.c.now.program in
    let m = c.main-main.ensures.number in
    fits_more c.args.args.now (C.params C.main) c.loop-i.i c.width.result c.param_width.result c.index-args-i.result c.loop-i.invariant
    (omega (arith, c.if-args-count.false, c.loop-i-test.true)) c.index-args-i.is c.width.ensures.value
    (sym (ap (λ n. slice_get (C.params n) c.loop-i.i) m) ∙ c.param_width.ensures.width) c.if-width-param_width.false

pub returns : goal.returns
returns c =
    let C = c.args.c.now.program in
    let m = c.main-main.ensures.number in
    fits_all c.args.args.now (C.params C.main) c.loop-i.i c.loop-i.invariant (omega (arith, c.if-args-count.false, c.loop-i-test.false))
    (c.if-args-count.false ∙ (c.params-count.ensures.count ∙ ap (arity C) m))
