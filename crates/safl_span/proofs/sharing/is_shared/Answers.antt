use Rattle.std.proofs.Common.{◌≡◌, ◌<◌, ◌+◌, length, true, false, sym, ap, ◌∙◌, arith}
use Rattle.safl_term.specs.Checked.{CheckedProgram}
use Rattle.safl_term.specs.Program.{unit_for}
use Rattle.safl_span.proofs.Exactness as on
use Rattle.safl_span.proofs.sharing.is_shared.Goals as goal
use Rattle.safl_span.proofs.sharing.is_shared.Goals.{else-arbiter-via-then-arbiter+else-called-f, else-arbiter-via-else-arbiter}

pub loop-k-preserved : goal.loop-k-preserved
loop-k-preserved c =
    let C = c.args.planned.now.checked.program in
    let P = c.args.planned.now.choice in
    let f : c.callee-f.result ≡ C.callee c.loop-k.k = c.callee-f.ensures.number ∙ ap (λ (x : CheckedProgram). x.program.callee c.loop-k.k) c.checked-c.ensures.same in
    let arbiter : c.arbiter.result ≡ P.arbiter (unit_for C c.loop-k.k) = c.arbiter.ensures.entry ∙ ap (λ g. P.arbiter (C.unit g)) f in
    let within : c.callee-f.result < length c.args.called.now =
    let l = c.callee-f.ensures.within in let n = ap (λ (x : CheckedProgram). x.program.functions) c.checked-c.ensures.same in omega (arith, l, n, c.requires) in
    on.site_more C P c.args.called.now c.loop-k.k c.loop-k.invariant
    (elim c.else-arbiter.branch [
      | else-arbiter-via-then-arbiter+else-called-f w ↦ λ e. on.at_callee C c.args.called.now c.callee-f.result c.loop-k.k false f within w.if-called-f.false
      | else-arbiter-via-else-arbiter w ↦ λ e. on.never (sym w.if-arbiter.false ∙ (arbiter ∙ e))
    ])

pub returns-then-called-f-clause-some : goal.returns-then-called-f-clause-some
returns-then-called-f-clause-some c =
    let C = c.args.planned.now.checked.program in
    let P = c.args.planned.now.choice in
    let within : c.callee-f.result < length c.args.called.now =
    let l = c.callee-f.ensures.within in let n = ap (λ (x : CheckedProgram). x.program.functions) c.checked-c.ensures.same in omega (arith, l, n, c.requires) in
    let f : c.callee-f.result ≡ C.callee c.loop-k.k = c.callee-f.ensures.number ∙ ap (λ (x : CheckedProgram). x.program.callee c.loop-k.k) c.checked-c.ensures.same in
    λ e. record {
      site = c.loop-k.k;
      some = let l = c.loop-k.auto.k in omega arith;
      within = let l = c.loop-k-test.true in let n = c.sites-k-end.ensures.count ∙ ap (λ (x : CheckedProgram). x.program.sites) c.checked-c.ensures.same in omega arith;
      arbiter = sym (c.arbiter.ensures.entry ∙ ap (λ g. P.arbiter (C.unit g)) f) ∙ c.if-arbiter.true;
      is_called = on.at_callee C c.args.called.now c.callee-f.result c.loop-k.k true f within c.if-called-f.true;
    }

pub returns-clause-none : goal.returns-clause-none
returns-clause-none c = λ e k some within.
    c.loop-k.invariant k some
    (let l = c.loop-k-test.false in let n = c.sites-k-end.ensures.count ∙ ap (λ (x : CheckedProgram). x.program.sites) c.checked-c.ensures.same in omega (arith, l, n, within))
