use Rattle.safl_opt.proofs.Common.{ap, arith, length, map, new_number, numbers, sig_at, subst, sym, take_all, ◌<◌, ◌∙◌}
use Rattle.safl_opt.proofs.Coming.{numbers_at}
use Rattle.safl_opt.proofs.Starting.{sig_or}
use Rattle.safl_opt.proofs.ListSteps.{few_numbers, numbers_next}
use Rattle.safl_opt.proofs.build.new_numbers.Goals as goal

pub new_number-requires-clause-known : goal.new_number-requires-clause-known
new_number-requires-clause-known c =
    let k = (c.requires.listed c.loop-x.x-index (sig_at c.args.all.now c.loop-x.x-index) (numbers_at c.args.all.now c.loop-x.x-index (omega arith))).0 in
    subst (λ s. s < length c.args.values.now.ids.items) (sym (sig_or c.args.all.now c.loop-x.x-index)) k

pub new_number-requires-clause-listed : goal.new_number-requires-clause-listed
new_number-requires-clause-listed c =
    let k = (c.requires.listed c.loop-x.x-index (sig_at c.args.all.now c.loop-x.x-index) (numbers_at c.args.all.now c.loop-x.x-index (omega arith))).1 in
    subst (λ s. sig_at c.args.values.now.ids.items s < length c.args.made.now) (sym (sig_or c.args.all.now c.loop-x.x-index)) k

pub push-requires : goal.push-requires
push-requires c =
    let a = few_numbers (new_number c.args.values.now c.args.made.now) c.args.all.now c.loop-x.x-index c.loop-x.operands.items c.loop-x.invariant in
    let f = c.requires.few in
    let t = c.loop-x-test.true in
    omega (arith, a, f, t)

pub loop-x-preserved : goal.loop-x-preserved
loop-x-preserved c =
    numbers_next (new_number c.args.values.now c.args.made.now) c.args.all.now c.loop-x.x-index c.loop-x.operands.items c.push.new.self.items
    c.new_number.result c.loop-x-test.true c.push.ensures.items
    (c.new_number.ensures ∙ ap (new_number c.args.values.now c.args.made.now) (sig_or c.args.all.now c.loop-x.x-index)) c.loop-x.invariant

pub returns : goal.returns
returns c = c.loop-x.invariant ∙ ap (λ l. map (new_number c.args.values.now c.args.made.now) (numbers l)) (take_all c.loop-x.x-index c.args.all.now c.loop-x-test.false)
