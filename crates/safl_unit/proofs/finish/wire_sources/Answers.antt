use Rattle.safl_unit.proofs.Common.{CheckedProgram, ap, arith, map, refl, ◌++◌, ◌∙◌}
use Rattle.safl_unit.specs.Ties.{sig_of, ties, body_ties, call_ties}
use Rattle.safl_unit.proofs.assembly.Listing.{listed_from_one, more_listed, listed_long, listed_within}
use Rattle.safl_unit.proofs.finish.wire_sources.Goals as goal

pub loop-k-init : goal.loop-k-init
loop-k-init c =
    let C = c.args.p.now.program in
    let T = c.args.controls.now in
    listed_from_one (map sig_of (ties (body_ties c.args.p.now.names T) C.functions)) c.add_bodies.new.all.items (call_ties C c.args.p.now.choice c.args.first T)
    (c.in_ok-add_bodies.ensures ∙ ap (λ (x : CheckedProgram). c.new-all.result.items ++ map sig_of (ties (body_ties x.names T) x.program.functions)) c.program-c.ensures.same
    ∙ ap (λ l. l ++ map sig_of (ties (body_ties c.args.p.now.names T) C.functions)) c.new-all.ensures.items)
    refl

pub overflow_cast-place : goal.overflow_cast-place
overflow_cast-place c =
    let l = c.loop-k-test.true in
    let e = c.sites-k-end.ensures.count ∙ ap (λ (x : CheckedProgram). x.program.sites) c.program-c.ensures.same in
    let few = listed_within c.args.p.now.program c.args.p.now.names c.args.p.now.choice c.args.first
    c.args.controls.now c.loop-k.k c.loop-k.all.items (omega (arith, l, e)) c.loop-k.invariant in
    let n = c.len.ensures in
    let r = c.requires.room in
    omega (arith, few, n, r)

pub overflow_add-place : goal.overflow_add-place
overflow_add-place c =
    let l = c.loop-k-test.true in
    let e = c.sites-k-end.ensures.count ∙ ap (λ (x : CheckedProgram). x.program.sites) c.program-c.ensures.same in
    let few = listed_within c.args.p.now.program c.args.p.now.names c.args.p.now.choice c.args.first
    c.args.controls.now c.loop-k.k c.loop-k.all.items (omega (arith, l, e)) c.loop-k.invariant in
    let n = c.len.ensures in
    let r = c.requires.room in
    omega (arith, few, n, r)

pub add_call-requires-clause-place : goal.add_call-requires-clause-place
add_call-requires-clause-place c =
    let long = listed_long c.args.p.now.program c.args.p.now.names c.args.p.now.choice c.args.first c.args.controls.now
    c.loop-k.k c.loop-k.all.items c.loop-k.invariant in
    let n = c.len.ensures in
    omega (arith, long, n)

pub loop-k-preserved : goal.loop-k-preserved
loop-k-preserved c =
    let C = c.args.p.now.program in
    let T = c.args.controls.now in
    more_listed (map sig_of (ties (body_ties c.args.p.now.names T) C.functions)) c.loop-k.all.items c.add_call.new.all.items
    (call_ties C c.args.p.now.choice c.args.first T) c.loop-k.k c.loop-k.invariant c.in_ok-add_call.ensures
