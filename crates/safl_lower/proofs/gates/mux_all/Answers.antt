use Rattle.safl_lower.proofs.Common.{AllWithin, AreSources, IsSource, Netlist, Sig, get_index, on, take_all, wired_before, words}
use Rattle.std.proofs.Common.{◌≡◌, ℕ, ◌+◌, ◌<◌, List, [], ◌∷◌, ◌++◌, length, take, Some, slice_get, slice_index_or, cond, subst, sym, refl, ap, ◌∙◌, arith}
use Rattle.safl_lower.proofs.Building.{builds_on, builds_within, source_kept, sources_kept}
use Rattle.safl_lower.proofs.Cells.{chosen_more, source_at, sources_length, sources_more}
use Rattle.safl_lower.proofs.Heights.{all_kept, chosen_within}
use Rattle.safl_lower.proofs.gates.mux_all.Goals as goal

abbrev nothing : Sig
nothing = record { 0 = 0 }

-- the operands at a number, which have one width
operands : (n : Netlist) (a b : List Sig) (ws : List ℕ) (i : ℕ) → AreSources n a ws → AreSources n b ws → i < length a → (w : ℕ) ×
    (slice_get ws i ≡ Some w) × IsSource n (slice_index_or a i nothing) w × IsSource n (slice_index_or b i nothing) w
operands n a b ws i p q l =
    let e = sources_length n a ws p in
    let f = sources_length n b ws q in
    let m : i < length b = omega (arith, e, f, l) in
    let x = source_at n a ws i (slice_index_or a i nothing) p (get_index a i nothing l) in
    let y = source_at n b ws i (slice_index_or b i nothing) q (get_index b i nothing m) in
    let k : y.0 ≡ x.0 = let g = y.1 in let h = x.1 in cc in
    (x.0, x.1, x.2, subst (λ (w : ℕ). IsSource n (slice_index_or b i nothing) w) k y.2)

pub bounds-b-i : goal.bounds-b-i
bounds-b-i c =
    let b = c.requires.branches in
    let e = sources_length c.args.net.now c.args.a.now b.0 b.1 in
    let f = sources_length c.args.net.now c.args.b.now b.0 b.2 in
    let l = c.loop-i-test.true in
    omega (arith, e, f, l)

pub mux-requires-clause-test : goal.mux-requires-clause-test
mux-requires-clause-test c = source_kept c.loop-i.invariant.built c.requires.test

pub mux-requires-clause-branches : goal.mux-requires-clause-branches
mux-requires-clause-branches c =
    let b = c.requires.branches in
    let o = operands c.args.net.now c.args.a.now c.args.b.now b.0 c.loop-i.i b.1 b.2 c.loop-i-test.true in
    (o.0, source_kept c.loop-i.invariant.built o.2, source_kept c.loop-i.invariant.built o.3)

pub returns-in_err-next-clause-built : goal.returns-in_err-next-clause-built
returns-in_err-next-clause-built c = let l = c.loop-i-test.true in builds_within (length c.args.a.now) (builds_on c.loop-i.invariant.built c.mux.ensures.built) (omega (arith, l))

pub returns-in_err-push-clause-built : goal.returns-in_err-push-clause-built
returns-in_err-push-clause-built c = let l = c.loop-i-test.true in builds_within (length c.args.a.now) (builds_on c.loop-i.invariant.built c.mux.ensures.built) (omega (arith, l))

pub loop-i-preserved : goal.loop-i-preserved
loop-i-preserved c =
    let j = c.loop-i.invariant in
    let e = c.in_ok-push.ensures.items in
    let l = c.loop-i-test.true in
    let built = c.mux.ensures.built in
    let a = c.args.a.now in
    let b = c.args.b.now in
    let ws0 = c.requires.branches in
    let f0 = sources_length c.args.net.now a ws0.0 ws0.1 in
    let g0 = sources_length c.args.net.now b ws0.0 ws0.2 in
    let m : c.loop-i.i < length b = omega (arith, f0, g0, l) in
    record {
      built = builds_on j.built built;
      fits = λ ws p q.
          let o = operands c.args.net.now a b ws c.loop-i.i p q l in
          subst (λ (xs : List Sig). AreSources c.mux.new.net xs (take (c.loop-i.i + 1) ws)) (sym e)
          (sources_more c.mux.new.net c.loop-i.all.items ws c.loop-i.i c.in_ok-next.next o.0 (sources_kept built (j.fits ws p q)) o.1
          (c.in_ok-next.ensures.fits o.0 (source_kept j.built o.2) (source_kept j.built o.3)));
      value = λ v w.
          let k = subst (λ (xs : List Sig). words v xs ≡ words v (c.loop-i.all.items ++ c.in_ok-next.next ∷ [])) (sym e) refl in
          k ∙ chosen_more v c.args.c c.loop-i.all.items a b c.in_ok-next.next (slice_index_or a c.loop-i.i nothing)
          (slice_index_or b c.loop-i.i nothing) c.loop-i.i (get_index a c.loop-i.i nothing l) (get_index b c.loop-i.i nothing m)
          (j.value v (wired_before built.grows w)) (c.in_ok-next.ensures.value v w);
      height = subst (λ (xs : List Sig). AllWithin c.mux.new.net (c.args.c ∷ (a ++ b)) 1 xs) (sym e)
          (chosen_within c.mux.new.net c.args.c a b c.loop-i.all.items c.in_ok-next.next c.loop-i.i nothing l m
          (all_kept built (c.args.c ∷ (a ++ b)) 1 c.loop-i.all.items j.height) c.in_ok-next.ensures.gate);
    }

pub returns-clause-fits : goal.returns-clause-fits
returns-clause-fits c = λ ws p q.
    let l = c.loop-i-test.false in
    let e = sources_length c.args.net.now c.args.a.now ws p in
    subst (λ (us : List ℕ). AreSources c.loop-i.net c.loop-i.all.items us) (take_all c.loop-i.i ws (omega (arith, e, l))) (c.loop-i.invariant.fits ws p q)

pub returns-clause-value : goal.returns-clause-value
returns-clause-value c = λ v w.
    let l = c.loop-i-test.false in
    let r = c.requires.branches in
    let e = sources_length c.args.net.now c.args.a.now r.0 r.1 in
    let f = sources_length c.args.net.now c.args.b.now r.0 r.2 in
    c.loop-i.invariant.value v w ∙ ap (λ (xs : List Sig). cond (on v c.args.c) (words v xs) (words v (take c.loop-i.i c.args.b.now))) (take_all c.loop-i.i c.args.a.now (omega (arith, l)))
    ∙ ap (λ (xs : List Sig). cond (on v c.args.c) (words v c.args.a.now) (words v xs)) (take_all c.loop-i.i c.args.b.now (omega (arith, e, f, l)))

pub returns-clause-height : goal.returns-clause-height
returns-clause-height c = c.loop-i.invariant.height
