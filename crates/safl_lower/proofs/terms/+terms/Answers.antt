use Rattle.safl_lower.proofs.Common.{AreSources, LowersAll, Sig, apply_prim, grows_on, nodes, nodes_in, result_width, shown_term}
use Rattle.safl_lower.proofs.Common.{shown_terms, slice_get_read, smaller_at, take_all, words}
use Rattle.std.proofs.Common.{rules, ◌≡◌, ℕ, ◌+◌, ◌*◌, ◌<◌, List, ◌++◌, length, drop, suc, Some, refl, sym, ap, subst, ◌∙◌, arith}
use Rattle.safl_term.specs.declared.term.Term as declared
use Rattle.safl_term.specs.Terms.{Terms, Cons}
use Rattle.safl_lower.proofs.Able
use Rattle.safl_lower.proofs.Building.{source_grown}
use Rattle.safl_lower.proofs.Branches.{lowers_let}
use Rattle.safl_lower.proofs.Kept.{ready_kept, shaped_kept}
use Rattle.safl_lower.proofs.Leaves.{lowers_const, lowers_var, lowers_op}
use Rattle.safl_lower.proofs.ListedTerms.{forest_more, forest_at}
use Rattle.safl_lower.proofs.Lists.{lowers_none, lowers_more}
use Rattle.safl_lower.proofs.Walk.{able_by, able_all_by, able_in, lowers_by, lowers_in, branches, body_in, done_if, done_call, done_loop}
use Rattle.safl_lower.proofs.terms.+terms.Goals as goal

-- ---- a list of terms

pub lower_all-loop-t-init : goal.lower_all-loop-t-init
lower_all-loop-t-init t c = record { tidy = c.requires.tidy; lowered = lowers_none refl c.new-values.ensures.items; same = refl }

pub lower_all-lower_term-requires : goal.lower_all-lower_term-requires
lower_all-lower_term-requires t c =
    let at = slice_get_read c.args.ts.now (length c.args.ts.now) c.loop-t.t-index c.t-item.result refl c.loop-t-test.true c.t-item.is in
    let able = able_all_by (forest_at c.args.ts.now c.loop-t.t-index c.t-item.result at) c.requires.able in
    let smaller : 2 * nodes (shown_term c.t-item.result) < 2 * nodes_in (shown_terms c.args.ts.now) + 1 = smaller_at c.args.ts.now c.loop-t.t-index c.t-item.result at in
    let ok = able_in c.loop-t.invariant.same (Able.able_at (shown_terms (drop (suc c.loop-t.t-index) c.args.ts.now)) able c.loop-t.invariant.lowered) in
    search rules

pub lower_all-both_ready-requires-clause-first : goal.lower_all-both_ready-requires-clause-first
lower_all-both_ready-requires-clause-first t c =
    let at = slice_get_read c.args.ts.now (length c.args.ts.now) c.loop-t.t-index c.t-item.result refl c.loop-t-test.true c.t-item.is in
    let able = able_all_by (forest_at c.args.ts.now c.loop-t.t-index c.t-item.result at) c.requires.able in
    ready_kept c.lower_term.ensures.kept c.loop-t.ready (Able.front_ready (Cons (shown_term c.t-item.result) (shown_terms (drop (suc c.loop-t.t-index) c.args.ts.now))) able c.loop-t.invariant.lowered)

pub lower_all-both_ready-requires-clause-second : goal.lower_all-both_ready-requires-clause-second
lower_all-both_ready-requires-clause-second t c =
    let at = slice_get_read c.args.ts.now (length c.args.ts.now) c.loop-t.t-index c.t-item.result refl c.loop-t-test.true c.t-item.is in
    let able = able_all_by (forest_at c.args.ts.now c.loop-t.t-index c.t-item.result at) c.requires.able in
    Able.one_ready (Able.able_at (shown_terms (drop (suc c.loop-t.t-index) c.args.ts.now)) able c.loop-t.invariant.lowered) (lowers_in c.loop-t.invariant.same c.in_ok-one.ensures.done)

pub lower_all-both_ready-requires-clause-room : goal.lower_all-both_ready-requires-clause-room
lower_all-both_ready-requires-clause-room t c =
    let at = slice_get_read c.args.ts.now (length c.args.ts.now) c.loop-t.t-index c.t-item.result refl c.loop-t-test.true c.t-item.is in
    let able = able_all_by (forest_at c.args.ts.now c.loop-t.t-index c.t-item.result at) c.requires.able in
    let a = (Able.able_at (shown_terms (drop (suc c.loop-t.t-index) c.args.ts.now)) able c.loop-t.invariant.lowered).room in
    let b = c.in_ok-one.ensures.done.count in
    record { tidy = c.in_ok-one.ensures.tidy; room = omega (arith, a, b) }

pub lower_all-loop-t-preserved : goal.lower_all-loop-t-preserved
lower_all-loop-t-preserved t c =
    let at = slice_get_read c.args.ts.now (length c.args.ts.now) c.loop-t.t-index c.t-item.result refl c.loop-t-test.true c.t-item.is in
    record {
      tidy = c.in_ok-ready.ensures.built.tidy;
      lowered = subst (λ (x : Terms). LowersAll c.args.sites.now c.args.slots.now.items c.args.path c.args.net.now c.both_ready.new.net c.args.out.now
          c.lower_term.new.out (record { ready = c.in_ok-ready.ready; values = c.push.new.self }) x)
          (sym (forest_more c.args.ts.now c.loop-t.t-index c.t-item.result at))
          (lowers_more c.loop-t.invariant.lowered (lowers_in c.loop-t.invariant.same c.in_ok-one.ensures.done)
          (record {
            grows = c.in_ok-ready.ensures.built.grows;
            count = c.in_ok-ready.ensures.built.count;
            settles =
                c.in_ok-ready.ensures.built.settles;
            bit = c.in_ok-ready.ensures.fits;
            is = c.in_ok-ready.ensures.value;
            never = c.in_ok-ready.ensures.never;
          })
          c.in_ok-push.ensures.items);
      same = c.in_ok-one.ensures.slots ∙ c.loop-t.invariant.same;
    }

pub lower_all-returns-clause-done : goal.lower_all-returns-clause-done
lower_all-returns-clause-done t c =
    let end = c.loop-t-test.false in
    subst (λ (l : List declared.Term). LowersAll c.args.sites.now c.args.slots.now.items c.args.path c.args.net.now c.loop-t.net c.args.out.now
    c.loop-t.out (record { ready = c.loop-t.ready; values = c.loop-t.values }) (shown_terms l))
    (take_all c.loop-t.t-index c.args.ts.now (omega (arith, end))) c.loop-t.invariant.lowered

-- ---- a constant, a slot

pub lower_term-returns-in_ok-value-in-Const-clause-done : goal.lower_term-returns-in_ok-value-in-Const-clause-done
lower_term-returns-in_ok-value-in-Const-clause-done t c =
    let h = c.in_ok-value-in-Const.ensures in
    lowers_by c.in-Const.ensures (lowers_const h.built h.fits h.value)

pub lower_term-index-requires : goal.lower_term-index-requires
lower_term-index-requires t c = let a = Able.able_var (able_by c.in-Var.ensures c.requires.able) in omega (arith, c.args.slots.now.ok.0)

pub lower_term-returns-in-Var-clause-done : goal.lower_term-returns-in-Var-clause-done
lower_term-returns-in-Var-clause-done t c =
    let a = Able.able_var (able_by c.in-Var.ensures c.requires.able) in
    let at = slice_get_read c.args.slots.now.items (length c.args.slots.now.items) c.in-Var.i c.index.result.now refl a c.index.ensures in
    lowers_by c.in-Var.ensures (lowers_var at)

-- ---- an operator

pub lower_term-lower_all-requires-in-Op : goal.lower_term-lower_all-requires-in-Op
lower_term-lower_all-requires-in-Op t c = let ok = Able.able_parts (able_by c.in-Op.ensures c.requires.able) in search rules

pub lower_term-apply-requires-clause-sized : goal.lower_term-apply-requires-clause-sized
lower_term-apply-requires-clause-sized t c =
    subst (λ (xs : List Sig). (ws : List ℕ) × (w : ℕ) × AreSources c.lower_all-in-Op.new.net xs ws × (result_width c.in-Op.p ws ≡ Some w))
    (sym c.deref-in-Op.ensures.value) (Able.parts_sized (able_by c.in-Op.ensures c.requires.able) c.in_ok-all-in-Op.ensures.done)

pub lower_term-apply-requires-clause-room : goal.lower_term-apply-requires-clause-room
lower_term-apply-requires-clause-room t c =
    let r = (able_by c.in-Op.ensures c.requires.able).room in
    let b = c.in_ok-all-in-Op.ensures.done.count in
    record { tidy = c.in_ok-all-in-Op.ensures.tidy; room = omega (arith, r, b) }

pub lower_term-returns-in_ok-value-in-Op-clause-done : goal.lower_term-returns-in_ok-value-in-Op-clause-done
lower_term-returns-in_ok-value-in-Op-clause-done t c =
    let h = c.in_ok-value-in-Op.ensures in
    let d = c.deref-in-Op.ensures.value in
    lowers_by c.in-Op.ensures
    (lowers_op c.in_ok-all-in-Op.ensures.done h.built
    (λ ws w p q. h.word.fits ws w (subst (λ (xs : List Sig). AreSources c.lower_all-in-Op.new.net xs ws) (sym d) p) q)
    (λ v w. h.word.value v w ∙ ap (λ (xs : List Sig). apply_prim c.in-Op.p (words v xs)) d))

-- ---- a call

pub lower_term-lower_all-requires-in-Call : goal.lower_term-lower_all-requires-in-Call
lower_term-lower_all-requires-in-Call t c = let ok = Able.able_args (able_by c.in-Call.ensures c.requires.able) in search rules

pub lower_term-ask-requires-clause-path : goal.lower_term-ask-requires-clause-path
lower_term-ask-requires-clause-path t c = Able.path_kept c.requires.able c.lower_all-in-Call.ensures.kept

pub lower_term-ask-requires-clause-all : goal.lower_term-ask-requires-clause-all
lower_term-ask-requires-clause-all t c = Able.args_ready (able_by c.in-Call.ensures c.requires.able) c.in_ok-all-in-Call.ensures.done

pub lower_term-ask-requires-clause-site : goal.lower_term-ask-requires-clause-site
lower_term-ask-requires-clause-site t c = Able.args_site (able_by c.in-Call.ensures c.requires.able) c.lower_all-in-Call.ensures.kept

pub lower_term-ask-requires-clause-room : goal.lower_term-ask-requires-clause-room
lower_term-ask-requires-clause-room t c =
    let r = (able_by c.in-Call.ensures c.requires.able).room in
    let b = c.in_ok-all-in-Call.ensures.done.count in
    record { tidy = c.in_ok-all-in-Call.ensures.tidy; room = omega (arith, r, b) }

pub lower_term-returns-in_ok-all-in-Call-clause-done : goal.lower_term-returns-in_ok-all-in-Call-clause-done
lower_term-returns-in_ok-all-in-Call-clause-done t c =
    let h = c.ask.ensures in
    done_call c.ask.new.out c.in-Call.field-0 c.in-Call.k c.ask.result c.in-Call.ensures c.in_ok-all-in-Call.ensures.done h.built h.given h.entry h.loops h.wants

-- ---- a tail call

pub lower_term-lower_all-requires-in-Loop : goal.lower_term-lower_all-requires-in-Loop
lower_term-lower_all-requires-in-Loop t c = let ok = Able.able_next (able_by c.in-Loop.ensures c.requires.able) in search rules

pub lower_term-go_on-requires-clause-path : goal.lower_term-go_on-requires-clause-path
lower_term-go_on-requires-clause-path t c = Able.path_kept c.requires.able c.lower_all-in-Loop.ensures.kept

pub lower_term-go_on-requires-clause-all : goal.lower_term-go_on-requires-clause-all
lower_term-go_on-requires-clause-all t c = Able.next_ready (able_by c.in-Loop.ensures c.requires.able) c.in_ok-all-in-Loop.ensures.done

pub lower_term-go_on-requires-clause-room : goal.lower_term-go_on-requires-clause-room
lower_term-go_on-requires-clause-room t c =
    let r = (able_by c.in-Loop.ensures c.requires.able).room in
    let b = c.in_ok-all-in-Loop.ensures.done.count in
    record { tidy = c.in_ok-all-in-Loop.ensures.tidy; room = omega (arith, r, b) }

pub lower_term-returns-in_ok-all-in-Loop-clause-done : goal.lower_term-returns-in_ok-all-in-Loop-clause-done
lower_term-returns-in_ok-all-in-Loop-clause-done t c =
    let h = c.go_on.ensures in
    done_loop c.go_on.new.out c.go_on.result c.in-Loop.ensures c.in_ok-all-in-Loop.ensures.done h.built h.never h.entry h.wants h.loops

-- ---- an if

pub lower_term-lower_term-requires : goal.lower_term-lower_term-requires
lower_term-lower_term-requires t c = let ok = Able.able_test (able_by c.in-If.ensures c.requires.able) in search rules

pub lower_term-branch_paths-requires-clause-path : goal.lower_term-branch_paths-requires-clause-path
lower_term-branch_paths-requires-clause-path t c = Able.path_kept c.requires.able c.lower_term.ensures.kept

pub lower_term-branch_paths-requires-clause-ready : goal.lower_term-branch_paths-requires-clause-ready
lower_term-branch_paths-requires-clause-ready t c = (Able.test_shape (able_by c.in-If.ensures c.requires.able) c.in_ok-test-in-If.ensures.done).ready

pub lower_term-branch_paths-requires-clause-test : goal.lower_term-branch_paths-requires-clause-test
lower_term-branch_paths-requires-clause-test t c = Able.test_bit (able_by c.in-If.ensures c.requires.able) c.in_ok-test-in-If.ensures.done

pub lower_term-lower_term-requires-in-If : goal.lower_term-lower_term-requires-in-If
lower_term-lower_term-requires-in-If t c =
    let p = c.in_ok-paths-in-If.ensures in
    let hp = branches c.in-If.ensures c.args.path c.in_ok-test-in-If.test c.in_ok-paths-in-If.paths p.built p.widths p.yes p.no in
    let ok = able_in c.in_ok-test-in-If.ensures.slots (Able.able_yes (able_by c.in-If.ensures c.requires.able) c.in_ok-test-in-If.ensures.done hp) in
    search rules

pub lower_term-lower_term-requires-in-If-2 : goal.lower_term-lower_term-requires-in-If-2
lower_term-lower_term-requires-in-If-2 t c =
    let p = c.in_ok-paths-in-If.ensures in
    let hp = branches c.in-If.ensures c.args.path c.in_ok-test-in-If.test c.in_ok-paths-in-If.paths p.built p.widths p.yes p.no in
    let s1 = c.in_ok-test-in-If.ensures.slots in
    let ha = lowers_in s1 c.in_ok-yes-in-If.ensures.done in
    let ok = able_in (c.in_ok-yes-in-If.ensures.slots ∙ s1) (Able.able_no (able_by c.in-If.ensures c.requires.able) c.in_ok-test-in-If.ensures.done hp ha) in
    search rules

pub lower_term-choose-requires-clause-ready : goal.lower_term-choose-requires-clause-ready
lower_term-choose-requires-clause-ready t c =
    ready_kept (grows_on c.branch_paths.ensures.built.grows (grows_on c.lower_term-in-If.ensures.kept c.lower_term-in-If-2.ensures.kept))
    c.in_ok-test-in-If.test.ready (Able.test_shape (able_by c.in-If.ensures c.requires.able) c.in_ok-test-in-If.ensures.done).ready

pub lower_term-choose-requires-clause-test : goal.lower_term-choose-requires-clause-test
lower_term-choose-requires-clause-test t c =
    source_grown (grows_on c.branch_paths.ensures.built.grows (grows_on c.lower_term-in-If.ensures.kept c.lower_term-in-If-2.ensures.kept))
    c.in_ok-test-in-If.test.value 1 (Able.test_bit (able_by c.in-If.ensures c.requires.able) c.in_ok-test-in-If.ensures.done)

pub lower_term-choose-requires-clause-branches : goal.lower_term-choose-requires-clause-branches
lower_term-choose-requires-clause-branches t c =
    let a = able_by c.in-If.ensures c.requires.able in
    let hc = c.in_ok-test-in-If.ensures.done in
    let p = c.in_ok-paths-in-If.ensures in
    let hp = branches c.in-If.ensures c.args.path c.in_ok-test-in-If.test c.in_ok-paths-in-If.paths p.built p.widths p.yes p.no in
    let s1 = c.in_ok-test-in-If.ensures.slots in
    let ha = lowers_in s1 c.in_ok-yes-in-If.ensures.done in
    let hb = lowers_in (c.in_ok-yes-in-If.ensures.slots ∙ s1) c.in_ok-no-in-If.ensures.done in
    (a.width, shaped_kept hb.grows c.in_ok-yes-in-If.yes a.width (Able.yes_shape a hc hp ha), Able.no_shape a hc hp ha hb)

pub lower_term-choose-requires-clause-room : goal.lower_term-choose-requires-clause-room
lower_term-choose-requires-clause-room t c =
    let r = (able_by c.in-If.ensures c.requires.able).room in
    let k = c.in_ok-test-in-If.ensures.done.count in
    let l = c.in_ok-paths-in-If.ensures.built.count in
    let m = c.in_ok-yes-in-If.ensures.done.count in
    let n = c.in_ok-no-in-If.ensures.done.count in
    record { tidy = c.in_ok-no-in-If.ensures.tidy; room = omega (arith, r, k, l, m, n) }

pub lower_term-returns-in_ok-no-in-If-clause-done : goal.lower_term-returns-in_ok-no-in-If-clause-done
lower_term-returns-in_ok-no-in-If-clause-done t c =
    let p = c.in_ok-paths-in-If.ensures in
    let hp = branches c.in-If.ensures c.args.path c.in_ok-test-in-If.test c.in_ok-paths-in-If.paths p.built p.widths p.yes p.no in
    let s1 = c.in_ok-test-in-If.ensures.slots in
    let ha = lowers_in s1 c.in_ok-yes-in-If.ensures.done in
    let hb = lowers_in (c.in_ok-yes-in-If.ensures.slots ∙ s1) c.in_ok-no-in-If.ensures.done in
    let h = c.choose.ensures in
    done_if c.choose.result c.in-If.ensures c.in_ok-test-in-If.ensures.done hp ha hb h.built h.shape h.value h.never

-- ---- a let

pub lower_term-lower_all-requires : goal.lower_term-lower_all-requires
lower_term-lower_all-requires t c = let ok = Able.able_bound (able_by c.in-Let.ensures c.requires.able) in search rules

pub lower_term-body_path-requires-clause-path : goal.lower_term-body_path-requires-clause-path
lower_term-body_path-requires-clause-path t c = Able.path_kept c.requires.able c.lower_all.ensures.kept

pub lower_term-body_path-requires-clause-ready : goal.lower_term-body_path-requires-clause-ready
lower_term-body_path-requires-clause-ready t c = Able.bound_shape (able_by c.in-Let.ensures c.requires.able) c.in_ok-bound-in-Let.ensures.done

pub lower_term-body_path-requires-clause-room : goal.lower_term-body_path-requires-clause-room
lower_term-body_path-requires-clause-room t c =
    let r = (able_by c.in-Let.ensures c.requires.able).room in
    let b = c.in_ok-bound-in-Let.ensures.done.count in
    record { tidy = c.in_ok-bound-in-Let.ensures.tidy; room = omega (arith, r, b) }

pub lower_term-lower_term-requires-in-Let : goal.lower_term-lower_term-requires-in-Let
lower_term-lower_term-requires-in-Let t c =
    let q = c.in_ok-inner-in-Let.ensures in
    let hi = body_in c.in-Let.ensures c.args.path c.in_ok-bound-in-Let.bound.ready c.in_ok-inner-in-Let.inner q.built q.fits q.value in
    let s3 = c.in_ok-extend_from_slice-in-Let.ensures.items ∙ ap (λ (l : List Sig). c.lower_all.new.slots.items ++ l) c.deref.ensures.value ∙
    ap (λ (l : List Sig). l ++ c.in_ok-bound-in-Let.bound.values.items) c.in_ok-bound-in-Let.ensures.slots in
    let ok = able_in s3 (Able.able_inner (able_by c.in-Let.ensures c.requires.able) c.in_ok-bound-in-Let.ensures.done hi) in
    search rules

pub lower_term-both_ready-requires-clause-first : goal.lower_term-both_ready-requires-clause-first
lower_term-both_ready-requires-clause-first t c =
    ready_kept (grows_on c.body_path.ensures.built.grows c.lower_term-in-Let.ensures.kept) c.in_ok-bound-in-Let.bound.ready
    (Able.bound_shape (able_by c.in-Let.ensures c.requires.able) c.in_ok-bound-in-Let.ensures.done)

pub lower_term-both_ready-requires-clause-second : goal.lower_term-both_ready-requires-clause-second
lower_term-both_ready-requires-clause-second t c =
    let q = c.in_ok-inner-in-Let.ensures in
    let hi = body_in c.in-Let.ensures c.args.path c.in_ok-bound-in-Let.bound.ready c.in_ok-inner-in-Let.inner q.built q.fits q.value in
    let s3 = c.in_ok-extend_from_slice-in-Let.ensures.items ∙ ap (λ (l : List Sig). c.lower_all.new.slots.items ++ l) c.deref.ensures.value ∙
    ap (λ (l : List Sig). l ++ c.in_ok-bound-in-Let.bound.values.items) c.in_ok-bound-in-Let.ensures.slots in
    (Able.body_shape (able_by c.in-Let.ensures c.requires.able) c.in_ok-bound-in-Let.ensures.done hi (lowers_in s3 c.in_ok-body-in-Let.ensures.done)).ready

pub lower_term-both_ready-requires-clause-room : goal.lower_term-both_ready-requires-clause-room
lower_term-both_ready-requires-clause-room t c =
    let r = (able_by c.in-Let.ensures c.requires.able).room in
    let k = c.in_ok-bound-in-Let.ensures.done.count in
    let l = c.in_ok-inner-in-Let.ensures.built.count in
    let m = c.in_ok-body-in-Let.ensures.done.count in
    record { tidy = c.in_ok-body-in-Let.ensures.tidy; room = omega (arith, r, k, l, m) }

pub lower_term-returns-in_ok-ready-in-Let-clause-done : goal.lower_term-returns-in_ok-ready-in-Let-clause-done
lower_term-returns-in_ok-ready-in-Let-clause-done t c =
    let q = c.in_ok-inner-in-Let.ensures in
    let hi = body_in c.in-Let.ensures c.args.path c.in_ok-bound-in-Let.bound.ready c.in_ok-inner-in-Let.inner q.built q.fits q.value in
    let s3 = c.in_ok-extend_from_slice-in-Let.ensures.items ∙ ap (λ (l : List Sig). c.lower_all.new.slots.items ++ l) c.deref.ensures.value ∙
    ap (λ (l : List Sig). l ++ c.in_ok-bound-in-Let.bound.values.items) c.in_ok-bound-in-Let.ensures.slots in
    let b = c.in_ok-ready-in-Let.ensures in
    lowers_by c.in-Let.ensures
    (lowers_let c.in_ok-bound-in-Let.ensures.done hi (lowers_in s3 c.in_ok-body-in-Let.ensures.done)
    (record { grows = b.built.grows; count = b.built.count; settles = b.built.settles; bit = b.fits; is = b.value; never = b.never }))

-- ---- the net grows

pub lower_all-returns-in_err-one-clause-kept : goal.lower_all-returns-in_err-one-clause-kept
lower_all-returns-in_err-one-clause-kept t c = grows_on c.loop-t.invariant.lowered.grows c.lower_term.ensures.kept

pub lower_all-returns-in_err-ready-clause-kept : goal.lower_all-returns-in_err-ready-clause-kept
lower_all-returns-in_err-ready-clause-kept t c = grows_on c.loop-t.invariant.lowered.grows (grows_on c.lower_term.ensures.kept c.both_ready.ensures.built.grows)

pub lower_all-returns-in_err-push-clause-kept : goal.lower_all-returns-in_err-push-clause-kept
lower_all-returns-in_err-push-clause-kept t c = grows_on c.loop-t.invariant.lowered.grows (grows_on c.lower_term.ensures.kept c.both_ready.ensures.built.grows)

pub lower_term-returns-in_err-paths-in-If-clause-kept : goal.lower_term-returns-in_err-paths-in-If-clause-kept
lower_term-returns-in_err-paths-in-If-clause-kept t c = grows_on c.lower_term.ensures.kept c.branch_paths.ensures.built.grows

pub lower_term-returns-in_err-yes-in-If-clause-kept : goal.lower_term-returns-in_err-yes-in-If-clause-kept
lower_term-returns-in_err-yes-in-If-clause-kept t c = grows_on c.lower_term.ensures.kept (grows_on c.branch_paths.ensures.built.grows c.lower_term-in-If.ensures.kept)

pub lower_term-returns-in_err-no-in-If-clause-kept : goal.lower_term-returns-in_err-no-in-If-clause-kept
lower_term-returns-in_err-no-in-If-clause-kept t c = grows_on c.lower_term.ensures.kept
    (grows_on c.branch_paths.ensures.built.grows (grows_on c.lower_term-in-If.ensures.kept c.lower_term-in-If-2.ensures.kept))

pub lower_term-returns-in_ok-no-in-If-clause-kept : goal.lower_term-returns-in_ok-no-in-If-clause-kept
lower_term-returns-in_ok-no-in-If-clause-kept t c = grows_on c.lower_term.ensures.kept
    (grows_on c.branch_paths.ensures.built.grows (grows_on c.lower_term-in-If.ensures.kept (grows_on c.lower_term-in-If-2.ensures.kept c.choose.ensures.built.grows)))

pub lower_term-returns-in_err-inner-in-Let-clause-kept : goal.lower_term-returns-in_err-inner-in-Let-clause-kept
lower_term-returns-in_err-inner-in-Let-clause-kept t c = grows_on c.lower_all.ensures.kept c.body_path.ensures.built.grows

pub lower_term-returns-in_err-extend_from_slice-in-Let-clause-kept : goal.lower_term-returns-in_err-extend_from_slice-in-Let-clause-kept
lower_term-returns-in_err-extend_from_slice-in-Let-clause-kept t c = grows_on c.lower_all.ensures.kept c.body_path.ensures.built.grows

pub lower_term-returns-in_err-body-in-Let-clause-kept : goal.lower_term-returns-in_err-body-in-Let-clause-kept
lower_term-returns-in_err-body-in-Let-clause-kept t c = grows_on c.lower_all.ensures.kept (grows_on c.body_path.ensures.built.grows c.lower_term-in-Let.ensures.kept)

pub lower_term-returns-in_err-ready-in-Let-clause-kept : goal.lower_term-returns-in_err-ready-in-Let-clause-kept
lower_term-returns-in_err-ready-in-Let-clause-kept t c = grows_on c.lower_all.ensures.kept
    (grows_on c.body_path.ensures.built.grows (grows_on c.lower_term-in-Let.ensures.kept c.both_ready.ensures.built.grows))

pub lower_term-returns-in_ok-ready-in-Let-clause-kept : goal.lower_term-returns-in_ok-ready-in-Let-clause-kept
lower_term-returns-in_ok-ready-in-Let-clause-kept t c = grows_on c.lower_all.ensures.kept
    (grows_on c.body_path.ensures.built.grows (grows_on c.lower_term-in-Let.ensures.kept c.both_ready.ensures.built.grows))

pub lower_term-returns-in_err-value-in-Op-clause-kept : goal.lower_term-returns-in_err-value-in-Op-clause-kept
lower_term-returns-in_err-value-in-Op-clause-kept t c = grows_on c.lower_all-in-Op.ensures.kept c.apply.ensures.built.grows

pub lower_term-returns-in_ok-value-in-Op-clause-kept : goal.lower_term-returns-in_ok-value-in-Op-clause-kept
lower_term-returns-in_ok-value-in-Op-clause-kept t c = grows_on c.lower_all-in-Op.ensures.kept c.apply.ensures.built.grows

pub lower_term-returns-in_ok-all-in-Call-clause-kept : goal.lower_term-returns-in_ok-all-in-Call-clause-kept
lower_term-returns-in_ok-all-in-Call-clause-kept t c = grows_on c.lower_all-in-Call.ensures.kept c.ask.ensures.built.grows

pub lower_term-returns-in_ok-all-in-Loop-clause-kept : goal.lower_term-returns-in_ok-all-in-Loop-clause-kept
lower_term-returns-in_ok-all-in-Loop-clause-kept t c = grows_on c.lower_all-in-Loop.ensures.kept c.go_on.ensures.built.grows
