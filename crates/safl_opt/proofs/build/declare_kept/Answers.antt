use Rattle.safl_opt.proofs.Common.{Declared, arith, length, subst, sym, ◌+◌, ◌<◌}
use Rattle.safl_opt.proofs.Coming.{sig_is, kept_within}
use Rattle.safl_opt.proofs.Adding.{kept_few}
use Rattle.safl_opt.proofs.Declaring.{declared_none, declared_next, free_next}
use Rattle.safl_opt.proofs.build.declare_kept.Goals as goal

pub kept-init : goal.kept-init
kept-init c = declared_none c.args.old.now c.args.values.now c.args.net.now c.requires.empty

pub declare-requires-clause-known : goal.declare-requires-clause-known
declare-requires-clause-known c =
    let h = c.requires.folds.1 in
    let long : c.kept.i < length c.args.values.now.signals.items = let q = h.counted in omega (arith, q) in
    let at = sig_is c.args.values.now.signals.items c.kept.i c.index.result.now long c.index.ensures in
    subst (λ s. s < length c.args.old.now.signals) (sym at) (kept_within c.args.old.now c.requires.folds.0 (length c.requires.folds.0) c.args.values.now h c.kept.i (omega arith))

pub declare-requires-clause-room : goal.declare-requires-clause-room
declare-requires-clause-room c =
    let a = c.kept.invariant.long in
    let b = kept_few c.args.old.now in
    let k = c.requires.folds.1.kept in
    let f = c.requires.few in
    omega (arith, a, b, k, f)

pub declare-requires-clause-free : goal.declare-requires-clause-free
declare-requires-clause-free c =
    let h = c.requires.folds.1 in
    let long : c.kept.i < length c.args.values.now.signals.items = let q = h.counted in omega (arith, q) in
    let at = sig_is c.args.values.now.signals.items c.kept.i c.index.result.now long c.index.ensures in
    free_next c.args.old.now c.signals-count.ensures.netlist c.requires.folds.0 c.args.values.now h c.kept.net c.kept.i c.index.result.now.0 c.kept.invariant (omega arith) at

pub kept-preserved : goal.kept-preserved
kept-preserved c =
    let h = c.requires.folds.1 in
    let long : c.kept.i < length c.args.values.now.signals.items = let q = h.counted in omega (arith, q) in
    let at = sig_is c.args.values.now.signals.items c.kept.i c.index.result.now long c.index.ensures in
    declared_next c.args.old.now c.signals-count.ensures.netlist c.requires.folds.0 c.args.values.now h c.kept.net c.declare.new.net c.kept.i
    (c.kept.i + 1) c.index.result.now.0 (omega arith) c.kept.invariant at c.in_ok-declare.ensures.added

pub returns : goal.returns
returns c = subst (λ k. Declared c.args.old.now c.args.values.now k c.kept.net) (let a = c.kept.auto.i-end in let b = c.kept-test.false in omega (arith, a, b)) c.kept.invariant
