use Rattle.std.proofs.Common.{◌+◌, subst, arith}
use Rattle.safl_opt.specs.Stages.{SetBelow}
use Rattle.safl_opt.proofs.Coming.{sig_is}
use Rattle.safl_opt.proofs.Setting.{set_none, set_next, numbers_of, numbers_stay}
use Rattle.safl_opt.proofs.build.set_kept.Goals as goal

pub kept-init : goal.kept-init
kept-init c = set_none c.args.old.now c.args.values.now c.args.read.now c.args.made.now c.args.net.now c.requires.placed

pub set-requires : goal.set-requires
set-requires c = record {
  wires = c.requires.folds.0;
  order = c.requires.folds.1;
  folds = c.requires.folds.2;
  within = omega arith;
  signal = sig_is c.args.values.now.signals.items c.kept.i c.index.result.now (let q = c.requires.folds.2.counted in omega (arith, q)) c.index.ensures;
  open_yet = c.kept.invariant.left c.kept.i (omega arith) (omega arith);
  numbers =
      numbers_stay c.args.old.now c.signals-count.ensures.netlist c.requires.folds.0 c.requires.folds.1 c.args.values.now c.requires.folds.2
      c.args.read.now c.requires.read c.args.made.now c.args.net.now c.kept.net c.kept.i
      (numbers_of c.args.old.now c.signals-count.ensures.netlist c.requires.folds.0 c.requires.folds.1 c.args.values.now c.requires.folds.2
      c.args.read.now c.requires.read c.args.made.now c.args.net.now c.requires.placed) c.kept.invariant;
}

pub kept-preserved : goal.kept-preserved
kept-preserved c = set_next c.args.old.now c.args.values.now c.args.made.now c.args.net.now c.kept.net c.set.new.net c.kept.i (c.kept.i + 1) (omega arith) (omega arith) c.kept.invariant c.set.ensures

pub returns-clause-below : goal.returns-clause-below
returns-clause-below c = subst (λ k. SetBelow c.args.old.now c.args.values.now c.args.made.now c.args.net.now k c.kept.net)
    (let a = c.kept.auto.i-end in let b = c.kept-test.false in omega (arith, a, b)) c.kept.invariant

pub returns-clause-numbers : goal.returns-clause-numbers
returns-clause-numbers c =
    numbers_stay c.args.old.now c.signals-count.ensures.netlist c.requires.folds.0 c.requires.folds.1 c.args.values.now c.requires.folds.2
    c.args.read.now c.requires.read c.args.made.now c.args.net.now c.kept.net c.kept.i
    (numbers_of c.args.old.now c.signals-count.ensures.netlist c.requires.folds.0 c.requires.folds.1 c.args.values.now c.requires.folds.2
    c.args.read.now c.requires.read c.args.made.now c.args.net.now c.requires.placed) c.kept.invariant
