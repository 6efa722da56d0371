use Rattle.safl_opt.proofs.Common.{IsAdded, Placed, Sig, node_cell, value_width}
use Rattle.std.proofs.Common.{◌≡◌, ◌+◌, ◌∷◌, [], ◌++◌, length, true, false, Result, Ok, Err, OnOk, IfOk, sym, ◌∙◌, arith}
use Rattle.safl_opt.proofs.Marking.{read_is}
use Rattle.safl_opt.proofs.Placing.{room, operand, gives, skipped, placed}
use Rattle.safl_opt.proofs.build.place_node.Goals as goal

pub overflow_add-values : goal.overflow_add-values
overflow_add-values c = let r = room c.args.old.now c.signals-count.ensures.netlist c.requires.folds.0 c.requires.folds.1 c.args.values.now
    c.requires.folds.2 c.args.read.now c.requires.read in let f = c.requires.few in let w = c.requires.within in omega (arith, r, f, w)

pub returns-then-not-read-values : goal.returns-then-not-read-values
returns-then-not-read-values c =
    skipped c.args.old.now c.signals-count.ensures.netlist c.requires.folds.0 c.requires.folds.1 c.args.values.now c.requires.folds.2 c.args.read.now
    c.requires.read c.args.place c.args.made.now c.args.net.now c.requires.placed (record { 0 = 0 })
    (sym (read_is c.args.read.now (c.args.values.now.kept + c.args.place)) ∙ c.if-not-read-values.true)

pub make_node-requires-clause-tidy : goal.make_node-requires-clause-tidy
make_node-requires-clause-tidy c = c.requires.placed.tidy

pub make_node-requires-clause-room : goal.make_node-requires-clause-room
make_node-requires-clause-room c =
    let r = room c.args.old.now c.signals-count.ensures.netlist c.requires.folds.0 c.requires.folds.1 c.args.values.now c.requires.folds.2 c.args.read.now c.requires.read in
    let f = c.requires.few in
    let w = c.requires.within in
    let p = c.requires.placed.few in
    omega (arith, r, f, w, p)

pub make_node-requires-clause-operands : goal.make_node-requires-clause-operands
make_node-requires-clause-operands c =
    operand c.args.old.now c.signals-count.ensures.netlist c.requires.folds.0 c.requires.folds.1 c.args.values.now c.requires.folds.2 c.args.read.now
    c.requires.read c.args.place c.args.made.now c.args.net.now c.requires.placed c.at.result c.at.ensures
    (sym (read_is c.args.read.now (c.args.values.now.kept + c.args.place)) ∙ c.if-not-read-values.false)

pub make_node-requires-clause-fits : goal.make_node-requires-clause-fits
make_node-requires-clause-fits c = (
  value_width c.args.old.now c.args.values.now.signals.items (c.args.values.now.kept + c.args.place),
  gives c.args.old.now c.signals-count.ensures.netlist c.requires.folds.0 c.requires.folds.1 c.args.values.now c.requires.folds.2 c.args.read.now
      c.requires.read c.args.place c.args.made.now c.args.net.now c.requires.placed c.at.result c.at.ensures
      (sym (read_is c.args.read.now (c.args.values.now.kept + c.args.place)) ∙ c.if-not-read-values.false),
)

pub returns : goal.returns
returns c = done c.make_node.result c.make_node.ensures.added c.make_node.ensures.numbered
  where
    done : {E : Type 0} (r : Result Sig E) → OnOk r (IsAdded c.args.net.now c.make_node.new.net (node_cell c.args.made.now c.at.result)) → IfOk r (λ s. s.0 ≡ length c.args.net.now.signals)
        → IfOk r (λ s. Placed c.args.old.now c.args.values.now c.args.read.now (c.args.place + 1) (c.args.made.now ++ s ∷ []) c.make_node.new.net)
    done (Ok s) added last =
        placed c.args.old.now c.signals-count.ensures.netlist c.requires.folds.0 c.requires.folds.1 c.args.values.now c.requires.folds.2 c.args.read.now c.requires.read
        c.args.place c.args.made.now c.args.net.now c.requires.placed s c.at.result c.at.ensures
        (sym (read_is c.args.read.now (c.args.values.now.kept + c.args.place)) ∙ c.if-not-read-values.false) c.make_node.new.net added last c.make_node.ensures.tidy
    done (Err x) added last = tt
