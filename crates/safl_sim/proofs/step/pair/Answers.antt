use Rattle.std.proofs.Common.{[], ◌∷◌, refl, sym, subst, ◌∙◌, arith}
use Rattle.safl_word.specs.declared.primitive.Primitive.{Primitive}
use Rattle.safl_net.specs.declared.cell.Op.TheVariants as op
use Rattle.safl_net.specs.Making.{cell_on}
use Rattle.safl_net.specs.Rules.{CellFits}
use Rattle.safl_sim.specs.declared.step.Action.TheVariants.{Choose, Two}
use Rattle.safl_sim.specs.Steps.{Performs}
use Rattle.safl_sim.proofs.Actions.{performs_alike, performs_two, performs_both, performs_or}
use Rattle.safl_sim.proofs.step.pair.Goals as goal

pub returns-in-And : goal.returns-in-And
returns-in-And c =
    let n = c.args.net.now in
    let a = c.args.a in
    let b = c.args.b in
    let f = c.requires.fits in
    subst (λ (p : Primitive). Performs n (cell_on (op.Apply p) (a ∷ (b ∷ []))) c.both.result) (sym c.in-And.is)
    (performs_both n a b f.0 c.both.result (subst (λ (p : Primitive). CellFits n f.0 (cell_on (op.Apply p) (a ∷ (b ∷ [])))) c.in-And.is f.1)
    (sym c.width-width.ensures ∙ c.if-width-eq1.true) c.both.ensures)

pub returns-in-Or : goal.returns-in-Or
returns-in-Or c =
    let n = c.args.net.now in
    let a = c.args.a in
    let b = c.args.b in
    let f = c.requires.fits in
    subst (λ (p : Primitive). Performs n (cell_on (op.Apply p) (a ∷ (b ∷ []))) (Choose a.0 a.0 b.0)) (sym c.in-Or.is)
    (performs_or n a b f.0 (subst (λ (p : Primitive). CellFits n f.0 (cell_on (op.Apply p) (a ∷ (b ∷ [])))) c.in-Or.is f.1) (sym c.width-width.ensures ∙ c.if-width-eq1-2.true))

pub returns-in_default : goal.returns-in_default
returns-in_default c =
    let f = c.requires.fits in
    performs_alike c.args.net.now (cell_on (op.Apply c.args.p) (c.args.a ∷ (c.args.b ∷ []))) c.two.result (Two c.args.p c.width-width.result c.width.result c.args.a.0 c.args.b.0) c.two.ensures
    (performs_two c.args.net.now c.args.p (op.Apply c.args.p) (c.args.a ∷ (c.args.b ∷ [])) f.0 c.width-width.result c.width.result c.requires.netlist
    f.1 (omega arith) (omega arith) refl c.width-width.ensures c.width.ensures)
