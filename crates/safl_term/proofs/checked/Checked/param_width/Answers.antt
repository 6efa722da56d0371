use Rattle.safl_term.proofs.Common.{arity, width_max}
use Rattle.std.proofs.Common.{◌≡◌, ◌<◌, ◌≤◌, Some, slice_get, subst, sym}
use Rattle.safl_term.specs.Checked.{CheckedProgram}
use Rattle.safl_term.proofs.HeldByChecked.{param_fits, param_read}
use Rattle.safl_term.proofs.checked.Checked.param_width.Goals as goal

pub returns-clause-width : goal.returns-clause-width
returns-clause-width c =
    subst (λ (p : CheckedProgram). slice_get (p.program.params c.args.f) c.args.i ≡ Some c.index-2.result.now.width) c.self.view_is
    (param_read _ c.args.f c.args.i c.index.result.now c.index-2.result.now
    (subst (λ (p : CheckedProgram). c.args.f < p.program.functions) (sym c.self.view_is) c.requires.function)
    (subst (λ (p : CheckedProgram). c.args.i < arity p.program c.args.f) (sym c.self.view_is) c.requires.param) c.index.ensures c.index-2.ensures)

fits : (c : goal.After-index-2) → (1 ≤ c.index-2.result.now.width) × (c.index-2.result.now.width ≤ width_max)
fits c =
    param_fits _ c.args.f c.args.i c.index.result.now c.index-2.result.now c.self.invariant.0
    (subst (λ (p : CheckedProgram). c.args.f < p.program.functions) (sym c.self.view_is) c.requires.function)
    (subst (λ (p : CheckedProgram). c.args.i < arity p.program c.args.f) (sym c.self.view_is) c.requires.param) c.index.ensures c.index-2.ensures

pub returns-clause-least : goal.returns-clause-least
returns-clause-least c = (fits c).0

pub returns-clause-most : goal.returns-clause-most
returns-clause-most c = (fits c).1
