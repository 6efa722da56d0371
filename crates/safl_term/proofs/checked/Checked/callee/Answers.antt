use Rattle.safl_term.proofs.Common.{IsChecked, slice_get_read}
use Rattle.std.proofs.Common.{◌≡◌, ℕ, ◌<◌, subst, sym, ap, ◌∙◌, arith}
use Rattle.safl_term.specs.Tables.{program_of}
use Rattle.safl_term.proofs.HeldByChecked.{callee_in, main_is_called}
use Rattle.safl_term.proofs.checked.Checked.callee.Goals as goal

pub returns-then-k-eq0-clause-number : goal.returns-then-k-eq0-clause-number
returns-then-k-eq0-clause-number c = c.main.ensures.number ∙ sym (main_is_called c.args.self.now) ∙ ap c.args.self.now.program.callee (sym c.if-k-eq0.true)

pub returns-clause-within : goal.returns-clause-within
unfolding program_of
returns-clause-within c =
    let is : c.index.result.now.callee ≡ c.args.self.now.program.callee c.args.k = grind (arith, slice_get_read) in
    subst (λ (f : ℕ). f < c.args.self.now.program.functions) (sym is)
    (callee_in c.args.self.now c.args.k (subst IsChecked c.self.view_is c.self.invariant.0) (omega arith) c.requires)
