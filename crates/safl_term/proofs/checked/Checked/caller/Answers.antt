use Rattle.safl_term.proofs.Common.{IsChecked, slice_get_read}
use Rattle.std.proofs.Common.{◌≡◌, ℕ, ◌<◌, subst, sym, arith}
use Rattle.safl_term.specs.Tables.{program_of}
use Rattle.safl_term.proofs.HeldByChecked.{caller_in}
use Rattle.safl_term.proofs.checked.Checked.caller.Goals as goal

pub returns-clause-within : goal.returns-clause-within
unfolding program_of
returns-clause-within c =
    let is : c.index.result.now.caller ≡ c.args.self.now.program.caller c.args.k = grind (arith, slice_get_read) in
    subst (λ (f : ℕ). f < c.args.self.now.program.functions) (sym is)
    (caller_in c.args.self.now c.args.k (subst IsChecked c.self.view_is c.self.invariant.0) c.requires.least c.requires.most)
