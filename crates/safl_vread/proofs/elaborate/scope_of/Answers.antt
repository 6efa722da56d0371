use Rattle.safl_vread.proofs.Common.{List, shown_declarations, subst, sym, ℕ}
use Rattle.std.specs.Prelude.{slice_index, ◌≤◌}
use Rattle.safl_vread.proofs.Widths.{all_small}
use Rattle.safl_vread.proofs.elaborate.scope_of.Goals as goal

pub invariant_of-result-clause-small : goal.invariant_of-result-clause-small
invariant_of-result-clause-small c = λ k. subst (λ (l : List ℕ). slice_index l k ≤ 128) (sym c.in_ok-widths.ensures)
    (all_small (shown_declarations c.args.text.now c.args.declarations.now) c.requires k)
