use Rattle.safl_opt.proofs.Common.{None, Some, Wire, ap, cell_in, cell_of, kind_at, sym, ◌∙◌, ◌≡◌}
use Rattle.safl_opt.proofs.Adding.{kind_of_cell}
use Rattle.safl_opt.proofs.spare.has_cell.Goals as goal

pub returns-in-Some : goal.returns-in-Some
returns-in-Some c =
    let k = kind_of_cell (kind_at c.args.n.now c.args.s.0) (cell_of c.in-Some.other.now) c.in-Some.ensures in (
      (λ e. k ∙ ap (λ x. Wire (Some x)) (c.is_same.ensures.0 e)),
      (λ w. c.is_same.ensures.1 (let z = sym k ∙ w in cc)),
    )

pub returns-in-None : goal.returns-in-None
returns-in-None c = ((λ e. absurd (let z = e in cc)), (λ w. absurd (let z : None ≡ Some (cell_of c.args.cell.now) = c.in-None.ensures ∙ ap cell_in w in cc)))
