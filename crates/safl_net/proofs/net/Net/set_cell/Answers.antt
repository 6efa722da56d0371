use Rattle.safl_net.proofs.Common.{Cell, CellFits, width_of}
use Rattle.std.proofs.Common.{◌≡◌, rules, is_some, Some, sym, subst, ◌∙◌, ap}
use Rattle.safl_net.proofs.Keeping.{cell_fits}
use Rattle.safl_net.proofs.net.Net.set_cell.Goals as goal

pub set_driver-requires-clause-kind : goal.set_driver-requires-clause-kind
set_driver-requires-clause-kind c =
    let n = c.args.self.now in
    let e : c.width_on-found.result ≡ Some (width_of n c.args.s.0) = search rules in
    subst (λ (x : Cell). CellFits n (width_of n c.args.s.0) x) (sym c.make_cell-cell.ensures)
    (cell_fits n c.args.op c.args.operands.now (width_of n c.args.s.0) c.requires.known (sym c.width_on-found.ensures.width ∙ e) (c.width_on-found.ensures.word (ap is_some e)))
