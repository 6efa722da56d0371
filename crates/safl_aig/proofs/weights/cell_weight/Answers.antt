use Rattle.safl_aig.proofs.Common.{CellFits, Sig, cell_on}
use Rattle.std.proofs.Common.{◌≡◌, List, [], ◌∷◌, refl, sym, subst, ◌∙◌}
use Rattle.safl_aig.proofs.Cells.{shape_2, shape_3, sig, operand_known}
use Rattle.safl_aig.proofs.weights.cell_weight.Goals as goal

pub bus_width-a-requires-in-len2 : goal.bus_width-a-requires-in-len2
bus_width-a-requires-in-len2 c =
    let n = c.args.net.now in
    let op = c.args.cell.now.op in
    let xs = c.as_slice.result.now in
    let ys : List Sig = sig xs 0 ∷ sig xs 1 ∷ [] in
    let q : c.args.cell.now.operands.items ≡ ys = sym c.as_slice.ensures.value ∙ shape_2 xs c.in-len2.len_at_least c.in-len2.len_below in
    let fits : CellFits n c.requires.fits.0 (cell_on op ys) = subst (λ (l : List Sig). CellFits n c.requires.fits.0 (cell_on op l)) q c.requires.fits.1 in
    operand_known n c.requires.fits.0 op ys 0 (sig xs 0).0 fits refl

pub bus_width-b-requires-in-len3 : goal.bus_width-b-requires-in-len3
bus_width-b-requires-in-len3 c =
    let n = c.args.net.now in
    let op = c.args.cell.now.op in
    let xs = c.as_slice.result.now in
    let ys : List Sig = sig xs 0 ∷ sig xs 1 ∷ sig xs 2 ∷ [] in
    let q : c.args.cell.now.operands.items ≡ ys = sym c.as_slice.ensures.value ∙ shape_3 xs c.in-len3.len_at_least c.in-len3.len_below in
    let fits : CellFits n c.requires.fits.0 (cell_on op ys) = subst (λ (l : List Sig). CellFits n c.requires.fits.0 (cell_on op l)) q c.requires.fits.1 in
    operand_known n c.requires.fits.0 op ys 2 (sig xs 2).0 fits refl
