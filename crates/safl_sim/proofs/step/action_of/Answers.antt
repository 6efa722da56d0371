use Rattle.std.proofs.Common.{List, get_or, sym, subst}
use Rattle.safl_net.specs.declared.cell.Sig.{Sig}
use Rattle.safl_net.specs.declared.cell.Op.{Op}
use Rattle.safl_net.specs.declared.cell.Op.TheVariants as op
use Rattle.safl_net.specs.Making.{cell_on}
use Rattle.safl_net.specs.Rules.{CellFits}
use Rattle.safl_sim.specs.declared.step.Action.TheVariants.{Choose, One}
use Rattle.safl_sim.specs.Steps.{Performs}
use Rattle.safl_sim.proofs.Actions.{performs_alike, performs_const, performs_copy, performs_mux, performs_one, first_known, two_of}
use Rattle.safl_sim.proofs.step.action_of.Goals as goal

pub returns-in-empty : goal.returns-in-empty
returns-in-empty c =
    let n = c.args.net.now in
    let o = c.args.cell.now.op in
    let e = c.as_slice.ensures.value in
    let f = c.requires.fits in
    subst (λ (l : List Sig). Performs n (cell_on o l) c.constant.result) e
    (performs_const n o c.as_slice.result.now f.0 c.constant.result (subst (λ (l : List Sig). CellFits n f.0 (cell_on o l)) (sym e) f.1) c.in-empty.len_below c.constant.ensures)

-- its operand is a signal of the net
pub width-requires : goal.width-requires
width-requires c =
    let n = c.args.net.now in
    let o = c.args.cell.now.op in
    let xs = c.as_slice.result.now in
    let f = c.requires.fits in
    first_known n o xs f.0 (subst (λ (l : List Sig). CellFits n f.0 (cell_on o l)) (sym c.as_slice.ensures.value) f.1) c.in-len1.len_at_least

pub returns-in-Apply : goal.returns-in-Apply
returns-in-Apply c =
    let n = c.args.net.now in
    let o = c.args.cell.now.op in
    let xs = c.as_slice.result.now in
    let f = c.requires.fits in
    let fits = subst (λ (l : List Sig). CellFits n f.0 (cell_on o l)) (sym c.as_slice.ensures.value) f.1 in
    subst (λ (l : List Sig). Performs n (cell_on o l) c.one.result) c.as_slice.ensures.value
    (performs_alike n (cell_on o xs) c.one.result (One c.in-Apply.p c.width.result (get_or xs 0 (record { 0 = 0 })).0) c.one.ensures
    (performs_one n c.in-Apply.p o xs f.0 c.width.result c.requires.netlist fits c.in-len1.len_at_least c.in-len1.len_below c.in-Apply.is c.width.ensures))

pub pair-requires-clause-fits : goal.pair-requires-clause-fits
pair-requires-clause-fits c =
    let n = c.args.net.now in
    let o = c.args.cell.now.op in
    let xs = c.as_slice.result.now in
    let f = c.requires.fits in
    let fits = subst (λ (l : List Sig). CellFits n f.0 (cell_on o l)) (sym c.as_slice.ensures.value) f.1 in (
      f.0,
      subst (λ (l : List Sig). CellFits n f.0 (cell_on (op.Apply c.in-Apply-op.p) l)) (two_of xs c.in-len2.len_at_least c.in-len2.len_below)
          (subst (λ (q : Op). CellFits n f.0 (cell_on q xs)) c.in-Apply-op.is fits),
    )

pub returns-in-Apply-op : goal.returns-in-Apply-op
returns-in-Apply-op c =
    let n = c.args.net.now in
    let o = c.args.cell.now.op in
    let xs = c.as_slice.result.now in
    subst (λ (l : List Sig). Performs n (cell_on o l) c.pair.result) c.as_slice.ensures.value
    (subst (λ (q : Op). Performs n (cell_on q xs) c.pair.result) (sym c.in-Apply-op.is)
    (subst (λ (l : List Sig). Performs n (cell_on (op.Apply c.in-Apply-op.p) l) c.pair.result) (sym (two_of xs c.in-len2.len_at_least c.in-len2.len_below)) c.pair.ensures))

pub returns-in-len3 : goal.returns-in-len3
returns-in-len3 c =
    let n = c.args.net.now in
    let o = c.args.cell.now.op in
    let e = c.as_slice.ensures.value in
    let f = c.requires.fits in
    subst (λ (l : List Sig). Performs n (cell_on o l) (Choose (get_or c.as_slice.result.now 0 (record { 0 = 0 })).0
    (get_or c.as_slice.result.now 1 (record { 0 = 0 })).0 (get_or c.as_slice.result.now 2 (record { 0 = 0 })).0)) e
    (performs_mux n o c.as_slice.result.now f.0 (subst (λ (l : List Sig). CellFits n f.0 (cell_on o l)) (sym e) f.1) c.in-len3.len_at_least c.in-len3.len_below)

pub returns-in_default-op : goal.returns-in_default-op
returns-in_default-op c =
    let n = c.args.net.now in
    let o = c.args.cell.now.op in
    let xs = c.as_slice.result.now in
    let f = c.requires.fits in
    subst (λ (l : List Sig). Performs n (cell_on o l) (Choose (get_or xs 0 (record { 0 = 0 })).0 (get_or xs 0 (record { 0 = 0 })).0 (get_or xs 0 (record { 0 = 0 })).0)) c.as_slice.ensures.value
    (performs_copy n o xs f.0 (subst (λ (l : List Sig). CellFits n f.0 (cell_on o l)) (sym c.as_slice.ensures.value) f.1) c.in-len1.len_at_least c.in-len1.len_below c.in_default-op.not-Apply)
