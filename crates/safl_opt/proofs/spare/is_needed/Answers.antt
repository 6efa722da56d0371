use Rattle.safl_opt.proofs.Common.{IsChoice, are_constants, cell_of, numbers, numbers_length}
use Rattle.std.proofs.Common.{◌<◌, All, length, arith, refl, sym, ap, subst, ◌∙◌}
use Rattle.safl_opt.proofs.Setting.{known_numbers}
use Rattle.safl_opt.proofs.Sparing.{needed_const, needed_copy, needed_apply, apply_folded, mux_three, needed_mux, not_then_false, false_then_not}
use Rattle.safl_opt.proofs.spare.is_needed.Goals as goal

pub returns-in-Const : goal.returns-in-Const
returns-in-Const c = ((λ e. needed_const c.args.n.now (cell_of c.args.cell.now) _ c.in-Const.is), (λ w. refl))

pub returns-in-Copy : goal.returns-in-Copy
returns-in-Copy c = ((λ e. absurd (let z = e in cc)), (λ w. absurd (needed_copy c.args.n.now (cell_of c.args.cell.now) c.in-Copy.is w)))

pub chooses-requires-clause-known : goal.chooses-requires-clause-known
chooses-requires-clause-known c = known_numbers c.args.n.now c.as_slice.result.now (subst (All (λ s. s < length c.args.n.now.signals)) (sym (ap numbers c.as_slice.ensures.value)) c.requires.1.known)

pub chooses-requires-clause-three : goal.chooses-requires-clause-three
chooses-requires-clause-three c =
    let a = mux_three c.args.n.now (cell_of c.args.cell.now) c.requires.0 c.requires.1 c.in-Mux.is in
    let b = numbers_length c.args.cell.now.operands.items in
    let d = ap length c.as_slice.ensures.value in
    omega (arith, a, b, d)

pub returns-in-Mux : goal.returns-in-Mux
returns-in-Mux c = (
  (λ e.
      needed_mux c.args.n.now (cell_of c.args.cell.now) c.in-Mux.is (mux_three c.args.n.now (cell_of c.args.cell.now) c.requires.0 c.requires.1 c.in-Mux.is)
      (subst (IsChoice c.args.n.now) (ap numbers c.as_slice.ensures.value) (c.chooses.ensures.0 e))),
  (λ w. c.chooses.ensures.1 (subst (IsChoice c.args.n.now) (sym (ap numbers c.as_slice.ensures.value)) (w.chooses c.in-Mux.is))),
)

pub are_constants-requires : goal.are_constants-requires
are_constants-requires c =
    known_numbers c.args.n.now c.as_slice-in-Apply.result.now (subst (All (λ s. s < length c.args.n.now.signals)) (sym (ap numbers c.as_slice-in-Apply.ensures.value)) c.requires.1.known)

pub returns-in-Apply : goal.returns-in-Apply
returns-in-Apply c =
    let q = c.are_constants.ensures ∙ ap (λ l. are_constants c.args.n.now (numbers l)) c.as_slice-in-Apply.ensures.value in (
      (λ e. needed_apply c.args.n.now (cell_of c.args.cell.now) _ c.in-Apply.is (not_then_false c.are_constants.result _ q e)),
      (λ w. false_then_not c.are_constants.result _ q (apply_folded c.args.n.now (cell_of c.args.cell.now) _ c.in-Apply.is w)),
    )
