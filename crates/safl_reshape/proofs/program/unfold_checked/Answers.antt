use Rattle.safl_reshape.proofs.Common.{AllKeepLevels, Def, KeepsLimits, List, Program, Spares, err_from_is_err_and, shown_definitions}
use Rattle.safl_reshape.proofs.Common.{shown_form, shown_program, subst, sym, ◌≡◌}
use Rattle.safl_check.specs.Numbered.{program_in}
use Rattle.safl_reshape.specs.Reshaped.{unfolded}
use Rattle.safl_reshape.specs.Refusals.{RefusesUnfolding, RefusesLimit, MayUnfold}
use Rattle.safl_reshape.proofs.CopyHolds.{any_form, unfolding_limit_refused, good_unfolding}
use Rattle.safl_reshape.proofs.program.unfold_checked.Goals as goal

pub returns-in_err-defs-clause-refused : goal.returns-in_err-defs-clause-refused
returns-in_err-defs-clause-refused c =
    let p = err_from_is_err_and c.from_residual.result c.from_residual.ensures.1 in
    let n : c.args.checked.now.program ≡ program_in (shown_form c.args.checked.now) = (c.forms_are_numbered_law.ensures c.args.checked.now).program in
    let r = subst (λ (l : List Def). RefusesUnfolding c.args.checked.now.program (shown_definitions l) c.args.site c.in_err-defs.field-0.0) c.deref.ensures.value c.in_err-defs.ensures.refused in
    rw (p.1, p.2) (any_form (shown_program c.args.program.now) c.args.checked.now c.requires.form c.one_form_law.ensures n
    (λ (z : Program). RefusesUnfolding z (shown_program c.args.program.now) c.args.site c.in_err-defs.field-0.0) r)

pub returns-in_err-look_at_limits-clause-refused : goal.returns-in_err-look_at_limits-clause-refused
returns-in_err-look_at_limits-clause-refused c =
    let p = err_from_is_err_and c.from_residual-in_err-look_at_limits.result c.from_residual-in_err-look_at_limits.ensures.1 in
    let n : c.args.checked.now.program ≡ program_in (shown_form c.args.checked.now) = (c.forms_are_numbered_law.ensures c.args.checked.now).program in
    let m : MayUnfold c.args.checked.now.program (shown_program c.args.program.now) c.args.site = subst
    (λ (l : List Def). MayUnfold c.args.checked.now.program (shown_definitions l) c.args.site) c.deref.ensures.value c.in_ok-defs.ensures.may in
    let q : (shown_definitions c.in_ok-defs.defs.items) ≡ unfolded (shown_program c.args.program.now) c.args.site = subst
    (λ (l : List Def). (shown_definitions c.in_ok-defs.defs.items) ≡ unfolded (shown_definitions l) c.args.site) c.deref.ensures.value
    c.in_ok-defs.ensures.unfolded in
    let l = subst (λ (l : List Def). RefusesLimit (shown_definitions l) c.in_err-look_at_limits.field-0.0) c.deref-2.ensures.value c.in_err-look_at_limits.ensures.refused in
    let r = unfolding_limit_refused c.args.checked.now.program (shown_program c.args.program.now) (shown_definitions c.in_ok-defs.defs.items)
    c.args.site c.in_err-look_at_limits.field-0.0 m q l in
    rw (p.1, p.2) (any_form (shown_program c.args.program.now) c.args.checked.now c.requires.form c.one_form_law.ensures n
    (λ (z : Program). RefusesUnfolding z (shown_program c.args.program.now) c.args.site c.in_err-look_at_limits.field-0.0) r)

pub returns-then-not-levels_ok-clause-refused : goal.returns-then-not-levels_ok-clause-refused
returns-then-not-levels_ok-clause-refused c =
    let n : c.args.checked.now.program ≡ program_in (shown_form c.args.checked.now) = (c.forms_are_numbered_law.ensures c.args.checked.now).program in
    let m : MayUnfold c.args.checked.now.program (shown_program c.args.program.now) c.args.site = subst
    (λ (l : List Def). MayUnfold c.args.checked.now.program (shown_definitions l) c.args.site) c.deref.ensures.value c.in_ok-defs.ensures.may in
    let q : (shown_definitions c.in_ok-defs.defs.items) ≡ unfolded (shown_program c.args.program.now) c.args.site = subst
    (λ (l : List Def). (shown_definitions c.in_ok-defs.defs.items) ≡ unfolded (shown_definitions l) c.args.site) c.deref.ensures.value
    c.in_ok-defs.ensures.unfolded in
    let k : KeepsLimits (shown_definitions c.in_ok-defs.defs.items) = subst (λ (l : List Def). KeepsLimits (shown_definitions l)) c.deref-2.ensures.value c.in_ok-look_at_limits.ensures.kept in
    any_form (shown_program c.args.program.now) c.args.checked.now c.requires.form c.one_form_law.ensures n
    (λ (z : Program). MayUnfold z (shown_program c.args.program.now) c.args.site × KeepsLimits
    (unfolded (shown_program c.args.program.now) c.args.site) × (AllKeepLevels (unfolded (shown_program c.args.program.now) c.args.site) → ⊥))
    (m, subst KeepsLimits q k, λ a. absurd (let t = c.levels_ok.ensures.1 (subst AllKeepLevels (sym q) a) in cc))

pub returns-clause-unfolded : goal.returns-clause-unfolded
returns-clause-unfolded c =
    let n : c.args.checked.now.program ≡ program_in (shown_form c.args.checked.now) = (c.forms_are_numbered_law.ensures c.args.checked.now).program in
    let m : MayUnfold c.args.checked.now.program (shown_program c.args.program.now) c.args.site = subst
    (λ (l : List Def). MayUnfold c.args.checked.now.program (shown_definitions l) c.args.site) c.deref.ensures.value c.in_ok-defs.ensures.may in
    let q : (shown_definitions c.in_ok-defs.defs.items) ≡ unfolded (shown_program c.args.program.now) c.args.site = subst
    (λ (l : List Def). (shown_definitions c.in_ok-defs.defs.items) ≡ unfolded (shown_definitions l) c.args.site) c.deref.ensures.value
    c.in_ok-defs.ensures.unfolded in
    let k : KeepsLimits (shown_definitions c.in_ok-defs.defs.items) = subst (λ (l : List Def). KeepsLimits (shown_definitions l)) c.deref-2.ensures.value c.in_ok-look_at_limits.ensures.kept in
    any_form (shown_program c.args.program.now) c.args.checked.now c.requires.form c.one_form_law.ensures n
    (λ (z : Program). MayUnfold z (shown_program c.args.program.now) c.args.site × KeepsLimits (shown_definitions c.in_ok-defs.defs.items) ×
    AllKeepLevels (shown_definitions c.in_ok-defs.defs.items) ×
    ((shown_definitions c.in_ok-defs.defs.items) ≡ unfolded (shown_program c.args.program.now) c.args.site)) (m, k, c.levels_ok.ensures.0 c.if-not-levels_ok.false, q)

pub returns-clause-printable : goal.returns-clause-printable
returns-clause-printable c =
    let n : c.args.checked.now.program ≡ program_in (shown_form c.args.checked.now) = (c.forms_are_numbered_law.ensures c.args.checked.now).program in
    let m : MayUnfold c.args.checked.now.program (shown_program c.args.program.now) c.args.site = subst
    (λ (l : List Def). MayUnfold c.args.checked.now.program (shown_definitions l) c.args.site) c.deref.ensures.value c.in_ok-defs.ensures.may in
    let q : (shown_definitions c.in_ok-defs.defs.items) ≡ unfolded (shown_program c.args.program.now) c.args.site = subst
    (λ (l : List Def). (shown_definitions c.in_ok-defs.defs.items) ≡ unfolded (shown_definitions l) c.args.site) c.deref.ensures.value
    c.in_ok-defs.ensures.unfolded in
    let k : KeepsLimits (shown_definitions c.in_ok-defs.defs.items) = subst (λ (l : List Def). KeepsLimits (shown_definitions l)) c.deref-2.ensures.value c.in_ok-look_at_limits.ensures.kept in
    let g = good_unfolding (shown_program c.args.program.now) c.args.checked.now c.args.site (shown_definitions c.in_ok-defs.defs.items)
    c.requires.printable.formed c.requires.form n c.unfolding_law.ensures m q k in
    record { formed = g.formed; kept = c.levels_ok.ensures.0 c.if-not-levels_ok.false }

pub returns-clause-sparing : goal.returns-clause-sparing
returns-clause-sparing c =
    let n : c.args.checked.now.program ≡ program_in (shown_form c.args.checked.now) = (c.forms_are_numbered_law.ensures c.args.checked.now).program in
    let m : MayUnfold c.args.checked.now.program (shown_program c.args.program.now) c.args.site = subst
    (λ (l : List Def). MayUnfold c.args.checked.now.program (shown_definitions l) c.args.site) c.deref.ensures.value c.in_ok-defs.ensures.may in
    let q : (shown_definitions c.in_ok-defs.defs.items) ≡ unfolded (shown_program c.args.program.now) c.args.site = subst
    (λ (l : List Def). (shown_definitions c.in_ok-defs.defs.items) ≡ unfolded (shown_definitions l) c.args.site) c.deref.ensures.value
    c.in_ok-defs.ensures.unfolded in
    let k : KeepsLimits (shown_definitions c.in_ok-defs.defs.items) = subst (λ (l : List Def). KeepsLimits (shown_definitions l)) c.deref-2.ensures.value c.in_ok-look_at_limits.ensures.kept in
    let g = good_unfolding (shown_program c.args.program.now) c.args.checked.now c.args.site (shown_definitions c.in_ok-defs.defs.items)
    c.requires.printable.formed c.requires.form n c.unfolding_law.ensures m q k in
    λ e h. (
      g.form,
      g.is,
      any_form (shown_program c.args.program.now) c.args.checked.now c.requires.form c.one_form_law.ensures n
          (λ (z : Program). Spares c.args.site z (program_in g.form)) (subst (λ (z : Program). Spares c.args.site z (program_in g.form)) (sym n) g.spares) e h,
    )
