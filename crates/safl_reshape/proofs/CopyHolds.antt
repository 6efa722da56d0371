-- What holds of the copy.
use Rattle.safl_reshape.proofs.Common.{CheckedProgram, Definition, IsChecked, KeepsLimits, Program, formed_at, name_in}
use Rattle.std.proofs.Common.{◌≡◌, ℕ, ◌<◌, ◌≤◌, ◌^◌, List, length, Option, false, sym, ap, ◌∙◌, subst, arith}
use Rattle.safl_word.specs.Tokens.{IsSourceName}
use Rattle.safl_tree.specs.Printable.{IsFormedProgram}
use Rattle.safl_typing.specs.Forms.{Form, IsFormOf, shown_form}
use Rattle.safl_typing.specs.Laws.{OneForm}
use Rattle.safl_check.specs.Numbered.{program_in}
use Rattle.safl_reshape.specs.declared.error.ReshapeErr.{ReshapeErr}
use Rattle.safl_reshape.specs.declared.error.ReshapeErr.TheVariants as errors
use Rattle.safl_reshape.specs.Laws.{IsAlike, Spares, CopyIsAlike, UnfoldingSpares}
use Rattle.safl_reshape.specs.Reshaped.{copy_name, copied, copied_as, copied_under, unfolded, is_recursive}
use Rattle.safl_reshape.specs.Refusals.{MayCopy, name_for, RefusesCopy, RefusesLimit, MayUnfold, RefusesUnfolding}
use Rattle.safl_reshape.proofs.Callees.{copyable}
use Rattle.safl_reshape.proofs.FormedTrees.{copy_named, copy_formed, unfold_formed}

-- each form of the definitions is that of the checked program
pub any_form : (ds : List Definition) (c : CheckedProgram) → IsFormOf ds (shown_form c) → OneForm → c.program ≡ program_in (shown_form c) →
    (P : Program → Type 0) → P c.program → (f : Form) → IsFormOf ds f → P (program_in f)
any_form ds c is one e P p f h = subst P (e ∙ ap program_in (one ds (shown_form c) f is h)) p

pub limit_refused : (C : Program) (ds es : List Definition) (k : ℕ) (e : ReshapeErr) → MayCopy C ds k → es ≡ copied ds k (C.callee k) → RefusesLimit es e → RefusesCopy C ds k e
limit_refused C ds es k errors.NoSite m q r = absurd r
limit_refused C ds es k errors.Grouped m q r = absurd r
limit_refused C ds es k errors.Recursive m q r = absurd r
limit_refused C ds es k errors.NameLong m q r = absurd r
limit_refused C ds es k errors.NameTaken m q r = absurd r
limit_refused C ds es k (errors.Limit i) m q r = (m, subst (λ (l : List Definition). RefusesLimit l (errors.Limit i)) q r)
limit_refused C ds es k errors.TooDeep m q r = absurd r
limit_refused C ds es k errors.NoMemory m q r = tt

pub record IsGoodCopy (ds : List Definition) (c : CheckedProgram) (es : List Definition) : Type 0 where
  pub formed : IsFormedProgram es
  pub form : Form
  pub is : IsFormOf es form
  pub alike : IsAlike (program_in (shown_form c)) (program_in form)

pub good_copy : (ds : List Definition) (c : CheckedProgram) (k : ℕ) (es : List Definition) → IsFormedProgram ds → IsFormOf ds (shown_form c) → IsChecked c
    → c.program ≡ program_in (shown_form c) → CopyIsAlike → k < 2 ^ 128 → MayCopy c.program ds k → es ≡ copied ds k (c.program.callee k) →
    KeepsLimits es → IsGoodCopy ds c es
good_copy ds c k es formed is ok e law lt may q kept =
    let j = c.program.callee k in
    let d = copyable ds c k is ok e may in
    let new = copy_name d.0.name k in
    let p : es ≡ copied_under new ds k j d.0 = q ∙ ap (λ (o : Option Definition). copied_as o ds k j) d.1 in
    let nf : name_for ds k j ≡ new = ap (λ (o : Option Definition). copy_name (name_in o) k) d.1 in
    let l : length new ≤ 64 = omega (arith, ap (λ (x : List ℕ). length x) nf, may.short) in
    let n : IsSourceName new = copy_named d.0.name k (formed_at ds j d.0 formed.formed d.1).0 lt l in
    let r = law ds (shown_form c) k j d.0 new is d.2 (subst KeepsLimits p kept) in
    record {
      formed = subst IsFormedProgram (sym p) (copy_formed ds k j d.0 new formed d.1 n);
      form = r.0;
      is = subst (λ (x : List Definition). IsFormOf x r.0) (sym p) r.1;
      alike = r.2;
    }

-- ---- the unfolding

pub unfolding_limit_refused : (C : Program) (ds es : List Definition) (k : ℕ) (e : ReshapeErr) → MayUnfold C ds k → es ≡ unfolded ds k → RefusesLimit es e → RefusesUnfolding C ds k e
unfolding_limit_refused C ds es k errors.NoSite m q r = absurd r
unfolding_limit_refused C ds es k errors.Grouped m q r = absurd r
unfolding_limit_refused C ds es k errors.Recursive m q r = absurd r
unfolding_limit_refused C ds es k errors.NameLong m q r = absurd r
unfolding_limit_refused C ds es k errors.NameTaken m q r = absurd r
unfolding_limit_refused C ds es k (errors.Limit i) m q r = (m, subst (λ (l : List Definition). RefusesLimit l (errors.Limit i)) q r)
unfolding_limit_refused C ds es k errors.TooDeep m q r = absurd r
unfolding_limit_refused C ds es k errors.NoMemory m q r = tt

pub record IsGoodUnfolding (k : ℕ) (ds : List Definition) (c : CheckedProgram) (es : List Definition) : Type 0 where
  pub formed : IsFormedProgram es
  pub form : Form
  pub is : IsFormOf es form
  pub spares : Spares k (program_in (shown_form c)) (program_in form)

pub good_unfolding : (ds : List Definition) (c : CheckedProgram) (k : ℕ) (es : List Definition) → IsFormedProgram ds → IsFormOf ds (shown_form c) →
    c.program ≡ program_in (shown_form c) → UnfoldingSpares → MayUnfold c.program ds k → es ≡ unfolded ds k → KeepsLimits es → IsGoodUnfolding k ds c es
good_unfolding ds c k es formed is e law may q kept =
    let al : is_recursive ds ((program_in (shown_form c)).callee k) ≡ false = subst (λ (z : Program). is_recursive ds (z.callee k) ≡ false) e may.alone in
    let r = law ds (shown_form c) k is al (subst KeepsLimits q kept) in
    record {
      formed = subst IsFormedProgram (sym q) (unfold_formed ds k formed);
      form = r.0;
      is = subst (λ (x : List Definition). IsFormOf x r.0) (sym q) r.1;
      spares = r.2;
    }
