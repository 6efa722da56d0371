-- What follows from the walk's giving exactly the form: one form, a fault or a form, and units of single functions.
use Rattle.safl_typing.proofs.Common.{Definition, Fault, result_err, same_Some}
use Rattle.std.proofs.Common.{◌≡◌, ℕ, zero, suc, ◌+◌, List, [], ◌∷◌, Some, None, refl, sym, ap, ◌∙◌, arith}
use Rattle.std.specs.Prelude.{Result, Ok, Err, slice_get}
use Rattle.std.proofs.lemmas.Bool.{cond-false}
use Rattle.safl_tree.specs.Printable.{IsFormedProgram}
use Rattle.safl_typing.specs.Heads.{Head, unit_of}
use Rattle.safl_typing.specs.Forms.{FunctionForm, Form, AreFunctionsOf, IsFormOf}
use Rattle.safl_typing.specs.Walk.{outcome}
use Rattle.safl_typing.specs.FirstFault.{first_fault}
use Rattle.safl_typing.specs.Laws.{NoneJoined}
use Rattle.safl_typing.proofs.Names.{some_none}
use Rattle.safl_typing.proofs.Sound.{ok_is}
use Rattle.safl_typing.proofs.Walks.{walk_form, form_walk}
use Rattle.safl_typing.proofs.WidthsAlone.{same_fault}

pub one_form : (ds : List Definition) (c d : Form) → IsFormOf ds c → IsFormOf ds d → c ≡ d
one_form ds c d h g = ok_is c d (sym (form_walk ds c h) ∙ form_walk ds d g)

no_fault : (r : Result Form Fault) → result_err r ≡ None → (c : Form) × (r ≡ Ok c)
no_fault (Ok c) e = (c, refl)
no_fault (Err f) e = some_none f e

pub form_or_fault : (ds : List Definition) → IsFormedProgram ds → first_fault ds ≡ None → (c : Form) × IsFormOf ds c
form_or_fault ds form e = let q = no_fault (outcome ds) (same_fault ds ∙ e) in (q.0, walk_form ds q.0 form q.1)

pub form_no_fault : (ds : List Definition) → (c : Form) × IsFormOf ds c → first_fault ds ≡ None
form_no_fault ds (c, h) = sym (same_fault ds) ∙ ap (λ (r : Result Form Fault). result_err r) (form_walk ds c h)

pub units_alone : (all : List Head) (n u w lo hi : ℕ) (ds : List Definition) (fs : List FunctionForm) (i : ℕ) (f : FunctionForm) → NoneJoined ds →
    AreFunctionsOf all n u w lo hi ds fs → slice_get fs i ≡ Some f → f.unit ≡ n + i
units_alone all n u w lo hi [] [] i f single h e = absurd cc
units_alone all n u w lo hi [] (g ∷ fs) i f single h e = absurd h
units_alone all n u w lo hi (d ∷ ds) [] i f single h e = absurd h
units_alone all n u w lo hi (d ∷ ds) (g ∷ fs) zero f single (m, is, j, rest) e =
    omega (arith, sym (ap (λ (z : FunctionForm). z.unit) (same_Some g f e)), is.unit, cond-false d.joined u n single.0)
units_alone all n u w lo hi (d ∷ ds) (g ∷ fs) (suc i) f single (m, is, j, rest) e =
    omega (arith, units_alone all (suc n) (unit_of n u d) d.width m hi ds fs i f single.1 rest e)
