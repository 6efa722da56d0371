-- The outcome of the walk, by its parts.
use Rattle.safl_check.proofs.Common.{CheckErr, Def, Definition, Fault, Function, RefusesFault, Site, functions_max, heads, length-map}
use Rattle.safl_check.proofs.Common.{or_else, shown_definition, shown_definitions}
use Rattle.std.proofs.Common.{◌≡◌, suc, ◌≤◌, List, [], length, map, Option, Some, None, inl, inr, refl, sym, ◌∙◌, subst, arith}
use Rattle.std.specs.Prelude.{Ok, Err}
use Rattle.std.specs.Result.{result_err}
use Rattle.safl_tree.specs.Printable.{IsFormedProgram}
use Rattle.safl_typing.specs.Forms.{FunctionForm, Form, AreShallow, IsFormOf, all_sites, form_of, shown_function}
use Rattle.safl_typing.specs.Laws.{WalkGivesForm}
use Rattle.safl_typing.specs.Walk.{limits, limits_from, limit, functions_from, main_fault, outcome}
use Rattle.safl_typing.specs.Rewriting.{excess}
use Rattle.safl_typing.specs.FirstFault.{first_fault}
use Rattle.safl_typing.specs.declared.typed.CheckErr.TheVariants as errors
use Rattle.safl_typing.proofs.Limits.{none_limit, none_excess}
use Rattle.safl_typing.proofs.Walks.{as_many}
use Rattle.safl_typing.proofs.WidthsAlone.{same_fault}
use Rattle.safl_check.specs.Answers.{RefusesProgram, RefusesLimits, RefusesShallow}

-- ---- faults

outcome_limits : (ds : List Definition) (f : Fault) → limits ds ≡ Some f → result_err (outcome ds) ≡ Some f
unfolding outcome
outcome_limits ds f e = rw e refl

fault_of_limits : (ds : List Definition) (f : Fault) → limits ds ≡ Some f → first_fault ds ≡ Some f
fault_of_limits ds f e = sym (same_fault ds) ∙ outcome_limits ds f e

pub refused_limits : (ds : List Definition) (e : CheckErr) → RefusesLimits ds e → RefusesProgram ds e
refused_limits ds (errors.Refused f) h = (fault_of_limits ds f h, inl h)
refused_limits ds errors.TooDeep h = absurd h
refused_limits ds errors.NoMemory h = tt

pub refused_shallow : (ds : List Definition) (e : CheckErr) → AreShallow ds → RefusesShallow ds e → RefusesProgram ds e
refused_shallow ds (errors.Refused f) s h = (h, inr s)
refused_shallow ds errors.TooDeep s h = absurd h
refused_shallow ds errors.NoMemory s h = tt

outcome_functions : (ds : List Definition) (f : Fault) → limits ds ≡ None → functions_from (heads ds) [] 0 0 1 ds ≡ Err f → result_err (outcome ds) ≡ Some f
unfolding outcome
outcome_functions ds f e p = rw e (rw p refl)

pub fault_of_functions : (ds : List Definition) (f : Fault) → limits ds ≡ None → functions_from (heads ds) [] 0 0 1 ds ≡ Err f → first_fault ds ≡ Some f
fault_of_functions ds f e p = sym (same_fault ds) ∙ outcome_functions ds f e p

outcome_main : (ds : List Definition) (fs : List FunctionForm) (f : Fault) → limits ds ≡ None → functions_from (heads ds) [] 0 0 1 ds ≡ Ok fs → main_fault ds ≡ Some f
    → result_err (outcome ds) ≡ Some f
unfolding outcome
outcome_main ds fs f e p m = rw e (rw p (rw m refl))

pub fault_of_main : (ds : List Definition) (fs : List FunctionForm) (f : Fault) → limits ds ≡ None → functions_from (heads ds) [] 0 0 1 ds ≡ Ok fs → main_fault ds ≡ Some f → first_fault ds ≡ Some f
fault_of_main ds fs f e p m = sym (same_fault ds) ∙ outcome_main ds fs f e p m

-- a fault of the walk over the functions is the program's
pub refused_functions : (ds : List Definition) (e : CheckErr) → limits ds ≡ None → RefusesFault e (functions_from (heads ds) [] 0 0 1 ds) → RefusesShallow ds e
refused_functions ds (errors.Refused f) within h = fault_of_functions ds f within h
refused_functions ds errors.TooDeep within h = h
refused_functions ds errors.NoMemory within h = tt

first_of : (a b : Option Fault) (f : Fault) → a ≡ Some f → or_else a b ≡ Some f
first_of a b f e = rw e refl

second_of : (a b : Option Fault) (f : Fault) → a ≡ None → b ≡ Some f → or_else a b ≡ Some f
second_of a b f e h = rw e h

abbrev count_fault : List Definition → Option Fault
count_fault ds = limit 1 functions_max (excess functions_max (map (λ d. d.place) ds))

pub count_first : (ds : List Definition) (f : Fault) → count_fault ds ≡ Some f → limits ds ≡ Some f
count_first ds f e = first_of _ _ f e

pub limit_next : (ds : List Definition) (f : Fault) → count_fault ds ≡ None → limits_from (heads ds) 0 0 0 0 ds ≡ Some f → limits ds ≡ Some f
limit_next ds f e h = second_of _ _ f e h

-- definitions that are not too many
pub few : (defs : List Def) → count_fault (shown_definitions defs) ≡ None → length defs ≤ 1000
few defs e =
    let places = none_excess functions_max (map (λ d. d.place) (shown_definitions defs)) (none_limit _ _ _ e) in
    omega (arith, places, length-map (shown_definitions defs) (λ d. d.place), length-map defs shown_definition)

-- ---- forms

abbrev form_with : List FunctionForm → Form
form_with fs = record { functions = fs; sites = all_sites 0 fs }

outcome_ok : (ds : List Definition) (fs : List FunctionForm) → limits ds ≡ None → functions_from (heads ds) [] 0 0 1 ds ≡ Ok fs → main_fault ds ≡ None → outcome ds ≡ Ok (form_with fs)
unfolding outcome
outcome_ok ds fs e p m = rw e (rw p (rw m refl))

pub is_form : WalkGivesForm → (ds : List Definition) (fs : List FunctionForm) → IsFormedProgram ds → limits ds ≡ None → functions_from (heads ds) [] 0
    0 1 ds ≡ Ok fs → main_fault ds ≡ None → IsFormOf ds (form_with fs)
is_form law ds fs formed e p m = (law ds (form_with fs) formed).0 (outcome_ok ds fs e p m)

-- the form of a program with these functions and sites
pub form_shown : WalkGivesForm → (ds : List Definition) (fs : List Function) (sites : List Site) → IsFormedProgram ds → limits ds ≡ None →
    functions_from (heads ds) [] 0 0 1 ds ≡ Ok (map shown_function fs) → main_fault ds ≡ None
    → sites ≡ all_sites 0 (map shown_function fs) → IsFormOf ds (form_of (record { functions = fs; sites = sites }))
form_shown law ds fs sites formed e p m s =
    subst (λ (l : List Site). IsFormOf ds (record { functions = map shown_function fs; sites = l })) (sym s) (is_form law ds (map shown_function fs) formed e p m)

-- the functions of a form are not too many
pub few_functions : (ds : List Definition) (fs : List Function) (sites : List Site) → IsFormOf ds (form_of (record { functions = fs; sites = sites })) → length fs ≤ 1000
few_functions ds fs sites h =
    let count = as_many (heads ds) 0 0 0 1 (suc h.last_site) ds (map shown_function fs) h.functions in
    omega (arith, h.few_functions, count, length-map fs shown_function)
