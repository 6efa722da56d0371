-- The form of a program in which the call of one site is replaced by the body of its callee, and what it gives.
use Rattle.safl_reshape.proofs.Common.{Change, Definition, KeepsLimits, OneEvaluation, Parameter, Program, Spares, arity}
use Rattle.safl_reshape.proofs.Common.{changed_definitions, functions_rise, has_sites, no_long_let, same_Some, site_total}
use Rattle.std.proofs.Common.{◌≡◌, ℕ, zero, suc, ◌+◌, ◌-◌, ◌≤◌, List, [], ◌∷◌, length, Option, Some, None, Bool, true, false, cond, refl, sym, ap, ◌∙◌, subst, arith}
use Rattle.std.specs.Prelude.{slice_get, ◌==◌, codes}
use Rattle.safl_word.specs.Limits.{bindings_max, params_max}
use Rattle.safl_typing.specs.Rewriting.{Expression, Call, Expressions, no_expression, an_expression, rewritten}
use Rattle.safl_typing.specs.Heads.{Head, Member, Above, Unknown, unit_of, params_of, head_of, heads_from, heads}
use Rattle.safl_typing.specs.Typing.{Differ, names}
use Rattle.safl_typing.specs.Forms.{FunctionForm, Form, HasShortLets, HaveShortLets, HaveShortBound, all_sites, IsLast, function_names, AreFunctionsOf, IsFormOf}
use Rattle.safl_check.specs.Numbered.{program_in}
use Rattle.safl_reshape.specs.Reshaped.{unfolding_call, unfolded, is_recursive}
use Rattle.safl_reshape.proofs.Alike.{Alike}
use Rattle.safl_reshape.proofs.Shorts.{IsShort}
use Rattle.safl_reshape.proofs.Sites.{Sites, IsSiteIn, sites_map}
use Rattle.safl_reshape.proofs.Calls.{sees, is_same}
use Rattle.safl_reshape.proofs.Unfolds.{params_bound, under}
use Rattle.safl_reshape.proofs.Unfolding.{as_expression, unfold_alteration, unfold_rewriting, unfold_rigid, unfold_move}
use Rattle.safl_reshape.proofs.Standing.{function_sites, main_is, outer_is}
use Rattle.safl_reshape.proofs.Functions.{AllUnits, AllKept, functions_moved}
use Rattle.safl_reshape.proofs.Meanings.{main_runs, main_ran, both_at, kept_length, alike_at, params_at}

-- ---- what stays where bodies change

pub heads_changed : (all : List Head) (ch : Change) (n u m y lo : ℕ) (ds : List Definition) → n ≡ m → u ≡ y → heads_from n u (changed_definitions all ch m y lo ds) ≡ heads_from n u ds
heads_changed all ch n u m y lo [] e f = refl
heads_changed all ch n u m y lo (d ∷ ds) e f = ap (λ (l : List Head). head_of (unit_of n u d) d ∷ l)
    (heads_changed all ch (suc n) (unit_of n u d) (suc m) (unit_of m y d) _ ds (ap (λ (x : ℕ). suc x) e)
    (ap (λ (x : ℕ). unit_of x u d) e ∙ ap (λ (x : ℕ). unit_of m x d) f))

pub names_changed : (all : List Head) (ch : Change) (n u lo : ℕ) (ds : List Definition) → function_names (changed_definitions all ch n u lo ds) ≡ function_names ds
names_changed all ch n u lo [] = refl
names_changed all ch n u lo (d ∷ ds) = ap (λ (l : List (List ℕ)). d.name ∷ l) (names_changed all ch (suc n) (unit_of n u d) _ ds)

pub last_changed : (x : List ℕ) (all : List Head) (ch : Change) (n u lo : ℕ) (ds : List Definition) → IsLast x ds → IsLast x (changed_definitions all ch n u lo ds)
last_changed x all ch n u lo [] h = h
last_changed x all ch n u lo (d ∷ []) h = h
last_changed x all ch n u lo (d ∷ (e ∷ ds)) h = last_changed x all ch (suc n) (unit_of n u d) _ (e ∷ ds) h

-- ---- limits

pub site_sum : (all : List Head) (n u w lo hi : ℕ) (ds : List Definition) (fs : List FunctionForm) → AreFunctionsOf all n u w lo hi ds fs → hi ≡ lo + site_total all n u ds
site_sum all n u w lo hi [] [] h = omega (arith, h)
site_sum all n u w lo hi [] (f ∷ fs) h = absurd h
site_sum all n u w lo hi (d ∷ ds) [] h = absurd h
site_sum all n u w lo hi (d ∷ ds) (f ∷ fs) (m, is, j, rest) =
    omega (arith, has_sites (sees all (unit_of n u d)) (params_of d) true lo m (rewritten d.body) d.width f.body is.body, site_sum all (suc n) (unit_of n u d) d.width m hi ds fs rest)

-- a definition has few parameters, and short lets
pub record IsShortDefinition (d : Definition) : Type 0 where
  pub params : length d.params ≤ params_max
  pub lets : HasShortLets (rewritten d.body)

pub short_at : (all : List Head) (n u w lo hi : ℕ) (ds : List Definition) (fs : List FunctionForm) (i : ℕ) (d : Definition) → AreFunctionsOf all n u w
    lo hi ds fs → slice_get ds i ≡ Some d → IsShortDefinition d
short_at all n u w lo hi [] fs i d h e = absurd cc
short_at all n u w lo hi (x ∷ ds) [] i d h e = absurd h
short_at all n u w lo hi (x ∷ ds) (f ∷ fs) zero d (m, is, j, rest) e =
    subst IsShortDefinition (same_Some x d e) (record { params = is.few_params; lets = no_long_let (rewritten x.body) is.short_lets })
short_at all n u w lo hi (x ∷ ds) (f ∷ fs) (suc i) d (m, is, j, rest) e = short_at all (suc n) (unit_of n u x) x.width m hi ds fs i d rest e

few_names : (ps : List Parameter) (es : Expressions) → length (names (params_bound ps es)) ≤ length ps
few_names [] es = omega arith
few_names (p ∷ ps) no_expression = omega arith
few_names (p ∷ ps) (an_expression e es) = omega (arith, few_names ps es)

short_params : (ps : List Parameter) (es : Expressions) → HaveShortLets es → HaveShortBound (params_bound ps es)
short_params [] es h = tt
short_params (p ∷ ps) no_expression h = tt
short_params (p ∷ ps) (an_expression e es) h = (h.0, short_params ps es h.1)

short_under : (place : ℕ) (ps : List Parameter) (es : Expressions) (b : Expression) → length ps ≤ bindings_max → HaveShortLets es → HasShortLets b → HasShortLets (under place ps es b)
short_under place [] es b l h s = s
short_under place (p ∷ ps) no_expression b l h s = s
short_under place (p ∷ ps) (an_expression e es) b l h s = (omega (arith, few_names (p ∷ ps) (an_expression e es), l), short_params (p ∷ ps) (an_expression e es) h, s)

short_as : (o : Option Definition) (p : ℕ) (x : List ℕ) (es : Expressions) → ((d : Definition) → o ≡ Some d → IsShortDefinition d) → HaveShortLets es → HasShortLets (as_expression o p x es)
short_as None p x es s h = h
short_as (Some d) p x es s h = let q = s d refl in (omega arith, (short_under p d.params es (rewritten d.body) q.params h q.lets, tt), tt)

short_cond : (b : Bool) (e f : Expression) → HasShortLets e → HasShortLets f → HasShortLets (cond b e f)
short_cond true e f h g = h
short_cond false e f h g = g

unfold_short : (ds : List Definition) (k : ℕ) → ((i : ℕ) (d : Definition) → slice_get ds i ≡ Some d → IsShortDefinition d) → IsShort (unfold_alteration ds k)
unfold_short ds k s (Member i h) lo p x es sh = sh
unfold_short ds k s (Above i h) lo p x es sh = short_cond (lo == k) (as_expression (slice_get ds i) p x es) (Call p x es) (short_as (slice_get ds i) p x es (s i) sh) sh
unfold_short ds k s Unknown lo p x es sh = sh

any_units : (n u : ℕ) (ds : List Definition) → AllUnits (λ v. Unit {0}) n u ds
any_units n u [] = tt
any_units n u (d ∷ ds) = (tt, any_units (suc n) (unit_of n u d) ds)

-- ---- the form

module _ (ds : List Definition) (c : Form) (is : IsFormOf ds c) (k : ℕ) (alone : is_recursive ds ((program_in c).callee k) ≡ false) where
  abbrev C : Program
  C = program_in c

  abbrev at : ℕ → Bool
  at j = j == k

  own_sites : (i : ℕ) (f : FunctionForm) → slice_get c.functions i ≡ Some f → Sites (λ j f. C.callee j ≡ f) f.body
  own_sites i f e = sites_map (IsSiteIn C i) (λ j f. C.callee j ≡ f) (λ j f q. q.0) f.body (function_sites ds c is i f e)

  pub unfolded_functions : (end : ℕ) × (gs : List FunctionForm) × AreFunctionsOf (heads ds) 0 0 0 1 end (unfolded ds k) gs × AllKept C is_same at c.functions gs
  unfolded_functions = functions_moved C is_same at (λ j f. C.callee j ≡ f) (heads ds) (heads ds) (unfolding_call ds k) (unfold_alteration ds k) (unfold_rewriting ds k) (unfold_rigid ds k)
      (unfold_short ds k (λ i d e. short_at (heads ds) 0 0 0 1 (suc is.last_site) ds c.functions i d is.functions e)) 0 (λ v. Unit {0}) (λ v p. unfold_move ds c is k alone v)
      0 0 0 0 0 1 (suc is.last_site) 1 1 ds c.functions refl refl refl (any_units 0 0 ds) own_sites is.functions

  pub unfolded_form : KeepsLimits (unfolded ds k) → (e : Form) × IsFormOf (unfolded ds k) e × AllKept C is_same at c.functions e.functions
  unfolded_form kept =
      let r = unfolded_functions in
      let hs : heads ds ≡ heads (unfolded ds k) = sym (heads_changed (heads ds) (unfolding_call ds k) 0 0 0 0 1 ds refl refl) in
      let up = functions_rise (heads ds) 0 0 0 1 r.0 (unfolded ds k) r.1 r.2 in
      let l : r.0 ≡ suc (r.0 - 1) = omega (arith, up) in
      let a = subst (λ (x : ℕ). AreFunctionsOf (heads (unfolded ds k)) 0 0 0 1 x (unfolded ds k) r.1) l (subst (λ (x : List Head). AreFunctionsOf x 0 0 0 1 r.0 (unfolded ds k) r.1) hs r.2) in (
        record { functions = r.1; sites = all_sites 0 r.1 },
        record {
          last_site = r.0 - 1;
          functions = a;
          sites = refl;
          functions_differ = subst Differ (sym (names_changed (heads ds) (unfolding_call ds k) 0 0 1 ds)) is.functions_differ;
          main = last_changed (codes "main") (heads ds) (unfolding_call ds k) 0 0 1 ds is.main;
          few_functions = kept.functions;
          few_sites = omega (arith, site_sum (heads (unfolded ds k)) 0 0 0 1 (suc (r.0 - 1)) (unfolded ds k) r.1 a, kept.sites);
          few_nodes = kept.nodes;
        },
        r.3,
      )

  pub unfolded_spares : (e : Form) → AllKept C is_same at c.functions e.functions → OneEvaluation (program_in e) → Spares k C (program_in e)
  unfolded_spares e ke one =
      let m : (program_in e).main ≡ C.main = main_is c e (kept_length C is_same at c.functions e.functions ke) in
      let o : C.callee 0 ≡ (program_in e).callee 0 = outer_is c ∙ (sym m ∙ sym (outer_is e)) in
      let b = (λ (f g : ℕ) (q : f ≡ g). subst (λ (x : ℕ). Alike C is_same at 0 (arity C f) (C.body f) ((program_in e).body x)) q
      (alike_at c e is_same at f f (both_at C is_same at c.functions e.functions f ke))) in
      record {
        params = ap (λ (x : ℕ). (program_in e).params x) m ∙ params_at c e is_same at C.main C.main (both_at C is_same at c.functions e.functions C.main ke);
        gives = λ args v d a. main_runs C (program_in e) is_same at b o (outer_is c) args v d a;
        only = λ args v g a. main_ran C (program_in e) is_same at b o (outer_is c) one args v g a;
      }
