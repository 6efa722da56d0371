-- The functions of a program that has a form.
use Rattle.safl_reshape.proofs.Common.{Definition, Differ, Has, Program, Term, option_map, rewritten, same_Some, slice_get, widths_of}
use Rattle.std.proofs.Common.{◌≡◌, ℕ, zero, suc, ◌+◌, List, [], ◌∷◌, length, Option, Some, true, refl, sym, ap, ◌∙◌, subst, arith}
use Rattle.safl_term.specs.declared.checked.Site.{Site}
use Rattle.safl_typing.specs.Heads.{Slot, Head, unit_of, params_of, head_of, heads_from, heads}
use Rattle.safl_typing.specs.Forms.{FunctionForm, Form, sites_of, all_sites, function_names, IsFunctionOf, AreFunctionsOf, IsFormOf}
use Rattle.safl_check.specs.Numbered.{form_site, main_in, program_in}
use Rattle.safl_reshape.proofs.Calls.{IsProgramOf, sees}
use Rattle.safl_typing.proofs.Spans.{Noted, noted_parts, has_length}
use Rattle.safl_typing.proofs.Placing.{noted_from}
use Rattle.safl_reshape.proofs.Lookups.{NamesDiffer}
use Rattle.safl_reshape.proofs.Sites.{Sites, IsSiteIn, noted_sites}

-- function n + i, whose head is h
pub record Stands (C : Program) (all : List Head) (n : ℕ) (ds : List Definition) (fs : List FunctionForm) (i : ℕ) (h : Head) : Type 0 where
  pub def : Definition
  pub function : FunctionForm
  pub unit : ℕ
  pub first : ℕ
  pub end : ℕ
  pub defined : slice_get ds i ≡ Some def
  pub stands : slice_get fs i ≡ Some function
  pub head : h ≡ head_of unit def
  pub is : IsFunctionOf all unit first end def function
  pub noted : Noted C first (sites_of (n + i) function.body)

pub stands_at : (C : Program) (all : List Head) (n u w lo hi : ℕ) (ds : List Definition) (fs : List FunctionForm) (i : ℕ) (h : Head) → AreFunctionsOf
    all n u w lo hi ds fs → Noted C lo (all_sites n fs) → slice_get (heads_from n u ds) i ≡ Some h → Stands C all n ds fs i h
stands_at C all n u w lo hi [] fs i h a noted e = absurd cc
stands_at C all n u w lo hi (d ∷ ds) [] i h a noted e = absurd a
stands_at C all n u w lo hi (d ∷ ds) (f ∷ fs) zero h (m, is, j, rest) noted e =
    let p = noted_parts C lo m (sites_of n f.body) (all_sites (suc n) fs) (has_length n (sees all (unit_of n u d)) (params_of d) true lo m (rewritten d.body) d.width f.body is.body) noted in
    let z : n ≡ n + 0 = omega arith in
    record {
      def = d;
      function = f;
      unit = unit_of n u d;
      first = lo;
      end = m;
      defined = refl;
      stands = refl;
      head = sym (same_Some _ h e);
      is = is;
      noted = subst (λ (g : ℕ). Noted C lo (sites_of g f.body)) z p.0;
    }
stands_at C all n u w lo hi (d ∷ ds) (f ∷ fs) (suc i) h (m, is, j, rest) noted e =
    let p = noted_parts C lo m (sites_of n f.body) (all_sites (suc n) fs) (has_length n (sees all (unit_of n u d)) (params_of d) true lo m (rewritten d.body) d.width f.body is.body) noted in
    let z : suc n + i ≡ n + suc i = omega arith in
    let s = stands_at C all (suc n) (unit_of n u d) d.width m hi ds fs i h rest p.1 e in
    record {
      def = s.def;
      function = s.function;
      unit = s.unit;
      first = s.first;
      end = s.end;
      defined = s.defined;
      stands = s.stands;
      head = s.head;
      is = s.is;
      noted = subst (λ (g : ℕ). Noted C s.first (sites_of g s.function.body)) z s.noted;
    }

pub function_head : (all : List Head) (n u w lo hi : ℕ) (ds : List Definition) (fs : List FunctionForm) (i : ℕ) (f : FunctionForm) → AreFunctionsOf
    all n u w lo hi ds fs → slice_get fs i ≡ Some f → (h : Head) × (slice_get (heads_from n u ds) i ≡ Some h)
function_head all n u w lo hi ds [] i f a e = absurd cc
function_head all n u w lo hi [] (g ∷ fs) i f a e = absurd a
function_head all n u w lo hi (d ∷ ds) (g ∷ fs) zero f a e = (head_of (unit_of n u d) d, refl)
function_head all n u w lo hi (d ∷ ds) (g ∷ fs) (suc i) f (m, is, j, rest) e = function_head all (suc n) (unit_of n u d) d.width m hi ds fs i f rest e

heads_names : (n u : ℕ) (ds : List Definition) (i : ℕ) (h : Head) → slice_get (heads_from n u ds) i ≡ Some h → slice_get (function_names ds) i ≡ Some h.name
heads_names n u [] i h e = absurd cc
heads_names n u (d ∷ ds) zero h e = ap (λ (o : Option Head). option_map (λ (z : Head). z.name) o) e
heads_names n u (d ∷ ds) (suc i) h e = heads_names (suc n) (unit_of n u d) ds i h e

pub heads_differ : (ds : List Definition) → Differ (function_names ds) → NamesDiffer (heads ds)
heads_differ ds d i j g h p q e = d i j h.name (heads_names 0 0 ds i g p ∙ ap (λ (x : List ℕ). Some x) e) (heads_names 0 0 ds j h q)

module _ (ds : List Definition) (c : Form) (is : IsFormOf ds c) where
  noted : Noted (program_in c) 1 (all_sites 0 c.functions)
  unfolding program_in
  noted = subst (λ (xs : List Site). Noted (program_in c) 1 xs) is.sites (noted_from (program_in c) 1 c.sites (λ i x q.
      let r : 1 + i ≡ suc i = omega arith in
      (ap (form_site (λ (s : Site). s.caller) 0 c) r ∙ rw q refl, ap (form_site (λ (s : Site). s.callee) (main_in c) c) r ∙ rw q refl)))

  abbrev pub Here : ℕ → Head → Type 0
  Here i h = Stands (program_in c) (heads ds) 0 ds c.functions i h

  pub here : (i : ℕ) (h : Head) → slice_get (heads ds) i ≡ Some h → Here i h
  here i h e = stands_at (program_in c) (heads ds) 0 0 0 1 (suc is.last_site) ds c.functions i h is.functions noted e

  pub body_is : (i : ℕ) (h : Head) (s : Here i h) → (program_in c).body i ≡ s.function.body
  unfolding program_in
  body_is i h s = rw s.stands refl

  pub params_is : (i : ℕ) (h : Head) (s : Here i h) → (program_in c).params i ≡ widths_of h.params
  unfolding program_in
  params_is i h s = rw s.stands (ap (λ (l : List Slot). widths_of l) (s.is.params ∙ sym (ap (λ (z : Head). z.params) s.head)))

  pub unit_is : (i : ℕ) (h : Head) (s : Here i h) → (program_in c).unit i ≡ h.unit
  unfolding program_in
  unit_is i h s = rw s.stands (s.is.unit ∙ sym (ap (λ (z : Head). z.unit) s.head))

  pub is_program : IsProgramOf (program_in c) (heads ds)
  is_program = record { differ = heads_differ ds is.functions_differ; arities = λ i h e. ap (λ (l : List ℕ). length l) (sym (params_is i h (here i h e))) }

  pub body_has : (i : ℕ) (h : Head) (s : Here i h) → Has (sees (heads ds) s.unit) (params_of s.def) true s.first s.end (rewritten s.def.body) s.def.width ((program_in c).body i)
  body_has i h s = subst (λ (t : Term). Has (sees (heads ds) s.unit) (params_of s.def) true s.first s.end (rewritten s.def.body) s.def.width t) (sym (body_is i h s)) s.is.body

  pub body_sites : (i : ℕ) (h : Head) (s : Here i h) → Sites (IsSiteIn (program_in c) i) ((program_in c).body i)
  body_sites i h s =
      let z : 0 + i ≡ i = omega arith in
      let n = subst (λ (t : Term). Noted (program_in c) s.first (sites_of i t)) (sym (body_is i h s)) (subst (λ (g : ℕ). Noted (program_in c) s.first (sites_of g s.function.body)) z s.noted) in
      noted_sites (program_in c) i (sees (heads ds) s.unit) (λ j g e. unit_is j g (here j g e)) (unit_is i h s ∙ ap (λ (z : Head). z.unit) s.head)
      (params_of s.def) true s.first s.end (rewritten s.def.body) s.def.width ((program_in c).body i) (body_has i h s) n

  -- and of each function of the form
  pub function_sites : (i : ℕ) (f : FunctionForm) → slice_get c.functions i ≡ Some f → Sites (IsSiteIn (program_in c) i) f.body
  function_sites i f e =
      let q = function_head (heads ds) 0 0 0 1 (suc is.last_site) ds c.functions i f is.functions e in
      let s = here i q.0 q.1 in
      let r : s.function ≡ f = same_Some s.function f (sym s.stands ∙ e) in
      subst (λ (t : Term). Sites (IsSiteIn (program_in c) i) t) (body_is i q.0 s ∙ ap (λ (z : FunctionForm). z.body) r) (body_sites i q.0 s)

-- the main function is the last one
pub main_is : (c e : Form) → length e.functions ≡ length c.functions → (program_in e).main ≡ (program_in c).main
unfolding program_in
main_is c e l = omega (arith, l)

pub outer_is : (c : Form) → (program_in c).callee 0 ≡ (program_in c).main
unfolding program_in
outer_is c = refl
