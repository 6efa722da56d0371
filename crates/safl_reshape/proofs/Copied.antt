-- The form of a program in which a function is copied for the call of one site, and what it gives.
use Rattle.safl_reshape.proofs.Common.{Change, Definition, Differ, Head, IsAlike, KeepsLimits, OneEvaluation, Program, changed_definitions}
use Rattle.safl_reshape.proofs.Common.{functions_rise, heads, params_of, same_Some, unit_of}
use Rattle.std.proofs.Common.{◌≡◌, ℕ, zero, suc, ◌+◌, ◌-◌, List, [], ◌∷◌, Some, refl, sym, ap, ◌∙◌, subst, arith, inr}
use Rattle.std.specs.Prelude.{slice_get, codes}
use Rattle.safl_typing.specs.Forms.{FunctionForm, Form, all_sites, function_names, AreFunctionsOf, IsFormOf}
use Rattle.safl_check.specs.Numbered.{program_in}
use Rattle.safl_reshape.specs.Reshaped.{copying_call, put_behind, copy_of, Unjoined, IsCopyable}
use Rattle.safl_reshape.proofs.Sites.{IsSiteIn, sites_map}
use Rattle.safl_reshape.proofs.Standing.{here, function_sites, heads_differ, is_program, outer_is}
use Rattle.safl_reshape.proofs.Meanings.{main_runs, main_ran, alike_at, params_at}
use Rattle.safl_reshape.proofs.Unfolded.{heads_changed, names_changed, last_changed, site_sum}
use Rattle.safl_reshape.proofs.Copies.{unit_later, unit_own, unit_most, heads_before, heads_new, heads_behind, name_behind, names_behind, differ_behind, last_behind}
use Rattle.safl_reshape.proofs.Copying.{IsCopied, no_site, copy_head, AreCopied}
use Rattle.safl_reshape.proofs.CopiedFunctions.{AllCopied, copied_functions}
use Rattle.safl_reshape.proofs.CopiedNumbers.{copied_at, copied_length, copied_some, main_behind, none_spared}
use Rattle.safl_reshape.proofs.Putting.{changed_length}

unjoined_changed : (all : List Head) (ch : Change) (n u lo : ℕ) (ds : List Definition) (i : ℕ) → Unjoined (slice_get ds i) → Unjoined (slice_get (changed_definitions all ch n u lo ds) i)
unjoined_changed all ch n u lo [] i h = h
unjoined_changed all ch n u lo (d ∷ ds) zero h = h
unjoined_changed all ch n u lo (d ∷ ds) (suc i) h = unjoined_changed all ch (suc n) (unit_of n u d) _ ds i h

module _ (ds : List Definition) (c : Form) (is : IsFormOf ds c) (k j : ℕ) (d : Definition) (new : List ℕ) (of : IsCopyable ds c k j d new) where
  abbrev C : Program
  C = program_in c

  abbrev cds : List Definition
  cds = changed_definitions (heads ds) (copying_call k new) 0 0 1 ds

  abbrev pub es : List Definition
  es = put_behind j (copy_of (heads ds) j new d) cds

  same_heads : heads cds ≡ heads ds
  same_heads = heads_changed (heads ds) (copying_call k new) 0 0 0 0 1 ds refl refl

  here_too : (i : ℕ) (h : Head) → slice_get (heads ds) i ≡ Some h → slice_get (heads cds) i ≡ Some h
  here_too i h e = ap (λ (l : List Head). slice_get l i) same_heads ∙ e

  alone_too : Unjoined (slice_get ds j)
  alone_too = subst Unjoined (sym of.defined) of.alone

  names_es : function_names es ≡ name_behind j new (function_names ds)
  names_es = names_behind j (copy_of (heads ds) j new d) cds ∙ ap (λ (l : List (List ℕ)). name_behind j new l) (names_changed (heads ds) (copying_call k new) 0 0 1 ds)

  names_differ : Differ (function_names es)
  names_differ = subst Differ (sym names_es) (differ_behind j new (function_names ds) is.functions_differ of.fresh)

  are_copied : AreCopied C (heads ds) (heads es) k j new (params_of d) d.width
  are_copied = record {
    differ = heads_differ es names_differ;
    before = λ i h e l. heads_before 0 0 j (copy_of (heads ds) j new d) cds i l ∙ here_too i h e;
    behind = λ i h e l. heads_behind 0 0 j (copy_of (heads ds) j new d) cds i h refl (unjoined_changed (heads ds) (copying_call k new) 0 0 1 ds j alone_too) l (here_too i h e);
    copy = heads_new 0 0 j (copy_of (heads ds) j new d) cds refl (omega (arith, changed_length (heads ds) (copying_call k new) 0 0 1 ds, of.before)) ∙
        (let z : suc (0 + j) ≡ suc j = omega arith in ap (λ (x : ℕ). Some (copy_head new (params_of d) d.width x)) (let y : 0 + j ≡ j = omega arith in y));
    own = λ i h e q.
        let f : Unjoined (slice_get ds i) = subst (λ (x : ℕ). Unjoined (slice_get ds x)) (sym q) alone_too in
        let st = here ds c is i h e in
        let sd : st.def ≡ d = same_Some st.def d (sym st.defined ∙ (ap (λ (x : ℕ). slice_get ds x) q ∙ of.defined)) in
        let u = unit_own 0 0 ds i h f e in
        (omega (arith, u, q), ap (λ (z : Head). z.params) st.head ∙ ap (λ (z : Definition). params_of z) sd, ap (λ (z : Head). z.width) st.head ∙ ap (λ (z : Definition). z.width) sd);
    least = λ i h e. let u = unit_most 0 0 ds i h (omega arith) e in omega (arith, u);
    later = λ i h e l. let u = unit_later 0 0 ds j i h of.next l e in omega (arith, u);
    arities = (is_program ds c is).arities;
    site = of.site;
  }

  pub copied_parts : (end : ℕ) × (gs : List FunctionForm) × AreFunctionsOf (heads es) 0 0 0 1 end es gs × AllCopied C j j c.functions gs
  copied_parts = copied_functions C (heads ds) (heads es) k j new (params_of d) d.width are_copied j 0 0 0 1 (suc is.last_site) 1 1 ds c.functions d
      (omega arith) (omega arith) of.defined of.alone of.next refl
      (λ i f e. sites_map (IsSiteIn C i) (λ s f. C.callee s ≡ f) (λ s f q. q.0) f.body (function_sites ds c is i f e)) is.functions

  pub copied_form : KeepsLimits es → (e : Form) × IsFormOf es e × AllCopied C j j c.functions e.functions
  copied_form kept =
      let r = copied_parts in
      let up = functions_rise (heads es) 0 0 0 1 r.0 es r.1 r.2 in
      let l : r.0 ≡ suc (r.0 - 1) = omega (arith, up) in
      let a = subst (λ (x : ℕ). AreFunctionsOf (heads es) 0 0 0 1 x es r.1) l r.2 in (
        record { functions = r.1; sites = all_sites 0 r.1 },
        record {
          last_site = r.0 - 1;
          functions = a;
          sites = refl;
          functions_differ = names_differ;
          main = last_behind (codes "main") j (copy_of (heads ds) j new d) cds
              (omega (arith, changed_length (heads ds) (copying_call k new) 0 0 1 ds, of.before))
              (last_changed (codes "main") (heads ds) (copying_call k new) 0 0 1 ds is.main);
          few_functions = kept.functions;
          few_sites = omega (arith, site_sum (heads es) 0 0 0 1 (suc (r.0 - 1)) es r.1 a, kept.sites);
          few_nodes = kept.nodes;
        },
        r.3,
      )

  pub copied_alike : (e : Form) → AllCopied C j j c.functions e.functions → OneEvaluation (program_in e) → IsAlike C (program_in e)
  copied_alike e ke one =
      let m = main_behind c e j (copied_length C j j c.functions e.functions ke) (copied_some C j j c.functions e.functions ke) in
      let b = (λ (f g : ℕ) (q : IsCopied j f g). alike_at c e (IsCopied j) no_site f g (copied_at C j j c.functions e.functions f g ke q)) in
      let ms : IsCopied j C.main (program_in e).main = inr m in
      let mains : IsCopied j (C.callee 0) ((program_in e).callee 0) = subst (λ (x : ℕ). IsCopied j x ((program_in e).callee 0)) (sym (outer_is c))
      (subst (λ (x : ℕ). IsCopied j C.main x) (sym (outer_is e)) ms) in
      record {
        params = params_at c e (IsCopied j) no_site C.main (program_in e).main (copied_at C j j c.functions e.functions C.main (program_in e).main ke ms);
        gives = λ args v g a. let r = main_runs C (program_in e) (IsCopied j) no_site b mains (outer_is c) args v g a in (r.0, omega (arith, r.1, none_spared C g));
        only = λ args v g a. let r = main_ran C (program_in e) (IsCopied j) no_site b mains (outer_is c) one args v g a in (r.0, omega (arith, r.1, none_spared C r.0));
      }
