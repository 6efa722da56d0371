-- A program in which the call of one site is replaced by the body of its callee.
use Rattle.safl_reshape.proofs.Common.{Calls, HaveAll, Program, Term, Terms, calls, is_member, slice_get, widths_of, ◌==◌}
use Rattle.std.proofs.Common.{◌≡◌, ℕ, suc, ◌+◌, ◌<◌, List, [], ◌∷◌, length, Option, Some, None, Bool, true, false, cond, refl, sym, ap, ◌∙◌, subst, arith}
use Rattle.std.proofs.lemmas.Bool.{eq-eqb, eqb-true, ne_eqb}
use Rattle.safl_term.specs.Terms as terms
use Rattle.safl_term.specs.Slots.{count}
use Rattle.safl_tree.specs.Tree as source
use Rattle.safl_tree.specs.Tree.{Definition, Parameter, Trees, place_of}
use Rattle.safl_typing.specs.Rewriting.{Expression, Call, Expressions, flexible, rewritten, rewritten_all, rewritten_binds}
use Rattle.safl_typing.specs.Heads.{Slot, Head, Callee, Member, Above, Unknown, callee, heads}
use Rattle.safl_typing.specs.Forms.{Form, IsFormOf}
use Rattle.safl_typing.proofs.Complete.{length_widths}
use Rattle.safl_check.specs.Numbered.{program_in}
use Rattle.safl_reshape.specs.Reshaped.{bound_params, body_under, unfolded_as, unfolding_call, calls_group, is_recursive}
use Rattle.safl_reshape.proofs.Altered.{Alteration, IsRewriting}
use Rattle.safl_reshape.proofs.Shapes.{IsRigid}
use Rattle.safl_reshape.proofs.Shorts.{no_callee}
use Rattle.safl_reshape.proofs.Sites.{Sites, IsSiteIn, sites_map}
use Rattle.safl_reshape.proofs.Lookups.{IsCallee, is_callee}
use Rattle.safl_reshape.proofs.Moves.{MovedIn, AllMovedIn, CallsMove, have_count}
use Rattle.safl_reshape.proofs.Calls.{sees, is_same, stays_member, stays_above}
use Rattle.safl_reshape.proofs.Unfolds.{params_bound, under, unfolded_expression, slots_of, IsBodyOf, call_unfolded}
use Rattle.safl_reshape.proofs.Standing.{Here, here, is_program, body_has, body_sites}
use Rattle.safl_reshape.proofs.Functions.{same_tail}

-- ---- the change of calls, rewritten

abbrev pub as_expression : Option Definition → ℕ → List ℕ → Expressions → Expression
as_expression (Some d) p x es = unfolded_expression p d.params d.width es (rewritten d.body)
as_expression None p x es = Call p x es

abbrev pub unfold_alteration : List Definition → ℕ → Alteration
unfold_alteration ds k (Member i h) lo p x es = Call p x es
unfold_alteration ds k (Above i h) lo p x es = cond (lo == k) (as_expression (slice_get ds i) p x es) (Call p x es)
unfold_alteration ds k Unknown lo p x es = Call p x es

params_rewritten : (ps : List Parameter) (ts : Trees) → rewritten_binds (bound_params ps ts) ≡ params_bound ps (rewritten_all ts)
params_rewritten [] ts = refl
params_rewritten (p ∷ ps) source.no_tree = refl
params_rewritten (p ∷ ps) (source.a_tree t ts) = cc (params_rewritten ps ts)

under_rewritten : (place : ℕ) (ps : List Parameter) (ts : Trees) (t : source.Tree) → rewritten (body_under place ps ts t) ≡ under place ps (rewritten_all ts) (rewritten t)
under_rewritten place [] ts t = refl
under_rewritten place (p ∷ ps) source.no_tree t = refl
under_rewritten place (p ∷ ps) (source.a_tree x ts) t = cc (params_rewritten (p ∷ ps) (source.a_tree x ts))

as_rewritten : (o : Option Definition) (p : ℕ) (x : List ℕ) (ts : Trees) → rewritten (unfolded_as o p x ts) ≡ as_expression o p x (rewritten_all ts)
as_rewritten None p x ts = refl
as_rewritten (Some d) p x ts = cc (under_rewritten p d.params ts d.body)

as_place : (o : Option Definition) (p : ℕ) (x : List ℕ) (ts : Trees) → place_of (unfolded_as o p x ts) ≡ p
as_place None p x ts = refl
as_place (Some d) p x ts = refl

cond_rewritten : (b : Bool) (t u : source.Tree) (e f : Expression) → rewritten t ≡ e → rewritten u ≡ f → rewritten (cond b t u) ≡ cond b e f
cond_rewritten true t u e f p q = p
cond_rewritten false t u e f p q = q

cond_place : (b : Bool) (t u : source.Tree) (p : ℕ) → place_of t ≡ p → place_of u ≡ p → place_of (cond b t u) ≡ p
cond_place true t u p e f = e
cond_place false t u p e f = f

unfold_same : (ds : List Definition) (k : ℕ) (f : Callee) (lo p : ℕ) (x : List ℕ) (ts : Trees) → rewritten (unfolding_call ds k f lo p x ts) ≡ unfold_alteration ds k f lo p x (rewritten_all ts)
unfold_same ds k (Member i h) lo p x ts = refl
unfold_same ds k (Above i h) lo p x ts = cond_rewritten (lo == k) (unfolded_as (slice_get ds i) p x ts) (source.Call p x ts)
    (as_expression (slice_get ds i) p x (rewritten_all ts)) (Call p x (rewritten_all ts)) (as_rewritten (slice_get ds i) p x ts) refl
unfold_same ds k Unknown lo p x ts = refl

unfold_place : (ds : List Definition) (k : ℕ) (f : Callee) (lo p : ℕ) (x : List ℕ) (ts : Trees) → place_of (unfolding_call ds k f lo p x ts) ≡ p
unfold_place ds k (Member i h) lo p x ts = refl
unfold_place ds k (Above i h) lo p x ts = cond_place (lo == k) (unfolded_as (slice_get ds i) p x ts) (source.Call p x ts) p (as_place (slice_get ds i) p x ts) refl
unfold_place ds k Unknown lo p x ts = refl

pub unfold_rewriting : (ds : List Definition) (k : ℕ) → IsRewriting (unfolding_call ds k) (unfold_alteration ds k)
unfold_rewriting ds k = record { same = unfold_same ds k; place = unfold_place ds k }

as_rigid : (o : Option Definition) (p : ℕ) (x : List ℕ) (es : Expressions) → flexible (as_expression o p x es) ≡ false
as_rigid None p x es = refl
as_rigid (Some d) p x es = refl

cond_rigid : (b : Bool) (e f : Expression) → flexible e ≡ false → flexible f ≡ false → flexible (cond b e f) ≡ false
cond_rigid true e f p q = p
cond_rigid false e f p q = q

pub unfold_rigid : (ds : List Definition) (k : ℕ) → IsRigid (unfold_alteration ds k)
unfold_rigid ds k (Member i h) lo p x es = refl
unfold_rigid ds k (Above i h) lo p x es = cond_rigid (lo == k) (as_expression (slice_get ds i) p x es) (Call p x es) (as_rigid (slice_get ds i) p x es) refl
unfold_rigid ds k Unknown lo p x es = refl

-- ---- calls

module _ (ds : List Definition) (c : Form) (is : IsFormOf ds c) (k : ℕ) (alone : is_recursive ds ((program_in c).callee k) ≡ false) where
  abbrev C : Program
  C = program_in c

  abbrev at : ℕ → Bool
  at j = j == k

  lone : (i : ℕ) (h : Head) (s : Here ds c is i h) → slice_get (heads ds) i ≡ Some h → C.callee k ≡ i → calls is_member (sees (heads ds) s.unit) (rewritten s.def.body) ≡ false
  lone i h s e q =
      let r : is_recursive ds i ≡ false = subst (λ (x : ℕ). is_recursive ds x ≡ false) q alone in
      let t : calls_group (heads ds) (Some h) (Some s.def) ≡ false = subst (λ (o : Option Definition). calls_group (heads ds) (Some h) o ≡ false)
      s.defined (subst (λ (o : Option Head). calls_group (heads ds) o (slice_get ds i) ≡ false) e r) in
      subst (λ (u : ℕ). calls is_member (sees (heads ds) u) (rewritten s.def.body) ≡ false) (ap (λ (z : Head). z.unit) s.head) t

  other_sites : (i : ℕ) (h : Head) (s : Here ds c is i h) → C.callee k ≡ i → Sites (λ j f. at j ≡ false) (C.body i)
  other_sites i h s q = sites_map (IsSiteIn C i) (λ j f. at j ≡ false) (λ j f p. ne_eqb j k (λ (e : j ≡ k).
      let r : f ≡ i = sym p.0 ∙ (ap C.callee e ∙ q) in
      let u : C.unit f ≡ C.unit i = ap C.unit r in
      absurd (omega (arith, p.1, u)))) (C.body i) (body_sites ds c is i h s)

  body_of : (i : ℕ) (h : Head) (s : Here ds c is i h) → slice_get (heads ds) i ≡ Some h → C.callee k ≡ i → IsBodyOf C at (heads ds) s.unit i s.def.params s.def.width (rewritten s.def.body)
  body_of i h s e q = record { first = s.first; end = s.end; has = body_has ds c is i h s; alone = lone i h s e q; within = other_sites i h s q; differ = s.is.params_differ }

  module _ (v : ℕ) where
    here_unfolded : (s : List Slot) (n : ℕ) (end : Bool) (p : ℕ) (x : List ℕ) (fs : Expressions) (lo : ℕ) (ws : List ℕ) (us : Terms) (w from i : ℕ)
        (h : Head) → IsCallee (sees (heads ds) v) x (Above i h) → C.callee lo ≡ i → length s ≡ n → count us ≡ length ws → ws ≡ widths_of h.params → h.width ≡ w
        → ((z : ℕ) → AllMovedIn C is_same at (sees (heads ds) (v + 0)) [] s n z fs ws us) → lo ≡ k → MovedIn C is_same at (sees (heads ds) (v + 0)) []
        s n end from (as_expression (slice_get ds i) p x fs) w (terms.Call i lo us)
    here_unfolded s n end p x fs lo ws us w from i h ic sc l ar ew eh args e =
        let st = here ds c is i h ic.0.head in
        let hu : h.unit ≡ st.unit = ap (λ (z : Head). z.unit) st.head in
        let lt : st.unit < v + 0 = omega (arith, ic.1, hu) in
        let hp : h.params ≡ slots_of st.def.params = ap (λ (z : Head). z.params) st.head in
        let hw : st.def.width ≡ w = sym (ap (λ (z : Head). z.width) st.head) ∙ eh in
        let wp : ws ≡ widths_of (slots_of st.def.params) = ew ∙ ap (λ (z : List Slot). widths_of z) hp in
        let cn : count us ≡ length (slots_of st.def.params) = ar ∙ (ap (λ (z : List ℕ). length z) wp ∙ length_widths (slots_of st.def.params)) in
        let on : at lo ≡ true = eq-eqb lo k e in
        let r = call_unfolded C at (heads ds) st.unit (v + 0) (is_program ds c is) lt i st.def.width (rewritten st.def.body) st.def.params
        (body_of i h st ic.0.head (ap C.callee (sym e) ∙ sc)) [] s end from p fs lo us w on hw
        (λ z. subst (λ (y : List ℕ). AllMovedIn C is_same at (sees (heads ds) (v + 0)) [] s (length s) z fs y us) wp
        (subst (λ (y : ℕ). AllMovedIn C is_same at (sees (heads ds) (v + 0)) [] s y z fs ws us) (sym l) (args z))) cn in
        subst (λ (o : Option Definition). MovedIn C is_same at (sees (heads ds) (v + 0)) [] s n end from (as_expression o p x fs) w (terms.Call i lo us)) (sym st.defined)
        (subst (λ (y : ℕ). MovedIn C is_same at (sees (heads ds) (v + 0)) [] s y end from (unfolded_expression p st.def.params st.def.width fs (rewritten st.def.body)) w (terms.Call i lo us)) l r)

    if_site : (first : ℕ) (on : Bool) → (first == k) ≡ on → (s : List Slot) (n : ℕ) (end : Bool) (p : ℕ) (x : List ℕ) (fs : Expressions) (lo : ℕ)
        (ws : List ℕ) (us : Terms) (w from i : ℕ) (h : Head) → callee (sees (heads ds) v) x ≡ Above i h → IsCallee (sees (heads ds) v) x (Above i h) →
        C.callee lo ≡ i → length s ≡ n → count us ≡ length ws → ws ≡ widths_of h.params → h.width ≡ w
        → ((z : ℕ) → AllMovedIn C is_same at (sees (heads ds) (v + 0)) [] s n z fs ws us) → first ≡ lo → MovedIn C is_same at
        (sees (heads ds) (v + 0)) [] s n end from (cond on (as_expression (slice_get ds i) p x fs) (Call p x fs)) w (terms.Call i lo us)
    if_site first true t s n end p x fs lo ws us w from i h cal ic sc l ar ew eh args f = here_unfolded s n end p x fs lo ws us w from i h ic sc l ar ew eh args (sym f ∙ eqb-true first k t)
    if_site first false t s n end p x fs lo ws us w from i h cal ic sc l ar ew eh args f =
        let e0 : v ≡ v + 0 = omega arith in
        let cal0 = subst (λ (y : ℕ). callee (sees (heads ds) y) x ≡ Above i h) e0 cal in
        let off : at lo ≡ false = ap at (sym f) ∙ t in
        stays_above C is_same at (sees (heads ds) (v + 0)) [] s n end from p x fs i i lo h ws us w cal0 ew eh off refl
        (ar ∙ (ap (λ (z : List ℕ). length z) ew ∙ (is_program ds c is).arities i h ic.0.head)) (args (suc from))

  pub unfold_move : (v : ℕ) → CallsMove C is_same at (sees (heads ds) v) (sees (heads ds) (v + 0)) (unfold_alteration ds k) [] same_tail no_callee (λ j f. C.callee j ≡ f)
  unfold_move v = λ s n tail end p x es fs lo m hi ws us w t nm si may l hs q args first f from.
      by s n tail end p x es fs lo m hi ws us w t from first (callee (sees (heads ds) v) x) refl (is_callee (sees (heads ds) v) x) si may l hs q args f
    where
      by : (s : List Slot) (n : ℕ) (tail end : Bool) (p : ℕ) (x : List ℕ) (es fs : Expressions) (lo m hi : ℕ) (ws : List ℕ) (us : Terms) (w : ℕ)
          (t : Term) (from first : ℕ) (g : Callee) → callee (sees (heads ds) v) x ≡ g → IsCallee (sees (heads ds) v) x g → Sites
          (λ j f. C.callee j ≡ f) t → same_tail tail end → length s ≡ n
          → HaveAll (sees (heads ds) v) s m hi es ws us → Calls g tail lo m ws us w t →
          ((z : ℕ) → AllMovedIn C is_same at (sees (heads ds) (v + 0)) [] s n z fs ws us) → first ≡ lo → MovedIn C is_same at
          (sees (heads ds) (v + 0)) [] s n end from (unfold_alteration ds k g first p x fs) w t
      by s n tail end p x es fs lo m hi ws us w t from first (Member i h) cal ic si may l hs q args f =
          let e0 : v ≡ v + 0 = omega arith in
          let cal0 = subst (λ (y : ℕ). callee (sees (heads ds) y) x ≡ Member i h) e0 cal in
          let ar = have_count (sees (heads ds) v) s m hi es ws us hs ∙ (ap (λ (z : List ℕ). length z) q.2 ∙ (is_program ds c is).arities i h ic.0.head) in
          subst (λ (z : Term). MovedIn C is_same at (sees (heads ds) (v + 0)) [] s n end from (Call p x fs) w z) (sym q.4)
          (stays_member C is_same at (sees (heads ds) (v + 0)) [] s n end from p x fs i i h ws us w cal0 (sym may ∙ q.0) q.2 q.3 refl ar (args from))
      by s n tail end p x es fs lo m hi ws us w t from first (Above i h) cal ic si may l hs q args f =
          let sc = (subst (λ (z : Term). Sites (λ j f. C.callee j ≡ f) z) q.3 si).0 in
          let ar = have_count (sees (heads ds) v) s m hi es ws us hs in
          subst (λ (z : Term). MovedIn C is_same at (sees (heads ds) (v + 0)) [] s n end from (unfold_alteration ds k (Above i h) first p x fs) w z) (sym q.3)
          (if_site v first (first == k) refl s n end p x fs lo ws us w from i h cal ic sc l ar q.1 q.2 args f)
      by s n tail end p x es fs lo m hi ws us w t from first Unknown cal ic si may l hs q args f = absurd q
