-- The functions of a program whose calls are changed.
use Rattle.safl_reshape.proofs.Common.{AreFunctionsOf, Definition, Expression, FunctionForm, Has, Head, IsFunctionOf, Program, Slot}
use Rattle.safl_reshape.proofs.Common.{has_sites, long_let, params_of, rewritten, slice_get, unit_of}
use Rattle.std.proofs.Common.{◌≡◌, ℕ, suc, ◌+◌, List, [], ◌∷◌, length, Some, None, Bool, true, false, cond, refl, sym, ap, ◌∙◌, subst, arith}
use Rattle.safl_typing.proofs.Limits.{short_lets as lets_short, no_long_let}
use Rattle.safl_reshape.specs.Changed.{Change, changed, with_body, changed_definitions}
use Rattle.safl_reshape.proofs.Alike.{Alike}
use Rattle.safl_reshape.proofs.Altered.{Alteration, altered, IsRewriting, rewritten_changed}
use Rattle.safl_reshape.proofs.Shapes.{IsRigid}
use Rattle.safl_reshape.proofs.Shorts.{IsShort, short_altered, no_callee, calls_none}
use Rattle.safl_reshape.proofs.Sites.{Sites}
use Rattle.safl_reshape.proofs.Moves.{CallsMove, moved}
use Rattle.safl_reshape.proofs.Calls.{sees}

-- the tail flag is the same
abbrev pub same_tail : Bool → Bool → Type 0
same_tail tail end = tail ≡ end

-- each group that a definition has here is one of these
abbrev pub AllUnits : (ℕ → Type 0) → ℕ → ℕ → List Definition → Type 0
AllUnits P n u [] = Unit {0}
AllUnits P n u (d ∷ ds) = P (unit_of n u d) × AllUnits P (suc n) (unit_of n u d) ds

-- a function is kept
pub record IsKept (C : Program) (same : ℕ → ℕ → Type 0) (at : ℕ → Bool) (f g : FunctionForm) : Type 0 where
  pub params : g.params ≡ f.params
  pub width : g.width ≡ f.width
  pub body : Alike C same at 0 (length f.params) f.body g.body

abbrev pub AllKept : Program → (ℕ → ℕ → Type 0) → (ℕ → Bool) → List FunctionForm → List FunctionForm → Type 0
AllKept C same at [] [] = Unit {0}
AllKept C same at [] (g ∷ gs) = ⊥
AllKept C same at (f ∷ fs) [] = ⊥
AllKept C same at (f ∷ fs) (g ∷ gs) = IsKept C same at f g × AllKept C same at fs gs

unit_shifted : (b : Bool) (x y u v n m : ℕ) → u ≡ v → n ≡ m → cond b u n ≡ cond b v m
unit_shifted true x y u v n m e q = e
unit_shifted false x y u v n m e q = q

unit_plus : (b : Bool) (u n z : ℕ) → cond b (u + z) (n + z) ≡ cond b u n + z
unit_plus true u n z = refl
unit_plus false u n z = refl

pub unit_moved : (n u m v z : ℕ) (d : Definition) → m ≡ n + z → v ≡ u + z → unit_of m v d ≡ unit_of n u d + z
unit_moved n u m v z d p q = unit_shifted d.joined 0 0 v (u + z) m (n + z) q p ∙ unit_plus d.joined u n z

-- groups are numbered z further on
module _ (C : Program) (same : ℕ → ℕ → Type 0) (at : ℕ → Bool) (ok : ℕ → ℕ → Type 0) (all rest : List Head) (ch : Change) (alt : Alteration)
    (re : IsRewriting ch alt) (rigid : IsRigid alt) (short : IsShort alt) (z : ℕ) (P : ℕ → Type 0)
    (move : (v : ℕ) → P v → CallsMove C same at (sees all v) (sees rest (v + z)) alt [] same_tail no_callee ok) where
  pub function_moved : (v y lo hi first from : ℕ) (d : Definition) (f : FunctionForm) → y ≡ v + z → first ≡ lo → P v → Sites ok f.body → IsFunctionOf all v lo hi d f
      → (end : ℕ) × (g : FunctionForm) × IsFunctionOf rest y from end (with_body d (changed (sees all v) ch first d.body)) g × IsKept C same at f g
  function_moved v y lo hi first from d f e l p si is =
      let r = moved C same at (sees all v) (sees rest (v + z)) alt [] same_tail no_callee ok rigid refl (move v p) (params_of d)
      (length (params_of d)) true true lo hi first (rewritten d.body) d.width f.body l refl refl (calls_none (sees all v) (rewritten d.body)) si is.body from in
      let q : altered (sees all v) alt first (rewritten d.body) ≡ rewritten (changed (sees all v) ch first d.body) = sym (rewritten_changed (sees all v) ch alt re first first d.body refl) in
      let h : Has (sees rest y) (params_of d) true from r.0 (rewritten (changed (sees all v) ch first d.body)) d.width r.1 =
      subst (λ (x : ℕ). Has (sees rest x) (params_of d) true from r.0 (rewritten (changed (sees all v) ch first d.body)) d.width r.1) (sym e)
      (subst (λ (x : Expression). Has (sees rest (v + z)) (params_of d) true from r.0 x d.width r.1) q r.2) in (
        r.0,
        record { name = f.name; params = f.params; width = f.width; unit = y; first_site = from; body = r.1 },
        record {
          name = is.name;
          params = is.params;
          width = is.width;
          unit = refl;
          first_site = refl;
          params_differ = is.params_differ;
          few_params = is.few_params;
          short_lets = subst (λ (x : Expression). long_let x ≡ None) q (lets_short (altered (sees all v) alt first (rewritten d.body))
              (short_altered (sees all v) alt rigid short first (rewritten d.body) (no_long_let (rewritten d.body) is.short_lets)));
          body = h;
        },
        record { params = refl; width = refl; body = subst (λ (x : ℕ). Alike C same at 0 x f.body r.1) (ap (λ (l : List Slot). length l) (sym is.params)) r.3 },
      )

  pub functions_moved : (n u m y w lo hi first from : ℕ) (ds : List Definition) (fs : List FunctionForm) → m ≡ n + z → y ≡ u + z → first ≡ lo →
      AllUnits P n u ds → ((i : ℕ) (f : FunctionForm) → slice_get fs i ≡ Some f → Sites ok f.body) → AreFunctionsOf all n u w lo hi ds fs
      → (end : ℕ) × (gs : List FunctionForm) × AreFunctionsOf rest m y w from end (changed_definitions all ch n u first ds) gs × AllKept C same at fs gs
  functions_moved n u m y w lo hi first from [] [] em ey l p si h = (from, [], refl, tt)
  functions_moved n u m y w lo hi first from [] (f ∷ fs) em ey l p si h = absurd h
  functions_moved n u m y w lo hi first from (d ∷ ds) [] em ey l p si h = absurd h
  functions_moved n u m y w lo hi first from (d ∷ ds) (f ∷ fs) em ey l p si (i, is, j, rs) =
      let v = unit_of n u d in
      let e = unit_moved n u m y z d em ey in
      let o = function_moved v (unit_of m y d) lo i first from d f e l p.0 (si 0 f refl) is in
      let es = has_sites (sees all v) (params_of d) true lo i (rewritten d.body) d.width f.body is.body in
      let r = functions_moved (suc n) v (suc m) (unit_of m y d) d.width i hi (first + _) o.0 ds fs (omega (arith, em)) e (omega (arith, es, l)) p.1 (λ x g q. si (suc x) g q) rs in
      (r.0, o.1 ∷ r.1, (o.0, o.2, j, r.2), (o.3, r.3))
