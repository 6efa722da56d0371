-- The functions of a program in which one is copied.
use Rattle.safl_reshape.proofs.Common.{AreFunctionsOf, Definition, Expression, FunctionForm, Has, Head, IsFunctionOf, Program, Slot}
use Rattle.safl_reshape.proofs.Common.{Unjoined, changed, changed_definitions, copy_of, copying_call, has_sites, long_let, own_call}
use Rattle.safl_reshape.proofs.Common.{params_of, put_behind, rewritten, same_Some, sites, slice_get, unit_of}
use Rattle.std.proofs.Common.{◌≡◌, ℕ, zero, suc, ◌+◌, ◌<◌, ◌≤◌, List, [], ◌∷◌, length, Some, None, Bool, true, false, cond, refl, sym, ap, ◌∙◌, subst, arith}
use Rattle.safl_typing.proofs.Limits.{short_lets as lets_short, no_long_let}
use Rattle.safl_reshape.proofs.Alike.{Alike}
use Rattle.safl_reshape.proofs.Altered.{altered, rewritten_changed}
use Rattle.safl_reshape.proofs.Shorts.{short_altered, no_callee, calls_none}
use Rattle.safl_reshape.proofs.Sites.{Sites}
use Rattle.safl_reshape.proofs.Moves.{moved}
use Rattle.safl_reshape.proofs.Calls.{sees}
use Rattle.safl_reshape.proofs.Functions.{same_tail, AllUnits, IsKept, AllKept, function_moved, functions_moved}
use Rattle.safl_reshape.proofs.Copies.{unjoined_unit}
use Rattle.safl_reshape.proofs.Copying.{copy_alteration, own_alteration, copy_rewriting, own_rewriting, copy_rigid, own_rigid, copy_short, own_short}
use Rattle.safl_reshape.proofs.Copying.{IsCopied, no_site, AreCopied, first_move, second_move, copy_move}
use Rattle.safl_reshape.proofs.OwnCalls.{own_any}

least_units : (j n u : ℕ) (ds : List Definition) → j < n → j < u → AllUnits (λ v. j < v) n u ds
least_units j n u [] p q = tt
least_units j n u (d ∷ ds) p q = (by d.joined, least_units j (suc n) (unit_of n u d) ds (omega arith) (by d.joined))
  where
    by : (b : Bool) → j < cond b u n
    by true = q
    by false = p

later_units : (j n u : ℕ) (ds : List Definition) → j < n → Unjoined (slice_get ds 0) → AllUnits (λ v. j < v) n u ds
later_units j n u [] p f = tt
later_units j n u (d ∷ ds) p f =
    let q = unjoined_unit n u d f in
    (omega (arith, q, p), least_units j (suc n) (unit_of n u d) ds (omega arith) (omega (arith, q, p)))

-- function t of the first list is copied right after itself in the second, and all others are kept
abbrev pub AllCopied : Program → ℕ → ℕ → List FunctionForm → List FunctionForm → Type 0
AllCopied C j t [] gs = ⊥
AllCopied C j t (f ∷ fs) [] = ⊥
AllCopied C j zero (f ∷ fs) (g ∷ []) = ⊥
AllCopied C j zero (f ∷ fs) (g ∷ (h ∷ gs)) = IsKept C (IsCopied j) no_site f g × IsKept C (IsCopied j) no_site f h × AllKept C (IsCopied j) no_site fs gs
AllCopied C j (suc t) (f ∷ fs) (g ∷ gs) = IsKept C (IsCopied j) no_site f g × AllCopied C j t fs gs

module _ (C : Program) (all rest : List Head) (k j : ℕ) (new : List ℕ) (ps : List Slot) (width : ℕ) (is : AreCopied C all rest k j new ps width) where
  copy_moved : (lo hi from : ℕ) (d : Definition) (f : FunctionForm) → Sites (λ s f. C.callee s ≡ f) f.body → IsFunctionOf all j lo hi d f
      → (end : ℕ) × (g : FunctionForm) × IsFunctionOf rest (suc j) from end (copy_of all j new d) g × IsKept C (IsCopied j) no_site f g
  copy_moved lo hi from d f si fd =
      let r = moved C (IsCopied j) no_site (sees all j) (sees rest (suc j)) (own_alteration new) [] same_tail no_callee (λ s f. C.callee s ≡ f)
      (own_rigid new) refl (copy_move C all rest k j new ps width is)
      (params_of d) (length (params_of d)) true true lo hi lo (rewritten d.body) d.width f.body refl refl refl (calls_none (sees all j) (rewritten d.body)) si fd.body from in
      let q : altered (sees all j) (own_alteration new) lo (rewritten d.body) ≡ rewritten (changed (sees all j) (own_call new) 1 d.body) =
      own_any (sees all j) new lo 1 (rewritten d.body) ∙ sym (rewritten_changed (sees all j) (own_call new) (own_alteration new) (own_rewriting new) 1 1 d.body refl) in (
        r.0,
        record { name = new; params = f.params; width = f.width; unit = suc j; first_site = from; body = r.1 },
        record {
          name = refl;
          params = fd.params;
          width = fd.width;
          unit = refl;
          first_site = refl;
          params_differ = fd.params_differ;
          few_params = fd.few_params;
          short_lets = subst (λ (x : Expression). long_let x ≡ None) q (lets_short (altered (sees all j) (own_alteration new) lo (rewritten d.body))
              (short_altered (sees all j) (own_alteration new) (own_rigid new) (own_short new) lo (rewritten d.body) (no_long_let (rewritten d.body) fd.short_lets)));
          body = subst (λ (x : Expression). Has (sees rest (suc j)) (params_of d) true from r.0 x d.width r.1) q r.2;
        },
        record { params = refl; width = refl; body = subst (λ (x : ℕ). Alike C (IsCopied j) no_site 0 x f.body r.1) (ap (λ (l : List Slot). length l) (sym fd.params)) r.3 },
      )

  pub copied_functions : (t n u w lo hi first from : ℕ) (ds : List Definition) (fs : List FunctionForm) (d : Definition) → j ≡ n + t → u ≤ n →
      slice_get ds t ≡ Some d → d.joined ≡ false → Unjoined (slice_get ds (suc t)) → first ≡ lo →
      ((i : ℕ) (f : FunctionForm) → slice_get fs i ≡ Some f → Sites (λ s f. C.callee s ≡ f) f.body)
      → AreFunctionsOf all n u w lo hi ds fs → (end : ℕ) × (gs : List FunctionForm) × AreFunctionsOf rest n u w from end
      (put_behind t (copy_of all j new d) (changed_definitions all (copying_call k new) n u first ds)) gs × AllCopied C j t fs gs
  copied_functions t n u w lo hi first from [] fs d e un at alone next l si h = absurd cc
  copied_functions t n u w lo hi first from (g ∷ ds) [] d e un at alone next l si h = absurd h
  copied_functions zero n u w lo hi first from (g ∷ ds) (f ∷ fs) d e un at alone next l si (i, fd, jn, rs) =
      let gd : g ≡ d = same_Some g d at in
      let ga : g.joined ≡ false = ap (λ (z : Definition). z.joined) gd ∙ alone in
      let v = unit_of n u g in
      let vn : v ≡ n = unjoined_unit n u g ga in
      let vj : v ≡ j = omega (arith, vn, e) in
      let o = function_moved C (IsCopied j) no_site (λ s f. C.callee s ≡ f) all rest (copying_call k new) (copy_alteration k new)
      (copy_rewriting k new) (copy_rigid k new) (copy_short k new) 0 (λ v. v ≤ j) (λ v p. first_move C all rest k j new ps width is v p)
      v v lo i first from g f (omega arith) l (omega (arith, vj)) (si 0 f refl) fd in
      let c = copy_moved lo i o.0 g f (si 0 f refl) (subst (λ (x : ℕ). IsFunctionOf all x lo i g f) vj fd) in
      let es = has_sites (sees all v) (params_of g) true lo i (rewritten g.body) g.width f.body fd.body in
      let r = functions_moved C (IsCopied j) no_site (λ s f. C.callee s ≡ f) all rest (copying_call k new) (copy_alteration k new)
      (copy_rewriting k new) (copy_rigid k new) (copy_short k new) 1 (λ v. j < v) (λ v p. second_move C all rest k j new ps width is v p)
      (suc n) v (suc (suc n)) (suc n) g.width i hi (first + sites (sees all v) (rewritten g.body)) c.0 ds fs (omega arith) (omega (arith, vn))
      (omega (arith, es, l)) (later_units j (suc n) v ds (omega (arith, e)) next) (λ x y q. si (suc x) y q) rs in
      let un2 : suc j ≡ suc n = omega (arith, e) in
      let cd : IsFunctionOf rest (suc n) o.0 c.0 (copy_of all j new d) c.1 = subst (λ (x : ℕ). IsFunctionOf rest x o.0 c.0 (copy_of all j new d) c.1)
      un2 (subst (λ (z : Definition). IsFunctionOf rest (suc j) o.0 c.0 (copy_of all j new z) c.1) gd c.2) in
      let wd : g.width ≡ d.width = ap (λ (z : Definition). z.width) gd in
      let rr = subst (λ (x : ℕ). AreFunctionsOf rest (suc (suc n)) (suc n) x c.0 r.0
      (changed_definitions all (copying_call k new) (suc n) v (first + sites (sees all v) (rewritten g.body)) ds) r.1) wd r.2 in
      (r.0, o.1 ∷ (c.1 ∷ r.1), (o.0, o.2, jn, (c.0, cd, (λ (x : false ≡ true). absurd cc), rr)), (o.3, c.3, r.3))
  copied_functions (suc t) n u w lo hi first from (g ∷ ds) (f ∷ fs) d e un at alone next l si (i, fd, jn, rs) =
      let v = unit_of n u g in
      let vn : v ≤ n = by g.joined in
      let o = function_moved C (IsCopied j) no_site (λ s f. C.callee s ≡ f) all rest (copying_call k new) (copy_alteration k new)
      (copy_rewriting k new) (copy_rigid k new) (copy_short k new) 0 (λ v. v ≤ j) (λ v p. first_move C all rest k j new ps width is v p)
      v v lo i first from g f (omega arith) l (omega (arith, vn, e)) (si 0 f refl) fd in
      let es = has_sites (sees all v) (params_of g) true lo i (rewritten g.body) g.width f.body fd.body in
      let r = copied_functions t (suc n) v g.width i hi (first + sites (sees all v) (rewritten g.body)) o.0 ds fs d (omega (arith, e))
      (omega (arith, vn)) at alone next (omega (arith, es, l)) (λ x y q. si (suc x) y q) rs in
      (r.0, o.1 ∷ r.1, (o.0, o.2, jn, r.2), (o.3, r.3))
    where
      by : (b : Bool) → cond b u n ≤ n
      by true = un
      by false = omega arith
