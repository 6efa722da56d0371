-- What has a width and a term has them too where its calls are changed, after other slots, and from another first site on.
use Rattle.safl_reshape.proofs.Common.{Cons, Const, Nil, Program, Term, Terms, Var, calls, calls_bound, calls_in, or_parts}
use Rattle.std.proofs.Common.{◌≡◌, ℕ, suc, ◌+◌, List, [], ◌∷◌, ◌++◌, length, Bool, false, refl, sym, ap, ◌∙◌, subst, arith}
use Rattle.std.proofs.lemmas.List.{append_assoc, length-append}
use Rattle.safl_term.specs.Terms as terms
use Rattle.safl_term.specs.Slots.{count}
use Rattle.safl_typing.specs.Rewriting.{Expression, Number, Sized, Variable, If, Let, Op, Call, Expressions, no_expression, an_expression, Bindings, no_binding, a_binding, shape}
use Rattle.safl_typing.specs.Heads.{Slot, Known, Callee, callee, is_site, sites, sites_bound}
use Rattle.safl_typing.specs.Typing.{word, Differ, slots, Calls, Has, HaveAll, HaveBound}
use Rattle.safl_typing.proofs.Counts.{called_sites, has_sites, have_sites_bound}
use Rattle.safl_reshape.proofs.Alike.{Alike, alike_const, alike_var, alike_op, alike_if, alike_let, AllAlike, none_alike, more_alike}
use Rattle.safl_reshape.proofs.Altered.{Alteration, altered, altered_all, altered_bound}
use Rattle.safl_reshape.proofs.Shapes.{IsRigid, names_same, slots_same, keeps_same, suits_same}
use Rattle.safl_reshape.proofs.Scopes.{seen_behind}
use Rattle.safl_reshape.proofs.Sites.{Sites, SitesIn, sites_args}

-- as many terms as widths
pub have_count : (k : Known) (s : List Slot) (lo hi : ℕ) (es : Expressions) (ws : List ℕ) (us : Terms) → HaveAll k s lo hi es ws us → count us ≡ length ws
have_count k s lo hi no_expression [] us h = ap count h.1
have_count k s lo hi no_expression (w ∷ ws) us h = absurd h
have_count k s lo hi (an_expression e es) [] us h = absurd h
have_count k s lo hi (an_expression e es) (w ∷ ws) us (m, t, ts, he, hs, q) = ap count q ∙ ap (λ (n : ℕ). suc n) (have_count k s m hi es ws ts hs)

bound_count : (k : Known) (s : List Slot) (lo hi : ℕ) (bs : Bindings) (ws : List ℕ) (us : Terms) → HaveBound k s lo hi bs ws us → length (slots bs ws) ≡ count us
bound_count k s lo hi no_binding [] us h = sym (ap count h.1)
bound_count k s lo hi no_binding (w ∷ ws) us h = absurd h
bound_count k s lo hi (a_binding p x v e bs) [] us h = absurd h
bound_count k s lo hi (a_binding p x v e bs) (w ∷ ws) us (m, t, ts, keeps, he, hs, q) = ap (λ (n : ℕ). suc n) (bound_count k s m hi bs ws ts hs) ∙ sym (ap count q)

-- A term of a body of B that sees b stands there after these slots, where n slots are seen, and is like the first one
abbrev pub MovedIn : Program → (ℕ → ℕ → Type 0) → (ℕ → Bool) → Known → List Slot → List Slot → ℕ → Bool → ℕ → Expression → ℕ → Term → Type 0
MovedIn C same at b pre s n tail lo e w t = (hi : ℕ) × (u : Term) × Has b (pre ++ s) tail lo hi e w u × Alike C same at (length pre) n t u

abbrev pub AllMovedIn : Program → (ℕ → ℕ → Type 0) → (ℕ → Bool) → Known → List Slot → List Slot → ℕ → ℕ → Expressions → List ℕ → Terms → Type 0
AllMovedIn C same at b pre s n lo es ws ts = (hi : ℕ) × (us : Terms) × HaveAll b (pre ++ s) lo hi es ws us × AllAlike C same at (length pre) n ts us

abbrev pub BoundMovedIn : Program → (ℕ → ℕ → Type 0) → (ℕ → Bool) → Known → List Slot → List Slot → ℕ → ℕ → Bindings → List ℕ → Terms → Type 0
BoundMovedIn C same at b pre s n lo bs ws ts = (hi : ℕ) × (us : Terms) × HaveBound b (pre ++ s) lo hi bs ws us × AllAlike C same at (length pre) n ts us

-- In place of k, b is seen
module _ (C : Program) (same : ℕ → ℕ → Type 0) (at : ℕ → Bool) (k b : Known) (a : Alteration) (pre : List Slot) (may : Bool → Bool → Type 0) (test : Callee → Bool) (ok : ℕ → ℕ → Type 0) where
  abbrev Moved : List Slot → ℕ → Bool → ℕ → Expression → ℕ → Term → Type 0
  Moved s n tail lo e w t = MovedIn C same at b pre s n tail lo e w t

  abbrev AllMoved : List Slot → ℕ → ℕ → Expressions → List ℕ → Terms → Type 0
  AllMoved s n lo es ws ts = AllMovedIn C same at b pre s n lo es ws ts

  abbrev BoundMoved : List Slot → ℕ → ℕ → Bindings → List ℕ → Terms → Type 0
  BoundMoved s n lo bs ws ts = BoundMovedIn C same at b pre s n lo bs ws ts

  -- what is asked of calls
  abbrev pub CallsMove : Type 0
  CallsMove = (s : List Slot) (n : ℕ) (tail end : Bool) (p : ℕ) (x : List ℕ) (es fs : Expressions) (lo m hi : ℕ) (ws : List ℕ) (us : Terms) (w : ℕ)
      (t : Term) → test (callee k x) ≡ false → Sites ok t → may tail end → length (pre ++ s) ≡ n
      → HaveAll k s m hi es ws us → Calls (callee k x) tail lo m ws us w t → ((from : ℕ) → AllMoved s n from fs ws us) → (first : ℕ) → first ≡ lo →
      (from : ℕ) → Moved s n end from (a (callee k x) first p x fs) w t

  module _ (r : IsRigid a) (still : may false false) (move : CallsMove) where
    mutual
      pub moved : (s : List Slot) (n : ℕ) (tail end : Bool) (lo hi first : ℕ) (e : Expression) (w : ℕ) (t : Term) → first ≡ lo → may tail end → length
          (pre ++ s) ≡ n → calls test k e ≡ false → Sites ok t → Has k s tail lo hi e w t → (from : ℕ) → Moved s n end from (altered k a first e) w t
      moved s n tail end lo hi first (Number p v) w t f m l nc ins h from =
          subst (λ (x : Term). Moved s n end from (Number p v) w x) (sym h.2) (from, Const (word w v), (refl, h.1, refl), alike_const)
      moved s n tail end lo hi first (Sized p x v) w t f m l nc ins h from =
          subst (λ (y : Term). Moved s n end from (Sized p x v) w y) (sym h.3) (from, Const (word x v), (refl, h.1, h.2, refl), alike_const)
      moved s n tail end lo hi first (Variable p x) w t f m l nc ins (z, i, e, q) from =
          subst (λ (y : Term). Moved s n end from (Variable p x) w y) (sym q) (from, Var (length pre + i), (refl, length pre + i, seen_behind x pre s i w e, refl), alike_var refl)
      moved s n tail end lo hi first (If p c x y) w t f m l nc ins (i, j, tc, tx, ty, hc, hx, hy, q) from =
          let no1 = or_parts (calls test k c) _ nc in
          let no2 = or_parts (calls test k x) _ no1.1 in
          let ec = has_sites k s _ lo i c 1 tc hc in
          let ex = has_sites k s tail i j x w tx hx in
          let si = subst (λ (z : Term). Sites ok z) q ins in
          let rc = moved s n false false lo i first c 1 tc f still l no1.0 si.0 hc from in
          let rx = moved s n tail end i j (first + sites k c) x w tx (omega (arith, ec, f)) m l no2.0 si.1 hx rc.0 in
          let ry = moved s n tail end j hi (first + sites k c + sites k x) y w ty (omega (arith, ec, ex, f)) m l no2.1 si.2 hy rx.0 in
          subst (λ (z : Term). Moved s n end from (altered k a first (If p c x y)) w z) (sym q)
          (ry.0, terms.If rc.1 rx.1 ry.1, (rc.0, rx.0, rc.1, rx.1, ry.1, rc.2, rx.2, ry.2, refl), alike_if rc.3 rx.3 ry.3)
      moved s n tail end lo hi first (Let p bs y) w t f m l nc ins (i, ws, us, ty, d, hs, hy, q) from =
          let no1 = or_parts (calls_bound test k bs) _ nc in
          let es = have_sites_bound k s lo i bs ws us hs in
          let si = subst (λ (z : Term). Sites ok z) q ins in
          let rs = bound_moved s n lo i first bs ws us f l no1.0 si.0 hs from in
          let g : pre ++ (s ++ slots bs ws) ≡ (pre ++ s) ++ slots (altered_bound k a first bs) ws = sym (append_assoc pre s (slots bs ws)) ∙ ap
          (λ (z : List Slot). (pre ++ s) ++ z) (sym (slots_same k a r first bs ws)) in
          let c : length (pre ++ (s ++ slots bs ws)) ≡ n + count us = omega
          (arith, ap (λ (z : List Slot). length z) (append_assoc pre s (slots bs ws)), length-append (pre ++ s) (slots bs ws), l, bound_count k s lo i bs ws us hs) in
          let ry = moved (s ++ slots bs ws) (n + count us) tail end i hi (first + sites_bound k bs) y w ty (omega (arith, es, f)) m c no1.1 si.1 hy rs.0 in
          subst (λ (z : Term). Moved s n end from (altered k a first (Let p bs y)) w z) (sym q) (
            ry.0,
            terms.Let rs.1 ry.1,
            (
              rs.0,
              ws,
              rs.1,
              ry.1,
              subst Differ (sym (names_same k a r first bs)) d,
              rs.2,
              subst
                  (λ (z : List Slot). Has b z end rs.0 ry.0 (altered k a (first + sites_bound k bs) y) w ry.1) g ry.2,
              refl,
            ),
            alike_let rs.3 ry.3,
          )
      moved s n tail end lo hi first (Op p o es) w t f m l nc ins (ws, us, hs, su, q) from =
          let rs = all_moved s n lo hi first es ws us f l nc (subst (λ (z : Term). Sites ok z) q ins) hs from in
          subst (λ (z : Term). Moved s n end from (altered k a first (Op p o es)) w z) (sym q)
          (rs.0, terms.Op o rs.1, (ws, rs.1, rs.2, suits_same k a r first (shape o) o es ws w su, refl), alike_op rs.3)
      moved s n tail end lo hi first (Call p x es) w t f m l nc ins (i, ws, us, hs, q) from =
          let no1 = or_parts (test (callee k x)) _ nc in
          let ec = called_sites (callee k x) tail lo i ws us w t q in
          move s n tail end p x es _ lo i hi ws us w t no1.0 ins m l hs q
          (λ z. all_moved s n i hi (first + is_site (callee k x)) es ws us (omega (arith, ec, f)) l no1.1 (sites_args ok (callee k x) tail lo i ws us w t q ins) hs z) first f from

      pub all_moved : (s : List Slot) (n lo hi first : ℕ) (es : Expressions) (ws : List ℕ) (us : Terms) → first ≡ lo → length (pre ++ s) ≡ n →
          calls_in test k es ≡ false → SitesIn ok us → HaveAll k s lo hi es ws us → (from : ℕ) → AllMoved s n from (altered_all k a first es) ws us
      all_moved s n lo hi first no_expression [] us f l nc ins h from =
          subst (λ (x : Terms). AllMoved s n from no_expression [] x) (sym h.1) (from, Nil, (refl, refl), none_alike)
      all_moved s n lo hi first no_expression (w ∷ ws) us f l nc ins h from = absurd h
      all_moved s n lo hi first (an_expression e es) [] us f l nc ins h from = absurd h
      all_moved s n lo hi first (an_expression e es) (w ∷ ws) us f l nc ins (i, t, ts, he, hs, q) from =
          let no1 = or_parts (calls test k e) _ nc in
          let ee = has_sites k s _ lo i e w t he in
          let si = subst (λ (z : Terms). SitesIn ok z) q ins in
          let re = moved s n false false lo i first e w t f still l no1.0 si.0 he from in
          let rs = all_moved s n i hi (first + sites k e) es ws ts (omega (arith, ee, f)) l no1.1 si.1 hs re.0 in
          subst (λ (x : Terms). AllMoved s n from (altered_all k a first (an_expression e es)) (w ∷ ws) x) (sym q)
          (rs.0, Cons re.1 rs.1, (re.0, re.1, rs.1, re.2, rs.2, refl), more_alike re.3 rs.3)

      pub bound_moved : (s : List Slot) (n lo hi first : ℕ) (bs : Bindings) (ws : List ℕ) (us : Terms) → first ≡ lo → length (pre ++ s) ≡ n →
          calls_bound test k bs ≡ false → SitesIn ok us → HaveBound k s lo hi bs ws us → (from : ℕ) → BoundMoved s n from (altered_bound k a first bs) ws us
      bound_moved s n lo hi first no_binding [] us f l nc ins h from =
          subst (λ (x : Terms). BoundMoved s n from no_binding [] x) (sym h.1) (from, Nil, (refl, refl), none_alike)
      bound_moved s n lo hi first no_binding (w ∷ ws) us f l nc ins h from = absurd h
      bound_moved s n lo hi first (a_binding p x v e bs) [] us f l nc ins h from = absurd h
      bound_moved s n lo hi first (a_binding p x v e bs) (w ∷ ws) us f l nc ins (i, t, ts, keeps, he, hs, q) from =
          let no1 = or_parts (calls test k e) _ nc in
          let ee = has_sites k s _ lo i e w t he in
          let si = subst (λ (z : Terms). SitesIn ok z) q ins in
          let re = moved s n false false lo i first e w t f still l no1.0 si.0 he from in
          let rs = bound_moved s n i hi (first + sites k e) bs ws ts (omega (arith, ee, f)) l no1.1 si.1 hs re.0 in
          subst (λ (z : Terms). BoundMoved s n from (altered_bound k a first (a_binding p x v e bs)) (w ∷ ws) z) (sym q)
          (rs.0, Cons re.1 rs.1, (re.0, re.1, rs.1, keeps_same k a r first v e w keeps, re.2, rs.2, refl), more_alike re.3 rs.3)
