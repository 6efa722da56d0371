-- What holds of each site of a term.
use Rattle.safl_reshape.proofs.Common.{Cons, Const, Loop, Nil, Program, Term, Terms, Var, slice_get}
use Rattle.std.proofs.Common.{◌≡◌, ℕ, ◌<◌, List, [], ◌∷◌, ◌++◌, Some, Bool, sym, subst, arith}
use Rattle.safl_term.specs.Terms as terms
use Rattle.safl_typing.specs.Rewriting.{Expression, Number, Sized, Variable, If, Let, Op, Call, Expressions, no_expression, an_expression, Bindings, no_binding, a_binding}
use Rattle.safl_typing.specs.Heads.{Slot, Head, Known, Callee, Member, Above, Unknown, callee}
use Rattle.safl_typing.specs.Typing.{slots, Calls, Has, HaveAll, HaveBound}
use Rattle.safl_typing.specs.Forms.{sites_of, sites_of_all}
use Rattle.safl_typing.proofs.Spans.{has_length, bound_length, Noted, noted_parts}
use Rattle.safl_reshape.proofs.Lookups.{IsCallee, is_callee}

-- of its number and of its callee
abbrev mutual
  pub Sites : (ℕ → ℕ → Type 0) → Term → Type 0
  Sites ok (Const w) = Unit {0}
  Sites ok (Var i) = Unit {0}
  Sites ok (terms.If c a b) = Sites ok c × Sites ok a × Sites ok b
  Sites ok (terms.Let ts b) = SitesIn ok ts × Sites ok b
  Sites ok (terms.Op o ts) = SitesIn ok ts
  Sites ok (terms.Call f k ts) = ok k f × SitesIn ok ts
  Sites ok (Loop h ts) = SitesIn ok ts

  pub SitesIn : (ℕ → ℕ → Type 0) → Terms → Type 0
  SitesIn ok Nil = Unit {0}
  SitesIn ok (Cons t ts) = Sites ok t × SitesIn ok ts

pub sites_args : (ok : ℕ → ℕ → Type 0) (c : Callee) (tail : Bool) (lo m : ℕ) (ws : List ℕ) (us : Terms) (w : ℕ) (t : Term) → Calls c tail lo m ws us w t → Sites ok t → SitesIn ok us
sites_args ok (Member i h) tail lo m ws us w t q s = subst (Sites ok) q.4 s
sites_args ok (Above i h) tail lo m ws us w t q s = (subst (Sites ok) q.3 s).1
sites_args ok Unknown tail lo m ws us w t q s = absurd q

-- a site of a body is of its callee, which is of an earlier group
abbrev pub IsSiteIn : Program → ℕ → ℕ → ℕ → Type 0
IsSiteIn C g k f = (C.callee k ≡ f) × (C.unit f < C.unit g)

-- what follows of each
mutual
  pub sites_map : (P Q : ℕ → ℕ → Type 0) → ((k f : ℕ) → P k f → Q k f) → (t : Term) → Sites P t → Sites Q t
  sites_map P Q m (Const w) h = tt
  sites_map P Q m (Var i) h = tt
  sites_map P Q m (terms.If c a b) h = (sites_map P Q m c h.0, sites_map P Q m a h.1, sites_map P Q m b h.2)
  sites_map P Q m (terms.Let ts b) h = (sites_map_in P Q m ts h.0, sites_map P Q m b h.1)
  sites_map P Q m (terms.Op o ts) h = sites_map_in P Q m ts h
  sites_map P Q m (terms.Call f k ts) h = (m k f h.0, sites_map_in P Q m ts h.1)
  sites_map P Q m (Loop g ts) h = sites_map_in P Q m ts h

  sites_map_in : (P Q : ℕ → ℕ → Type 0) → ((k f : ℕ) → P k f → Q k f) → (ts : Terms) → SitesIn P ts → SitesIn Q ts
  sites_map_in P Q m Nil h = tt
  sites_map_in P Q m (Cons t ts) h = (sites_map P Q m t h.0, sites_map_in P Q m ts h.1)

-- ---- the sites of a body

-- in the body of g, whose group is that which the expression sees, where the program's functions have the groups of the heads
module _ (C : Program) (g : ℕ) (k : Known) (units : (i : ℕ) (h : Head) → slice_get k.heads i ≡ Some h → C.unit i ≡ h.unit) (own : C.unit g ≡ k.unit) where
  called_noted : (x : List ℕ) (c : Callee) (tail : Bool) (lo m : ℕ) (ws : List ℕ) (us : Terms) (w : ℕ) (t : Term) → IsCallee k x c → Calls c tail lo m
      ws us w t → Noted C lo (sites_of g t) → (Noted C m (sites_of_all g us) → SitesIn (IsSiteIn C g) us) → Sites (IsSiteIn C g) t
  called_noted x (Member i h) tail lo m ws us w t at q noted f =
      let n : Noted C lo (sites_of_all g us) = subst (λ (z : Term). Noted C lo (sites_of g z)) q.4 noted in
      subst (Sites (IsSiteIn C g)) (sym q.4) (f (subst (λ (z : ℕ). Noted C z (sites_of_all g us)) (sym q.1) n))
  called_noted x (Above i h) tail lo m ws us w t at q noted f =
      let u = units i h at.0.head in
      let n : Noted C lo (record { caller = g; callee = i } ∷ sites_of_all g us) = subst (λ (z : Term). Noted C lo (sites_of g z)) q.3 noted in
      subst (Sites (IsSiteIn C g)) (sym q.3) ((n.1, omega (arith, u, at.1, own)), f (subst (λ (z : ℕ). Noted C z (sites_of_all g us)) (sym q.0) n.2))
  called_noted x Unknown tail lo m ws us w t at q noted f = absurd q

  mutual
    pub noted_sites : (s : List Slot) (tail : Bool) (lo hi : ℕ) (e : Expression) (w : ℕ) (t : Term) → Has k s tail lo hi e w t → Noted C lo (sites_of g t) → Sites (IsSiteIn C g) t
    noted_sites s tail lo hi (Number p n) w t h noted = subst (Sites (IsSiteIn C g)) (sym h.2) tt
    noted_sites s tail lo hi (Sized p v n) w t h noted = subst (Sites (IsSiteIn C g)) (sym h.3) tt
    noted_sites s tail lo hi (Variable p x) w t (l, i, e, q) noted = subst (Sites (IsSiteIn C g)) (sym q) tt
    noted_sites s tail lo hi (If p c a b) w t (m, n, x, y, z, hc, ha, hb, q) noted =
        let n0 = noted_parts C lo m (sites_of g x) (sites_of g y ++ sites_of g z) (has_length g k s _ lo m c 1 x hc) (subst (λ (u : Term). Noted C lo (sites_of g u)) q noted) in
        let n1 = noted_parts C m n (sites_of g y) (sites_of g z) (has_length g k s tail m n a w y ha) n0.1 in
        subst (Sites (IsSiteIn C g)) (sym q) (noted_sites s _ lo m c 1 x hc n0.0, noted_sites s tail m n a w y ha n1.0, noted_sites s tail n hi b w z hb n1.1)
    noted_sites s tail lo hi (Let p bs b) w t (m, ws, us, y, d, hs, hb, q) noted =
        let n0 = noted_parts C lo m (sites_of_all g us) (sites_of g y) (bound_length g k s lo m bs ws us hs) (subst (λ (u : Term). Noted C lo (sites_of g u)) q noted) in
        subst (Sites (IsSiteIn C g)) (sym q) (noted_bound s lo m bs ws us hs n0.0, noted_sites (s ++ slots bs ws) tail m hi b w y hb n0.1)
    noted_sites s tail lo hi (Op p o es) w t (ws, us, hs, su, q) noted =
        subst (Sites (IsSiteIn C g)) (sym q) (noted_all s lo hi es ws us hs (subst (λ (u : Term). Noted C lo (sites_of g u)) q noted))
    noted_sites s tail lo hi (Call p f es) w t (m, ws, us, hs, q) noted =
        called_noted f (callee k f) tail lo m ws us w t (is_callee k f) q noted (λ n. noted_all s m hi es ws us hs n)

    noted_all : (s : List Slot) (lo hi : ℕ) (es : Expressions) (ws : List ℕ) (us : Terms) → HaveAll k s lo hi es ws us → Noted C lo (sites_of_all g us) → SitesIn (IsSiteIn C g) us
    noted_all s lo hi no_expression [] us h noted = subst (SitesIn (IsSiteIn C g)) (sym h.1) tt
    noted_all s lo hi no_expression (w ∷ ws) us h noted = absurd h
    noted_all s lo hi (an_expression e es) [] us h noted = absurd h
    noted_all s lo hi (an_expression e es) (w ∷ ws) us (m, t, ts, he, hs, q) noted =
        let n0 = noted_parts C lo m (sites_of g t) (sites_of_all g ts) (has_length g k s _ lo m e w t he) (subst (λ (u : Terms). Noted C lo (sites_of_all g u)) q noted) in
        subst (SitesIn (IsSiteIn C g)) (sym q) (noted_sites s _ lo m e w t he n0.0, noted_all s m hi es ws ts hs n0.1)

    noted_bound : (s : List Slot) (lo hi : ℕ) (bs : Bindings) (ws : List ℕ) (us : Terms) → HaveBound k s lo hi bs ws us → Noted C lo (sites_of_all g us) → SitesIn (IsSiteIn C g) us
    noted_bound s lo hi no_binding [] us h noted = subst (SitesIn (IsSiteIn C g)) (sym h.1) tt
    noted_bound s lo hi no_binding (w ∷ ws) us h noted = absurd h
    noted_bound s lo hi (a_binding p x v e bs) [] us h noted = absurd h
    noted_bound s lo hi (a_binding p x v e bs) (w ∷ ws) us (m, t, ts, keeps, he, hs, q) noted =
        let n0 = noted_parts C lo m (sites_of g t) (sites_of_all g ts) (has_length g k s _ lo m e w t he) (subst (λ (u : Terms). Noted C lo (sites_of_all g u)) q noted) in
        subst (SitesIn (IsSiteIn C g)) (sym q) (noted_sites s _ lo m e w t he n0.0, noted_bound s m hi bs ws ts hs n0.1)
