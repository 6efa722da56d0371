-- The sites of a term are those of its expression's interval, in order, and as many nodes stand in both.
use Rattle.safl_typing.proofs.Common.{Calls, Has, HaveAll, HaveBound, Program, Site, slots}
use Rattle.std.proofs.Common.{◌≡◌, ℕ, suc, ◌+◌, List, [], ◌∷◌, ◌++◌, length, Bool, refl, sym, ap, ◌∙◌, subst, arith}
use Rattle.std.proofs.lemmas.List.{length-append as append_length}
use Rattle.safl_term.specs.Terms.{Term, Terms}
use Rattle.safl_term.specs.Sizes as sizes
use Rattle.safl_term.specs.WellFormed.{Spans, SpansAll}
use Rattle.safl_typing.specs.Rewriting.{Expression, Number, Sized, Variable, If, Let, Op, Call, Expressions, no_expression, an_expression, Bindings}
use Rattle.safl_typing.specs.Rewriting.{no_binding, a_binding, nodes, nodes_in, nodes_bound}
use Rattle.safl_typing.specs.Heads.{Slot, Known, Callee, Member, Above, Unknown, callee}
use Rattle.safl_typing.specs.Forms.{sites_of, sites_of_all}
use Rattle.safl_typing.proofs.Widths.{Agrees, CalleeAt, callee_at}

-- ---- nodes

called_nodes : (c : Callee) (tail : Bool) (lo m : ℕ) (ws : List ℕ) (us : Terms) (w : ℕ) (t : Term) → Calls c tail lo m ws us w t → sizes.nodes t ≡ suc (sizes.nodes_in us)
called_nodes (Member i h) tail lo m ws us w t q = ap (λ (z : Term). sizes.nodes z) q.4
called_nodes (Above i h) tail lo m ws us w t q = ap (λ (z : Term). sizes.nodes z) q.3
called_nodes Unknown tail lo m ws us w t q = absurd q

mutual
  pub has_nodes : (k : Known) (s : List Slot) (tail : Bool) (lo hi : ℕ) (e : Expression) (w : ℕ) (t : Term) → Has k s tail lo hi e w t → sizes.nodes t ≡ nodes e
  has_nodes k s tail lo hi (Number p n) w t h = ap (λ (z : Term). sizes.nodes z) h.2
  has_nodes k s tail lo hi (Sized p v n) w t h = ap (λ (z : Term). sizes.nodes z) h.3
  has_nodes k s tail lo hi (Variable p x) w t (l, i, e, q) = ap (λ (z : Term). sizes.nodes z) q
  has_nodes k s tail lo hi (If p c a b) w t (m, n, x, y, z, hc, ha, hb, q) =
      omega (arith, ap (λ (z : Term). sizes.nodes z) q, has_nodes k s _ lo m c 1 x hc, has_nodes k s tail m n a w y ha, has_nodes k s tail n hi b w z hb)
  has_nodes k s tail lo hi (Let p bs b) w t (m, ws, us, y, d, hs, hb, q) =
      omega (arith, ap (λ (z : Term). sizes.nodes z) q, bound_nodes k s lo m bs ws us hs, has_nodes k _ tail m hi b w y hb)
  has_nodes k s tail lo hi (Op p o es) w t (ws, us, hs, su, q) = omega (arith, ap (λ (z : Term). sizes.nodes z) q, have_nodes k s lo hi es ws us hs)
  has_nodes k s tail lo hi (Call p f es) w t (m, ws, us, hs, q) = omega (arith, called_nodes (callee k f) tail lo m ws us w t q, have_nodes k s m hi es ws us hs)

  have_nodes : (k : Known) (s : List Slot) (lo hi : ℕ) (es : Expressions) (ws : List ℕ) (us : Terms) → HaveAll k s lo hi es ws us → sizes.nodes_in us ≡ nodes_in es
  have_nodes k s lo hi no_expression [] us h = ap (λ (z : Terms). sizes.nodes_in z) h.1
  have_nodes k s lo hi no_expression (w ∷ ws) us h = absurd h
  have_nodes k s lo hi (an_expression e es) [] us h = absurd h
  have_nodes k s lo hi (an_expression e es) (w ∷ ws) us (m, t, ts, he, hs, q) =
      omega (arith, ap (λ (z : Terms). sizes.nodes_in z) q, has_nodes k s _ lo m e w t he, have_nodes k s m hi es ws ts hs)

  bound_nodes : (k : Known) (s : List Slot) (lo hi : ℕ) (bs : Bindings) (ws : List ℕ) (us : Terms) → HaveBound k s lo hi bs ws us → sizes.nodes_in us ≡ nodes_bound bs
  bound_nodes k s lo hi no_binding [] us h = ap (λ (z : Terms). sizes.nodes_in z) h.1
  bound_nodes k s lo hi no_binding (w ∷ ws) us h = absurd h
  bound_nodes k s lo hi (a_binding p x v e bs) [] us h = absurd h
  bound_nodes k s lo hi (a_binding p x v e bs) (w ∷ ws) us (m, t, ts, keeps, he, hs, q) =
      omega (arith, ap (λ (z : Terms). sizes.nodes_in z) q, has_nodes k s _ lo m e w t he, bound_nodes k s m hi bs ws ts hs)

-- ---- intervals

pub called_length : (g : ℕ) (c : Callee) (tail : Bool) (lo m : ℕ) (ws : List ℕ) (us : Terms) (w : ℕ) (t : Term) → Calls c tail lo m ws us w t → lo +
    length (sites_of g t) ≡ m + length (sites_of_all g us)
called_length g (Member i h) tail lo m ws us w t q = omega (arith, ap (λ (z : Term). length (sites_of g z)) q.4, q.1)
called_length g (Above i h) tail lo m ws us w t q = omega (arith, ap (λ (z : Term). length (sites_of g z)) q.3, q.0)
called_length g Unknown tail lo m ws us w t q = absurd q

mutual
  pub has_length : (g : ℕ) (k : Known) (s : List Slot) (tail : Bool) (lo hi : ℕ) (e : Expression) (w : ℕ) (t : Term) → Has k s tail lo hi e w t → hi ≡ lo + length (sites_of g t)
  has_length g k s tail lo hi (Number p n) w t h = omega (arith, ap (λ (z : Term). length (sites_of g z)) h.2, h.0)
  has_length g k s tail lo hi (Sized p v n) w t h = omega (arith, ap (λ (z : Term). length (sites_of g z)) h.3, h.0)
  has_length g k s tail lo hi (Variable p x) w t (l, i, e, q) = omega (arith, ap (λ (z : Term). length (sites_of g z)) q, l)
  has_length g k s tail lo hi (If p c a b) w t (m, n, x, y, z, hc, ha, hb, q) =
      omega (
        arith,
        ap (λ (z : Term). length (sites_of g z)) q,
        append_length (sites_of g x) (sites_of g y ++ sites_of g z),
        append_length
            (sites_of g y) (sites_of g z),
        has_length g k s _ lo m c 1 x hc,
        has_length g k s tail m n a w y ha,
        has_length g k s tail n hi b w z hb,
      )
  has_length g k s tail lo hi (Let p bs b) w t (m, ws, us, y, d, hs, hb, q) =
      omega (arith, ap (λ (z : Term). length (sites_of g z)) q, append_length (sites_of_all g us) (sites_of g y), bound_length g k s lo m bs ws us hs, has_length g k _ tail m hi b w y hb)
  has_length g k s tail lo hi (Op p o es) w t (ws, us, hs, su, q) = omega (arith, ap (λ (z : Term). length (sites_of g z)) q, have_length g k s lo hi es ws us hs)
  has_length g k s tail lo hi (Call p f es) w t (m, ws, us, hs, q) = omega (arith, called_length g (callee k f) tail lo m ws us w t q, have_length g k s m hi es ws us hs)

  pub have_length : (g : ℕ) (k : Known) (s : List Slot) (lo hi : ℕ) (es : Expressions) (ws : List ℕ) (us : Terms) → HaveAll k s lo hi es ws us → hi ≡ lo + length (sites_of_all g us)
  have_length g k s lo hi no_expression [] us h = omega (arith, ap (λ (z : Terms). length (sites_of_all g z)) h.1, h.0)
  have_length g k s lo hi no_expression (w ∷ ws) us h = absurd h
  have_length g k s lo hi (an_expression e es) [] us h = absurd h
  have_length g k s lo hi (an_expression e es) (w ∷ ws) us (m, t, ts, he, hs, q) =
      omega (arith, ap (λ (z : Terms). length (sites_of_all g z)) q, append_length (sites_of g t) (sites_of_all g ts), has_length g k s _ lo m e w t he, have_length g k s m hi es ws ts hs)

  pub bound_length : (g : ℕ) (k : Known) (s : List Slot) (lo hi : ℕ) (bs : Bindings) (ws : List ℕ) (us : Terms) → HaveBound k s lo hi bs ws us → hi ≡ lo + length (sites_of_all g us)
  bound_length g k s lo hi no_binding [] us h = omega (arith, ap (λ (z : Terms). length (sites_of_all g z)) h.1, h.0)
  bound_length g k s lo hi no_binding (w ∷ ws) us h = absurd h
  bound_length g k s lo hi (a_binding p x v e bs) [] us h = absurd h
  bound_length g k s lo hi (a_binding p x v e bs) (w ∷ ws) us (m, t, ts, keeps, he, hs, q) =
      omega (arith, ap (λ (z : Terms). length (sites_of_all g z)) q, append_length (sites_of g t) (sites_of_all g ts), has_length g k s _ lo m e w t he, bound_length g k s m hi bs ws ts hs)

-- the program notes these sites, from number lo on
abbrev pub Noted : Program → ℕ → List Site → Type 0
Noted C lo [] = Unit {0}
Noted C lo (x ∷ xs) = (C.caller lo ≡ x.caller) × (C.callee lo ≡ x.callee) × Noted C (suc lo) xs

pub noted_parts : (C : Program) (lo mid : ℕ) (xs ys : List Site) → mid ≡ lo + length xs → Noted C lo (xs ++ ys) → Noted C lo xs × Noted C mid ys
noted_parts C lo mid [] ys e h = (tt, subst (λ (i : ℕ). Noted C i ys) (sym (omega (arith, e))) h)
noted_parts C lo mid (x ∷ xs) ys e h = let q = noted_parts C (suc lo) mid xs ys (omega (arith, e)) h.2 in ((h.0, h.1, q.0), q.1)

-- in the body of g, whose group is that which the expression sees
module _ (C : Program) (g : ℕ) (k : Known) (ag : Agrees C k.heads) (own : C.unit g ≡ k.unit) where
  called_spans : (c : Callee) (tail : Bool) (lo m hi : ℕ) (ws : List ℕ) (us : Terms) (w : ℕ) (t : Term) → CalleeAt k c → Calls c tail lo m ws us w t →
      Noted C lo (sites_of g t) → (Noted C m (sites_of_all g us) → SpansAll C g m hi us) → Spans C g tail lo hi t
  called_spans (Member i h) tail lo m hi ws us w t at q noted f =
      let a = ag i h at.0 in
      let n : Noted C lo (sites_of_all g us) = subst (λ (z : Term). Noted C lo (sites_of g z)) q.4 noted in
      subst (λ (z : Term). Spans C g tail lo hi z) (sym q.4)
      (q.0, a.unit ∙ (at.1 ∙ sym own), subst (λ (z : ℕ). SpansAll C g z hi us) q.1 (f (subst (λ (z : ℕ). Noted C z (sites_of_all g us)) (sym q.1) n)))
  called_spans (Above i h) tail lo m hi ws us w t at q noted f =
      let a = ag i h at.0 in
      let n : Noted C lo (record { caller = g; callee = i } ∷ sites_of_all g us) = subst (λ (z : Term). Noted C lo (sites_of g z)) q.3 noted in
      subst (λ (z : Term). Spans C g tail lo hi z) (sym q.3)
      (refl, n.1, n.0, omega (arith, a.unit, at.1, own), subst (λ (z : ℕ). SpansAll C g z hi us) q.0 (f (subst (λ (z : ℕ). Noted C z (sites_of_all g us)) (sym q.0) n.2)))
  called_spans Unknown tail lo m hi ws us w t at q noted f = absurd q

  mutual
    pub has_spans : (s : List Slot) (tail : Bool) (lo hi : ℕ) (e : Expression) (w : ℕ) (t : Term) → Has k s tail lo hi e w t → Noted C lo (sites_of g t) → Spans C g tail lo hi t
    has_spans s tail lo hi (Number p n) w t h noted = subst (λ (z : Term). Spans C g tail lo hi z) (sym h.2) h.0
    has_spans s tail lo hi (Sized p v n) w t h noted = subst (λ (z : Term). Spans C g tail lo hi z) (sym h.3) h.0
    has_spans s tail lo hi (Variable p x) w t (l, i, e, q) noted = subst (λ (z : Term). Spans C g tail lo hi z) (sym q) l
    has_spans s tail lo hi (If p c a b) w t (m, n, x, y, z, hc, ha, hb, q) noted =
        let n0 = noted_parts C lo m (sites_of g x) (sites_of g y ++ sites_of g z) (has_length g k s _ lo m c 1 x hc) (subst (λ (u : Term). Noted C lo (sites_of g u)) q noted) in
        let n1 = noted_parts C m n (sites_of g y) (sites_of g z) (has_length g k s tail m n a w y ha) n0.1 in
        subst (λ (u : Term). Spans C g tail lo hi u) (sym q)
        (m, n, has_spans s _ lo m c 1 x hc n0.0, has_spans s tail m n a w y ha n1.0, has_spans s tail n hi b w z hb n1.1)
    has_spans s tail lo hi (Let p bs b) w t (m, ws, us, y, d, hs, hb, q) noted =
        let n0 = noted_parts C lo m (sites_of_all g us) (sites_of g y) (bound_length g k s lo m bs ws us hs) (subst (λ (u : Term). Noted C lo (sites_of g u)) q noted) in
        subst (λ (u : Term). Spans C g tail lo hi u) (sym q)
        (m, bound_spans s lo m bs ws us hs n0.0, has_spans (s ++ slots bs ws) tail m hi b w y hb n0.1)
    has_spans s tail lo hi (Op p o es) w t (ws, us, hs, su, q) noted =
        subst (λ (u : Term). Spans C g tail lo hi u) (sym q) (have_spans s lo hi es ws us hs (subst (λ (u : Term). Noted C lo (sites_of g u)) q noted))
    has_spans s tail lo hi (Call p f es) w t (m, ws, us, hs, q) noted =
        called_spans (callee k f) tail lo m hi ws us w t (callee_at k f) q noted (λ n. have_spans s m hi es ws us hs n)

    pub have_spans : (s : List Slot) (lo hi : ℕ) (es : Expressions) (ws : List ℕ) (us : Terms) → HaveAll k s lo hi es ws us → Noted C lo (sites_of_all g us) → SpansAll C g lo hi us
    have_spans s lo hi no_expression [] us h noted = subst (λ (z : Terms). SpansAll C g lo hi z) (sym h.1) h.0
    have_spans s lo hi no_expression (w ∷ ws) us h noted = absurd h
    have_spans s lo hi (an_expression e es) [] us h noted = absurd h
    have_spans s lo hi (an_expression e es) (w ∷ ws) us (m, t, ts, he, hs, q) noted =
        let n0 = noted_parts C lo m (sites_of g t) (sites_of_all g ts) (has_length g k s _ lo m e w t he) (subst (λ (u : Terms). Noted C lo (sites_of_all g u)) q noted) in
        subst (λ (z : Terms). SpansAll C g lo hi z) (sym q) (m, has_spans s _ lo m e w t he n0.0, have_spans s m hi es ws ts hs n0.1)

    pub bound_spans : (s : List Slot) (lo hi : ℕ) (bs : Bindings) (ws : List ℕ) (us : Terms) → HaveBound k s lo hi bs ws us → Noted C lo (sites_of_all g us) → SpansAll C g lo hi us
    bound_spans s lo hi no_binding [] us h noted = subst (λ (z : Terms). SpansAll C g lo hi z) (sym h.1) h.0
    bound_spans s lo hi no_binding (w ∷ ws) us h noted = absurd h
    bound_spans s lo hi (a_binding p x v e bs) [] us h noted = absurd h
    bound_spans s lo hi (a_binding p x v e bs) (w ∷ ws) us (m, t, ts, keeps, he, hs, q) noted =
        let n0 = noted_parts C lo m (sites_of g t) (sites_of_all g ts) (has_length g k s _ lo m e w t he) (subst (λ (u : Terms). Noted C lo (sites_of_all g u)) q noted) in
        subst (λ (z : Terms). SpansAll C g lo hi z) (sym q) (m, has_spans s _ lo m e w t he n0.0, bound_spans s m hi bs ws ts hs n0.1)
