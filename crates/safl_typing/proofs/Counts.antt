-- The sites of an expression are as many as it has calls of functions of other groups.
use Rattle.std.proofs.Common.{◌≡◌, ℕ, ◌+◌, List, [], ◌∷◌, Bool, arith}
use Rattle.safl_term.specs.Terms.{Term, Terms}
use Rattle.safl_typing.specs.Rewriting.{Expression, Number, Sized, Variable, If, Let, Op, Call, Expressions, no_expression, an_expression, Bindings, no_binding, a_binding}
use Rattle.safl_typing.specs.Heads.{Slot, Known, Callee, Member, Above, Unknown, callee, is_site, sites, sites_in, sites_bound}
use Rattle.safl_typing.specs.Typing.{Has, HaveAll, HaveBound, Calls}

pub called_sites : (c : Callee) (tail : Bool) (lo m : ℕ) (ws : List ℕ) (us : Terms) (w : ℕ) (t : Term) → Calls c tail lo m ws us w t → m ≡ lo + is_site c
called_sites (Member i h) tail lo m ws us w t q = omega (arith, q.1)
called_sites (Above i h) tail lo m ws us w t q = omega (arith, q.0)
called_sites Unknown tail lo m ws us w t q = absurd q

mutual
  pub has_sites : (k : Known) (s : List Slot) (tail : Bool) (lo hi : ℕ) (e : Expression) (w : ℕ) (t : Term) → Has k s tail lo hi e w t → hi ≡ lo + sites k e
  has_sites k s tail lo hi (Number p n) w t h = omega (arith, h.0)
  has_sites k s tail lo hi (Sized p v n) w t h = omega (arith, h.0)
  has_sites k s tail lo hi (Variable p x) w t h = omega (arith, h.0)
  has_sites k s tail lo hi (If p c a b) w t (m, n, x, y, z, hc, ha, hb, q) =
      omega (arith, has_sites k s _ lo m c 1 x hc, has_sites k s tail m n a w y ha, has_sites k s tail n hi b w z hb)
  has_sites k s tail lo hi (Let p bs b) w t (m, ws, us, y, d, hs, hb, q) =
      omega (arith, have_sites_bound k s lo m bs ws us hs, has_sites k _ tail m hi b w y hb)
  has_sites k s tail lo hi (Op p o es) w t (ws, us, hs, su, q) = have_sites k s lo hi es ws us hs
  has_sites k s tail lo hi (Call p f es) w t (m, ws, us, hs, q) =
      omega (arith, have_sites k s m hi es ws us hs, called_sites (callee k f) tail lo m ws us w t q)

  pub have_sites : (k : Known) (s : List Slot) (lo hi : ℕ) (es : Expressions) (ws : List ℕ) (us : Terms) → HaveAll k s lo hi es ws us → hi ≡ lo + sites_in k es
  have_sites k s lo hi no_expression [] us h = omega (arith, h.0)
  have_sites k s lo hi no_expression (w ∷ ws) us h = absurd h
  have_sites k s lo hi (an_expression e es) [] us h = absurd h
  have_sites k s lo hi (an_expression e es) (w ∷ ws) us (m, t, ts, he, hs, q) =
      omega (arith, has_sites k s _ lo m e w t he, have_sites k s m hi es ws ts hs)

  pub have_sites_bound : (k : Known) (s : List Slot) (lo hi : ℕ) (bs : Bindings) (ws : List ℕ) (us : Terms) → HaveBound k s lo hi bs ws us → hi ≡ lo + sites_bound k bs
  have_sites_bound k s lo hi no_binding [] us h = omega (arith, h.0)
  have_sites_bound k s lo hi no_binding (w ∷ ws) us h = absurd h
  have_sites_bound k s lo hi (a_binding p x v e bs) [] us h = absurd h
  have_sites_bound k s lo hi (a_binding p x v e bs) (w ∷ ws) us (m, t, ts, keeps, he, hs, q) =
      omega (arith, has_sites k s _ lo m e w t he, have_sites_bound k s m hi bs ws ts hs)
