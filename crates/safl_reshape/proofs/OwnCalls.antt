-- Own calls are changed alike whatever the number of the first site is.
use Rattle.std.proofs.Common.{◌≡◌, ℕ, ◌+◌, List, refl}
use Rattle.safl_typing.specs.Rewriting.{Expression, Number, Sized, Variable, If, Let, Op, Call, Expressions, no_expression, an_expression, Bindings, no_binding, a_binding}
use Rattle.safl_typing.specs.Heads.{Known, Callee, Member, Above, Unknown, callee, is_site, sites, sites_bound}
use Rattle.safl_reshape.proofs.Altered.{altered, altered_all, altered_bound}
use Rattle.safl_reshape.proofs.Copying.{own_alteration}

own_any_call : (new : List ℕ) (f : Callee) (lo first p : ℕ) (x : List ℕ) (es fs : Expressions) → es ≡ fs → own_alteration new f lo p x es ≡ own_alteration new f first p x fs
own_any_call new (Member i h) lo first p x es fs e = cc
own_any_call new (Above i h) lo first p x es fs e = cc
own_any_call new Unknown lo first p x es fs e = cc

mutual
  pub own_any : (k : Known) (new : List ℕ) (lo first : ℕ) (e : Expression) → altered k (own_alteration new) lo e ≡ altered k (own_alteration new) first e
  own_any k new lo first (Number p n) = refl
  own_any k new lo first (Sized p w n) = refl
  own_any k new lo first (Variable p x) = refl
  own_any k new lo first (If p c x y) = cc (
    own_any k new lo first c,
    own_any k new (lo + sites k c) (first + sites k c) x,
    own_any k new
        (lo + sites k c + sites k x) (first + sites k c + sites k x) y,
  )
  own_any k new lo first (Let p bs b) = cc (own_any_bound k new lo first bs, own_any k new (lo + sites_bound k bs) (first + sites_bound k bs) b)
  own_any k new lo first (Op p o es) = cc (own_any_all k new lo first es)
  own_any k new lo first (Call p x es) = own_any_call new (callee k x) lo first p x _ _ (own_any_all k new (lo + is_site (callee k x)) (first + is_site (callee k x)) es)

  own_any_all : (k : Known) (new : List ℕ) (lo first : ℕ) (es : Expressions) → altered_all k (own_alteration new) lo es ≡ altered_all k (own_alteration new) first es
  own_any_all k new lo first no_expression = refl
  own_any_all k new lo first (an_expression e es) = cc (own_any k new lo first e, own_any_all k new (lo + sites k e) (first + sites k e) es)

  own_any_bound : (k : Known) (new : List ℕ) (lo first : ℕ) (bs : Bindings) → altered_bound k (own_alteration new) lo bs ≡ altered_bound k (own_alteration new) first bs
  own_any_bound k new lo first no_binding = refl
  own_any_bound k new lo first (a_binding p x w e bs) = cc (own_any k new lo first e, own_any_bound k new (lo + sites k e) (first + sites k e) bs)
