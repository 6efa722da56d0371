-- Lets stay short where calls are changed into expressions with short lets. And who calls none.
use Rattle.safl_reshape.proofs.Common.{Callee, Known, bindings_max, callee, calls, calls_bound, calls_in, is_site, sites, sites_bound}
use Rattle.std.proofs.Common.{◌≡◌, ℕ, ◌+◌, ◌≤◌, List, Bool, false, refl, sym, subst, length}
use Rattle.safl_typing.specs.Rewriting.{Expression, Number, Sized, Variable, If, Let, Op, Call, Expressions, no_expression, an_expression, Bindings, no_binding, a_binding}
use Rattle.safl_typing.specs.Forms.{HasShortLets, HaveShortLets, HaveShortBound}
use Rattle.safl_reshape.proofs.Altered.{Alteration, altered, altered_all, altered_bound}
use Rattle.safl_reshape.proofs.Shapes.{IsRigid, names_same}

abbrev pub IsShort : Alteration → Type 0
IsShort a = (f : Callee) (lo p : ℕ) (x : List ℕ) (es : Expressions) → HaveShortLets es → HasShortLets (a f lo p x es)

module _ (k : Known) (a : Alteration) (r : IsRigid a) (s : IsShort a) where
  mutual
    pub short_altered : (lo : ℕ) (e : Expression) → HasShortLets e → HasShortLets (altered k a lo e)
    short_altered lo (Number p n) h = tt
    short_altered lo (Sized p w n) h = tt
    short_altered lo (Variable p x) h = tt
    short_altered lo (If p c x y) h = (short_altered lo c h.0, short_altered (lo + sites k c) x h.1, short_altered (lo + sites k c + sites k x) y h.2)
    short_altered lo (Let p bs b) h =
        (subst (λ (l : List (List ℕ)). length l ≤ bindings_max) (sym (names_same k a r lo bs)) h.0, short_altered_bound lo bs h.1, short_altered (lo + sites_bound k bs) b h.2)
    short_altered lo (Op p o es) h = short_altered_all lo es h
    short_altered lo (Call p x es) h = s _ _ _ _ _ (short_altered_all (lo + is_site (callee k x)) es h)

    short_altered_all : (lo : ℕ) (es : Expressions) → HaveShortLets es → HaveShortLets (altered_all k a lo es)
    short_altered_all lo no_expression h = tt
    short_altered_all lo (an_expression e es) h = (short_altered lo e h.0, short_altered_all (lo + sites k e) es h.1)

    short_altered_bound : (lo : ℕ) (bs : Bindings) → HaveShortBound bs → HaveShortBound (altered_bound k a lo bs)
    short_altered_bound lo no_binding h = tt
    short_altered_bound lo (a_binding p x w e bs) h = (short_altered lo e h.0, short_altered_bound (lo + sites k e) bs h.1)

-- nothing passes this test
abbrev pub no_callee : Callee → Bool
no_callee c = false

mutual
  pub calls_none : (k : Known) (e : Expression) → calls no_callee k e ≡ false
  calls_none k (Number p n) = refl
  calls_none k (Sized p w n) = refl
  calls_none k (Variable p x) = refl
  calls_none k (If p c x y) = rw (calls_none k c, calls_none k x) (calls_none k y)
  calls_none k (Let p bs b) = rw (calls_none_bound k bs) (calls_none k b)
  calls_none k (Op p o es) = calls_none_in k es
  calls_none k (Call p x es) = calls_none_in k es

  calls_none_in : (k : Known) (es : Expressions) → calls_in no_callee k es ≡ false
  calls_none_in k no_expression = refl
  calls_none_in k (an_expression e es) = rw (calls_none k e) (calls_none_in k es)

  calls_none_bound : (k : Known) (bs : Bindings) → calls_bound no_callee k bs ≡ false
  calls_none_bound k no_binding = refl
  calls_none_bound k (a_binding p x w e bs) = rw (calls_none k e) (calls_none_bound k bs)
