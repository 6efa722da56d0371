-- A body's term is no deeper than the expression that it stands for, and its lets have as many bindings.
use Rattle.safl_typing.proofs.Common.{Arms, Binds, Calls, Has, HaveAll, HaveBound, Tree, Trees, names}
use Rattle.std.proofs.Common.{◌≡◌, ℕ, suc, ◌+◌, ◌≤◌, max, List, [], ◌∷◌, length, Bool, refl, sym, ap, ◌∙◌, subst, arith}
use Rattle.safl_term.specs.Slots as slots
use Rattle.safl_term.specs.Sizes as sizes
use Rattle.safl_term.specs.Terms.{Term, Terms}
use Rattle.safl_tree.specs.Tree as source
use Rattle.safl_tree.specs.Printable.{IsLabel, HasBinding, IsFormed, AreFormed, AreFormedBinds, AreFormedArms}
use Rattle.safl_typing.specs.Rewriting.{Expression, Number, Sized, Variable, If, Let, Op, Call, Expressions, no_expression, an_expression, Bindings}
use Rattle.safl_typing.specs.Rewriting.{no_binding, a_binding, rewritten, rewritten_all, rewritten_binds, rewritten_arms}
use Rattle.safl_typing.specs.Heads.{Slot, Known, Callee, Member, Above, Unknown, callee}
use Rattle.safl_typing.specs.Forms.{HasShortLets, HaveShortLets, HaveShortBound}

-- ---- expressions

-- how deep an expression is, where each `case` is rewritten
abbrev mutual
  pub deep : Expression → ℕ
  deep (Number p n) = 1
  deep (Sized p w n) = 1
  deep (Variable p x) = 1
  deep (If p c a b) = 1 + max (deep c) (max (deep a) (deep b))
  deep (Let p bs b) = 1 + max (deep_bound bs) (deep b)
  deep (Op p o es) = 1 + deep_in es
  deep (Call p f es) = 1 + deep_in es

  pub deep_in : Expressions → ℕ
  deep_in no_expression = 0
  deep_in (an_expression e es) = max (deep e) (deep_in es)

  pub deep_bound : Bindings → ℕ
  deep_bound no_binding = 0
  deep_bound (a_binding p x w e bs) = max (deep e) (deep_bound bs)

label_deep : (l : Tree) → IsLabel l → deep (rewritten l) ≡ 1
label_deep (source.Number p n) h = refl
label_deep (source.Sized p w n) h = refl
label_deep (source.Variable p x) h = absurd h
label_deep (source.If p c a b) h = absurd h
label_deep (source.Let p bs t) h = absurd h
label_deep (source.Cases p e arms) h = absurd h
label_deep (source.Op p o ts) h = absurd h
label_deep (source.Call p f ts) h = absurd h

mutual
  pub rewritten_deep : (t : Tree) → IsFormed t → deep (rewritten t) ≤ source.depth t
  rewritten_deep (source.Number p n) h = omega arith
  rewritten_deep (source.Sized p w n) h = omega arith
  rewritten_deep (source.Variable p x) h = omega arith
  rewritten_deep (source.If p c a b) h = omega (arith, rewritten_deep c h.0, rewritten_deep a h.1, rewritten_deep b h.2)
  rewritten_deep (source.Let p bs t) h = omega (arith, binds_deep bs h.1, rewritten_deep t h.2)
  rewritten_deep (source.Cases p e arms) h = omega (arith, rewritten_deep e h.0, arms_deep p arms h.1)
  rewritten_deep (source.Op p o ts) h = omega (arith, all_deep ts h.2)
  rewritten_deep (source.Call p f ts) h = omega (arith, all_deep ts h.1)

  all_deep : (ts : Trees) → AreFormed ts → deep_in (rewritten_all ts) ≤ source.deepest ts
  all_deep source.no_tree h = omega arith
  all_deep (source.a_tree t ts) h = omega (arith, rewritten_deep t h.0, all_deep ts h.1)

  binds_deep : (bs : Binds) → AreFormedBinds bs → deep_bound (rewritten_binds bs) ≤ source.deepest_bind bs
  binds_deep source.no_bind h = omega arith
  binds_deep (source.a_bind p x w t bs) h = omega (arith, rewritten_deep t h.2, binds_deep bs h.3)

  arms_deep : (p : ℕ) (arms : Arms) → AreFormedArms arms → deep (rewritten_arms p arms) ≤ source.deepest_arm arms
  arms_deep p (source.default_arm t) h = rewritten_deep t h
  arms_deep p (source.an_arm l t arms) h = omega (arith, label_deep l h.0, rewritten_deep t h.1, arms_deep p arms h.2)

-- each let has a binding
abbrev mutual
  pub HasBindings : Expression → Type 0
  HasBindings (Number p n) = Unit {0}
  HasBindings (Sized p w n) = Unit {0}
  HasBindings (Variable p x) = Unit {0}
  HasBindings (If p c a b) = HasBindings c × HasBindings a × HasBindings b
  HasBindings (Let p bs b) = (1 ≤ length (names bs)) × HaveBindingsBound bs × HasBindings b
  HasBindings (Op p o es) = HaveBindings es
  HasBindings (Call p f es) = HaveBindings es

  pub HaveBindings : Expressions → Type 0
  HaveBindings no_expression = Unit {0}
  HaveBindings (an_expression e es) = HasBindings e × HaveBindings es

  pub HaveBindingsBound : Bindings → Type 0
  HaveBindingsBound no_binding = Unit {0}
  HaveBindingsBound (a_binding p x w e bs) = HasBindings e × HaveBindingsBound bs

label_bindings : (l : Tree) → IsLabel l → HasBindings (rewritten l)
label_bindings (source.Number p n) h = tt
label_bindings (source.Sized p w n) h = tt
label_bindings (source.Variable p x) h = absurd h
label_bindings (source.If p c a b) h = absurd h
label_bindings (source.Let p bs t) h = absurd h
label_bindings (source.Cases p e arms) h = absurd h
label_bindings (source.Op p o ts) h = absurd h
label_bindings (source.Call p f ts) h = absurd h

some_binding : (bs : Binds) → HasBinding bs → 1 ≤ length (names (rewritten_binds bs))
some_binding source.no_bind h = absurd h
some_binding (source.a_bind p x w t bs) h = omega arith

mutual
  pub formed_bindings : (t : Tree) → IsFormed t → HasBindings (rewritten t)
  formed_bindings (source.Number p n) h = tt
  formed_bindings (source.Sized p w n) h = tt
  formed_bindings (source.Variable p x) h = tt
  formed_bindings (source.If p c a b) h = (formed_bindings c h.0, formed_bindings a h.1, formed_bindings b h.2)
  formed_bindings (source.Let p bs t) h = (some_binding bs h.0, binds_bindings bs h.1, formed_bindings t h.2)
  formed_bindings (source.Cases p e arms) h = (omega arith, (formed_bindings e h.0, tt), arms_bindings p arms h.1)
  formed_bindings (source.Op p o ts) h = all_bindings ts h.2
  formed_bindings (source.Call p f ts) h = all_bindings ts h.1

  all_bindings : (ts : Trees) → AreFormed ts → HaveBindings (rewritten_all ts)
  all_bindings source.no_tree h = tt
  all_bindings (source.a_tree t ts) h = (formed_bindings t h.0, all_bindings ts h.1)

  binds_bindings : (bs : Binds) → AreFormedBinds bs → HaveBindingsBound (rewritten_binds bs)
  binds_bindings source.no_bind h = tt
  binds_bindings (source.a_bind p x w t bs) h = (formed_bindings t h.2, binds_bindings bs h.3)

  arms_bindings : (p : ℕ) (arms : Arms) → AreFormedArms arms → HasBindings (rewritten_arms p arms)
  arms_bindings p (source.default_arm t) h = formed_bindings t h
  arms_bindings p (source.an_arm l t arms) h = ((tt, (label_bindings l h.0, tt)), formed_bindings t h.1, arms_bindings p arms h.2)

-- ---- terms

called_depth : (c : Callee) (tail : Bool) (lo m : ℕ) (ws : List ℕ) (us : Terms) (w : ℕ) (t : Term) → Calls c tail lo m ws us w t → sizes.depth t ≡ suc (sizes.deepest us)
called_depth (Member i h) tail lo m ws us w t q = ap (λ (z : Term). sizes.depth z) q.4
called_depth (Above i h) tail lo m ws us w t q = ap (λ (z : Term). sizes.depth z) q.3
called_depth Unknown tail lo m ws us w t q = absurd q

mutual
  pub has_depth : (k : Known) (s : List Slot) (tail : Bool) (lo hi : ℕ) (e : Expression) (w : ℕ) (t : Term) → Has k s tail lo hi e w t → sizes.depth t ≡ deep e
  has_depth k s tail lo hi (Number p n) w t h = ap (λ (z : Term). sizes.depth z) h.2
  has_depth k s tail lo hi (Sized p v n) w t h = ap (λ (z : Term). sizes.depth z) h.3
  has_depth k s tail lo hi (Variable p x) w t (l, i, e, q) = ap (λ (z : Term). sizes.depth z) q
  has_depth k s tail lo hi (If p c a b) w t (m, n, x, y, z, hc, ha, hb, q) =
      omega (arith, ap (λ (z : Term). sizes.depth z) q, has_depth k s _ lo m c 1 x hc, has_depth k s tail m n a w y ha, has_depth k s tail n hi b w z hb)
  has_depth k s tail lo hi (Let p bs b) w t (m, ws, us, y, d, hs, hb, q) =
      omega (arith, ap (λ (z : Term). sizes.depth z) q, bound_depth k s lo m bs ws us hs, has_depth k _ tail m hi b w y hb)
  has_depth k s tail lo hi (Op p o es) w t (ws, us, hs, suits, q) =
      omega (arith, ap (λ (z : Term). sizes.depth z) q, all_depth k s lo hi es ws us hs)
  has_depth k s tail lo hi (Call p f es) w t (m, ws, us, hs, calls) =
      omega (arith, called_depth (callee k f) tail lo m ws us w t calls, all_depth k s m hi es ws us hs)

  all_depth : (k : Known) (s : List Slot) (lo hi : ℕ) (es : Expressions) (ws : List ℕ) (us : Terms) → HaveAll k s lo hi es ws us → sizes.deepest us ≡ deep_in es
  all_depth k s lo hi no_expression [] us h = ap (λ (z : Terms). sizes.deepest z) h.1
  all_depth k s lo hi no_expression (w ∷ ws) us h = absurd h
  all_depth k s lo hi (an_expression e es) [] us h = absurd h
  all_depth k s lo hi (an_expression e es) (w ∷ ws) us (m, t, ts, he, hes, q) =
      omega (arith, ap (λ (z : Terms). sizes.deepest z) q, has_depth k s _ lo m e w t he, all_depth k s m hi es ws ts hes)

  bound_depth : (k : Known) (s : List Slot) (lo hi : ℕ) (bs : Bindings) (ws : List ℕ) (us : Terms) → HaveBound k s lo hi bs ws us → sizes.deepest us ≡ deep_bound bs
  bound_depth k s lo hi no_binding [] us h = ap (λ (z : Terms). sizes.deepest z) h.1
  bound_depth k s lo hi no_binding (w ∷ ws) us h = absurd h
  bound_depth k s lo hi (a_binding p x v e bs) [] us h = absurd h
  bound_depth k s lo hi (a_binding p x v e bs) (w ∷ ws) us (m, t, ts, kept, he, hes, q) =
      omega (arith, ap (λ (z : Terms). sizes.deepest z) q, has_depth k s _ lo m e w t he, bound_depth k s m hi bs ws ts hes)

bound_count : (k : Known) (s : List Slot) (lo hi : ℕ) (bs : Bindings) (ws : List ℕ) (us : Terms) → HaveBound k s lo hi bs ws us → slots.count us ≡ length (names bs)
bound_count k s lo hi no_binding [] us h = ap (λ (z : Terms). slots.count z) h.1
bound_count k s lo hi no_binding (w ∷ ws) us h = absurd h
bound_count k s lo hi (a_binding p x v e bs) [] us h = absurd h
bound_count k s lo hi (a_binding p x v e bs) (w ∷ ws) us (m, t, ts, kept, he, hes, q) = ap (λ (z : Terms). slots.count z) q ∙ ap (λ (n : ℕ). suc n) (bound_count k s m hi bs ws ts hes)

called_short : (c : Callee) (tail : Bool) (lo m : ℕ) (ws : List ℕ) (us : Terms) (w : ℕ) (t : Term) → Calls c tail lo m ws us w t → sizes.HaveShortLets us → sizes.HasShortLets t
called_short (Member i h) tail lo m ws us w t q short = subst (λ (z : Term). sizes.HasShortLets z) (sym q.4) short
called_short (Above i h) tail lo m ws us w t q short = subst (λ (z : Term). sizes.HasShortLets z) (sym q.3) short
called_short Unknown tail lo m ws us w t q short = absurd q

mutual
  pub has_short : (k : Known) (s : List Slot) (tail : Bool) (lo hi : ℕ) (e : Expression) (w : ℕ) (t : Term) → Has k s tail lo hi e w t → HasShortLets e → HasBindings e → sizes.HasShortLets t
  has_short k s tail lo hi (Number p n) w t h l b = subst (λ (z : Term). sizes.HasShortLets z) (sym h.2) tt
  has_short k s tail lo hi (Sized p v n) w t h l b = subst (λ (z : Term). sizes.HasShortLets z) (sym h.3) tt
  has_short k s tail lo hi (Variable p x) w t (j, i, e, q) l b = subst (λ (z : Term). sizes.HasShortLets z) (sym q) tt
  has_short k s tail lo hi (If p c a d) w t (m, n, x, y, z, hc, ha, hd, q) l b =
      subst (λ (z : Term). sizes.HasShortLets z) (sym q) (has_short k s _ lo m c 1 x hc l.0 b.0, has_short k s tail m n a w y ha l.1 b.1, has_short k s tail n hi d w z hd l.2 b.2)
  has_short k s tail lo hi (Let p bs d) w t (m, ws, us, y, differ, hs, hd, q) l b =
      let e = bound_count k s lo m bs ws us hs in
      subst (λ (z : Term). sizes.HasShortLets z) (sym q) (omega (arith, e, b.0), omega (arith, e, l.0), bound_short k s lo m bs ws us hs l.1 b.1, has_short k _ tail m hi d w y hd l.2 b.2)
  has_short k s tail lo hi (Op p o es) w t (ws, us, hs, suits, q) l b = subst (λ (z : Term). sizes.HasShortLets z) (sym q) (all_short k s lo hi es ws us hs l b)
  has_short k s tail lo hi (Call p f es) w t (m, ws, us, hs, calls) l b = called_short (callee k f) tail lo m ws us w t calls (all_short k s m hi es ws us hs l b)

  all_short : (k : Known) (s : List Slot) (lo hi : ℕ) (es : Expressions) (ws : List ℕ) (us : Terms) → HaveAll k s lo hi es ws us → HaveShortLets es → HaveBindings es → sizes.HaveShortLets us
  all_short k s lo hi no_expression [] us h l b = subst (λ (z : Terms). sizes.HaveShortLets z) (sym h.1) tt
  all_short k s lo hi no_expression (w ∷ ws) us h l b = absurd h
  all_short k s lo hi (an_expression e es) [] us h l b = absurd h
  all_short k s lo hi (an_expression e es) (w ∷ ws) us (m, t, ts, he, hes, q) l b =
      subst (λ (z : Terms). sizes.HaveShortLets z) (sym q) (has_short k s _ lo m e w t he l.0 b.0, all_short k s m hi es ws ts hes l.1 b.1)

  bound_short : (k : Known) (s : List Slot) (lo hi : ℕ) (bs : Bindings) (ws : List ℕ) (us : Terms) → HaveBound k s lo hi bs ws us → HaveShortBound bs → HaveBindingsBound bs → sizes.HaveShortLets us
  bound_short k s lo hi no_binding [] us h l b = subst (λ (z : Terms). sizes.HaveShortLets z) (sym h.1) tt
  bound_short k s lo hi no_binding (w ∷ ws) us h l b = absurd h
  bound_short k s lo hi (a_binding p x v e bs) [] us h l b = absurd h
  bound_short k s lo hi (a_binding p x v e bs) (w ∷ ws) us (m, t, ts, kept, he, hes, q) l b =
      subst (λ (z : Terms). sizes.HaveShortLets z) (sym q) (has_short k s _ lo m e w t he l.0 b.0, bound_short k s m hi bs ws ts hes l.1 b.1)
