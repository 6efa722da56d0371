-- Expressions that are the same but for their places: one has a width and a term where the other has it.
use Rattle.safl_reshape.proofs.Common.{Arms, Binds, Known, Primitive, Slot, Terms, Tree, Trees, bindings_max, ◌&&◌}
use Rattle.std.proofs.Common.{◌≡◌, ℕ, ◌+◌, ◌≤◌, List, [], ◌∷◌, ◌++◌, length, Option, Some, None, Bool, false, ◌⊎◌, inl, inr, refl, sym, ap, ◌∙◌, subst}
use Rattle.safl_tree.specs.Tree as source
use Rattle.safl_tree.specs.Places.{unplaced, unplaced_trees, unplaced_binds, unplaced_arms}
use Rattle.safl_typing.specs.Rewriting.{Expression, Number, Sized, Variable, If, Let, Op, Call, Expressions, no_expression, an_expression, Bindings}
use Rattle.safl_typing.specs.Rewriting.{no_binding, a_binding, Shape, Alike, Comparing, Shifting, Resizing, shape, flexible, all_flexible}
use Rattle.safl_typing.specs.Rewriting.{takes_width, nodes, nodes_in, nodes_bound, rewritten, rewritten_all, rewritten_binds, rewritten_arms}
use Rattle.safl_typing.specs.Typing.{Differ, names, slots, KeepsWritten, AllRigid, RigidOr, Shifts, Suits, Has, HaveAll, HaveBound}
use Rattle.safl_typing.specs.Forms.{HasShortLets, HaveShortLets, HaveShortBound}

mutual
  pub data Twin : Expression → Expression → Type 0 where
    twin_number : {p q n : ℕ} → Twin (Number p n) (Number q n)
    twin_sized : {p q w n : ℕ} → Twin (Sized p w n) (Sized q w n)
    twin_variable : {p q : ℕ} {x : List ℕ} → Twin (Variable p x) (Variable q x)
    twin_choice : {p q : ℕ} {c a b c' a' b' : Expression} → Twin c c' → Twin a a' → Twin b b' → Twin (If p c a b) (If q c' a' b')
    twin_binding : {p q : ℕ} {bs bs' : Bindings} {b b' : Expression} → TwinBound bs bs' → Twin b b' → Twin (Let p bs b) (Let q bs' b')
    twin_applied : {p q : ℕ} {o : Primitive} {es es' : Expressions} → Twins es es' → Twin (Op p o es) (Op q o es')
    twin_called : {p q : ℕ} {x : List ℕ} {es es' : Expressions} → Twins es es' → Twin (Call p x es) (Call q x es')

  pub data Twins : Expressions → Expressions → Type 0 where
    no_twins : Twins no_expression no_expression
    more_twins : {e e' : Expression} {es es' : Expressions} → Twin e e' → Twins es es' → Twins (an_expression e es) (an_expression e' es')

  pub data TwinBound : Bindings → Bindings → Type 0 where
    no_bound : TwinBound no_binding no_binding
    more_bound : {p q : ℕ} {x : List ℕ} {w : Option ℕ} {e e' : Expression} {bs bs' : Bindings} → Twin e e' → TwinBound bs bs' → TwinBound (a_binding p x w e bs) (a_binding q x w e' bs')

mutual
  pub twin_back : {e f : Expression} → Twin e f → Twin f e
  twin_back twin_number = twin_number
  twin_back twin_sized = twin_sized
  twin_back twin_variable = twin_variable
  twin_back (twin_choice c a b) = twin_choice (twin_back c) (twin_back a) (twin_back b)
  twin_back (twin_binding bs b) = twin_binding (bound_back bs) (twin_back b)
  twin_back (twin_applied es) = twin_applied (twins_back es)
  twin_back (twin_called es) = twin_called (twins_back es)

  twins_back : {es fs : Expressions} → Twins es fs → Twins fs es
  twins_back no_twins = no_twins
  twins_back (more_twins e es) = more_twins (twin_back e) (twins_back es)

  bound_back : {bs cs : Bindings} → TwinBound bs cs → TwinBound cs bs
  bound_back no_bound = no_bound
  bound_back (more_bound e bs) = more_bound (twin_back e) (bound_back bs)

-- ---- what they have in common

mutual
  twin_flexible : {e f : Expression} → Twin e f → flexible e ≡ flexible f
  twin_flexible twin_number = refl
  twin_flexible twin_sized = refl
  twin_flexible twin_variable = refl
  twin_flexible (twin_choice c a b) = cc (twin_flexible a, twin_flexible b)
  twin_flexible (twin_binding bs b) = twin_flexible b
  twin_flexible (twin_applied {o = o} es) = ap (λ (z : Bool). takes_width (shape o) && z) (twins_flexible es)
  twin_flexible (twin_called es) = refl

  twins_flexible : {es fs : Expressions} → Twins es fs → all_flexible es ≡ all_flexible fs
  twins_flexible no_twins = refl
  twins_flexible (more_twins e es) = cc (twin_flexible e, twins_flexible es)

bound_names : {bs cs : Bindings} → TwinBound bs cs → names bs ≡ names cs
bound_names no_bound = refl
bound_names (more_bound {x = x} e bs) = ap (λ (l : List (List ℕ)). x ∷ l) (bound_names bs)

bound_slots : {bs cs : Bindings} (ws : List ℕ) → TwinBound bs cs → slots bs ws ≡ slots cs ws
bound_slots ws no_bound = refl
bound_slots [] (more_bound e bs) = refl
bound_slots (w ∷ ws) (more_bound {x = x} e bs) = ap (λ (l : List Slot). record { name = x; width = w } ∷ l) (bound_slots ws bs)

mutual
  pub twin_nodes : {e f : Expression} → Twin e f → nodes e ≡ nodes f
  twin_nodes twin_number = refl
  twin_nodes twin_sized = refl
  twin_nodes twin_variable = refl
  twin_nodes (twin_choice c a b) = cc (twin_nodes c, twin_nodes a, twin_nodes b)
  twin_nodes (twin_binding bs b) = cc (bound_nodes bs, twin_nodes b)
  twin_nodes (twin_applied es) = ap (λ (n : ℕ). 1 + n) (twins_nodes es)
  twin_nodes (twin_called es) = ap (λ (n : ℕ). 1 + n) (twins_nodes es)

  twins_nodes : {es fs : Expressions} → Twins es fs → nodes_in es ≡ nodes_in fs
  twins_nodes no_twins = refl
  twins_nodes (more_twins e es) = cc (twin_nodes e, twins_nodes es)

  bound_nodes : {bs cs : Bindings} → TwinBound bs cs → nodes_bound bs ≡ nodes_bound cs
  bound_nodes no_bound = refl
  bound_nodes (more_bound e bs) = cc (twin_nodes e, bound_nodes bs)

mutual
  pub twin_short : {e f : Expression} → Twin e f → HasShortLets e → HasShortLets f
  twin_short twin_number h = h
  twin_short twin_sized h = h
  twin_short twin_variable h = h
  twin_short (twin_choice c a b) h = (twin_short c h.0, twin_short a h.1, twin_short b h.2)
  twin_short (twin_binding bs b) h = (subst (λ (l : List (List ℕ)). length l ≤ bindings_max) (bound_names bs) h.0, bound_short bs h.1, twin_short b h.2)
  twin_short (twin_applied es) h = twins_short es h
  twin_short (twin_called es) h = twins_short es h

  twins_short : {es fs : Expressions} → Twins es fs → HaveShortLets es → HaveShortLets fs
  twins_short no_twins h = h
  twins_short (more_twins e es) h = (twin_short e h.0, twins_short es h.1)

  bound_short : {bs cs : Bindings} → TwinBound bs cs → HaveShortBound bs → HaveShortBound cs
  bound_short no_bound h = h
  bound_short (more_bound e bs) h = (twin_short e h.0, bound_short bs h.1)

-- ---- widths and terms

twin_keeps : {e f : Expression} (v : Option ℕ) (w : ℕ) → Twin e f → KeepsWritten v e w → KeepsWritten v f w
twin_keeps (Some v) w t h = h
twin_keeps None w t h = sym (twin_flexible t) ∙ h

twins_rigid : {es fs : Expressions} → Twins es fs → AllRigid es → AllRigid fs
twins_rigid no_twins h = h
twins_rigid (more_twins e es) h = (sym (twin_flexible e) ∙ h.0, twins_rigid es h.1)

rigid_or : {e f : Expression} (P : Type 0) → Twin e f → (flexible e ≡ false) ⊎ P → (flexible f ≡ false) ⊎ P
rigid_or P t (inl h) = inl (sym (twin_flexible t) ∙ h)
rigid_or P t (inr h) = inr h

twins_or : {es fs : Expressions} (w : ℕ) (vs : List ℕ) → Twins es fs → RigidOr w es vs → RigidOr w fs vs
twins_or w vs no_twins h = h
twins_or w [] (more_twins e es) h = h
twins_or w (v ∷ vs) (more_twins e es) h = (rigid_or (v ≡ w) e h.0, twins_or w vs es h.1)

twins_shift : {es fs : Expressions} (w : ℕ) (vs : List ℕ) → Twins es fs → Shifts w es vs → Shifts w fs vs
twins_shift w vs no_twins h = h
twins_shift w [] (more_twins e es) h = h
twins_shift w (v ∷ vs) (more_twins e es) h = (sym (twin_flexible e) ∙ h.0, h.1, twins_or w vs es h.2)

twins_suit : {es fs : Expressions} (s : Shape) (o : Primitive) (ws : List ℕ) (w : ℕ) → Twins es fs → Suits s o es ws w → Suits s o fs ws w
twins_suit Alike o ws w t h = h
twins_suit Comparing o ws w t (e, u, a, r) = (e, u, a, sym (twins_flexible t) ∙ r)
twins_suit Shifting o ws w t h = twins_shift w ws t h
twins_suit Resizing o ws w t h = (twins_rigid t h.0, h.1)

mutual
  pub twin_has : {e f : Expression} (k : Known) (s : List Slot) (tail : Bool) (lo hi w : ℕ) (t : Rattle.safl_term.specs.Terms.Term) → Twin e f → Has k s tail lo hi e w t → Has k s tail lo hi f w t
  twin_has k s tail lo hi w t twin_number h = h
  twin_has k s tail lo hi w t twin_sized h = h
  twin_has k s tail lo hi w t twin_variable h = h
  twin_has k s tail lo hi w t (twin_choice c a b) (m, n, x, y, z, hc, ha, hb, q) = (m, n, x, y, z, twin_has k s false lo m 1 x c hc, twin_has k s tail m n w y a ha, twin_has k s tail n hi w z b hb, q)
  twin_has k s tail lo hi w t (twin_binding {b' = b'} bs b) (m, ws, us, y, d, hs, hb, q) = (
    m,
    ws,
    us,
    y,
    subst Differ (bound_names bs) d,
    bound_have k s lo m ws us bs hs,
    subst (λ (l : List Slot). Has k (s ++ l) tail m hi b' w y)
        (bound_slots ws bs) (twin_has k (s ++ slots _ ws) tail m hi w y b hb),
    q,
  )
  twin_has k s tail lo hi w t (twin_applied {o = o} es) (ws, us, hs, su, q) = (ws, us, twins_have k s lo hi ws us es hs, twins_suit (shape o) o ws w es su, q)
  twin_has k s tail lo hi w t (twin_called es) (m, ws, us, hs, q) = (m, ws, us, twins_have k s m hi ws us es hs, q)

  twins_have : {es fs : Expressions} (k : Known) (s : List Slot) (lo hi : ℕ) (ws : List ℕ) (us : Terms) → Twins es fs → HaveAll k s lo hi es ws us → HaveAll k s lo hi fs ws us
  twins_have k s lo hi [] us no_twins h = h
  twins_have k s lo hi (w ∷ ws) us no_twins h = absurd h
  twins_have k s lo hi [] us (more_twins e es) h = absurd h
  twins_have k s lo hi (w ∷ ws) us (more_twins e es) (m, t, ts, he, hs, q) = (m, t, ts, twin_has k s false lo m w t e he, twins_have k s m hi ws ts es hs, q)

  bound_have : {bs cs : Bindings} (k : Known) (s : List Slot) (lo hi : ℕ) (ws : List ℕ) (us : Terms) → TwinBound bs cs → HaveBound k s lo hi bs ws us → HaveBound k s lo hi cs ws us
  bound_have k s lo hi [] us no_bound h = h
  bound_have k s lo hi (w ∷ ws) us no_bound h = absurd h
  bound_have k s lo hi [] us (more_bound e bs) h = absurd h
  bound_have k s lo hi (w ∷ ws) us (more_bound {w = v} e bs) (m, t, ts, keeps, he, hs, q) = (m, t, ts, twin_keeps v w e keeps, twin_has k s false lo m w t e he, bound_have k s m hi ws ts bs hs, q)

-- ---- an expression and the same without places

mutual
  pub unplaced_twin : (t : Tree) → Twin (rewritten t) (rewritten (unplaced t))
  unplaced_twin (source.Number p n) = twin_number
  unplaced_twin (source.Sized p w n) = twin_sized
  unplaced_twin (source.Variable p x) = twin_variable
  unplaced_twin (source.If p c a b) = twin_choice (unplaced_twin c) (unplaced_twin a) (unplaced_twin b)
  unplaced_twin (source.Let p bs t) = twin_binding (unplaced_bound bs) (unplaced_twin t)
  unplaced_twin (source.Cases p e arms) = twin_binding (more_bound (unplaced_twin e) no_bound) (unplaced_test p 0 arms)
  unplaced_twin (source.Op p o ts) = twin_applied (unplaced_twins ts)
  unplaced_twin (source.Call p x ts) = twin_called (unplaced_twins ts)

  unplaced_twins : (ts : Trees) → Twins (rewritten_all ts) (rewritten_all (unplaced_trees ts))
  unplaced_twins source.no_tree = no_twins
  unplaced_twins (source.a_tree t ts) = more_twins (unplaced_twin t) (unplaced_twins ts)

  unplaced_bound : (bs : Binds) → TwinBound (rewritten_binds bs) (rewritten_binds (unplaced_binds bs))
  unplaced_bound source.no_bind = no_bound
  unplaced_bound (source.a_bind p x w t bs) = more_bound (unplaced_twin t) (unplaced_bound bs)

  unplaced_test : (p q : ℕ) (arms : Arms) → Twin (rewritten_arms p arms) (rewritten_arms q (unplaced_arms arms))
  unplaced_test p q (source.default_arm t) = unplaced_twin t
  unplaced_test p q (source.an_arm l t arms) = twin_choice (twin_applied (more_twins twin_variable (more_twins (unplaced_twin l) no_twins))) (unplaced_twin t) (unplaced_test p q arms)
