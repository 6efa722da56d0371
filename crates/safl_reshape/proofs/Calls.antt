-- Calls that stay calls, and expressions in which nothing is changed.
use Rattle.safl_reshape.proofs.Common.{Calls, HaveAll, Loop, Program, Term, Terms, arity, is_member, slice_get, widths_of}
use Rattle.std.proofs.Common.{◌≡◌, ℕ, suc, ◌+◌, ◌<◌, List, length, Some, Bool, true, false, refl, sym, ap, ◌∙◌, subst, arith}
use Rattle.safl_term.specs.Terms as terms
use Rattle.safl_term.specs.Slots.{count}
use Rattle.safl_typing.specs.Rewriting.{Expression, Number, Sized, Variable, If, Let, Op, Call, Expressions, no_expression, an_expression, Bindings, no_binding, a_binding}
use Rattle.safl_typing.specs.Heads.{Slot, Head, Known, Callee, Member, Above, Unknown, callee, is_site, sites, sites_bound}
use Rattle.safl_reshape.proofs.Alike.{alike_call, alike_loop}
use Rattle.safl_reshape.proofs.Altered.{Alteration, altered, altered_all, altered_bound}
use Rattle.safl_reshape.proofs.Moves.{MovedIn, AllMovedIn, CallsMove, have_count}
use Rattle.safl_reshape.proofs.Sites.{Sites}
use Rattle.safl_reshape.proofs.Lookups.{NamesDiffer, IsCallee, is_callee, callee_above}

module _ (C : Program) (same : ℕ → ℕ → Type 0) (at : ℕ → Bool) (b : Known) (pre : List Slot) where
  pub stays_member : (s : List Slot) (n : ℕ) (end : Bool) (from p : ℕ) (y : List ℕ) (fs : Expressions) (i j : ℕ) (g : Head) (ws : List ℕ) (us : Terms) (w : ℕ)
      → callee b y ≡ Member j g → end ≡ true → ws ≡ widths_of g.params → g.width ≡ w → same i j → count us ≡ arity C i
      → AllMovedIn C same at b pre s n from fs ws us → MovedIn C same at b pre s n end from (Call p y fs) w (Loop i us)
  stays_member s n end from p y fs i j g ws us w cal e1 ew eg sm ar r =
      (r.0, Loop j r.1, (from, ws, r.1, r.2, subst (λ (c : Callee). Calls c end from from ws r.1 w (Loop j r.1)) (sym cal) (e1, refl, ew, eg, refl)), alike_loop sm ar r.3)

  pub stays_above : (s : List Slot) (n : ℕ) (end : Bool) (from p : ℕ) (y : List ℕ) (fs : Expressions) (i j lo : ℕ) (g : Head) (ws : List ℕ) (us : Terms) (w : ℕ)
      → callee b y ≡ Above j g → ws ≡ widths_of g.params → g.width ≡ w → at lo ≡ false → same i j → count us ≡ arity C i
      → AllMovedIn C same at b pre s n (suc from) fs ws us → MovedIn C same at b pre s n end from (Call p y fs) w (terms.Call i lo us)
  stays_above s n end from p y fs i j lo g ws us w cal ew eg off sm ar r = (
    r.0,
    terms.Call j from r.1,
    (
      suc from,
      ws,
      r.1,
      r.2,
      subst (λ (c : Callee). Calls c end from (suc from) ws r.1 w (terms.Call j from r.1))
          (sym cal) (refl, ew, eg, refl),
    ),
    alike_call off sm ar r.3,
  )

-- the program's functions have as many parameters as the heads say, and names differ
pub record IsProgramOf (C : Program) (all : List Head) : Type 0 where
  pub differ : NamesDiffer all
  pub arities : (i : ℕ) (h : Head) → slice_get all i ≡ Some h → length (widths_of h.params) ≡ arity C i

abbrev pub sees : List Head → ℕ → Known
sees all u = record { heads = all; unit = u }

-- ---- nothing is changed

abbrev pub unchanged : Alteration
unchanged f lo p x es = Call p x es

mutual
  pub unchanged_same : (k : Known) (lo : ℕ) (e : Expression) → altered k unchanged lo e ≡ e
  unchanged_same k lo (Number p n) = refl
  unchanged_same k lo (Sized p w n) = refl
  unchanged_same k lo (Variable p x) = refl
  unchanged_same k lo (If p c x y) = cc (unchanged_same k lo c, unchanged_same k (lo + sites k c) x, unchanged_same k (lo + sites k c + sites k x) y)
  unchanged_same k lo (Let p bs y) = cc (unchanged_bound k lo bs, unchanged_same k (lo + sites_bound k bs) y)
  unchanged_same k lo (Op p o es) = cc (unchanged_all k lo es)
  unchanged_same k lo (Call p x es) = cc (unchanged_all k (lo + is_site (callee k x)) es)

  pub unchanged_all : (k : Known) (lo : ℕ) (es : Expressions) → altered_all k unchanged lo es ≡ es
  unchanged_all k lo no_expression = refl
  unchanged_all k lo (an_expression e es) = cc (unchanged_same k lo e, unchanged_all k (lo + sites k e) es)

  pub unchanged_bound : (k : Known) (lo : ℕ) (bs : Bindings) → altered_bound k unchanged lo bs ≡ bs
  unchanged_bound k lo no_binding = refl
  unchanged_bound k lo (a_binding p x w e bs) = cc (unchanged_same k lo e, unchanged_bound k (lo + sites k e) bs)

abbrev pub is_same : ℕ → ℕ → Type 0
is_same i j = i ≡ j

abbrev pub any_tail : Bool → Bool → Type 0
any_tail tail end = Unit {0}

true_false : {A : Type 0} → true ≡ false → A
true_false e = absurd cc

-- a body without own calls keeps its calls in a later group, whose sites are not unfolded
pub inner_move : (C : Program) (at : ℕ → Bool) (all : List Head) (u v : ℕ) (pre : List Slot) → IsProgramOf C all → u < v
    → CallsMove C is_same at (sees all u) (sees all v) unchanged pre any_tail is_member (λ j f. at j ≡ false)
inner_move C at all u v pre is lt = λ s n tail end p x es fs lo m hi ws us w t nm off may l hs q args first f from.
    by s n tail end p x es fs lo m hi ws us w t from (callee (sees all u) x) (is_callee (sees all u) x) nm off hs q args
  where
    by : (s : List Slot) (n : ℕ) (tail end : Bool) (p : ℕ) (x : List ℕ) (es fs : Expressions) (lo m hi : ℕ) (ws : List ℕ) (us : Terms) (w : ℕ)
        (t : Term) (from : ℕ) (c : Callee) → IsCallee (sees all u) x c → is_member c ≡ false → Sites (λ j f. at j ≡ false) t
        → HaveAll (sees all u) s m hi es ws us → Calls c tail lo m ws us w t → ((z : ℕ) → AllMovedIn C is_same at (sees all v) pre s n z fs ws us) →
        MovedIn C is_same at (sees all v) pre s n end from (Call p x fs) w t
    by s n tail end p x es fs lo m hi ws us w t from (Member i h) ic nm off hs q args = true_false nm
    by s n tail end p x es fs lo m hi ws us w t from (Above i h) ic nm off hs q args =
        let cal = callee_above (sees all v) x i h is.differ ic.0.head ic.0.name (omega (arith, ic.1, lt)) in
        let ar = have_count _ s m hi es ws us hs ∙ (ap (λ (z : List ℕ). length z) q.1 ∙ is.arities i h ic.0.head) in
        let o = (subst (λ (z : Term). Sites (λ j f. at j ≡ false) z) q.3 off).0 in
        subst (λ (z : Term). MovedIn C is_same at (sees all v) pre s n end from (Call p x fs) w z) (sym q.3)
        (stays_above C is_same at (sees all v) pre s n end from p x fs i i lo h ws us w cal q.1 q.2 o refl ar (args (suc from)))
    by s n tail end p x es fs lo m hi ws us w t from Unknown ic nm off hs q args = absurd q
