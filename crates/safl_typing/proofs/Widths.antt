-- A term has the width that its expression has.
use Rattle.safl_typing.proofs.Common.{Arms, Binds, Primitive, Program, Tree, Trees, bytes_eq, same_Some}
use Rattle.std.proofs.Common.{◌≡◌, ℕ, suc, ◌+◌, ◌<◌, List, [], ◌∷◌, ◌++◌, length, Option, Some, None, Bool, true, false, cond, refl, sym, ap, ◌∙◌, subst, arith}
use Rattle.std.specs.Prelude.{slice_get, ◌==◌, nat_lt, ◌&&◌}
use Rattle.std.proofs.lemmas.Bool.{eq-eqb, eqb-true, ltb-true}
use Rattle.std.specs.Cmp.{first_so}
use Rattle.safl_word.specs.declared.primitive.Primitive.TheVariants.{Add, Sub, Mul, And, Or, Xor, Not, Eq, Ne, Lt, Le, Gt, Ge, Shl, Shr, Cat, Bits, Ext}
use Rattle.safl_word.specs.Primitives.{is_width, result_width, equal_widths, compared_widths, one_width, two_widths}
use Rattle.safl_word.proofs.Widths.{within}
use Rattle.safl_term.specs.Terms.{Term, Terms}
use Rattle.safl_term.specs.WellFormed.{HasWidth, HaveWidths}
use Rattle.safl_tree.specs.Tree as source
use Rattle.safl_tree.specs.Printable as printable
use Rattle.safl_tree.specs.Printable.{operands, IsLabel, IsFormed, AreFormed, AreFormedBinds, AreFormedArms}
use Rattle.safl_typing.specs.Rewriting.{Expression, Number, Sized, Variable, If, Let, Op, Call, Expressions, no_expression, an_expression, Bindings}
use Rattle.safl_typing.specs.Rewriting.{no_binding, a_binding, shape, count, rewritten, rewritten_all, rewritten_binds, rewritten_arms}
use Rattle.safl_typing.specs.Heads.{Slot, Head, Known, Numbered, first_head, Callee, Member, Above, Unknown, member_or, callee}
use Rattle.std.specs.Option.{option_or as later}
use Rattle.safl_typing.specs.Typing.{At, innermost, widths_of, slots, AreAll, Shifts, Suits, Calls, Has, HaveAll, HaveBound}
use Rattle.safl_typing.specs.Ranges.{IsWide, AreWide, WideSlots, WideHeads}
use Rattle.safl_typing.proofs.Wide.{WideCallee, table_wide, wide_append, wide_slots, innermost_wide, callee_wide}
use Rattle.safl_typing.proofs.Complete.{have_many, many_length}

-- ---- operators have their operands

abbrev mutual
  pub IsFull : Expression → Type 0
  IsFull (Number p n) = Unit {0}
  IsFull (Sized p w n) = Unit {0}
  IsFull (Variable p x) = Unit {0}
  IsFull (If p c a b) = IsFull c × IsFull a × IsFull b
  IsFull (Let p bs b) = BoundFull bs × IsFull b
  IsFull (Op p o es) = (count es ≡ operands o) × AreFull es
  IsFull (Call p f es) = AreFull es

  pub AreFull : Expressions → Type 0
  AreFull no_expression = Unit {0}
  AreFull (an_expression e es) = IsFull e × AreFull es

  pub BoundFull : Bindings → Type 0
  BoundFull no_binding = Unit {0}
  BoundFull (a_binding p x w e bs) = IsFull e × BoundFull bs

count_same : (ts : Trees) → count (rewritten_all ts) ≡ printable.count ts
count_same source.no_tree = refl
count_same (source.a_tree t ts) = ap (λ (n : ℕ). 1 + n) (count_same ts)

label_full : (l : Tree) → IsLabel l → IsFull (rewritten l)
label_full (source.Number p n) h = tt
label_full (source.Sized p w n) h = tt
label_full (source.Variable p x) h = absurd h
label_full (source.If p c a b) h = absurd h
label_full (source.Let p bs t) h = absurd h
label_full (source.Cases p e arms) h = absurd h
label_full (source.Op p o ts) h = absurd h
label_full (source.Call p f ts) h = absurd h

mutual
  pub formed_full : (t : Tree) → IsFormed t → IsFull (rewritten t)
  formed_full (source.Number p n) h = tt
  formed_full (source.Sized p w n) h = tt
  formed_full (source.Variable p x) h = tt
  formed_full (source.If p c a b) h = (formed_full c h.0, formed_full a h.1, formed_full b h.2)
  formed_full (source.Let p bs t) h = (binds_full bs h.1, formed_full t h.2)
  formed_full (source.Cases p e arms) h = ((formed_full e h.0, tt), arms_full p arms h.1)
  formed_full (source.Op p o ts) h = (count_same ts ∙ h.0, all_full ts h.2)
  formed_full (source.Call p f ts) h = all_full ts h.1

  all_full : (ts : Trees) → AreFormed ts → AreFull (rewritten_all ts)
  all_full source.no_tree h = tt
  all_full (source.a_tree t ts) h = (formed_full t h.0, all_full ts h.1)

  binds_full : (bs : Binds) → AreFormedBinds bs → BoundFull (rewritten_binds bs)
  binds_full source.no_bind h = tt
  binds_full (source.a_bind p x w t bs) h = (formed_full t h.2, binds_full bs h.3)

  arms_full : (p : ℕ) (arms : Arms) → AreFormedArms arms → IsFull (rewritten_arms p arms)
  arms_full p (source.default_arm t) h = formed_full t h
  arms_full p (source.an_arm l t arms) h = ((refl, (tt, (label_full l h.0, tt))), formed_full t h.1, arms_full p arms h.2)

-- ---- the table

row_test : (a b : ℕ) → IsWide a → IsWide b → (is_width a && is_width b) ≡ true
row_test a b h k = rw (within a h.some h.bounded, within b k.some k.bounded) refl

two_alike : (ws : List ℕ) (w : ℕ) → length ws ≡ 2 → AreWide ws → AreAll w ws → equal_widths ws ≡ Some w
two_alike [] w l wide h = absurd (omega (arith, l))
two_alike (a ∷ []) w l wide h = absurd (omega (arith, l))
two_alike (a ∷ (b ∷ [])) w l wide h = rw (row_test a b wide.0 wide.1.0, eq-eqb a b (h.0 ∙ sym h.1.0)) (ap (λ (n : ℕ). Some n) h.0)
two_alike (a ∷ (b ∷ (c ∷ ws))) w l wide h = absurd (omega (arith, l))

two_compared : (ws : List ℕ) (u : ℕ) → length ws ≡ 2 → AreWide ws → AreAll u ws → compared_widths ws ≡ Some 1
two_compared [] w l wide h = absurd (omega (arith, l))
two_compared (a ∷ []) w l wide h = absurd (omega (arith, l))
two_compared (a ∷ (b ∷ [])) w l wide h = rw (row_test a b wide.0 wide.1.0, eq-eqb a b (h.0 ∙ sym h.1.0)) refl
two_compared (a ∷ (b ∷ (c ∷ ws))) w l wide h = absurd (omega (arith, l))

one_alike : (ws : List ℕ) (w : ℕ) → length ws ≡ 1 → AreWide ws → AreAll w ws → one_width (λ n. Some n) ws ≡ Some w
one_alike [] w l wide h = absurd (omega (arith, l))
one_alike (a ∷ []) w l wide h = rw (within a wide.0.some wide.0.bounded) (ap (λ (n : ℕ). Some n) h.0)
one_alike (a ∷ (b ∷ ws)) w l wide h = absurd (omega (arith, l))

two_shift : (es : Expressions) (ws : List ℕ) (w : ℕ) → length ws ≡ 2 → AreWide ws → Shifts w es ws → two_widths (λ w v. Some w) ws ≡ Some w
two_shift no_expression ws w l wide h = absurd h
two_shift (an_expression e es) [] w l wide h = absurd h
two_shift (an_expression e es) (a ∷ []) w l wide h = absurd (omega (arith, l))
two_shift (an_expression e es) (a ∷ (b ∷ [])) w l wide h = rw (row_test a b wide.0 wide.1.0) (ap (λ (n : ℕ). Some n) h.1)
two_shift (an_expression e es) (a ∷ (b ∷ (c ∷ ws))) w l wide h = absurd (omega (arith, l))

compared_is : (ws : List ℕ) (u w : ℕ) → w ≡ 1 → length ws ≡ 2 → AreWide ws → AreAll u ws → compared_widths ws ≡ Some w
compared_is ws u w e l wide h = two_compared ws u l wide h ∙ ap (λ (n : ℕ). Some n) (sym e)

-- operands that suit the operator have a row of the table
pub suits_row : (o : Primitive) (es : Expressions) (ws : List ℕ) (w : ℕ) → Suits (shape o) o es ws w → length ws ≡ operands o → AreWide ws → result_width o ws ≡ Some w
suits_row Add es ws w h l wide = two_alike ws w l wide h
suits_row Sub es ws w h l wide = two_alike ws w l wide h
suits_row Mul es ws w h l wide = two_alike ws w l wide h
suits_row And es ws w h l wide = two_alike ws w l wide h
suits_row Or es ws w h l wide = two_alike ws w l wide h
suits_row Xor es ws w h l wide = two_alike ws w l wide h
suits_row Not es ws w h l wide = one_alike ws w l wide h
suits_row Eq es ws w h l wide = compared_is ws h.1 w h.0 l wide h.2
suits_row Ne es ws w h l wide = compared_is ws h.1 w h.0 l wide h.2
suits_row Lt es ws w h l wide = compared_is ws h.1 w h.0 l wide h.2
suits_row Le es ws w h l wide = compared_is ws h.1 w h.0 l wide h.2
suits_row Gt es ws w h l wide = compared_is ws h.1 w h.0 l wide h.2
suits_row Ge es ws w h l wide = compared_is ws h.1 w h.0 l wide h.2
suits_row Shl es ws w h l wide = two_shift es ws w l wide h
suits_row Shr es ws w h l wide = two_shift es ws w l wide h
suits_row Cat es ws w h l wide = h.1
suits_row (Bits high low) es ws w h l wide = h.1
suits_row (Ext n) es ws w h l wide = h.1

-- ---- widths in range

called_wide : (c : Callee) (tail : Bool) (lo m : ℕ) (ws : List ℕ) (us : Terms) (w : ℕ) (t : Term) → WideCallee c → Calls c tail lo m ws us w t → IsWide w
called_wide (Member i h) tail lo m ws us w t wide q = subst IsWide q.3 wide.width
called_wide (Above i h) tail lo m ws us w t wide q = subst IsWide q.2 wide.width
called_wide Unknown tail lo m ws us w t wide q = absurd q

mutual
  pub has_wide : (k : Known) (s : List Slot) (tail : Bool) (lo hi : ℕ) (e : Expression) (w : ℕ) (t : Term) → WideHeads k.heads → WideSlots s → IsFull e → Has k s tail lo hi e w t → IsWide w
  has_wide k s tail lo hi (Number p n) w t wh ws full h = record { some = h.1.some; bounded = h.1.bounded }
  has_wide k s tail lo hi (Sized p v n) w t wh ws full h = subst IsWide h.1 (record { some = h.2.some; bounded = h.2.bounded })
  has_wide k s tail lo hi (Variable p x) w t wh ws full (l, i, e, q) = innermost_wide x 0 s _ ws e
  has_wide k s tail lo hi (If p c a b) w t wh ws full (m, n, x, y, z, hc, ha, hb, q) = has_wide k s tail m n a w y wh ws full.1 ha
  has_wide k s tail lo hi (Let p bs b) w t wh ws full (m, vs, us, y, d, hs, hb, q) =
      has_wide k (s ++ slots bs vs) tail m hi b w y wh (wide_append s (slots bs vs) ws (wide_slots bs vs (bound_wide k s lo m bs vs us wh ws full.0 hs))) full.1 hb
  has_wide k s tail lo hi (Op p o es) w t wh ws full (vs, us, hs, su, q) =
      let wide = have_wide k s lo hi es vs us wh ws full.1 hs in
      table_wide o vs w wide (suits_row o es vs w su (sym (many_length es vs (have_many k s lo hi es vs us hs)) ∙ full.0) wide)
  has_wide k s tail lo hi (Call p f es) w t wh ws full (m, vs, us, hs, q) = called_wide (callee k f) tail lo m vs us w t (callee_wide k f wh) q

  pub have_wide : (k : Known) (s : List Slot) (lo hi : ℕ) (es : Expressions) (vs : List ℕ) (us : Terms) → WideHeads k.heads → WideSlots s → AreFull es → HaveAll k s lo hi es vs us → AreWide vs
  have_wide k s lo hi no_expression [] us wh ws full h = tt
  have_wide k s lo hi no_expression (w ∷ vs) us wh ws full h = absurd h
  have_wide k s lo hi (an_expression e es) [] us wh ws full h = absurd h
  have_wide k s lo hi (an_expression e es) (w ∷ vs) us wh ws full (m, t, ts, he, hs, q) = (has_wide k s _ lo m e w t wh ws full.0 he, have_wide k s m hi es vs ts wh ws full.1 hs)

  pub bound_wide : (k : Known) (s : List Slot) (lo hi : ℕ) (bs : Bindings) (vs : List ℕ) (us : Terms) → WideHeads k.heads → WideSlots s → BoundFull bs → HaveBound k s lo hi bs vs us → AreWide vs
  bound_wide k s lo hi no_binding [] us wh ws full h = tt
  bound_wide k s lo hi no_binding (w ∷ vs) us wh ws full h = absurd h
  bound_wide k s lo hi (a_binding p x v e bs) [] us wh ws full h = absurd h
  bound_wide k s lo hi (a_binding p x v e bs) (w ∷ vs) us wh ws full (m, t, ts, keeps, he, hs, q) = (has_wide k s _ lo m e w t wh ws full.0 he, bound_wide k s m hi bs vs ts wh ws full.1 hs)

-- ---- variables and callees

pub record IsSlotOf (s : List Slot) (n : ℕ) (a : At) : Type 0 where
  pub place : ℕ
  pub slot : a.slot ≡ n + place
  pub width : slice_get (widths_of s) place ≡ Some a.width

later_at : (a b : Option At) (c : At) (P : Type 0) → later a b ≡ Some c → (a ≡ Some c → P) → (b ≡ Some c → P) → P
later_at (Some a) b c P e f g = f e
later_at None b c P e f g = g e

here_at : (b : Bool) (x a : At) → cond b (Some x) None ≡ Some a → x ≡ a
here_at true x a e = same_Some x a e
here_at false x a e = absurd cc

pub innermost_at : (x : List ℕ) (n : ℕ) (s : List Slot) (a : At) → innermost x n s ≡ Some a → IsSlotOf s n a
innermost_at x n [] a e = absurd cc
innermost_at x n (v ∷ vs) a e = later_at (innermost x (suc n) vs) _ a (IsSlotOf (v ∷ vs) n a) e
    (λ q. let r = innermost_at x (suc n) vs a q in record { place = suc r.place; slot = omega (arith, r.slot); width = r.width })
    (λ q. let r = here_at (bytes_eq v.name x) (record { slot = n; width = v.width }) a q in record
    { place = 0; slot = omega (arith, sym (ap (λ (z : At). z.slot) r)); width = ap (λ (z : At). Some z.width) r })

-- a head that passes the test stands at its number
pub record IsHeadAt (test : Head → Bool) (n : ℕ) (hs : List Head) (m : Numbered) : Type 0 where
  pub place : ℕ
  pub number : m.number ≡ n + place
  pub head : slice_get hs place ≡ Some m.head
  pub passes : test m.head ≡ true

first_here : (b : Bool) (x m : Numbered) (rest : Option Numbered) (P : Type 0) → cond b (Some x) rest ≡ Some m → ((b ≡ true) × (x ≡ m) → P) → (rest ≡ Some m → P) → P
first_here true x m rest P e f g = f (refl, same_Some x m e)
first_here false x m rest P e f g = g e

pub first_at : (test : Head → Bool) (n : ℕ) (hs : List Head) (m : Numbered) → first_head test n hs ≡ Some m → IsHeadAt test n hs m
first_at test n [] m e = absurd cc
first_at test n (h ∷ hs) m e = first_here (test h) (record { number = n; head = h }) m _ (IsHeadAt test n (h ∷ hs) m) e
    (λ q. record {
      place = 0;
      number = omega (arith, sym (ap (λ (z : Numbered). z.number) q.1));
      head = ap (λ (z : Numbered). Some z.head) q.1;
      passes
          = subst (λ (z : Head). test z ≡ true) (ap (λ (z : Numbered). z.head) q.1) q.0;
    })
    (λ q. let r = first_at test (suc n) hs m q in record { place = suc r.place; number = omega (arith, r.number); head = r.head; passes = r.passes })

-- a callee stands among the heads at its number, in the own group or in an earlier one
abbrev pub CalleeAt : Known → Callee → Type 0
CalleeAt k (Member i h) = (slice_get k.heads i ≡ Some h) × (h.unit ≡ k.unit)
CalleeAt k (Above i h) = (slice_get k.heads i ≡ Some h) × (h.unit < k.unit)
CalleeAt k Unknown = Unit {0}

member_at : (k : Known) (a b : Option Numbered)
    → ((m : Numbered) → a ≡ Some m → (slice_get k.heads m.number ≡ Some m.head) × (m.head.unit ≡ k.unit))
    → ((m : Numbered) → b ≡ Some m → (slice_get k.heads m.number ≡ Some m.head) × (m.head.unit < k.unit))
    → CalleeAt k (member_or a b)
member_at k (Some m) b f g = f m refl
member_at k None (Some m) f g = g m refl
member_at k None None f g = tt

number_is : (test : Head → Bool) (hs : List Head) (m : Numbered) → IsHeadAt test 0 hs m → slice_get hs m.number ≡ Some m.head
number_is test hs m h = subst (λ (i : ℕ). slice_get hs i ≡ Some m.head) (omega (arith, h.number)) h.head

pub callee_at : (k : Known) (f : List ℕ) → CalleeAt k (callee k f)
callee_at k f = member_at k _ _
    (λ m e. let r = first_at (λ (h : Head). h.unit == k.unit && bytes_eq h.name f) 0 k.heads m e in (number_is _ k.heads m r, eqb-true m.head.unit k.unit (first_so _ _ r.passes)))
    (λ m e. let r = first_at (λ (h : Head). nat_lt h.unit k.unit && bytes_eq h.name f) 0 k.heads m e in (number_is _ k.heads m r, ltb-true m.head.unit k.unit (first_so _ _ r.passes)))

-- ---- terms

-- the program's functions have these heads
pub record IsOfHead (C : Program) (i : ℕ) (h : Head) : Type 0 where
  pub inside : i < C.functions
  pub params : C.params i ≡ widths_of h.params
  pub result : C.result i ≡ h.width
  pub unit : C.unit i ≡ h.unit

abbrev pub Agrees : Program → List Head → Type 0
Agrees C hs = (i : ℕ) (h : Head) → slice_get hs i ≡ Some h → IsOfHead C i h

widths_append : (a b : List Slot) → widths_of (a ++ b) ≡ widths_of a ++ widths_of b
widths_append [] b = refl
widths_append (v ∷ vs) b = ap (λ l. v.width ∷ l) (widths_append vs b)

widths_back : (k : Known) (s : List Slot) (lo hi : ℕ) (bs : Bindings) (ws : List ℕ) (us : Terms) → HaveBound k s lo hi bs ws us → widths_of (slots bs ws) ≡ ws
widths_back k s lo hi no_binding [] us h = refl
widths_back k s lo hi no_binding (w ∷ ws) us h = absurd h
widths_back k s lo hi (a_binding p x v e bs) [] us h = absurd h
widths_back k s lo hi (a_binding p x v e bs) (w ∷ ws) us (m, t, ts, keeps, he, hs, q) = ap (λ l. w ∷ l) (widths_back k s m hi bs ws ts hs)

called_width : (C : Program) (k : Known) (c : Callee) (slots : List ℕ) (tail : Bool) (lo m : ℕ) (ws : List ℕ) (us : Terms) (w : ℕ) (t : Term) → Agrees
    C k.heads → CalleeAt k c → Calls c tail lo m ws us w t → HaveWidths C slots us ws → HasWidth C slots t w
called_width C k (Member i h) slots tail lo m ws us w t ag at q hs =
    let g = ag i h at.0 in
    subst (λ (z : Term). HasWidth C slots z w) (sym q.4) (subst (λ (z : List ℕ). HaveWidths C slots us z) (q.2 ∙ sym g.params) hs, g.result ∙ q.3, g.inside)
called_width C k (Above i h) slots tail lo m ws us w t ag at q hs =
    let g = ag i h at.0 in
    subst (λ (z : Term). HasWidth C slots z w) (sym q.3) (subst (λ (z : List ℕ). HaveWidths C slots us z) (q.1 ∙ sym g.params) hs, g.result ∙ q.2, g.inside)
called_width C k Unknown slots tail lo m ws us w t ag at q hs = absurd q

mutual
  pub has_width : (C : Program) (k : Known) (s : List Slot) (tail : Bool) (lo hi : ℕ) (e : Expression) (w : ℕ) (t : Term) → Agrees C k.heads →
      WideHeads k.heads → WideSlots s → IsFull e → Has k s tail lo hi e w t → HasWidth C (widths_of s) t w
  has_width C k s tail lo hi (Number p n) w t ag wh wide full h = subst (λ (z : Term). HasWidth C (widths_of s) z w) (sym h.2) (h.1, refl)
  has_width C k s tail lo hi (Sized p v n) w t ag wh wide full h = subst (λ (z : Term). HasWidth C (widths_of s) z w) (sym h.3) (h.2, h.1)
  has_width C k s tail lo hi (Variable p x) w t ag wh wide full (l, i, e, q) =
      let r = innermost_at x 0 s _ e in
      subst (λ (z : Term). HasWidth C (widths_of s) z w) (sym q) (subst (λ (z : ℕ). slice_get (widths_of s) z ≡ Some w) (omega (arith, r.slot)) r.width)
  has_width C k s tail lo hi (If p c a b) w t ag wh wide full (m, n, x, y, z, hc, ha, hb, q) =
      subst (λ (u : Term). HasWidth C (widths_of s) u w) (sym q)
      (has_width C k s _ lo m c 1 x ag wh wide full.0 hc, has_width C k s tail m n a w y ag wh wide full.1 ha, has_width C k s tail n hi b w z ag wh wide full.2 hb)
  has_width C k s tail lo hi (Let p bs b) w t ag wh wide full (m, ws, us, y, d, hs, hb, q) =
      subst (λ (u : Term). HasWidth C (widths_of s) u w) (sym q) (
        ws,
        bound_widths C k s lo m bs ws us ag wh wide full.0 hs,
        subst (λ (l : List ℕ). HasWidth C l y w) (widths_append s (slots bs ws) ∙ ap (λ (l : List ℕ). widths_of s ++ l)
            (widths_back k s lo m bs ws us hs)) (has_width C k (s ++ slots bs ws) tail m hi b w y ag wh
            (wide_append s (slots bs ws) wide (wide_slots bs ws (bound_wide k s lo m bs ws us wh wide full.0 hs))) full.1 hb),
      )
  has_width C k s tail lo hi (Op p o es) w t ag wh wide full (ws, us, hs, su, q) =
      subst (λ (u : Term). HasWidth C (widths_of s) u w) (sym q) (
        ws,
        have_widths C k s lo hi es ws us ag wh wide full.1 hs,
        suits_row o es ws w su
            (sym (many_length es ws (have_many k s lo hi es ws us hs)) ∙ full.0) (have_wide k s lo hi es ws us wh wide full.1 hs),
      )
  has_width C k s tail lo hi (Call p f es) w t ag wh wide full (m, ws, us, hs, q) =
      called_width C k (callee k f) (widths_of s) tail lo m ws us w t ag (callee_at k f) q (have_widths C k s m hi es ws us ag wh wide full hs)

  pub have_widths : (C : Program) (k : Known) (s : List Slot) (lo hi : ℕ) (es : Expressions) (ws : List ℕ) (us : Terms) → Agrees C k.heads → WideHeads
      k.heads → WideSlots s → AreFull es → HaveAll k s lo hi es ws us → HaveWidths C (widths_of s) us ws
  have_widths C k s lo hi no_expression [] us ag wh wide full h = subst (λ (z : Terms). HaveWidths C (widths_of s) z []) (sym h.1) tt
  have_widths C k s lo hi no_expression (w ∷ ws) us ag wh wide full h = absurd h
  have_widths C k s lo hi (an_expression e es) [] us ag wh wide full h = absurd h
  have_widths C k s lo hi (an_expression e es) (w ∷ ws) us ag wh wide full (m, t, ts, he, hs, q) =
      subst (λ (z : Terms). HaveWidths C (widths_of s) z (w ∷ ws)) (sym q) (has_width C k s _ lo m e w t ag wh wide full.0 he, have_widths C k s m hi es ws ts ag wh wide full.1 hs)

  pub bound_widths : (C : Program) (k : Known) (s : List Slot) (lo hi : ℕ) (bs : Bindings) (ws : List ℕ) (us : Terms) → Agrees C k.heads → WideHeads
      k.heads → WideSlots s → BoundFull bs → HaveBound k s lo hi bs ws us → HaveWidths C (widths_of s) us ws
  bound_widths C k s lo hi no_binding [] us ag wh wide full h = subst (λ (z : Terms). HaveWidths C (widths_of s) z []) (sym h.1) tt
  bound_widths C k s lo hi no_binding (w ∷ ws) us ag wh wide full h = absurd h
  bound_widths C k s lo hi (a_binding p x v e bs) [] us ag wh wide full h = absurd h
  bound_widths C k s lo hi (a_binding p x v e bs) (w ∷ ws) us ag wh wide full (m, t, ts, keeps, he, hs, q) =
      subst (λ (z : Terms). HaveWidths C (widths_of s) z (w ∷ ws)) (sym q) (has_width C k s _ lo m e w t ag wh wide full.0 he, bound_widths C k s m hi bs ws ts ag wh wide full.1 hs)
