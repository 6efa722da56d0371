-- What has a width and a term is given them by the walk.
use Rattle.safl_typing.proofs.Common.{Fault, Primitive}
use Rattle.std.proofs.Common.{◌≡◌, ℕ, suc, ◌+◌, ◌<◌, ◌^◌, List, [], ◌∷◌, ◌++◌, length, Option, Some, None, Bool, true, false, refl, sym, ap, ◌∙◌, subst, inl, inr, ◌⊎◌, arith}
use Rattle.std.specs.Prelude.{Result, Ok, ◌&&◌, cond}
use Rattle.std.proofs.lemmas.Bool.{eq-eqb, lt-ltb}
use Rattle.safl_term.specs.Terms as terms
use Rattle.safl_term.specs.Terms.{Term, Const, Var, Loop, Terms, Cons}
use Rattle.safl_typing.specs.Rewriting.{Expression, Number, Sized, Variable, If, Let, Op, Call, Expressions, no_expression, an_expression, Bindings}
use Rattle.safl_typing.specs.Rewriting.{no_binding, a_binding, Shape, Alike, Comparing, Shifting, Resizing, shape, takes_width, flexible}
use Rattle.safl_typing.specs.Rewriting.{all_flexible, count}
use Rattle.safl_typing.specs.Heads.{Slot, Head, Known, Callee, Member, Above, Unknown, callee, sites, sites_bound}
use Rattle.safl_typing.specs.Typing.{At, word, widths_of, slots, KeepsWritten, AreAll, AllRigid, RigidOr, Shifts, Suits, Calls, Has, HaveAll, HaveBound}
use Rattle.safl_typing.specs.Walk.{after, unless, needs, Typed, TypedAlike, TypedAll, Wanted, Any, Exactly, is_any, is_known, wanted_by, settle}
use Rattle.safl_typing.specs.Walk.{check_number, sized, variable, branches, alike, operated, arguments, called, all_any, amounts, exactly, check, check_all}
use Rattle.safl_typing.specs.Walk.{check_alike, check_shift, check_bound}
use Rattle.safl_typing.proofs.Counts.{has_sites, have_sites_bound}
use Rattle.safl_typing.proofs.Names.{bound_differ}

abbrev pub typed : ℕ → Term → Typed
typed w t = record { width = w; term = t }

abbrev pub typed_all : List ℕ → Terms → TypedAll
typed_all ws us = record { widths = ws; terms = us }

abbrev pub typed_alike : ℕ → Terms → TypedAlike
typed_alike w us = record { width = w; terms = us }

-- the width is found of what is rigid, and is the expected one
abbrev pub Met : Wanted → Bool → ℕ → Type 0
Met Any is_flexible w = is_flexible ≡ false
Met (Exactly v) is_flexible w = v ≡ w

abbrev pub MetAll : List Wanted → Expressions → List ℕ → Type 0
MetAll ms no_expression ws = Unit {0}
MetAll [] (an_expression e es) ws = ⊥
MetAll (m ∷ ms) (an_expression e es) [] = ⊥
MetAll (m ∷ ms) (an_expression e es) (w ∷ ws) = Met m (flexible e) w × MetAll ms es ws

pub after_gives : {A B : Type 0} (r : Result A Fault) (rest : A → Result B Fault) (a : A) (b : Result B Fault) → r ≡ Ok a → rest a ≡ b → after r rest ≡ b
after_gives r rest a b p q = rw p q

pub unless_gives : {A : Type 0} (o : Option Fault) (r b : Result A Fault) → o ≡ None → r ≡ b → unless o r ≡ b
unless_gives o r b p q = rw p q

pub needs_gives : (b : Bool) (f : Fault) → b ≡ true → needs b f ≡ None
needs_gives b f p = rw p refl

known_met : (m : Wanted) (b : Bool) (w : ℕ) → Met m b w → is_known m b ≡ true
known_met Any b w e = rw e refl
known_met (Exactly v) b w e = refl

settle_met : (p : ℕ) (m : Wanted) (b : Bool) (v w : ℕ) (t u : Term) → Met m b w → v ≡ w → t ≡ u → settle p m v t ≡ Ok (typed w u)
settle_met p Any b v w t u h e q = cc
settle_met p (Exactly x) b v w t u h e q = rw (eq-eqb x v (h ∙ sym e)) cc

number_met : (p n : ℕ) (m : Wanted) (w : ℕ) (t : Term) → Met m true w → n < 2 ^ w → t ≡ Const (word w n) → check_number p n m ≡ Ok (typed w t)
number_met p n Any w t h lt q = absurd cc
number_met p n (Exactly v) w t h lt q = subst (λ (x : ℕ). check_number p n (Exactly x) ≡ Ok (typed w t)) (sym h) (rw (lt-ltb n (2 ^ w) lt) cc)

sized_met : (p v n : ℕ) (m : Wanted) (w : ℕ) (t : Term) → Met m false w → v ≡ w → n < 2 ^ v → t ≡ Const (word v n) → sized p v n m ≡ Ok (typed w t)
sized_met p v n m w t h e lt q = rw (lt-ltb n (2 ^ v) lt) (settle_met p m false v w (Const (word v n)) t h e (sym q))

variable_met : (p : ℕ) (m : Wanted) (o : Option At) (i w : ℕ) (t : Term) → Met m false w → o ≡ Some (record { slot = i; width = w }) → t ≡ Var i → variable p m o ≡ Ok (typed w t)
variable_met p m o i w t h e q = rw e (settle_met p m false w w (Var i) t h refl (sym q))

branches_met : (m : Wanted) (fa fb : Bool) (w : ℕ) (first second : Wanted → Result Typed Fault) (x y z : Term) → Met m (fa && fb) w
    → ((v : Wanted) → Met v fa w → first v ≡ Ok (typed w y)) → ((v : Wanted) → Met v fb w → second v ≡ Ok (typed w z))
    → branches (is_any m && fa) m first second x ≡ Ok (typed w (terms.If x y z))
branches_met Any true fb w first second x y z h f g = after_gives _ _ (typed w z) _ (g Any h) (after_gives _ _ (typed w y) _ (f (Exactly w) refl) refl)
branches_met Any false fb w first second x y z h f g = after_gives _ _ (typed w y) _ (f Any refl) (after_gives _ _ (typed w z) _ (g (Exactly w) refl) refl)
branches_met (Exactly v) fa fb w first second x y z h f g = after_gives _ _ (typed w y) _ (f (Exactly v) h) (after_gives _ _ (typed w z) _ (g (Exactly w) refl) refl)

alike_met : (m : Wanted) (fe fs : Bool) (w : ℕ) (first : Wanted → Result Typed Fault) (others : Wanted → Result TypedAlike Fault) (x : Term) (us : Terms) → Met m (fe && fs) w
    → ((v : Wanted) → Met v fe w → first v ≡ Ok (typed w x)) → ((v : Wanted) → Met v fs w → others v ≡ Ok (typed_alike w us))
    → alike (is_any m && fe) m first others ≡ Ok (typed_alike w (Cons x us))
alike_met Any true fs w first others x us h f g = after_gives _ _ (typed_alike w us) _ (g Any h) (after_gives _ _ (typed w x) _ (f (Exactly w) refl) refl)
alike_met Any false fs w first others x us h f g = after_gives _ _ (typed w x) _ (f Any refl) (after_gives _ _ (typed_alike w us) _ (g (Exactly w) refl) refl)
alike_met (Exactly v) fe fs w first others x us h f g = after_gives _ _ (typed w x) _ (f (Exactly v) h) (after_gives _ _ (typed_alike w us) _ (g (Exactly w) refl) refl)

operated_met : (sh : Shape) (p : ℕ) (m : Wanted) (o : Primitive) (es : Expressions) (ws : List ℕ) (us : Terms) (w : ℕ) (t : Term)
    (same : Wanted → Result TypedAlike Fault) (shift : Result TypedAlike Fault) (all : Result TypedAll Fault)
    → Suits sh o es ws w → Met m (takes_width sh && all_flexible es) w → t ≡ terms.Op o us
    → ((v : Wanted) (u : ℕ) → AreAll u ws → Met v (all_flexible es) u → same v ≡ Ok (typed_alike u us))
    → (Shifts w es ws → shift ≡ Ok (typed_alike w us))
    → (AllRigid es → all ≡ Ok (typed_all ws us))
    → operated sh p m o same shift all ≡ Ok (typed w t)
operated_met Alike p m o es ws us w t same shift all s h q f g k = after_gives _ _ (typed_alike w us) _ (f m w s h) cc
operated_met Comparing p m o es ws us w t same shift all s h q f g k = after_gives _ _ (typed_alike s.1 us) _ (f Any s.1 s.2 s.3) (settle_met p m false 1 w (terms.Op o us) t h (sym s.0) (sym q))
operated_met Shifting p m o es ws us w t same shift all s h q f g k = after_gives _ _ (typed_alike w us) _ (g s) (settle_met p m false w w (terms.Op o us) t h refl (sym q))
operated_met Resizing p m o es ws us w t same shift all s h q f g k = after_gives _ _ (typed_all ws us) _ (k s.0) (rw s.1 (settle_met p m false w w (terms.Op o us) t h refl (sym q)))

pub length_widths : (ps : List Slot) → length (widths_of ps) ≡ length ps
length_widths [] = refl
length_widths (p ∷ ps) = ap (λ n. suc n) (length_widths ps)

arguments_met : (p : ℕ) (m : Wanted) (h : Head) (n : ℕ) (args : Result TypedAll Fault) (call : Terms → Term) (ws : List ℕ) (us : Terms) (w : ℕ) (t : Term)
    → n ≡ length ws → ws ≡ widths_of h.params → h.width ≡ w → t ≡ call us → Met m false w → args ≡ Ok (typed_all ws us)
    → arguments p m h n args call ≡ Ok (typed w t)
arguments_met p m h n args call ws us w t en ew eh et met ea =
    unless_gives _ _ _ (needs_gives _ _ (eq-eqb (length h.params) n (sym (length_widths h.params) ∙ (ap (λ (l : List ℕ). length l) (sym ew) ∙ sym en))))
    (after_gives _ _ (typed_all ws us) _ ea (settle_met p m false h.width w (call us) t met eh (sym et)))

called_met : (c : Callee) (tail : Bool) (lo first mid p : ℕ) (m : Wanted) (n : ℕ) (args : ℕ → List ℕ → Result TypedAll Fault) (ws : List ℕ) (us : Terms) (w : ℕ) (t : Term)
    → Calls c tail lo mid ws us w t → first ≡ lo → n ≡ length ws → Met m false w → ((i : ℕ) → i ≡ mid → args i ws ≡ Ok (typed_all ws us))
    → called c tail first p m n args ≡ Ok (typed w t)
called_met (Member i h) tail lo first mid p m n args ws us w t q e en met ea =
    unless_gives _ _ _ (needs_gives _ _ q.0)
    (arguments_met p m h n _ (λ us. Loop i us) ws us w t en q.2 q.3 q.4 met (subst (λ (l : List ℕ). args first l ≡ Ok (typed_all ws us)) q.2 (ea first (e ∙ sym q.1))))
called_met (Above i h) tail lo first mid p m n args ws us w t q e en met ea =
    arguments_met p m h n _ (λ us. terms.Call i first us) ws us w t en q.1 q.2 (q.3 ∙ ap (λ (z : ℕ). terms.Call i z us) (sym e)) met
    (subst (λ (l : List ℕ). args (suc first) l ≡ Ok (typed_all ws us)) q.1 (ea (suc first) (ap (λ (z : ℕ). suc z) e ∙ sym q.0)))
called_met Unknown tail lo first mid p m n args ws us w t q e en met ea = absurd q

-- as many expressions as widths
abbrev pub AsMany : Expressions → List ℕ → Type 0
AsMany no_expression [] = Unit {0}
AsMany no_expression (w ∷ ws) = ⊥
AsMany (an_expression e es) [] = ⊥
AsMany (an_expression e es) (w ∷ ws) = AsMany es ws

pub have_many : (k : Known) (s : List Slot) (lo hi : ℕ) (es : Expressions) (ws : List ℕ) (us : Terms) → HaveAll k s lo hi es ws us → AsMany es ws
have_many k s lo hi no_expression [] us h = tt
have_many k s lo hi no_expression (w ∷ ws) us h = h
have_many k s lo hi (an_expression e es) [] us h = h
have_many k s lo hi (an_expression e es) (w ∷ ws) us (m, t, ts, he, hs, q) = have_many k s m hi es ws ts hs

pub many_length : (es : Expressions) (ws : List ℕ) → AsMany es ws → count es ≡ length ws
many_length no_expression [] h = refl
many_length no_expression (w ∷ ws) h = absurd h
many_length (an_expression e es) [] h = absurd h
many_length (an_expression e es) (w ∷ ws) h = omega (arith, many_length es ws h)

met_exactly : (es : Expressions) (ws : List ℕ) → AsMany es ws → MetAll (exactly ws) es ws
met_exactly no_expression ws h = tt
met_exactly (an_expression e es) [] h = h
met_exactly (an_expression e es) (w ∷ ws) h = (refl, met_exactly es ws h)

met_any : (es : Expressions) (ws : List ℕ) → AllRigid es → AsMany es ws → MetAll (all_any es) es ws
met_any no_expression ws r h = tt
met_any (an_expression e es) [] r h = h
met_any (an_expression e es) (w ∷ ws) r h = (r.0, met_any es ws r.1 h)

met_amount : (b : Bool) (w v : ℕ) → (b ≡ false) ⊎ (v ≡ w) → Met (cond b (Exactly w) Any) b v
met_amount true w v (inl e) = absurd cc
met_amount true w v (inr e) = sym e
met_amount false w v h = refl

met_amounts : (w : ℕ) (es : Expressions) (ws : List ℕ) → RigidOr w es ws → AsMany es ws → MetAll (amounts w es) es ws
met_amounts w no_expression ws r h = tt
met_amounts w (an_expression e es) [] r h = h
met_amounts w (an_expression e es) (v ∷ ws) r h = (met_amount (flexible e) w v r.0, met_amounts w es ws r.1 h)

met_written : (v : Option ℕ) (e : Expression) (w : ℕ) → KeepsWritten v e w → Met (wanted_by v) (flexible e) w
met_written None e w h = h
met_written (Some v) e w h = h

mutual
  -- the expression is checked where its sites begin
  pub has_checks : (k : Known) (s : List Slot) (tail : Bool) (lo hi first : ℕ) (m : Wanted) (e : Expression) (w : ℕ) (t : Term) → first ≡ lo → Has k s
      tail lo hi e w t → Met m (flexible e) w → check k s tail first m e ≡ Ok (typed w t)
  has_checks k s tail lo hi first m (Number p n) w t at h met = number_met p n m w t met h.1.fits h.2
  has_checks k s tail lo hi first m (Sized p v n) w t at h met = sized_met p v n m w t met h.1 h.2.fits h.3
  has_checks k s tail lo hi first m (Variable p x) w t at (l, i, e, q) met = variable_met p m _ i w t met e q
  has_checks k s tail lo hi first m (If p c a b) w t at (mid, n, x, y, z, hc, ha, hb, q) met =
      let ec = has_sites k s _ lo mid c 1 x hc in
      let ea = has_sites k s tail mid n a w y ha in
      subst (λ (u : Term). check k s tail first m (If p c a b) ≡ Ok (typed w u)) (sym q)
      (unless_gives _ _ _ (needs_gives _ _ (known_met m _ w met))
      (after_gives _ _ (typed 1 x) _ (has_checks k s _ lo mid first (Exactly 1) c 1 x at hc refl)
      (branches_met m (flexible a) (flexible b) w _ _ x y z met
      (λ v g. has_checks k s tail mid n (first + sites k c) v a w y (omega (arith, ec, at)) ha g)
      (λ v g. has_checks k s tail n hi (first + sites k c + sites k a) v b w z (omega (arith, ec, ea, at)) hb g))))
  has_checks k s tail lo hi first m (Let p bs b) w t at (mid, ws, us, y, d, hs, hb, q) met =
      let es = have_sites_bound k s lo mid bs ws us hs in
      subst (λ (u : Term). check k s tail first m (Let p bs b) ≡ Ok (typed w u)) (sym q)
      (unless_gives _ _ _ (needs_gives _ _ (known_met m _ w met))
      (unless_gives _ _ _ (bound_differ bs d)
      (after_gives _ _ (typed_all ws us) _ (have_checks_bound k s lo mid first bs ws us at hs)
      (after_gives _ _ (typed w y) _ (has_checks k (s ++ slots bs ws) tail mid hi (first + sites_bound k bs) m b w y (omega (arith, es, at)) hb met) refl))))
  has_checks k s tail lo hi first m (Op p o es) w t at (ws, us, hs, su, q) met =
      operated_met (shape o) p m o es ws us w t _ _ _ su met q
      (λ v u all g. have_checks_alike k s lo hi first p v u es ws us at hs all g)
      (λ g. have_checks_shift k s lo hi first p w es ws us at hs g)
      (λ g. have_checks k s lo hi first (all_any es) es ws us at hs (met_any es ws g (have_many k s lo hi es ws us hs)))
  has_checks k s tail lo hi first m (Call p f es) w t at (mid, ws, us, hs, q) met =
      let many = have_many k s mid hi es ws us hs in
      called_met (callee k f) tail lo first mid p m (count es) _ ws us w t q at (many_length es ws many) met
      (λ i e. have_checks k s mid hi i (exactly ws) es ws us e hs (met_exactly es ws many))

  pub have_checks : (k : Known) (s : List Slot) (lo hi first : ℕ) (ms : List Wanted) (es : Expressions) (ws : List ℕ) (us : Terms) → first ≡ lo →
      HaveAll k s lo hi es ws us → MetAll ms es ws → check_all k s first ms es ≡ Ok (typed_all ws us)
  have_checks k s lo hi first ms no_expression [] us at h met = cc
  have_checks k s lo hi first ms no_expression (w ∷ ws) us at h met = absurd h
  have_checks k s lo hi first [] (an_expression e es) ws us at h met = absurd met
  have_checks k s lo hi first (m ∷ ms) (an_expression e es) [] us at h met = absurd h
  have_checks k s lo hi first (m ∷ ms) (an_expression e es) (w ∷ ws) us at (mid, t, ts, he, hs, q) met =
      let ee = has_sites k s _ lo mid e w t he in
      after_gives _ _ (typed w t) _ (has_checks k s _ lo mid first m e w t at he met.0)
      (after_gives _ _ (typed_all ws ts) _ (have_checks k s mid hi (first + sites k e) ms es ws ts (omega (arith, ee, at)) hs met.1) cc)

  pub have_checks_alike : (k : Known) (s : List Slot) (lo hi first p : ℕ) (m : Wanted) (w : ℕ) (es : Expressions) (ws : List ℕ) (us : Terms) → first ≡
      lo → HaveAll k s lo hi es ws us → AreAll w ws → Met m (all_flexible es) w → check_alike k s first p m es ≡ Ok (typed_alike w us)
  have_checks_alike k s lo hi first p Any w no_expression [] us at h all met = absurd cc
  have_checks_alike k s lo hi first p (Exactly v) w no_expression [] us at h all met = cc
  have_checks_alike k s lo hi first p m w no_expression (v ∷ ws) us at h all met = absurd h
  have_checks_alike k s lo hi first p m w (an_expression e es) [] us at h all met = absurd h
  have_checks_alike k s lo hi first p m w (an_expression e es) (v ∷ ws) us at (mid, t, ts, he, hs, q) all met =
      let ee = has_sites k s _ lo mid e v t he in
      subst (λ (z : Terms). check_alike k s first p m (an_expression e es) ≡ Ok (typed_alike w z)) (sym q)
      (alike_met m (flexible e) (all_flexible es) w _ _ t ts met
      (λ x g. has_checks k s _ lo mid first x e w t at (subst (λ (i : ℕ). Has k s false lo mid e i t) all.0 he) g)
      (λ x g. have_checks_alike k s mid hi (first + sites k e) p x w es ws ts (omega (arith, ee, at)) hs all.1 g))

  pub have_checks_shift : (k : Known) (s : List Slot) (lo hi first p w : ℕ) (es : Expressions) (ws : List ℕ) (us : Terms) → first ≡ lo → HaveAll k s
      lo hi es ws us → Shifts w es ws → check_shift k s first p es ≡ Ok (typed_alike w us)
  have_checks_shift k s lo hi first p w no_expression ws us at h sh = absurd sh
  have_checks_shift k s lo hi first p w (an_expression e es) [] us at h sh = absurd h
  have_checks_shift k s lo hi first p w (an_expression e es) (v ∷ ws) us at (mid, t, ts, he, hs, q) sh =
      let ee = has_sites k s _ lo mid e v t he in
      after_gives _ _ (typed w t) _ (has_checks k s _ lo mid first Any e w t at (subst (λ (i : ℕ). Has k s false lo mid e i t) sh.1 he) sh.0)
      (after_gives _ _ (typed_all ws ts) _ (have_checks k s mid hi (first + sites k e) (amounts w es) es ws ts (omega (arith, ee, at)) hs
      (met_amounts w es ws sh.2 (have_many k s mid hi es ws ts hs))) cc)

  pub have_checks_bound : (k : Known) (s : List Slot) (lo hi first : ℕ) (bs : Bindings) (ws : List ℕ) (us : Terms) → first ≡ lo → HaveBound k s lo hi
      bs ws us → check_bound k s first bs ≡ Ok (typed_all ws us)
  have_checks_bound k s lo hi first no_binding [] us at h = cc
  have_checks_bound k s lo hi first no_binding (w ∷ ws) us at h = absurd h
  have_checks_bound k s lo hi first (a_binding p x v e bs) [] us at h = absurd h
  have_checks_bound k s lo hi first (a_binding p x v e bs) (w ∷ ws) us at (mid, t, ts, keeps, he, hs, q) =
      let ee = has_sites k s _ lo mid e w t he in
      after_gives _ _ (typed w t) _ (has_checks k s _ lo mid first (wanted_by v) e w t at he (met_written v e w keeps))
      (after_gives _ _ (typed_all ws ts) _ (have_checks_bound k s mid hi (first + sites k e) bs ws ts (omega (arith, ee, at)) hs) cc)
