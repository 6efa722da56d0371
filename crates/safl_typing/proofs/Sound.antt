-- What the walk gives a width and a term has them.
use Rattle.safl_typing.proofs.Common.{Fault, IsWord, Primitive, result_width}
use Rattle.std.proofs.Common.{◌≡◌, ℕ, suc, ◌+◌, ◌<◌, ◌^◌, List, [], ◌∷◌, ◌++◌, length, Option, Some, None, Bool, true, false, cond, refl, sym, ◌∙◌, subst, inl, inr, ◌⊎◌, arith}
use Rattle.std.specs.Prelude.{Result, Ok, Err, ◌==◌, nat_lt, ◌&&◌}
use Rattle.std.proofs.lemmas.Bool.{eqb-true, ltb-true}
use Rattle.safl_word.specs.declared.fault.Rule.TheVariants as rules
use Rattle.safl_term.specs.Terms as terms
use Rattle.safl_term.specs.Terms.{Term, Const, Var, Loop, Terms, Nil, Cons}
use Rattle.safl_typing.specs.Rewriting.{Expression, Number, Sized, Variable, If, Let, Op, Call, Expressions, no_expression, an_expression, Bindings}
use Rattle.safl_typing.specs.Rewriting.{no_binding, a_binding, Shape, Alike, Comparing, Shifting, Resizing, shape, takes_width, flexible}
use Rattle.safl_typing.specs.Rewriting.{all_flexible, count}
use Rattle.safl_typing.specs.Heads.{Slot, Known, Callee, Member, Above, Unknown, callee, is_site, sites, sites_in, sites_bound}
use Rattle.safl_typing.specs.Typing.{At, innermost, word, widths_of, slots, KeepsWritten, AreAll, AllRigid, RigidOr, Shifts, Suits, Calls, Has, HaveAll, HaveBound}
use Rattle.safl_typing.specs.Walk.{after, unless, needs, fault_with, Typed, TypedAlike, TypedAll, Wanted, Any, Exactly, is_any, wanted_by, settle}
use Rattle.safl_typing.specs.Walk.{check_number, sized, variable, branches, alike, resized, operated, called, all_any, amounts, exactly, check, check_all}
use Rattle.safl_typing.specs.Walk.{check_alike, check_shift, check_bound}
use Rattle.safl_typing.proofs.Names.{some_none, differ_bound}
use Rattle.safl_typing.specs.Ranges.{IsWide, AreWide, WideSlots, WideHeads, IsInRange, AreInRange, BoundInRange}
use Rattle.safl_typing.proofs.Wide.{WideCallee, one_wide, table_wide, wide_widths, wide_append, wide_slots, innermost_wide, callee_wide}
use Rattle.safl_typing.proofs.Complete.{typed, typed_all, typed_alike, Met, MetAll, AsMany, length_widths}

pub ok_is : {A : Type 0} (x y : A) → ◌≡◌ {A = Result A Fault} (Ok x) (Ok y) → x ≡ y
ok_is x y e = cc

pub err_ok : {A : Type 0} {B : Type 0} (f : Fault) (y : B) → ◌≡◌ {A = Result B Fault} (Err f) (Ok y) → A
err_ok f y e = absurd cc

pub after_ok : {A B : Type 0} (r : Result A Fault) (rest : A → Result B Fault) (b : B) → after r rest ≡ Ok b → (a : A) × (r ≡ Ok a) × (rest a ≡ Ok b)
after_ok (Err f) rest b e = err_ok f b e
after_ok (Ok a) rest b e = (a, refl, e)

pub unless_ok : {A : Type 0} (o : Option Fault) (r : Result A Fault) (a : A) → unless o r ≡ Ok a → (o ≡ None) × (r ≡ Ok a)
unless_ok (Some f) r a e = err_ok f a e
unless_ok None r a e = (refl, e)

pub needs_ok : (b : Bool) (f : Fault) → needs b f ≡ None → b ≡ true
needs_ok true f e = refl
needs_ok false f e = some_none f e

abbrev pub WideWanted : Wanted → Type 0
WideWanted Any = Unit {0}
WideWanted (Exactly w) = IsWide w

-- as many expressions as there are ways to look at them
abbrev pub WantedFor : List Wanted → Expressions → Type 0
WantedFor ms no_expression = Unit {0}
WantedFor [] (an_expression e es) = ⊥
WantedFor (m ∷ ms) (an_expression e es) = WideWanted m × WantedFor ms es

pub record IsSound (P : ℕ → Term → Type 0) (m : Wanted) (is_flexible : Bool) (x : Typed) : Type 0 where
  pub has : P x.width x.term
  pub met : Met m is_flexible x.width
  pub wide : IsWide x.width

pub record IsSoundAlike (P : List ℕ → Terms → Type 0) (m : Wanted) (is_flexible : Bool) (r : TypedAlike) : Type 0 where
  pub widths : List ℕ
  pub have : P widths r.terms
  pub all : AreAll r.width widths
  pub met : Met m is_flexible r.width
  pub wide : IsWide r.width

pub record IsSoundShift (P : List ℕ → Terms → Type 0) (es : Expressions) (r : TypedAlike) : Type 0 where
  pub widths : List ℕ
  pub have : P widths r.terms
  pub shifts : Shifts r.width es widths
  pub wide : IsWide r.width

pub record IsSoundAll (P : List ℕ → Terms → Type 0) (ms : List Wanted) (es : Expressions) (r : TypedAll) : Type 0 where
  pub have : P r.widths r.terms
  pub met : MetAll ms es r.widths
  pub many : AsMany es r.widths
  pub wide : AreWide r.widths

pub record IsSoundBound (P : List ℕ → Terms → Type 0) (r : TypedAll) : Type 0 where
  pub have : P r.widths r.terms
  pub wide : AreWide r.widths

settle_here : (b : Bool) (w v : ℕ) (f : Fault) (x y : Typed) → (w == v) ≡ b → cond b (Ok x) (Err f) ≡ Ok y → (x ≡ y) × (w ≡ v)
settle_here true w v f x y q e = (ok_is x y e, eqb-true w v q)
settle_here false w v f x y q e = err_ok f y e

settle_ok : (p : ℕ) (m : Wanted) (v : ℕ) (t : Term) (x : Typed) → settle p m v t ≡ Ok x → (typed v t ≡ x) × Met m false v
settle_ok p Any v t x e = (ok_is (typed v t) x e, refl)
settle_ok p (Exactly w) v t x e = settle_here (w == v) w v (fault_with rules.E12 p w v) (typed v t) x refl e

-- what settles a width is sound
settled : (P : ℕ → Term → Type 0) (p : ℕ) (m : Wanted) (v : ℕ) (t : Term) (x : Typed) → settle p m v t ≡ Ok x → P v t → IsWide v → IsSound P m false x
settled P p m v t x e h w =
    let q = settle_ok p m v t x e in
    subst (λ (y : Typed). IsSound P m false y) q.0 (record { has = h; met = q.1; wide = w })

fits_here : (b : Bool) (n w : ℕ) (f : Fault) (x y : Typed) → nat_lt n (2 ^ w) ≡ b → cond b (Ok x) (Err f) ≡ Ok y → (x ≡ y) × (n < 2 ^ w)
fits_here true n w f x y q e = (ok_is x y e, ltb-true n (2 ^ w) q)
fits_here false n w f x y q e = err_ok f y e

is_word : (w n : ℕ) → IsWide w → n < 2 ^ w → IsWord (word w n)
is_word w n h lt = record { some = h.some; bounded = h.bounded; fits = lt }

number_sound : (P : ℕ → Term → Type 0) (p n : ℕ) (m : Wanted) (x : Typed) → check_number p n m ≡ Ok x → WideWanted m → ((w : ℕ) → IsWord (word w n) → P w (Const (word w n))) → IsSound P m true x
number_sound P p n Any x e w f = err_ok _ x e
number_sound P p n (Exactly v) x e w f =
    let q = fits_here (nat_lt n (2 ^ v)) n v _ (typed v (Const (word v n))) x refl e in
    subst (λ (y : Typed). IsSound P (Exactly v) true y) q.0 (record { has = f v (is_word v n w q.1); met = refl; wide = w })

sized_here : (b : Bool) (n v : ℕ) (f : Fault) (r : Result Typed Fault) (x : Typed) → nat_lt n (2 ^ v) ≡ b → cond b r (Err f) ≡ Ok x → (r ≡ Ok x) × (n < 2 ^ v)
sized_here true n v f r x q e = (e, ltb-true n (2 ^ v) q)
sized_here false n v f r x q e = err_ok f x e

sized_sound : (P : ℕ → Term → Type 0) (p v n : ℕ) (m : Wanted) (x : Typed) → sized p v n m ≡ Ok x → IsWide v → (IsWord (word v n) → P v (Const (word v n))) → IsSound P m false x
sized_sound P p v n m x e w f =
    let q = sized_here (nat_lt n (2 ^ v)) n v _ (settle p m v (Const (word v n))) x refl e in
    settled P p m v (Const (word v n)) x q.0 (f (is_word v n w q.1)) w

variable_sound : (P : ℕ → Term → Type 0) (p : ℕ) (m : Wanted) (o : Option At) (x : Typed) → variable p m o ≡ Ok x →
    ((a : At) → o ≡ Some a → IsWide a.width) → ((a : At) → o ≡ Some a → P a.width (Var a.slot)) → IsSound P m false x
variable_sound P p m None x e w f = err_ok _ x e
variable_sound P p m (Some a) x e w f = settled P p m a.width (Var a.slot) x e (f a refl) (w a refl)

-- the parts of an if
pub record IsSoundIf (A B : ℕ → Term → Type 0) (m : Wanted) (is_flexible : Bool) (x : Term) (r : Typed) : Type 0 where
  pub first : Term
  pub second : Term
  pub has_first : A r.width first
  pub has_second : B r.width second
  pub is : r.term ≡ terms.If x first second
  pub met : Met m is_flexible r.width
  pub wide : IsWide r.width

branches_sound : (A B : ℕ → Term → Type 0) (m : Wanted) (fa fb : Bool) (first second : Wanted → Result Typed Fault) (x : Term) (r : Typed)
    → branches (is_any m && fa) m first second x ≡ Ok r → WideWanted m
    → ((v : Wanted) (y : Typed) → WideWanted v → first v ≡ Ok y → IsSound A v fa y)
    → ((v : Wanted) (z : Typed) → WideWanted v → second v ≡ Ok z → IsSound B v fb z)
    → IsSoundIf A B m (fa && fb) x r
branches_sound A B Any true fb first second x r e w f g =
    let q = after_ok (second Any) _ r e in
    let sz = g Any q.0 w q.1 in
    let u = after_ok (first (Exactly q.0.width)) _ r q.2 in
    let sy = f (Exactly q.0.width) u.0 sz.wide u.1 in
    subst (λ (y : Typed). IsSoundIf A B Any fb x y) (ok_is _ r u.2)
    (record { first = u.0.term; second = q.0.term; has_first = subst (λ (n : ℕ). A n u.0.term) (sym sy.met) sy.has; has_second = sz.has; is = refl; met = sz.met; wide = sz.wide })
branches_sound A B Any false fb first second x r e w f g =
    let q = after_ok (first Any) _ r e in
    let sy = f Any q.0 w q.1 in
    let u = after_ok (second (Exactly q.0.width)) _ r q.2 in
    let sz = g (Exactly q.0.width) u.0 sy.wide u.1 in
    subst (λ (y : Typed). IsSoundIf A B Any false x y) (ok_is _ r u.2)
    (record { first = q.0.term; second = u.0.term; has_first = sy.has; has_second = subst (λ (n : ℕ). B n u.0.term) (sym sz.met) sz.has; is = refl; met = refl; wide = sy.wide })
branches_sound A B (Exactly v) fa fb first second x r e w f g =
    let q = after_ok (first (Exactly v)) _ r e in
    let sy = f (Exactly v) q.0 w q.1 in
    let u = after_ok (second (Exactly q.0.width)) _ r q.2 in
    let sz = g (Exactly q.0.width) u.0 sy.wide u.1 in
    subst (λ (y : Typed). IsSoundIf A B (Exactly v) (fa && fb) x y) (ok_is _ r u.2)
    (record { first = q.0.term; second = u.0.term; has_first = sy.has; has_second = subst (λ (n : ℕ). B n u.0.term) (sym sz.met) sz.has; is = refl; met = sy.met; wide = sy.wide })

-- an operand and those that follow it
pub record IsSoundPair (A : ℕ → Term → Type 0) (B : List ℕ → Terms → Type 0) (m : Wanted) (is_flexible : Bool) (r : TypedAlike) : Type 0 where
  pub first : Term
  pub others : Terms
  pub widths : List ℕ
  pub has_first : A r.width first
  pub have_others : B widths others
  pub all : AreAll r.width widths
  pub is : r.terms ≡ Cons first others
  pub met : Met m is_flexible r.width
  pub wide : IsWide r.width

alike_sound : (A : ℕ → Term → Type 0) (B : List ℕ → Terms → Type 0) (m : Wanted) (fe fs : Bool) (first : Wanted → Result Typed Fault) (others : Wanted → Result TypedAlike Fault) (r : TypedAlike)
    → alike (is_any m && fe) m first others ≡ Ok r → WideWanted m
    → ((v : Wanted) (y : Typed) → WideWanted v → first v ≡ Ok y → IsSound A v fe y)
    → ((v : Wanted) (z : TypedAlike) → WideWanted v → others v ≡ Ok z → IsSoundAlike B v fs z)
    → IsSoundPair A B m (fe && fs) r
alike_sound A B Any true fs first others r e w f g =
    let q = after_ok (others Any) _ r e in
    let sz = g Any q.0 w q.1 in
    let u = after_ok (first (Exactly q.0.width)) _ r q.2 in
    let sy = f (Exactly q.0.width) u.0 sz.wide u.1 in
    subst (λ (y : TypedAlike). IsSoundPair A B Any fs y) (ok_is _ r u.2)
    (record {
      first = u.0.term;
      others = q.0.terms;
      widths = sz.widths;
      has_first = subst (λ (n : ℕ). A n u.0.term) (sym sy.met) sy.has;
      have_others =
          sz.have;
      all = sz.all;
      is = refl;
      met = sz.met;
      wide = sz.wide;
    })
alike_sound A B Any false fs first others r e w f g =
    let q = after_ok (first Any) _ r e in
    let sy = f Any q.0 w q.1 in
    let u = after_ok (others (Exactly q.0.width)) _ r q.2 in
    let sz = g (Exactly q.0.width) u.0 sy.wide u.1 in
    subst (λ (y : TypedAlike). IsSoundPair A B Any false y) (ok_is _ r u.2)
    (record {
      first = q.0.term;
      others = u.0.terms;
      widths = sz.widths;
      has_first = sy.has;
      have_others = sz.have;
      all = subst
          (λ (n : ℕ). AreAll n sz.widths) (sym sz.met) sz.all;
      is = refl;
      met = refl;
      wide = sy.wide;
    })
alike_sound A B (Exactly v) fe fs first others r e w f g =
    let q = after_ok (first (Exactly v)) _ r e in
    let sy = f (Exactly v) q.0 w q.1 in
    let u = after_ok (others (Exactly q.0.width)) _ r q.2 in
    let sz = g (Exactly q.0.width) u.0 sy.wide u.1 in
    subst (λ (y : TypedAlike). IsSoundPair A B (Exactly v) (fe && fs) y) (ok_is _ r u.2)
    (record {
      first = q.0.term;
      others = u.0.terms;
      widths = sz.widths;
      has_first = sy.has;
      have_others = sz.have;
      all = subst
          (λ (n : ℕ). AreAll n sz.widths) (sym sz.met) sz.all;
      is = refl;
      met = sy.met;
      wide = sy.wide;
    })

-- an operator with its operands
abbrev pub HasOperands : (P : List ℕ → Terms → Type 0) → Shape → Primitive → Expressions → ℕ → Term → Type 0
HasOperands P sh o es w t = (ws : List ℕ) × (us : Terms) × P ws us × Suits sh o es ws w × (t ≡ terms.Op o us)

rigid_any : (es : Expressions) (ws : List ℕ) → MetAll (all_any es) es ws → AllRigid es
rigid_any no_expression ws h = tt
rigid_any (an_expression e es) [] h = absurd h
rigid_any (an_expression e es) (w ∷ ws) h = (h.0, rigid_any es ws h.1)

resized_sound : (P : List ℕ → Terms → Type 0) (p : ℕ) (m : Wanted) (o : Primitive) (es : Expressions) (r : TypedAll) (found : Option ℕ) (x : Typed)
    → resized p m o found r.terms ≡ Ok x → result_width o r.widths ≡ found → IsSoundAll P (all_any es) es r → IsSound (HasOperands P Resizing o es) m false x
resized_sound P p m o es r None x e q s = err_ok _ x e
resized_sound P p m o es r (Some w) x e q s =
    settled (HasOperands P Resizing o es) p m w (terms.Op o r.terms) x e (r.widths, r.terms, s.have, (rigid_any es r.widths s.met, q), refl) (table_wide o r.widths w s.wide q)

operated_sound : (P : List ℕ → Terms → Type 0) (sh : Shape) (p : ℕ) (m : Wanted) (o : Primitive) (es : Expressions) (x : Typed)
    (same : Wanted → Result TypedAlike Fault) (shift : Result TypedAlike Fault) (all : Result TypedAll Fault)
    → operated sh p m o same shift all ≡ Ok x → WideWanted m
    → ((v : Wanted) (r : TypedAlike) → WideWanted v → same v ≡ Ok r → IsSoundAlike P v (all_flexible es) r)
    → ((r : TypedAlike) → shift ≡ Ok r → IsSoundShift P es r)
    → ((r : TypedAll) → all ≡ Ok r → IsSoundAll P (all_any es) es r)
    → IsSound (HasOperands P sh o es) m (takes_width sh && all_flexible es) x
operated_sound P Alike p m o es x same shift all e w f g h =
    let q = after_ok (same m) _ x e in
    let s = f m q.0 w q.1 in
    subst (λ (y : Typed). IsSound (HasOperands P Alike o es) m (all_flexible es) y) (ok_is _ x q.2)
    (record { has = (s.widths, q.0.terms, s.have, s.all, refl); met = s.met; wide = s.wide })
operated_sound P Comparing p m o es x same shift all e w f g h =
    let q = after_ok (same Any) _ x e in
    let s = f Any q.0 tt q.1 in
    settled (HasOperands P Comparing o es) p m 1 (terms.Op o q.0.terms) x q.2 (s.widths, q.0.terms, s.have, (refl, q.0.width, s.all, s.met), refl) one_wide
operated_sound P Shifting p m o es x same shift all e w f g h =
    let q = after_ok shift _ x e in
    let s = g q.0 q.1 in
    settled (HasOperands P Shifting o es) p m q.0.width (terms.Op o q.0.terms) x q.2 (s.widths, q.0.terms, s.have, s.shifts, refl) s.wide
operated_sound P Resizing p m o es x same shift all e w f g h =
    let q = after_ok all _ x e in
    resized_sound P p m o es q.0 (result_width o q.0.widths) x q.2 refl (h q.0 q.1)

-- a call with its arguments
same_exactly : (es : Expressions) (ps ws : List ℕ) → length ps ≡ count es → AsMany es ws → MetAll (exactly ps) es ws → ws ≡ ps
same_exactly no_expression [] [] l a h = refl
same_exactly no_expression (p ∷ ps) ws l a h = absurd (omega (arith, l))
same_exactly no_expression [] (w ∷ ws) l a h = absurd a
same_exactly (an_expression e es) [] ws l a h = absurd h
same_exactly (an_expression e es) (p ∷ ps) [] l a h = absurd h
same_exactly (an_expression e es) (p ∷ ps) (w ∷ ws) l a h = let r = same_exactly es ps ws (omega (arith, l)) a h.1 in let q : p ≡ w = h.0 in cc

wanted_exactly : (es : Expressions) (ps : List ℕ) → length ps ≡ count es → AreWide ps → WantedFor (exactly ps) es
wanted_exactly no_expression ps l w = tt
wanted_exactly (an_expression e es) [] l w = absurd (omega (arith, l))
wanted_exactly (an_expression e es) (p ∷ ps) l w = (w.0, wanted_exactly es ps (omega (arith, l)) w.1)

wanted_any : (es : Expressions) → WantedFor (all_any es) es
wanted_any no_expression = tt
wanted_any (an_expression e es) = (tt, wanted_any es)

wide_amount : (b : Bool) (w : ℕ) → IsWide w → WideWanted (cond b (Exactly w) Any)
wide_amount true w h = h
wide_amount false w h = tt

wanted_amounts : (w : ℕ) (es : Expressions) → IsWide w → WantedFor (amounts w es) es
wanted_amounts w no_expression h = tt
wanted_amounts w (an_expression e es) h = (wide_amount (flexible e) w h, wanted_amounts w es h)

rigid_amount : (b : Bool) (w v : ℕ) → Met (cond b (Exactly w) Any) b v → (b ≡ false) ⊎ (v ≡ w)
rigid_amount true w v h = inr (sym h)
rigid_amount false w v h = inl refl

rigid_amounts : (w : ℕ) (es : Expressions) (ws : List ℕ) → MetAll (amounts w es) es ws → RigidOr w es ws
rigid_amounts w no_expression ws h = tt
rigid_amounts w (an_expression e es) [] h = h
rigid_amounts w (an_expression e es) (v ∷ ws) h = (rigid_amount (flexible e) w v h.0, rigid_amounts w es ws h.1)

abbrev pub HasCall : (P : ℕ → List ℕ → Terms → Type 0) → Callee → Bool → ℕ → ℕ → Term → Type 0
HasCall P c tail lo w t = (m : ℕ) × (ws : List ℕ) × (us : Terms) × P m ws us × Calls c tail lo m ws us w t

called_sound : (P : ℕ → List ℕ → Terms → Type 0) (c : Callee) (tail : Bool) (lo p : ℕ) (m : Wanted) (es : Expressions) (args : ℕ → List ℕ → Result TypedAll Fault) (x : Typed)
    → called c tail lo p m (count es) args ≡ Ok x → WideCallee c
    → ((i : ℕ) (ps : List ℕ) (r : TypedAll) → i ≡ lo + is_site c → WantedFor (exactly ps) es → args i ps ≡ Ok r → IsSoundAll (P i) (exactly ps) es r)
    → IsSound (HasCall P c tail lo) m false x
called_sound P (Member i h) tail lo p m es args x e w f =
    let t = unless_ok _ _ x e in
    let n = unless_ok _ _ x t.1 in
    let is_tail : tail ≡ true = needs_ok tail _ t.0 in
    let l : length h.params ≡ count es = eqb-true (length h.params) (count es) (needs_ok _ _ n.0) in
    let lw : length (widths_of h.params) ≡ count es = length_widths h.params ∙ l in
    let q = after_ok (args lo (widths_of h.params)) _ x n.1 in
    let s = f lo (widths_of h.params) q.0 (omega arith) (wanted_exactly es (widths_of h.params) lw (wide_widths h.params w.params)) q.1 in
    settled (HasCall P (Member i h) tail lo) p m h.width (Loop i q.0.terms) x q.2
    (lo, q.0.widths, q.0.terms, s.have, (is_tail, refl, same_exactly es (widths_of h.params) q.0.widths lw s.many s.met, refl, refl)) w.width
called_sound P (Above i h) tail lo p m es args x e w f =
    let n = unless_ok _ _ x e in
    let l : length h.params ≡ count es = eqb-true (length h.params) (count es) (needs_ok _ _ n.0) in
    let lw : length (widths_of h.params) ≡ count es = length_widths h.params ∙ l in
    let q = after_ok (args (suc lo) (widths_of h.params)) _ x n.1 in
    let s = f (suc lo) (widths_of h.params) q.0 (omega arith) (wanted_exactly es (widths_of h.params) lw (wide_widths h.params w.params)) q.1 in
    settled (HasCall P (Above i h) tail lo) p m h.width (terms.Call i lo q.0.terms) x q.2
    (suc lo, q.0.widths, q.0.terms, s.have, (refl, same_exactly es (widths_of h.params) q.0.widths lw s.many s.met, refl, refl)) w.width
called_sound P Unknown tail lo p m es args x e w f = err_ok _ x e

wide_written : (v : Option ℕ) → ((w : ℕ) → v ≡ Some w → IsWide w) → WideWanted (wanted_by v)
wide_written None f = tt
wide_written (Some w) f = f w refl

keeps_written : (v : Option ℕ) (e : Expression) (w : ℕ) → Met (wanted_by v) (flexible e) w → KeepsWritten v e w
keeps_written None e w h = h
keeps_written (Some v) e w h = h

mutual
  pub checks_has : (k : Known) (s : List Slot) (tail : Bool) (lo hi : ℕ) (m : Wanted) (e : Expression) (x : Typed) → hi ≡ lo + sites k e → WideHeads
      k.heads → WideSlots s → IsInRange e → WideWanted m → check k s tail lo m e ≡ Ok x → IsSound (Has k s tail lo hi e) m (flexible e) x
  checks_has k s tail lo hi m (Number p n) x at wh ws wi wm e = number_sound _ p n m x e wm (λ w q. (omega (arith, at), q, refl))
  checks_has k s tail lo hi m (Sized p v n) x at wh ws wi wm e = sized_sound _ p v n m x e wi (λ q. (omega (arith, at), refl, q, refl))
  checks_has k s tail lo hi m (Variable p y) x at wh ws wi wm e = variable_sound _ p m (innermost y 0 s) x e (λ a q. innermost_wide y 0 s a ws q) (λ a q. (omega (arith, at), a.slot, q, refl))
  checks_has k s tail lo hi m (If p c a b) x at wh ws wi wm e =
      let end : hi ≡ lo + sites k c + sites k a + sites k b = omega (arith, at) in
      let u = unless_ok _ _ x e in
      let q = after_ok _ _ x u.1 in
      let sc = checks_has k s false lo (lo + sites k c) (Exactly 1) c q.0 refl wh ws wi.0 one_wide q.1 in
      let r = branches_sound (Has k s tail (lo + sites k c) (lo + sites k c + sites k a) a) (Has k s tail (lo + sites k c + sites k a) hi b) m (flexible a) (flexible b) _ _ q.0.term x q.2 wm
      (λ v y g h. checks_has k s tail (lo + sites k c) (lo + sites k c + sites k a) v a y refl wh ws wi.1 g h)
      (λ v y g h. checks_has k s tail (lo + sites k c + sites k a) hi v b y end wh ws wi.2 g h) in
      record {
        has = (
          lo + sites k c,
          lo + sites k c + sites k a,
          q.0.term,
          r.first,
          r.second,
          subst
              (λ (n : ℕ). Has k s false lo (lo + sites k c) c n q.0.term) (sym sc.met) sc.has,
          r.has_first,
          r.has_second,
          r.is,
        );
        met = r.met;
        wide = r.wide;
      }
  checks_has k s tail lo hi m (Let p bs b) x at wh ws wi wm e =
      let end : hi ≡ lo + sites_bound k bs + sites k b = omega (arith, at) in
      let u = unless_ok _ _ x e in
      let d = unless_ok _ _ x u.1 in
      let q = after_ok _ _ x d.1 in
      let sb = checks_have_bound k s lo (lo + sites_bound k bs) bs q.0 refl wh ws wi.0 q.1 in
      let y = after_ok _ _ x q.2 in
      let sy = checks_has k (s ++ slots bs q.0.widths) tail (lo + sites_bound k bs) hi m b y.0 end wh (wide_append s (slots bs q.0.widths) ws (wide_slots bs q.0.widths sb.wide)) wi.1 wm y.1 in
      subst (λ (z : Typed). IsSound (Has k s tail lo hi (Let p bs b)) m (flexible b) z) (ok_is _ x y.2)
      (record { has = (lo + sites_bound k bs, q.0.widths, q.0.terms, y.0.term, differ_bound bs d.0, sb.have, sy.has, refl); met = sy.met; wide = sy.wide })
  checks_has k s tail lo hi m (Op p o es) x at wh ws wi wm e =
      operated_sound (HaveAll k s lo hi es) (shape o) p m o es x _ _ _ e wm
      (λ v r g h. checks_have_alike k s lo hi p v es r at wh ws wi g h)
      (λ r h. checks_have_shift k s lo hi p es r at wh ws wi h)
      (λ r h. checks_have k s lo hi (all_any es) es r at wh ws wi (wanted_any es) h)
  checks_has k s tail lo hi m (Call p f es) x at wh ws wi wm e =
      called_sound (λ i. HaveAll k s i hi es) (callee k f) tail lo p m es _ x e (callee_wide k f wh)
      (λ i ps r q g h. checks_have k s i hi (exactly ps) es r (omega (arith, at, q)) wh ws wi g h)

  pub checks_have : (k : Known) (s : List Slot) (lo hi : ℕ) (ms : List Wanted) (es : Expressions) (r : TypedAll) → hi ≡ lo + sites_in k es → WideHeads
      k.heads → WideSlots s → AreInRange es → WantedFor ms es → check_all k s lo ms es ≡ Ok r → IsSoundAll (HaveAll k s lo hi es) ms es r
  checks_have k s lo hi ms no_expression r at wh ws wi wm e =
      subst (λ (z : TypedAll). IsSoundAll (HaveAll k s lo hi no_expression) ms no_expression z) (ok_is (typed_all [] Nil) r e)
      (record { have = (omega (arith, at), refl); met = tt; many = tt; wide = tt })
  checks_have k s lo hi [] (an_expression y ys) r at wh ws wi wm e = absurd wm
  checks_have k s lo hi (m ∷ ms) (an_expression y ys) r at wh ws wi wm e =
      let q = after_ok _ _ r e in
      let sx = checks_has k s false lo (lo + sites k y) m y q.0 refl wh ws wi.0 wm.0 q.1 in
      let u = after_ok _ _ r q.2 in
      let sr = checks_have k s (lo + sites k y) hi ms ys u.0 (omega (arith, at)) wh ws wi.1 wm.1 u.1 in
      subst (λ (z : TypedAll). IsSoundAll (HaveAll k s lo hi (an_expression y ys)) (m ∷ ms) (an_expression y ys) z) (ok_is _ r u.2)
      (record { have = (lo + sites k y, q.0.term, u.0.terms, sx.has, sr.have, refl); met = (sx.met, sr.met); many = sr.many; wide = (sx.wide, sr.wide) })

  pub checks_have_alike : (k : Known) (s : List Slot) (lo hi p : ℕ) (m : Wanted) (es : Expressions) (r : TypedAlike) → hi ≡ lo + sites_in k es →
      WideHeads k.heads → WideSlots s → AreInRange es → WideWanted m → check_alike k s lo p m es ≡ Ok r → IsSoundAlike (HaveAll k s lo hi es) m (all_flexible es) r
  checks_have_alike k s lo hi p Any no_expression r at wh ws wi wm e = err_ok _ r e
  checks_have_alike k s lo hi p (Exactly v) no_expression r at wh ws wi wm e =
      subst (λ (z : TypedAlike). IsSoundAlike (HaveAll k s lo hi no_expression) (Exactly v) true z) (ok_is (typed_alike v Nil) r e)
      (record { widths = []; have = (omega (arith, at), refl); all = tt; met = refl; wide = wm })
  checks_have_alike k s lo hi p m (an_expression y ys) r at wh ws wi wm e =
      let q = alike_sound (Has k s false lo (lo + sites k y) y) (HaveAll k s (lo + sites k y) hi ys) m (flexible y) (all_flexible ys) _ _ r e wm
      (λ v x g h. checks_has k s false lo (lo + sites k y) v y x refl wh ws wi.0 g h)
      (λ v x g h. checks_have_alike k s (lo + sites k y) hi p v ys x (omega (arith, at)) wh ws wi.1 g h) in
      record { widths = r.width ∷ q.widths; have = (lo + sites k y, q.first, q.others, q.has_first, q.have_others, q.is); all = (refl, q.all); met = q.met; wide = q.wide }

  pub checks_have_shift : (k : Known) (s : List Slot) (lo hi p : ℕ) (es : Expressions) (r : TypedAlike) → hi ≡ lo + sites_in k es → WideHeads k.heads
      → WideSlots s → AreInRange es → check_shift k s lo p es ≡ Ok r → IsSoundShift (HaveAll k s lo hi es) es r
  checks_have_shift k s lo hi p no_expression r at wh ws wi e = err_ok _ r e
  checks_have_shift k s lo hi p (an_expression y ys) r at wh ws wi e =
      let q = after_ok _ _ r e in
      let sx = checks_has k s false lo (lo + sites k y) Any y q.0 refl wh ws wi.0 tt q.1 in
      let u = after_ok _ _ r q.2 in
      let sr = checks_have k s (lo + sites k y) hi (amounts q.0.width ys) ys u.0 (omega (arith, at)) wh ws wi.1 (wanted_amounts q.0.width ys sx.wide) u.1 in
      subst (λ (z : TypedAlike). IsSoundShift (HaveAll k s lo hi (an_expression y ys)) (an_expression y ys) z) (ok_is _ r u.2)
      (record {
        widths = q.0.width ∷ u.0.widths;
        have = (lo + sites k y, q.0.term, u.0.terms, sx.has, sr.have, refl);
        shifts =
            (sx.met, refl, rigid_amounts q.0.width ys u.0.widths sr.met);
        wide = sx.wide;
      })

  pub checks_have_bound : (k : Known) (s : List Slot) (lo hi : ℕ) (bs : Bindings) (r : TypedAll) → hi ≡ lo + sites_bound k bs → WideHeads k.heads →
      WideSlots s → BoundInRange bs → check_bound k s lo bs ≡ Ok r → IsSoundBound (HaveBound k s lo hi bs) r
  checks_have_bound k s lo hi no_binding r at wh ws wi e =
      subst (λ (z : TypedAll). IsSoundBound (HaveBound k s lo hi no_binding) z) (ok_is (typed_all [] Nil) r e)
      (record { have = (omega (arith, at), refl); wide = tt })
  checks_have_bound k s lo hi (a_binding p x v y bs) r at wh ws wi e =
      let q = after_ok _ _ r e in
      let sx = checks_has k s false lo (lo + sites k y) (wanted_by v) y q.0 refl wh ws wi.1 (wide_written v wi.0) q.1 in
      let u = after_ok _ _ r q.2 in
      let sr = checks_have_bound k s (lo + sites k y) hi bs u.0 (omega (arith, at)) wh ws wi.2 u.1 in
      subst (λ (z : TypedAll). IsSoundBound (HaveBound k s lo hi (a_binding p x v y bs)) z) (ok_is _ r u.2)
      (record { have = (lo + sites k y, q.0.term, u.0.terms, keeps_written v y q.0.width sx.met, sx.has, sr.have, refl); wide = (sx.wide, sr.wide) })
