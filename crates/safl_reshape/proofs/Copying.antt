-- Calls of a program in which a function is copied for the call of one site.
use Rattle.safl_reshape.proofs.Common.{Program, Term, Terms, Trees, arity, copying_call, own_call, place_of, slice_get, ◌==◌}
use Rattle.std.proofs.Common.{◌≡◌, ℕ, suc, ◌+◌, ◌<◌, ◌≤◌, List, [], length, Some, Bool, true, false, cond, refl, sym, ap, ◌∙◌, subst, arith, inl, inr, ◌⊎◌, ⊎_elim}
use Rattle.std.proofs.lemmas.Bool.{eqb-true, cases_lt}
use Rattle.safl_term.specs.Terms as terms
use Rattle.safl_term.specs.Slots.{count}
use Rattle.safl_typing.specs.Rewriting.{Call, Expressions, rewritten, rewritten_all}
use Rattle.safl_typing.specs.Heads.{Slot, Head, Callee, Member, Above, Unknown, callee}
use Rattle.safl_typing.specs.Typing.{widths_of, Calls, HaveAll}
use Rattle.safl_reshape.proofs.Altered.{Alteration, IsRewriting}
use Rattle.safl_reshape.proofs.Shapes.{IsRigid}
use Rattle.safl_reshape.proofs.Shorts.{IsShort, no_callee}
use Rattle.safl_reshape.proofs.Sites.{Sites}
use Rattle.safl_reshape.proofs.Lookups.{NamesDiffer, IsCallee, is_callee, callee_member, callee_above}
use Rattle.safl_reshape.proofs.Moves.{MovedIn, AllMovedIn, CallsMove, have_count}
use Rattle.safl_reshape.proofs.Calls.{sees, stays_member, stays_above}
use Rattle.safl_reshape.proofs.Functions.{same_tail}
use Rattle.safl_reshape.proofs.Copies.{later_head}

-- ---- the changes of calls, rewritten

abbrev pub copy_alteration : ℕ → List ℕ → Alteration
copy_alteration k new (Member i h) lo p x es = Call p x es
copy_alteration k new (Above i h) lo p x es = Call p (cond (lo == k) new x) es
copy_alteration k new Unknown lo p x es = Call p x es

abbrev pub own_alteration : List ℕ → Alteration
own_alteration new (Member i h) lo p x es = Call p new es
own_alteration new (Above i h) lo p x es = Call p x es
own_alteration new Unknown lo p x es = Call p x es

copy_same : (k : ℕ) (new : List ℕ) (f : Callee) (lo p : ℕ) (x : List ℕ) (ts : Trees) →
    (rewritten (copying_call k new f lo p x ts) ≡ copy_alteration k new f lo p x (rewritten_all ts)) × (place_of (copying_call k new f lo p x ts) ≡ p)
copy_same k new (Member i h) lo p x ts = (refl, refl)
copy_same k new (Above i h) lo p x ts = (refl, refl)
copy_same k new Unknown lo p x ts = (refl, refl)

pub copy_rewriting : (k : ℕ) (new : List ℕ) → IsRewriting (copying_call k new) (copy_alteration k new)
copy_rewriting k new = record { same = λ f lo p x ts. (copy_same k new f lo p x ts).0; place = λ f lo p x ts. (copy_same k new f lo p x ts).1 }

own_same : (new : List ℕ) (f : Callee) (lo p : ℕ) (x : List ℕ) (ts : Trees) →
    (rewritten (own_call new f lo p x ts) ≡ own_alteration new f lo p x (rewritten_all ts)) × (place_of (own_call new f lo p x ts) ≡ p)
own_same new (Member i h) lo p x ts = (refl, refl)
own_same new (Above i h) lo p x ts = (refl, refl)
own_same new Unknown lo p x ts = (refl, refl)

pub own_rewriting : (new : List ℕ) → IsRewriting (own_call new) (own_alteration new)
own_rewriting new = record { same = λ f lo p x ts. (own_same new f lo p x ts).0; place = λ f lo p x ts. (own_same new f lo p x ts).1 }

pub copy_rigid : (k : ℕ) (new : List ℕ) → IsRigid (copy_alteration k new)
copy_rigid k new (Member i h) lo p x es = refl
copy_rigid k new (Above i h) lo p x es = refl
copy_rigid k new Unknown lo p x es = refl

pub own_rigid : (new : List ℕ) → IsRigid (own_alteration new)
own_rigid new (Member i h) lo p x es = refl
own_rigid new (Above i h) lo p x es = refl
own_rigid new Unknown lo p x es = refl

pub copy_short : (k : ℕ) (new : List ℕ) → IsShort (copy_alteration k new)
copy_short k new (Member i h) lo p x es s = s
copy_short k new (Above i h) lo p x es s = s
copy_short k new Unknown lo p x es s = s

pub own_short : (new : List ℕ) → IsShort (own_alteration new)
own_short new (Member i h) lo p x es s = s
own_short new (Above i h) lo p x es s = s
own_short new Unknown lo p x es s = s

-- ---- functions

-- function i of the one program is function y of the other, where function j is copied
abbrev pub IsCopied : ℕ → ℕ → ℕ → Type 0
IsCopied j i y = ((i ≤ j) × (y ≡ i)) ⊎ ((j ≤ i) × (y ≡ suc i))

abbrev pub no_site : ℕ → Bool
no_site s = false

-- the head of the copy
abbrev pub copy_head : List ℕ → List Slot → ℕ → ℕ → Head
copy_head new ps width j = record { name = new; params = ps; width = width; unit = suc j }

pub record AreCopied (C : Program) (all rest : List Head) (k j : ℕ) (new : List ℕ) (ps : List Slot) (width : ℕ) : Type 0 where
  pub differ : NamesDiffer rest
  pub before : (i : ℕ) (h : Head) → slice_get all i ≡ Some h → i ≤ j → slice_get rest i ≡ Some h
  pub behind : (i : ℕ) (h : Head) → slice_get all i ≡ Some h → j < i → slice_get rest (suc i) ≡ Some (later_head h)
  pub copy : slice_get rest (suc j) ≡ Some (copy_head new ps width j)
  -- function j is a group by itself
  pub own : (i : ℕ) (h : Head) → slice_get all i ≡ Some h → i ≡ j → (h.unit ≡ j) × (h.params ≡ ps) × (h.width ≡ width)
  pub least : (i : ℕ) (h : Head) → slice_get all i ≡ Some h → h.unit ≤ i
  pub later : (i : ℕ) (h : Head) → slice_get all i ≡ Some h → j < i → j < h.unit
  pub arities : (i : ℕ) (h : Head) → slice_get all i ≡ Some h → length (widths_of h.params) ≡ arity C i
  pub site : C.callee k ≡ j

module _ (C : Program) (all rest : List Head) (k j : ℕ) (new : List ℕ) (ps : List Slot) (width : ℕ) (is : AreCopied C all rest k j new ps width) where
  -- a body up to that of function j
  module _ (v : ℕ) (lt : v ≤ j) where
    first_call : (s : List Slot) (n : ℕ) (tail end : Bool) (p : ℕ) (x : List ℕ) (es fs : Expressions) (lo m hi : ℕ) (ws : List ℕ) (us : Terms) (w : ℕ)
        (t : Term) (from first : ℕ) (g : Callee) → IsCallee (sees all v) x g → Sites (λ s f. C.callee s ≡ f) t → same_tail tail end
        → HaveAll (sees all v) s m hi es ws us → Calls g tail lo m ws us w t →
        ((z : ℕ) → AllMovedIn C (IsCopied j) no_site (sees rest (v + 0)) [] s n z fs ws us) → first ≡ lo → MovedIn C (IsCopied j) no_site
        (sees rest (v + 0)) [] s n end from (copy_alteration k new g first p x fs) w t
    first_call s n tail end p x es fs lo m hi ws us w t from first (Member i h) ic si may hs q args f =
        let le : i ≤ j = ⊎_elim (λ (y : j < i). absurd (omega (arith, is.later i h ic.0.head y, ic.1, lt))) (λ (y : i ≤ j). y) (cases_lt j i) in
        let cal = callee_member (sees rest (v + 0)) x i h is.differ (is.before i h ic.0.head le) ic.0.name (omega (arith, ic.1)) in
        let ar = have_count (sees all v) s m hi es ws us hs ∙ (ap (λ (z : List ℕ). length z) q.2 ∙ is.arities i h ic.0.head) in
        subst (λ (z : Term). MovedIn C (IsCopied j) no_site (sees rest (v + 0)) [] s n end from (Call p x fs) w z) (sym q.4)
        (stays_member C (IsCopied j) no_site (sees rest (v + 0)) [] s n end from p x fs i i h ws us w cal (sym may ∙ q.0) q.2 q.3 (inl (le, refl)) ar (args from))
    first_call s n tail end p x es fs lo m hi ws us w t from first (Above i h) ic si may hs q args f =
        let sc = (subst (λ (z : Term). Sites (λ s f. C.callee s ≡ f) z) q.3 si).0 in
        let le : i ≤ j = ⊎_elim (λ (y : j < i). absurd (omega (arith, is.later i h ic.0.head y, ic.1, lt))) (λ (y : i ≤ j). y) (cases_lt j i) in
        let cal = callee_above (sees rest (v + 0)) x i h is.differ (is.before i h ic.0.head le) ic.0.name (omega (arith, ic.1)) in
        let ar = have_count (sees all v) s m hi es ws us hs ∙ (ap (λ (z : List ℕ). length z) q.1 ∙ is.arities i h ic.0.head) in
        subst (λ (z : Term). MovedIn C (IsCopied j) no_site (sees rest (v + 0)) [] s n end from (Call p (cond (first == k) new x) fs) w z) (sym q.3)
        (subst (λ (b : Bool). MovedIn C (IsCopied j) no_site (sees rest (v + 0)) [] s n end from (Call p (cond b new x) fs) w (terms.Call i lo us)) (sym (other (first == k) refl sc))
        (stays_above C (IsCopied j) no_site (sees rest (v + 0)) [] s n end from p x fs i i lo h ws us w cal q.1 q.2 refl (inl (le, refl)) ar (args (suc from))))
      where
        other : (b : Bool) → (first == k) ≡ b → C.callee lo ≡ i → (first == k) ≡ false
        other false e sc = e
        other true e sc =
            let r : i ≡ j = sym sc ∙ (ap C.callee (sym f ∙ eqb-true first k e) ∙ is.site) in
            absurd (omega (arith, (is.own i h ic.0.head r).0, ic.1, lt))
    first_call s n tail end p x es fs lo m hi ws us w t from first Unknown ic si may hs q args f = absurd q

    pub first_move : CallsMove C (IsCopied j) no_site (sees all v) (sees rest (v + 0)) (copy_alteration k new) [] same_tail no_callee (λ s f. C.callee s ≡ f)
    first_move = λ s n tail end p x es fs lo m hi ws us w t nm si may l hs q args first f from.
        first_call s n tail end p x es fs lo m hi ws us w t from first (callee (sees all v) x) (is_callee (sees all v) x) si may hs q args f

  -- a body after that of function j
  module _ (v : ℕ) (lt : j < v) where
    site_call : (s : List Slot) (n : ℕ) (end : Bool) (p : ℕ) (x : List ℕ) (fs : Expressions) (lo : ℕ) (ws : List ℕ) (us : Terms) (w from first i : ℕ)
        (h : Head) (b : Bool) → (first == k) ≡ b → IsCallee (sees all v) x (Above i h) → C.callee lo ≡ i → count us ≡ arity C i → ws ≡ widths_of h.params → h.width ≡ w
        → ((z : ℕ) → AllMovedIn C (IsCopied j) no_site (sees rest (v + 1)) [] s n z fs ws us) → first ≡ lo → MovedIn C (IsCopied j) no_site
        (sees rest (v + 1)) [] s n end from (Call p (cond b new x) fs) w (terms.Call i lo us)
    site_call s n end p x fs lo ws us w from first i h true e ic sc ar ew eh args f =
        let r : i ≡ j = sym sc ∙ (ap C.callee (sym f ∙ eqb-true first k e) ∙ is.site) in
        let o = is.own i h ic.0.head r in
        let cal = callee_above (sees rest (v + 1)) new (suc j) (copy_head new ps width j) is.differ is.copy refl (omega (arith, lt)) in
        stays_above C (IsCopied j) no_site (sees rest (v + 1)) [] s n end from p new fs i (suc j) lo (copy_head new ps width j) ws us w cal
        (ew ∙ ap (λ (z : List Slot). widths_of z) o.1) (sym o.2 ∙ eh) refl (inr (omega (arith, r), omega (arith, r))) ar (args (suc from))
    site_call s n end p x fs lo ws us w from first i h false e ic sc ar ew eh args f = ⊎_elim
        (λ (y : j < i).
        let cal = callee_above (sees rest (v + 1)) x (suc i) (later_head h) is.differ (is.behind i h ic.0.head y) ic.0.name (omega (arith, ic.1)) in
        stays_above C (IsCopied j) no_site (sees rest (v + 1)) [] s n end from p x fs i (suc i) lo (later_head h) ws us w cal ew eh refl (inr (omega (arith, y), refl)) ar (args (suc from)))
        (λ (y : i ≤ j).
        let cal = callee_above (sees rest (v + 1)) x i h is.differ (is.before i h ic.0.head y) ic.0.name (omega (arith, ic.1)) in
        stays_above C (IsCopied j) no_site (sees rest (v + 1)) [] s n end from p x fs i i lo h ws us w cal ew eh refl (inl (y, refl)) ar (args (suc from)))
        (cases_lt j i)

    second_call : (s : List Slot) (n : ℕ) (tail end : Bool) (p : ℕ) (x : List ℕ) (es fs : Expressions) (lo m hi : ℕ) (ws : List ℕ) (us : Terms)
        (w : ℕ) (t : Term) (from first : ℕ) (g : Callee) → IsCallee (sees all v) x g → Sites (λ s f. C.callee s ≡ f) t → same_tail tail end
        → HaveAll (sees all v) s m hi es ws us → Calls g tail lo m ws us w t →
        ((z : ℕ) → AllMovedIn C (IsCopied j) no_site (sees rest (v + 1)) [] s n z fs ws us) → first ≡ lo → MovedIn C (IsCopied j) no_site
        (sees rest (v + 1)) [] s n end from (copy_alteration k new g first p x fs) w t
    second_call s n tail end p x es fs lo m hi ws us w t from first (Member i h) ic si may hs q args f =
        let gt : j < i = ⊎_elim (λ (y : j < i). y) (λ (y : i ≤ j). absurd (omega (arith, is.least i h ic.0.head, ic.1, lt, y))) (cases_lt j i) in
        let cal = callee_member (sees rest (v + 1)) x (suc i) (later_head h) is.differ (is.behind i h ic.0.head gt) ic.0.name (omega (arith, ic.1)) in
        let ar = have_count (sees all v) s m hi es ws us hs ∙ (ap (λ (z : List ℕ). length z) q.2 ∙ is.arities i h ic.0.head) in
        subst (λ (z : Term). MovedIn C (IsCopied j) no_site (sees rest (v + 1)) [] s n end from (Call p x fs) w z) (sym q.4)
        (stays_member C (IsCopied j) no_site (sees rest (v + 1)) [] s n end from p x fs i (suc i) (later_head h) ws us w cal (sym may ∙ q.0) q.2 q.3 (inr (omega (arith, gt), refl)) ar (args from))
    second_call s n tail end p x es fs lo m hi ws us w t from first (Above i h) ic si may hs q args f =
        let sc = (subst (λ (z : Term). Sites (λ s f. C.callee s ≡ f) z) q.3 si).0 in
        let ar = have_count (sees all v) s m hi es ws us hs ∙ (ap (λ (z : List ℕ). length z) q.1 ∙ is.arities i h ic.0.head) in
        subst (λ (z : Term). MovedIn C (IsCopied j) no_site (sees rest (v + 1)) [] s n end from (Call p (cond (first == k) new x) fs) w z) (sym q.3)
        (site_call s n end p x fs lo ws us w from first i h (first == k) refl ic sc ar q.1 q.2 args f)
    second_call s n tail end p x es fs lo m hi ws us w t from first Unknown ic si may hs q args f = absurd q

    pub second_move : CallsMove C (IsCopied j) no_site (sees all v) (sees rest (v + 1)) (copy_alteration k new) [] same_tail no_callee (λ s f. C.callee s ≡ f)
    second_move = λ s n tail end p x es fs lo m hi ws us w t nm si may l hs q args first f from.
        second_call s n tail end p x es fs lo m hi ws us w t from first (callee (sees all v) x) (is_callee (sees all v) x) si may hs q args f

  -- the body of the copy
  copy_call : (s : List Slot) (n : ℕ) (tail end : Bool) (p : ℕ) (x : List ℕ) (es fs : Expressions) (lo m hi : ℕ) (ws : List ℕ) (us : Terms) (w : ℕ)
      (t : Term) (from first : ℕ) (g : Callee) → IsCallee (sees all j) x g → same_tail tail end
      → HaveAll (sees all j) s m hi es ws us → Calls g tail lo m ws us w t →
      ((z : ℕ) → AllMovedIn C (IsCopied j) no_site (sees rest (suc j)) [] s n z fs ws us) → MovedIn C (IsCopied j) no_site (sees rest (suc j)) []
      s n end from (own_alteration new g first p x fs) w t
  copy_call s n tail end p x es fs lo m hi ws us w t from first (Member i h) ic may hs q args =
      let r : i ≡ j = ⊎_elim (λ (y : j < i). absurd (omega (arith, is.later i h ic.0.head y, ic.1))) (λ (y : i ≤ j). let z = is.least i h ic.0.head in omega (arith, z, ic.1, y)) (cases_lt j i) in
      let o = is.own i h ic.0.head r in
      let cal = callee_member (sees rest (suc j)) new (suc j) (copy_head new ps width j) is.differ is.copy refl refl in
      let ar = have_count (sees all j) s m hi es ws us hs ∙ (ap (λ (z : List ℕ). length z) q.2 ∙ is.arities i h ic.0.head) in
      subst (λ (z : Term). MovedIn C (IsCopied j) no_site (sees rest (suc j)) [] s n end from (Call p new fs) w z) (sym q.4)
      (stays_member C (IsCopied j) no_site (sees rest (suc j)) [] s n end from p new fs i (suc j) (copy_head new ps width j) ws us w cal
      (sym may ∙ q.0) (q.2 ∙ ap (λ (z : List Slot). widths_of z) o.1) (sym o.2 ∙ q.3) (inr (omega (arith, r), omega (arith, r))) ar (args from))
  copy_call s n tail end p x es fs lo m hi ws us w t from first (Above i h) ic may hs q args =
      let le : i ≤ j = ⊎_elim (λ (y : j < i). absurd (omega (arith, is.later i h ic.0.head y, ic.1))) (λ (y : i ≤ j). y) (cases_lt j i) in
      let cal = callee_above (sees rest (suc j)) x i h is.differ (is.before i h ic.0.head le) ic.0.name (omega (arith, ic.1)) in
      let ar = have_count (sees all j) s m hi es ws us hs ∙ (ap (λ (z : List ℕ). length z) q.1 ∙ is.arities i h ic.0.head) in
      subst (λ (z : Term). MovedIn C (IsCopied j) no_site (sees rest (suc j)) [] s n end from (Call p x fs) w z) (sym q.3)
      (stays_above C (IsCopied j) no_site (sees rest (suc j)) [] s n end from p x fs i i lo h ws us w cal q.1 q.2 refl (inl (le, refl)) ar (args (suc from)))
  copy_call s n tail end p x es fs lo m hi ws us w t from first Unknown ic may hs q args = absurd q

  pub copy_move : CallsMove C (IsCopied j) no_site (sees all j) (sees rest (suc j)) (own_alteration new) [] same_tail no_callee (λ s f. C.callee s ≡ f)
  copy_move = λ s n tail end p x es fs lo m hi ws us w t nm si may l hs q args first f from.
      copy_call s n tail end p x es fs lo m hi ws us w t from first (callee (sees all j) x) (is_callee (sees all j) x) may hs q args
