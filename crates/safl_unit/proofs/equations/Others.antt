-- Other members of a unit, by the bits of all of its members.
use Rattle.safl_unit.proofs.Common.{AreBits, Builds, Netlist, Program, Sig, Val, Wired, and-false, bits_kept, both_ways, eq_flip, get_end}
use Rattle.safl_unit.proofs.Common.{get_in_front, many, maybe_one, nil_at_end, on, on_any, on_two, or-false, wired_before}
use Rattle.std.proofs.Common.{◌≡◌, ℕ, zero, suc, ◌+◌, ◌<◌, ◌≤◌, List, [], ◌∷◌, ◌++◌, length, Option, Some, None, slice_get, Bool, true, false, cond}
use Rattle.std.proofs.Common.{not, ltb, ◌&&◌, ◌||◌, ◌==◌, ◌⊎◌, inl, inr, ⊎_elim, refl, sym, ap, subst, ◌∙◌, add-one, arith}
use Rattle.std.proofs.lemmas.List.{length_push}
use Rattle.std.proofs.lemmas.Bool.{cases_eq, cases_lt, false≢true, ne_eqb, eqb-true, eqb-false, lt-ltb, le-ltb, or_left, or_right, and_parts, not-true}
use Rattle.safl_lower.specs.Tables.{entry_in, on_in, on_from, IsBitIn, BitsFit}
use Rattle.safl_lower.proofs.BitWords.{same}
use Rattle.safl_lower.proofs.JoinedRows.{any_append, two_append, bits_push}
use Rattle.safl_unit.specs.Edges.{one_below, entry_row, others_on, rival, ShowsBelow}
use Rattle.safl_unit.proofs.equations.Groups.{many_true}

pub below_true : (t : ℕ → Bool) (n : ℕ) → one_below t n ≡ true → (i : ℕ) × (i < n) × (t i ≡ true)
unfolding one_below
below_true t zero h = absurd (false≢true h)
below_true t (suc n) h = by (below_true t n) (one_below t n) refl h
  where
    by : (one_below t n ≡ true → (i : ℕ) × (i < n) × (t i ≡ true)) → (b : Bool) → one_below t n ≡ b → (b || t n) ≡ true → (i : ℕ) × (i < suc n) × (t i ≡ true)
    by ih true e k = let r = ih e in (r.0, omega (arith, r.1), r.2)
    by ih false e k = (n, omega arith, k)

pub below_found : (t : ℕ → Bool) (n i : ℕ) → i < n → t i ≡ true → one_below t n ≡ true
unfolding one_below
below_found t zero i l e = absurd (omega (arith, l))
below_found t (suc n) i l e =
    ⊎_elim (λ (same : i ≡ n). or_right (one_below t n) (t n) (ap t (sym same) ∙ e))
    (λ (other : i ≡ n → ⊥). or_left (one_below t n) (t n) (below_found t n i (omega (arith, l, other)) e)) (cases_eq i n)

-- ---- the row of a unit

pub entry_zero : (C : Program) (es : List (Option Sig)) (u : ℕ) → entry_row C es u 0 ≡ []
unfolding entry_row
entry_zero C es u = refl

entry_suc : (C : Program) (es : List (Option Sig)) (u m : ℕ) → entry_row C es u (suc m) ≡ entry_row C es u m ++ cond (u == C.unit m) (maybe_one (entry_in (slice_get es m))) []
unfolding entry_row
entry_suc C es u m = refl

pub entry_next : (C : Program) (es : List (Option Sig)) (u m : ℕ) → entry_row C es u (m + 1) ≡ entry_row C es u m ++ cond (u == C.unit m) (maybe_one (entry_in (slice_get es m))) []
entry_next C es u m = ap (entry_row C es u) (add-one m) ∙ entry_suc C es u m

pub maybe_fits : (n : Netlist) (xs : List Sig) (t : Bool) (o : Option Sig) → AreBits n xs → IsBitIn n o → AreBits n (xs ++ cond t (maybe_one o) [])
maybe_fits n xs true None h q = subst (AreBits n) (nil_at_end xs) h
maybe_fits n xs true (Some s) h q = bits_push n xs s h q
maybe_fits n xs false o h q = subst (AreBits n) (nil_at_end xs) h

pub entries_fit : (C : Program) (n : Netlist) (es : List (Option Sig)) (u : ℕ) → BitsFit n es → (m : ℕ) → AreBits n (entry_row C es u m)
entries_fit C n es u h zero = subst (AreBits n) (sym (entry_zero C es u)) tt
entries_fit C n es u h (suc m) = subst (AreBits n) (sym (entry_suc C es u m)) (maybe_fits n (entry_row C es u m) (u == C.unit m) (entry_in (slice_get es m)) (entries_fit C n es u h m) (h m))

one_on : (v : Val) (t : Bool) (o : Option Sig) → on_any v (cond t (maybe_one o) []) ≡ (t && on_in v o)
one_on v true None = refl
one_on v true (Some s) = or-false (on v s)
one_on v false o = refl

one_two : (v : Val) (t : Bool) (o : Option Sig) → on_two v (cond t (maybe_one o) []) ≡ false
one_two v true None = refl
one_two v true (Some s) = and-false (on v s)
one_two v false o = refl

pub any_next : (v : Val) (xs ys : List Sig) (t : Bool) (o : Option Sig) → ys ≡ xs ++ cond t (maybe_one o) [] → on_any v ys ≡ (on_any v xs || (t && on_in v o))
any_next v xs ys t o e = ap (on_any v) e ∙ any_append v xs (cond t (maybe_one o) []) ∙ ap (λ (b : Bool). on_any v xs || b) (one_on v t o)

two_next : (v : Val) (xs ys : List Sig) (t : Bool) (o : Option Sig) → ys ≡ xs ++ cond t (maybe_one o) [] → on_two v ys ≡ (on_two v xs || (on_any v xs && (t && on_in v o)))
two_next v xs ys t o e =
    ap (on_two v) e ∙ two_append v xs (cond t (maybe_one o) []) ∙ ap (λ (b : Bool). b || (on_two v xs || (on_any v xs && on_any v (cond t (maybe_one o) [])))) (one_two v t o)
    ∙ ap (λ (b : Bool). on_two v xs || (on_any v xs && b)) (one_on v t o)

-- ---- another member

-- r is that two are, or one is and own is not; own is one of them
record Known (r t a x : Bool) : Type 0 where
  is : r ≡ (t || (a && not x))
  own : (x && not a) ≡ false

moved : (r t a x r2 t2 a2 x2 : Bool) → r2 ≡ r → t2 ≡ t → a2 ≡ a → x2 ≡ x → Known r t a x → Known r2 t2 a2 x2
moved r t a x r2 t2 a2 x2 er et ea ex h = record {
  is = er ∙ h.is ∙ ap (λ (b : Bool). b || (a && not x)) (sym et) ∙ ap (λ (b : Bool). t2 || (b && not x)) (sym ea) ∙ ap (λ (b : Bool). t2 || (a2 && not b)) (sym ex);
  own = ap (λ (b : Bool). b && not a2) ex ∙ ap (λ (b : Bool). x && not b) ea ∙ h.own;
}

step_other : (t a b x : Bool) → (x && not a) ≡ false → ((t || (a && not x)) || b) ≡ ((t || (a && b)) || ((a || b) && not x))
step_other true a b x h = refl
step_other false true true true h = refl
step_other false true false true h = refl
step_other false true true false h = refl
step_other false true false false h = refl
step_other false false b true h = absurd (false≢true (sym h))
step_other false false true false h = refl
step_other false false false false h = refl

own_other : (a b x : Bool) → (x && not a) ≡ false → (x && not (a || b)) ≡ false
own_other true b true h = refl
own_other false b true h = absurd (false≢true (sym h))
own_other a b false h = refl

step_self : (t a b : Bool) → ((t || (a && true)) || false) ≡ ((t || (a && b)) || ((a || b) && not b))
step_self true a b = refl
step_self false true true = refl
step_self false true false = refl
step_self false false true = refl
step_self false false false = refl

own_self : (a b : Bool) → (b && not (a || b)) ≡ false
own_self true true = refl
own_self false true = refl
own_self a false = refl

known_other : (r t a x b : Bool) → Known r t a x → Known (r || b) (t || (a && b)) (a || b) x
known_other r t a x b h = record { is = ap (λ (c : Bool). c || b) h.is ∙ step_other t a b x h.own; own = own_other a b x h.own }

known_self : (r t a b : Bool) → Known r t a false → Known (r || false) (t || (a && b)) (a || b) b
known_self r t a b h = record { is = ap (λ (c : Bool). c || false) h.is ∙ step_self t a b; own = own_self a b }

pub below_zero : (t : ℕ → Bool) → one_below t 0 ≡ false
unfolding one_below
below_zero t = refl

below_suc : (t : ℕ → Bool) (n : ℕ) → one_below t (suc n) ≡ (one_below t n || t n)
unfolding one_below
below_suc t n = refl

later_same : (f m : ℕ) → (m ≡ f → ⊥) → ltb f (suc m) ≡ ltb f m
later_same f m other = by (cases_lt m f)
  where
    by : (m < f) ⊎ (f ≤ m) → ltb f (suc m) ≡ ltb f m
    by (inl l) = le-ltb f (suc m) (omega (arith, l)) ∙ sym (le-ltb f m (omega (arith, l)))
    by (inr l) = lt-ltb f (suc m) (omega (arith, l)) ∙ sym (lt-ltb f m (omega (arith, l, other)))

module _ (C : Program) (v : Val) (es : List (Option Sig)) (f : ℕ) where
  rival_self : (m : ℕ) → m ≡ f → rival C (on_from v es) f m ≡ false
  rival_self m q = ap (λ (b : Bool). (C.unit m == C.unit f) && (not b && on_from v es m)) (ap (λ (k : ℕ). k == f) q ∙ same f) ∙ and-false (C.unit m == C.unit f)

  rival_other : (m : ℕ) → (m ≡ f → ⊥) → rival C (on_from v es) f m ≡ ((C.unit f == C.unit m) && on_from v es m)
  rival_other m q = ap (λ (b : Bool). (C.unit m == C.unit f) && (not b && on_from v es m)) (ne_eqb m f q) ∙ ap (λ (b : Bool). b && on_from v es m) (eq_flip (C.unit m) (C.unit f))

  others_known : (m : ℕ) → Known (one_below (rival C (on_from v es) f) m) (on_two v (entry_row C es (C.unit f) m)) (on_any v (entry_row C es (C.unit f) m)) (ltb f m && on_from v es f)
  others_known zero =
      moved false false false false _ _ _ _ (below_zero (rival C (on_from v es) f)) (ap (on_two v) (entry_zero C es (C.unit f)))
      (ap (on_any v) (entry_zero C es (C.unit f))) (ap (λ (b : Bool). b && on_from v es f) (le-ltb f 0 (omega arith)))
      (record { is = refl; own = refl })
  others_known (suc m) = by (others_known m) (cases_eq m f)
    where
      by : Known (one_below (rival C (on_from v es) f) m) (on_two v (entry_row C es (C.unit f) m)) (on_any v (entry_row C es (C.unit f) m)) (ltb f m && on_from v es f) → (m ≡ f) ⊎ (m ≡ f → ⊥)
          → Known (one_below (rival C (on_from v es) f) (suc m)) (on_two v (entry_row C es (C.unit f) (suc m))) (on_any v (entry_row C es (C.unit f) (suc m))) (ltb f (suc m) && on_from v es f)
      by h (inl q) =
          let r = one_below (rival C (on_from v es) f) m in
          let xs = entry_row C es (C.unit f) m in
          let t = on_two v xs in
          let a = on_any v xs in
          let x = on_from v es f in
          let bit : ((C.unit f == C.unit m) && on_from v es m) ≡ x = ap (λ (k : ℕ). (C.unit f == C.unit k) && on_from v es k) q ∙ ap (λ (b : Bool). b && x) (same (C.unit f)) in
          let before = moved r t a (ltb f m && x) r t a false refl refl refl (sym (ap (λ (b : Bool). b && x) (le-ltb f m (omega (arith, q))))) h in
          moved (r || false) (t || (a && x)) (a || x) x _ _ _ _ (below_suc (rival C (on_from v es) f) m ∙ ap (λ (b : Bool). r || b) (rival_self m q))
          (two_next v xs (entry_row C es (C.unit f) (suc m)) (C.unit f == C.unit m) (entry_in (slice_get es m)) (entry_suc C es (C.unit f) m) ∙ ap (λ (b : Bool). t || (a && b)) bit)
          (any_next v xs (entry_row C es (C.unit f) (suc m)) (C.unit f == C.unit m) (entry_in (slice_get es m)) (entry_suc C es (C.unit f) m) ∙ ap (λ (b : Bool). a || b) bit)
          (ap (λ (b : Bool). b && x) (lt-ltb f (suc m) (omega (arith, q)))) (known_self r t a x before)
      by h (inr q) =
          let r = one_below (rival C (on_from v es) f) m in
          let xs = entry_row C es (C.unit f) m in
          let t = on_two v xs in
          let a = on_any v xs in
          let x = ltb f m && on_from v es f in
          let b = (C.unit f == C.unit m) && on_from v es m in
          moved (r || b) (t || (a && b)) (a || b) x _ _ _ _ (below_suc (rival C (on_from v es) f) m ∙ ap (λ (k : Bool). r || k) (rival_other m q))
          (two_next v xs (entry_row C es (C.unit f) (suc m)) (C.unit f == C.unit m) (entry_in (slice_get es m)) (entry_suc C es (C.unit f) m))
          (any_next v xs (entry_row C es (C.unit f) (suc m)) (C.unit f == C.unit m) (entry_in (slice_get es m)) (entry_suc C es (C.unit f) m))
          (ap (λ (k : Bool). k && on_from v es f) (later_same f m q)) (known_other r t a x b h)

  -- a unit with one member has no other
  alone_rival : many C f ≡ false → one_below (rival C (on_from v es) f) C.functions ≡ false
  alone_rival one = both_ways _ false to (λ h. absurd (false≢true h))
    where
      to : one_below (rival C (on_from v es) f) C.functions ≡ true → false ≡ true
      to h =
          let g = below_true (rival C (on_from v es) f) C.functions h in
          let p = and_parts (C.unit g.0 == C.unit f) (not (g.0 == f) && on_from v es g.0) g.2 in
          let q = and_parts (not (g.0 == f)) (on_from v es g.0) p.1 in
          sym one ∙ many_true C f g.0 g.1 (eqb-true (C.unit g.0) (C.unit f) p.0) (eqb-false g.0 f (not-true (g.0 == f) q.0))

  pub rivals_are : (t : Bool) (own : Option Sig) → f < C.functions → t ≡ many C f → slice_get es f ≡ Some own →
      (t && others_on v (entry_row C es (C.unit f) C.functions) own) ≡ one_below (rival C (on_from v es) f) C.functions
  rivals_are true own l e at =
      let k = others_known C.functions in
      ap (λ (o : Option (Option Sig)). on_two v (entry_row C es (C.unit f) C.functions) || (on_any v (entry_row C es (C.unit f) C.functions) && not (on_in v (entry_in o)))) (sym at)
      ∙ ap (λ (b : Bool). on_two v (entry_row C es (C.unit f) C.functions) || (on_any v (entry_row C es (C.unit f) C.functions) && not (b && on_from v es f))) (sym (lt-ltb f C.functions l)) ∙ sym k.is
  rivals_are false own l e at = sym (alone_rival (sym e))

-- ---- one function after another

pub below_none_yet : (n : Netlist) (xs : List (Option Sig)) (says : Val → ℕ → Bool) → xs ≡ [] → ShowsBelow n xs 0 says
below_none_yet n xs says e = record {
  entries = ap (λ (l : List (Option Sig)). length l) e;
  fits = subst (BitsFit n) (sym e) (λ i. tt);
  shows = λ v w i l. absurd (omega (arith, l));
}

push_fits : (n : Netlist) (xs : List (Option Sig)) (o : Option Sig) → BitsFit n xs → IsBitIn n o → BitsFit n (xs ++ o ∷ [])
push_fits n [] o h q zero = q
push_fits n [] o h q (suc i) = tt
push_fits n (x ∷ xs) o h q zero = h 0
push_fits n (x ∷ xs) o h q (suc i) = push_fits n xs o (λ j. h (suc j)) q i

pub below_one_more : (a b : Netlist) (k m : ℕ) (xs after : List (Option Sig)) (o : Option Sig) (says : Val → ℕ → Bool) → Builds a b k → ShowsBelow a
    xs m says → after ≡ xs ++ o ∷ [] → IsBitIn b o → ((v : Val) → Wired b v → on_in v o ≡ says v m)
    → ShowsBelow b after (m + 1) says
below_one_more a b k m xs after o says g h e q r = subst (λ (l : List (Option Sig)). ShowsBelow b l (m + 1) says) (sym e) record {
  entries = let c = h.entries in length_push xs o ∙ omega (arith, c);
  fits = push_fits b xs o (bits_kept g xs h.fits) q;
  shows = λ v w i l. by v w i l (cases_eq i m);
}
  where
    by : (v : Val) → Wired b v → (i : ℕ) → i < m + 1 → (i ≡ m) ⊎ (i ≡ m → ⊥) → on_from v (xs ++ o ∷ []) i ≡ says v i
    by v w i l (inl z) =
        let there : slice_get (xs ++ o ∷ []) i ≡ Some o = ap (slice_get (xs ++ o ∷ [])) (z ∙ sym h.entries) ∙ get_end xs o in
        ap (λ (x : Option (Option Sig)). on_in v (entry_in x)) there ∙ r v w ∙ ap (says v) (sym z)
    by v w i l (inr z) =
        let c = h.entries in
        ap (λ (x : Option (Option Sig)). on_in v (entry_in x)) (get_in_front xs (o ∷ []) i (omega (arith, l, z, c))) ∙ h.shows v (wired_before g.grows w) i (omega (arith, l, z))
