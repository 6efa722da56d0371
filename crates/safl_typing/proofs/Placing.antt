-- What holds of each function of a program that has a form.
use Rattle.safl_typing.proofs.Common.{Definition, Function, Program, Site, length-append, same_Some, shown_term}
use Rattle.std.proofs.Common.{◌≡◌, ℕ, zero, suc, ◌+◌, ◌<◌, ◌≤◌, List, [], ◌∷◌, ◌++◌, length, map, Some, Bool, true, false, cond, refl, sym, ap, ◌∙◌, subst, inl, inr, ◌⊎◌, arith}
use Rattle.std.specs.Prelude.{slice_get, sum_by}
use Rattle.std.specs.Option.{option_map_or}
use Rattle.std.proofs.lemmas.List.Sums.{sum_by-cons}
use Rattle.safl_term.specs.Sizes as sizes
use Rattle.safl_term.specs.Terms.{Term, Terms}
use Rattle.safl_typing.specs.Rewriting.{Expression, rewritten, Number, Sized, Variable, If, Let, Op, Call, Expressions, no_expression, an_expression, Bindings, no_binding, a_binding}
use Rattle.safl_typing.specs.Heads.{Slot, Head, Known, Callee, Member, Above, Unknown, callee, unit_of, params_of, head_of, heads_from}
use Rattle.safl_typing.specs.Typing.{slots, Calls, Has, HaveAll, HaveBound}
use Rattle.safl_typing.specs.Forms.{FunctionForm, shown_function, sites_of, sites_of_all, all_sites, nodes_of, IsFunctionOf, AreFunctionsOf}
use Rattle.safl_typing.proofs.Widths.{Agrees, CalleeAt, callee_at}
use Rattle.safl_typing.proofs.Spans.{Noted, noted_parts, has_length, has_nodes}
use Rattle.safl_typing.proofs.Walks.{functions_rise}

abbrev pub AreShown : List Head → ℕ → ℕ → ℕ → ℕ → ℕ → List Definition → List Function → Type 0
AreShown all n u w lo hi ds fs = AreFunctionsOf all n u w lo hi ds (map shown_function fs)

-- function n + i, its definition, its group, and its sites from first up to end
pub record At (C : Program) (all : List Head) (n u lo hi : ℕ) (ds : List Definition) (fs : List Function) (i : ℕ) : Type 0 where
  pub def : Definition
  pub function : Function
  pub unit : ℕ
  pub first : ℕ
  pub end : ℕ
  pub stands : slice_get fs i ≡ Some function
  pub defined : slice_get ds i ≡ Some def
  pub is : IsFunctionOf all unit first end def (shown_function function)
  pub head : slice_get (heads_from n u ds) i ≡ Some (head_of unit def)
  pub from : lo ≤ first
  pub until : end ≤ hi
  pub next : option_map_or (λ (f : Function). f.first_site) (slice_get fs (suc i)) hi ≡ end
  pub noted : Noted C first (sites_of (n + i) (shown_term function.body))

pub next_first : (all : List Head) (n u w lo hi : ℕ) (ds : List Definition) (fs : List Function) → AreShown all n u w lo hi ds fs → option_map_or
    (λ (f : Function). f.first_site) (slice_get fs 0) hi ≡ lo
next_first all n u w lo hi [] [] h = sym h
next_first all n u w lo hi [] (f ∷ fs) h = absurd h
next_first all n u w lo hi (d ∷ ds) [] h = absurd h
next_first all n u w lo hi (d ∷ ds) (f ∷ fs) (m, is, j, rest) = is.first_site

pub place_at : (C : Program) (all : List Head) (n u w lo hi : ℕ) (ds : List Definition) (fs : List Function) (i : ℕ) → i < length fs → AreShown all n
    u w lo hi ds fs → Noted C lo (all_sites n (map shown_function fs)) → At C all n u lo hi ds fs i
place_at C all n u w lo hi [] [] i lt h noted = absurd (omega (arith, lt))
place_at C all n u w lo hi [] (f ∷ fs) i lt h noted = absurd h
place_at C all n u w lo hi (d ∷ ds) [] i lt h noted = absurd h
place_at C all n u w lo hi (d ∷ ds) (f ∷ fs) zero lt (m, is, j, rest) noted =
    let k : Known = record { heads = all; unit = unit_of n u d } in
    let e : n ≡ n + 0 = omega arith in
    let p = noted_parts C lo m (sites_of n (shown_term f.body)) (all_sites (suc n) (map shown_function fs))
    (has_length n k (params_of d) true lo m (rewritten d.body) d.width (shown_term f.body) is.body) noted in
    record {
      def = d;
      function = f;
      unit = unit_of n u d;
      first = lo;
      end = m;
      stands = refl;
      defined = refl;
      is = is;
      head = refl;
      from = omega arith;
      until = functions_rise all (suc n) (unit_of n u d) d.width m hi ds (map shown_function fs) rest;
      next = next_first all (suc n) (unit_of n u d) d.width m hi ds fs rest;
      noted = subst (λ (g : ℕ). Noted C lo (sites_of g (shown_term f.body))) e p.0;
    }
place_at C all n u w lo hi (d ∷ ds) (f ∷ fs) (suc i) lt (m, is, j, rest) noted =
    let k : Known = record { heads = all; unit = unit_of n u d } in
    let e : suc n + i ≡ n + suc i = omega arith in
    let l = has_length n k (params_of d) true lo m (rewritten d.body) d.width (shown_term f.body) is.body in
    let p = noted_parts C lo m (sites_of n (shown_term f.body)) (all_sites (suc n) (map shown_function fs)) l noted in
    let a = place_at C all (suc n) (unit_of n u d) d.width m hi ds fs i (omega (arith, lt)) rest p.1 in
    record {
      def = a.def;
      function = a.function;
      unit = a.unit;
      first = a.first;
      end = a.end;
      stands = a.stands;
      defined = a.defined;
      is = a.is;
      head = a.head;
      from = omega (arith, a.from, l);
      until = a.until;
      next = a.next;
      noted = subst (λ (g : ℕ). Noted C a.first (sites_of g (shown_term a.function.body))) e a.noted;
    }

unit_here : (b : Bool) (n u : ℕ) (d w : ℕ) (P : Type 0) → (b ≡ true → d ≡ w) → ((cond b u n ≡ u) × (d ≡ w) → P) → (cond b u n ≡ n → P) → P
unit_here true n u d w P j f g = f (refl, j refl)
unit_here false n u d w P j f g = g refl

pub step_at : (all : List Head) (n u w lo hi : ℕ) (ds : List Definition) (fs : List Function) (i : ℕ) (f g : Function) → AreShown all n u w lo hi ds
    fs → slice_get fs i ≡ Some f → slice_get fs (suc i) ≡ Some g
    → ((g.unit ≡ f.unit) × (g.width ≡ f.width)) ⊎ (g.unit ≡ suc (n + i))
step_at all n u w lo hi ds [] i f g h e q = absurd cc
step_at all n u w lo hi [] (x ∷ fs) i f g h e q = absurd h
step_at all n u w lo hi (d ∷ ds) (x ∷ []) zero f g h e q = absurd cc
step_at all n u w lo hi (d ∷ []) (x ∷ (y ∷ fs)) zero f g (m, is, j, rest) e q = absurd rest
step_at all n u w lo hi (d ∷ (c ∷ ds)) (x ∷ (y ∷ fs)) zero f g (m, is, j, (m2, is2, j2, rest)) e q =
    let ef : x ≡ f = same_Some x f e in
    let eg : y ≡ g = same_Some y g q in
    let uf : f.unit ≡ unit_of n u d = sym (ap (λ (z : Function). z.unit) ef) ∙ is.unit in
    let ug : g.unit ≡ unit_of (suc n) (unit_of n u d) c = sym (ap (λ (z : Function). z.unit) eg) ∙ is2.unit in
    let wf : f.width ≡ d.width = sym (ap (λ (z : Function). z.width) ef) ∙ is.width in
    let wg : g.width ≡ c.width = sym (ap (λ (z : Function). z.width) eg) ∙ is2.width in
    unit_here c.joined (suc n) (unit_of n u d) c.width d.width (((g.unit ≡ f.unit) × (g.width ≡ f.width)) ⊎ (g.unit ≡ suc (n + 0))) j2
    (λ r. inl (ug ∙ (r.0 ∙ sym uf), wg ∙ (r.1 ∙ sym wf)))
    (λ r. inr (omega (arith, ug, r)))
step_at all n u w lo hi (d ∷ ds) (x ∷ fs) (suc i) f g (m, is, j, rest) e q =
    let r = step_at all (suc n) (unit_of n u d) d.width m hi ds fs i f g rest e q in
    let s : suc (suc n + i) ≡ suc (n + suc i) = omega arith in
    subst (λ (z : ℕ). ((g.unit ≡ f.unit) × (g.width ≡ f.width)) ⊎ (g.unit ≡ z)) s r

pub lengths_same : (all : List Head) (n u w lo hi : ℕ) (ds : List Definition) (fs : List Function) → AreShown all n u w lo hi ds fs → length fs ≡ length ds
lengths_same all n u w lo hi [] [] h = refl
lengths_same all n u w lo hi [] (f ∷ fs) h = absurd h
lengths_same all n u w lo hi (d ∷ ds) [] h = absurd h
lengths_same all n u w lo hi (d ∷ ds) (f ∷ fs) (m, is, j, rest) = ap (λ (z : ℕ). suc z) (lengths_same all (suc n) (unit_of n u d) d.width m hi ds fs rest)

pub sites_length : (all : List Head) (n u w lo hi : ℕ) (ds : List Definition) (fs : List FunctionForm) → AreFunctionsOf all n u w lo hi ds fs → hi ≡ lo + length (all_sites n fs)
sites_length all n u w lo hi [] [] h = omega (arith, h)
sites_length all n u w lo hi [] (f ∷ fs) h = absurd h
sites_length all n u w lo hi (d ∷ ds) [] h = absurd h
sites_length all n u w lo hi (d ∷ ds) (f ∷ fs) (m, is, j, rest) =
    let k : Known = record { heads = all; unit = unit_of n u d } in
    omega (
      arith,
      length-append (sites_of n f.body) (all_sites (suc n) fs),
      has_length n k (params_of d) true lo m (rewritten d.body) d.width f.body
          is.body,
      sites_length all (suc n) (unit_of n u d) d.width m hi ds fs rest,
    )

pub nodes_same : (all : List Head) (n u w lo hi : ℕ) (ds : List Definition) (fs : List Function) → AreShown all n u w lo hi ds fs → sum_by
    (λ (f : Function). sizes.nodes (shown_term f.body)) fs ≡ nodes_of ds
nodes_same all n u w lo hi [] [] h = refl
nodes_same all n u w lo hi [] (f ∷ fs) h = absurd h
nodes_same all n u w lo hi (d ∷ ds) [] h = absurd h
nodes_same all n u w lo hi (d ∷ ds) (f ∷ fs) (m, is, j, rest) =
    let k : Known = record { heads = all; unit = unit_of n u d } in
    sum_by-cons (λ (f : Function). sizes.nodes (shown_term f.body)) f fs
    ∙ omega (arith, has_nodes k (params_of d) true lo m (rewritten d.body) d.width (shown_term f.body) is.body, nodes_same all (suc n) (unit_of n u d) d.width m hi ds fs rest)

pub heads_length : (n u : ℕ) (ds : List Definition) → length (heads_from n u ds) ≡ length ds
heads_length n u [] = refl
heads_length n u (d ∷ ds) = ap (λ (z : ℕ). suc z) (heads_length (suc n) (unit_of n u d) ds)

-- ---- sites of calls of earlier groups

pub record IsGood (C : Program) (x : Site) : Type 0 where
  pub caller : x.caller < C.functions
  pub callee : x.callee < C.functions
  pub earlier : C.unit x.callee < C.unit x.caller

abbrev pub AllGood : Program → List Site → Type 0
AllGood C [] = Unit {0}
AllGood C (x ∷ xs) = IsGood C x × AllGood C xs

good_append : (C : Program) (xs ys : List Site) → AllGood C xs → AllGood C ys → AllGood C (xs ++ ys)
good_append C [] ys h g = g
good_append C (x ∷ xs) ys h g = (h.0, good_append C xs ys h.1 g)

pub good_at : (C : Program) (xs : List Site) (i : ℕ) (x : Site) → AllGood C xs → slice_get xs i ≡ Some x → IsGood C x
good_at C [] i x h e = absurd cc
good_at C (y ∷ ys) zero x h e = subst (IsGood C) (same_Some y x e) h.0
good_at C (y ∷ ys) (suc i) x h e = good_at C ys i x h.1 e

module _ (C : Program) (g : ℕ) (k : Known) (within : g < C.functions) (ag : Agrees C k.heads) (own : C.unit g ≡ k.unit) where
  called_good : (c : Callee) (tail : Bool) (lo m : ℕ) (ws : List ℕ) (us : Terms) (w : ℕ) (t : Term) → CalleeAt k c → Calls c tail lo m ws us w t →
      AllGood C (sites_of_all g us) → AllGood C (sites_of g t)
  called_good (Member i h) tail lo m ws us w t at q good = subst (λ (z : Term). AllGood C (sites_of g z)) (sym q.4) good
  called_good (Above i h) tail lo m ws us w t at q good =
      let a = ag i h at.0 in
      subst (λ (z : Term). AllGood C (sites_of g z)) (sym q.3) (record { caller = within; callee = a.inside; earlier = omega (arith, a.unit, at.1, own) }, good)
  called_good Unknown tail lo m ws us w t at q good = absurd q

  mutual
    pub has_good : (s : List Slot) (tail : Bool) (lo hi : ℕ) (e : Expression) (w : ℕ) (t : Term) → Has k s tail lo hi e w t → AllGood C (sites_of g t)
    has_good s tail lo hi (Number p n) w t h = subst (λ (z : Term). AllGood C (sites_of g z)) (sym h.2) tt
    has_good s tail lo hi (Sized p v n) w t h = subst (λ (z : Term). AllGood C (sites_of g z)) (sym h.3) tt
    has_good s tail lo hi (Variable p x) w t (l, i, e, q) = subst (λ (z : Term). AllGood C (sites_of g z)) (sym q) tt
    has_good s tail lo hi (If p c a b) w t (m, n, x, y, z, hc, ha, hb, q) =
        subst (λ (u : Term). AllGood C (sites_of g u)) (sym q)
        (good_append C (sites_of g x) _ (has_good s _ lo m c 1 x hc) (good_append C (sites_of g y) _ (has_good s tail m n a w y ha) (has_good s tail n hi b w z hb)))
    has_good s tail lo hi (Let p bs b) w t (m, ws, us, y, d, hs, hb, q) =
        subst (λ (u : Term). AllGood C (sites_of g u)) (sym q)
        (good_append C (sites_of_all g us) _ (bound_good s lo m bs ws us hs) (has_good (s ++ slots bs ws) tail m hi b w y hb))
    has_good s tail lo hi (Op p o es) w t (ws, us, hs, su, q) = subst (λ (u : Term). AllGood C (sites_of g u)) (sym q) (have_good s lo hi es ws us hs)
    has_good s tail lo hi (Call p f es) w t (m, ws, us, hs, q) = called_good (callee k f) tail lo m ws us w t (callee_at k f) q (have_good s m hi es ws us hs)

    have_good : (s : List Slot) (lo hi : ℕ) (es : Expressions) (ws : List ℕ) (us : Terms) → HaveAll k s lo hi es ws us → AllGood C (sites_of_all g us)
    have_good s lo hi no_expression [] us h = subst (λ (z : Terms). AllGood C (sites_of_all g z)) (sym h.1) tt
    have_good s lo hi no_expression (w ∷ ws) us h = absurd h
    have_good s lo hi (an_expression e es) [] us h = absurd h
    have_good s lo hi (an_expression e es) (w ∷ ws) us (m, t, ts, he, hs, q) =
        subst (λ (z : Terms). AllGood C (sites_of_all g z)) (sym q) (good_append C (sites_of g t) _ (has_good s _ lo m e w t he) (have_good s m hi es ws ts hs))

    bound_good : (s : List Slot) (lo hi : ℕ) (bs : Bindings) (ws : List ℕ) (us : Terms) → HaveBound k s lo hi bs ws us → AllGood C (sites_of_all g us)
    bound_good s lo hi no_binding [] us h = subst (λ (z : Terms). AllGood C (sites_of_all g z)) (sym h.1) tt
    bound_good s lo hi no_binding (w ∷ ws) us h = absurd h
    bound_good s lo hi (a_binding p x v e bs) [] us h = absurd h
    bound_good s lo hi (a_binding p x v e bs) (w ∷ ws) us (m, t, ts, keeps, he, hs, q) =
        subst (λ (z : Terms). AllGood C (sites_of_all g z)) (sym q) (good_append C (sites_of g t) _ (has_good s _ lo m e w t he) (bound_good s m hi bs ws ts hs))

-- the sites of all functions are good where those of each are
pub all_good : (C : Program) (n : ℕ) (fs : List Function) → ((i : ℕ) (f : Function) → slice_get fs i ≡ Some f → AllGood C
    (sites_of (n + i) (shown_term f.body))) → AllGood C (all_sites n (map shown_function fs))
all_good C n [] h = tt
all_good C n (f ∷ fs) h =
    let e : n + 0 ≡ n = omega arith in
    good_append C (sites_of n (shown_term f.body)) _ (subst (λ (g : ℕ). AllGood C (sites_of g (shown_term f.body))) e (h 0 f refl))
    (all_good C (suc n) fs (λ i x q. let r : n + suc i ≡ suc n + i = omega arith in subst (λ (g : ℕ). AllGood C (sites_of g (shown_term x.body))) r (h (suc i) x q)))

-- a program that has these sites notes them
pub noted_from : (C : Program) (n : ℕ) (xs : List Site) → ((i : ℕ) (x : Site) → slice_get xs i ≡ Some x → (C.caller (n + i) ≡ x.caller) × (C.callee (n + i) ≡ x.callee)) → Noted C n xs
noted_from C n [] h = tt
noted_from C n (x ∷ xs) h =
    let e : n + 0 ≡ n = omega arith in
    let q = h 0 x refl in (
      subst (λ (k : ℕ). C.caller k ≡ x.caller) e q.0,
      subst (λ (k : ℕ). C.callee k ≡ x.callee) e q.1,
      noted_from C (suc n) xs (λ i y q. let r : n + suc i ≡ suc n + i = omega arith in subst (λ (k : ℕ). (C.caller k ≡ y.caller) × (C.callee k ≡ y.callee)) r (h (suc i) y q)),
    )
