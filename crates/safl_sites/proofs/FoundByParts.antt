-- What a walk down a term finds, by its parts.
use Rattle.safl_sites.proofs.Common.{IsTouched, Keeping, Primitive, Program, SiteSet, Word, bool_at}
use Rattle.std.proofs.Common.{◌≡◌, ℕ, zero, suc, ◌+◌, ◌-◌, ◌≤◌, ◌⊎◌, ◌||◌, Bool, true, false, List, [], ◌∷◌, ◌++◌, length, get_or, refl, sym, ap, subst, ◌∙◌, inl, inr, arith, eq-eqb}
use Rattle.std.proofs.Math.Seq.{get_or-append_right}
use Rattle.std.proofs.lemmas.Bool.{eqb-true, both_ways, false_from_ne_true}
use Rattle.std.specs.Cmp.{both_ways as same_bool}
use Rattle.std.proofs.lemmas.List.{append-nil}
use Rattle.safl_term.specs.Terms.{Term, Terms, Const, Var, Op, If, Let, Call, Loop, Nil, Cons}
use Rattle.safl_sites.specs.Keeping.{fed_by, IsHeld, IsHeldIn, IsHeldHere, Walks, WalksIn, Binds}
use Rattle.safl_sites.specs.Kept.{feeds, feeds_any, feeds_each, Uses, Decides, Held}
use Rattle.safl_sites.specs.SiteSets.{has, Has, HasAt, Adds, no_set}
use Rattle.safl_sites.proofs.AddsInSteps.{adds_then, adds_as, adds_none}
use Rattle.safl_sites.proofs.SetsByWords.{no_set_has}

bool_at_fed : (k : ℕ) (R : List SiteSet) (i : ℕ) → bool_at (fed_by k R) i ≡ has (get_or R i no_set) k
bool_at_fed k [] i = sym (false_from_ne_true (has no_set k) (no_set_has k))
bool_at_fed k (r ∷ R) zero = refl
bool_at_fed k (r ∷ R) (suc i) = bool_at_fed k R i

length_fed : (k : ℕ) (R : List SiteSet) → length (fed_by k R) ≡ length R
length_fed k [] = refl
length_fed k (r ∷ R) = ap suc (length_fed k R)

fed_append : (k : ℕ) (R S : List SiteSet) → fed_by k (R ++ S) ≡ fed_by k R ++ fed_by k S
fed_append k [] S = refl
fed_append k (r ∷ R) S = ap (λ l. has r k ∷ l) (fed_append k R S)

or_adds : {X Y : Type 0} (p q : Bool) → Adds X Y ((p ≡ true) ⊎ (q ≡ true)) → Adds X Y ((p || q) ≡ true)
or_adds true q = adds_as (λ h. refl) (λ h. inl refl)
or_adds false q = adds_as (λ h. elim h [ inl e ↦ absurd (both_ways false refl e) | inr e ↦ e ]) (λ h. inr h)

or_three : {X Y : Type 0} (p q r : Bool) → Adds X Y (((p ≡ true) ⊎ (q ≡ true)) ⊎ (r ≡ true)) → Adds X Y ((p || (q || r)) ≡ true)
or_three true q r = adds_as (λ h. refl) (λ h. inl (inl refl))
or_three false true r = adds_as (λ h. refl) (λ h. inl (inr refl))
or_three false false r =
    adds_as (λ h. elim h [ inl h ↦ elim h [ inl e ↦ absurd (both_ways false refl e) | inr e ↦ absurd (both_ways false refl e) ] | inr e ↦ e ]) (λ h. inr h)

-- a set that was empty has what joined it
pub full : {P : Type 0} (d e : SiteSet) (k : ℕ) → has d k ≡ false → Adds (Has d k) (Has e k) P → Has e k → P
full d e k none h x = elim (h.splits x) [ inl y ↦ absurd (both_ways (has d k) none y) | inr y ↦ y ]

module _ (C : Program) (R : List SiteSet) where
  pub walks_const : (f : SiteSet) (a : Keeping) (w : Word) → Walks C R f f a a (Const w)
  unfolding feeds Decides Held
  walks_const f a w = record {
    fed = λ k. adds_none (λ e. both_ways false refl e);
    decided = λ k. adds_none (λ h. h);
    kept = λ k x y. adds_none (λ h. h.held);
  }

  pub walks_var : (f g : SiteSet) (a : Keeping) (i : ℕ) → ((k : ℕ) → Adds (Has f k) (Has g k) (HasAt R i k)) → Walks C R f g a a (Var i)
  unfolding feeds Decides Held
  walks_var f g a i union = record {
    fed = λ k. adds_as (λ h. bool_at_fed k R i ∙ h) (λ h. sym (bool_at_fed k R i) ∙ h) (union k);
    decided = λ k. adds_none (λ h. h);
    kept = λ k x y. adds_none (λ h. h.held);
  }

  pub walks_op : (f g : SiteSet) (a b : Keeping) (o : Primitive) (ts : Terms) → WalksIn C R f g a b ts → Walks C R f g a b (Op o ts)
  unfolding feeds Decides Held
  walks_op f g a b o ts h = record {
    fed = h.fed;
    decided = h.decided;
    kept = λ k x y. adds_as (λ q. record { other = q.other; differs = q.differs; same = q.same; held = q.held })
        (λ q. record { other = q.other; differs = q.differs; same = q.same; held = q.held }) (h.kept k x y);
  }

  pub walks_loop : (f p q : SiteSet) (a b : Keeping) (i : ℕ) (ts : Terms) → WalksIn C R p q a b ts → Walks C R f f a b (Loop i ts)
  unfolding feeds Decides Held
  walks_loop f p q a b i ts h = record {
    fed = λ k. adds_none (λ e. both_ways false refl e);
    decided = h.decided;
    kept = λ k x y. adds_as (λ q. record { other = q.other; differs = q.differs; same = q.same; held = q.held })
        (λ q. record { other = q.other; differs = q.differs; same = q.same; held = q.held }) (h.kept k x y);
  }

  pub walks_call : (f g p q : SiteSet) (a b : Keeping) (i j : ℕ) (ts : Terms) → ((k : ℕ) → Adds (Has f k) (Has g k) (k ≡ j)) → WalksIn C R p q a b ts → Walks C R f g a b (Call i j ts)
  unfolding feeds Decides Held
  walks_call f g p q a b i j ts insert h = record {
    fed = λ k. adds_as (λ e. eq-eqb j k (sym e)) (λ e. sym (eqb-true j k e)) (insert k);
    decided = h.decided;
    kept = λ k x y. adds_as (λ q. record { other = q.other; differs = q.differs; same = q.same; held = q.held })
        (λ q. record { other = q.other; differs = q.differs; same = q.same; held = q.held }) (h.kept k x y);
  }

  -- the sites that feed the condition decide
  pub walks_if : (d e f0 f1 f2 f3 : SiteSet) (a0 a1 a2 a3 a4 : Keeping) (c x y : Term) → ((k : ℕ) → has d k ≡ false)
      → Walks C R d e a0 a1 c → ((k : ℕ) → Adds (Has a1.decides k) (Has a2.decides k) (Has e k)) → ((k : ℕ) → Adds (Has f0 k) (Has f1 k) (Has e k)) → a2.held ≡ a1.held
      → Walks C R f1 f2 a2 a3 x → Walks C R f2 f3 a3 a4 y → Walks C R f0 f3 a0 a4 (If c x y)
  unfolding feeds Decides Held
  walks_if d e f0 f1 f2 f3 a0 a1 a2 a3 a4 c x y none hc deciding feeding same hx hy = record {
    fed = λ k.
        let fe = fed_by k R in
        let first = adds_as {Q = feeds k fe c ≡ true} (full d e k (none k) (hc.fed k)) (λ q. (hc.fed k).joins q) (feeding k) in
        or_three (feeds k fe c) (feeds k fe x) (feeds k fe y) (adds_then (adds_then first (hx.fed k)) (hy.fed k));
    decided = λ k.
        let fe = fed_by k R in
        let second = adds_as {Q = feeds k fe c ≡ true} (full d e k (none k) (hc.fed k)) (λ q. (hc.fed k).joins q) (deciding k) in
        adds_as
        (λ h. elim h [
          | inl h ↦ elim h [ inl h ↦ elim h [ inl q ↦ inr (inl q) | inr q ↦ inl q ] | inr q ↦ inr (inr (inl q)) ]
          | inr q ↦ inr (inr (inr q))
        ])
        (λ h. elim h [
          | inl q ↦ inl (inl (inr q))
          | inr h ↦ elim h [ inl q ↦ inl (inl (inl q)) | inr h ↦ elim h [ inl q ↦ inl (inr q) | inr q ↦ inr q ] ]
        ])
        (adds_then (adds_then (adds_then (hc.decided k) second) (hx.decided k)) (hy.decided k));
    kept = λ k p q.
        let fe = fed_by k R in
        let middle = subst (λ (r : SiteSet). Adds (Has r k) (Has a3.held k) (IsHeld C k fe x)) same (hx.kept k p q) in
        adds_as
        (λ h. elim h [
          | inl h ↦ elim h [
            | inl h ↦ record { other = h.other; differs = h.differs; same = h.same; held = inl h.held }
            | inr h ↦ record { other = h.other; differs = h.differs; same = h.same; held = inr (inl h.held) }
          ]
          | inr h ↦ record { other = h.other; differs = h.differs; same = h.same; held = inr (inr h.held) }
        ])
        (λ h. elim h.held [
          | inl u ↦ inl (inl (record { other = h.other; differs = h.differs; same = h.same; held = u }))
          | inr u ↦ elim u [
            | inl u ↦ inl (inr (record { other = h.other; differs = h.differs; same = h.same; held = u }))
            | inr u ↦ inr (record { other = h.other; differs = h.differs; same = h.same; held = u })
          ]
        ])
        (adds_then (adds_then (hc.kept k p q) middle) (hy.kept k p q));
  }

  -- a slot from the first binding on that has the site is a binding that the site feeds
  touched_by : (k : ℕ) (M bound : List SiteSet) (ts : Terms) (b : Term) → M ≡ R ++ bound → fed_by k bound ≡ feeds_each k (fed_by k R) ts → IsTouched M
      (length R) k b → (i : ℕ) × (bool_at (feeds_each k (fed_by k R) ts) i ≡ true) × Uses (length (fed_by k R) + i) b
  touched_by k M bound ts b e fed h =
      let i : ℕ = h.slot - length R in
      let at : length (fed_by k R) + i ≡ h.slot = omega (arith, length_fed k R, h.from) in
      let is : get_or M h.slot no_set ≡ get_or bound i no_set = ap (λ (l : List SiteSet). get_or l h.slot no_set) e ∙ get_or-append_right R bound h.slot no_set h.from in
      (i, ap (λ l. bool_at l i) (sym fed) ∙ (bool_at_fed k bound i ∙ (ap (λ (r : SiteSet). has r k) (sym is) ∙ h.set)), subst (λ n. Uses n b) (sym at) h.used)

  touched_of : (k : ℕ) (M bound : List SiteSet) (ts : Terms) (b : Term) → M ≡ R ++ bound → fed_by k bound ≡ feeds_each k (fed_by k R) ts → (i : ℕ) →
      bool_at (feeds_each k (fed_by k R) ts) i ≡ true → Uses (length (fed_by k R) + i) b → IsTouched M (length R) k b
  touched_of k M bound ts b e fed i h used =
      let at : length (fed_by k R) + i ≡ length R + i = ap (λ n. n + i) (length_fed k R) in
      let from : length R ≤ length R + i = omega arith in
      let back : length R + i - length R ≡ i = omega arith in
      let is : get_or M (length R + i) no_set ≡ get_or bound i no_set = ap (λ (l : List SiteSet). get_or l (length R + i) no_set) e ∙
      (get_or-append_right R bound (length R + i) no_set from ∙ ap (λ n. get_or bound n no_set) back) in
      record { slot = length R + i; from = from; used = subst (λ n. Uses n b) at used; set = ap (λ (r : SiteSet). has r k) is ∙ (sym (bool_at_fed k bound i) ∙ (ap (λ l. bool_at l i) fed ∙ h)) }

  pub walks_let : (M : List SiteSet) (f g : SiteSet) (a0 a1 a2 a3 : Keeping) (ts : Terms) (b : Term) → Binds C R M a0 a1 ts → a2.decides ≡ a1.decides
      → ((k : ℕ) → 1 ≤ k → k ≤ C.sites → Adds (Has a1.held k) (Has a2.held k) (IsHeldHere C M (length R) k b))
      → Walks C M f g a2 a3 b → Walks C R f g a0 a3 (Let ts b)
  unfolding feeds Decides Held
  walks_let M f g a0 a1 a2 a3 ts b hs same here hb =
      let scope : (k : ℕ) → fed_by k M ≡ fed_by k R ++ feeds_each k (fed_by k R) ts = λ k. ap (fed_by k) hs.joined ∙ (fed_append k R hs.bound ∙ ap (λ l. fed_by k R ++ l) (hs.fed k)) in
      record {
        fed = λ k. subst (λ l. Adds (Has f k) (Has g k) (feeds k l b ≡ true)) (scope k) (hb.fed k);
        decided = λ k.
            let body = subst (λ l. Adds (Has a2.decides k) (Has a3.decides k) (Decides k l b)) (scope k) (hb.decided k) in
            adds_then (hs.decided k) (subst (λ (r : SiteSet). Adds (Has r k) (Has a3.decides k) (Decides k (fed_by k R ++ feeds_each k (fed_by k R) ts) b)) same body);
        kept = λ k p q.
            let body = subst (λ l. Adds (Has a2.held k) (Has a3.held k) (IsHeld C k l b)) (scope k) (hb.kept k p q) in
            adds_as
            (λ h. elim h [
              | inl h ↦ elim h [
                | inl h ↦ record { other = h.other; differs = h.differs; same = h.same; held = inr (inl h.held) }
                | inr h ↦
                    let (i, at, used) = touched_by k M hs.bound ts b hs.joined (hs.fed k) h.touched in
                    record { other = h.other; differs = h.differs; same = h.same; held = inl (i, at, used, h.reached) }
              ]
              | inr h ↦ record { other = h.other; differs = h.differs; same = h.same; held = inr (inr h.held) }
            ])
            (λ h. elim h.held [
              | inl (i, at, used, r) ↦ inl (inr (record { other = h.other; differs = h.differs; same = h.same; touched = touched_of k M hs.bound ts b hs.joined (hs.fed k) i at used; reached = r }))
              | inr u ↦ elim u [
                | inl u ↦ inl (inl (record { other = h.other; differs = h.differs; same = h.same; held = u }))
                | inr u ↦ inr (record { other = h.other; differs = h.differs; same = h.same; held = u })
              ]
            ])
            (adds_then (adds_then (hs.kept k p q) (here k p q)) body);
      }

  held_more : {X Y : Type 0} (k : ℕ) (fe : List Bool) (t : Term) (ts : Terms) → Adds X Y (IsHeld C k fe t ⊎ IsHeldIn C k fe ts) → Adds X Y (IsHeldIn C k fe (Cons t ts))
  unfolding Held
  held_more k fe t ts =
      adds_as
      (λ h. elim h [
        | inl h ↦ record { other = h.other; differs = h.differs; same = h.same; held = inl h.held }
        | inr h ↦ record { other = h.other; differs = h.differs; same = h.same; held = inr h.held }
      ])
      (λ h. elim h.held [
        | inl u ↦ inl (record { other = h.other; differs = h.differs; same = h.same; held = u })
        | inr u ↦ inr (record { other = h.other; differs = h.differs; same = h.same; held = u })
      ])

  pub walks_none : (f : SiteSet) (a : Keeping) → WalksIn C R f f a a Nil
  unfolding feeds Decides Held
  walks_none f a = record {
    fed = λ k. adds_none (λ e. both_ways false refl e);
    decided = λ k. adds_none (λ h. h);
    kept = λ k x y. adds_none (λ h. h.held);
  }

  pub walks_more : (f0 f1 f2 : SiteSet) (a0 a1 a2 : Keeping) (t : Term) (ts : Terms) → Walks C R f0 f1 a0 a1 t → WalksIn C R f1 f2 a1 a2 ts → WalksIn C R f0 f2 a0 a2 (Cons t ts)
  unfolding feeds Decides Held
  walks_more f0 f1 f2 a0 a1 a2 t ts h hs = record {
    fed = λ k. or_adds (feeds k (fed_by k R) t) (feeds_any k (fed_by k R) ts) (adds_then (h.fed k) (hs.fed k));
    decided = λ k. adds_then (h.decided k) (hs.decided k);
    kept = λ k p q. held_more k (fed_by k R) t ts (adds_then (h.kept k p q) (hs.kept k p q));
  }

  pub binds_none : (a : Keeping) → Binds C R R a a Nil
  unfolding feeds Decides Held
  binds_none a = record {
    bound = [];
    joined = sym (append-nil R);
    count = refl;
    fed = λ k. refl;
    decided = λ k. adds_none (λ h. h);
    kept = λ k x y. adds_none (λ h. h.held);
  }

  -- the first binding's set goes before those of the rest
  pub binds_more : (M : List SiteSet) (d e : SiteSet) (a0 a1 a2 : Keeping) (t : Term) (ts : Terms) → ((k : ℕ) → has d k ≡ false) → Walks C R d e a0 a1
      t → (hs : Binds C R M a1 a2 ts) → Binds C R (R ++ (e ∷ hs.bound)) a0 a2 (Cons t ts)
  unfolding feeds Decides Held
  binds_more M d e a0 a1 a2 t ts none h hs = record {
    bound = e ∷ hs.bound;
    joined = refl;
    count = ap suc hs.count;
    fed = λ k.
        let v : has e k ≡ feeds k (fed_by k R) t = same_bool (has e k) (feeds k (fed_by k R) t) (full d e k (none k) (h.fed k)) (λ q. (h.fed k).joins q) in
        ap (λ l. has e k ∷ l) (hs.fed k) ∙ ap (λ b. b ∷ feeds_each k (fed_by k R) ts) v;
    decided = λ k. adds_then (h.decided k) (hs.decided k);
    kept = λ k p q. held_more k (fed_by k R) t ts (adds_then (h.kept k p q) (hs.kept k p q));
  }
