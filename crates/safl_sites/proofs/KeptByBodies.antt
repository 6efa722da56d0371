-- The sites of one more body that are kept.
use Rattle.safl_sites.proofs.Common.{ArePeers, CheckedProgram, IsChecked, Keeping, Program, Reaches, SiteSet, arity, unit_for}
use Rattle.std.proofs.Common.{◌≡◌, ℕ, suc, ◌+◌, ◌<◌, ◌≤◌, false, List, [], ◌∷◌, length, replicate, refl, sym, ap, subst, ◌∙◌, inl, inr, arith}
use Rattle.std.proofs.lemmas.Bool.{cases_eq, false_from_ne_true}
use Rattle.safl_sites.specs.Bodies.{UnitTable, MustKeep, IsOwnKept, IsBodyKept, IsKeptBelow}
use Rattle.safl_sites.specs.Keeping.{fed_by, IsHeld, Walks, MayKeep}
use Rattle.safl_sites.specs.Kept.{Decides}
use Rattle.safl_sites.specs.SiteSets.{has, Has, HasAt, Adds}
use Rattle.safl_sites.proofs.AddsInSteps.{adds_as, adds_then}
use Rattle.safl_sites.proofs.TablesByBodies.{body_part}
use Rattle.safl_sites.proofs.LetsReach.{body_reached}
use Rattle.safl_sites.proofs.FoundByParts.{full}
use Rattle.safl_sites.proofs.NumbersFollow.{sited, own_site}

fed_empty : (k : ℕ) (sets : List SiteSet) → ((i : ℕ) → HasAt sets i k → ⊥) → fed_by k sets ≡ replicate (length sets) false
fed_empty k [] none = refl
fed_empty k (r ∷ sets) none = ap (λ b. b ∷ fed_by k sets) (false_from_ne_true (has r k) (none 0)) ∙ ap (λ l. false ∷ l) (fed_empty k sets (λ i. none (suc i)))

pub own_same : (C : Program) (reach : SiteSet) (peers : List SiteSet) (keeps : Keeping) (from till k : ℕ) {X Y : Type 0} → k ≡ till →
    (MustKeep C reach peers keeps k → ⊥) → (j : ℕ) → Adds X Y (IsOwnKept C reach peers keeps from till j) → Adds X Y (IsOwnKept C reach peers keeps from (till + 1) j)
own_same C reach peers keeps from till k e never j x =
    adds_as
    (λ h. record { from_on = h.from_on; before = omega (arith, h.before); must = h.must })
    (λ h. elim (cases_eq j k) [
      | inl f ↦ absurd (never (subst (λ n. MustKeep C reach peers keeps n) f h.must))
      | inr f ↦ record { from_on = h.from_on; before = omega (arith, h.before); must = h.must }
    ])
    x

pub below_more : (C : Program) (g k : ℕ) {X Y Z : Type 0} → Adds X Y (IsKeptBelow C g k) → Adds Y Z (IsBodyKept C g k) → Adds X Z (IsKeptBelow C (g + 1) k)
below_more C g k x y =
    adds_as
    (λ h. elim h [
      | inl h ↦ record { body = h.body; is_body = omega (arith, h.is_body); kept = h.kept }
      | inr h ↦ record { body = g; is_body = omega arith; kept = h }
    ])
    (λ h. elim (cases_eq h.body g) [
      | inl f ↦ inr (subst (λ n. IsBodyKept C n k) f h.kept)
      | inr f ↦ inl (record { body = h.body; is_body = omega (arith, h.is_body); kept = h.kept })
    ])
    (adds_then x y)

module _ (p : CheckedProgram) (h : IsChecked p) where
  abbrev C : Program
  C = p.program

  pub body_may_keep : (g : ℕ) (units peers : List SiteSet) → g < C.functions → UnitTable C units → ArePeers C C.sites peers → MayKeep C units peers (arity C g) (C.body g)
  body_may_keep g units peers within t sites = record {
    reach = record {
      caller = g;
      part = body_part p h g within;
      below = record { count = t.count; top = omega (arith, (h.formed.first g within).0); sets = λ v k less. t.sets v k };
      few = h.limits.sites;
    };
    sites = sites;
  }

  -- what a walk found of a body's own sites is what is kept
  pub body_kept : (g : ℕ) (slots peers : List SiteSet) (reach d e f f' : SiteSet) (a b : Keeping) → g < C.functions → ArePeers C C.sites peers →
      length slots ≡ arity C g → ((i k : ℕ) → HasAt slots i k → ⊥)
      → ((k : ℕ) → has a.decides k ≡ false) → ((k : ℕ) → has a.held k ≡ false) → Walks C slots f f' a b (C.body g) →
      ((k : ℕ) → (Has reach k → Reaches C k (C.body g)) × (Reaches C k (C.body g) → Has reach k))
      → (k : ℕ) {X Y : Type 0} → Adds X Y (IsOwnKept C reach peers b (p.first_site g) (p.first_site (suc g)) k) → Adds X Y (IsBodyKept C g k)
  body_kept g slots peers reach d e f f' a b within sites count empty none_decides none_held w table k =
      let scope : fed_by k slots ≡ replicate (arity C g) false = fed_empty k slots (λ i. empty i k) ∙ ap (λ n. replicate n false) count in
      let decided = subst (λ l. Adds (Has a.decides k) (Has b.decides k) (Decides k l (C.body g))) scope (w.decided k) in
      adds_as
      (λ x.
      let (s, at) = own_site p h g k within x.from_on x.before in
      let kept = subst (λ l. Adds (Has a.held k) (Has b.held k) (IsHeld C k l (C.body g))) scope (w.kept k s.least s.most) in
      elim x.must [
        | inl y ↦
            let q = full a.held b.held k (none_held k) kept y in
            record { least = s.least; most = s.most; caller = at; because = q.other; other = q.differs; same = q.same; why = inr q.held }
        | inr (y, z) ↦
            record {
              least = s.least;
              most = s.most;
              caller = at;
              because = z.other;
              other = z.differs;
              same = sym ((sites.sets (unit_for C k) z.other).0 z.second).unit;
              why = inl (full a.decides b.decides k (none_decides k) decided y, (table z.other).0 z.first);
            }
      ])
      (λ x.
      let s = sited p h k x.least x.most in
      let kept = subst (λ l. Adds (Has a.held k) (Has b.held k) (IsHeld C k l (C.body g))) scope (w.kept k x.least x.most) in
      record {
        from_on = subst (λ n. p.first_site n ≤ k) x.caller s.from;
        before = subst (λ n. k < p.first_site (suc n)) x.caller s.below;
        must = elim x.why [
          | inr y ↦ inl (kept.joins (record { other = x.because; differs = x.other; same = x.same; held = y }))
          | inl (y, z) ↦
              let o = body_reached p h g x.because within z in
              inr (
                decided.joins y,
                record {
                  other = x.because;
                  differs = x.other;
                  first = (table x.because).1 z;
                  second =
                      (sites.sets (unit_for C k) x.because).1 (record { least = o.least; most = o.most; unit = sym x.same });
                },
              )
        ];
      })
