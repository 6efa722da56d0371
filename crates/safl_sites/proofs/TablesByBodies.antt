-- One more body in the tables.
use Rattle.safl_sites.proofs.Common.{IsPart, MayReach, Program, Reaches, SiteSet, get_or-set_at, get_or-set_other}
use Rattle.std.proofs.Common.{◌≡◌, ℕ, zero, suc, ◌<◌, ◌⊎◌, true, false, List, length, length-set, get_or, slice_set, replicate, refl, sym, subst, ◌∙◌, inl, inr, arith}
use Rattle.std.proofs.lemmas.Bool.{cases_eq, both_ways}
use Rattle.safl_term.specs.Checked.{CheckedProgram, IsChecked}
use Rattle.safl_sites.specs.Filling.{ReachedBelow, StandsAfter, IsFilled}
use Rattle.safl_sites.specs.Parallel.{After, Marked}
use Rattle.safl_sites.specs.SiteSets.{has, Has, HasAt, Adds, no_set}
use Rattle.safl_sites.proofs.SetsJoined.{set_more}
use Rattle.safl_sites.proofs.NumbersFollow.{lower_before}
use Rattle.safl_sites.proofs.SetsByWords.{no_set_has}

-- a table of empty sets
pub empty_table : (n : ℕ) (r : SiteSet) → ((k : ℕ) → has r k ≡ false) → (i k : ℕ) → HasAt (replicate n r) i k → ⊥
empty_table zero r none i k h = no_set_has k h
empty_table (suc n) r none zero k h = both_ways (has r k) (none k) h
empty_table (suc n) r none (suc i) k h = empty_table n r none i k h

module _ (p : CheckedProgram) (h : IsChecked p) where
  abbrev C : Program
  C = p.program

  -- the body of a function is a part of it
  pub body_part : (f : ℕ) → f < C.functions → IsPart C f (length (C.params f)) (C.body f)
  body_part f within =
      let (lo, hi, least, spans) = h.formed.numbered.bodies f in
      record { tail = true; lo = lo; hi = hi; spans = spans; least = least; most = h.formed.sites f within; scope = C.params f; count = refl; width = C.result f; typed = h.formed.widths f within }

  -- the sets of the lower units are complete
  pub body_may_reach : (f : ℕ) (bodies units after : List SiteSet) → f < C.functions → IsFilled C f bodies units after → (n : ℕ) × MayReach C units n (C.body f)
  body_may_reach f bodies units after within t = (
    length (C.params f),
    record {
      caller = f;
      part = body_part f within;
      below = record {
        count = t.units_count;
        top = omega (arith, (h.formed.first f within).0);
        sets = λ v k less. (
          λ x. let r = (t.unit_sets v k).0 x in record { member = r.member; is_member = omega (arith, r.is_member); unit = r.unit; reached = r.reached },
          λ r. (t.unit_sets v k).1 (record {
            member = r.member;
            is_member = lower_before p h r.member f r.is_member within (subst (λ u. u < C.unit f) (sym r.unit) less);
            unit = r.unit;
            reached = r.reached;
          }),
        );
      };
      few = h.limits.sites;
    },
  )

module _ (C : Program) (f : ℕ) where
  one_more : (u k : ℕ) → ReachedBelow C f u k ⊎ ((C.unit f ≡ u) × Reaches C k (C.body f)) → ReachedBelow C (suc f) u k
  one_more u k (inl r) = record { member = r.member; is_member = omega (arith, r.is_member); unit = r.unit; reached = r.reached }
  one_more u k (inr (e, r)) = record { member = f; is_member = omega arith; unit = e; reached = r }

  one_of : (u k : ℕ) → ReachedBelow C (suc f) u k → ReachedBelow C f u k ⊎ ((C.unit f ≡ u) × Reaches C k (C.body f))
  one_of u k r = elim (cases_eq r.member f) [
    | inl e ↦ inr (subst (λ n. C.unit n ≡ u) e r.unit, subst (λ n. Reaches C k (C.body n)) e r.reached)
    | inr n ↦ inl (record { member = r.member; is_member = omega (arith, r.is_member); unit = r.unit; reached = r.reached })
  ]

  after_more : (k b : ℕ) → StandsAfter C f k b ⊎ After C k b (C.body f) → StandsAfter C (suc f) k b
  after_more k b (inl r) = record { body = r.body; is_body = omega (arith, r.is_body); after = r.after }
  after_more k b (inr r) = record { body = f; is_body = omega arith; after = r }

  after_of : (k b : ℕ) → StandsAfter C (suc f) k b → StandsAfter C f k b ⊎ After C k b (C.body f)
  after_of k b r = elim (cases_eq r.body f) [
    | inl e ↦ inr (subst (λ n. After C k b (C.body n)) e r.after)
    | inr n ↦ inl (record { body = r.body; is_body = omega (arith, r.is_body); after = r.after })
  ]

  pub filled_more : (bodies units after after' : List SiteSet) (e set joined : SiteSet) → f < C.functions → C.unit f < C.functions → IsFilled C f bodies units after
      → ((k : ℕ) → has e k ≡ false) → ((k : ℕ) → Adds (Has e k) (Has set k) (Reaches C k (C.body f)))
      → (B : ℕ → Type 0) → ((k : ℕ) → B k → ⊥) → length after' ≡ length after → ((b k : ℕ) → Adds (HasAt after b k) (HasAt after' b k) (Marked C (B k) k b (C.body f)))
      → ((k : ℕ) → Adds (HasAt units (C.unit f) k) (Has joined k) (Has set k))
      → IsFilled C (suc f) (slice_set bodies f set) (slice_set units (C.unit f) joined) after'
  filled_more bodies units after after' e set joined within low t none reached B never count marked union =
      let full : (k : ℕ) → Has set k → Reaches C k (C.body f) = λ k x. elim ((reached k).splits x) [ inl y ↦ absurd (both_ways (has e k) (none k) y) | inr y ↦ y ] in
      record {
        bodies_count = length-set bodies f set ∙ t.bodies_count;
        units_count = length-set units (C.unit f) joined ∙ t.units_count;
        after_count = count ∙ t.after_count;
        body_sets = λ g k less. elim (cases_eq g f) [
          | inl i ↦
              let s : get_or (slice_set bodies f set) g no_set ≡ set = get_or-set_at bodies f g set no_set i (omega (arith, t.bodies_count)) in (
                λ x. subst (λ n. Reaches C k (C.body n)) (sym i) (full k (subst (λ (r : SiteSet). Has r k) s x)),
                λ x. subst (λ (r : SiteSet). Has r k) (sym s) ((reached k).joins (subst (λ n. Reaches C k (C.body n)) i x)),
              )
          | inr i ↦
              let s : get_or (slice_set bodies f set) g no_set ≡ get_or bodies g no_set = get_or-set_other bodies f g set no_set i in
              let b = t.body_sets g k (omega arith) in
              (λ x. b.0 (subst (λ (r : SiteSet). Has r k) s x), λ x. subst (λ (r : SiteSet). Has r k) (sym s) (b.1 x))
        ];
        unit_sets = λ u k.
            let m = set_more units (C.unit f) joined u k (omega (arith, t.units_count)) (union k) in
            let b = t.unit_sets u k in (
              λ x. one_more u k (elim (m.splits x) [ inl y ↦ inl (b.0 y) | inr (i, y) ↦ inr (i, full k y) ]),
              λ x. elim (one_of u k x) [ inl y ↦ m.stays (b.1 y) | inr (i, y) ↦ m.joins (i, (reached k).joins y) ],
            );
        after_sets = λ k b.
            let m = marked b k in
            let r = t.after_sets k b in (
              λ x. after_more k b (elim (m.splits x) [ inl y ↦ inl (r.0 y) | inr y ↦ elim y [ inl (s, q) ↦ absurd (never k q) | inr z ↦ inr z ] ]),
              λ x. elim (after_of k b x) [ inl y ↦ m.stays (r.1 y) | inr y ↦ m.joins (inr y) ],
            );
      }
