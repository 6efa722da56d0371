-- One more site among those that were looked at for conflicts.
use Rattle.safl_sites.proofs.Common.{ArePeers, Collides, IsCollected, Program, SiteSet, cases_eq, get_or-set_at, get_or-set_other, unit_for}
use Rattle.std.proofs.Common.{◌≡◌, ℕ, suc, ◌<◌, ◌≤◌, Bool, true, false, List, length-set, get_or, slice_set, refl, sym, ap, subst, ◌∙◌, inl, inr, arith}
use Rattle.safl_sites.specs.Planned.{BeforeTable}
use Rattle.safl_sites.specs.SiteSets.{Has, Adds, IsCommon, Meets, no_set}

module _ (C : Program) (m k : ℕ) (before peers : List SiteSet) (e : k ≡ suc m) (most : k ≤ C.sites) (conflicts : BeforeTable C before) (sites : ArePeers C C.sites peers) where
  abbrev set : SiteSet
  set = get_or before k no_set

  abbrev peer : SiteSet
  peer = get_or peers (unit_for C k) no_set

  collides_of : (j : ℕ) → IsCommon set peer k j → Collides C k k j
  collides_of j h = record {
    least = omega arith;
    most = omega arith;
    differs = h.differs;
    peer = (sites.sets (unit_for C k) j).0 h.second;
    before = (conflicts.sets j k (omega arith) most).0 h.first;
  }

  common_of : (i j : ℕ) → i ≡ k → Collides C k i j → IsCommon set peer k j
  common_of i j f h = subst (λ n. IsCommon (get_or before n no_set) (get_or peers (unit_for C n) no_set) n j) f (record {
    differs = h.differs;
    first = (conflicts.sets j i h.least (omega (arith, h.most))).1 h.before;
    second = (sites.sets (unit_for C i) j).1 h.peer;
  })

  wider : (i j : ℕ) → Collides C m i j → Collides C k i j
  wider i j h = record { least = h.least; most = omega (arith, h.most); differs = h.differs; peer = h.peer; before = h.before }

  narrow : (i j : ℕ) → (i ≡ k → ⊥) → Collides C k i j → Collides C m i j
  narrow i j n h = record { least = h.least; most = omega (arith, h.most); differs = h.differs; peer = h.peer; before = h.before }

  pub collected_more : (arbiters : List Bool) (kept kept1 kept2 : SiteSet) → unit_for C k < C.functions → IsCollected C m arbiters kept → Meets set peer k
      → ((j : ℕ) → Adds (Has kept j) (Has kept1 j) (j ≡ k)) → ((j : ℕ) → Adds (Has kept1 j) (Has kept2 j) (IsCommon set peer k j))
      → IsCollected C k (slice_set arbiters (unit_for C k) true) kept2
  collected_more arbiters kept kept1 kept2 low t meets insert common = record {
    count = length-set arbiters (unit_for C k) true ∙ t.count;
    units = λ u. elim (cases_eq u (unit_for C k)) [
      | inl f ↦
          let s : get_or (slice_set arbiters (unit_for C k) true) u false ≡ true = get_or-set_at arbiters (unit_for C k) u true false f (omega (arith, t.count)) in
          (λ _. record { later = k; earlier = meets.other; collides = collides_of meets.other (record { differs = meets.differs; first = meets.first; second = meets.second }); unit = sym f }, λ _. s)
      | inr f ↦
          let s : get_or (slice_set arbiters (unit_for C k) true) u false ≡ get_or arbiters u false = get_or-set_other arbiters (unit_for C k) u true false f in (
            λ x. let h = (t.units u).0 (sym s ∙ x) in record { later = h.later; earlier = h.earlier; collides = wider h.later h.earlier h.collides; unit = h.unit },
            λ h. s ∙ (t.units u).1 (record { later = h.later; earlier = h.earlier; collides = narrow h.later h.earlier (λ g. f (sym h.unit ∙ ap (λ n. unit_for C n) g)) h.collides; unit = h.unit }),
          )
    ];
    sites = λ i. (
      λ x. elim ((common i).splits x) [
        | inl y ↦ elim ((insert i).splits y) [
          | inl z ↦ let h = (t.sites i).0 z in record { later = h.later; earlier = h.earlier; collides = wider h.later h.earlier h.collides; one = h.one }
          | inr z ↦ record { later = k; earlier = meets.other; collides = collides_of meets.other (record { differs = meets.differs; first = meets.first; second = meets.second }); one = inl z }
        ]
        | inr y ↦ record { later = k; earlier = i; collides = collides_of i y; one = inr refl }
      ],
      λ h. elim (cases_eq h.later k) [
        | inl f ↦ elim h.one [
          | inl g ↦ (common i).stays ((insert i).joins (g ∙ f))
          | inr g ↦ (common i).joins (subst (λ n. IsCommon set peer k n) (sym g) (common_of h.later h.earlier f h.collides))
        ]
        | inr f ↦ (common i).stays ((insert i).stays ((t.sites i).1 (record { later = h.later; earlier = h.earlier; collides = narrow h.later h.earlier f h.collides; one = h.one })))
      ],
    );
  }

  none_here : (Meets set peer k → ⊥) → (i j : ℕ) → Collides C k i j → i ≡ k → ⊥
  none_here none i j h f = let q = common_of i j f h in none (record { other = j; differs = q.differs; first = q.first; second = q.second })

  pub collected_none : (arbiters : List Bool) (kept : SiteSet) → IsCollected C m arbiters kept → (Meets set peer k → ⊥) → IsCollected C k arbiters kept
  collected_none arbiters kept t none = record {
    count = t.count;
    units = λ u. (
      λ x. let h = (t.units u).0 x in record { later = h.later; earlier = h.earlier; collides = wider h.later h.earlier h.collides; unit = h.unit },
      λ h. (t.units u).1 (record { later = h.later; earlier = h.earlier; collides = narrow h.later h.earlier (none_here none h.later h.earlier h.collides) h.collides; unit = h.unit }),
    );
    sites = λ i. (
      λ x. let h = (t.sites i).0 x in record { later = h.later; earlier = h.earlier; collides = wider h.later h.earlier h.collides; one = h.one },
      λ h. (t.sites i).1 (record { later = h.later; earlier = h.earlier; collides = narrow h.later h.earlier (none_here none h.later h.earlier h.collides) h.collides; one = h.one }),
    );
  }
