-- One more site in the sets of its unit.
use Rattle.safl_sites.proofs.Common.{Adds, ArePeers, CheckedProgram, Has, HasAt, IsChecked, Program, SiteSet, cases_eq, unit_for}
use Rattle.std.proofs.Common.{◌≡◌, ℕ, suc, ◌<◌, ◌≤◌, List, length-set, slice_set, sym, ap, ◌∙◌, inl, inr, arith}
use Rattle.safl_sites.proofs.SetsJoined.{set_more}

pub unit_within : (p : CheckedProgram) → IsChecked p → (k : ℕ) → 1 ≤ k → k ≤ p.program.sites → unit_for p.program k < p.program.functions
unit_within p h k least most =
    let calls = h.formed.calls k (omega arith) most in
    omega (arith, (h.formed.first (p.program.callee k) calls.1).0, calls.1)

pub peers_more : (C : Program) (m k : ℕ) (peers : List SiteSet) (set : SiteSet) → k ≡ suc m → unit_for C k < C.functions → ArePeers C m peers →
    ((j : ℕ) → Adds (HasAt peers (unit_for C k) j) (Has set j) (j ≡ k)) → ArePeers C k (slice_set peers (unit_for C k) set)
peers_more C m k peers set e within t insert = record {
  count = length-set peers (unit_for C k) set ∙ t.count;
  sets = λ u j.
      let n = set_more peers (unit_for C k) set u j (omega (arith, t.count)) (insert j) in
      let b = t.sets u j in (
        λ x. elim (n.splits x) [
          | inl y ↦ let s = b.0 y in record { least = s.least; most = omega (arith, s.most); unit = s.unit }
          | inr (f, g) ↦ record { least = omega arith; most = omega arith; unit = ap (λ i. unit_for C i) g ∙ f }
        ],
        λ s. elim (cases_eq j k) [
          | inl f ↦ n.joins (ap (λ i. unit_for C i) (sym f) ∙ s.unit, f)
          | inr f ↦ n.stays (b.1 (record { least = s.least; most = omega (arith, s.most); unit = s.unit }))
        ],
      );
}
