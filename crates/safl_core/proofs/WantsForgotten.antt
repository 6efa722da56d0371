-- The words with which a unit wanted its sites, forgotten.
use Rattle.safl_core.proofs.Common.{IsSpan, Program, Span, Word, cases_eq, cases_lt, eq-eqb, get_or-set_other, get_or-set_same, ne_eqb}
use Rattle.std.proofs.Common.{◌≡◌, ◌≢◌, ℕ, ◌+◌, ◌<◌, ◌≤◌, List, length, cond, eqb, Option, None, get_or, slice_set, sym, ap, ◌∙◌, subst, ⊎_elim, arith}

module _ (C : Program) (u : ℕ) where
  off_cleared : (o : Option (List Word)) (j : ℕ) → C.unit (C.caller j) ≢ u → o ≡ cond (eqb (C.unit (C.caller j)) u) None o
  off_cleared o j ne = sym (ap (λ b. cond b None o) (ne_eqb (C.unit (C.caller j)) u ne))

  -- the sites before the unit's own
  pub clear_front : (s : Span) → IsSpan C u s → (A : List (Option (List Word))) (j : ℕ) → 0 < j → j < s.first → get_or A j None ≡ cond (eqb (C.unit (C.caller j)) u) None (get_or A j None)
  clear_front s h A j pos lt = off_cleared (get_or A j None) j (λ q. absurd (omega (arith, (h.all j pos (omega (arith, lt, h.order, h.most)) q).0, lt)))

  -- one more of them
  clear_one : (k : ℕ) (A0 A : List (Option (List Word))) → ((j : ℕ) → 0 < j → j < k → get_or A j None ≡ cond (eqb (C.unit (C.caller j)) u) None
      (get_or A0 j None)) → ((j : ℕ) → k ≤ j → get_or A j None ≡ get_or A0 j None)
      → k < length A → C.unit (C.caller k) ≡ u
      → ((j : ℕ) → 0 < j → j < k + 1 → get_or (slice_set A k None) j None ≡ cond (eqb (C.unit (C.caller j)) u) None (get_or A0 j None)) ×
      ((j : ℕ) → k + 1 ≤ j → get_or (slice_set A k None) j None ≡ get_or A0 j None)
  clear_one k A0 A below above lt own = (
    λ j pos le. ⊎_elim
        (λ q. subst (λ n. get_or (slice_set A k None) n None ≡ cond (eqb (C.unit (C.caller n)) u) None (get_or A0 n None)) (sym q)
        (get_or-set_same A k None None lt ∙ sym (ap (λ b. cond b None (get_or A0 k None)) (eq-eqb (C.unit (C.caller k)) u own))))
        (λ ne. get_or-set_other A k j None None ne ∙ below j pos (omega (arith, le, ne)))
        (cases_eq j k),
    λ j le. get_or-set_other A k j None None (λ q. absurd (omega (arith, le, q))) ∙ above j (omega (arith, le)),
  )

  pub clear_site : (k : ℕ) (A0 A : List (Option (List Word))) (o : Option (List Word)) → o ≡ None
      → ((j : ℕ) → 0 < j → j < k → get_or A j None ≡ cond (eqb (C.unit (C.caller j)) u) None (get_or A0 j None)) → ((j : ℕ) → k ≤ j → get_or A j None ≡ get_or A0 j None)
      → k < length A → C.unit (C.caller k) ≡ u
      → ((j : ℕ) → 0 < j → j < k + 1 → get_or (slice_set A k o) j None ≡ cond (eqb (C.unit (C.caller j)) u) None (get_or A0 j None)) ×
      ((j : ℕ) → k + 1 ≤ j → get_or (slice_set A k o) j None ≡ get_or A0 j None)
  clear_site k A0 A o e below above lt own =
      subst (λ (x : Option (List Word)). ((j : ℕ) → 0 < j → j < k + 1 → get_or (slice_set A k x) j None ≡ cond (eqb (C.unit (C.caller j)) u) None
      (get_or A0 j None)) × ((j : ℕ) → k + 1 ≤ j → get_or (slice_set A k x) j None ≡ get_or A0 j None)) (sym e)
      (clear_one k A0 A below above lt own)

  -- and those after them
  pub clear_back : (s : Span) → IsSpan C u s → (k : ℕ) (A0 A : List (Option (List Word))) → s.end ≤ k
      → ((j : ℕ) → 0 < j → j < k → get_or A j None ≡ cond (eqb (C.unit (C.caller j)) u) None (get_or A0 j None)) → ((j : ℕ) → k ≤ j → get_or A j None ≡ get_or A0 j None)
      → (j : ℕ) → 0 < j → j ≤ C.sites → get_or A j None ≡ cond (eqb (C.unit (C.caller j)) u) None (get_or A0 j None)
  clear_back s h k A0 A le below above j pos most = ⊎_elim (below j pos)
      (λ ge. above j ge ∙ off_cleared (get_or A0 j None) j (λ q. absurd (omega (arith, (h.all j pos most q).1, ge, le)))) (cases_lt j k)
