-- What tables of loads cost, and what another load changes at most.
use Rattle.safl_lower.proofs.Common.{AreSources, Load, Netlist, Sig}
use Rattle.std.proofs.Common.{◌≡◌, ℕ, zero, suc, ◌+◌, ◌≤◌, List, [], ◌∷◌, length, take, Option, Some, None, Bool, true, false, cond, ◌==◌, slice_get, refl, sym, ap, subst, ◌∙◌, arith}
use Rattle.std.proofs.lemmas.Bool.{eq-eqb, ne_eqb, eqb-true}
use Rattle.safl_lower.specs.Tables.{entry_in, FitsIn, LoadFits, SomeFit}
use Rattle.safl_lower.proofs.Cells.{sources_length}
use Rattle.safl_lower.specs.Loads.{load_cost, loads_cost}

pub no_cost : (xs : List (Option Load)) → ((i : ℕ) → entry_in (slice_get xs i) ≡ None) → loads_cost xs ≡ 0
no_cost [] h = refl
no_cost (x ∷ xs) h =
    let a : load_cost x ≡ 0 = ap load_cost (h 0) in
    let b = no_cost xs (λ i. h (suc i)) in
    omega (arith, a, b)

-- the first so many of a table
pub cost_next : (xs : List (Option Load)) (i : ℕ) (o : Option Load) → slice_get xs i ≡ Some o → loads_cost (take (suc i) xs) ≡ loads_cost (take i xs) + load_cost o
cost_next [] i o e = absurd (cc)
cost_next (x ∷ xs) zero o e = let s : x ≡ o = cc in let c = ap load_cost s in omega (arith, c)
cost_next (x ∷ xs) (suc i) o e = let h = cost_next xs i o e in omega (arith, h)

-- ---- loads of known widths

there_costs : (n : Netlist) (l : Load) (ws : List ℕ) → LoadFits n l ws → load_cost (Some l) ≡ 1 + length ws
there_costs n l ws h = let e = sources_length n l.words.items ws h.words in omega (arith, e)

pub fits_cost : (n : Netlist) (o : Option Load) (ws : List ℕ) → FitsIn n o ws → load_cost o ≤ 1 + length ws
fits_cost n None ws h = omega arith
fits_cost n (Some l) ws h = let e = there_costs n l ws h in omega (arith, e)

-- a load that has any widths there are is none
has_none : (n : Netlist) (o : Option Load) → ((us : List ℕ) → FitsIn n o us) → o ≡ None
has_none n None h = refl
has_none n (Some l) h =
    let a = sources_length n l.words.items [] (h []).words in
    let b = sources_length n l.words.items (1 ∷ []) (h (1 ∷ [])).words in
    absurd (omega (arith, a, b))

-- these widths, but others at one number
abbrev with_widths : (ℕ → List ℕ) → ℕ → List ℕ → ℕ → List ℕ
with_widths ws i us k = cond (k == i) us (ws k)

-- ---- one more load at `p`, of which nothing is known but that the table fits afterwards

module _ (n m : Netlist) (xs ys : List (Option Load)) (own : List Sig) (p : ℕ)
    (fit : (us : ℕ → List ℕ) → SomeFit n xs us → AreSources n own (us p) → SomeFit m ys us)
    (ws : ℕ → List ℕ) (before : SomeFit n xs ws) (sized : AreSources n own (ws p)) where
  fits_with : (i : ℕ) → entry_in (slice_get xs i) ≡ None → (us : List ℕ) (k : ℕ) (t : Bool) → (k == i) ≡ t → FitsIn n (entry_in (slice_get xs k)) (cond t us (ws k))
  fits_with i e us k true t = subst (λ (o : Option Load). FitsIn n o us) (sym (ap (λ (j : ℕ). entry_in (slice_get xs j)) (eqb-true k i t) ∙ e)) tt
  fits_with i e us k false t = before k

  any_fits : (i : ℕ) → (i ≡ p → ⊥) → entry_in (slice_get xs i) ≡ None → (us : List ℕ) → FitsIn m (entry_in (slice_get ys i)) us
  any_fits i d e us =
      subst (λ (b : Bool). FitsIn m (entry_in (slice_get ys i)) (cond b us (ws i))) (eq-eqb i i refl)
      (fit (with_widths ws i us) (λ k. fits_with i e us k (k == i) refl)
      (subst (λ (b : Bool). AreSources n own (cond b us (ws p))) (sym (ne_eqb p i (λ s. d (sym s)))) sized) i)

  -- where there was none elsewhere, there is none
  pub stays_none : (i : ℕ) → (i ≡ p → ⊥) → entry_in (slice_get xs i) ≡ None → entry_in (slice_get ys i) ≡ None
  stays_none i d e = has_none m (entry_in (slice_get ys i)) (any_fits i d e)

  others_by : (i : ℕ) → (i ≡ p → ⊥) → (o : Option Load) → entry_in (slice_get xs i) ≡ o → load_cost (entry_in (slice_get ys i)) ≤ load_cost o
  others_by i d None e = let z = ap load_cost (stays_none i d e) in omega (arith, z)
  others_by i d (Some l) e =
      let a = there_costs n l (ws i) (subst (λ (o : Option Load). FitsIn n o (ws i)) e (before i)) in
      let b = fits_cost m (entry_in (slice_get ys i)) (ws i) (fit ws before sized i) in
      omega (arith, a, b)

  others_cost : (i : ℕ) → (i ≡ p → ⊥) → load_cost (entry_in (slice_get ys i)) ≤ load_cost (entry_in (slice_get xs i))
  others_cost i d = others_by i d (entry_in (slice_get xs i)) refl

  own_cost : load_cost (entry_in (slice_get ys p)) ≤ 1 + length own
  own_cost =
      let a = fits_cost m (entry_in (slice_get ys p)) (ws p) (fit ws before sized p) in
      let b = sources_length n own (ws p) sized in
      omega (arith, a, b)

  -- so the table costs a bit and the load's words more at most
  pub cost_more : length ys ≡ length xs → loads_cost ys ≤ loads_cost xs + (1 + length own)
  cost_more e = sums xs ys p (1 + length own) e others_cost own_cost
    where
      no_more : (xs ys : List (Option Load)) → length ys ≡ length xs → ((i : ℕ) → load_cost (entry_in (slice_get ys i)) ≤ load_cost (entry_in (slice_get xs i))) → loads_cost ys ≤ loads_cost xs
      no_more [] [] e h = omega arith
      no_more [] (y ∷ ys) e h = absurd (omega (arith, e))
      no_more (x ∷ xs) [] e h = omega arith
      no_more (x ∷ xs) (y ∷ ys) e h =
          let a : load_cost y ≤ load_cost x = h 0 in
          let b = no_more xs ys (omega (arith, e)) (λ i. h (suc i)) in
          omega (arith, a, b)

      sums : (xs ys : List (Option Load)) (p k : ℕ) → length ys ≡ length xs →
          ((i : ℕ) → (i ≡ p → ⊥) → load_cost (entry_in (slice_get ys i)) ≤ load_cost (entry_in (slice_get xs i))) → load_cost (entry_in (slice_get ys p))
          ≤ k → loads_cost ys ≤ loads_cost xs + k
      sums [] [] p k e h o = omega arith
      sums [] (y ∷ ys) p k e h o = absurd (omega (arith, e))
      sums (x ∷ xs) [] p k e h o = omega arith
      sums (x ∷ xs) (y ∷ ys) zero k e h o =
          let a : load_cost y ≤ k = o in
          let b = no_more xs ys (omega (arith, e)) (λ i. h (suc i) (λ s. absurd (omega (arith, s)))) in
          omega (arith, a, b)
      sums (x ∷ xs) (y ∷ ys) (suc p) k e h o =
          let a : load_cost y ≤ load_cost x = h 0 (λ s. absurd (omega (arith, s))) in
          let b = sums xs ys p k (omega (arith, e)) (λ i d. h (suc i) (λ s. d (omega (arith, s)))) o in
          omega (arith, a, b)
