-- The groups of functions, from what holds of each function and the one before it.
use Rattle.std.proofs.Common.{◌≡◌, ℕ, zero, suc, ◌+◌, ◌<◌, ◌≤◌, sym, ap, ◌∙◌, subst, ◌⊎◌, ⊎_elim, arith}
use Rattle.std.proofs.Math.Nat.{le_dest}

-- a function is in the group of the one before it and has its width, or it is the first of its group
abbrev pub Steps : (ℕ → ℕ) → (ℕ → ℕ) → ℕ → Type 0
Steps unit width n = (i : ℕ) → suc i < n → ((unit (suc i) ≡ unit i) × (width (suc i) ≡ width i)) ⊎ (unit (suc i) ≡ suc i)

module _ (unit width : ℕ → ℕ) (n : ℕ) (first : unit 0 ≡ 0) (step : Steps unit width n) where
  pub unit_below : (i : ℕ) → i < n → unit i ≤ i
  unit_below zero h = omega (arith, first)
  unit_below (suc i) h = ⊎_elim
      (λ q. omega (arith, q.0, unit_below i (omega (arith, h))))
      (λ q. omega (arith, q)) (step i h)

  unit_rises : (i : ℕ) → suc i < n → unit i ≤ unit (suc i)
  unit_rises i h = ⊎_elim (λ q. omega (arith, q.0)) (λ q. omega (arith, q, unit_below i (omega (arith, h)))) (step i h)

  unit_least : (i d : ℕ) → i + d < n → unit i ≤ unit (i + d)
  unit_least i zero h = let e : i + 0 ≡ i = omega arith in omega (arith, ap unit e)
  unit_least i (suc d) h =
      let e : i + suc d ≡ suc (i + d) = omega arith in
      let m : suc (i + d) < n = omega (arith, h) in
      omega (arith, ap unit e, unit_rises (i + d) m, unit_least i d (omega (arith, h)))

  pub unit_monotone : (i j : ℕ) → i ≤ j → j < n → unit i ≤ unit j
  unit_monotone i j le h = let q = le_dest le in subst (λ (z : ℕ). unit i ≤ unit z) q.1 (unit_least i q.0 (omega (arith, q.1, h)))

  pub unit_first : (i : ℕ) → i < n → (unit (unit i) ≡ unit i) × (width (unit i) ≡ width i)
  unit_first zero h = (ap unit first, ap width first)
  unit_first (suc i) h = ⊎_elim
      (λ q. let r = unit_first i (omega (arith, h)) in (ap unit q.0 ∙ (r.0 ∙ sym q.0), ap width q.0 ∙ (r.1 ∙ sym q.1)))
      (λ q. (ap unit q, ap width q)) (step i h)

  unit_same : (f d : ℕ) → f + d < n → unit (f + d) ≤ f → unit f ≡ unit (f + d)
  unit_same f zero h le = let e : f ≡ f + 0 = omega arith in ap unit e
  unit_same f (suc d) h le =
      let e : f + suc d ≡ suc (f + d) = omega arith in
      let m : suc (f + d) < n = omega (arith, h) in
      let g : unit (suc (f + d)) ≤ f = omega (arith, le, ap unit e) in
      ⊎_elim
      (λ q. unit_same f d (omega (arith, h)) (omega (arith, g, q.0)) ∙ (sym q.0 ∙ sym (ap unit e)))
      (λ q. absurd (omega (arith, g, q))) (step (f + d) m)

  pub unit_group : (f g : ℕ) → g < n → unit g ≤ f → f ≤ g → unit f ≡ unit g
  unit_group f g h le between = let q = le_dest between in
      subst (λ (z : ℕ). unit f ≡ unit z) q.1 (unit_same f q.0 (omega (arith, q.1, h)) (omega (arith, ap unit q.1, le)))
