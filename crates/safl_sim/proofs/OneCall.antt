-- A net without loops has one call of so many cycles with these arguments from a state.
use Rattle.std.proofs.Common.{◌≡◌, ℕ, zero, suc, ◌+◌, List, [], ◌∷◌, ◌++◌, map, length, Some, slice_get, slice_index, refl, sym, ap, subst, ◌∙◌, arith}
use Rattle.safl_word.specs.Words.{Word}
use Rattle.safl_net.specs.Netlist.{Netlist, Signal, Kind, Input, Reg, Wire}
use Rattle.safl_net.specs.Rules.{IsNetlist}
use Rattle.safl_net.specs.Runs.{GoesOn, start_number, input_numbers}
use Rattle.safl_net.specs.Valuations.{Valuation, Fits, IsAcyclic, next_state, reset_state}
use Rattle.safl_net.specs.Whole.{IsWhole}
use Rattle.safl_net.proofs.OneValuation.{one_valuation}
use Rattle.safl_sim.specs.Outcomes.{IsCallRun, IsOnlyRun}
use Rattle.safl_sim.specs.Words.{zero_of}
use Rattle.safl_sim.proofs.Giving.{own_value, input_values, has_words, values_are, zero_bits, bits}

-- what has the same numbers at the inputs agrees on them
pub same_values : (gs : List Signal) (v u : List ℕ) → length v ≡ length gs → length u ≡ length gs → input_values gs v ≡ input_values gs u → (s : ℕ)
    (g : Signal) → slice_get gs s ≡ Some g → g.kind ≡ Input → slice_index v s ≡ slice_index u s
same_values [] v u l m e s h at is = absurd cc
same_values (g ∷ gs) [] u l m e s h at is = absurd (omega (arith, l))
same_values (g ∷ gs) (x ∷ v) [] l m e s h at is = absurd (omega (arith, m))
same_values (g ∷ gs) (x ∷ v) (y ∷ u) l m e zero h at is =
    let q : g ≡ h = cc in
    here (subst (λ k. own_value k x ++ input_values gs v ≡ own_value k y ++ input_values gs u) (ap (λ (z : Signal). z.kind) q ∙ is) e)
  where
    here : x ∷ input_values gs v ≡ y ∷ input_values gs u → x ≡ y
    here e = cc
same_values (g ∷ gs) (x ∷ v) (y ∷ u) l m e (suc s) h at is = same_values gs v u (omega (arith, l)) (omega (arith, m)) (rest g.kind e) s h at is
  where
    rest : (k : Kind) → own_value k x ++ input_values gs v ≡ own_value k y ++ input_values gs u → input_values gs v ≡ input_values gs u
    rest Input e = cc
    rest (Reg init next) e = e
    rest (Wire cell) e = e

module _ (n : Netlist) (made : IsNetlist n) (whole : IsWhole n) (acyclic : IsAcyclic n) where
  one_cycle : (x : ℕ) (args : List Word) (state : ℕ → ℕ) (v w : Valuation) → Fits n state v → Fits n state w → start_number n v ≡ x → start_number n w
      ≡ x → input_numbers n.signals v ≡ bits args → input_numbers n.signals w ≡ bits args → w ≡ v
  one_cycle x args state v w fv fw sv sw iv iw =
      one_valuation n whole.set acyclic state w v fw fv
      (same_values n.signals w v fw.full fv.full (sym (values_are n w fw.full) ∙ has_words n x args w made whole fw.full sw iw ∙ sym
      (has_words n x args v made whole fv.full sv iv) ∙ values_are n v fv.full))

  abbrev Zeros : List Word → List Valuation → Type 0
  Zeros args vs = (c : ℕ) (v : Valuation) → slice_get vs c ≡ Some v → input_numbers n.signals v ≡ map (λ (w : Word). 0) args

  -- two calls have the same cycle at a place
  goes_same : (args : List Word) (state : ℕ → ℕ) (vs ws : List Valuation) → GoesOn n state vs → GoesOn n state ws → Zeros args vs → Zeros args ws →
      (c : ℕ) (v w : Valuation) → slice_get vs c ≡ Some v → slice_get ws c ≡ Some w → w ≡ v
  goes_same args state [] ws g h y z c v w e f = absurd (cc)
  goes_same args state (a ∷ vs) [] g h y z c v w e f = absurd (cc)
  goes_same args state (a ∷ vs) (b ∷ ws) g h y z c v w e f =
      let same : b ≡ a = one_cycle 0 (map zero_of args) state a b g.0 h.0 g.1 h.1 (y 0 a refl ∙ sym (zero_bits args)) (z 0 b refl ∙ sym (zero_bits args)) in
      at c e f same (goes_same args (next_state n a) vs ws g.2 (subst (λ x. GoesOn n (next_state n x) ws) same h.2) (λ c x e. y (suc c) x e) (λ c x e. z (suc c) x e))
    where
      at : (c : ℕ) → slice_get (a ∷ vs) c ≡ Some v → slice_get (b ∷ ws) c ≡ Some w → b ≡ a → ((c : ℕ) (v w : Valuation) → slice_get vs c ≡ Some v → slice_get ws c ≡ Some w → w ≡ v) → w ≡ v
      at zero e f same rest = cc
      at (suc c) e f same rest = rest c v w e f

  pub same_at : (state : ℕ → ℕ) (args : List Word) (vs ws : List Valuation) → IsCallRun n state args vs → IsCallRun n state args ws → (c : ℕ)
      (v w : Valuation) → slice_get vs c ≡ Some v → slice_get ws c ≡ Some w → w ≡ v
  same_at state args [] ws a b c v w e f = absurd (cc)
  same_at state args (x ∷ vs) [] a b c v w e f = absurd (cc)
  same_at state args (x ∷ vs) (y ∷ ws) a b c v w e f =
      let g = a.run in
      let h = b.run in
      let same : y ≡ x = one_cycle 1 args state x y g.0 h.0 g.1 h.1 g.2 h.2 in
      at c e f same (goes_same args (next_state n x) vs ws g.3 (subst (λ z. GoesOn n (next_state n z) ws) same h.3) a.zeros b.zeros)
    where
      at : (c : ℕ) → slice_get (x ∷ vs) c ≡ Some v → slice_get (y ∷ ws) c ≡ Some w → y ≡ x → ((c : ℕ) (v w : Valuation) → slice_get vs c ≡ Some v → slice_get ws c ≡ Some w → w ≡ v) → w ≡ v
      at zero e f same rest = cc
      at (suc c) e f same rest = rest c v w e f

  -- so calls of the same length are the same
  pub once : (state : ℕ → ℕ) (args : List Word) (vs ws : List Valuation) → IsCallRun n state args vs → IsCallRun n state args ws → length ws ≡ length vs → ws ≡ vs
  once state args vs ws a b l = all_same vs ws l (same_at state args vs ws a b)
    where
      all_same : (vs ws : List Valuation) → length ws ≡ length vs → ((c : ℕ) (v w : Valuation) → slice_get vs c ≡ Some v → slice_get ws c ≡ Some w → w ≡ v) → ws ≡ vs
      all_same [] [] l same = refl
      all_same [] (w ∷ ws) l same = absurd (omega (arith, l))
      all_same (v ∷ vs) [] l same = absurd (omega (arith, l))
      all_same (v ∷ vs) (w ∷ ws) l same = ap (λ x. x ∷ ws) (same 0 v w refl refl) ∙ ap (λ x. v ∷ x) (all_same vs ws (omega (arith, l)) (λ c x y e f. same (suc c) x y e f))

  -- from reset, the cycles of a call are the only run
  pub only_run : (args : List Word) (vs : List Valuation) (count : ℕ) → IsCallRun n (reset_state n) args vs → length vs ≡ count → IsOnlyRun n args count vs
  only_run args vs count call l = record { is = call; long = l; alone = λ ws r e. once (reset_state n) args vs ws call r (e ∙ sym l) }
