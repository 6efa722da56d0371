-- An order has no more wires than its net has signals.
use Rattle.std.proofs.Common.{◌≡◌, inl, inr, ℕ, suc, ◌<◌, ◌^◌, true, false, ◌||◌, eqb, List, [], ◌∷◌, length, Some, slice_get, refl, sym, ap, subst, ◌∙◌, arith}
use Rattle.std.specs.List.{IsDistinct, AllByRecursion, list_any}
use Rattle.std.proofs.lemmas.Bool.Decides.{eqb_tells}
use Rattle.std.proofs.lemmas.Map.Steps.{length-le_from_distinct_below}
use Rattle.safl_net.specs.Netlist.{Netlist}
use Rattle.safl_net.specs.Rules.{IsNetlist}
use Rattle.safl_order.specs.Order.{IsOrder}
use Rattle.safl_order.proofs.Moves.{wire_in_net}

all_away : (x : ℕ) (xs : List ℕ) → ((i y : ℕ) → slice_get xs i ≡ Some y → ¬ (x ≡ y)) → AllByRecursion (λ y. eqb x y ≡ false) xs
all_away x [] h = tt
all_away x (y ∷ xs) h = ((elim (eqb_tells x y) [ inl a ↦ absurd (h 0 y refl a.1) | inr a ↦ a.0 ]), all_away x xs (λ i z e. h (suc i) z e))

distinct : (xs : List ℕ) → ((i j s : ℕ) → slice_get xs i ≡ Some s → slice_get xs j ≡ Some s → i ≡ j) → IsDistinct eqb xs
unfolding IsDistinct
distinct [] h = tt
distinct (x ∷ xs) h = (
  all_away x xs (λ i y e q. absurd (let z = h 0 (suc i) x refl (e ∙ ap Some (sym q)) in omega (arith, z))),
  distinct xs (λ i j s e f. let z = h (suc i) (suc j) s e f in omega (arith, z)),
)

in_list : (q : ℕ) (xs : List ℕ) → list_any (eqb q) xs ≡ true → (i : ℕ) × (slice_get xs i ≡ Some q)
in_list q [] e = absurd (cc)
in_list q (x ∷ xs) e = elim (eqb_tells q x) [
  | inl a ↦ (0, ap Some (sym a.1))
  | inr a ↦ let b = in_list q xs (subst (λ t. (t || list_any (eqb q) xs) ≡ true) a.0 e) in (suc b.0, b.1)
]

pub few_wires : (n : Netlist) (ws : List ℕ) → IsNetlist n → IsOrder n ws → length ws < 2 ^ 32
few_wires n ws made o =
    let a = length-le_from_distinct_below ws (length n.signals) (distinct ws o.once) (λ q e. let b = in_list q ws e in wire_in_net n q (o.wires b.0 q b.1)) in
    let b = made.few in
    omega (arith, a, b)
