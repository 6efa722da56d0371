-- The laws of sets of codes.
use Rattle.std.specs.Prelude.{◌≡◌, ℕ, true, false}
use Rattle.safl_grammar.specs.Sets.{Set, within, subset, apart, union}

abbrev pub SubsetsHold : Type 0
SubsetsHold = (A B : Set) (c : ℕ) → subset A B ≡ true → within A c ≡ true → within B c ≡ true

abbrev pub ApartShareNone : Type 0
ApartShareNone = (A B : Set) (c : ℕ) → apart A B ≡ true → within A c ≡ true → within B c ≡ false

abbrev pub UnionsHoldBoth : Type 0
UnionsHoldBoth = (A B : Set) (c : ℕ) → (within A c ≡ true → within (union A B) c ≡ true) × (within B c ≡ true → within (union A B) c ≡ true)
