-- What the tests on sets mean.
use Rattle.std.proofs.Common.{◌≡◌, ℕ, Bool, true, false, cond, eqb, List, [], ◌∷◌, ◌++◌, refl, sym, subst, inl, inr}
use Rattle.std.specs.Prelude.{◌⊎◌}
use Rattle.std.proofs.lemmas.Bool.{eqb-true}
use Rattle.safl_grammar.specs.Sets.{Set, Every, Only, member, within, all_in, subset, union, none_in, apart, union_if}

-- a test with false in one branch
pub both_true : (a b : Bool) → cond a b false ≡ true → (a ≡ true) × (b ≡ true)
both_true true b e = (refl, e)
both_true false b e = absurd cc

pub not_first : (a b : Bool) → cond a false b ≡ true → (a ≡ false) × (b ≡ true)
not_first true b e = absurd cc
not_first false b e = (refl, e)

pub one_true : (a b : Bool) → cond a true b ≡ true → (a ≡ true) ⊎ (b ≡ true)
one_true true b e = inl refl
one_true false b e = inr e

in_all : (xs ys : List ℕ) (c : ℕ) → all_in xs ys ≡ true → member c xs ≡ true → member c ys ≡ true
in_all [] ys c h m = absurd cc
in_all (x ∷ xs) ys c h m =
    let b = both_true (member x ys) (all_in xs ys) h in
    elim (one_true (eqb c x) (member c xs) m) [
      | inl e ↦ subst (λ (k : ℕ). member k ys ≡ true) (sym (eqb-true c x e)) b.0
      | inr e ↦ in_all xs ys c b.1 e
    ]

pub subset_within : (A B : Set) (c : ℕ) → subset A B ≡ true → within A c ≡ true → within B c ≡ true
subset_within A Every c h m = refl
subset_within Every (Only ys) c h m = absurd cc
subset_within (Only xs) (Only ys) c h m = in_all xs ys c h m

none_within : (xs : List ℕ) (B : Set) (c : ℕ) → none_in xs B ≡ true → member c xs ≡ true → within B c ≡ false
none_within [] B c h m = absurd cc
none_within (x ∷ xs) B c h m =
    let b = not_first (within B x) (none_in xs B) h in
    elim (one_true (eqb c x) (member c xs) m) [
      | inl e ↦ subst (λ (k : ℕ). within B k ≡ false) (sym (eqb-true c x e)) b.0
      | inr e ↦ none_within xs B c b.1 e
    ]

pub apart_within : (A B : Set) (c : ℕ) → apart A B ≡ true → within A c ≡ true → within B c ≡ false
apart_within Every B c h m = absurd cc
apart_within (Only xs) B c h m = none_within xs B c h m

member_front : (xs ys : List ℕ) (c : ℕ) → member c xs ≡ true → member c (xs ++ ys) ≡ true
member_front [] ys c m = absurd cc
member_front (x ∷ xs) ys c m =
    elim (one_true (eqb c x) (member c xs) m) [
      | inl e ↦ rw e refl
      | inr e ↦ or_true (eqb c x) (member_front xs ys c e)
    ]
  where
    or_true : (a : Bool) {b : Bool} → b ≡ true → cond a true b ≡ true
    or_true true e = refl
    or_true false e = e

member_back : (xs ys : List ℕ) (c : ℕ) → member c ys ≡ true → member c (xs ++ ys) ≡ true
member_back [] ys c m = m
member_back (x ∷ xs) ys c m = or_true (eqb c x) (member_back xs ys c m)
  where
    or_true : (a : Bool) {b : Bool} → b ≡ true → cond a true b ≡ true
    or_true true e = refl
    or_true false e = e

pub union_first : (A B : Set) (c : ℕ) → within A c ≡ true → within (union A B) c ≡ true
union_first Every B c m = refl
union_first (Only xs) Every c m = refl
union_first (Only xs) (Only ys) c m = member_front xs ys c m

pub union_second : (A B : Set) (c : ℕ) → within B c ≡ true → within (union A B) c ≡ true
union_second Every B c m = refl
union_second (Only xs) Every c m = refl
union_second (Only xs) (Only ys) c m = member_back xs ys c m

pub if_first : (q : Bool) (A B : Set) (c : ℕ) → within A c ≡ true → within (union_if q A B) c ≡ true
if_first true A B c m = union_first A B c m
if_first false A B c m = m

pub if_second : (q : Bool) (A B : Set) (c : ℕ) → q ≡ true → within B c ≡ true → within (union_if q A B) c ≡ true
if_second true A B c q m = union_second A B c m
if_second false A B c q m = absurd cc
