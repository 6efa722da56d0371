-- Entries of tables.
use Rattle.safl_unit.proofs.Common.{EachAt, Sig, get_pushed, pin}
use Rattle.std.proofs.Common.{◌≡◌, ℕ, ◌<◌, List, [], ◌∷◌, ◌++◌, length, Some, slice_get, slice_index_or, inl, inr, sym, subst}
use Rattle.std.proofs.lemmas.Option.{slice_get-get_or, get_or_from_slice_get}

pub each_none : {A : Type 0} (P : ℕ → A → Type 0) → EachAt [] P
each_none P i x e = absurd (cc)

-- one more entry
pub each_push : {A : Type 0} (xs : List A) (a : A) (P : ℕ → A → Type 0) → EachAt xs P → P (length xs) a → EachAt (xs ++ a ∷ []) P
each_push xs a P all here i x e = elim (get_pushed xs a x i e) [ inl q ↦ all i x q | inr q ↦ subst (λ j. P j x) (sym q.0) (subst (P (length xs)) (sym q.1) here) ]

-- pins
pub pin_is : (xs : List Sig) (i : ℕ) (s : Sig) → slice_get xs i ≡ Some s → pin xs i ≡ s
pin_is xs i s e = get_or_from_slice_get xs i s (record { 0 = 0 }) e

pub pin_get : (xs : List Sig) (i : ℕ) → i < length xs → slice_get xs i ≡ Some (pin xs i)
pin_get xs i l = slice_get-get_or xs i (record { 0 = 0 }) l

-- an entry that is there is the same whatever stands for one that is not
pub read_again : {A : Type 0} (xs : List A) (i : ℕ) (d : A) → i < length xs → slice_index_or xs i d ≡ slice_index_or xs i (slice_index_or xs i d)
read_again xs i d l = sym (get_or_from_slice_get xs i (slice_index_or xs i d) (slice_index_or xs i d) (slice_get-get_or xs i d l))
