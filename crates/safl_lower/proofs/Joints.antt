-- Rows that are joined, one row after another.
use Rattle.safl_lower.proofs.Common.{Builds, Load, Netlist, Sig, entry_in, on, or_none, wired_before}
use Rattle.std.proofs.Common.{◌≡◌, ℕ, zero, suc, ◌*◌, List, [], ◌∷◌, ◌++◌, length, take, Option, Some, None, Vec, Global}
use Rattle.std.proofs.Common.{slice_get, slice_index_or, refl, sym, subst, arith}
use Rattle.std.proofs.Math.Bool.{and-false}
use Rattle.safl_word.proofs.Lists.{take_suc}
use Rattle.safl_lower.specs.declared.trees.Several.{Several}
use Rattle.safl_lower.specs.Rows.{AreBits, maybe_one, row_at}
use Rattle.safl_lower.specs.Heights.{load_parts, parts}
use Rattle.safl_lower.specs.Joints.{IsAnyOf, IsFirstOf, IsSeveralOf, IsSeveralIn}
use Rattle.safl_lower.proofs.Building.{source_kept}
use Rattle.safl_lower.proofs.KnownLoads.{maybe_bit_kept}
use Rattle.safl_lower.proofs.Heights.{within_kept, alone_within, all_kept}

-- ---- rows of bits

pub alone_any : (n : Netlist) (xs : List Sig) → AreBits n xs → length xs ≡ 1 → IsAnyOf n xs (Some (slice_index_or xs 0 (record { 0 = 0 })))
alone_any n [] h e = absurd (omega (arith, e))
alone_any n (x ∷ y ∷ xs) h e = absurd (omega (arith, e))
alone_any n (x ∷ []) h e = record {
  fits = h.0;
  shows = λ v w. or_none (on v x);
  height = λ k l. (alone_within n (x ∷ []) (record { 0 = 0 }) k refl, tt);
}

pub any_kept : {a b : Netlist} {k : ℕ} → Builds a b k → (row : List Sig) (o : Option Sig) → IsAnyOf a row o → IsAnyOf b row o
any_kept g row o q = record {
  fits = maybe_bit_kept g o q.fits;
  shows = λ v w. q.shows v (wired_before g.grows w);
  height = λ h l. all_kept g row h (maybe_one o) (q.height h l);
}

-- ---- whether one bit of a row is 1, and whether two are

pub alone_several : (n : Netlist) (xs : List Sig) → AreBits n xs → length xs ≡ 1 → IsSeveralOf n xs (record { any = slice_index_or xs 0 (record { 0 = 0 }); two = None })
alone_several n [] h e = absurd (omega (arith, e))
alone_several n (x ∷ y ∷ xs) h e = absurd (omega (arith, e))
alone_several n (x ∷ []) h e = record {
  any_fits = h.0;
  two_fits = tt;
  any_shows = λ v w. or_none (on v x);
  two_shows = λ v w. sym (and-false (on v x));
  height = λ k l. alone_within n (x ∷ []) (record { 0 = 0 }) k refl;
  two_height = λ k l. tt;
}

pub several_kept : {a b : Netlist} {k : ℕ} → Builds a b k → (row : List Sig) (s : Several) → IsSeveralOf a row s → IsSeveralOf b row s
several_kept g row s q = record {
  any_fits = source_kept g q.any_fits;
  two_fits = maybe_bit_kept g s.two q.two_fits;
  any_shows = λ v w. q.any_shows v (wired_before g.grows w);
  two_shows = λ v w. q.two_shows v (wired_before g.grows w);
  height = λ h l. within_kept g row h s.any.0 (q.height h l);
  two_height = λ h l. all_kept g row (3 * h) (maybe_one s.two) (q.two_height h l);
}

pub several_in_kept : {a b : Netlist} {k : ℕ} → Builds a b k → (row : List Sig) (o : Option Several) → IsSeveralIn a row o → IsSeveralIn b row o
several_in_kept g row None q = q
several_in_kept g row (Some s) q = several_kept g row s q

-- ---- rows of loads

pub none_first : (n : Netlist) (ls : List Load) → length ls ≡ 0 → IsFirstOf n ls None
none_first n [] e = record { shows = λ v w. refl; height = λ h l. tt }
none_first n (x ∷ ls) e = absurd (omega (arith, e))

pub first_kept : {a b : Netlist} {k : ℕ} → Builds a b k → (row : List Load) (o : Option Load) → IsFirstOf a row o → IsFirstOf b row o
first_kept g row o q = record {
  shows = λ v w. q.shows v (wired_before g.grows w);
  height = λ h l. all_kept g (parts row) h (load_parts o) (q.height h l);
}

-- ---- one row more

row_more : {A B : Type 0} (P : List A → Option B → Type 0) (rows : List (Vec A Global)) (all : List (Option B)) (r : Vec A Global) (o : Option B) →
    P [] None → length all ≡ length rows → ((j : ℕ) → P (row_at rows j) (entry_in (slice_get all j))) → P r.items o
    → (j : ℕ) → P (row_at (rows ++ r ∷ []) j) (entry_in (slice_get (all ++ o ∷ []) j))
row_more P [] [] r o z e h q zero = q
row_more P [] [] r o z e h q (suc j) = z
row_more P [] (x ∷ all) r o z e h q j = absurd (omega (arith, e))
row_more P (x ∷ rows) [] r o z e h q j = absurd (omega (arith, e))
row_more P (x ∷ rows) (y ∷ all) r o z e h q zero = h 0
row_more P (x ∷ rows) (y ∷ all) r o z e h q (suc j) = row_more P rows all r o z (omega (arith, e)) (λ i. h (suc i)) q j

pub row_joined : {A B : Type 0} (P : List A → Option B → Type 0) (rows : List (Vec A Global)) (all after : List (Option B)) (i : ℕ) (r : Vec A Global)
    (o : Option B) → P [] None → slice_get rows i ≡ Some r → length all ≡ length (take i rows)
    → ((j : ℕ) → P (row_at (take i rows) j) (entry_in (slice_get all j))) → P r.items o → after ≡ all ++ o ∷ []
    → (j : ℕ) → P (row_at (take (suc i) rows) j) (entry_in (slice_get after j))
row_joined {A} {B} P rows all after i r o z at e h q is j =
    subst (λ (l : List (Vec A Global)). P (row_at l j) (entry_in (slice_get after j))) (sym (take_suc rows i r at))
    (subst (λ (l : List (Option B)). P (row_at (take i rows ++ r ∷ []) j) (entry_in (slice_get l j))) (sym is) (row_more P (take i rows) all r o z e h q j))
