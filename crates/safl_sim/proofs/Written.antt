-- Numbers at places that are written.
use Rattle.std.proofs.Common.{◌≡◌, inl, inr, ℕ, zero, suc, ◌+◌, ◌<◌, List, [], ◌∷◌, length, set, Some, slice_get, slice_index, refl, sym, ap, subst, ◌∙◌, arith}
use Rattle.std.proofs.lemmas.List.{length-set}
use Rattle.safl_word.specs.Words.{Word, IsWord}
use Rattle.safl_word.proofs.Naturals.{lower_or_last}
use Rattle.safl_net.specs.declared.cell.Sig.{Sig}
use Rattle.safl_sim.specs.Writes.{HasPut}

pub index_here : (xs : List ℕ) (t x : ℕ) → t < length xs → slice_index (set xs t x) t ≡ x
index_here [] t x h = absurd (omega arith)
index_here (y ∷ xs) zero x h = refl
index_here (y ∷ xs) (suc t) x h = index_here xs t x (omega (arith, h))

pub index_other : (xs : List ℕ) (t x s : ℕ) → ¬ (s ≡ t) → slice_index (set xs t x) s ≡ slice_index xs s
index_other [] t x s n = refl
index_other (y ∷ xs) zero x zero n = absurd (n refl)
index_other (y ∷ xs) zero x (suc s) n = refl
index_other (y ∷ xs) (suc t) x zero n = refl
index_other (y ∷ xs) (suc t) x (suc s) n = index_other xs t x s (λ e. n (ap suc e))

-- one more word is put
pub put_step : (places : List Sig) (given : List Word) (old values : List ℕ) (i : ℕ) (s : Sig) (w : Word) → HasPut places given i old values →
    slice_get places i ≡ Some s → slice_get given i ≡ Some w → IsWord w → s.0 < length old
    → ((i j : ℕ) (s t : Sig) → slice_get places i ≡ Some s → slice_get places j ≡ Some t → s.0 ≡ t.0 → i ≡ j)
    → HasPut places given (i + 1) old (set values s.0 w.bits)
put_step places given old values i s w h here word fits in_old once =
    let inside : s.0 < length values = (let a = h.long in omega (arith, a, in_old)) in
    record {
      long = length-set values s.0 w.bits ∙ h.long;
      put = λ k t v l e f. elim (lower_or_last k i l) [
        | inl m ↦ index_other values s.0 w.bits t.0 (λ q. absurd (let z = once k i t s e here q in omega (arith, z, m))) ∙ h.put k t v m e f
        | inr m ↦
            let same : Some t ≡ Some s = sym e ∙ ap (slice_get places) m ∙ here in
            let one : t ≡ s = cc in
            let same_word : Some v ≡ Some w = sym f ∙ ap (slice_get given) m ∙ word in
            let one_word : v ≡ w = cc in
            ap (λ (x : Sig). slice_index (set values s.0 w.bits) x.0) one ∙ index_here values s.0 w.bits inside ∙ ap (λ (x : Word). x.bits) (sym one_word)
      ];
      words = λ k v l f. elim (lower_or_last k i l) [
        | inl m ↦ h.words k v m f
        | inr m ↦
            let same_word : Some v ≡ Some w = sym f ∙ ap (slice_get given) m ∙ word in
            let one_word : v ≡ w = cc in
            subst IsWord (sym one_word) fits
      ];
      others = λ t g. index_other values s.0 w.bits t (λ q. g i s here (sym q)) ∙ h.others t g;
    }
