-- Pieces one after another, and the empty text of an operation whose operands don't fit.
use Rattle.std.proofs.Common.{◌≡◌, ℕ, ◌<◌, ◌≤◌, List, [], ◌∷◌, ◌++◌, length, refl, sym, ap, ◌∙◌, append_assoc, arith, ◌⊎◌, inl, inr}
use Rattle.safl_net.specs.declared.cell.Sig.{Sig}
use Rattle.safl_net.specs.Netlist.{Netlist}
use Rattle.safl_net.specs.Making.{numbers}
use Rattle.safl_net.specs.CellTexts.{plain, selected, two_operands, inverted, joined_texts, sliced}
use Rattle.safl_net.specs.Written.{Text, names_of}

pub five : (o a b c d e p q r s t : Text) → p ≡ o ++ a → q ≡ p ++ b → r ≡ q ++ c → s ≡ r ++ d → t ≡ s ++ e → t ≡ o ++ (a ++ b ++ c ++ d ++ e)
five o a b c d e p q r s t hp hq hr hs ht =
    ht ∙ ap (λ x. x ++ e) (hs ∙ ap (λ x. x ++ d) (hr ∙ ap (λ x. x ++ c) (hq ∙ ap (λ x. x ++ b) hp))) ∙ simp append_assoc

pub three : (o a b c p q r : Text) → p ≡ o ++ a → q ≡ p ++ b → r ≡ q ++ c → r ≡ o ++ (a ++ b ++ c)
three o a b c p q r hp hq hr = hr ∙ ap (λ x. x ++ c) (hq ∙ ap (λ x. x ++ b) hp) ∙ simp append_assoc

append_nil : (o : Text) → o ≡ o ++ []
append_nil [] = refl
append_nil (c ∷ cs) = ap (λ l. c ∷ l) (append_nil cs)

pub nothing_more : (o t : Text) → t ≡ [] → o ≡ o ++ t
nothing_more o t e = append_nil o ∙ ap (λ x. o ++ x) (sym e)

pub other_one : (n : Netlist) (xs : List Sig) → 2 ≤ length xs → plain (names_of n (numbers xs)) ≡ []
other_one n [] le = refl
other_one n (a ∷ []) le = absurd (omega (arith, le))
other_one n (a ∷ (b ∷ xs)) le = refl

pub other_inverted : (n : Netlist) (xs : List Sig) → 2 ≤ length xs → inverted (names_of n (numbers xs)) ≡ []
other_inverted n [] le = refl
other_inverted n (a ∷ []) le = absurd (omega (arith, le))
other_inverted n (a ∷ (b ∷ xs)) le = refl

pub other_sliced : (n : Netlist) (high low : ℕ) (xs : List Sig) → 2 ≤ length xs → sliced high low (names_of n (numbers xs)) ≡ []
other_sliced n high low [] le = refl
other_sliced n high low (a ∷ []) le = absurd (omega (arith, le))
other_sliced n high low (a ∷ (b ∷ xs)) le = refl

pub other_two : (n : Netlist) (s : Text) (xs : List Sig) → (length xs < 2) ⊎ (3 ≤ length xs) → two_operands s (names_of n (numbers xs)) ≡ []
other_two n s [] h = refl
other_two n s (a ∷ []) h = refl
other_two n s (a ∷ (b ∷ [])) h = absurd (elim h [ inl lt ↦ omega (arith, lt) | inr le ↦ omega (arith, le) ])
other_two n s (a ∷ (b ∷ (c ∷ xs))) h = refl

pub other_joined : (n : Netlist) (xs : List Sig) → (length xs < 2) ⊎ (3 ≤ length xs) → joined_texts (names_of n (numbers xs)) ≡ []
other_joined n [] h = refl
other_joined n (a ∷ []) h = refl
other_joined n (a ∷ (b ∷ [])) h = absurd (elim h [ inl lt ↦ omega (arith, lt) | inr le ↦ omega (arith, le) ])
other_joined n (a ∷ (b ∷ (c ∷ xs))) h = refl

pub other_selected : (n : Netlist) (xs : List Sig) → (length xs < 3) ⊎ (4 ≤ length xs) → selected (names_of n (numbers xs)) ≡ []
other_selected n [] h = refl
other_selected n (a ∷ []) h = refl
other_selected n (a ∷ (b ∷ [])) h = refl
other_selected n (a ∷ (b ∷ (c ∷ []))) h = absurd (elim h [ inl lt ↦ omega (arith, lt) | inr le ↦ omega (arith, le) ])
other_selected n (a ∷ (b ∷ (c ∷ (d ∷ xs)))) h = refl
