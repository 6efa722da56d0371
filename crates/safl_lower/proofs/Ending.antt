-- A load of one word.
use Rattle.safl_lower.proofs.Common.{AreSources, IsSource, Load, LoadFits, Netlist, Sig, Val, Word, gate, on, one_word, taken, words}
use Rattle.std.proofs.Common.{◌≡◌, ℕ, List, [], ◌∷◌, Some, Bool, true, false, refl, sym, ap, subst, ◌∙◌}
use Rattle.safl_lower.proofs.Cells.{one_source}

pub one_load_fits : {n : Netlist} {bit value : Sig} {w : ℕ} (l : Load) → l.bit ≡ bit → l.words.items ≡ value ∷ [] → IsSource n bit 1 → IsSource n value w → LoadFits n l (w ∷ [])
one_load_fits {n} {bit} {value} {w} l e f b s = record { bit = subst (λ (x : Sig). IsSource n x 1) (sym e) b; words = subst (λ (xs : List Sig). AreSources n xs (w ∷ [])) (sym f) (one_source s) }

gate_one : (b : Bool) (w : Word) → gate b (Some (w ∷ [])) ≡ one_word (gate b (Some w))
gate_one true w = refl
gate_one false w = refl

pub one_load_takes : {bit value : Sig} (v : Val) (l : Load) → l.bit ≡ bit → l.words.items ≡ value ∷ [] → taken v l ≡ one_word (gate (on v bit) (Some (v value.0)))
one_load_takes {bit} {value} v l e f =
    ap (λ (x : Sig). gate (on v x) (Some (words v l.words.items))) e
    ∙ ap (λ (xs : List Sig). gate (on v bit) (Some (words v xs))) f
    ∙ gate_one (on v bit) (v value.0)
