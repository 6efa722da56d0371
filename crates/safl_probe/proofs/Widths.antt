-- Words of the widths of signals.
use Rattle.safl_probe.proofs.Common.{HasWidths, Word}
use Rattle.std.proofs.Common.{◌≡◌, ℕ, zero, suc, ◌+◌, ◌<◌, ◌≤◌, List, [], ◌∷◌, ◌++◌, map, take, get_or, slice_get, length, refl, sym, ap, ◌∙◌, add-one, arith}
use Rattle.std.proofs.lemmas.List.{length-map, map-append}
use Rattle.safl_net.specs.Netlist.{Netlist, Signal, width_in}

pub same_width : (gs : List Signal) (ws : List Word) (i : ℕ) (w : Word) → map (λ (w : Word). w.width) ws ≡ map (λ (g : Signal). g.width) gs → i <
    length ws → w ≡ get_or ws i w → w.width ≡ width_in (slice_get gs i)
same_width gs [] i w e lt at = absurd (omega (arith, lt))
same_width [] (u ∷ ws) i w e lt at = absurd (cc)
same_width (g ∷ gs) (u ∷ ws) zero w e lt at = let same : u.width ≡ g.width = cc in ap (λ (w : Word). w.width) at ∙ same
same_width (g ∷ gs) (u ∷ ws) (suc i) w e lt at =
    let rest : map (λ (w : Word). w.width) ws ≡ map (λ (g : Signal). g.width) gs = cc in same_width gs ws i w rest (omega (arith, lt)) at

-- as many words as signals
pub same_length : (n : Netlist) (ws : List Word) → HasWidths n ws → length ws ≡ length n.signals
same_length n ws e =
    sym (length-map ws (λ (w : Word). w.width)) ∙ ap (λ (l : List ℕ). length l) e ∙ length-map n.signals (λ (g : Signal). g.width)

take_more : (gs : List Signal) (i : ℕ) → i < length gs → map (λ (g : Signal). g.width) (take (suc i) gs) ≡ map (λ (g : Signal). g.width) (take i gs) ++ width_in (slice_get gs i) ∷ []
take_more [] i lt = absurd (omega (arith, lt))
take_more (g ∷ gs) zero lt = refl
take_more (g ∷ gs) (suc i) lt = ap (λ (l : List ℕ). g.width ∷ l) (take_more gs i (omega (arith, lt)))

pub widths_more : (gs : List Signal) (ws : List Word) (i : ℕ) (w : Word) → i < length gs → map (λ (w : Word). w.width) ws ≡ map
    (λ (g : Signal). g.width) (take i gs) → w.width ≡ width_in (slice_get gs i)
    → map (λ (w : Word). w.width) (ws ++ w ∷ []) ≡ map (λ (g : Signal). g.width) (take (i + 1) gs)
widths_more gs ws i w lt e is =
    map-append (λ (w : Word). w.width) ws (w ∷ [])
    ∙ ap (λ (l : List ℕ). l ++ w.width ∷ []) e
    ∙ ap (λ (k : ℕ). map (λ (g : Signal). g.width) (take i gs) ++ k ∷ []) is
    ∙ sym (take_more gs i lt)
    ∙ ap (λ (k : ℕ). map (λ (g : Signal). g.width) (take k gs)) (sym (add-one i))

pub widths_all : (gs : List Signal) (i : ℕ) → length gs ≤ i → map (λ (g : Signal). g.width) (take i gs) ≡ map (λ (g : Signal). g.width) gs
widths_all [] zero all = refl
widths_all [] (suc i) all = refl
widths_all (g ∷ gs) zero all = absurd (omega (arith, all))
widths_all (g ∷ gs) (suc i) all = ap (λ (l : List ℕ). g.width ∷ l) (widths_all gs i (omega (arith, all)))
