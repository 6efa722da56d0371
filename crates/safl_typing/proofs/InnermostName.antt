-- The innermost variable of a name, where a let adds to those around it.
use Rattle.safl_typing.proofs.Common.{Slot, bytes_eq, shifted}
use Rattle.std.proofs.Common.{◌≡◌, ℕ, suc, ◌+◌, arith, List, [], ◌∷◌, ◌++◌, length, Option, Some, None, Bool, true, false, cond, refl, sym, ap, ◌∙◌}
use Rattle.std.specs.Option.{option_or as later}
use Rattle.safl_typing.specs.Typing.{At, innermost}
use Rattle.safl_typing.proofs.SlotsTyped.{later_again, later_none}

abbrev here : Bool → ℕ → ℕ → Option At
here b i w = cond b (Some (record { slot = i; width = w })) None

shift_here : (n i w : ℕ) (b : Bool) → here b (n + i) w ≡ shifted n (here b i w)
shift_here n i w true = refl
shift_here n i w false = refl

pub shift_later : (n : ℕ) (a b : Option At) → later (shifted n a) (shifted n b) ≡ shifted n (later a b)
shift_later n None b = refl
shift_later n (Some x) b = refl

pub shift : (x : List ℕ) (n i : ℕ) (s : List Slot) → innermost x (n + i) s ≡ shifted n (innermost x i s)
shift x n i [] = refl
shift x n i (v ∷ vs) =
    let e : suc (n + i) ≡ n + suc i = omega arith in
    ap (λ (j : ℕ). later (innermost x j vs) (here (bytes_eq v.name x) (n + i) v.width)) e
    ∙ ap (λ (o : Option At). later o (here (bytes_eq v.name x) (n + i) v.width)) (shift x n (suc i) vs)
    ∙ ap (later (shifted n (innermost x (suc i) vs))) (shift_here n i v.width (bytes_eq v.name x))
    ∙ shift_later n (innermost x (suc i) vs) (here (bytes_eq v.name x) i v.width)

append : (x : List ℕ) (i : ℕ) (s t : List Slot) → innermost x i (s ++ t) ≡ later (innermost x (i + length s) t) (innermost x i s)
append x i [] t =
    let e : i ≡ i + 0 = omega arith in
    ap (λ (j : ℕ). innermost x j t) e ∙ sym (later_none (innermost x (i + 0) t))
append x i (v ∷ vs) t =
    let e : suc i + length vs ≡ i + suc (length vs) = omega arith in
    let first : Option At = here (bytes_eq v.name x) i v.width in
    ap (λ (o : Option At). later o first) (append x (suc i) vs t) ∙ later_again (innermost x (suc i + length vs) t) (innermost x (suc i) vs) first
    ∙ ap (λ (j : ℕ). later (innermost x j t) (later (innermost x (suc i) vs) first)) e

-- what is found among the added slots comes before what is found around them
pub in_let : (x : List ℕ) (s t : List Slot) (n : ℕ) (o : Option At) → n ≡ length s → shifted n (innermost x 0 t) ≡ o → innermost x 0 (s ++ t) ≡ later o (innermost x 0 s)
in_let x s t n o e q =
    let m : 0 + length s ≡ n + 0 = omega (arith, e) in
    append x 0 s t ∙ ap (λ (j : ℕ). later (innermost x j t) (innermost x 0 s)) m
    ∙ ap (λ (p : Option At). later p (innermost x 0 s)) (shift x n 0 t ∙ q)
