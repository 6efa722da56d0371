-- The widths of the inputs other than `start`, one signal after the other.
use Rattle.safl_net.proofs.Common.{Netlist, Signal, get_some, width_in, width_of}
use Rattle.std.proofs.Common.{◌≡◌, ℕ, zero, suc, ◌+◌, ◌<◌, ◌≤◌, List, [], ◌∷◌, ◌++◌, length, drop, Some, Bool, true, false, cond, slice_get, refl, sym, ap, ◌∙◌, arith, append_assoc}
use Rattle.std.proofs.lemmas.List.{append-nil, drop_all}
use Rattle.safl_net.specs.Making.{kind_at, name_at, kind_in, name_in}
use Rattle.safl_net.specs.Runs.{is_argument}
use Rattle.safl_net.specs.Arguments.{argument_widths}

pub drop_at : (gs : List Signal) (i : ℕ) (g : Signal) → slice_get gs i ≡ Some g → drop i gs ≡ g ∷ drop (i + 1) gs
drop_at [] i g e = absurd (cc)
drop_at (h ∷ gs) zero g e = let q : h ≡ g = cc in ap (λ x. x ∷ gs) q
drop_at (h ∷ gs) (suc i) g e = drop_at gs i g e ∙ ap (λ k. g ∷ drop k (h ∷ gs)) (let z : suc (i + 1) ≡ suc i + 1 = omega arith in z)

cond_append : (b : Bool) (w : ℕ) (ws : List ℕ) → cond b (w ∷ ws) ws ≡ cond b (w ∷ []) [] ++ ws
cond_append true w ws = refl
cond_append false w ws = refl

pub widths_more : (n : Netlist) (old new : List ℕ) (i : ℕ) → i < length n.signals → old ++ argument_widths (drop i n.signals) ≡ argument_widths n.signals
    → new ≡ old ++ cond (is_argument (name_at n i) (kind_at n i)) (width_of n i ∷ []) [] → new ++ argument_widths (drop (i + 1) n.signals) ≡ argument_widths n.signals
unfolding argument_widths
widths_more n old new i h e f =
    let s = get_some n.signals i h in
    let g : Signal = s.0 in
    let tail : List ℕ = argument_widths (drop (i + 1) n.signals) in
    let own : List ℕ = cond (is_argument g.name g.kind) (g.width ∷ []) [] in
    ap (λ l. l ++ tail) (f ∙ ap (λ o. old ++ cond (is_argument (name_in o) (kind_in o)) (width_in o ∷ []) []) s.1)
    ∙ append_assoc old own tail
    ∙ ap (λ l. old ++ l) (sym (cond_append (is_argument g.name g.kind) g.width tail))
    ∙ ap (λ l. old ++ argument_widths l) (sym (drop_at n.signals i g s.1))
    ∙ e

pub widths_all : (n : Netlist) (all : List ℕ) (i : ℕ) → length n.signals ≤ i → all ++ argument_widths (drop i n.signals) ≡ argument_widths n.signals → all ≡ argument_widths n.signals
unfolding argument_widths
widths_all n all i h e = sym (append-nil all) ∙ ap (λ l. all ++ argument_widths l) (sym (drop_all i n.signals h)) ∙ e
