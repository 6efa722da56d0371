-- The widths of a net's inputs, one signal after the other.
use Rattle.std.proofs.Common.{◌≡◌, ℕ, suc, ◌+◌, ◌<◌, ◌≤◌, List, [], ◌++◌, map, length, drop, refl, sym, ap, ◌∙◌, arith, append_assoc}
use Rattle.std.proofs.lemmas.List.{append-nil, drop_all}
use Rattle.safl_word.proofs.Lists.{get_some}
use Rattle.safl_net.specs.Netlist.{Netlist, Kind, Input, Reg, Wire, width_of, with_input}
use Rattle.safl_net.specs.Making.{kind_at, kind_in}
use Rattle.safl_net.proofs.ArgumentWidths.{drop_at}
use Rattle.safl_sim.specs.Places.{inputs_from}

-- the widths of the inputs from a signal on
abbrev pub rest_widths : Netlist → ℕ → List ℕ
rest_widths n i = map (width_of n) (inputs_from (drop i n.signals) i)

widths_append : (f : ℕ → ℕ) (k : Kind) (i : ℕ) (is : List ℕ) → map f (with_input k i is) ≡ map f (with_input k i []) ++ map f is
widths_append f Input i is = refl
widths_append f (Reg init next) i is = refl
widths_append f (Wire cell) i is = refl

rest_at : (n : Netlist) (i : ℕ) → i < length n.signals → rest_widths n i ≡ map (width_of n) (with_input (kind_at n i) i []) ++ rest_widths n (i + 1)
rest_at n i h =
    let g = get_some n.signals i h in
    ap (λ l. map (width_of n) (inputs_from l i)) (drop_at n.signals i g.0 g.1)
    ∙ ap (λ k. map (width_of n) (with_input k i (inputs_from (drop (i + 1) n.signals) (suc i)))) (sym (ap kind_in g.1))
    ∙ ap (λ j. map (width_of n) (with_input (kind_at n i) i (inputs_from (drop (i + 1) n.signals) j))) (let z : suc i ≡ i + 1 = omega arith in z)
    ∙ widths_append (width_of n) (kind_at n i) i (inputs_from (drop (i + 1) n.signals) (i + 1))

pub widths_more : (n : Netlist) (old new all : List ℕ) (i : ℕ) → i < length n.signals → old ++ rest_widths n i ≡ all → new ≡ old ++ map (width_of n)
    (with_input (kind_at n i) i []) → new ++ rest_widths n (i + 1) ≡ all
widths_more n old new all i h e f =
    ap (λ l. l ++ rest_widths n (i + 1)) f
    ∙ append_assoc old (map (width_of n) (with_input (kind_at n i) i [])) (rest_widths n (i + 1))
    ∙ ap (λ l. old ++ l) (sym (rest_at n i h))
    ∙ e

pub widths_end : (n : Netlist) (all widths : List ℕ) (i : ℕ) → length n.signals ≤ i → all ++ rest_widths n i ≡ widths → all ≡ widths
widths_end n all widths i h e = sym (append-nil all) ∙ ap (λ l. all ++ map (width_of n) (inputs_from l i)) (sym (drop_all i n.signals h)) ∙ e
