use Rattle.std.proofs.Common.{◌≡◌, ℕ, ◌-◌, List, [], ◌∷◌, length, take, drop, refl, ap, ◌∙◌, subst, arith}
use Rattle.std.proofs.lemmas.List.{take_rest}
use Rattle.safl_aiger.specs.Lines.{fields, AreDecimals, HasNumbers}
use Rattle.safl_aiger.specs.Reads.{Counts, IsHeader, total}
use Rattle.safl_aiger.proofs.Cutting.{decimals_once, decimals_small}
use Rattle.safl_aiger.proofs.reading.read_header.Goals as goal

pub returns-then-sum-from-clause-outputs : goal.returns-then-sum-from-clause-outputs
returns-then-sum-from-clause-outputs c = decimals_small _ (c.in_ok-total.total ∷ c.in_ok-total.counts.inputs ∷ c.in_ok-total.counts.latches ∷
    c.in_ok-total.counts.outputs ∷ c.in_ok-total.counts.ands ∷ []) 3 c.in_ok-total.counts.outputs c.in_ok-total.ensures.some refl

-- the numbers of a header are those that were found
found : (line : List ℕ) (ns : List ℕ) (c : Counts) → HasNumbers (take (length line - 4) (drop 4 line)) ns → IsHeader line c → ns ≡ total c ∷ c.inputs ∷ c.latches ∷ c.outputs ∷ c.ands ∷ []
found line ns c h d =
    let e : take (length line - 4) (drop 4 line) ≡ d.0 = take_rest line 4 ∙ ap (drop 4) d.1 in
    decimals_once (fields d.0) ns (total c ∷ c.inputs ∷ c.latches ∷ c.outputs ∷ c.ands ∷ []) (subst (λ w. AreDecimals (fields w) ns) e h) d.2

pub returns-clause-none : goal.returns-clause-none
returns-clause-none c = λ _ k d.
    let n = c.in_ok-total.counts in
    let e = found c.args.line.now (c.in_ok-total.total ∷ n.inputs ∷ n.latches ∷ n.outputs ∷ n.ands ∷ []) k c.in_ok-total.ensures.some d in
    let e0 : c.in_ok-total.total ≡ total k = cc in
    let e1 : n.inputs ≡ k.inputs = cc in
    let e2 : n.latches ≡ k.latches = cc in
    let e4 : n.ands ≡ k.ands = cc in
    c.if-sum-from.false (omega (arith, e0, e1, e2, e4, c.from.ensures, c.from-2.ensures, c.from-3.ensures, c.from-4.ensures))
