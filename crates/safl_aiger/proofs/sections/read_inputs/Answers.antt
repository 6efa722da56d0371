use Rattle.safl_aiger.proofs.Common.{Passes, kinds_from, own_numbers}
use Rattle.std.proofs.Common.{◌≡◌, ◌+◌, ◌-◌, [], ◌∷◌, ◌++◌, suc, sym, ap, ◌∙◌, subst}
use Rattle.safl_aiger.specs.declared.reading.LineKind.TheVariants.{Input}
use Rattle.safl_aiger.proofs.Passing.{passes_on, stops_here, kinds_long, kinds_more, kinds_split, own_more}
use Rattle.safl_aiger.proofs.sections.read_inputs.Goals as goal

pub returns-in-Err-clause-err : goal.returns-in-Err-clause-err
returns-in-Err-clause-err c =
    let i = c.loop-i.i in
    stops_here c.args.text.now c.args.variables c.args.at c.loop-i.place (kinds_from Input 1 c.args.count) (kinds_from Input 1 i)
    (kinds_from Input (suc (1 + i)) (c.args.count - (i + 1))) (Input (1 + i)) (own_numbers 1 i) c.in-Err.rule i
    (kinds_split Input 1 i c.args.count c.loop-i-test.true) (kinds_long Input 1 i) c.loop-i.invariant c.in-Err.ensures.err

pub loop-i-preserved : goal.loop-i-preserved
loop-i-preserved c =
    let i = c.loop-i.i in
    let s = c.in-Ok.s in
    let q = passes_on c.args.text.now c.args.variables c.args.at c.loop-i.place s.next (kinds_from Input 1 i) (Input (1 + i) ∷ []) (own_numbers 1 i)
    ((s.found.first ∷ []) ∷ []) c.loop-i.invariant c.in-Ok.ensures.ok in
    let e : own_numbers 1 i ++ (s.found.first ∷ []) ∷ [] ≡ own_numbers 1 (i + 1) = ap (λ x. own_numbers 1 i ++ (x ∷ []) ∷ []) c.in-Ok.ensures.good ∙ sym (own_more 1 i) in
    subst (λ nss. Passes c.args.text.now c.args.variables c.args.at (kinds_from Input 1 (i + 1)) nss s.next) e
    (subst (λ ws. Passes c.args.text.now c.args.variables c.args.at ws (own_numbers 1 i ++ (s.found.first ∷ []) ∷ []) s.next) (sym (kinds_more Input 1 i)) q)
