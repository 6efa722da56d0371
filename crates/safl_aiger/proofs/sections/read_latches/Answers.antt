use Rattle.safl_aiger.proofs.Common.{Lit, Passes, kinds_from, latch_numbers, length_push}
use Rattle.std.proofs.Common.{◌≡◌, ◌+◌, ◌-◌, ◌*◌, [], ◌∷◌, ◌++◌, suc, length, sym, ap, ◌∙◌, subst}
use Rattle.safl_aiger.specs.declared.reading.LineKind.TheVariants.{Latch}
use Rattle.safl_aiger.proofs.Passing.{passes_on, stops_here, kinds_long, kinds_more, kinds_split, latch_more}
use Rattle.safl_aiger.proofs.sections.read_latches.Goals as goal

pub returns-in-Err-clause-err : goal.returns-in-Err-clause-err
returns-in-Err-clause-err c =
    let i = c.loop-i.i in
    stops_here c.args.text.now c.args.variables c.args.at c.loop-i.place (kinds_from Latch c.args.first c.args.count)
    (kinds_from Latch c.args.first i) (kinds_from Latch (suc (c.args.first + i)) (c.args.count - (i + 1))) (Latch (c.args.first + i))
    (latch_numbers c.args.first c.loop-i.nexts.items) c.in-Err.rule i
    (kinds_split Latch c.args.first i c.args.count c.loop-i-test.true) (kinds_long Latch c.args.first i) c.loop-i.invariant.passes c.in-Err.ensures.err

pub loop-i-preserved : goal.loop-i-preserved
loop-i-preserved c =
    let i = c.loop-i.i in
    let s = c.in-Ok.s in
    let j = c.loop-i.invariant in
    let all = c.loop-i.nexts.items in
    let x : Lit = record { 0 = s.found.second } in
    let e = c.in-Ok-push.ensures.items in
    let q = passes_on c.args.text.now c.args.variables c.args.at c.loop-i.place s.next (kinds_from Latch c.args.first i)
    (Latch (c.args.first + i) ∷ []) (latch_numbers c.args.first all) ((s.found.first ∷ s.found.second ∷ []) ∷ []) j.passes c.in-Ok.ensures.ok in
    let numbers : latch_numbers c.args.first all ++ (s.found.first ∷ s.found.second ∷ []) ∷ [] ≡ latch_numbers c.args.first c.push.new.self.items =
    (λ k. latch_numbers c.args.first all ++ ((c.in-Ok.ensures.good.0 ∙ ap (λ n. 2 * (c.args.first + n)) (sym j.count)) k ∷ s.found.second ∷ []) ∷
    []) ∙ sym (latch_more c.args.first all x) ∙ ap (λ l. latch_numbers c.args.first l) (sym e) in
    record {
      count = ap length e ∙ length_push all x ∙ ap (λ n. n + 1) j.count;
      passes = subst (λ nss. Passes c.args.text.now c.args.variables c.args.at (kinds_from Latch c.args.first (i + 1)) nss s.next) numbers
          (subst (λ ws. Passes c.args.text.now c.args.variables c.args.at ws
          (latch_numbers c.args.first all ++ (s.found.first ∷ s.found.second ∷ []) ∷ []) s.next) (sym (kinds_more Latch c.args.first i)) q);
    }
