use Rattle.safl_aiger.proofs.Common.{Lit, Passes, [], ap, length, output_numbers, replicate, subst, sym, ◌++◌, ◌+◌, ◌-◌, ◌∙◌, ◌∷◌, ◌≡◌}
use Rattle.std.proofs.lemmas.List.{length_push, replicate_more, length-replicate}
use Rattle.safl_aiger.specs.declared.reading.LineKind.TheVariants.{Output}
use Rattle.safl_aiger.proofs.Passing.{passes_on, stops_here, output_more, outputs_split}
use Rattle.safl_aiger.proofs.sections.read_outputs.Goals as goal

pub returns-in-Err-clause-err : goal.returns-in-Err-clause-err
returns-in-Err-clause-err c =
    let i = c.loop-i.i in
    stops_here c.args.text.now c.args.variables c.args.at c.loop-i.place (replicate c.args.count Output) (replicate i Output)
    (replicate (c.args.count - (i + 1)) Output) (Output) (output_numbers c.loop-i.outputs.items) c.in-Err.rule i
    (outputs_split i c.args.count c.loop-i-test.true) (length-replicate i Output) c.loop-i.invariant.passes c.in-Err.ensures.err

pub loop-i-preserved : goal.loop-i-preserved
loop-i-preserved c =
    let i = c.loop-i.i in
    let s = c.in-Ok.s in
    let j = c.loop-i.invariant in
    let all = c.loop-i.outputs.items in
    let x : Lit = record { 0 = s.found.first } in
    let e = c.in-Ok-push.ensures.items in
    let q = passes_on c.args.text.now c.args.variables c.args.at c.loop-i.place s.next (replicate i Output) (Output ∷ []) (output_numbers all)
    ((s.found.first ∷ []) ∷ []) j.passes c.in-Ok.ensures.ok in
    let numbers : output_numbers all ++ (s.found.first ∷ []) ∷ [] ≡ output_numbers c.push.new.self.items = sym (output_more all x) ∙ ap (λ l. output_numbers l) (sym e) in
    record {
      count = ap length e ∙ length_push all x ∙ ap (λ n. n + 1) j.count;
      passes = subst (λ nss. Passes c.args.text.now c.args.variables c.args.at (replicate (i + 1) Output) nss s.next) numbers
          (subst (λ ws. Passes c.args.text.now c.args.variables c.args.at ws (output_numbers all ++ (s.found.first ∷ []) ∷ []) s.next) (replicate_more i Output) q);
    }
