use Rattle.safl_tool.proofs.Common.{IfErr, IfOk, RefusesBy, made_args, made_source, source_max}
use Rattle.std.proofs.Common.{◌≡◌, ◌≤◌, ◌∙◌, ℕ, List, length, map, string_bytes, codes, sym, ap, subst}
use Rattle.safl_tool.specs.Answers.{printed}
use Rattle.safl_tool.specs.CommandTasks.{GivesMeasure, RefusesGiven}
use Rattle.safl_tool.proofs.generated.bench_lines.Goals as goal

pub measure-requires : goal.measure-requires
measure-requires c = subst (λ (l : List ℕ). length l ≤ source_max) (sym c.deref.ensures.value) c.in_ok-source.ensures.short

pub returns-clause-gives : goal.returns-clause-gives
returns-clause-gives c =
    let count = c.args.count.functions in
    let source : c.deref.result.now ≡ made_source c.args.seed count = c.deref.ensures.value ∙ c.in_ok-source.ensures.made in
    let args : map string_bytes c.deref-2.result.now ≡ made_args c.args.seed count = ap (map string_bytes) c.deref-2.ensures.value ∙ c.in_ok-args.ensures in
    subst (λ (l : List (List ℕ)). IfOk c.measure.result (λ x. GivesMeasure l c.args.limit (made_source c.args.seed count) (printed x))) args
    (subst (λ (l : List ℕ). IfOk c.measure.result (λ x. GivesMeasure (map string_bytes c.deref-2.result.now) c.args.limit l (printed x))) source c.measure.ensures.gives)

pub returns-clause-refused : goal.returns-clause-refused
returns-clause-refused c =
    let count = c.args.count.functions in
    let source : c.deref.result.now ≡ made_source c.args.seed count = c.deref.ensures.value ∙ c.in_ok-source.ensures.made in
    let args : map string_bytes c.deref-2.result.now ≡ made_args c.args.seed count = ap (map string_bytes) c.deref-2.ensures.value ∙ c.in_ok-args.ensures in
    subst (λ (l : List (List ℕ)). IfErr c.measure.result (RefusesBy (RefusesGiven (codes "bench") l (made_source c.args.seed count)))) args
    (subst (λ (l : List ℕ). IfErr c.measure.result (RefusesBy (RefusesGiven (codes "bench") (map string_bytes c.deref-2.result.now) l))) source c.measure.ensures.refused)
