use Rattle.std.proofs.Common.{◌≡◌, List, [], ◌∷◌, Bool, true, false, ◌&&◌, sym, ap, ◌∙◌}
use Rattle.std.proofs.lemmas.List.{nil_from_length}
use Rattle.safl_calls.specs.Labels.{all_public}
use Rattle.safl_labels.proofs.likeness.+are_public.Goals as goal

more : (bs rest : List Bool) (b : Bool) → bs ≡ b ∷ rest → all_public bs ≡ b && all_public rest
unfolding all_public
more bs rest b e = ap all_public e

none : (bs : List Bool) → bs ≡ [] → true ≡ all_public bs
unfolding all_public
none bs e = sym (ap all_public e)

pub returns-then-first : goal.returns-then-first
returns-then-first t c =
    let e = more c.args.labels.now c.in-Some.rest.now c.in-Some.first.now c.in-Some.ensures.cases.0 in
    c.are_public.ensures ∙ sym (e ∙ ap (λ (b : Bool). b && all_public c.in-Some.rest.now) c.if-first.true)

pub returns-else-first : goal.returns-else-first
returns-else-first t c =
    let e = more c.args.labels.now c.in-Some.rest.now c.in-Some.first.now c.in-Some.ensures.cases.0 in
    c.if-first.false ∙ sym (e ∙ ap (λ (b : Bool). b && all_public c.in-Some.rest.now) c.if-first.false)

pub returns : goal.returns
returns t c = none c.args.labels.now (nil_from_length c.args.labels.now c.in_default.ensures.cases)
