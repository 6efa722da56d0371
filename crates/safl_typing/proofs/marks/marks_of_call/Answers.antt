use Rattle.safl_typing.proofs.Common.{ap, refl, shown_expressions, sites_in, ◌+◌, ◌∙◌}
use Rattle.std.specs.Prelude.{ℕ, min}
use Rattle.safl_typing.proofs.marks.marks_of_call.Goals as goal

pub returns : goal.returns
returns c = λ k p f own h.
    let n = c.add_all_sites-sites.ensures k h in
    record { width = refl; counted = n ∙ ap (λ (m : ℕ). min 4001 (m + sites_in k (shown_expressions c.args.arguments.now))) own }
