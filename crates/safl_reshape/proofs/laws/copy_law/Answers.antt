use Rattle.safl_check.specs.Numbered.{program_in}
use Rattle.safl_reshape.proofs.Copied.{copied_form, copied_alike}
use Rattle.safl_reshape.proofs.laws.copy_law.Goals as goal

pub returns : goal.returns
returns c = λ ds form k j d new is of kept. let r = copied_form ds form is k j d new of kept in
    (r.0, r.1, copied_alike ds form is k j d new of r.0 r.2 (c.meaning_law.ensures.evaluation (program_in r.0)))
