use Rattle.safl_check.specs.Numbered.{program_in}
use Rattle.safl_reshape.proofs.Unfolded.{unfolded_form, unfolded_spares}
use Rattle.safl_reshape.proofs.laws.unfolding_law.Goals as goal

pub returns : goal.returns
returns c = λ ds form k is alone kept. let r = unfolded_form ds form is k alone kept in (r.0, r.1, unfolded_spares ds form is k alone r.0 r.2 (c.meaning_law.ensures.evaluation (program_in r.0)))
