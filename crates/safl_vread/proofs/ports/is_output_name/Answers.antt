use Rattle.safl_vread.proofs.Common.{ap, is_output, ◌∙◌}
use Rattle.safl_vread.proofs.DeclaredByName.{none_passes, some_passes}
use Rattle.safl_vread.proofs.ports.is_output_name.Goals as goal

pub returns-in-None : goal.returns-in-None
returns-in-None c = none_passes _ _ _ c.in-None.ensures

pub returns-in-Some : goal.returns-in-Some
returns-in-Some c = some_passes _ _ _ _ _ c.in-Some.ensures (λ d h. c.is_output.ensures ∙ ap is_output h.sort)
