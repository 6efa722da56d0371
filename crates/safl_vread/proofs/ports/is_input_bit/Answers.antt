use Rattle.std.proofs.Common.{refl}
use Rattle.safl_vread.proofs.DeclaredByName.{none_passes, some_passes}
use Rattle.safl_vread.proofs.ports.is_input_bit.Goals as goal

pub returns-in-None : goal.returns-in-None
returns-in-None c = none_passes _ _ _ c.in-None.ensures

pub returns-in-Some : goal.returns-in-Some
returns-in-Some c = some_passes _ _ _ _ _ c.in-Some.ensures (λ d h. rw (c.is_input.ensures, h.sort, h.width) refl)
