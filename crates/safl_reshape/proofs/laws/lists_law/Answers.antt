use Rattle.safl_typing.specs.Heads.{heads}
use Rattle.safl_reshape.specs.Reshaped.{unfolded, copied_under}
use Rattle.safl_reshape.proofs.KeptLists.{lists_kept}
use Rattle.safl_reshape.proofs.Unfolded.{unfolded_functions}
use Rattle.safl_reshape.proofs.Copied.{copied_parts}
use Rattle.safl_reshape.proofs.laws.lists_law.Goals as goal

pub returns : goal.returns
returns c = λ ds form k is. (
  λ alone. let r = unfolded_functions ds form is k alone in lists_kept (heads ds) 0 0 0 1 r.0 (unfolded ds k) r.1 r.2,
  λ j d new of. let r = copied_parts ds form is k j d new of in lists_kept (heads (copied_under new ds k j d)) 0 0 0 1 r.0 (copied_under new ds k j d) r.1 r.2,
)
