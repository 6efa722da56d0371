use Rattle.std.proofs.Common.{ap, ◌∙◌, not, bytes_eq}
use Rattle.safl_vread.specs.Lists.{has}
use Rattle.safl_vread.proofs.NamesLookedUp.{any_shown}
use Rattle.safl_vread.proofs.names.Names.add.Goals as goal

pub returns-clause-new : goal.returns-clause-new
returns-clause-new c = c.in_ok-added.ensures.added ∙ ap not (any_shown (bytes_eq c.args.name.now) c.self.inside.set.keys ∙ ap (λ l. has l c.args.name.now) c.self.view_is)
