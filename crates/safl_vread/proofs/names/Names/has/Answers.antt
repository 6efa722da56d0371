use Rattle.std.proofs.Common.{ap, ◌∙◌, bytes_eq}
use Rattle.safl_vread.specs.Lists.{has}
use Rattle.safl_vread.proofs.NamesLookedUp.{any_shown}
use Rattle.safl_vread.proofs.names.Names.has.Goals as goal

pub returns : goal.returns
returns c = c.contains.ensures ∙ any_shown (bytes_eq c.args.name.now) c.self.inside.set.keys ∙ ap (λ l. has l c.args.name.now) c.self.view_is
