use Rattle.std.proofs.Common.{ap, ◌∙◌, position, bytes_eq}
use Rattle.safl_vread.proofs.NamesLookedUp.{place_shown}
use Rattle.safl_vread.proofs.names.Names.place.Goals as goal

pub returns-clause-place : goal.returns-clause-place
returns-clause-place c = c.get_index_of.ensures.index ∙ place_shown (bytes_eq c.args.name.now) c.self.inside.set.keys ∙ ap (λ l. position (bytes_eq c.args.name.now) l) c.self.view_is
