use Rattle.safl_reshape.proofs.Unplaced.{form_without_places}
use Rattle.safl_reshape.proofs.laws.places_law.Goals as goal

pub returns : goal.returns
returns c = form_without_places
