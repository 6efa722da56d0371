use Rattle.std.proofs.Common.{sym}
use Rattle.safl_reshape.proofs.laws.printed_form_law.Goals as goal

pub returns : goal.returns
returns c = λ ds f printable is. let s = c.printed_law.ensures ds printable in (s.0, s.1, s.2, c.places_law.ensures ds s.0 f (sym s.2) is)
