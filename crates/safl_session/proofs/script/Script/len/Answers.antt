use Rattle.std.proofs.Common.{length, ap, sym, ◌∙◌}
use Rattle.safl_session.proofs.LinesOfScripts.{calls_long}
use Rattle.safl_session.proofs.script.Script.len.Goals as goal

pub returns : goal.returns
returns c = sym (calls_long c.self.inside.calls c.self.inside.arity c.self.inside.words.items) ∙ ap length c.self.view_is
