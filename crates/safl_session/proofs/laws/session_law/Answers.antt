use Rattle.safl_session.proofs.QuietStates.{reset_is_quiet}
use Rattle.safl_session.proofs.Serving.{circuits_serve, circuits_reply}
use Rattle.safl_session.proofs.laws.session_law.Goals as goal

pub returns-clause-serves : goal.returns-clause-serves
returns-clause-serves c = circuits_serve

pub returns-clause-replies : goal.returns-clause-replies
returns-clause-replies c = circuits_reply

pub returns-clause-reset : goal.returns-clause-reset
returns-clause-reset c = reset_is_quiet
