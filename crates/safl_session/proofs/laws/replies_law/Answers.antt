use Rattle.safl_session.proofs.OneListOfReplies.{replies_exist, replies_once, replies_join}
use Rattle.safl_session.proofs.laws.replies_law.Goals as goal

pub returns-clause-exist : goal.returns-clause-exist
returns-clause-exist c = replies_exist

pub returns-clause-once : goal.returns-clause-once
returns-clause-once c = replies_once

pub returns-clause-join : goal.returns-clause-join
returns-clause-join c = replies_join
