use Rattle.safl_calls.proofs.FromWellFormed.{numbered}
use Rattle.safl_calls.proofs.Invariant.{inv_after, unsent_at_rest}
use Rattle.safl_calls.specs.Machine.{opening, after_event}
use Rattle.safl_calls.proofs.laws.rest_law.Goals as goal

pub returns : goal.returns
returns c = λ C wf args es legal k pos rests. unsent_at_rest C (after_event C args opening es) k (inv_after C args (numbered C wf) es legal) pos rests
