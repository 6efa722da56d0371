use Rattle.std.proofs.Common.{inl, inr, ap, Err}
use Rattle.safl_tool.specs.Refusals.{sent, cut}
use Rattle.safl_tool.proofs.top.tell.Goals as goal

pub returns-in-Ok : goal.returns-in-Ok
returns-in-Ok g c = sent (inl c.in-Ok.ensures.sent)

pub returns-in-Err-Failed : goal.returns-in-Err-Failed
returns-in-Err-Failed g c = sent (inr (c.in-Err-Failed.ensures.failed (ap Err c.in-Err-Failed.field-0-is), c.in-Err-Failed.ensures.part))

pub returns-in-Err-NoMemory : goal.returns-in-Err-NoMemory
returns-in-Err-NoMemory g c = cut c.in-Err-NoMemory.ensures.part
