use Rattle.std.proofs.Common.{◌≡◌, ℕ, ◌<◌, get_or, None}
use Rattle.safl_probe.specs.Asked.{asked}
use Rattle.safl_probe.proofs.watch.is_any_asked.Given as goal

abbrev pub invariant-loop-file : goal.invariant-loop-file
invariant-loop-file l = (k : ℕ) → k < l.file-index → get_or (asked l.files) k None ≡ None
