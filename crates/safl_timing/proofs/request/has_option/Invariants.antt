use Rattle.std.proofs.Common.{◌≡◌, map, drop, string_bytes}
use Rattle.safl_timing.specs.Requests as plain
use Rattle.safl_timing.proofs.request.has_option.Given as goal

-- the words before are no options
abbrev pub invariant-loop-word : goal.invariant-loop-word
invariant-loop-word l = plain.has_option (map string_bytes (drop l.word-index l.words)) ≡ plain.has_option (map string_bytes l.words)
