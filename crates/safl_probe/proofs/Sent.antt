-- A text of which nothing was appended.
use Rattle.safl_probe.proofs.Common.{List, append-nil, sym, ℕ, ◌∙◌, ◌≡◌}
use Rattle.safl_io.specs.Sink.{SendsPart}

pub nothing_sent : (text old new : List ℕ) → new ≡ old → SendsPart text old new
nothing_sent text old new same = (0, same ∙ sym (append-nil old))
