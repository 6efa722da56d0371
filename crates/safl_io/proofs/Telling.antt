-- What is told after several calls.
use Rattle.std.proofs.Common.{Option, Some, None, List, [], arith, inl, inr, sym, ℕ, ◌≤◌}
use Rattle.std.proofs.lemmas.List.{append-nil}
use Rattle.safl_io.specs.Told.{TellsOn}
use Rattle.safl_io.specs.Sink.{Sends, SendsPart}
use Rattle.safl_io.specs.Counts.{Rose}

-- a count that rises later has risen
pub rose_later : (old mid new : ℕ) → old ≤ mid → Rose mid new → Rose old new
rose_later old mid new h r = elim r [ inl up ↦ inl (omega (arith, h, up)) | inr end ↦ inr end ]

pub nothing_sent : (old : Option (List ℕ)) → TellsOn (Sends []) old old
nothing_sent None = tt
nothing_sent (Some x) = sym (append-nil x)

pub nothing_part : (text : List ℕ) (old : Option (List ℕ)) → TellsOn (SendsPart text) old old
nothing_part text None = tt
nothing_part text (Some x) = (0, sym (append-nil x))

-- two calls, one after the other
pub TellsOn-then : {A : Type 0} (R S T : A → A → Type 0) → ((a b c : A) → R a b → S b c → T a c) → (x y z : Option A) → TellsOn R x y → TellsOn S y z → TellsOn T x z
TellsOn-then R S T both None y z first second = tt
TellsOn-then R S T both (Some a) None z first second = absurd first
TellsOn-then R S T both (Some a) (Some b) None first second = absurd second
TellsOn-then R S T both (Some a) (Some b) (Some c) first second = both a b c first second
