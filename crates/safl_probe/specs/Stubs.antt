-- A probe of which one call is to fail.
use Rattle.std.specs.Prelude.{◌≡◌, ℕ}
use Rattle.safl_io.specs.Counts.{raised}
use Rattle.safl_probe.specs.Probing.{ProbeState}

-- the probe, the number of the call that is to fail, and the number of calls so far
pub record Stub : Type 0 where
  pub probe : ProbeState
  pub fail_at : ℕ
  pub calls : ℕ

-- the next call is to fail. The first call has number 1
abbrev pub FailsNext : Stub → Type 0
FailsNext s = raised s.calls ≡ s.fail_at

-- one more call is counted, and the same call is to fail
pub record CountsCall (old new : Stub) : Type 0 where
  pub calls : new.calls ≡ raised old.calls
  pub fail_at : new.fail_at ≡ old.fail_at
