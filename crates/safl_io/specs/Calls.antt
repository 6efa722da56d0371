-- Calls of a shelf or a sink in memory, some of which are to fail.
use Rattle.std.specs.Prelude.{ℕ, ◌≡◌, List, [], ◌∷◌, ◌++◌, Contains, Result, Ok, Err}
use Rattle.safl_io.specs.Counts.{raised}
use Rattle.safl_io.specs.declared.fault.OutErr.{OutErr}
use Rattle.safl_io.specs.declared.fault.OutErr.TheVariants.{Failed, NoMemory}

-- the number of calls so far, and the numbers of those that are to fail
pub record Calls : Type 0 where
  pub failing : List ℕ
  pub made : ℕ

-- the number of the next call. The first call has number 1
abbrev pub next_call : Calls → ℕ
next_call calls = raised calls.made

-- the next call is to fail
abbrev pub Fails : Calls → Type 0
Fails calls = Contains calls.failing (next_call calls)

-- the calls after one more
abbrev pub called : Calls → Calls
called calls = record calls { made = next_call calls }

-- no call so far, and none that is to fail
abbrev pub no_calls : Calls
no_calls = record { failing = []; made = 0 }

-- the calls with one more that is to fail
abbrev pub with_failing : ℕ → Calls → Calls
with_failing call calls = record calls { failing = calls.failing ++ call ∷ [] }

-- out of memory aside, a call fails exactly where this holds
abbrev pub FailsWhere : Type 0 → Result Unit OutErr → Type 0
FailsWhere P (Ok x) = ¬ P
FailsWhere P (Err Failed) = P
FailsWhere P (Err NoMemory) = Unit {0}

-- the count of faults after a call: one more where it failed, and otherwise the same
abbrev pub CountsFault : Result Unit OutErr → ℕ → ℕ → Type 0
CountsFault (Ok x) before now = now ≡ before
CountsFault (Err Failed) before now = now ≡ raised before
CountsFault (Err NoMemory) before now = now ≡ before
