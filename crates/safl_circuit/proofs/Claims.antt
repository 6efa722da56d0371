-- What is proved of the circuit without names, where the plan serves it.
use Rattle.safl_circuit.proofs.Common.{Choice, Numbered, OneInUse, Program, Registers, ShownWordsServe, ret}
use Rattle.std.specs.Prelude.{◌≡◌, ℕ, suc, ◌<◌, ◌≤◌, List, length, true}
use Rattle.safl_word.specs.Words.{Word, widths}
use Rattle.safl_calls.specs.Machine.{opening}
use Rattle.safl_calls.specs.Starts.{starts_of}
use Rattle.safl_circuit.specs.Steps.{Quiet, StepsAt, registers_at, history}
use Rattle.safl_circuit.proofs.DoneOnce.{Core, DoneOnce, Exclusive}
use Rattle.safl_circuit.proofs.WordsSeen.{words_seen}

abbrev pub Steps : Type 0
Steps = (C : Program) (P : Choice) → Numbered C → OneInUse C P.arbiter → ShownWordsServe C P.kept → (r0 : Registers) → Quiet r0 → (args : List Word) →
    widths args ≡ C.params C.main → (later : ℕ → List Word) (c : ℕ) → StepsAt C P r0 args later c

-- done comes once, in time, with main's value
abbrev pub InTime : Type 0
InTime = (C : Program) (P : Choice) → Numbered C → OneInUse C P.arbiter → ShownWordsServe C P.kept → (r0 : Registers) → Quiet r0 → (args : List Word)
    → widths args ≡ C.params C.main → (later : ℕ → List Word) (v : Word) (n : ℕ) → Core C args v n → DoneOnce C P r0 args later v (suc n)

-- after done the state is quiet for good
abbrev pub QuietAfter : Type 0
QuietAfter = (C : Program) (P : Choice) → Numbered C → OneInUse C P.arbiter → ShownWordsServe C P.kept → (r0 : Registers) → Quiet r0 →
    (args : List Word) → widths args ≡ C.params C.main → (later : ℕ → List Word) (a c : ℕ) → ret C (registers_at C P r0 args later a) 0 ≡ true → a < c
    → Quiet (registers_at C P r0 args later c)

abbrev pub NoTwoStarts : Type 0
NoTwoStarts = (C : Program) (P : Choice) → Numbered C → OneInUse C P.arbiter → ShownWordsServe C P.kept → (r0 : Registers) → Quiet r0 →
    (args : List Word) → widths args ≡ C.params C.main → (later : ℕ → List Word) (c : ℕ) → Exclusive C P r0 args later c

-- the words on the argument registers are the arguments of the events, and a function starts at most once a cycle
abbrev pub ArgumentsSeen : Type 0
ArgumentsSeen = (C : Program) (P : Choice) → Numbered C → OneInUse C P.arbiter → ShownWordsServe C P.kept → (r0 : Registers) → Quiet r0 →
    (args : List Word) → widths args ≡ C.params C.main → (later : ℕ → List Word) (f c : ℕ) → f < C.functions → words_seen C P r0 args later f c ≡
    starts_of C args opening (history C P r0 args later c) f

abbrev pub OneStart : Type 0
OneStart = (C : Program) (P : Choice) → Numbered C → OneInUse C P.arbiter → ShownWordsServe C P.kept → (r0 : Registers) → Quiet r0 →
    (args : List Word) → widths args ≡ C.params C.main → (later : ℕ → List Word) (f c : ℕ) → f < C.functions → length
    (starts_of C args opening (history C P r0 args later c) f) ≤ c
