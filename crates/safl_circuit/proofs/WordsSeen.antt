-- The arguments with which functions start.
use Rattle.safl_circuit.proofs.Common.{Choice, Program, Word}
use Rattle.std.specs.Prelude.{ℕ, zero, suc, List, [], ◌∷◌, ◌++◌, cond}
use Rattle.safl_circuit.specs.Equations.{Registers, starts_it}
use Rattle.safl_circuit.specs.Steps.{registers_at, input_at}

-- the words on f's argument registers after each cycle before c in which f is started
unfoldable pub words_seen : Program → Choice → Registers → List Word → (ℕ → List Word) → ℕ → ℕ → List (List Word)
words_seen C P r0 args later f zero = []
words_seen C P r0 args later f (suc c) =
    words_seen C P r0 args later f c
    ++ cond (starts_it C P (registers_at C P r0 args later c) (input_at args later c) f) ((registers_at C P r0 args later (suc c)).arg f ∷ []) []
