-- Runs by computation: the cycles in which main is done, and its word.
use Rattle.safl_circuit.proofs.Common.{Choice, Program, Registers, Word, no_word, ret}
use Rattle.std.proofs.Common.{ℕ, zero, suc, List, [], ◌∷◌, ◌++◌, Bool, false}
use Rattle.safl_circuit.specs.Steps.{registers_at}

abbrev pub quiet : Registers
quiet = record { run = λ u. false; fin = λ u. false; res = λ u. no_word; at = λ f. false; arg = λ f. []; sent = λ k. false; got = λ k. false; keep = λ k. no_word }

-- whether main is done in each of the cycles below n
abbrev pub done_below : Program → Choice → List Word → ℕ → List Bool
done_below C P args zero = []
done_below C P args (suc n) = done_below C P args n ++ (ret C (registers_at C P quiet args (λ c. []) n) 0 ∷ [])

abbrev pub shown_in : Program → Choice → List Word → ℕ → Word
shown_in C P args c = (registers_at C P quiet args (λ c. []) c).res (C.unit C.main)
