-- The replies of a net to calls, one after another.
use Rattle.std.specs.Prelude.{◌≡◌, ℕ, List, [], ◌∷◌}
use Rattle.safl_word.specs.Words.{Word}
use Rattle.safl_net.specs.Netlist.{Netlist}
use Rattle.safl_sim.specs.declared.done.Done.{Done as Reply}
use Rattle.safl_run.specs.Calls.{Replies, IsSilent}

-- The replies to calls from a state. Each call goes on from the state after the one before, and the first call without a reply is
-- the last.
abbrev pub AreReplies : Netlist → ℕ → (ℕ → ℕ) → List (List Word) → List Reply → Type 0
AreReplies n limit state [] [] = Unit {0}
AreReplies n limit state [] (r ∷ rs) = ⊥
AreReplies n limit state (args ∷ calls) [] = IsSilent n limit state args
AreReplies n limit state (args ∷ calls) (r ∷ rs) = (after : ℕ → ℕ) × Replies n limit state args r after × AreReplies n limit after calls rs

-- each of the calls has its reply, and the calls lead to this state
abbrev pub AllReply : Netlist → ℕ → (ℕ → ℕ) → List (List Word) → List Reply → (ℕ → ℕ) → Type 0
AllReply n limit state [] [] last = last ≡ state
AllReply n limit state [] (r ∷ rs) last = ⊥
AllReply n limit state (args ∷ calls) [] last = ⊥
AllReply n limit state (args ∷ calls) (r ∷ rs) last = (after : ℕ → ℕ) × Replies n limit state args r after × AllReply n limit after calls rs last
