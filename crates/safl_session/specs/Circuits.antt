-- Sessions of circuits: the replies are main's values, and each call starts in a quiet state.
use Rattle.std.specs.Prelude.{◌≡◌, ℕ, ◌*◌, ◌<◌, ◌≤◌, List, [], ◌∷◌, ◌++◌, length, All}
use Rattle.safl_term.specs.Names.{Names}
use Rattle.safl_word.specs.Words.{Word, as_word}
use Rattle.safl_term.specs.Program.{Program}
use Rattle.safl_term.specs.Meaning.{Main}
use Rattle.safl_term.specs.Fuel.{GivesInCalls}
use Rattle.safl_term.specs.WellFormed.{AreWordsOf}
use Rattle.safl_net.specs.Netlist.{Netlist}
use Rattle.safl_net.specs.Rules.{IsNetlist}
use Rattle.safl_net.specs.Valuations.{Valuation, reset_state}
use Rattle.safl_net.specs.Whole.{IsWhole}
use Rattle.safl_sites.specs.Plan.{Choice}
use Rattle.safl_circuit.specs.Names.{registers_now, registers_next}
use Rattle.safl_circuit.specs.Steps.{Quiet}
use Rattle.safl_circuit.specs.Scheme.{Scheme}
use Rattle.safl_circuit.specs.Correct.{IsExactResult, IsQuietState, latest}
use Rattle.safl_circuit.specs.Theorem.{IsCircuit}
use Rattle.safl_sim.specs.declared.done.Done.{Done as Reply}
use Rattle.safl_run.specs.Calls.{Replies, IsSilent}
use Rattle.safl_session.specs.Replies.{AreReplies}

-- the reply is that of main for these arguments, in time
abbrev pub IsMainReply : Program → List Word → Reply → Type 0
IsMainReply C args r = IsExactResult C args (as_word (C.result C.main) r.result.bits) r.cycle

-- the registers are quiet in the first of these cycles
abbrev pub StartsQuiet : Program → Names → Netlist → List Valuation → Type 0
StartsQuiet C D n [] = Unit {0}
StartsQuiet C D n (v ∷ vs) = Quiet (registers_now C D n v)

-- From a state, call after call: the registers are quiet in its first cycle, its reply is main's, and they are quiet again after it.
abbrev pub Serves : Program → Names → Netlist → ℕ → (ℕ → ℕ) → List (List Word) → List Reply → Type 0
Serves C D n limit state [] [] = Unit {0}
Serves C D n limit state [] (r ∷ rs) = ⊥
Serves C D n limit state (args ∷ calls) [] = (s : IsSilent n limit state args) × StartsQuiet C D n s.cycles
Serves C D n limit state (args ∷ calls) (r ∷ rs) =
    IsMainReply C args r × (after : ℕ → ℕ) × (p : Replies n limit state args r after) × StartsQuiet C D n (p.before ++ p.last ∷ [])
    × Quiet (registers_next C D n p.last) × Serves C D n limit after calls rs

-- a circuit serves calls with words of the widths of main's parameters, from any quiet state
abbrev pub CircuitsServe : Type 0
CircuitsServe =
    (C : Program) (D : Names) (P : Choice) (n : Netlist) → Scheme C D P n → IsCircuit C D P n → IsNetlist n → IsWhole n
    → (limit : ℕ) (state : ℕ → ℕ) → IsQuietState C D n state → (calls : List (List Word)) → All (λ args. AreWordsOf args (C.params C.main)) calls
    → (rs : List Reply) → AreReplies n limit state calls rs → Serves C D n limit state calls rs

-- main gives a value, and the last cycle in which `done` may come is below the limit
abbrev pub IsInTime : Program → ℕ → List Word → Type 0
IsInTime C limit args = (v : Word) × (d : Main C args v) × (latest C args d < limit)

-- if main gives a value in m calls and 3m is at most the limit, it is in time
abbrev pub BudgetsAreInTime : Type 0
BudgetsAreInTime = (C : Program) (args : List Word) (v : Word) (n limit : ℕ) → GivesInCalls C args v n → 3 * n ≤ limit → IsInTime C limit args

-- a circuit replies to each of the calls if main is in time for each
abbrev pub CircuitsReply : Type 0
CircuitsReply =
    (C : Program) (D : Names) (P : Choice) (n : Netlist) → Scheme C D P n → IsCircuit C D P n → IsNetlist n → IsWhole n
    → (limit : ℕ) (state : ℕ → ℕ) → IsQuietState C D n state → (calls : List (List Word)) → All (λ args. AreWordsOf args (C.params C.main)) calls
    → All (IsInTime C limit) calls → (rs : List Reply) → AreReplies n limit state calls rs → length rs ≡ length calls

-- the state at reset is quiet
abbrev pub ResetIsQuiet : Type 0
ResetIsQuiet = (C : Program) (D : Names) (P : Choice) (n : Netlist) → Scheme C D P n → IsQuietState C D n (reset_state n)
