-- The laws of sessions and scripts.
use Rattle.std.specs.Prelude.{◌≡◌, ℕ, List, ◌++◌, All}
use Rattle.safl_word.specs.Words.{Word, AreWords}
use Rattle.safl_net.specs.Laws.{FitWidths}
use Rattle.safl_net.specs.Netlist.{Netlist}
use Rattle.safl_net.specs.Rules.{IsNetlist}
use Rattle.safl_net.specs.Valuations.{IsAcyclic}
use Rattle.safl_net.specs.Whole.{IsWhole}
use Rattle.safl_net.specs.Arguments.{AreArguments}
use Rattle.safl_sim.specs.declared.done.Done.{Done as Reply}
use Rattle.safl_session.specs.Lines.{ScriptFault}
use Rattle.safl_session.specs.Replies.{AreReplies, AllReply}
use Rattle.safl_session.specs.Scripts.{IsScript, IsScriptFault}

-- each call has words of the widths of the net's inputs
abbrev pub AreCallsOf : Netlist → List (List Word) → Type 0
AreCallsOf n calls = All (λ args. AreWords args × AreArguments n args) calls

-- a whole net without loops has exactly one list of replies to such calls, from any state of the right widths
abbrev pub RepliesExist : Type 0
RepliesExist =
    (n : Netlist) → IsNetlist n → IsWhole n → IsAcyclic n → (limit : ℕ) (state : ℕ → ℕ) → FitWidths n state
    → (calls : List (List Word)) → AreCallsOf n calls → (rs : List Reply) × AreReplies n limit state calls rs

abbrev pub RepliesOnce : Type 0
RepliesOnce =
    (n : Netlist) → IsNetlist n → IsWhole n → IsAcyclic n → (limit : ℕ) (state : ℕ → ℕ) → FitWidths n state → (calls : List (List Word)) → AreCallsOf n calls
    → (rs qs : List Reply) → AreReplies n limit state calls rs → AreReplies n limit state calls qs → rs ≡ qs

-- the replies to some calls and then to more are the replies to the first ones and, from the state that these lead to, those to
-- the others
abbrev pub RepliesJoin : Type 0
RepliesJoin =
    (n : Netlist) (limit : ℕ) (state last : ℕ → ℕ) (calls more : List (List Word)) (rs qs : List Reply)
    → AllReply n limit state calls rs last → AreReplies n limit last more qs → AreReplies n limit state (calls ++ more) (rs ++ qs)

-- a text is at most one script and has at most one first fault, and it is not both a script and faulty
abbrev pub OneScript : Type 0
OneScript = (widths text : List ℕ) (calls others : List (List Word)) → IsScript widths text calls → IsScript widths text others → calls ≡ others

abbrev pub OneFault : Type 0
OneFault = (widths text : List ℕ) (e f : ScriptFault) → IsScriptFault widths text e → IsScriptFault widths text f → e ≡ f

abbrev pub NotBoth : Type 0
NotBoth = (widths text : List ℕ) (calls : List (List Word)) (f : ScriptFault) → IsScript widths text calls → IsScriptFault widths text f → ⊥
