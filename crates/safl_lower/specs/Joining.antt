-- What a branch, a call and a tail call add to the circuits of their parts.
use Rattle.std.specs.Prelude.{◌≡◌, ℕ, List, Bool, cond, not, ◌&&◌, ◌==◌}
use Rattle.safl_word.specs.Words.{Word}
use Rattle.safl_term.specs.Readiness.{or_else}
use Rattle.safl_net.specs.declared.cell.Sig.{Sig}
use Rattle.safl_net.specs.Netlist.{Netlist}
use Rattle.safl_net.specs.Growth.{Val, Wired}
use Rattle.safl_net.specs.Bits.{on, gate}
use Rattle.safl_lower.specs.declared.lowered.SiteTable.{SiteTable}
use Rattle.safl_lower.specs.declared.lowered.Readiness.{Readiness}
use Rattle.safl_lower.specs.declared.lowered.Readiness.TheVariants.{Never}
use Rattle.safl_lower.specs.declared.lowered.Lowered.{Lowered}
use Rattle.safl_lower.specs.declared.lowered.LoweredAll.{LoweredAll}
use Rattle.safl_lower.specs.declared.lowered.TailCall.{TailCall}
use Rattle.safl_lower.specs.declared.lowered.Want.{Want}
use Rattle.safl_lower.specs.Bits.{is_ready}
use Rattle.safl_lower.specs.Entries.{asked, went}
use Rattle.safl_lower.specs.Lowering.{open_at, gathered, goes_with}

-- the path is 1, and what it waits for is ready
abbrev pub is_reached : Val → Sig → Readiness → Bool
is_reached v path r = on v path && is_ready v r

-- the path of the test is 1, the test is ready, and its word is 1; or its word is 0
abbrev pub selects_yes : Val → Sig → Lowered → Bool
selects_yes v path test = is_reached v path test.ready && on v test.value

abbrev pub selects_no : Val → Sig → Lowered → Bool
selects_no v path test = is_reached v path test.ready && not (on v test.value)

-- whether the branch that a bit selects is ready; and its word
abbrev pub selected_ready : Val → Sig → Lowered → Lowered → Bool
selected_ready v c taken other = cond (on v c) (is_ready v taken.ready) (is_ready v other.ready)

abbrev pub selected_word : Val → Sig → Lowered → Lowered → Word
selected_word v c taken other = cond (on v c) (v taken.value.0) (v other.value.0)

-- neither branch is ever ready
abbrev pub BothNever : Lowered → Lowered → Type 0
BothNever taken other = (taken.ready ≡ Never) × (other.ready ≡ Never)

-- one more call: it asks for site k with these words, if the path is 1, the site was not sent and the arguments are ready
abbrev pub AddsCall : Netlist → SiteTable → Sig → ℕ → LoweredAll → List Want → List Want → Type 0
AddsCall n P path k all o p = (v : Val) → Wired n v → (j : ℕ)
    → asked v p j ≡ or_else (asked v o j) (gate (k == j) (gate (open_at v P path k) (gathered v all)))

-- one more tail call: it goes to function h of the group with these words, if the path is 1 and the arguments are ready
abbrev pub AddsTailCall : Netlist → Sig → ℕ → LoweredAll → List TailCall → List TailCall → Type 0
AddsTailCall n path h all o p = (v : Val) → Wired n v → went v p ≡ or_else (went v o) (gate (on v path) (goes_with h (gathered v all)))
