-- What is required before a part of a body is checked: widths are in range, and sites, slots and operands can be counted.
use Rattle.std.specs.Prelude.{ℕ, ◌+◌, ◌<◌, ◌≤◌, ◌^◌, List, [], ◌∷◌, length}
use Rattle.safl_word.specs.Limits.{sites_counted}
use Rattle.safl_typing.specs.declared.context.Context.{Context}
use Rattle.safl_typing.specs.declared.expression.Expression as code
use Rattle.safl_typing.specs.declared.heads.Head as code_head
use Rattle.safl_typing.specs.declared.scope.Scope.{Scope}
use Rattle.safl_typing.specs.Rewriting.{Expression, Expressions, Bindings, nodes, nodes_in, nodes_bound}
use Rattle.safl_typing.specs.Heads.{Slot, sites, sites_in, sites_bound}
use Rattle.safl_typing.specs.Ranges.{WideSlots, WideHeads, IsInRange, AreInRange, BoundInRange}
use Rattle.safl_typing.specs.Plain.{shown_expressions}
use Rattle.safl_typing.specs.PlainHeads.{shown_heads, known}
use Rattle.safl_typing.specs.PlainScope.{shown_scope}

-- the parameters of each function can be counted
abbrev pub CountParams : List code_head.Head → Type 0
CountParams [] = Unit {0}
CountParams (h ∷ hs) = (length h.params.items < 2 ^ 32) × CountParams hs

-- a part with this many sites and nodes may be checked with these heads and slots
pub record MayWalk (hs : List code_head.Head) (ss : List Slot) (lo : ℕ) (Range : Type 0) (sites nodes : ℕ) : Type 0 where
  pub heads : WideHeads (shown_heads hs)
  pub counted : length hs < 2 ^ 32
  pub params : CountParams hs
  pub slots : WideSlots ss
  pub range : Range
  pub within : lo + sites ≤ sites_counted
  pub room : length ss + nodes < 2 ^ 32

abbrev pub MayCheck : List code_head.Head → ℕ → List Slot → ℕ → Expression → Type 0
MayCheck hs unit ss lo e = MayWalk hs ss lo (IsInRange e) (sites (known hs unit) e) (nodes e)

abbrev pub MayCheckAll : List code_head.Head → ℕ → List Slot → ℕ → Expressions → Type 0
MayCheckAll hs unit ss lo es = MayWalk hs ss lo (AreInRange es) (sites_in (known hs unit) es) (nodes_in es)

-- several expressions of the code may be checked in this context and scope
abbrev pub MayWalkAll : Context → Scope → ℕ → List code.Expression → Type 0
MayWalkAll c s lo es = MayCheckAll c.heads.now c.unit (shown_scope s) lo (shown_expressions es)

abbrev pub MayBind : List code_head.Head → ℕ → List Slot → ℕ → Bindings → Type 0
MayBind hs unit ss lo bs = MayWalk hs ss lo (BoundInRange bs) (sites_bound (known hs unit) bs) (nodes_bound bs)
