-- The calls and tail calls of a body, as they are collected, under a valuation.
use Rattle.std.specs.Prelude.{◌≡◌, ℕ, ◌+◌, ◌<◌, ◌≤◌, List, [], ◌∷◌, length, Option, Some, None, true, ◌&&◌, ◌==◌}
use Rattle.safl_word.specs.Words.{Word}
use Rattle.safl_term.specs.Readiness.{or_else}
use Rattle.safl_net.specs.Netlist.{Netlist}
use Rattle.safl_net.specs.Growth.{Val, words}
use Rattle.safl_lower.specs.declared.lowered.Want.{Want}
use Rattle.safl_lower.specs.declared.lowered.TailCall.{TailCall}
use Rattle.safl_lower.specs.declared.lowered.Out.{Out}
use Rattle.safl_net.specs.Bits.{on, gate}
use Rattle.safl_lower.specs.Typing.{Owner}
use Rattle.safl_lower.specs.Sources.{IsSource, AreSources}

-- the words with which a call asks for site k
abbrev pub asks : Val → Want → ℕ → Option (List Word)
asks v e k = gate ((e.site == k) && on v e.want) (Some (words v e.args.items))

-- the words with which the first of the calls to do so asks for site k
abbrev pub asked : Val → List Want → ℕ → Option (List Word)
asked v [] k = None
asked v (e ∷ es) k = or_else (asks v e k) (asked v es k)

-- where a tail call goes if it is made; and where the first one goes that is made
abbrev pub goes : Val → TailCall → Option (ℕ × List Word)
goes v e = gate (on v e.taken) (Some (e.member, words v e.args.items))

abbrev pub went : Val → List TailCall → Option (ℕ × List Word)
went v [] = None
went v (e ∷ es) = or_else (goes v e) (went v es)

-- every tail call that is made goes there
abbrev pub Told : Val → List TailCall → Option (ℕ × List Word) → Type 0
Told v [] x = Unit {0}
Told v (e ∷ es) x = (on v e.taken ≡ true → Some (e.member, words v e.args.items) ≡ x) × Told v es x

abbrev pub site_of : Want → ℕ
site_of e = e.site

abbrev pub member_of : TailCall → ℕ
member_of e = e.member

-- each number is at least `low` and less than `high`
abbrev pub Between : ℕ → ℕ → List ℕ → Type 0
Between low high [] = Unit {0}
Between low high (k ∷ ks) = (low ≤ k) × (k < high) × Between low high ks

-- each number is that of a function in the owner's group
abbrev pub Mates : Owner → List ℕ → Type 0
Mates F [] = Unit {0}
Mates F (h ∷ hs) = (h < F.program.functions) × (F.program.unit h ≡ F.program.unit F.function) × Mates F hs

-- a call has a bit, and arguments of the widths of the called function's parameters
pub record WantFits (F : Owner) (n : Netlist) (e : Want) : Type 0 where
  pub bit : IsSource n e.want 1
  pub sized : AreSources n e.args.items (F.program.params (F.program.callee e.site))

-- a tail call has a bit, and arguments of the widths of its function's parameters
pub record LoopFits (F : Owner) (n : Netlist) (e : TailCall) : Type 0 where
  pub bit : IsSource n e.taken 1
  pub sized : AreSources n e.args.items (F.program.params e.member)

abbrev pub WantsFit : Owner → Netlist → List Want → Type 0
WantsFit F n [] = Unit {0}
WantsFit F n (e ∷ es) = WantFits F n e × WantsFit F n es

abbrev pub LoopsFit : Owner → Netlist → List TailCall → Type 0
LoopsFit F n [] = Unit {0}
LoopsFit F n (e ∷ es) = LoopFits F n e × LoopsFit F n es

pub record OutFits (F : Owner) (n : Netlist) (o : Out) : Type 0 where
  pub wants : WantsFit F n o.wants.items
  pub loops : LoopsFit F n o.loops.items

-- the greatest number of signals that merging the tail calls takes: for each its bit and its arguments
abbrev pub cost : List TailCall → ℕ
cost [] = 0
cost (e ∷ es) = 1 + length e.args.items + cost es
