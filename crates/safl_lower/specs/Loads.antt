-- The calls of a body by site, and its tail calls by function.
use Rattle.std.specs.Prelude.{◌≡◌, ◌≢◌, ℕ, ◌+◌, ◌≤◌, List, [], ◌∷◌, map, length, Option, Some, None, ◌&&◌, ◌⊎◌, cond, ◌==◌, slice_get}
use Rattle.safl_word.specs.Words.{Word}
use Rattle.safl_term.specs.Readiness.{or_else}
use Rattle.safl_net.specs.Netlist.{Netlist}
use Rattle.safl_net.specs.Growth.{Val, words, Wired}
use Rattle.safl_net.specs.Bits.{on, gate}
use Rattle.safl_lower.specs.declared.loads.Load.{Load}
use Rattle.safl_lower.specs.Tables.{entry_in, taken_at, taken_from, LoadsFit, SomeFit}
use Rattle.safl_lower.specs.declared.lowered.Want.{Want}
use Rattle.safl_lower.specs.declared.lowered.TailCall.{TailCall}
use Rattle.safl_lower.specs.Typing.{Owner}
use Rattle.safl_lower.specs.Entries.{asked, site_of, member_of, WantsFit, LoopsFit, cost}

abbrev pub Differs : ℕ → List ℕ → Type 0
Differs k [] = Unit {0}
Differs k (j ∷ js) = (k ≡ j → ⊥) × Differs k js

-- no number is twice in the list
abbrev pub Apart : List ℕ → Type 0
Apart [] = Unit {0}
Apart (k ∷ ks) = Differs k ks × Apart ks

-- the number is in the list
abbrev pub Listed : ℕ → List ℕ → Type 0
Listed k [] = ⊥
Listed k (j ∷ js) = (j ≡ k) ⊎ Listed k js

-- the widths of the arguments of site first + i; and of those of function first + i
abbrev pub site_widths : Owner → ℕ → ℕ → List ℕ
site_widths F first i = F.program.params (F.program.callee (first + i))

abbrev pub member_widths : Owner → ℕ → ℕ → List ℕ
member_widths F first i = F.program.params (first + i)

-- load i is that of site first + i: the bit and the arguments of its call
pub record Spreads (first count : ℕ) (all : List Want) (xs : List Load) : Type 0 where
  pub size : length xs ≡ count
  pub fits : (F : Owner) (n : Netlist) → WantsFit F n all → LoadsFit n xs (site_widths F first)
  pub told : (v : Val) (i : ℕ) → taken_at v xs i ≡ asked v all (first + i)

-- load i is that of site first + i, or absent if the site is not called
pub record Placed (first count : ℕ) (all : List Want) (xs : List (Option Load)) : Type 0 where
  pub size : length xs ≡ count
  pub fits : (F : Owner) (n : Netlist) → WantsFit F n all → SomeFit n xs (site_widths F first)
  pub called : (i : ℕ) → Listed (first + i) (map site_of all) → entry_in (slice_get xs i) ≢ None
  pub told : (v : Val) (i : ℕ) → taken_from v xs i ≡ asked v all (first + i)

-- the arguments of the first tail call to the function that is made
abbrev pub taken_to : Val → List TailCall → ℕ → Option (List Word)
taken_to v [] h = None
taken_to v (e ∷ es) h = or_else (gate ((e.member == h) && on v e.taken) (Some (words v e.args.items))) (taken_to v es h)

abbrev pub to_member : ℕ → Option (ℕ × List Word) → Option (List Word)
to_member h None = None
to_member h (Some p) = cond (p.0 == h) (Some p.1) None

-- the number of signals of a load, its bit and its words, or 0 if it is absent; and of all loads of a table
abbrev pub load_cost : Option Load → ℕ
load_cost None = 0
load_cost (Some l) = 1 + length l.words.items

abbrev pub loads_cost : List (Option Load) → ℕ
loads_cost [] = 0
loads_cost (o ∷ os) = load_cost o + loads_cost os

-- load i is that of function first + i, if some tail call goes to it: the bit and the arguments of the first one that is made
pub record Merged (first count : ℕ) (old new : Netlist) (all : List TailCall) (xs : List (Option Load)) : Type 0 where
  pub size : length xs ≡ count
  pub fits : (F : Owner) → LoopsFit F old all → SomeFit new xs (member_widths F first)
  pub paid : loads_cost xs ≤ cost all
  pub idle : (i : ℕ) → ¬ Listed (first + i) (map member_of all) → entry_in (slice_get xs i) ≡ None
  pub told : (v : Val) → Wired new v → (i : ℕ) → taken_from v xs i ≡ taken_to v all (first + i)
