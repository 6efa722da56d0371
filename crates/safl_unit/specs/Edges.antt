-- What the tables of events show under a valuation.
use Rattle.std.specs.Prelude.{◌≡◌, ℕ, zero, suc, ◌<◌, ◌==◌, ◌++◌, List, [], ◌∷◌, length, Option}
use Rattle.std.specs.Prelude.{Some, None, Bool, false, cond, not, ◌&&◌, ◌||◌, is_some, slice_get}
use Rattle.safl_word.specs.Words.{Word}
use Rattle.safl_term.specs.Program.{Program, unit_for}
use Rattle.safl_net.specs.declared.cell.Sig.{Sig}
use Rattle.safl_net.specs.Netlist.{Netlist}
use Rattle.safl_net.specs.Growth.{Val, Wired, words}
use Rattle.safl_net.specs.Bits.{on, gate}
use Rattle.safl_calls.specs.Picks.{first}
use Rattle.safl_lower.specs.declared.loads.Load.{Load}
use Rattle.safl_lower.specs.Tables.{pin, taken_at, taken_from, entry_in, on_in, on_from, SomeFit, BitsFit}
use Rattle.safl_lower.specs.Rows.{on_any, on_two, maybe_one}
use Rattle.safl_unit.specs.declared.pins.Outcomes.{Outcomes}

-- whether some number below n passes the test
unfoldable pub one_below : (ℕ → Bool) → ℕ → Bool
one_below t zero = false
one_below t (suc n) = one_below t n || t n

-- the bit of a load, if there is one
abbrev pub bit_of : Option Load → Option Sig
bit_of None = None
bit_of (Some l) = Some l.bit

-- the words of a load, whether it is taken or not
abbrev pub operands_in : Val → Option Load → Option (List Word)
operands_in v None = None
operands_in v (Some l) = Some (words v l.words.items)

-- a table of optional bits has this many entries and shows this; and a table of optional loads
pub record ShowsBits (n : Netlist) (bits : List (Option Sig)) (count : ℕ) (says : Val → ℕ → Bool) : Type 0 where
  pub entries : length bits ≡ count
  pub fits : BitsFit n bits
  pub shows : (v : Val) → Wired n v → (i : ℕ) → on_from v bits i ≡ says v i

pub record ShowsLoads (n : Netlist) (all : List (Option Load)) (count : ℕ) (widths : ℕ → List ℕ) (says : Val → ℕ → Option (List Word)) : Type 0 where
  pub entries : length all ≡ count
  pub fits : SomeFit n all widths
  pub shows : (v : Val) → Wired n v → (i : ℕ) → taken_from v all i ≡ says v i

-- a table of optional bits shows this for the numbers below the count
pub record ShowsBelow (n : Netlist) (bits : List (Option Sig)) (count : ℕ) (says : Val → ℕ → Bool) : Type 0 where
  pub entries : length bits ≡ count
  pub fits : BitsFit n bits
  pub shows : (v : Val) → Wired n v → (i : ℕ) → i < count → on_from v bits i ≡ says v i

-- the bits of those functions of a unit that are below a number
unfoldable pub entry_row : Program → List (Option Sig) → ℕ → ℕ → List Sig
entry_row C es u zero = []
entry_row C es u (suc m) = entry_row C es u m ++ cond (u == C.unit m) (maybe_one (entry_in (slice_get es m))) []

-- whether another bit of a row than `own` is 1: two are, or one is and `own` is not
abbrev pub others_on : Val → List Sig → Option Sig → Bool
others_on v row own = on_two v row || (on_any v row && not (on_in v own))

-- whether g is another function of f's unit and passes the test
abbrev pub rival : Program → (ℕ → Bool) → ℕ → ℕ → Bool
rival C e f g = (C.unit g == C.unit f) && (not (g == f) && e g)

-- the bit shows whether another bit than the function's own is 1, if its unit has other functions
abbrev pub ShowsOthers : Netlist → Bool → List Sig → Option Sig → Option Sig → Type 0
ShowsOthers n many row own o = (v : Val) → Wired n v → on_in v o ≡ (many && others_on v row own)

-- ---- the events of each unit and function

-- for each unit, the word of the first of its functions that ends
abbrev pub ShowsEnds : Program → Netlist → Outcomes → List (Option Load) → Type 0
ShowsEnds C n o all =
    ShowsLoads n all C.functions (λ u. C.result u ∷ []) (λ v u. first (λ f. gate (u == C.unit f) (taken_at v o.ends.items f)) C.functions)

-- for each function, the arguments of the first site that starts it
abbrev pub ShowsArguments : Program → Netlist → Outcomes → List Sig → List (Option Load) → Type 0
ShowsArguments C n o goes all = ShowsLoads n all C.functions C.params
    (λ v f. first (λ k. gate ((f == C.callee k) && on v (pin goes k)) (operands_in v (slice_get o.wants.items k))) (suc C.sites))

-- for each unit, whether a site starts it
abbrev pub ShowsStarts : Program → Netlist → List Sig → List (Option Sig) → Type 0
ShowsStarts C n goes bits = ShowsBits n bits C.functions (λ v u. one_below (λ k. (u == unit_for C k) && on v (pin goes k)) (suc C.sites))

-- for each unit, whether one of its functions ends or is looped to
abbrev pub ShowsClears : Program → Netlist → Outcomes → List (Option Load) → List (Option Sig) → Type 0
ShowsClears C n o ends bits = ShowsBits n bits C.functions
    (λ v u. is_some (taken_from v ends u) || one_below (λ h. (u == C.unit h) && is_some (taken_from v o.loops.items h)) C.functions)

-- for each function, whether a site or a tail call starts it
abbrev pub ShowsEntries : Program → Netlist → Outcomes → List (Option Load) → List (Option Sig) → Type 0
ShowsEntries C n o loads bits = ShowsBits n bits C.functions
    (λ v f. is_some (taken_from v loads f) || one_below (λ h. (f == h) && is_some (taken_from v o.loops.items h)) C.functions)

-- for each function, whether another function of its unit has its bit 1
abbrev pub ShowsRivals : Program → Netlist → List (Option Sig) → List (Option Sig) → Type 0
ShowsRivals C n entries bits = ShowsBelow n bits C.functions (λ v f. one_below (rival C (on_from v entries) f) C.functions)
