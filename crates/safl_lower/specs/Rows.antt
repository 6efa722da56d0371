-- Rows of bits and loads, and what they show under a valuation.
use Rattle.std.specs.Prelude.{ℕ, suc, ◌+◌, ◌-◌, List, [], ◌∷◌, length, drop, Option, None, Some, Bool, false, Vec, slice_get, not, ◌&&◌, ◌||◌}
use Rattle.std.specs.Global.{Global}
use Rattle.safl_word.specs.Words.{Word}
use Rattle.std.specs.Option.{option_or}
use Rattle.safl_net.specs.declared.cell.Sig.{Sig}
use Rattle.safl_net.specs.Netlist.{Netlist}
use Rattle.safl_net.specs.Growth.{Val}
use Rattle.safl_net.specs.Bits.{on}
use Rattle.safl_lower.specs.declared.loads.Load.{Load}
use Rattle.safl_lower.specs.Sources.{IsSource}
use Rattle.safl_lower.specs.Tables.{taken, LoadFits}

-- each signal is a bit
abbrev pub AreBits : Netlist → List Sig → Type 0
AreBits n [] = Unit {0}
AreBits n (s ∷ ss) = IsSource n s 1 × AreBits n ss

-- whether one of them is 1
abbrev pub on_any : Val → List Sig → Bool
on_any v [] = false
on_any v (s ∷ ss) = on v s || on_any v ss

-- whether two of them are 1
abbrev pub on_two : Val → List Sig → Bool
on_two v [] = false
on_two v (s ∷ ss) = on_two v ss || (on v s && on_any v ss)

-- for each of them, whether `free` holds and none before it is 1
abbrev pub frees : Val → Bool → List Sig → List Bool
frees v free [] = []
frees v free (s ∷ ss) = free ∷ frees v (free && not (on v s)) ss

-- the row with a bit, if it is there
abbrev pub maybe_one : Option Sig → List Sig
maybe_one None = []
maybe_one (Some s) = s ∷ []

-- each load has a bit, and words of these widths
abbrev pub AllFit : Netlist → List Load → List ℕ → Type 0
AllFit n [] ws = Unit {0}
AllFit n (l ∷ ls) ws = LoadFits n l ws × AllFit n ls ws

-- the words of the first load whose bit is 1
abbrev pub first_taken : Val → List Load → Option (List Word)
first_taken v [] = None
first_taken v (l ∷ ls) = option_or (taken v l) (first_taken v ls)

-- the number of gates with one for each bit and each word of the loads
abbrev pub row_gates : List Load → ℕ
row_gates [] = 0
row_gates (l ∷ ls) = suc (length l.words.items) + row_gates ls

-- the number of gates that join a row of bits to one; and a row of loads
abbrev pub bit_joins : List Sig → ℕ
bit_joins xs = length xs - 1

abbrev pub load_joins : List Load → ℕ
load_joins ls = row_gates (drop 1 ls)

-- ---- rows, found by number

abbrev pub row_in : {A : Type 0} → Option (Vec A Global) → List A
row_in None = []
row_in (Some r) = r.items

-- the row of a number
abbrev pub row_at : {A : Type 0} → List (Vec A Global) → ℕ → List A
row_at rows i = row_in (slice_get rows i)

-- the sum over all rows
abbrev pub total : {A : Type 0} → (List A → ℕ) → List (Vec A Global) → ℕ
total g [] = 0
total g (r ∷ rs) = g r.items + total g rs

-- each row has only bits
abbrev pub RowsAreBits : Netlist → List (Vec Sig Global) → Type 0
RowsAreBits n rows = (i : ℕ) → AreBits n (row_at rows i)

-- the loads of each row have the widths that belong to its number
abbrev pub RowsFit : Netlist → List (Vec Load Global) → (ℕ → List ℕ) → Type 0
RowsFit n rows ws = (i : ℕ) → AllFit n (row_at rows i) (ws i)

-- what the row of a number shows
abbrev pub any_at : Val → List (Vec Sig Global) → ℕ → Bool
any_at v rows i = on_any v (row_at rows i)

abbrev pub first_at : Val → List (Vec Load Global) → ℕ → Option (List Word)
first_at v rows i = first_taken v (row_at rows i)
