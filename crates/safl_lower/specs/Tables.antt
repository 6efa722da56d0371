-- Tables of signals, and what they show under a valuation.
use Rattle.std.specs.Prelude.{◌≡◌, ℕ, List, [], ◌∷◌, Option, Some, None, Result, OnOk, Bool, false, ◌&&◌, ◌||◌, ◌==◌, slice_get, slice_index_or}
use Rattle.std.specs.Option.{option_or}
use Rattle.safl_word.specs.Words.{Word}
use Rattle.safl_net.specs.declared.cell.Sig.{Sig}
use Rattle.safl_net.specs.Netlist.{Netlist}
use Rattle.safl_net.specs.Growth.{Val, words, Wired}
use Rattle.safl_net.specs.Bits.{on, gate}
use Rattle.safl_lower.specs.declared.loads.Load.{Load}
use Rattle.safl_lower.specs.Sources.{IsSource, AreSources}

-- the signal at a place
abbrev pub pin : List Sig → ℕ → Sig
pin xs i = slice_index_or xs i (record { 0 = 0 })

-- a statement holds of each entry of a table, with its number
abbrev pub EachAt : {A : Type 0} → List A → (ℕ → A → Type 0) → Type 0
EachAt {A} xs P = (i : ℕ) (x : A) → slice_get xs i ≡ Some x → P i x

-- the words of a load, if its bit is 1
abbrev pub taken : Val → Load → Option (List Word)
taken v l = gate (on v l.bit) (Some (words v l.words.items))

abbrev pub taken_in : Val → Option Load → Option (List Word)
taken_in v None = None
taken_in v (Some l) = taken v l

-- the entry at a place, if there is one
abbrev pub entry_in : {A : Type 0} → Option (Option A) → Option A
entry_in None = None
entry_in (Some o) = o

-- the words that a table of loads takes at a place
abbrev pub taken_at : Val → List Load → ℕ → Option (List Word)
taken_at v xs i = taken_in v (slice_get xs i)

abbrev pub taken_from : Val → List (Option Load) → ℕ → Option (List Word)
taken_from v xs i = taken_in v (entry_in (slice_get xs i))

-- whether a bit is there and is 1
abbrev pub on_in : Val → Option Sig → Bool
on_in v None = false
on_in v (Some s) = on v s

abbrev pub on_from : Val → List (Option Sig) → ℕ → Bool
on_from v xs i = on_in v (entry_in (slice_get xs i))

abbrev pub one_word : Option Word → Option (List Word)
one_word None = None
one_word (Some w) = Some (w ∷ [])

-- a load has a bit, and words of these widths
pub record LoadFits (n : Netlist) (l : Load) (ws : List ℕ) : Type 0 where
  pub bit : IsSource n l.bit 1
  pub words : AreSources n l.words.items ws

abbrev pub FitsIn : Netlist → Option Load → List ℕ → Type 0
FitsIn n None ws = Unit {0}
FitsIn n (Some l) ws = LoadFits n l ws

-- the loads of a table have the widths that belong to their numbers
abbrev pub LoadsFit : Netlist → List Load → (ℕ → List ℕ) → Type 0
LoadsFit n xs ws = EachAt xs (λ i l. LoadFits n l (ws i))

abbrev pub SomeFit : Netlist → List (Option Load) → (ℕ → List ℕ) → Type 0
SomeFit n xs ws = (i : ℕ) → FitsIn n (entry_in (slice_get xs i)) (ws i)

-- the signal, if there is one, is a bit
abbrev pub IsBitIn : Netlist → Option Sig → Type 0
IsBitIn n None = Unit {0}
IsBitIn n (Some s) = IsSource n s 1

abbrev pub BitsFit : Netlist → List (Option Sig) → Type 0
BitsFit n xs = (i : ℕ) → IsBitIn n (entry_in (slice_get xs i))

-- the bit of a load, or another bit if there is no load
abbrev pub load_bit : Load → Sig
load_bit l = l.bit

abbrev pub bit_or : Sig → Option Load → Sig
bit_or s None = s
bit_or s (Some l) = l.bit

-- ---- joining an entry

-- a bit is joined to the entry at a place, which may be absent
abbrev pub JoinsBit : Netlist → ℕ → Sig → List (Option Sig) → List (Option Sig) → Type 0
JoinsBit n place bit old new = (v : Val) → Wired n v → (i : ℕ) → on_from v new i ≡ (on_from v old i || ((i == place) && on v bit))

abbrev pub JoinsSome : Netlist → ℕ → Option Sig → List (Option Sig) → List (Option Sig) → Type 0
JoinsSome n place bit old new = (v : Val) → Wired n v → (i : ℕ) → on_from v new i ≡ (on_from v old i || ((i == place) && on_in v bit))

-- a load of this bit and these words is joined to the entry at a place. If both are taken, the earlier one counts
abbrev pub JoinsLoad : Netlist → ℕ → Sig → List Sig → List (Option Load) → List (Option Load) → Type 0
JoinsLoad n place bit xs old new = (v : Val) → Wired n v → (i : ℕ)
    → taken_from v new i ≡ option_or (taken_from v old i) (gate ((i == place) && on v bit) (Some (words v xs)))

-- on success, the loads of a table keep their widths, if the joined words have those of their place
abbrev pub KeepsWidths : {A E : Type 0} → Result A E → Netlist → Netlist → ℕ → List Sig → List (Option Load) → List (Option Load) → Type 0
KeepsWidths r n m place xs old new = (ws : ℕ → List ℕ) → SomeFit n old ws → AreSources n xs (ws place) → OnOk r (SomeFit m new ws)
