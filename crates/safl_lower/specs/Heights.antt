-- The depth of a signal: how many gates follow one another above given signals.
use Rattle.std.specs.Prelude.{◌≡◌, ℕ, zero, suc, ◌+◌, ◌≤◌, ◌^◌, ◌⊎◌, List, [], ◌∷◌, ◌++◌, length, Option, None, Some, slice_get}
use Rattle.safl_net.specs.declared.cell.Sig.{Sig}
use Rattle.safl_net.specs.Netlist.{Netlist, Signal, Kind, Input, Reg, Wire}
use Rattle.safl_net.specs.Making.{numbers}
use Rattle.safl_lower.specs.declared.loads.Load.{Load}

-- the signals that the cell of a signal reads
abbrev pub kind_reads : Kind → Option (List ℕ)
kind_reads Input = None
kind_reads (Reg init next) = None
kind_reads (Wire None) = None
kind_reads (Wire (Some c)) = Some c.operands

abbrev pub maybe_reads : Option Signal → Option (List ℕ)
maybe_reads None = None
maybe_reads (Some g) = kind_reads g.kind

-- the signal is a gate on these signals
abbrev pub IsGateOf : Netlist → Sig → List Sig → Type 0
IsGateOf n s xs = maybe_reads (slice_get n.signals s.0) ≡ Some (numbers xs)

abbrev pub EachOf : (ℕ → Type 0) → List ℕ → Type 0
EachOf P [] = Unit {0}
EachOf P (x ∷ xs) = P x × EachOf P xs

abbrev pub IsOneOf : List Sig → ℕ → Type 0
IsOneOf [] s = ⊥
IsOneOf (x ∷ xs) s = (x.0 ≡ s) ⊎ IsOneOf xs s

-- this signal is at most h gates above those signals
abbrev pub Within : Netlist → List Sig → ℕ → ℕ → Type 0
Within n from zero s = IsOneOf from s
Within n from (suc h) s = Within n from h s ⊎ ((ops : List ℕ) × (maybe_reads (slice_get n.signals s) ≡ Some ops) × EachOf (Within n from h) ops)

-- each of these signals is at most h gates above those
abbrev pub AllWithin : Netlist → List Sig → ℕ → List Sig → Type 0
AllWithin n from h [] = Unit {0}
AllWithin n from h (x ∷ xs) = Within n from h x.0 × AllWithin n from h xs

-- the bit and the words of a load
abbrev pub own_parts : Load → List Sig
own_parts l = l.bit ∷ l.words.items

abbrev pub load_parts : Option Load → List Sig
load_parts None = []
load_parts (Some l) = own_parts l

abbrev pub parts : List Load → List Sig
parts [] = []
parts (l ∷ ls) = own_parts l ++ parts ls

-- A row of at most 2^h bits, each of them among these signals. The bit `free` is at most f gates above them, with h ≤ f and f + h
-- ≤ m.
pub record Stands (n : Netlist) (from row : List Sig) (free : Sig) (f h m : ℕ) : Type 0 where
  pub few : length row ≤ 2 ^ h
  pub deep : h ≤ f
  pub room : f + h ≤ m
  pub bits : AllWithin n from 0 row
  pub base : Within n from f free.0
