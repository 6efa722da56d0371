-- What a row of bits or of loads is joined to.
use Rattle.std.specs.Prelude.{◌≡◌, ℕ, ◌+◌, ◌*◌, ◌≤◌, ◌^◌, ◌++◌, List, map, length, Option, None, Some}
use Rattle.safl_net.specs.declared.cell.Sig.{Sig}
use Rattle.safl_net.specs.Netlist.{Netlist}
use Rattle.safl_net.specs.Growth.{Val, Wired}
use Rattle.safl_net.specs.Bits.{on}
use Rattle.safl_lower.specs.declared.loads.Load.{Load}
use Rattle.safl_lower.specs.declared.trees.Several.{Several}
use Rattle.safl_lower.specs.Sources.{IsSource}
use Rattle.safl_lower.specs.Tables.{taken_in, on_in, IsBitIn, FitsIn}
use Rattle.safl_lower.specs.Rows.{AreBits, AllFit, on_any, on_two, frees, first_taken, maybe_one}
use Rattle.safl_lower.specs.Heights.{Within, AllWithin, Stands, load_parts, parts}

-- The bit that is 1 if one of the row is. With at most 2^h bits, it is at most h gates above them.
pub record IsAnyOf (n : Netlist) (row : List Sig) (b : Option Sig) : Type 0 where
  pub fits : IsBitIn n b
  pub shows : (v : Val) → Wired n v → on_in v b ≡ on_any v row
  pub height : (h : ℕ) → length row ≤ 2 ^ h → AllWithin n row h (maybe_one b)

-- after the bits that were there, for each bit of a row that it is free and none before it is 1; all are at most m gates
-- above signals where the earlier bits were and the row stands low enough
pub record AddsFrees (old new : Netlist) (row : List Sig) (free : Sig) (before after : List Sig) : Type 0 where
  pub fits : AreBits new after
  pub long : length after ≡ length before + length row
  pub shows : (v : Val) → Wired new v → map (on v) after ≡ map (on v) before ++ frees v (on v free) row
  pub height : (from : List Sig) (f h m : ℕ) → Stands old from row free f h m → AllWithin old from m before → AllWithin new from m after

-- The first load of the row that is taken. With at most 2^h loads, it is at most h gates above their bits and words.
pub record IsFirstOf (n : Netlist) (row : List Load) (o : Option Load) : Type 0 where
  pub shows : (v : Val) → Wired n v → taken_in v o ≡ first_taken v row
  pub height : (h : ℕ) → length row ≤ 2 ^ h → AllWithin n (parts row) h (load_parts o)

-- that load, with the widths that the row's loads had before it was joined
pub record IsFirstIn (old n : Netlist) (row : List Load) (o : Option Load) : Type 0 where
  pub fits : (ws : List ℕ) → AllFit old row ws → FitsIn n o ws
  pub first : IsFirstOf n row o

-- Whether one bit of the row is 1, and whether two are. With at most 2^h bits, these are at most h and 3h gates above them.
pub record IsSeveralOf (n : Netlist) (row : List Sig) (s : Several) : Type 0 where
  pub any_fits : IsSource n s.any 1
  pub two_fits : IsBitIn n s.two
  pub any_shows : (v : Val) → Wired n v → on v s.any ≡ on_any v row
  pub two_shows : (v : Val) → Wired n v → on_in v s.two ≡ on_two v row
  pub height : (h : ℕ) → length row ≤ 2 ^ h → Within n row h s.any.0
  pub two_height : (h : ℕ) → length row ≤ 2 ^ h → AllWithin n row (3 * h) (maybe_one s.two)

-- an empty row has no such bits
abbrev pub IsSeveralIn : Netlist → List Sig → Option Several → Type 0
IsSeveralIn n row None = length row ≡ 0
IsSeveralIn n row (Some s) = IsSeveralOf n row s
