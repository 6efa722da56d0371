-- Files that were cut short, which are never taken for whole ones.
use Rattle.std.specs.Prelude.{ℕ, ◌≡◌, ◌⊎◌, List, ◌++◌, Some, codes}
use Rattle.safl_io.specs.Shelf.{Files, file_of, SameOthers}
use Rattle.safl_net.specs.Netlist.{Netlist}
use Rattle.safl_net.specs.Written.{written}
use Rattle.safl_verilog.specs.Reads.{Reads}

-- the bytes read as no netlist, or they are the whole text of the net, with or without its last line feed
abbrev pub IsTornOrWhole : Netlist → List ℕ → Type 0
IsTornOrWhole n bytes = ((m : Netlist) → ¬ Reads bytes m) ⊎ (bytes ≡ written n) ⊎ (bytes ++ codes "\n" ≡ written n)

-- the files after a write of a net that failed: the old file is there, or one with such bytes
pub record LeavesOldOrTorn (name : List ℕ) (n : Netlist) (old new : Files) : Type 0 where
  pub file : (file_of new name ≡ file_of old name) ⊎ ((bytes : List ℕ) × (file_of new name ≡ Some bytes) × IsTornOrWhole n bytes)
  pub others : SameOthers name old new
