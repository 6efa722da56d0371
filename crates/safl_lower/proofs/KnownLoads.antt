-- The loads and bits of a net are known in what is built on it.
use Rattle.safl_lower.proofs.Common.{Builds, Load, Netlist, Sig}
use Rattle.std.proofs.Common.{ℕ, List, Option, Some, None, slice_get}
use Rattle.safl_lower.specs.Tables.{entry_in, LoadFits, FitsIn, LoadsFit, SomeFit, IsBitIn, BitsFit}
use Rattle.safl_lower.proofs.Building.{source_kept, sources_kept}

module _ {a b : Netlist} {most : ℕ} (h : Builds a b most) where
  pub load_kept : {l : Load} {ws : List ℕ} → LoadFits a l ws → LoadFits b l ws
  load_kept q = record { bit = source_kept h q.bit; words = sources_kept h q.words }

  pub maybe_load_kept : (o : Option Load) (ws : List ℕ) → FitsIn a o ws → FitsIn b o ws
  maybe_load_kept None ws q = tt
  maybe_load_kept (Some l) ws q = load_kept q

  pub loads_kept : (xs : List Load) (ws : ℕ → List ℕ) → LoadsFit a xs ws → LoadsFit b xs ws
  loads_kept xs ws q = λ i l e. load_kept (q i l e)

  pub some_kept : (xs : List (Option Load)) (ws : ℕ → List ℕ) → SomeFit a xs ws → SomeFit b xs ws
  some_kept xs ws q = λ i. maybe_load_kept (entry_in (slice_get xs i)) (ws i) (q i)

  pub maybe_bit_kept : (o : Option Sig) → IsBitIn a o → IsBitIn b o
  maybe_bit_kept None q = tt
  maybe_bit_kept (Some s) q = source_kept h q

  pub bits_kept : (xs : List (Option Sig)) → BitsFit a xs → BitsFit b xs
  bits_kept xs q = λ i. maybe_bit_kept (entry_in (slice_get xs i)) (q i)
