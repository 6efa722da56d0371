-- What nets hold.
use Rattle.std.proofs.Common.{◌≡◌, ◌≢◌, ℕ, zero, suc, ◌<◌, ◌≤◌, List, [], ◌∷◌, length, Option, Some, None, option_map, slice_get, refl, subst, arith}
use Rattle.safl_net.specs.Netlist.{Netlist, Signal, Kind, Input, Reg, Wire, Cell, width_in, width_of}
use Rattle.safl_net.specs.Making.{kind_at, kind_in, cell_in}
use Rattle.safl_net.specs.Rules.{IsNetlist, KindFits, CellFits}
use Rattle.safl_aig.specs.Bits.{output_at, shown_in}

pub width_le : (n : Netlist) → IsNetlist n → (s : ℕ) → width_of n s ≤ 128
width_le n made s = by (slice_get n.signals s) refl
  where
    by : (o : Option Signal) → slice_get n.signals s ≡ o → width_in o ≤ 128
    by None e = omega arith
    by (Some g) e = (made.signals s g e).most

-- the cell of a wire fits it
pub cell_at : (n : Netlist) → IsNetlist n → (s : ℕ) (c : Cell) → cell_in (kind_at n s) ≡ Some c → CellFits n (width_of n s) c
cell_at n made s c e = by (slice_get n.signals s) refl e
  where
    on : (width : ℕ) (k : Kind) → KindFits n width k → cell_in k ≡ Some c → CellFits n width c
    on width Input f h = absurd (cc)
    on width (Reg init next) f h = absurd (cc)
    on width (Wire None) f h = absurd (cc)
    on width (Wire (Some d)) f h = let q : d ≡ c = cc in subst (λ x. CellFits n width x) q f

    by : (o : Option Signal) → slice_get n.signals s ≡ o → cell_in (kind_in o) ≡ Some c → CellFits n (width_in o) c
    by None q h = absurd (cc)
    by (Some g) q h = on g.width g.kind (made.signals s g q).kind h

pub output_known : (n : Netlist) → IsNetlist n → (i : ℕ) → i < length n.outputs → output_at n i < length n.signals
output_known n made i l = by (slice_get n.outputs i) refl
  where
    some : (os : List (List ℕ × ℕ)) (k : ℕ) → k < length os → slice_get os k ≢ None
    some [] k h e = omega (arith, h)
    some (o ∷ os) zero h e = cc
    some (o ∷ os) (suc k) h e = some os k (omega (arith, h)) e

    by : (o : Option (List ℕ × ℕ)) → slice_get n.outputs i ≡ o → shown_in o < length n.signals
    by None e = absurd (some n.outputs i l e)
    by (Some o) e = (made.outputs i o e).1

-- an output's signal, as a net tells it
pub output_is : (n : Netlist) (i s : ℕ) → Some s ≡ option_map (λ (o : List ℕ × ℕ). o.1) (slice_get n.outputs i) → s ≡ output_at n i
output_is n i s e = by (slice_get n.outputs i) e
  where
    by : (o : Option (List ℕ × ℕ)) → Some s ≡ option_map (λ (o : List ℕ × ℕ). o.1) o → s ≡ shown_in o
    by None h = absurd (cc)
    by (Some o) h = cc
