-- States that are equal, and bits.
use Rattle.std.proofs.Common.{◌≡◌, ℕ, zero, suc, ◌<◌, slice_index, refl, subst, arith}
use Rattle.safl_net.specs.Netlist.{Netlist}
use Rattle.safl_net.specs.Valuations.{Valuation, Fits, Holds}

-- equal states are fitted by the same valuations
pub fits_along : (n : Netlist) (state other : ℕ → ℕ) (v : Valuation) → ((s : ℕ) → state s ≡ other s) → Fits n state v → Fits n other v
fits_along n state other v e f = record { full = f.full; each = λ s g at. let h = f.each s g at in (h.0, subst (λ x. Holds n v x (slice_index v s) g.kind) (e s) h.1) }

pub not_one : (x : ℕ) → x < 2 → (x ≡ 1 → ⊥) → x ≡ 0
not_one zero h e = refl
not_one (suc zero) h e = absurd (e refl)
not_one (suc (suc x)) h e = absurd (omega (arith, h))
