-- A net and a bit-level circuit that do the same.
use Rattle.std.specs.Prelude.{◌≡◌, ℕ, List, [], ◌∷◌, map, length, Bool, slice_index}
use Rattle.std.specs.List.{AllZip}
use Rattle.safl_net.specs.Netlist.{Netlist}
use Rattle.safl_net.specs.Valuations.{Valuation, Fits, reset_state, next_state}
use Rattle.safl_aiger.specs.Literals.{Assignment, values}
use Rattle.safl_aiger.specs.Circuits.{Circuit, latches, base}
use Rattle.safl_aiger.specs.Runs.{Wired, input_bits, latch_bits, next_bits, RunsFromReset}
use Rattle.safl_aig.specs.Bits.{for_inputs, for_registers, for_outputs, signal_bits}

-- the valuations are the cycles of a run from some state, with any inputs
abbrev pub RunsOn : Netlist → (ℕ → ℕ) → List Valuation → Type 0
RunsOn n state [] = Unit {0}
RunsOn n state (v ∷ vs) = Fits n state v × RunsOn n (next_state n v) vs

-- in one cycle, each bit of each register and output is the same
pub record EqualBits (n : Netlist) (a : Circuit) (v : Valuation) (m : Assignment) : Type 0 where
  pub registers : latch_bits a m ≡ for_registers n (signal_bits n (slice_index v))
  pub outputs : values m a.outputs ≡ for_outputs n (signal_bits n (slice_index v))

-- in every cycle, for every list of inputs, the bits are the same
abbrev pub SameBits : Netlist → Circuit → Type 0
SameBits n a =
    (vs : List Valuation) (ms : List Assignment) → RunsOn n (reset_state n) vs
    → RunsFromReset a (map (λ (v : Valuation). for_inputs n (signal_bits n (slice_index v))) vs) ms → AllZip (EqualBits n a) vs ms

-- the bits of all inputs in a cycle
abbrev pub given_bits : Netlist → Valuation → List Bool
given_bits n v = for_inputs n (signal_bits n (slice_index v))

-- What has to be shown of one cycle: if inputs and latches have the bits of the net's inputs and registers, then the circuit's
-- outputs have the bits of the net's outputs, and in the next cycle its latches those of the net's registers.
pub record Mirrors (n : Netlist) (a : Circuit) : Type 0 where
  pub resets : (s : ℕ) → reset_state n s ≡ 0
  pub count : latches a ≡ length (for_registers n (signal_bits n (reset_state n)))
  pub outputs : (state : ℕ → ℕ) (v : Valuation) (m : Assignment) → Fits n state v → Wired (base a) a.ands m → input_bits a m ≡ given_bits n v
      → latch_bits a m ≡ for_registers n (signal_bits n (slice_index v)) → values m a.outputs ≡ for_outputs n (signal_bits n (slice_index v))
  pub nexts : (state : ℕ → ℕ) (v : Valuation) (m : Assignment) → Fits n state v → Wired (base a) a.ands m → input_bits a m ≡ given_bits n v
      → latch_bits a m ≡ for_registers n (signal_bits n (slice_index v)) → next_bits a m ≡ for_registers n (signal_bits n (next_state n v))
