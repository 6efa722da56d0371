-- The bits of signals, in the order of the net.
use Rattle.std.specs.Prelude.{ℕ, zero, suc, List, [], ◌++◌, length, Bool, cond, Option, slice_get}
use Rattle.std.specs.Option.{option_map_or}
use Rattle.safl_net.specs.Netlist.{Netlist, Kind, width_of, is_input, is_register}
use Rattle.safl_net.specs.Making.{kind_at}
use Rattle.safl_aiger.specs.Literals.{bits_of}

-- the lists of the numbers below n, joined in order
abbrev pub gathered : {A : Type 0} → (ℕ → List A) → ℕ → List A
gathered f zero = []
gathered f (suc k) = gathered f k ++ f k

-- the list for a signal of a kind, empty for signals of other kinds
abbrev pub of_kind : {A : Type 0} → (Kind → Bool) → Netlist → (ℕ → List A) → ℕ → List A
of_kind test n f s = cond (test (kind_at n s)) (f s) []

abbrev pub for_inputs : {A : Type 0} → Netlist → (ℕ → List A) → List A
for_inputs n f = gathered (of_kind is_input n f) (length n.signals)

abbrev pub for_registers : {A : Type 0} → Netlist → (ℕ → List A) → List A
for_registers n f = gathered (of_kind is_register n f) (length n.signals)

-- the signal that an output shows
abbrev pub output_at : Netlist → ℕ → ℕ
output_at n i = option_map_or (λ (o : List ℕ × ℕ). o.1) (slice_get n.outputs i) 0

abbrev pub for_outputs : {A : Type 0} → Netlist → (ℕ → List A) → List A
for_outputs n f = gathered (λ i. f (output_at n i)) (length n.outputs)

-- the bits of a signal, given the numbers of all signals
abbrev pub signal_bits : Netlist → (ℕ → ℕ) → ℕ → List Bool
signal_bits n f s = bits_of (width_of n s) (f s)

-- ---- parts by name

abbrev pub shown_in : Option (List ℕ × ℕ) → ℕ
shown_in p = option_map_or (λ (o : List ℕ × ℕ). o.1) p 0
