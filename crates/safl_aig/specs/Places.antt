-- Names and literals of inputs, latches and outputs.
use Rattle.std.specs.Prelude.{◌≡◌, ℕ, zero, suc, ◌<◌, ◌≤◌, List, [], ◌∷◌, ◌++◌, length, Option, Result, Ok, Err, codes, decimal, unwrap_or, slice_get}
use Rattle.std.specs.Option.{option_map_or}
use Rattle.safl_net.specs.Netlist.{Netlist, width_of}
use Rattle.safl_net.specs.Making.{kind_at, name_at, next_in}
use Rattle.safl_aiger.specs.declared.literal.Lit.{Lit}
use Rattle.safl_aiger.specs.Circuits.{Circuit}
use Rattle.safl_aig.specs.declared.table.Pins.{Pins}
use Rattle.safl_aig.specs.declared.conversion.BlastErr.{BlastErr}
use Rattle.safl_aig.specs.declared.conversion.BlastErr.TheVariants.{InitNotZero, TooLarge, NoMemory}
use Rattle.safl_aig.specs.Bits.{gathered, for_inputs, for_registers, for_outputs, output_at}
use Rattle.safl_aig.specs.Weights.{weight, most_weight, AllZero, IsLeastNonzero}
use Rattle.safl_aig.specs.Tables.{lits_at}

-- the next signal of a register
abbrev pub next_sig : Netlist → ℕ → ℕ
next_sig n s = unwrap_or (next_in (kind_at n s)) 0

-- the literals that latches take in the next cycle, and those of outputs
abbrev pub next_lits : Netlist → List Pins → List Lit
next_lits n table = for_registers n (λ s. lits_at table (next_sig n s))

abbrev pub output_lits : Netlist → List Pins → List Lit
output_lits n table = for_outputs n (lits_at table)

-- the names of the bits of a signal or output of this width: its name, and the number of the bit in brackets
abbrev pub bit_names : List ℕ → ℕ → List (List ℕ)
bit_names name zero = []
bit_names name (suc k) = bit_names name k ++ (name ++ codes "[" ++ decimal k ++ codes "]") ∷ []

abbrev pub signal_names : Netlist → ℕ → List (List ℕ)
signal_names n s = bit_names (name_at n s) (width_of n s)

abbrev pub output_names : Netlist → ℕ → List (List ℕ)
output_names n i = bit_names (option_map_or (λ (o : List ℕ × ℕ). o.0) (slice_get n.outputs i) []) (width_of n (output_at n i))

pub record HasNames (n : Netlist) (a : Circuit) : Type 0 where
  pub inputs : a.input_names ≡ for_inputs n (signal_names n)
  pub latches : a.latch_names ≡ for_registers n (signal_names n)
  pub outputs : a.output_names ≡ gathered (output_names n) (length n.outputs)

-- each answer of the conversion comes exactly if it has to, except that out of memory may always come
abbrev pub Answers : Netlist → Result Circuit BlastErr → Type 0
Answers n (Ok a) = AllZero n × (weight n ≤ most_weight)
Answers n (Err (InitNotZero s)) = IsLeastNonzero n s.0
Answers n (Err (TooLarge w)) = AllZero n × (most_weight < weight n) × (w ≡ weight n)
Answers n (Err NoMemory) = AllZero n × (weight n ≤ most_weight)

-- ---- parts by name

abbrev pub name_of_output : Option (List ℕ × ℕ) → List ℕ
name_of_output p = option_map_or (λ (o : List ℕ × ℕ). o.0) p []

abbrev pub bit_name : List ℕ → ℕ → List ℕ
bit_name name b = name ++ codes "[" ++ decimal b ++ codes "]"
