-- The parts of a net's circuit make one.
use Rattle.safl_aig.proofs.Common.{All, Connected, IsNetlist, Lit, Pins, length-map, length_push, output_weight, summed, weight}
use Rattle.std.proofs.Common.{◌≡◌, ◌≢◌, ℕ, zero, suc, ◌+◌, ◌*◌, ◌%◌, ◌<◌, ◌≤◌, ◌^◌, List, [], ◌∷◌, ◌++◌, length, Bool, true, false, cond, not, ◌&&◌}
use Rattle.std.proofs.Common.{nat_le, Option, Some, None, slice_get, decimal, refl, sym, ap, ◌∙◌, subst, arith}
use Rattle.std.proofs.lemmas.List.Elements.{All-nil, All-cons, All-append, All-push, All-same, All-weaker}
use Rattle.std.proofs.lemmas.Fmt.{decimal_by_steps}
use Rattle.std.proofs.lemmas.Bool.{and_parts}
use Rattle.safl_net.specs.Netlist.{Netlist, Signal, AllSet, Kind, width_of, is_input, is_register}
use Rattle.safl_net.specs.Making.{kind_at, name_at, name_in}
use Rattle.safl_net.specs.Names.{is_start, is_part, are_parts, is_identifier, is_good, is_reserved}
use Rattle.safl_net.proofs.SignalKinds.{start_part}
use Rattle.safl_aiger.specs.declared.circuit.Names.{Names}
use Rattle.safl_aiger.specs.Circuits.{Circuit, circuit_of, names_of, variables, base, IsLine, AreBelow, IsCircuit}
use Rattle.safl_bits.specs.Gates.{Gates, IsGates, IsLiteral, count}
use Rattle.safl_aig.specs.Bits.{gathered, of_kind, for_inputs, for_registers, output_at}
use Rattle.safl_aig.specs.Tables.{lits_at, width_if, bits_before, input_count, latch_count}
use Rattle.safl_aig.specs.Places.{next_sig, next_lits, output_lits, bit_name, bit_names, signal_names, output_names, name_of_output}
use Rattle.safl_aig.proofs.Gathering.{gathered_long, summed_same}
use Rattle.safl_aig.proofs.Nets.{output_known, width_le}
use Rattle.safl_aig.proofs.Connecting.{first_light}
use Rattle.safl_aig.proofs.Mirroring.{next_fits, nexts_long}

-- ---- names

abbrev IsCode : ℕ → Type 0
IsCode c = c ≢ 10

part_code : (c : ℕ) → is_part c ≡ true → IsCode c
part_code c e = λ z. let t = ap is_part z in cc

parts_line : (cs : List ℕ) → are_parts cs ≡ true → IsLine cs
parts_line [] e = All-nil IsCode
parts_line (c ∷ cs) e = let p = and_parts (is_part c) (are_parts cs) e in All-cons IsCode c cs (part_code c p.0) (parts_line cs p.1)

identifier_line : (cs : List ℕ) → is_identifier cs ≡ true → IsLine cs
identifier_line [] e = absurd (cc)
identifier_line (c ∷ cs) e = let p = and_parts (is_start c) (are_parts cs) e in All-cons IsCode c cs (part_code c (start_part c p.0)) (parts_line cs p.1)

good_line : (cs : List ℕ) → is_good cs ≡ true → IsLine cs
unfolding is_good
good_line cs e = identifier_line cs (and_parts (is_identifier cs) (nat_le (length cs) 200) (and_parts (is_identifier cs && nat_le (length cs) 200) (not (is_reserved cs)) e).0).0

digit_code : (d : ℕ) → d < 10 → IsCode (48 + d)
digit_code d h = λ e. omega (arith, e)

decimal_line : (n : ℕ) → n < 2 ^ 64 → IsLine (decimal n)
decimal_line n h = decimal_by_steps (λ k ds. IsLine ds) (λ k l. All-cons IsCode (48 + k) [] (digit_code k l) (All-nil IsCode))
    (λ k ds l i. All-push IsCode ds (48 + k % 10) i (digit_code (k % 10) (omega arith))) n h

bit_line : (name : List ℕ) (b : ℕ) → IsLine name → b < 2 ^ 64 → IsLine (bit_name name b)
bit_line name b h l =
    All-append IsCode (name ++ 91 ∷ [] ++ decimal b) (93 ∷ [])
    (All-append IsCode (name ++ 91 ∷ []) (decimal b) (All-append IsCode name (91 ∷ []) h (All-cons IsCode 91 [] (λ e. omega (arith, e)) (All-nil IsCode))) (decimal_line b l))
    (All-cons IsCode 93 [] (λ e. omega (arith, e)) (All-nil IsCode))

bit_lines : (name : List ℕ) (k : ℕ) → IsLine name → k < 2 ^ 64 → All IsLine (bit_names name k)
bit_lines name zero h l = All-nil IsLine
bit_lines name (suc k) h l = All-push IsLine (bit_names name k) (bit_name name k) (bit_lines name k h (omega (arith, l))) (bit_line name k h (omega (arith, l)))

bit_names_long : (name : List ℕ) (k : ℕ) → length (bit_names name k) ≡ k
bit_names_long name zero = refl
bit_names_long name (suc k) = length_push (bit_names name k) (bit_name name k) ∙ (let e = bit_names_long name k in let z : length (bit_names name k) + 1 ≡ suc k = omega (arith, e) in z)

gathered_all : {A : Type 0} (P : A → Type 0) (f : ℕ → List A) (k : ℕ) → ((s : ℕ) → s < k → All P (f s)) → All P (gathered f k)
gathered_all P f zero h = All-nil P
gathered_all P f (suc k) h = All-append P (gathered f k) (f k) (gathered_all P f k (λ s l. h s (omega (arith, l)))) (h k (omega arith))

cond_all : {A : Type 0} (P : A → Type 0) (b : Bool) (xs : List A) → (b ≡ true → All P xs) → All P (cond b xs [])
cond_all P true xs h = h refl
cond_all P false xs h = All-nil P

signal_line : (n : Netlist) → IsNetlist n → (s : ℕ) → IsLine (name_at n s)
signal_line n made s = by (slice_get n.signals s) refl
  where
    by : (o : Option Signal) → slice_get n.signals s ≡ o → IsLine (name_in o)
    by None e = All-nil IsCode
    by (Some g) e = good_line g.name (made.signals s g e).good

output_line : (n : Netlist) → IsNetlist n → (i : ℕ) → IsLine (name_of_output (slice_get n.outputs i))
output_line n made i = by (slice_get n.outputs i) refl
  where
    by : (o : Option (List ℕ × ℕ)) → slice_get n.outputs i ≡ o → IsLine (name_of_output o)
    by None e = All-nil IsCode
    by (Some o) e = good_line o.0 (made.outputs i o e).0

width_small : (n : Netlist) → IsNetlist n → (s : ℕ) → width_of n s < 2 ^ 64
width_small n made s = let e = width_le n made s in omega (arith, e)

kind_lines : (n : Netlist) → IsNetlist n → (test : Kind → Bool) (k : ℕ) → All IsLine (gathered (of_kind test n (signal_names n)) k)
kind_lines n made test k = gathered_all IsLine (of_kind test n (signal_names n)) k
    (λ s l. cond_all IsLine (test (kind_at n s)) (signal_names n s) (λ t. bit_lines (name_at n s) (width_of n s) (signal_line n made s) (width_small n made s)))

long_cond : {A : Type 0} (b : Bool) (xs : List A) (w : ℕ) → length xs ≡ w → length (cond b xs []) ≡ cond b w 0
long_cond true xs w h = h
long_cond false xs w h = refl

kind_names_long : (n : Netlist) (test : Kind → Bool) (k : ℕ) → length (gathered (of_kind test n (signal_names n)) k) ≡ bits_before test n k
kind_names_long n test k = gathered_long (of_kind test n (signal_names n)) k ∙ summed_same _ (width_if test n) k
    (λ s l. long_cond (test (kind_at n s)) (signal_names n s) (width_of n s) (bit_names_long (name_at n s) (width_of n s)))

output_names_long : (n : Netlist) (k : ℕ) → length (gathered (output_names n) k) ≡ summed (output_weight n) k
output_names_long n k = gathered_long (output_names n) k ∙ summed_same _ (output_weight n) k (λ i l. bit_names_long (name_of_output (slice_get n.outputs i)) (width_of n (output_at n i)))

outputs_long : (n : Netlist) (g : Gates) (table : List Pins) → IsNetlist n → Connected n g table → length (output_lits n table) ≡ summed (output_weight n) (length n.outputs)
outputs_long n g table made done = gathered_long (λ i. lits_at table (output_at n i)) (length n.outputs) ∙ summed_same _ (output_weight n)
    (length n.outputs) (λ i l. (done.ready (output_at n i) (output_known n made i l)).long)

-- ---- the circuit

module _ (n : Netlist) (g : Gates) (table : List Pins) (nexts outputs : List Lit) (ands : List (Lit × Lit)) (names : Names) (made : IsNetlist n)
    (set : AllSet n) (light : weight n ≤ 1000000) (done : Connected n g table) (gates : IsGates g)
    (nexts_are : nexts ≡ next_lits n table) (outputs_are : outputs ≡ output_lits n table) (ands_are : ands ≡ g.ands)
    (inputs_named : names_of names.inputs.items ≡ for_inputs n (signal_names n))
    (latches_named : names_of names.latches.items ≡ for_registers n (signal_names n))
    (outputs_named : names_of names.outputs.items ≡ gathered (output_names n) (length n.outputs)) where
  abbrev made_of : Circuit
  made_of = circuit_of nexts outputs ands names

  pub inputs_count : length names.inputs.items ≡ input_count n
  inputs_count = sym (length-map names.inputs.items (λ x. x.bytes.items)) ∙ ap length inputs_named ∙ kind_names_long n is_input (length n.signals)

  latches_count : length nexts ≡ latch_count n
  latches_count = ap length nexts_are ∙ nexts_long n g table made set done

  base_is : base made_of ≡ g.first
  base_is = (λ i. 1 + inputs_count i + latches_count i) ∙ sym done.first

  count_is : 1 + variables made_of ≡ count g
  count_is = let a = base_is in let b = ap length ands_are in omega (arith, a, b)

  few : variables made_of < 2 ^ 30
  few = let a = count_is in let b = done.few in let c = first_light n in let d = done.first in omega (arith, a, b, c, d, light)

  small : (l : Lit) → IsLiteral g l → l.0 ≤ 2 * variables made_of + 1
  small l h = let a = count_is in omega (arith, a, h)

  table_fits : (s : ℕ) → s < length n.signals → All (IsLiteral g) (lits_at table s)
  table_fits s l = (done.ready s l).fits

  pub makes_circuit : IsCircuit made_of
  makes_circuit = record {
    few = few;
    nexts = All-weaker (IsLiteral g) (λ (l : Lit). l.0 ≤ 2 * variables made_of + 1) small nexts
        (All-same (IsLiteral g) nexts (next_lits n table) nexts_are (gathered_all (IsLiteral g) (of_kind is_register n (λ s. lits_at table (next_sig n s))) (length n.signals)
        (λ s l. cond_all (IsLiteral g) (is_register (kind_at n s)) (lits_at table (next_sig n s)) (λ t. table_fits (next_sig n s) (next_fits n made set s t).known))));
    outputs = All-weaker (IsLiteral g) (λ (l : Lit). l.0 ≤ 2 * variables made_of + 1) small outputs
        (All-same (IsLiteral g) outputs (output_lits n table) outputs_are
        (gathered_all (IsLiteral g) (λ i. lits_at table (output_at n i)) (length n.outputs) (λ i l. table_fits (output_at n i) (output_known n made i l))));
    output_count = (let a = ap length outputs_are ∙ outputs_long n g table made done in omega (arith, a, light));
    ands = subst (λ k. AreBelow k ands) (sym base_is) (subst (λ xs. AreBelow g.first xs) (sym ands_are) gates.below);
    input_names = length-map names.inputs.items (λ x. x.bytes.items);
    latch_names = ap length latches_named ∙ kind_names_long n is_register (length n.signals) ∙ sym latches_count;
    output_names = ap length outputs_named ∙ output_names_long n (length n.outputs) ∙ sym (outputs_long n g table made done) ∙ sym (ap length outputs_are);
    input_lines = All-same IsLine _ _ inputs_named (kind_lines n made is_input (length n.signals));
    latch_lines = All-same IsLine _ _ latches_named (kind_lines n made is_register (length n.signals));
    output_lines = All-same IsLine _ _ outputs_named (gathered_all IsLine (output_names n) (length n.outputs)
        (λ i l. bit_lines (name_of_output (slice_get n.outputs i)) (width_of n (output_at n i)) (output_line n made i) (width_small n made (output_at n i))));
  }
