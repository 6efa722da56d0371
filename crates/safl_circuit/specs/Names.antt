-- The names of registers and wires, and the words that a netlist shows under them.
use Rattle.std.specs.Prelude.{ℕ, List, [], ◌∷◌, ◌++◌, map, Bool, cond, ◌==◌, ◌&&◌, nat_lt, nat_le, codes}
use Rattle.safl_word.specs.Primitives.{bit_of}
use Rattle.std.specs.Fmt.{decimal}
use Rattle.safl_word.specs.Words.{Word, as_word}
use Rattle.safl_term.specs.Names.{Names}
use Rattle.safl_term.specs.Program.{Program}
use Rattle.safl_circuit.specs.Equations.{Registers, Inputs}
use Rattle.std.specs.Option.{option_map_or}
use Rattle.safl_net.specs.Netlist.{Netlist, place}
use Rattle.safl_net.specs.Valuations.{Valuation, read, read_next}
use Rattle.safl_net.specs.Runs.{start_number, input_numbers}

-- a prefix and a name: of a function, of a site, and of the register of a parameter
abbrev pub of_function : Names → List ℕ → ℕ → List ℕ
of_function D head f = head ++ D.name f

abbrev pub of_site : List ℕ → ℕ → List ℕ
of_site head k = head ++ decimal k

abbrev pub of_param : Names → ℕ → List ℕ → List ℕ
of_param D f p = codes "arg$" ++ (D.name f ++ (codes "$" ++ p))

-- a number of one bit as a truth value
abbrev pub one : ℕ → Bool
one w = w == 1

-- whether u is the number of a unit
abbrev pub is_unit : Program → ℕ → Bool
is_unit C u = nat_lt u C.functions && C.unit u == u

abbrev pub as_words : List ℕ → List ℕ → List Word
as_words (w ∷ ws) (b ∷ bs) = as_word w b ∷ as_words ws bs
as_words _ _ = []

abbrev pub numbers : List Word → List ℕ
numbers vs = map (λ v. v.bits) vs

-- the registers by their names, where `get` gives the number of each name. Numbers that are no unit or site have no registers
abbrev pub view : Program → Names → (List ℕ → ℕ) → Registers
view C D get = record {
  run = λ u. is_unit C u && one (get (of_function D (codes "run$") u));
  fin = λ u. is_unit C u && one (get (of_function D (codes "fin$") u));
  res = λ u. as_word (C.result u) (cond (is_unit C u) (get (of_function D (codes "res$") u)) 0);
  at = λ f. one (get (of_function D (codes "at$") f));
  arg = λ f. as_words (C.params f) (map (λ p. get (of_param D f p)) (D.params f));
  sent = λ k. nat_lt 0 k && nat_le k C.sites && one (get (of_site (codes "sent$") k));
  got = λ k. nat_lt 0 k && nat_le k C.sites && one (get (of_site (codes "got$") k));
  keep = λ k. as_word (C.result (C.callee k)) (get (of_site (codes "keep$") k));
}

-- the registers in a cycle
abbrev pub registers_now : Program → Names → Netlist → Valuation → Registers
registers_now C D n v = view C D (read n v)

-- the registers of a state, which has a number for each register
abbrev pub registers_in : Program → Names → Netlist → (ℕ → ℕ) → Registers
registers_in C D n state = view C D (λ name. option_map_or state (place n.signals name 0) 0)

-- the inputs of a cycle
abbrev pub input_now : Program → Netlist → Valuation → Inputs
input_now C n v = record { start = one (start_number n v); words = as_words (C.params C.main) (input_numbers n.signals v) }

-- ---- parts by name

abbrev pub bit : Bool → ℕ
bit b = bit_of b

abbrev pub is_site : Program → ℕ → Bool
is_site C k = nat_lt 0 k && nat_le k C.sites

-- the registers after a cycle
abbrev pub registers_next : Program → Names → Netlist → Valuation → Registers
registers_next C D n v = view C D (read_next n v)
