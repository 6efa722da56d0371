-- Names of signals and outputs.
use Rattle.std.specs.Prelude.{◌≡◌, ℕ, ◌+◌, List, [], ◌∷◌, Bool, true, false, not, ◌||◌, ◌&&◌, ◌==◌, nat_le, length, take, codes, decimal, Some, slice_get}
use Rattle.std.specs.List.{list_all, list_any}
use Rattle.std.specs.Str.{bytes_eq}
use Rattle.safl_word.specs.Limits.{net_name_max}
use Rattle.safl_word.specs.Tokens.{begins_name, in_name}
use Rattle.safl_net.specs.Netlist.{Netlist, Signal, Kind, Input, Reg, Wire}

-- the byte is a letter, `_`, a digit or `$`
abbrev pub is_part : ℕ → Bool
is_part b = in_name b || (b == 36)

-- the name is a simple identifier
abbrev pub is_identifier : List ℕ → Bool
is_identifier [] = false
is_identifier (b ∷ bs) = begins_name b && list_all is_part bs

-- the reserved words, which cannot be names
unfoldable pub is_reserved : List ℕ → Bool
is_reserved name =
    list_any (bytes_eq name) (codes "clk" ∷ codes "rst" ∷ codes "module" ∷ codes "endmodule" ∷ codes "input" ∷ codes "output" ∷ codes "reg"
    ∷ codes "wire" ∷ codes "assign" ∷ codes "always" ∷ codes "posedge" ∷ codes "if" ∷ codes "else" ∷ [])

-- the name is a simple identifier of at most 200 bytes, and no reserved word
unfoldable pub is_good : List ℕ → Bool
is_good name = is_identifier name && nat_le (length name) net_name_max && not (is_reserved name)

-- whether a signal has this name; whether a signal or an output has it
abbrev pub named_signal : List Signal → List ℕ → Bool
named_signal [] name = false
named_signal (g ∷ gs) name = bytes_eq name g.name || named_signal gs name

abbrev pub named_output : List (List ℕ × ℕ) → List ℕ → Bool
named_output [] name = false
named_output (o ∷ os) name = bytes_eq name o.0 || named_output os name

abbrev pub has_name : Netlist → List ℕ → Bool
has_name n name = named_signal n.signals name || named_output n.outputs name

-- whether a name begins with `n$`
abbrev pub is_second : List ℕ → Bool
is_second [] = false
is_second (b ∷ bs) = b == 36

abbrev pub is_temp : List ℕ → Bool
is_temp [] = false
is_temp (b ∷ bs) = (b == 110) && is_second bs

-- the name of a temporary: `n$` and the number in decimal
abbrev pub temp_name : ℕ → List ℕ
temp_name i = 110 ∷ 36 ∷ decimal i

-- the number of wires of a net
abbrev pub one_wire : Kind → ℕ
one_wire Input = 0
one_wire (Reg init next) = 0
one_wire (Wire cell) = 1

abbrev pub wires : List Signal → ℕ
wires [] = 0
wires (g ∷ gs) = one_wire g.kind + wires gs

-- A name that begins with `n$` is that of a wire, and the number in it is the number of wires before that wire.
pub record IsTidy (n : Netlist) : Type 0 where
  pub signals : (s : ℕ) (g : Signal) → slice_get n.signals s ≡ Some g → is_temp g.name ≡ true
      → (one_wire g.kind ≡ 1) × (g.name ≡ temp_name (wires (take s n.signals)))
  pub outputs : (i : ℕ) (o : List ℕ × ℕ) → slice_get n.outputs i ≡ Some o → is_temp o.0 ≡ false

-- ---- parts by name

abbrev pub is_start : ℕ → Bool
is_start b = begins_name b

abbrev pub are_parts : List ℕ → Bool
are_parts bs = list_all is_part bs
