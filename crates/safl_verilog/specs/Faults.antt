-- The rules on files: the faults of a file, in the order in which they are reported. The first of them is the file's first fault.
use Rattle.std.specs.Prelude.{ℕ, ◌+◌, ◌^◌, List, [], ◌∷◌, ◌++◌, map, drop, length, Option, None, Some, Bool, true, false, not, ◌==◌, ◌&&◌, ◌||◌, nat_lt, nat_le, unwrap_or, if◌then◌else◌, codes, is_none}
use Rattle.std.specs.List.{flat_map, list_any}
use Rattle.std.specs.Option.{option_map_or}
use Rattle.std.specs.Str.{bytes_eq}
use Rattle.safl_word.specs.Limits.{width_max, digits_max, value_bound}
use Rattle.safl_word.specs.Numerals.{value}
use Rattle.safl_word.specs.Tokens.{base_of}
use Rattle.safl_word.specs.declared.primitive.Primitive.TheVariants as prims
use Rattle.safl_net.specs.declared.cell.Op.{Op}
use Rattle.safl_net.specs.declared.cell.Op.TheVariants as ops
use Rattle.safl_net.specs.Widths.{op_width}
use Rattle.safl_verilog.specs.declared.token.Sort.{Sort}
use Rattle.safl_verilog.specs.declared.token.Sort.TheVariants as sorts
use Rattle.safl_verilog.specs.declared.fault.VRule.{VRule}
use Rattle.safl_verilog.specs.declared.fault.VRule.TheVariants as rules
use Rattle.safl_verilog.specs.declared.fault.VFault.{VFault}
use Rattle.safl_verilog.specs.Files.{Spot, RightSide, Literal, Plain, Inverted, Binary, Choice, Joined, Slice, Declaration, Statement, Assign, Always, File}

abbrev pub at : VRule → ℕ → VFault
at rule place = record { rule = rule; place = place; first = 0; second = 0 }

abbrev pub where_not : Bool → VFault → List VFault
where_not true f = []
where_not false f = f ∷ []

-- ---- numbers

-- at most this many digits, of a number below the bound
abbrev pub is_short : ℕ → List ℕ → Bool
is_short base w = nat_le (length w) digits_max && nat_lt (value base w) value_bound

-- the digits of a sized number before the `'`; and what follows it
abbrev pub before_quote : List ℕ → List ℕ
before_quote [] = []
before_quote (c ∷ w) = if c == 39 then [] else c ∷ before_quote w

abbrev pub behind_quote : List ℕ → List ℕ
behind_quote [] = []
behind_quote (c ∷ w) = if c == 39 then w else behind_quote w

abbrev pub base_at : List ℕ → ℕ
base_at [] = 10
base_at (c ∷ w) = unwrap_or (base_of c) 10

-- the width and the value of a sized number
abbrev pub literal_width : List ℕ → ℕ
literal_width w = value 10 (before_quote w)

abbrev pub literal_value : List ℕ → ℕ
literal_value w = value (base_at (behind_quote w)) (drop 1 (behind_quote w))

-- the width is from 1 to the greatest, and the value fits it
abbrev pub is_literal : List ℕ → Bool
is_literal w =
    is_short 10 (before_quote w) && is_short (base_at (behind_quote w)) (drop 1 (behind_quote w))
    && (nat_le 1 (literal_width w) && nat_le (literal_width w) width_max && nat_lt (literal_value w) (2 ^ literal_width w))

abbrev pub number_faults : Spot → List VFault
number_faults n = where_not (is_short 10 n.bytes) (at rules.V06 n.place)

abbrev pub literal_faults : Spot → List VFault
literal_faults l = where_not (is_literal l.bytes) (at rules.V06 l.place)

-- a range goes from n down to 0, and n is below the greatest width
abbrev pub range_faults : Option (Spot × Spot) → List VFault
range_faults None = []
range_faults (Some r) =
    number_faults r.0 ++ where_not (nat_lt (value 10 r.0.bytes) width_max && (value 10 r.1.bytes == 0)) (at rules.V05 r.0.place) ++ number_faults r.1

abbrev pub expression_number_faults : RightSide → List VFault
expression_number_faults (Literal l) = literal_faults l
expression_number_faults (Slice a high low) = number_faults high ++ number_faults low
expression_number_faults _ = []

abbrev pub stated_number_faults : Statement → List VFault
stated_number_faults (Assign x e) = expression_number_faults e
stated_number_faults (Always clock reset target initial second source) = literal_faults initial

-- ---- names

abbrev pub among : List Spot → List ℕ → Bool
among xs name = list_any (λ (x : Spot). bytes_eq x.bytes name) xs

-- V03 at each name of the list that is also among those before it
abbrev pub repeat_faults : List Spot → List Spot → List VFault
repeat_faults before [] = []
repeat_faults before (x ∷ xs) = where_not (not (among before x.bytes)) (at rules.V03 x.place) ++ repeat_faults (before ++ x ∷ []) xs

-- ---- ports

-- the declaration of a name, if there is one
abbrev pub find : List Declaration → List ℕ → Option Declaration
find [] name = None
find (d ∷ ds) name = if bytes_eq d.name.bytes name then Some d else find ds name

-- whether a declaration is of this sort
abbrev pub is_a : Sort → Sort → Bool
is_a sorts.Input sorts.Input = true
is_a sorts.Output sorts.Output = true
is_a sorts.Reg sorts.Reg = true
is_a sorts.Wire sorts.Wire = true
is_a _ _ = false

abbrev pub is_port : Sort → Bool
is_port s = is_a sorts.Input s || is_a sorts.Output s

-- whether a name is declared, and passes the test
abbrev pub passes : (Declaration → Bool) → Option Declaration → Bool
passes p o = option_map_or p o false

-- the width of a range. Without a range it is 1
abbrev pub range_width : Option (Spot × Spot) → ℕ
range_width o = option_map_or (λ (r : Spot × Spot). value 10 r.0.bytes + 1) o 1

-- the width of a name, or 0 if it is not declared
abbrev pub width_declared : List Declaration → List ℕ → ℕ
width_declared ds name = option_map_or (λ (d : Declaration). range_width d.range) (find ds name) 0

-- the ports of each file: `clk`, `rst` and `start` are inputs of width 1, `done` is an output of width 1, `result` is an output
abbrev pub has_bit : List Declaration → (Sort → Bool) → List ℕ → Bool
has_bit ds p name = passes (λ d. p d.sort && (range_width d.range == 1)) (find ds name)

abbrev pub has_ports : List Declaration → Bool
has_ports ds =
    has_bit ds (is_a sorts.Input) (codes "clk") && has_bit ds (is_a sorts.Input) (codes "rst") && has_bit ds (is_a sorts.Input) (codes "start")
    && has_bit ds (is_a sorts.Output) (codes "done") && passes (λ d. is_a sorts.Output d.sort) (find ds (codes "result"))

-- the names of the header are those of the ports
abbrev pub all_port_faults : File → List VFault
all_port_faults f =
    flat_map (λ (x : Spot). where_not (passes (λ d. is_port d.sort) (find f.declarations x.bytes)) (at rules.V10 x.place)) f.header
    ++ flat_map (λ (d : Declaration). where_not (not (is_port d.sort) || among f.header d.name.bytes) (at rules.V10 d.name.place)) f.declarations
    ++ where_not (has_ports f.declarations) (at rules.V10 0)

-- ---- statements

-- an input other than the clock and the reset
abbrev pub is_data : Declaration → Bool
is_data d = is_a sorts.Input d.sort && not (bytes_eq d.name.bytes (codes "clk")) && not (bytes_eq d.name.bytes (codes "rst"))

-- an input other than the clock and the reset, a register or a wire
abbrev pub is_signal : Declaration → Bool
is_signal d = is_data d || is_a sorts.Reg d.sort || is_a sorts.Wire d.sort

abbrev pub is_target : Declaration → Bool
is_target d = is_a sorts.Wire d.sort || is_a sorts.Output d.sort

abbrev pub unfit_faults : List Declaration → Spot → List VFault
unfit_faults ds x = where_not (passes is_signal (find ds x.bytes)) (at rules.V04 x.place)

-- the operation of an expression, and the names that are its operands
abbrev pub parts : RightSide → Op × List Spot
parts (Literal l) = (ops.Const (record { width = literal_width l.bytes; bits = literal_value l.bytes }), [])
parts (Plain a) = (ops.Copy, a ∷ [])
parts (Inverted a) = (ops.Apply prims.Not, a ∷ [])
parts (Binary p a b) = (ops.Apply p, a ∷ b ∷ [])
parts (Choice a b c) = (ops.Mux, a ∷ b ∷ c ∷ [])
parts (Joined a b) = (ops.Apply prims.Cat, a ∷ b ∷ [])
parts (Slice a high low) = (ops.Apply (prims.Bits (value 10 high.bytes) (value 10 low.bytes)), a ∷ [])

abbrev pub is_plain : RightSide → Bool
is_plain (Plain a) = true
is_plain _ = false

-- the width of an expression, or 0 if its operands do not fit
abbrev pub expression_width : List Declaration → RightSide → ℕ
expression_width ds e = unwrap_or (op_width (parts e).0 (map (λ (a : Spot). width_declared ds a.bytes) (parts e).1)) 0

-- what the first assignment to a name assigns, if there is one
abbrev pub assigned : List Statement → List ℕ → Option RightSide
assigned [] name = None
assigned (Assign x e ∷ ss) name = if bytes_eq x.bytes name then Some e else assigned ss name
assigned (Always clock reset target initial second source ∷ ss) name = assigned ss name

-- the literal and the last name of the first update of a register, if there is one
abbrev pub updated : List Statement → List ℕ → Option (Spot × Spot)
updated [] name = None
updated (Assign x e ∷ ss) name = updated ss name
updated (Always clock reset target initial second source ∷ ss) name = if bytes_eq target.bytes name then Some (initial, source) else updated ss name

abbrev pub width_faults : ℕ → ℕ → ℕ → List VFault
width_faults place wanted found = where_not (wanted == found) (record { rule = rules.V05; place = place; first = wanted; second = found })

-- An assignment sets a wire or an output, once, and an output to a name. An update sets a register, by clock and reset, once.
abbrev pub statement_faults : List Declaration → List Statement → Statement → List VFault
statement_faults ds before (Assign x e) =
    where_not (passes is_target (find ds x.bytes)) (at rules.V04 x.place)
    ++ where_not (is_none (assigned before x.bytes) && (not (passes (λ d. is_a sorts.Output d.sort) (find ds x.bytes)) || is_plain e)) (at rules.V07 x.place)
    ++ flat_map (unfit_faults ds) (parts e).1
    ++ width_faults x.place (width_declared ds x.bytes) (expression_width ds e)
statement_faults ds before (Always clock reset target initial second source) =
    where_not (bytes_eq clock.bytes (codes "clk")) (at rules.V08 clock.place)
    ++ where_not (bytes_eq reset.bytes (codes "rst")) (at rules.V08 reset.place)
    ++ where_not (passes (λ d. is_a sorts.Reg d.sort) (find ds target.bytes)) (at rules.V08 target.place)
    ++ where_not (bytes_eq second.bytes target.bytes) (at rules.V08 second.place)
    ++ where_not (is_none (updated before target.bytes)) (at rules.V08 target.place)
    ++ unfit_faults ds source
    ++ width_faults initial.place (width_declared ds target.bytes) (literal_width initial.bytes)
    ++ width_faults source.place (width_declared ds target.bytes) (width_declared ds source.bytes)

-- the faults of statements in the order of the text, each with the statements before it
abbrev pub all_statement_faults : List Declaration → List Statement → List Statement → List VFault
all_statement_faults ds before [] = []
all_statement_faults ds before (s ∷ ss) = statement_faults ds before s ++ all_statement_faults ds (before ++ s ∷ []) ss

-- all faults of a file: of numbers, names, ports, statements, and of wires, outputs and registers that get nothing
unfoldable pub faults : File → List VFault
faults f =
    (flat_map (λ (d : Declaration). range_faults d.range) f.declarations ++ flat_map stated_number_faults f.statements)
    ++ (repeat_faults [] f.header ++ repeat_faults [] (map (λ (d : Declaration). d.name) f.declarations))
    ++ all_port_faults f ++ all_statement_faults f.declarations [] f.statements
    ++ flat_map (λ (d : Declaration).
    where_not (not (is_target d) || not (is_none (assigned f.statements d.name.bytes))) (at rules.V07 d.name.place)
    ++ where_not (not (is_a sorts.Reg d.sort) || not (is_none (updated f.statements d.name.bytes))) (at rules.V08 d.name.place)) f.declarations

-- the faults of an assignment, and of an update
abbrev pub assign_faults : List Declaration → List Statement → Spot → RightSide → List VFault
assign_faults ds before x e = statement_faults ds before (Assign x e)

abbrev pub always_faults : List Declaration → List Statement → (clock reset target initial second source : Spot) → List VFault
always_faults ds before clock reset target initial second source = statement_faults ds before (Always clock reset target initial second source)

-- ---- parts by name

abbrev pub operation : RightSide → Op
operation e = (parts e).0

abbrev pub operands : RightSide → List Spot
operands e = (parts e).1

abbrev pub is_input : Sort → Bool
is_input s = is_a sorts.Input s

abbrev pub is_output : Sort → Bool
is_output s = is_a sorts.Output s

abbrev pub is_reg : Sort → Bool
is_reg s = is_a sorts.Reg s

abbrev pub is_wire : Sort → Bool
is_wire s = is_a sorts.Wire s

abbrev pub is_word : ℕ → ℕ → Bool
is_word width bits = nat_le 1 width && nat_le width width_max && nat_lt bits (2 ^ width)

abbrev pub is_range : Spot → Spot → Bool
is_range high low = nat_lt (value 10 high.bytes) width_max && (value 10 low.bytes == 0)

abbrev pub all_number_faults : File → List VFault
all_number_faults f = flat_map (λ (d : Declaration). range_faults d.range) f.declarations ++ flat_map stated_number_faults f.statements

abbrev pub all_repeat_faults : File → List VFault
all_repeat_faults f = repeat_faults [] f.header ++ repeat_faults [] (map (λ (d : Declaration). d.name) f.declarations)

abbrev pub width_in : Option Declaration → ℕ
width_in o = option_map_or (λ (d : Declaration). range_width d.range) o 0

abbrev pub is_clock : List ℕ → Bool
is_clock name = bytes_eq name (codes "clk")

abbrev pub is_reset : List ℕ → Bool
is_reset name = bytes_eq name (codes "rst")

abbrev pub may_be_assigned : List Statement → Option Declaration → List ℕ → RightSide → Bool
may_be_assigned before d name e = is_none (assigned before name) && (not (passes (λ d. is_output d.sort) d) || is_plain e)

abbrev pub missing_faults : List Statement → Declaration → List VFault
missing_faults ss d =
    where_not (not (is_target d) || not (is_none (assigned ss d.name.bytes))) (at rules.V07 d.name.place)
    ++ where_not (not (is_a sorts.Reg d.sort) || not (is_none (updated ss d.name.bytes))) (at rules.V08 d.name.place)
