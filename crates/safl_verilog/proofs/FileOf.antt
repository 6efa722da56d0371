-- The file that is written of a netlist, and its text.
use Rattle.safl_verilog.proofs.Common.{Op, Primitive, Sort, append-nil, flat_map, flat_map-append}
use Rattle.std.proofs.Common.{◌≡◌, ℕ, ◌-◌, List, [], ◌∷◌, ◌++◌, map, Bool, true, false, cond, Some, None, refl, sym, ap, ◌∙◌, append_assoc}
use Rattle.std.specs.Prelude.{codes, decimal, filter}
use Rattle.safl_word.specs.declared.primitive.Primitive.TheVariants as prims
use Rattle.safl_net.specs.declared.cell.Op.TheVariants as ops
use Rattle.safl_net.specs.Netlist.{Netlist, Signal, Kind, Input, Reg, Wire, Cell, width_of}
use Rattle.safl_net.specs.CellTexts
use Rattle.safl_net.specs.Written
use Rattle.safl_net.specs.Making.{name_at as name_of}
use Rattle.safl_net.specs.Written.{literal, declaration, operation, names_of}
use Rattle.safl_net.specs.WrittenParts.{port, input_port, output_port, input_declaration, output_declaration}
use Rattle.safl_net.specs.Written.{assignment, update}
use Rattle.safl_net.specs.WrittenParts.{register_declaration, wire_declaration, wire_assignment, output_assignment, register_update}
use Rattle.safl_net.specs.Written.{header, declarations, statements, written}
use Rattle.safl_verilog.specs.declared.token.Sort.TheVariants as sorts
use Rattle.safl_verilog.specs.declared.token.Symbol.TheVariants as symbols
use Rattle.safl_verilog.specs.Tokens.{VerilogPiece, text_of_all, symbol_text}
use Rattle.safl_verilog.specs.Files.{Spot, RightSide, Literal, Plain, Inverted, Binary, Choice, Joined, Slice, Declaration, Statement, Assign, Always, File}
use Rattle.safl_verilog.proofs.Printed.{sy, symbol_of, line_end, declaration_pieces, expression_pieces, statement_pieces, port_pieces, spot_of, header_end, body_pieces, last_pieces, file_pieces}
use Rattle.safl_verilog.proofs.PrintedStands.{text_append}

abbrev pub named_spot : Netlist → ℕ → Spot
named_spot n s = spot_of (name_of n s)

-- what stands where an operation doesn't have its operands
abbrev pub nowhere : RightSide
nowhere = Plain (spot_of [])

abbrev pub on_one : (Spot → RightSide) → List Spot → RightSide
on_one f [] = nowhere
on_one f (a ∷ []) = f a
on_one f (a ∷ (b ∷ xs)) = nowhere

abbrev pub on_two : (Spot → Spot → RightSide) → List Spot → RightSide
on_two f [] = nowhere
on_two f (a ∷ []) = nowhere
on_two f (a ∷ (b ∷ [])) = f a b
on_two f (a ∷ (b ∷ (c ∷ xs))) = nowhere

abbrev pub on_three : (Spot → Spot → Spot → RightSide) → List Spot → RightSide
on_three f [] = nowhere
on_three f (a ∷ []) = nowhere
on_three f (a ∷ (b ∷ [])) = nowhere
on_three f (a ∷ (b ∷ (c ∷ []))) = f a b c
on_three f (a ∷ (b ∷ (c ∷ (d ∷ xs)))) = nowhere

abbrev pub applied : Primitive → List Spot → RightSide
applied prims.Not xs = on_one Inverted xs
applied prims.Cat xs = on_two Joined xs
applied (prims.Bits high low) xs = on_one (λ a. Slice a (spot_of (decimal high)) (spot_of (decimal low))) xs
applied (prims.Ext width) xs = nowhere
applied p xs = on_two (Binary p) xs

abbrev pub expressed : Op → List Spot → RightSide
expressed (ops.Const w) xs = Literal (spot_of (literal w.width w.bits))
expressed ops.Copy xs = on_one Plain xs
expressed ops.Mux xs = on_three Choice xs
expressed (ops.Apply p) xs = applied p xs

abbrev pub expression_of : Netlist → Cell → RightSide
expression_of n c = expressed c.op (map (named_spot n) c.operands)

abbrev pub declare : Sort → ℕ → List ℕ → Declaration
declare s width name = record { sort = s; range = Some (spot_of (decimal (width - 1)), spot_of (48 ∷ [])); name = spot_of name }

abbrev pub declare_signal : Sort → Signal → Declaration
declare_signal s g = declare s g.width g.name

abbrev pub declare_output : Netlist → List ℕ × ℕ → Declaration
declare_output n o = declare sorts.Output (width_of n o.1) o.0

abbrev pub signal_spot : Signal → Spot
signal_spot g = spot_of g.name

abbrev pub output_spot : List ℕ × ℕ → Spot
output_spot o = spot_of o.0

abbrev pub clock : Spot
clock = spot_of (codes "clk")

abbrev pub reset : Spot
reset = spot_of (codes "rst")

abbrev pub declare_bit : Spot → Declaration
declare_bit x = record { sort = sorts.Input; range = None; name = x }

abbrev pub driver : Netlist → Kind → RightSide
driver n Input = nowhere
driver n (Reg init next) = nowhere
driver n (Wire None) = nowhere
driver n (Wire (Some c)) = expression_of n c

abbrev pub assign_signal : Netlist → Signal → Statement
assign_signal n g = Assign (signal_spot g) (driver n g.kind)

abbrev pub assign_output : Netlist → List ℕ × ℕ → Statement
assign_output n o = Assign (output_spot o) (Plain (named_spot n o.1))

abbrev pub updated_by : Netlist → Signal → Kind → Statement
updated_by n g Input = Assign (signal_spot g) nowhere
updated_by n g (Reg init None) = Assign (signal_spot g) nowhere
updated_by n g (Reg init (Some m)) = Always clock reset (signal_spot g) (spot_of (literal g.width init)) (signal_spot g) (named_spot n m)
updated_by n g (Wire cell) = Assign (signal_spot g) nowhere

abbrev pub update_signal : Netlist → Signal → Statement
update_signal n g = updated_by n g g.kind

abbrev pub ports : Netlist → List Signal → List Spot
ports n is = map signal_spot is ++ map output_spot n.outputs

abbrev pub declarations_of : Netlist → (is rs ws : List Signal) → List Declaration
declarations_of n is rs ws =
    declare_bit clock ∷ declare_bit reset ∷ (map (declare_signal sorts.Input) is ++ (map (declare_output n) n.outputs ++ (map (declare_signal sorts.Reg) rs ++ map (declare_signal sorts.Wire) ws)))

abbrev pub statements_of : Netlist → (rs ws : List Signal) → List Statement
statements_of n rs ws = map (assign_signal n) ws ++ (map (assign_output n) n.outputs ++ map (update_signal n) rs)

abbrev pub file_of : Netlist → (is rs ws : List Signal) → File
file_of n is rs ws = record { header = clock ∷ reset ∷ ports n is; declarations = declarations_of n is rs ws; statements = statements_of n rs ws }

-- ---- the signals of each kind, in the net's own order

abbrev pub input_kind : Kind → Bool
input_kind Input = true
input_kind (Reg init next) = false
input_kind (Wire cell) = false

abbrev pub register_kind : Kind → Bool
register_kind Input = false
register_kind (Reg init next) = true
register_kind (Wire cell) = false

abbrev pub wire_kind : Kind → Bool
wire_kind Input = false
wire_kind (Reg init next) = false
wire_kind (Wire cell) = true

-- a register that has a next signal, and a wire that has a cell
abbrev pub updated_kind : Kind → Bool
updated_kind Input = false
updated_kind (Reg init None) = false
updated_kind (Reg init (Some m)) = true
updated_kind (Wire cell) = false

abbrev pub assigned_kind : Kind → Bool
assigned_kind Input = false
assigned_kind (Reg init next) = false
assigned_kind (Wire None) = false
assigned_kind (Wire (Some c)) = true

abbrev pub of_kind : (Kind → Bool) → Netlist → List Signal
of_kind p n = filter (λ (g : Signal). p g.kind) n.signals

-- what is written of a netlist
abbrev pub written_ports : Netlist → List Spot
written_ports n = ports n (of_kind input_kind n)

abbrev pub written_declarations : Netlist → List Declaration
written_declarations n = declarations_of n (of_kind input_kind n) (of_kind register_kind n) (of_kind wire_kind n)

abbrev pub written_statements : Netlist → List Statement
written_statements n = statements_of n (of_kind updated_kind n) (of_kind assigned_kind n)

-- ---- texts of items

texts : {X Y : Type 0} (item : Y → List VerilogPiece) (b : X → Y) (T : X → List ℕ) → ((x : X) → text_of_all (item (b x)) ≡ T x) → (xs : List X) → text_of_all (flat_map item (map b xs)) ≡ flat_map T xs
texts item b T h [] = refl
texts item b T h (x ∷ xs) = text_append (item (b x)) (flat_map item (map b xs)) ∙ ap (λ (l : List ℕ). l ++ text_of_all (flat_map item (map b xs)))
    (h x) ∙ ap (λ (l : List ℕ). T x ++ l) (texts item b T h xs)

-- items of the signals that pass a test, where nothing is written of the others
texts_where : {Y : Type 0} (item : Y → List VerilogPiece) (b : Signal → Y) (T : Signal → List ℕ) (p : Kind → Bool) →
    ((g : Signal) → p g.kind ≡ true → text_of_all (item (b g)) ≡ T g) → ((g : Signal) → p g.kind ≡ false → T g ≡ []) → (gs : List Signal) →
    text_of_all (flat_map item (map b (filter (λ (g : Signal). p g.kind) gs))) ≡ flat_map T gs
texts_where item b T p holds fails [] = refl
texts_where item b T p holds fails (g ∷ gs) = go (p g.kind) refl (filter (λ (g : Signal). p g.kind) gs) (texts_where item b T p holds fails gs)
  where
    go : (c : Bool) → p g.kind ≡ c → (hs : List Signal) → text_of_all (flat_map item (map b hs)) ≡ flat_map T gs → text_of_all (flat_map item (map b (cond c (g ∷ hs) hs))) ≡ T g ++ flat_map T gs
    go true e hs more = text_append (item (b g)) (flat_map item (map b hs)) ∙ ap (λ (l : List ℕ). l ++ text_of_all (flat_map item (map b hs))) (holds g e) ∙ ap (λ (l : List ℕ). T g ++ l) more
    go false e hs more = more ∙ ap (λ (l : List ℕ). l ++ flat_map T gs) (sym (fails g e))

port_text : (name : List ℕ) → text_of_all (port_pieces (spot_of name)) ≡ port name
port_text name = ap (λ (l : List ℕ). 44 ∷ 32 ∷ l) (append-nil name)

input_text : (width : ℕ) (name : List ℕ) → text_of_all (declaration_pieces (declare sorts.Input width name)) ≡ declaration (codes "input") width name
input_text width name = simp append_assoc

output_text : (width : ℕ) (name : List ℕ) → text_of_all (declaration_pieces (declare sorts.Output width name)) ≡ declaration (codes "output") width name
output_text width name = simp append_assoc

register_text : (width : ℕ) (name : List ℕ) → text_of_all (declaration_pieces (declare sorts.Reg width name)) ≡ declaration (codes "reg") width name
register_text width name = simp append_assoc

wire_text : (width : ℕ) (name : List ℕ) → text_of_all (declaration_pieces (declare sorts.Wire width name)) ≡ declaration (codes "wire") width name
wire_text width name = simp append_assoc

assign_text : (x : Spot) (e : RightSide) (source : List ℕ) → text_of_all (expression_pieces e) ≡ source → text_of_all (statement_pieces (Assign x e)) ≡ assignment x.bytes source
assign_text x e source h =
    ap (λ (l : List ℕ). codes "  assign " ++ (x.bytes ++ (codes " = " ++ l)))
    (text_append (expression_pieces e) (sy symbols.Semicolon ∷ line_end ∷ []) ∙ ap (λ (l : List ℕ). l ++ codes ";\n") h) ∙ simp append_assoc

update_text : (name initial next : List ℕ) → text_of_all (statement_pieces (Always clock reset (spot_of name) (spot_of initial) (spot_of name) (spot_of next))) ≡ update name initial next
update_text name initial next = simp append_assoc

-- ---- texts of cells

one_text : (n : Netlist) (f : Spot → RightSide) (t : List (List ℕ) → List ℕ) → t [] ≡ [] →
    ((a b : List ℕ) (xs : List (List ℕ)) → t (a ∷ b ∷ xs) ≡ []) → ((a : Spot) → text_of_all (expression_pieces (f a)) ≡ t (a.bytes ∷ [])) →
    (xs : List ℕ) → text_of_all (expression_pieces (on_one f (map (named_spot n) xs))) ≡ t (names_of n xs)
one_text n f t none more h [] = sym none
one_text n f t none more h (a ∷ []) = h (named_spot n a)
one_text n f t none more h (a ∷ (b ∷ xs)) = sym (more (name_of n a) (name_of n b) (names_of n xs))

two_text : (n : Netlist) (f : Spot → Spot → RightSide) (t : List (List ℕ) → List ℕ) → t [] ≡ [] → ((a : List ℕ) → t (a ∷ []) ≡ []) →
    ((a b c : List ℕ) (xs : List (List ℕ)) → t (a ∷ b ∷ c ∷ xs) ≡ []) →
    ((a b : Spot) → text_of_all (expression_pieces (f a b)) ≡ t (a.bytes ∷ b.bytes ∷ [])) → (xs : List ℕ) → text_of_all
    (expression_pieces (on_two f (map (named_spot n) xs))) ≡ t (names_of n xs)
two_text n f t none one more h [] = sym none
two_text n f t none one more h (a ∷ []) = sym (one (name_of n a))
two_text n f t none one more h (a ∷ (b ∷ [])) = h (named_spot n a) (named_spot n b)
two_text n f t none one more h (a ∷ (b ∷ (c ∷ xs))) = sym (more (name_of n a) (name_of n b) (name_of n c) (names_of n xs))

binary_text : (n : Netlist) (p : Primitive) (sign : List ℕ) → symbol_text (symbol_of p) ≡ sign → (xs : List ℕ) → text_of_all
    (expression_pieces (on_two (Binary p) (map (named_spot n) xs))) ≡ CellTexts.two_operands sign (names_of n xs)
binary_text n p sign e xs =
    two_text n (Binary p) (CellTexts.two_operands sign) refl (λ a. refl) (λ a b c xs. refl)
    (λ a b. ap (λ (l : List ℕ). a.bytes ++ (32 ∷ (l ++ (32 ∷ (b.bytes ++ []))))) e ∙ simp (append_assoc, append-nil)) xs

applied_text : (n : Netlist) (p : Primitive) (xs : List ℕ) → text_of_all (expression_pieces (applied p (map (named_spot n) xs))) ≡ Written.operation_text p (names_of n xs)
applied_text n prims.Not xs = one_text n Inverted CellTexts.inverted refl (λ a b xs. refl) (λ a. simp append-nil) xs
applied_text n prims.Cat xs = two_text n Joined CellTexts.joined_texts refl (λ a. refl) (λ a b c xs. refl) (λ a b. simp append_assoc) xs
applied_text n (prims.Bits high low) xs = one_text n (λ a. Slice a (spot_of (decimal high)) (spot_of (decimal low))) (CellTexts.sliced high low) refl (λ a b xs. refl) (λ a. simp append_assoc) xs
applied_text n (prims.Ext width) xs = refl
applied_text n prims.Add xs = binary_text n prims.Add (codes "+") refl xs
applied_text n prims.Sub xs = binary_text n prims.Sub (codes "-") refl xs
applied_text n prims.Mul xs = binary_text n prims.Mul (codes "*") refl xs
applied_text n prims.And xs = binary_text n prims.And (codes "&") refl xs
applied_text n prims.Or xs = binary_text n prims.Or (codes "|") refl xs
applied_text n prims.Xor xs = binary_text n prims.Xor (codes "^") refl xs
applied_text n prims.Eq xs = binary_text n prims.Eq (codes "==") refl xs
applied_text n prims.Ne xs = binary_text n prims.Ne (codes "!=") refl xs
applied_text n prims.Lt xs = binary_text n prims.Lt (codes "<") refl xs
applied_text n prims.Le xs = binary_text n prims.Le (codes "<=") refl xs
applied_text n prims.Gt xs = binary_text n prims.Gt (codes ">") refl xs
applied_text n prims.Ge xs = binary_text n prims.Ge (codes ">=") refl xs
applied_text n prims.Shl xs = binary_text n prims.Shl (codes "<<") refl xs
applied_text n prims.Shr xs = binary_text n prims.Shr (codes ">>") refl xs

choice_text : (n : Netlist) (xs : List ℕ) → text_of_all (expression_pieces (on_three Choice (map (named_spot n) xs))) ≡ CellTexts.selected (names_of n xs)
choice_text n [] = refl
choice_text n (a ∷ []) = refl
choice_text n (a ∷ (b ∷ [])) = refl
choice_text n (a ∷ (b ∷ (c ∷ []))) = simp (append_assoc, append-nil)
choice_text n (a ∷ (b ∷ (c ∷ (d ∷ xs)))) = refl

cell_text : (n : Netlist) (o : Op) (xs : List ℕ) → text_of_all (expression_pieces (expressed o (map (named_spot n) xs))) ≡ operation o (names_of n xs)
cell_text n (ops.Const w) xs = append-nil (literal w.width w.bits)
cell_text n ops.Copy xs = one_text n Plain CellTexts.plain refl (λ a b xs. refl) (λ a. append-nil a.bytes) xs
cell_text n ops.Mux xs = choice_text n xs
cell_text n (ops.Apply p) xs = applied_text n p xs

-- ---- texts by kind

if_input : (k : Kind) (t : List ℕ) → input_kind k ≡ true → Written.if_input k t ≡ t
if_input Input t e = refl
if_input (Reg init next) t e = absurd cc
if_input (Wire cell) t e = absurd cc

not_input : (k : Kind) (t : List ℕ) → input_kind k ≡ false → Written.if_input k t ≡ []
not_input Input t e = absurd cc
not_input (Reg init next) t e = refl
not_input (Wire cell) t e = refl

if_register : (k : Kind) (t : List ℕ) → register_kind k ≡ true → Written.if_register k t ≡ t
if_register Input t e = absurd cc
if_register (Reg init next) t e = refl
if_register (Wire cell) t e = absurd cc

not_register : (k : Kind) (t : List ℕ) → register_kind k ≡ false → Written.if_register k t ≡ []
not_register Input t e = refl
not_register (Reg init next) t e = absurd cc
not_register (Wire cell) t e = refl

if_wire : (k : Kind) (t : List ℕ) → wire_kind k ≡ true → Written.if_wire k t ≡ t
if_wire Input t e = absurd cc
if_wire (Reg init next) t e = absurd cc
if_wire (Wire cell) t e = refl

not_wire : (k : Kind) (t : List ℕ) → wire_kind k ≡ false → Written.if_wire k t ≡ []
not_wire Input t e = refl
not_wire (Reg init next) t e = refl
not_wire (Wire cell) t e = absurd cc

if_assigned : (n : Netlist) (name : List ℕ) (k : Kind) → assigned_kind k ≡ true → text_of_all (statement_pieces (Assign (spot_of name) (driver n k))) ≡ Written.cell_assignment n name k
if_assigned n name Input e = absurd cc
if_assigned n name (Reg init next) e = absurd cc
if_assigned n name (Wire None) e = absurd cc
if_assigned n name (Wire (Some c)) e = assign_text (spot_of name) (expression_of n c) (operation c.op (names_of n c.operands)) (cell_text n c.op c.operands)

not_assigned : (n : Netlist) (name : List ℕ) (k : Kind) → assigned_kind k ≡ false → Written.cell_assignment n name k ≡ []
not_assigned n name Input e = refl
not_assigned n name (Reg init next) e = refl
not_assigned n name (Wire None) e = refl
not_assigned n name (Wire (Some c)) e = absurd cc

if_updated : (n : Netlist) (g : Signal) (k : Kind) → updated_kind k ≡ true → text_of_all (statement_pieces (updated_by n g k)) ≡ Written.next_update n g.name g.width k
if_updated n g Input e = absurd cc
if_updated n g (Reg init None) e = absurd cc
if_updated n g (Reg init (Some m)) e = update_text g.name (literal g.width init) (name_of n m)
if_updated n g (Wire cell) e = absurd cc

not_updated : (n : Netlist) (name : List ℕ) (width : ℕ) (k : Kind) → updated_kind k ≡ false → Written.next_update n name width k ≡ []
not_updated n name width Input e = refl
not_updated n name width (Reg init None) e = refl
not_updated n name width (Reg init (Some m)) e = absurd cc
not_updated n name width (Wire cell) e = refl

-- ---- the text of the whole

three_to_the_left : (a b c : List ℕ) → a ++ (b ++ c) ≡ (a ++ b) ++ c
three_to_the_left a b c = simp append_assoc

to_the_left : (a b c d e : List ℕ) → a ++ (b ++ (c ++ (d ++ e))) ≡ (((a ++ b) ++ c) ++ d) ++ e
to_the_left a b c d e = simp append_assoc

module _ (n : Netlist) where
  ports_text : text_of_all (flat_map port_pieces (written_ports n)) ≡ flat_map input_port n.signals ++ flat_map output_port n.outputs
  ports_text =
      let i = map signal_spot (of_kind input_kind n) in
      let o = map output_spot n.outputs in
      let a : text_of_all (flat_map port_pieces i) ≡ flat_map input_port n.signals =
      texts_where port_pieces signal_spot input_port input_kind (λ g e. port_text g.name ∙ sym (if_input g.kind (port g.name) e)) (λ g e. not_input g.kind (port g.name) e) n.signals in
      let b : text_of_all (flat_map port_pieces o) ≡ flat_map output_port n.outputs = texts port_pieces output_spot output_port (λ o. port_text o.0) n.outputs in
      ap text_of_all (flat_map-append port_pieces i o) ∙ text_append (flat_map port_pieces i) (flat_map port_pieces o)
      ∙ ap (λ (l : List ℕ). l ++ text_of_all (flat_map port_pieces o)) a ∙ ap (λ (l : List ℕ). flat_map input_port n.signals ++ l) b

  declarations_text : text_of_all (flat_map declaration_pieces (written_declarations n)) ≡ declarations n
  declarations_text =
      let i = map (declare_signal sorts.Input) (of_kind input_kind n) in
      let o = map (declare_output n) n.outputs in
      let r = map (declare_signal sorts.Reg) (of_kind register_kind n) in
      let w = map (declare_signal sorts.Wire) (of_kind wire_kind n) in
      let pieces : List Declaration → List ℕ = λ ds. text_of_all (flat_map declaration_pieces ds) in
      let join : (xs ys : List Declaration) → pieces (xs ++ ys) ≡ pieces xs ++ pieces ys = λ xs ys. ap text_of_all
      (flat_map-append declaration_pieces xs ys) ∙ text_append (flat_map declaration_pieces xs) (flat_map declaration_pieces ys) in
      let a : pieces i ≡ flat_map input_declaration n.signals =
      texts_where declaration_pieces (declare_signal sorts.Input) input_declaration input_kind
      (λ g e. input_text g.width g.name ∙ sym (if_input g.kind (declaration (codes "input") g.width g.name) e)) (λ g e. not_input g.kind (declaration (codes "input") g.width g.name) e) n.signals in
      let b : pieces o ≡ flat_map (output_declaration n) n.outputs = texts declaration_pieces (declare_output n) (output_declaration n) (λ o. output_text (width_of n o.1) o.0) n.outputs in
      let c : pieces r ≡ flat_map register_declaration n.signals =
      texts_where declaration_pieces (declare_signal sorts.Reg) register_declaration register_kind
      (λ g e. register_text g.width g.name ∙ sym (if_register g.kind (declaration (codes "reg") g.width g.name) e))
      (λ g e. not_register g.kind (declaration (codes "reg") g.width g.name) e) n.signals in
      let d : pieces w ≡ flat_map wire_declaration n.signals =
      texts_where declaration_pieces (declare_signal sorts.Wire) wire_declaration wire_kind
      (λ g e. wire_text g.width g.name ∙ sym (if_wire g.kind (declaration (codes "wire") g.width g.name) e)) (λ g e. not_wire g.kind (declaration (codes "wire") g.width g.name) e) n.signals in
      let all : pieces (i ++ (o ++ (r ++ w))) ≡ flat_map input_declaration n.signals ++
      (flat_map (output_declaration n) n.outputs ++ (flat_map register_declaration n.signals ++ flat_map wire_declaration n.signals)) =
      join i (o ++ (r ++ w)) ∙ ap (λ (l : List ℕ). l ++ pieces (o ++ (r ++ w))) a ∙ ap (λ (l : List ℕ). flat_map input_declaration n.signals ++ l)
      (join o (r ++ w) ∙ ap (λ (l : List ℕ). l ++ pieces (r ++ w)) b ∙ ap (λ (l : List ℕ). flat_map (output_declaration n) n.outputs ++ l)
      (join r w ∙ ap (λ (l : List ℕ). l ++ pieces w) c ∙ ap (λ (l : List ℕ). flat_map register_declaration n.signals ++ l) d)) in
      ap (λ (l : List ℕ). codes "  input clk;\n  input rst;\n" ++ l) all
      ∙ to_the_left (codes "  input clk;\n  input rst;\n") (flat_map input_declaration n.signals) (flat_map (output_declaration n) n.outputs)
      (flat_map register_declaration n.signals) (flat_map wire_declaration n.signals)

  statements_text : text_of_all (flat_map statement_pieces (written_statements n)) ≡ statements n
  statements_text =
      let w = map (assign_signal n) (of_kind assigned_kind n) in
      let o = map (assign_output n) n.outputs in
      let r = map (update_signal n) (of_kind updated_kind n) in
      let pieces : List Statement → List ℕ = λ ss. text_of_all (flat_map statement_pieces ss) in
      let join : (xs ys : List Statement) → pieces (xs ++ ys) ≡ pieces xs ++ pieces ys = λ xs ys. ap text_of_all
      (flat_map-append statement_pieces xs ys) ∙ text_append (flat_map statement_pieces xs) (flat_map statement_pieces ys) in
      let a : pieces w ≡ flat_map (wire_assignment n) n.signals =
      texts_where statement_pieces (assign_signal n) (wire_assignment n) assigned_kind (λ g e. if_assigned n g.name g.kind e) (λ g e. not_assigned n g.name g.kind e) n.signals in
      let b : pieces o ≡ flat_map (output_assignment n) n.outputs =
      texts statement_pieces (assign_output n) (output_assignment n) (λ o. assign_text (output_spot o) (Plain (named_spot n o.1)) (name_of n o.1) (append-nil (name_of n o.1))) n.outputs in
      let c : pieces r ≡ flat_map (register_update n) n.signals =
      texts_where statement_pieces (update_signal n) (register_update n) updated_kind (λ g e. if_updated n g g.kind e) (λ g e. not_updated n g.name g.width g.kind e) n.signals in
      join w (o ++ r) ∙ ap (λ (l : List ℕ). l ++ pieces (o ++ r)) a ∙ ap (λ (l : List ℕ). flat_map (wire_assignment n) n.signals ++ l)
      (join o r ∙ ap (λ (l : List ℕ). l ++ pieces r) b ∙ ap (λ (l : List ℕ). flat_map (output_assignment n) n.outputs ++ l) c)
      ∙ three_to_the_left (flat_map (wire_assignment n) n.signals) (flat_map (output_assignment n) n.outputs) (flat_map (register_update n) n.signals)

  pub file_text : text_of_all (file_pieces clock (reset ∷ written_ports n) (written_declarations n) (written_statements n)) ≡ written n
  unfolding written
  file_text =
      let ps = flat_map port_pieces (written_ports n) in
      let ds = flat_map declaration_pieces (written_declarations n) in
      let ss = flat_map statement_pieces (written_statements n) in
      let start : List ℕ → List ℕ = λ (l : List ℕ). codes "module safl (clk, rst" ++ l in
      let a : text_of_all (ps ++ header_end (body_pieces (written_declarations n) (written_statements n))) ≡ text_of_all ps ++ (codes ");\n" ++
      (text_of_all ds ++ (text_of_all ss ++ codes "endmodule\n"))) =
      text_append ps (header_end (body_pieces (written_declarations n) (written_statements n))) ∙ ap
      (λ (l : List ℕ). text_of_all ps ++ (codes ");\n" ++ l)) (text_append ds (ss ++ last_pieces) ∙ ap (λ (l : List ℕ). text_of_all ds ++ l)
      (text_append ss last_pieces)) in
      let b : text_of_all ps ++ (codes ");\n" ++ (text_of_all ds ++ (text_of_all ss ++ codes "endmodule\n"))) ≡
      (flat_map input_port n.signals ++ flat_map output_port n.outputs) ++ (codes ");\n" ++ (declarations n ++ (statements n ++ codes "endmodule\n"))) =
      ap (λ (l : List ℕ). l ++ (codes ");\n" ++ (text_of_all ds ++ (text_of_all ss ++ codes "endmodule\n")))) ports_text
      ∙ ap (λ (l : List ℕ). (flat_map input_port n.signals ++ flat_map output_port n.outputs) ++ (codes ");\n" ++ (l ++ (text_of_all ss ++ codes "endmodule\n")))) declarations_text
      ∙ ap (λ (l : List ℕ). (flat_map input_port n.signals ++ flat_map output_port n.outputs) ++ (codes ");\n" ++ (declarations n ++ (l ++ codes "endmodule\n")))) statements_text in
      ap start (a ∙ b) ∙ joined_text (flat_map input_port n.signals) (flat_map output_port n.outputs) (declarations n) (statements n)
    where
      joined_text : (i o d s : List ℕ) → codes "module safl (clk, rst" ++ ((i ++ o) ++ (codes ");\n" ++ (d ++ (s ++ codes "endmodule\n")))) ≡ codes
          "module safl (clk, rst" ++ i ++ o ++ codes ");\n" ++ d ++ s ++ codes "endmodule\n"
      joined_text i o d s = simp append_assoc
