-- The lines of a net, and those of the layout.
use Rattle.safl_circuit.proofs.Common.{Choice, Names, Program, flat_map, unit_for}
use Rattle.std.proofs.Common.{◌≡◌, ℕ, zero, suc, List, [], ◌∷◌, ◌++◌, map, length, take, Some, Bool, true, false, cond, nat_lt, slice_get, refl, sym, ap, ◌∙◌, arith, append_assoc}
use Rattle.std.proofs.lemmas.List.{append-nil, take_at}
use Rattle.std.proofs.lemmas.Grind.{flat_map-append}
use Rattle.safl_net.specs.Netlist.{Netlist, Signal, Kind, Input, Reg, Wire}
use Rattle.safl_net.specs.Names.{is_temp, temp_name, one_wire, wires, IsTidy}
use Rattle.safl_net.specs.Arranged.{IsInput, IsRegister, Each}
use Rattle.safl_circuit.specs.Layout.{Line, lines, function_wires, site_wires, layout_wires, input_kind, register_kind, wire_kind, each_line, temporaries}
use Rattle.safl_net.specs.Mirrors.{input_line, register_line, wire_line, IsNamed, IsTemp, IsLaidOut}
use Rattle.safl_net.proofs.Growth.{wires_append}

-- ---- the lines of one kind

abbrev pub inputs_of : List Signal → List Line
inputs_of gs = flat_map (λ g. input_line g g.kind) gs

abbrev pub registers_of : List Signal → List (Line × ℕ)
registers_of gs = flat_map (λ g. register_line g g.kind) gs

abbrev pub wires_of : List Signal → List Line
wires_of gs = flat_map (λ g. wire_line g g.kind) gs

pub input_lines : (gs : List Signal) → each_line input_kind gs ≡ inputs_of gs
unfolding each_line
input_lines [] = refl
input_lines (g ∷ gs) = by g.kind (input_lines gs)
  where
    by : (k : Kind) → each_line input_kind gs ≡ inputs_of gs → input_kind (g.name, g.width) k ++ each_line input_kind gs ≡ input_line g k ++ inputs_of gs
    by Input e = ap (λ l. (g.name, g.width) ∷ l) e
    by (Reg init next) e = e
    by (Wire cell) e = e

pub register_lines : (gs : List Signal) → each_line register_kind gs ≡ map (λ (x : Line × ℕ). x.0) (registers_of gs)
unfolding each_line
register_lines [] = refl
register_lines (g ∷ gs) = by g.kind (register_lines gs)
  where
    by : (k : Kind) → each_line register_kind gs ≡ map (λ (x : Line × ℕ). x.0) (registers_of gs) → register_kind (g.name, g.width) k ++ each_line
        register_kind gs ≡ map (λ (x : Line × ℕ). x.0) (register_line g k ++ registers_of gs)
    by Input e = e
    by (Reg init next) e = ap (λ l. (g.name, g.width) ∷ l) e
    by (Wire cell) e = e

-- ---- names that are not temporary

abbrev pub lasting_lines : List Line → List Line
lasting_lines [] = []
lasting_lines (l ∷ ls) = cond (is_temp l.0) (lasting_lines ls) (l ∷ lasting_lines ls)

pub lasting_more : (xs ys : List Line) → lasting_lines (xs ++ ys) ≡ lasting_lines xs ++ lasting_lines ys
lasting_more [] ys = refl
lasting_more (x ∷ xs) ys = by (is_temp x.0) (lasting_more xs ys)
  where
    by : (b : Bool) → lasting_lines (xs ++ ys) ≡ lasting_lines xs ++ lasting_lines ys → cond b (lasting_lines (xs ++ ys))
        (x ∷ lasting_lines (xs ++ ys)) ≡ cond b (lasting_lines xs) (x ∷ lasting_lines xs) ++ lasting_lines ys
    by true e = e
    by false e = ap (λ l. x ∷ l) e

pub wires_last : (gs : List Signal) → wires_of gs ≡ lasting_lines (each_line wire_kind gs)
unfolding each_line
wires_last [] = refl
wires_last (g ∷ gs) = by g.kind (is_temp g.name) (wires_last gs)
  where
    by : (k : Kind) (b : Bool) → wires_of gs ≡ lasting_lines (each_line wire_kind gs) → wire_line g k ++ wires_of gs ≡ lasting_lines (wire_kind (g.name, g.width) k ++ each_line wire_kind gs)
    by Input b e = e
    by (Reg init next) b e = e
    by (Wire cell) b e = temp (is_temp g.name) e
      where
        temp : (b : Bool) → wires_of gs ≡ lasting_lines (each_line wire_kind gs) → cond b [] ((g.name, g.width) ∷ []) ++ wires_of gs ≡ cond b
            (lasting_lines (each_line wire_kind gs)) ((g.name, g.width) ∷ lasting_lines (each_line wire_kind gs))
        temp true e = e
        temp false e = ap (λ l. (g.name, g.width) ∷ l) e

lines_last : (g : ℕ → List Line) (n : ℕ) → ((i : ℕ) → lasting_lines (g i) ≡ g i) → lasting_lines (lines g n) ≡ lines g n
unfolding lines
lines_last g zero h = refl
lines_last g (suc n) h = lasting_more (lines g n) (g n) ∙ ap (λ l. l ++ lasting_lines (g n)) (lines_last g n h) ∙ ap (λ l. lines g n ++ l) (h n)

site_last : (C : Program) (P : Choice) (k : ℕ) → lasting_lines (site_wires C P k) ≡ site_wires C P k
site_last C P k = by (nat_lt 0 k) (P.arbiter (unit_for C k))
  where
    by : (b a : Bool) → lasting_lines (cond b ((Rattle.safl_circuit.specs.Names.of_site (Rattle.std.specs.Prelude.codes "want$") k, 1) ∷
        (Rattle.safl_circuit.specs.Names.of_site (Rattle.std.specs.Prelude.codes "ret$") k, 1) ∷
        (cond a ((Rattle.safl_circuit.specs.Names.of_site (Rattle.std.specs.Prelude.codes "arb$") k, 1) ∷ []) [] ++
        (Rattle.safl_circuit.specs.Names.of_site (Rattle.std.specs.Prelude.codes "go$") k, 1) ∷ [])) []) ≡ cond b
        ((Rattle.safl_circuit.specs.Names.of_site (Rattle.std.specs.Prelude.codes "want$") k, 1) ∷
        (Rattle.safl_circuit.specs.Names.of_site (Rattle.std.specs.Prelude.codes "ret$") k, 1) ∷
        (cond a ((Rattle.safl_circuit.specs.Names.of_site (Rattle.std.specs.Prelude.codes "arb$") k, 1) ∷ []) [] ++
        (Rattle.safl_circuit.specs.Names.of_site (Rattle.std.specs.Prelude.codes "go$") k, 1) ∷ [])) []
    by true true = refl
    by true false = refl
    by false a = refl

-- those of the layout all last
pub layout_last : (C : Program) (D : Names) (P : Choice) → lasting_lines (layout_wires C D P) ≡ layout_wires C D P
layout_last C D P =
    lasting_more (lines (function_wires D) C.functions) _
    ∙ ap (λ l. l ++ lasting_lines (lines (site_wires C P) (suc C.sites) ++ (Rattle.std.specs.Prelude.codes "go$main", 1) ∷ [])) (lines_last (function_wires D) C.functions (λ i. refl))
    ∙ ap (λ l. lines (function_wires D) C.functions ++ l)
    (lasting_more (lines (site_wires C P) (suc C.sites)) _ ∙ ap (λ l. l ++ (Rattle.std.specs.Prelude.codes "go$main", 1) ∷ []) (lines_last (site_wires C P) (suc C.sites) (site_last C P)))

-- and temporaries don't
pub temporaries_go : (i : ℕ) (ws : List ℕ) → lasting_lines (temporaries i ws) ≡ []
temporaries_go i [] = refl
temporaries_go i (w ∷ ws) = temporaries_go (suc i) ws

-- ---- a net that is laid out

pub more : (f : Line → Kind → List Line) (xs ys : List Signal) → each_line f (xs ++ ys) ≡ each_line f xs ++ each_line f ys
unfolding each_line
more f [] ys = refl
more f (x ∷ xs) ys = ap (λ l. f (x.name, x.width) x.kind ++ l) (more f xs ys) ∙ sym (append_assoc (f (x.name, x.width) x.kind) (each_line f xs) (each_line f ys))

no_input_wires : (gs : List Signal) → Each IsInput gs → each_line wire_kind gs ≡ []
unfolding each_line
no_input_wires [] h = refl
no_input_wires (g ∷ gs) h = ap (λ k. wire_kind (g.name, g.width) k ++ each_line wire_kind gs) h.0 ∙ no_input_wires gs h.1

no_register_wires : (gs : List Signal) → Each IsRegister gs → each_line wire_kind gs ≡ []
unfolding each_line
no_register_wires [] h = refl
no_register_wires (g ∷ gs) h = ap (λ k. wire_kind (g.name, g.width) k ++ each_line wire_kind gs) h.0.2 ∙ no_register_wires gs h.1

named_last : (gs : List Signal) → Each IsNamed gs → lasting_lines (each_line wire_kind gs) ≡ each_line wire_kind gs
unfolding each_line
named_last [] h = refl
named_last (g ∷ gs) h =
    ap (λ k. lasting_lines (wire_kind (g.name, g.width) k ++ each_line wire_kind gs)) h.0.0.1
    ∙ ap (λ b. cond b (lasting_lines (each_line wire_kind gs)) ((g.name, g.width) ∷ lasting_lines (each_line wire_kind gs))) h.0.1
    ∙ ap (λ l. (g.name, g.width) ∷ l) (named_last gs h.1)
    ∙ sym (ap (λ k. wire_kind (g.name, g.width) k ++ each_line wire_kind gs) h.0.0.1)

temps_go : (gs : List Signal) → Each IsTemp gs → lasting_lines (each_line wire_kind gs) ≡ []
unfolding each_line
temps_go [] h = refl
temps_go (g ∷ gs) h =
    ap (λ k. lasting_lines (wire_kind (g.name, g.width) k ++ each_line wire_kind gs)) h.0.0.1
    ∙ ap (λ b. cond b (lasting_lines (each_line wire_kind gs)) ((g.name, g.width) ∷ lasting_lines (each_line wire_kind gs))) h.0.1
    ∙ temps_go gs h.1

-- its wires are those that last, and then its temporaries
pub wires_then : (n : Netlist) (l : IsLaidOut n) → each_line wire_kind n.signals ≡ wires_of n.signals ++ each_line wire_kind l.temporary
wires_then n l =
    let all : each_line wire_kind n.signals ≡ each_line wire_kind l.named ++ each_line wire_kind l.temporary =
    ap (each_line wire_kind) l.joined
    ∙ more wire_kind l.inputs (l.registers ++ (l.named ++ l.temporary))
    ∙ ap (λ x. x ++ each_line wire_kind (l.registers ++ (l.named ++ l.temporary))) (no_input_wires l.inputs l.are_inputs)
    ∙ more wire_kind l.registers (l.named ++ l.temporary)
    ∙ ap (λ x. x ++ each_line wire_kind (l.named ++ l.temporary)) (no_register_wires l.registers l.are_registers)
    ∙ more wire_kind l.named l.temporary in
    let last : wires_of n.signals ≡ each_line wire_kind l.named =
    wires_last n.signals
    ∙ ap lasting_lines all
    ∙ lasting_more (each_line wire_kind l.named) (each_line wire_kind l.temporary)
    ∙ ap (λ x. x ++ lasting_lines (each_line wire_kind l.temporary)) (named_last l.named l.are_named)
    ∙ ap (λ x. each_line wire_kind l.named ++ x) (temps_go l.temporary l.are_temporary)
    ∙ append-nil (each_line wire_kind l.named) in
    all ∙ ap (λ x. x ++ each_line wire_kind l.temporary) (sym last)

-- ---- its temporaries are named by their numbers

at_end : (xs ys : List Signal) (g : Signal) → slice_get (xs ++ g ∷ ys) (length xs) ≡ Some g
at_end [] ys g = refl
at_end (x ∷ xs) ys g = at_end xs ys g

numbered : (n : Netlist) (before gs : List Signal) (i : ℕ) → IsTidy n → n.signals ≡ before ++ gs → i ≡ wires before → Each IsTemp gs → each_line
    wire_kind gs ≡ temporaries i (map (λ (g : Signal). g.width) gs)
unfolding each_line
numbered n before [] i tidy e count h = refl
numbered n before (g ∷ gs) i tidy e count h =
    let there : slice_get n.signals (length before) ≡ Some g = ap (λ l. slice_get l (length before)) e ∙ at_end before gs g in
    let name : g.name ≡ temp_name i =
    (tidy.signals (length before) g there h.0.1).1
    ∙ ap (λ l. temp_name (wires (take (length before) l))) e
    ∙ ap (λ l. temp_name (wires l)) (take_at before (g ∷ gs) (length before) refl)
    ∙ ap temp_name (sym count) in
    let next : suc i ≡ wires (before ++ g ∷ []) = let a = wires_append before (g ∷ []) in let b = ap one_wire h.0.0.1 in omega (arith, a, b, count) in
    ap (λ k. wire_kind (g.name, g.width) k ++ each_line wire_kind gs) h.0.0.1
    ∙ ap (λ x. (x, g.width) ∷ each_line wire_kind gs) name
    ∙ ap (λ l. (temp_name i, g.width) ∷ l) (numbered n (before ++ g ∷ []) gs (suc i) tidy (e ∙ sym (append_assoc before (g ∷ []) gs)) next h.1)

no_input_wire : (gs : List Signal) → Each IsInput gs → wires gs ≡ 0
no_input_wire [] h = refl
no_input_wire (g ∷ gs) h = let a = ap one_wire h.0 in let b = no_input_wire gs h.1 in omega (arith, a, b)

no_register_wire : (gs : List Signal) → Each IsRegister gs → wires gs ≡ 0
no_register_wire [] h = refl
no_register_wire (g ∷ gs) h = let a = ap one_wire h.0.2 in let b = no_register_wire gs h.1 in omega (arith, a, b)

count_named : (gs : List Signal) → Each IsNamed gs → wires gs ≡ length (wires_of gs)
count_named [] h = refl
count_named (g ∷ gs) h =
    let a = ap one_wire h.0.0.1 in
    let b = count_named gs h.1 in
    let c = ap (λ k. length (wire_line g k ++ wires_of gs)) h.0.0.1 ∙ ap (λ b. length (cond b [] ((g.name, g.width) ∷ []) ++ wires_of gs)) h.0.1 in
    omega (arith, a, b, c)

inputs_no : (gs : List Signal) → Each IsInput gs → wires_of gs ≡ []
inputs_no [] h = refl
inputs_no (g ∷ gs) h = ap (λ k. wire_line g k ++ wires_of gs) h.0 ∙ inputs_no gs h.1

registers_no : (gs : List Signal) → Each IsRegister gs → wires_of gs ≡ []
registers_no [] h = refl
registers_no (g ∷ gs) h = ap (λ k. wire_line g k ++ wires_of gs) h.0.2 ∙ registers_no gs h.1

temps_no : (gs : List Signal) → Each IsTemp gs → wires_of gs ≡ []
temps_no [] h = refl
temps_no (g ∷ gs) h = ap (λ k. wire_line g k ++ wires_of gs) h.0.0.1 ∙ ap (λ b. cond b [] ((g.name, g.width) ∷ []) ++ wires_of gs) h.0.1 ∙ temps_no gs h.1

pub temporaries_are : (n : Netlist) (l : IsLaidOut n) → IsTidy n → each_line wire_kind l.temporary ≡ temporaries (length (wires_of n.signals)) (map (λ (g : Signal). g.width) l.temporary)
temporaries_are n l tidy =
    let f = λ (g : Signal). wire_line g g.kind in
    let all : wires_of n.signals ≡ wires_of l.named =
    ap wires_of l.joined
    ∙ flat_map-append f l.inputs (l.registers ++ (l.named ++ l.temporary))
    ∙ ap (λ x. x ++ wires_of (l.registers ++ (l.named ++ l.temporary))) (inputs_no l.inputs l.are_inputs)
    ∙ flat_map-append f l.registers (l.named ++ l.temporary)
    ∙ ap (λ x. x ++ wires_of (l.named ++ l.temporary)) (registers_no l.registers l.are_registers)
    ∙ flat_map-append f l.named l.temporary
    ∙ ap (λ x. wires_of l.named ++ x) (temps_no l.temporary l.are_temporary)
    ∙ append-nil (wires_of l.named) in
    let before = l.inputs ++ (l.registers ++ l.named) in
    let count : length (wires_of n.signals) ≡ wires before =
    let a = wires_append l.inputs (l.registers ++ l.named) in
    let b = wires_append l.registers l.named in
    let c = no_input_wire l.inputs l.are_inputs in
    let d = no_register_wire l.registers l.are_registers in
    let e = count_named l.named l.are_named in
    let f = ap length all in
    omega (arith, a, b, c, d, e, f) in
    numbered n before l.temporary (length (wires_of n.signals)) tidy
    (l.joined ∙ ap (λ x. l.inputs ++ x) (sym (append_assoc l.registers l.named l.temporary)) ∙ sym (append_assoc l.inputs (l.registers ++ l.named) l.temporary))
    count l.are_temporary
