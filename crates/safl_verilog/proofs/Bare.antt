-- Whether a file has faults, and which netlist it is, doesn't depend on its places.
use Rattle.safl_verilog.proofs.Common.{Reg, Signal, Sort, VFault, Wire, flat_map, map-append, op_width}
use Rattle.std.proofs.Common.{◌≡◌, ℕ, suc, List, [], ◌∷◌, ◌++◌, map, Bool, true, false, cond, not, ◌==◌, ◌&&◌, ◌||◌, Some, None, Option, refl, sym, ap, ◌∙◌, bytes_eq}
use Rattle.std.specs.Prelude.{is_none}
use Rattle.std.specs.Prelude.{filter, unwrap_or, codes}
use Rattle.safl_verilog.specs.declared.token.Sort.TheVariants as sorts
use Rattle.safl_verilog.specs.Files.{Spot, RightSide, Literal, Plain, Inverted, Binary, Choice, Joined, Slice, Declaration, Statement, Assign, Always, File}
use Rattle.safl_verilog.specs.Faults.{where_not, number_faults, range_faults, expression_number_faults, stated_number_faults}
use Rattle.safl_verilog.specs.FaultParts.{declared_number_faults}
use Rattle.safl_verilog.specs.Faults.{among, repeat_faults, find, is_input, is_output, is_reg, is_wire, is_port, passes, range_width}
use Rattle.safl_verilog.specs.FaultParts.{declared_names}
use Rattle.safl_verilog.specs.Faults.{width_in, width_declared, has_bit, has_ports, is_data, is_signal, is_target, unfit_faults}
use Rattle.safl_verilog.specs.FaultParts.{header_faults, port_faults}
use Rattle.safl_verilog.specs.Faults.{operation, operands, is_plain, expression_width, assigned, updated, width_faults, literal_value}
use Rattle.safl_verilog.specs.Faults.{may_be_assigned, assign_faults, always_faults, statement_faults, all_statement_faults, missing_faults, faults}
use Rattle.safl_verilog.specs.Netlists.{signals_of, declared_place, signal_number, cell_of, driven, register_of, signal_kind, signal_of, shown_signal, output_of, netlist}
use Rattle.safl_verilog.proofs.PrintedReads.{bare, bare_expression, bare_range, bare_declaration, bare_statement, bare_file}

abbrev unplaced : VFault → VFault
unplaced v = record { rule = v.rule; place = 0; first = v.first; second = v.second }

where_not_bare : (b : Bool) (f : VFault) → where_not b (unplaced f) ≡ map unplaced (where_not b f)
where_not_bare true f = refl
where_not_bare false f = refl

same_test : (b c : Bool) (f : VFault) → b ≡ c → where_not b (unplaced f) ≡ map unplaced (where_not c f)
same_test b c f e = ap (λ t. where_not t (unplaced f)) e ∙ where_not_bare c f

both : {x y : List VFault} (a b : List VFault) → x ≡ map unplaced a → y ≡ map unplaced b → x ++ y ≡ map unplaced (a ++ b)
both {x} {y} a b e f = ap (λ (l : List VFault). l ++ y) e ∙ ap (λ (l : List VFault). map unplaced a ++ l) f ∙ sym (map-append unplaced a b)

flat_bare : {X Y : Type 0} (F : X → List VFault) (G : Y → List VFault) (b : X → Y) → ((x : X) → G (b x) ≡ map unplaced (F x)) → (xs : List X) → flat_map G (map b xs) ≡ map unplaced (flat_map F xs)
flat_bare F G b h [] = refl
flat_bare F G b h (x ∷ xs) = both (F x) (flat_map F xs) (h x) (flat_bare F G b h xs)

-- ---- numbers

range_bare : (r : Option (Spot × Spot)) → range_faults (bare_range r) ≡ map unplaced (range_faults r)
range_bare None = refl
range_bare (Some r) = both _ (number_faults r.1) (both (number_faults r.0) _ (where_not_bare _ _) (where_not_bare _ _)) (where_not_bare _ _)

expression_bare : (e : RightSide) → expression_number_faults (bare_expression e) ≡ map unplaced (expression_number_faults e)
expression_bare (Literal l) = where_not_bare _ _
expression_bare (Plain a) = refl
expression_bare (Inverted a) = refl
expression_bare (Binary p a b) = refl
expression_bare (Choice a b c) = refl
expression_bare (Joined a b) = refl
expression_bare (Slice a high low) = both (number_faults high) (number_faults low) (where_not_bare _ _) (where_not_bare _ _)

stated_bare : (s : Statement) → stated_number_faults (bare_statement s) ≡ map unplaced (stated_number_faults s)
stated_bare (Assign x e) = expression_bare e
stated_bare (Always clock reset target initial second source) = where_not_bare _ _

-- ---- names

among_bare : (xs : List Spot) (n : List ℕ) → among (map bare xs) n ≡ among xs n
among_bare [] n = refl
among_bare (x ∷ xs) n = ap (λ b. bytes_eq x.bytes n || b) (among_bare xs n)

repeat_bare : (before xs : List Spot) → repeat_faults (map bare before) (map bare xs) ≡ map unplaced (repeat_faults before xs)
repeat_bare before [] = refl
repeat_bare before (x ∷ xs) =
    both _ (repeat_faults (before ++ x ∷ []) xs) (same_test _ _ _ (ap not (among_bare before x.bytes)))
    (ap (λ (l : List Spot). repeat_faults l (map bare xs)) (sym (map-append bare before (x ∷ []))) ∙ repeat_bare (before ++ x ∷ []) xs)

names_bare : (ds : List Declaration) → declared_names (map bare_declaration ds) ≡ map bare (declared_names ds)
names_bare [] = refl
names_bare (d ∷ ds) = ap (λ (l : List Spot). bare d.name ∷ l) (names_bare ds)

-- ---- declarations

abbrev bare_maybe : Option Declaration → Option Declaration
bare_maybe None = None
bare_maybe (Some d) = Some (bare_declaration d)

find_bare : (ds : List Declaration) (n : List ℕ) → find (map bare_declaration ds) n ≡ bare_maybe (find ds n)
find_bare [] n = refl
find_bare (d ∷ ds) n = go (bytes_eq d.name.bytes n) (find_bare ds n)
  where
    go : (b : Bool) → find (map bare_declaration ds) n ≡ bare_maybe (find ds n) → cond b (Some (bare_declaration d)) (find (map bare_declaration ds) n) ≡ bare_maybe (cond b (Some d) (find ds n))
    go true h = refl
    go false h = h

passes_bare : (p : Declaration → Bool) → ((d : Declaration) → p (bare_declaration d) ≡ p d) → (ds : List Declaration) (n : List ℕ) → passes p (find (map bare_declaration ds) n) ≡ passes p (find ds n)
passes_bare p h ds n = ap (passes p) (find_bare ds n) ∙ go (find ds n)
  where
    go : (o : Option Declaration) → passes p (bare_maybe o) ≡ passes p o
    go None = refl
    go (Some d) = h d

range_width_bare : (r : Option (Spot × Spot)) → range_width (bare_range r) ≡ range_width r
range_width_bare None = refl
range_width_bare (Some r) = refl

width_bare : (ds : List Declaration) (n : List ℕ) → width_declared (map bare_declaration ds) n ≡ width_declared ds n
width_bare ds n = ap width_in (find_bare ds n) ∙ go (find ds n)
  where
    go : (o : Option Declaration) → width_in (bare_maybe o) ≡ width_in o
    go None = refl
    go (Some d) = range_width_bare d.range

-- ---- ports

header_bare : (f : File) (x : Spot) → header_faults (bare_file f) (bare x) ≡ map unplaced (header_faults f x)
header_bare f x = same_test _ _ _ (passes_bare (λ d. is_port d.sort) (λ d. refl) f.declarations x.bytes)

port_bare : (f : File) (d : Declaration) → port_faults (bare_file f) (bare_declaration d) ≡ map unplaced (port_faults f d)
port_bare f d = same_test _ _ _ (ap (λ b. not (is_port d.sort) || b) (among_bare f.header d.name.bytes))

bit_bare : (ds : List Declaration) (p : Sort → Bool) (n : List ℕ) → has_bit (map bare_declaration ds) p n ≡ has_bit ds p n
bit_bare ds p n = passes_bare (λ d. p d.sort && (range_width d.range == 1)) (λ d. ap (λ w. p d.sort && (w == 1)) (range_width_bare d.range)) ds n

ports_bare : (ds : List Declaration) → has_ports (map bare_declaration ds) ≡ has_ports ds
ports_bare ds =
    let a = bit_bare ds is_input (codes "clk") in
    let b = bit_bare ds is_input (codes "rst") in
    let c = bit_bare ds is_input (codes "start") in
    let d = bit_bare ds is_output (codes "done") in
    let e = passes_bare (λ d. is_output d.sort) (λ d. refl) ds (codes "result") in
    ap (λ x. x && has_bit (map bare_declaration ds) is_input (codes "rst") && has_bit (map bare_declaration ds) is_input (codes "start") && has_bit
    (map bare_declaration ds) is_output (codes "done") && passes (λ d. is_output d.sort) (find (map bare_declaration ds) (codes "result"))) a
    ∙ ap (λ x. has_bit ds is_input (codes "clk") && x && has_bit (map bare_declaration ds) is_input (codes "start") && has_bit
    (map bare_declaration ds) is_output (codes "done") && passes (λ d. is_output d.sort) (find (map bare_declaration ds) (codes "result"))) b
    ∙ ap (λ x. has_bit ds is_input (codes "clk") && has_bit ds is_input (codes "rst") && x && has_bit (map bare_declaration ds) is_output
    (codes "done") && passes (λ d. is_output d.sort) (find (map bare_declaration ds) (codes "result"))) c
    ∙ ap (λ x. has_bit ds is_input (codes "clk") && has_bit ds is_input (codes "rst") && has_bit ds is_input (codes "start") && x && passes
    (λ d. is_output d.sort) (find (map bare_declaration ds) (codes "result"))) d
    ∙ ap (λ x. has_bit ds is_input (codes "clk") && has_bit ds is_input (codes "rst") && has_bit ds is_input (codes "start") && has_bit ds is_output (codes "done") && x) e

-- ---- statements

operation_bare : (e : RightSide) → operation (bare_expression e) ≡ operation e
operation_bare (Literal l) = refl
operation_bare (Plain a) = refl
operation_bare (Inverted a) = refl
operation_bare (Binary p a b) = refl
operation_bare (Choice a b c) = refl
operation_bare (Joined a b) = refl
operation_bare (Slice a high low) = refl

operands_bare : (e : RightSide) → operands (bare_expression e) ≡ map bare (operands e)
operands_bare (Literal l) = refl
operands_bare (Plain a) = refl
operands_bare (Inverted a) = refl
operands_bare (Binary p a b) = refl
operands_bare (Choice a b c) = refl
operands_bare (Joined a b) = refl
operands_bare (Slice a high low) = refl

is_plain_bare : (e : RightSide) → is_plain (bare_expression e) ≡ is_plain e
is_plain_bare (Literal l) = refl
is_plain_bare (Plain a) = refl
is_plain_bare (Inverted a) = refl
is_plain_bare (Binary p a b) = refl
is_plain_bare (Choice a b c) = refl
is_plain_bare (Joined a b) = refl
is_plain_bare (Slice a high low) = refl

-- a function of the bytes alone
of_bytes : {A : Type 0} (f g : List ℕ → A) → ((n : List ℕ) → f n ≡ g n) → (xs : List Spot) → map (λ (a : Spot). f a.bytes) (map bare xs) ≡ map (λ (a : Spot). g a.bytes) xs
of_bytes f g h [] = refl
of_bytes f g h (x ∷ xs) = ap (λ y. y ∷ map (λ (a : Spot). f a.bytes) (map bare xs)) (h x.bytes) ∙ ap (λ (l : List _). g x.bytes ∷ l) (of_bytes f g h xs)

expression_width_bare : (ds : List Declaration) (e : RightSide) → expression_width (map bare_declaration ds) (bare_expression e) ≡ expression_width ds e
expression_width_bare ds e =
    ap (λ o. unwrap_or (op_width o (map (λ (a : Spot). width_declared (map bare_declaration ds) a.bytes) (operands (bare_expression e)))) 0) (operation_bare e)
    ∙ ap (λ (xs : List Spot). unwrap_or (op_width (operation e) (map (λ (a : Spot). width_declared (map bare_declaration ds) a.bytes) xs)) 0) (operands_bare e)
    ∙ ap (λ (l : List ℕ). unwrap_or (op_width (operation e) l) 0) (of_bytes (width_declared (map bare_declaration ds)) (width_declared ds) (width_bare ds) (operands e))

abbrev bare_assigned : Option RightSide → Option RightSide
bare_assigned None = None
bare_assigned (Some e) = Some (bare_expression e)

abbrev bare_updated : Option (Spot × Spot) → Option (Spot × Spot)
bare_updated None = None
bare_updated (Some u) = Some (bare u.0, bare u.1)

assigned_bare : (ss : List Statement) (n : List ℕ) → assigned (map bare_statement ss) n ≡ bare_assigned (assigned ss n)
assigned_bare [] n = refl
assigned_bare (Assign x e ∷ ss) n = go (bytes_eq x.bytes n) (assigned_bare ss n)
  where
    go : (b : Bool) → assigned (map bare_statement ss) n ≡ bare_assigned (assigned ss n) → cond b (Some (bare_expression e))
        (assigned (map bare_statement ss) n) ≡ bare_assigned (cond b (Some e) (assigned ss n))
    go true h = refl
    go false h = h
assigned_bare (Always clock reset target initial second source ∷ ss) n = assigned_bare ss n

updated_bare : (ss : List Statement) (n : List ℕ) → updated (map bare_statement ss) n ≡ bare_updated (updated ss n)
updated_bare [] n = refl
updated_bare (Assign x e ∷ ss) n = updated_bare ss n
updated_bare (Always clock reset target initial second source ∷ ss) n = go (bytes_eq target.bytes n) (updated_bare ss n)
  where
    go : (b : Bool) → updated (map bare_statement ss) n ≡ bare_updated (updated ss n) → cond b (Some (bare initial, bare source))
        (updated (map bare_statement ss) n) ≡ bare_updated (cond b (Some (initial, source)) (updated ss n))
    go true h = refl
    go false h = h

no_assigned_bare : (ss : List Statement) (n : List ℕ) → is_none (assigned (map bare_statement ss) n) ≡ is_none (assigned ss n)
no_assigned_bare ss n = ap is_none (assigned_bare ss n) ∙ go (assigned ss n)
  where
    go : (o : Option RightSide) → is_none (bare_assigned o) ≡ is_none o
    go None = refl
    go (Some e) = refl

no_updated_bare : (ss : List Statement) (n : List ℕ) → is_none (updated (map bare_statement ss) n) ≡ is_none (updated ss n)
no_updated_bare ss n = ap is_none (updated_bare ss n) ∙ go (updated ss n)
  where
    go : (o : Option (Spot × Spot)) → is_none (bare_updated o) ≡ is_none o
    go None = refl
    go (Some e) = refl

unfit_bare : (ds : List Declaration) (x : Spot) → unfit_faults (map bare_declaration ds) (bare x) ≡ map unplaced (unfit_faults ds x)
unfit_bare ds x = same_test _ _ _ (passes_bare is_signal (λ d. refl) ds x.bytes)

width_faults_bare : (place w f v g : ℕ) → w ≡ v → f ≡ g → width_faults 0 w f ≡ map unplaced (width_faults place v g)
width_faults_bare place w f v g e h = ap (λ k. width_faults 0 k f) e ∙ ap (width_faults 0 v) h ∙ where_not_bare (v == g) _

may_be_bare : (ds : List Declaration) (before : List Statement) (x : Spot) (e : RightSide) → may_be_assigned (map bare_statement before)
    (find (map bare_declaration ds) x.bytes) x.bytes (bare_expression e) ≡ may_be_assigned before (find ds x.bytes) x.bytes e
may_be_bare ds before x e =
    ap (λ b. b && (not (passes (λ d. is_output d.sort) (find (map bare_declaration ds) x.bytes)) || is_plain (bare_expression e))) (no_assigned_bare before x.bytes)
    ∙ ap (λ b. is_none (assigned before x.bytes) && (not b || is_plain (bare_expression e))) (passes_bare (λ d. is_output d.sort) (λ d. refl) ds x.bytes)
    ∙ ap (λ b. is_none (assigned before x.bytes) && (not (passes (λ d. is_output d.sort) (find ds x.bytes)) || b)) (is_plain_bare e)

assign_bare : (ds : List Declaration) (before : List Statement) (x : Spot) (e : RightSide) → assign_faults (map bare_declaration ds)
    (map bare_statement before) (bare x) (bare_expression e) ≡ map unplaced (assign_faults ds before x e)
assign_bare ds before x e =
    both _ _ (both _ _ (both _ _ (same_test _ _ _ (passes_bare is_target (λ d. refl) ds x.bytes)) (same_test _ _ _ (may_be_bare ds before x e)))
    (ap (flat_map (unfit_faults (map bare_declaration ds))) (operands_bare e) ∙ flat_bare (unfit_faults ds) (unfit_faults (map bare_declaration ds)) bare (unfit_bare ds) (operands e)))
    (width_faults_bare x.place _ _ _ _ (width_bare ds x.bytes) (expression_width_bare ds e))

always_bare : (ds : List Declaration) (before : List Statement) (clock reset target initial second source : Spot) → always_faults
    (map bare_declaration ds) (map bare_statement before) (bare clock) (bare reset) (bare target) (bare initial) (bare second) (bare source) ≡ map
    unplaced (always_faults ds before clock reset target initial second source)
always_bare ds before clock reset target initial second source =
    both _ _ (both _ _ (both _ _ (both _ _ (both _ _ (both _ _ (both _ _ (where_not_bare _ _) (where_not_bare _ _))
    (same_test _ _ _ (passes_bare (λ d. is_reg d.sort) (λ d. refl) ds target.bytes))) (where_not_bare _ _)) (same_test _ _ _ (no_updated_bare before target.bytes)))
    (unfit_bare ds source)) (width_faults_bare initial.place _ _ _ _ (width_bare ds target.bytes) refl))
    (width_faults_bare source.place _ _ _ _ (width_bare ds target.bytes) (width_bare ds source.bytes))

statement_bare : (ds : List Declaration) (before : List Statement) (s : Statement) → statement_faults (map bare_declaration ds)
    (map bare_statement before) (bare_statement s) ≡ map unplaced (statement_faults ds before s)
statement_bare ds before (Assign x e) = assign_bare ds before x e
statement_bare ds before (Always clock reset target initial second source) = always_bare ds before clock reset target initial second source

statements_bare : (ds : List Declaration) (before ss : List Statement) → all_statement_faults (map bare_declaration ds) (map bare_statement before)
    (map bare_statement ss) ≡ map unplaced (all_statement_faults ds before ss)
statements_bare ds before [] = refl
statements_bare ds before (s ∷ ss) =
    both _ _ (statement_bare ds before s) (ap (λ (l : List Statement). all_statement_faults (map bare_declaration ds) l (map bare_statement ss))
    (sym (map-append bare_statement before (s ∷ []))) ∙ statements_bare ds (before ++ s ∷ []) ss)

missing_bare : (ss : List Statement) (d : Declaration) → missing_faults (map bare_statement ss) (bare_declaration d) ≡ map unplaced (missing_faults ss d)
missing_bare ss d =
    both _ _ (same_test _ _ _ (ap (λ b. not (is_target d) || not b) (no_assigned_bare ss d.name.bytes))) (same_test _ _ _ (ap (λ b. not (is_reg d.sort) || not b) (no_updated_bare ss d.name.bytes)))

faults_bare : (f : File) → faults (bare_file f) ≡ map unplaced (faults f)
unfolding faults
faults_bare f =
    let ds = f.declarations in
    both _ _ (both _ _ (both _ _ (both _ _
    (both _ _ (flat_bare declared_number_faults declared_number_faults bare_declaration (λ d. range_bare d.range) ds)
    (flat_bare stated_number_faults stated_number_faults bare_statement stated_bare f.statements))
    (both _ _ (repeat_bare [] f.header) (ap (repeat_faults []) (names_bare ds) ∙ repeat_bare [] (declared_names ds))))
    (both _ _ (both _ _ (flat_bare (header_faults f) (header_faults (bare_file f)) bare (header_bare f) f.header)
    (flat_bare (port_faults f) (port_faults (bare_file f)) bare_declaration (port_bare f) ds)) (same_test _ _ _ (ports_bare ds))))
    (statements_bare ds [] f.statements))
    (flat_bare (missing_faults f.statements) (missing_faults (map bare_statement f.statements)) bare_declaration (missing_bare f.statements) ds)

none_mapped : (fs : List VFault) → [] ≡ map unplaced fs → fs ≡ []
none_mapped [] e = refl
none_mapped (f ∷ fs) e = absurd cc

-- files that are alike but for their places have faults both or neither
pub alike_faults : (f g : File) → bare_file f ≡ bare_file g → faults g ≡ [] → faults f ≡ []
alike_faults f g e h = none_mapped (faults f) (sym (sym (faults_bare f) ∙ ap faults e ∙ faults_bare g ∙ ap (map unplaced) h))

-- ---- the netlist

filter_bare : (p : Declaration → Bool) → ((d : Declaration) → p (bare_declaration d) ≡ p d) → (ds : List Declaration) → filter p (map bare_declaration ds) ≡ map bare_declaration (filter p ds)
filter_bare p h [] = refl
filter_bare p h (d ∷ ds) = ap (λ b. cond b (bare_declaration d ∷ filter p (map bare_declaration ds)) (filter p (map bare_declaration ds))) (h d) ∙ go (p d) (filter_bare p h ds)
  where
    go : (b : Bool) → filter p (map bare_declaration ds) ≡ map bare_declaration (filter p ds) → cond b
        (bare_declaration d ∷ filter p (map bare_declaration ds)) (filter p (map bare_declaration ds)) ≡ map bare_declaration (cond b (d ∷ filter p ds) (filter p ds))
    go true h = ap (λ (l : List Declaration). bare_declaration d ∷ l) h
    go false h = h

signals_bare : (ds : List Declaration) → signals_of (map bare_declaration ds) ≡ map bare_declaration (signals_of ds)
signals_bare ds =
    ap (λ (l : List Declaration). l ++ filter (λ (d : Declaration). is_reg d.sort) (map bare_declaration ds) ++ filter
    (λ (d : Declaration). is_wire d.sort) (map bare_declaration ds)) (filter_bare is_data (λ d. refl) ds)
    ∙ ap (λ (l : List Declaration). map bare_declaration (filter is_data ds) ++ l ++ filter (λ (d : Declaration). is_wire d.sort)
    (map bare_declaration ds)) (filter_bare (λ (d : Declaration). is_reg d.sort) (λ d. refl) ds)
    ∙ ap (λ (l : List Declaration). map bare_declaration (filter is_data ds) ++ map bare_declaration (filter (λ (d : Declaration). is_reg d.sort) ds)
    ++ l) (filter_bare (λ (d : Declaration). is_wire d.sort) (λ d. refl) ds)
    ∙ ap (λ (l : List Declaration). l ++ map bare_declaration (filter (λ (d : Declaration). is_wire d.sort) ds))
    (sym (map-append bare_declaration (filter is_data ds) (filter (λ (d : Declaration). is_reg d.sort) ds)))
    ∙ sym (map-append bare_declaration (filter is_data ds ++ filter (λ (d : Declaration). is_reg d.sort) ds) (filter (λ (d : Declaration). is_wire d.sort) ds))

place_bare : (ds : List Declaration) (n : List ℕ) → declared_place (map bare_declaration ds) n ≡ declared_place ds n
place_bare [] n = refl
place_bare (d ∷ ds) n = ap (λ k. cond (bytes_eq d.name.bytes n) 0 (suc k)) (place_bare ds n)

number_bare : (ds : List Declaration) (n : List ℕ) → signal_number (map bare_declaration ds) n ≡ signal_number ds n
number_bare ds n = ap (λ (l : List Declaration). declared_place l n) (signals_bare ds) ∙ place_bare (signals_of ds) n

cell_bare : (ds : List Declaration) (e : RightSide) → cell_of (map bare_declaration ds) (bare_expression e) ≡ cell_of ds e
cell_bare ds e =
    ap (λ o. record { op = o; operands = map (λ (a : Spot). signal_number (map bare_declaration ds) a.bytes) (operands (bare_expression e)) }) (operation_bare e)
    ∙ ap (λ (l : List ℕ). record { op = operation e; operands = l })
    (ap (map (λ (a : Spot). signal_number (map bare_declaration ds) a.bytes)) (operands_bare e) ∙ of_bytes (signal_number (map bare_declaration ds))
    (signal_number ds) (number_bare ds) (operands e))

driven_bare : (ds : List Declaration) (o : Option RightSide) → driven (map bare_declaration ds) (bare_assigned o) ≡ driven ds o
driven_bare ds None = refl
driven_bare ds (Some e) = ap (λ c. Some c) (cell_bare ds e)

register_bare : (ds : List Declaration) (o : Option (Spot × Spot)) → register_of (map bare_declaration ds) (bare_updated o) ≡ register_of ds o
register_bare ds None = refl
register_bare ds (Some u) = ap (λ k. Reg (literal_value u.0.bytes) (Some k)) (number_bare ds u.1.bytes)

kind_bare : (f : File) (s : Sort) (n : List ℕ) → signal_kind (bare_file f) s n ≡ signal_kind f s n
kind_bare f sorts.Input n = refl
kind_bare f sorts.Output n = refl
kind_bare f sorts.Reg n = ap (register_of (map bare_declaration f.declarations)) (updated_bare f.statements n) ∙ register_bare f.declarations (updated f.statements n)
kind_bare f sorts.Wire n = ap (λ o. Wire (driven (map bare_declaration f.declarations) o)) (assigned_bare f.statements n) ∙ ap (λ c. Wire c) (driven_bare f.declarations (assigned f.statements n))

signal_bare : (f : File) (d : Declaration) → signal_of (bare_file f) (bare_declaration d) ≡ signal_of f d
signal_bare f d =
    ap (λ w. record { name = d.name.bytes; width = w; kind = signal_kind (bare_file f) d.sort d.name.bytes }) (range_width_bare d.range)
    ∙ ap (λ k. record { name = d.name.bytes; width = range_width d.range; kind = k }) (kind_bare f d.sort d.name.bytes)

shown_bare : (ds : List Declaration) (o : Option RightSide) → shown_signal (map bare_declaration ds) (bare_assigned o) ≡ shown_signal ds o
shown_bare ds None = refl
shown_bare ds (Some (Plain a)) = number_bare ds a.bytes
shown_bare ds (Some (Literal l)) = refl
shown_bare ds (Some (Inverted a)) = refl
shown_bare ds (Some (Binary p a b)) = refl
shown_bare ds (Some (Choice a b c)) = refl
shown_bare ds (Some (Joined a b)) = refl
shown_bare ds (Some (Slice a high low)) = refl

output_bare : (f : File) (d : Declaration) → output_of (bare_file f) (bare_declaration d) ≡ output_of f d
output_bare f d = ap (λ k. (d.name.bytes, k)) (ap (shown_signal (map bare_declaration f.declarations)) (assigned_bare f.statements d.name.bytes) ∙ shown_bare
    f.declarations (assigned f.statements d.name.bytes))

mapped : {A B : Type 0} (F G : A → B) (b : A → A) → ((x : A) → F (b x) ≡ G x) → (xs : List A) → map F (map b xs) ≡ map G xs
mapped F G b h [] = refl
mapped F G b h (x ∷ xs) = ap (λ y. y ∷ map F (map b xs)) (h x) ∙ ap (λ (l : List _). G x ∷ l) (mapped F G b h xs)

netlist_bare : (f : File) → netlist (bare_file f) ≡ netlist f
unfolding netlist
netlist_bare f =
    let ds = f.declarations in
    let signals = ap (map (signal_of (bare_file f))) (signals_bare ds) ∙ mapped (signal_of (bare_file f)) (signal_of f) bare_declaration (signal_bare f) (signals_of ds) in
    let outputs = ap (map (output_of (bare_file f))) (filter_bare (λ (d : Declaration). is_output d.sort) (λ d. refl) ds) ∙ mapped
    (output_of (bare_file f)) (output_of f) bare_declaration (output_bare f) (filter (λ (d : Declaration). is_output d.sort) ds) in
    ap (λ (l : List Signal). record { signals = l; outputs = map (output_of (bare_file f)) (filter (λ (d : Declaration). is_output d.sort) (map bare_declaration ds)) }) signals
    ∙ ap (λ (l : List (List ℕ × ℕ)). record { signals = map (signal_of f) (signals_of ds); outputs = l }) outputs

-- and they are the same netlist
pub alike_netlist : (f g : File) → bare_file f ≡ bare_file g → netlist f ≡ netlist g
alike_netlist f g e = sym (netlist_bare f) ∙ ap netlist e ∙ netlist_bare g
