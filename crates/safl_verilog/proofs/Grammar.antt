-- The reader of files answers as the grammar says.
use Rattle.safl_verilog.proofs.Common.{Keyword, Symbol, VerilogTerminal, keyword_text, symbol_text, ◌⊎◌}
use Rattle.std.proofs.Common.{◌≡◌, ℕ, Bool, true, false, cond, List, [], ◌∷◌, ◌++◌, Option, Some, None, Ok, Err, inl, inr, refl, sym, subst, ◌∙◌}
use Rattle.safl_grammar.specs.Sets.{Set, Every, Only, within}
use Rattle.safl_grammar.specs.Syntax.{Rule, Syntax, token, follows, either}
use Rattle.safl_grammar.specs.Reading.{Read, Reading, read_token}
use Rattle.safl_grammar.specs.Text.{Spells, Faults, at_end}
use Rattle.safl_grammar.proofs.Parses.{Parses, Ends, parses_nothing, ok_parts, bind_ok}
use Rattle.safl_grammar.proofs.Tokens.{parses_token}
use Rattle.safl_grammar.proofs.Same.{Same, same, same_then, same_either, same_factored, parses_same}
use Rattle.safl_grammar.proofs.Rules.{then, or_else, repeated}
use Rattle.safl_grammar.proofs.Text
use Rattle.safl_verilog.specs.declared.token.Keyword.TheVariants as keywords
use Rattle.safl_verilog.specs.declared.token.Symbol.TheVariants as symbols
use Rattle.safl_verilog.specs.Files.{Spot, RightSide, Literal, Plain, Inverted, Binary, Choice, Joined, Slice, Declaration, Statement, Assign, Always, File}
use Rattle.safl_verilog.specs.Grammar
use Rattle.safl_verilog.specs.Grammar.{spot, verilog_keyword, verilog_symbol}
use Rattle.safl_verilog.specs.Codes.{code, code_of, classed, operators, primitive_in, sort_codes, sort_in, keyword_code, symbol_code}
use Rattle.safl_verilog.specs.Reader.{read_code, read_word, read_symbol, read_operator, read_sort, read_constant, read_inverted, read_binary, read_choice, read_joined}
use Rattle.safl_verilog.specs.Reader.{read_slice, read_named, read_cell, read_written_range, read_range, read_decl, read_assign, read_otherwise}
use Rattle.safl_verilog.specs.Reader.{read_at_reset, read_always, read_stmt, read_another_id, read_ids, read_another_decl, read_decls}
use Rattle.safl_verilog.specs.Reader.{read_another_stmt, read_stmts, read_body, read_file, read_text}
use Rattle.safl_verilog.proofs.Classes.{keyword_class, symbol_class, identifier_at, identifier_class, number_at, number_class, literal_at, literal_class}
use Rattle.safl_verilog.proofs.Classes.{operator_at, operator_class, sort_at, sort_class}

classed_within : {A : Type 0} (codes : List ℕ) (value : VerilogTerminal → A) (t : VerilogTerminal) (x : A) → classed codes value t ≡ Some x → within (Only codes) (code (Some t)) ≡ true
classed_within codes value t x e = go (within (Only codes) (code_of t.kind)) e
  where
    go : (b : Bool) → cond b (Some (value t)) None ≡ Some x → b ≡ true
    go true e = refl
    go false e = absurd cc

one_of : {A : Type 0} (codes : List ℕ) (value : VerilogTerminal → A) → Parses code (read_token (classed codes value)) (token (classed codes value))
    (token (classed codes value)) false (Only codes) (Only []) Every
one_of codes value = parses_token code (classed codes value) (Only codes) (classed_within codes value)

-- the same of a class by texts
as_token : {A : Type 0} (p : Reading VerilogTerminal A) (class coded : VerilogTerminal → Option A) (G : Set) → class ≡ coded → Parses code p (token coded) (token coded)
    false G (Only []) Every → Parses code p (token class) (token class) false G (Only []) Every
as_token {A} p class coded G e h = subst (λ (c : VerilogTerminal → Option A). Parses code p (token c) (token c) false G (Only []) Every) (sym e) h

k : (n : ℕ) → Parses code (read_code n) (token (classed (n ∷ []) spot)) (token (classed (n ∷ []) spot)) false (Only (n ∷ [])) (Only []) Every
k n = one_of (n ∷ []) spot

an_id : Parses code (read_code 1) Grammar.id Grammar.id false (Only (1 ∷ [])) (Only []) Every
an_id = as_token (read_code 1) identifier_at (classed (1 ∷ []) spot) (Only (1 ∷ [])) identifier_class (k 1)

a_number : Parses code (read_code 2) Grammar.verilog_number Grammar.verilog_number false (Only (2 ∷ [])) (Only []) Every
a_number = as_token (read_code 2) number_at (classed (2 ∷ []) spot) (Only (2 ∷ [])) number_class (k 2)

a_literal : Parses code (read_code 3) Grammar.verilog_literal Grammar.verilog_literal false (Only (3 ∷ [])) (Only []) Every
a_literal = as_token (read_code 3) literal_at (classed (3 ∷ []) spot) (Only (3 ∷ [])) literal_class (k 3)

w : (x : Keyword) → Parses code (read_word x) (verilog_keyword x) (verilog_keyword x) false (Only (keyword_code x ∷ [])) (Only []) Every
w x = as_token (read_word x) (Grammar.spelled_as (keyword_text x)) (classed (keyword_code x ∷ []) spot) (Only (keyword_code x ∷ [])) (keyword_class x) (k (keyword_code x))

s : (x : Symbol) → Parses code (read_symbol x) (verilog_symbol x) (verilog_symbol x) false (Only (symbol_code x ∷ [])) (Only []) Every
s x = as_token (read_symbol x) (Grammar.spelled_as (symbol_text x)) (classed (symbol_code x ∷ []) spot) (Only (symbol_code x ∷ [])) (symbol_class x) (k (symbol_code x))

an_operator : Parses code read_operator Grammar.operator Grammar.operator false (Only operators) (Only []) Every
an_operator = as_token read_operator operator_at (classed operators (λ t. primitive_in t.kind)) (Only operators) operator_class (one_of operators (λ t. primitive_in t.kind))

a_sort : Parses code read_sort Grammar.sort Grammar.sort false (Only sort_codes) (Only []) Every
a_sort = as_token read_sort sort_at (classed sort_codes (λ t. sort_in t.kind)) (Only sort_codes) sort_class (one_of sort_codes (λ t. sort_in t.kind))

abbrev semicolon : Set
semicolon = Only (23 ∷ [])

constant_parses : Parses code read_constant Grammar.constant Grammar.constant false (Only (3 ∷ [])) (Only []) semicolon
unfolding read_constant
constant_parses = then a_literal (λ l. parses_nothing code (Literal l) semicolon) refl refl

inverted_parses : Parses code read_inverted Grammar.inverted Grammar.inverted false (Only (28 ∷ [])) (Only []) semicolon
unfolding read_inverted
inverted_parses = then (s symbols.Tilde) (λ o. then an_id (λ a. parses_nothing code (Inverted a) semicolon) refl refl) refl refl

binary_parses : (a : Spot) → Parses code (read_binary a) (Grammar.binary_end a) (Grammar.binary_end a) false (Only operators) (Only []) semicolon
unfolding read_binary
binary_parses a = then an_operator (λ p. then an_id (λ b. parses_nothing code (Binary p a b) semicolon) refl refl) refl refl

choice_parses : (a : Spot) → Parses code (read_choice a) (Grammar.choice_end a) (Grammar.choice_end a) false (Only (29 ∷ [])) (Only []) semicolon
unfolding read_choice
choice_parses a = then (s symbols.Question) (λ o. then an_id
    (λ b. then (s symbols.Colon) (λ l. then an_id (λ c. parses_nothing code (Choice a b c) semicolon) refl refl) refl refl) refl refl) refl refl

joined_parses : Parses code read_joined Grammar.joined Grammar.joined false (Only (30 ∷ [])) (Only []) semicolon
unfolding read_joined
joined_parses = then (s symbols.OpenBrace) (λ o. then an_id (λ a. then (s symbols.Comma)
    (λ l. then an_id (λ b. then (s symbols.CloseBrace) (λ m. parses_nothing code (Joined a b) semicolon) refl refl) refl refl) refl refl) refl refl) refl refl

slice_parses : (a : Spot) → Parses code (read_slice a) (Grammar.slice_end a) (Grammar.slice_end a) false (Only (24 ∷ [])) (Only []) semicolon
unfolding read_slice
slice_parses a = then (s symbols.OpenBracket) (λ o. then a_number
    (λ high. then (s symbols.Colon) (λ l. then a_number (λ low. then (s symbols.CloseBracket) (λ m. parses_nothing code (Slice a high low) semicolon)
    refl refl) refl refl) refl refl) refl refl) refl refl

abbrev by_names : Syntax VerilogTerminal RightSide
by_names = either (follows Grammar.id Grammar.binary_end) (either (follows Grammar.id Grammar.choice_end) (either (follows Grammar.id Grammar.slice_end) (follows Grammar.id Grammar.plain_end)))

-- the four that begin with an identifier are read as one
factored : Same (follows Grammar.id (λ a. either (Grammar.binary_end a) (either (Grammar.choice_end a) (either (Grammar.slice_end a) (Grammar.plain_end a))))) by_names
factored = same_then (same_factored Grammar.id Grammar.binary_end
    (λ a. either (Grammar.choice_end a) (either (Grammar.slice_end a) (Grammar.plain_end a))))
    (same_either (same (follows Grammar.id Grammar.binary_end))
    (same_then (same_factored Grammar.id Grammar.choice_end (λ a. either (Grammar.slice_end a) (Grammar.plain_end a)))
    (same_either (same (follows Grammar.id Grammar.choice_end)) (same_factored Grammar.id Grammar.slice_end Grammar.plain_end))))

named_parses : Parses code read_named by_names by_names false (Only (1 ∷ [])) (Only []) semicolon
unfolding read_named
named_parses = parses_same by_names by_names (then an_id (λ a. or_else (Only operators) (binary_parses a)
    (or_else (Only (29 ∷ [])) (choice_parses a) (or_else (Only (24 ∷ [])) (slice_parses a) (parses_nothing code (Plain a) semicolon) refl refl refl
    refl) refl refl refl refl) refl refl refl refl) refl refl) factored factored

cell_parses : Parses code read_cell Grammar.cell Grammar.cell false (Only (3 ∷ 1 ∷ 28 ∷ 30 ∷ [])) (Only []) semicolon
unfolding read_cell
cell_parses = or_else (Only (3 ∷ [])) constant_parses (or_else (Only (1 ∷ [])) named_parses
    (or_else (Only (28 ∷ [])) inverted_parses joined_parses refl refl refl refl) refl refl refl refl) refl refl refl refl

written_range_parses : Parses code read_written_range Grammar.written_range Grammar.written_range false (Only (24 ∷ [])) (Only []) (Only (1 ∷ []))
unfolding read_written_range
written_range_parses = then (s symbols.OpenBracket) (λ o. then a_number
    (λ high. then (s symbols.Colon) (λ l. then a_number (λ low. then (s symbols.CloseBracket)
    (λ m. parses_nothing code (Some (high, low)) (Only (1 ∷ []))) refl refl) refl refl) refl refl) refl refl) refl refl

range_parses : Parses code read_range Grammar.range Grammar.range true (Only (24 ∷ [])) (Only []) (Only (1 ∷ []))
unfolding read_range
range_parses = or_else (Only (24 ∷ [])) written_range_parses (parses_nothing code None (Only (1 ∷ []))) refl refl refl refl

decl_parses : Parses code read_decl Grammar.decl Grammar.decl false (Only sort_codes) (Only []) Every
unfolding read_decl
decl_parses = then a_sort
    (λ d. then range_parses (λ r. then an_id (λ a. then (s symbols.Semicolon)
    (λ e. parses_nothing code (record { sort = d; range = r; name = a }) Every) refl refl) refl refl) refl refl) refl refl

assign_parses : Parses code read_assign Grammar.assign Grammar.assign false (Only (10 ∷ [])) (Only []) Every
unfolding read_assign
assign_parses = then (w keywords.Assign) (λ o. then an_id (λ a. then (s symbols.Becomes)
    (λ e. then cell_parses (λ c. then (s symbols.Semicolon) (λ z. parses_nothing code (Assign a c) Every) refl refl) refl refl) refl refl) refl refl) refl refl

otherwise_parses : (clock reset target initial : Spot) → Parses code (read_otherwise clock reset target initial)
    (Grammar.otherwise clock reset target initial) (Grammar.otherwise clock reset target initial) false (Only (14 ∷ [])) (Only []) Every
unfolding read_otherwise
otherwise_parses clock reset target initial = then (w keywords.Else)
    (λ k1. then an_id (λ second. then (s symbols.LessEqual) (λ k2. then an_id
    (λ source. then (s symbols.Semicolon) (λ z. parses_nothing code (Always clock reset target initial second source) Every) refl refl) refl refl)
    refl refl) refl refl) refl refl

at_reset_parses : (clock : Spot) → Parses code (read_at_reset clock) (Grammar.at_reset clock) (Grammar.at_reset clock) false (Only (13 ∷ [])) (Only []) Every
unfolding read_at_reset
at_reset_parses clock = then (w keywords.If) (λ k1. then (s symbols.OpenParen)
    (λ k2. then an_id (λ reset. then (s symbols.CloseParen) (λ k3. then an_id
    (λ target. then (s symbols.LessEqual) (λ k4. then a_literal (λ initial. then (s symbols.Semicolon) (λ z. otherwise_parses clock reset target initial)
    refl refl) refl refl) refl refl) refl refl) refl refl) refl refl) refl refl) refl refl

always_parses : Parses code read_always Grammar.always Grammar.always false (Only (11 ∷ [])) (Only []) Every
unfolding read_always
always_parses = then (w keywords.Always) (λ k1. then (s symbols.At)
    (λ k2. then (s symbols.OpenParen) (λ k3. then (w keywords.Posedge)
    (λ k4. then an_id (λ clock. then (s symbols.CloseParen) (λ k5. at_reset_parses clock) refl refl) refl refl) refl refl) refl refl) refl refl) refl refl

stmt_parses : Parses code read_stmt Grammar.stmt Grammar.stmt false (Only (10 ∷ 11 ∷ [])) (Only []) Every
unfolding read_stmt
stmt_parses = or_else (Only (10 ∷ [])) assign_parses always_parses refl refl refl refl

pub another_id_parses : (xs : List Spot) → Parses code (read_another_id xs) (Grammar.another_id xs) (Grammar.another_id xs) false (Only (22 ∷ [])) (Only []) (Only (22 ∷ 21 ∷ []))
unfolding read_another_id
another_id_parses xs = then (s symbols.Comma) (λ c. then an_id (λ x. parses_nothing code (xs ++ x ∷ []) (Only (22 ∷ 21 ∷ []))) refl refl) refl refl

ids_parses : Parses code read_ids Grammar.ids Grammar.ids false (Only (1 ∷ [])) (Only []) (Only (21 ∷ []))
unfolding read_ids
ids_parses = then an_id (λ x. repeated (Only (22 ∷ [])) (Only (21 ∷ [])) another_id_parses refl refl refl refl refl refl refl refl refl (x ∷ [])) refl refl

pub another_decl_parses : (ds : List Declaration) → Parses code (read_another_decl ds) (Grammar.another_decl ds) (Grammar.another_decl ds) false (Only sort_codes) (Only []) Every
unfolding read_another_decl
another_decl_parses ds = then decl_parses (λ d. parses_nothing code (ds ++ d ∷ []) Every) refl refl

pub another_stmt_parses : (ss : List Statement) → Parses code (read_another_stmt ss) (Grammar.another_stmt ss) (Grammar.another_stmt ss) false (Only (10 ∷ 11 ∷ [])) (Only []) Every
unfolding read_another_stmt
another_stmt_parses ss = then stmt_parses (λ z. parses_nothing code (ss ++ z ∷ []) Every) refl refl

body_parses : (hs : List Spot) → Parses code (read_body hs) (Grammar.body hs) (Grammar.body hs) false (Only (sort_codes ++ 10 ∷ 11 ∷ 5 ∷ [])) (Only []) Every
unfolding read_body read_decls read_stmts
body_parses hs = then (repeated (Only sort_codes) (Only (10 ∷ 11 ∷ 5 ∷ [])) another_decl_parses refl refl refl refl refl refl refl refl refl [])
    (λ ds. then (repeated (Only (10 ∷ 11 ∷ [])) (Only (5 ∷ [])) another_stmt_parses refl refl refl refl refl refl refl refl refl [])
    (λ ss. then (w keywords.Endmodule) (λ e. parses_nothing code (record { header = hs; declarations = ds; statements = ss }) Every) refl refl) refl refl) refl refl

file_parses : Parses code read_file Grammar.file Grammar.file false (Only (4 ∷ [])) (Only []) Every
unfolding read_file
file_parses = then (w keywords.Module) (λ o. then an_id (λ x. then (s symbols.OpenParen)
    (λ p. then ids_parses (λ hs. then (s symbols.CloseParen) (λ c. then (s symbols.Semicolon) (λ z. body_parses hs) refl refl) refl refl) refl refl)
    refl refl) refl refl) refl refl

-- ---- whole texts

abbrev the_file : ℕ → Syntax VerilogTerminal File
the_file n = Grammar.file

pub spelled : (ts : List VerilogTerminal) (m : File) (v : List VerilogTerminal) → read_text ts ≡ Ok (m, v) → Spells the_file ts m
unfolding read_text
spelled ts m v e = Text.spelled code read_file the_file 0 false (Only (4 ∷ [])) (Only []) Every (λ n. file_parses) refl ts m v e

pub read_again : (ts : List VerilogTerminal) (m : File) → Spells the_file ts m → read_text ts ≡ Ok (m, [])
unfolding read_text
read_again ts m e = Text.read_again code read_file the_file 0 false (Only (4 ∷ [])) (Only []) Every (λ n. file_parses) refl ts m e

pub first_fault : (ts r : List VerilogTerminal) (e : Rule) → read_text ts ≡ Err (e, r) → Faults the_file ts e r
unfolding read_text
first_fault ts r e h = Text.first_fault code read_file the_file 0 false (Only (4 ∷ [])) (Only []) Every (λ n. file_parses) refl ts r e h

pub one_file : (ts : List VerilogTerminal) (a b : File) → Spells the_file ts a → Spells the_file ts b → a ≡ b
one_file ts a b x y = (ok_parts a b [] [] (sym (read_again ts a x) ∙ read_again ts b y)).0

pub not_both : (ts : List VerilogTerminal) (m : File) (e : Rule) (r : List VerilogTerminal) → Spells the_file ts m → Faults the_file ts e r → ⊥
not_both = Text.not_both code read_file the_file 0 false (Only (4 ∷ [])) (Only []) Every (λ n. file_parses) refl

pub file_or_fault : (ts : List VerilogTerminal) → ((m : File) × Spells the_file ts m) ⊎ ((e : Rule) × (r : List VerilogTerminal) × Faults the_file ts e r)
file_or_fault ts = go (read_text ts) refl
  where
    go : (y : Read VerilogTerminal File) → read_text ts ≡ y → ((m : File) × Spells the_file ts m) ⊎ ((e : Rule) × (r : List VerilogTerminal) × Faults the_file ts e r)
    go (Ok x) e = inl (x.0, spelled ts x.0 x.1 e)
    go (Err f) e = inr (f.0, f.1, first_fault ts f.1 f.0 e)

-- ---- no shorter front of a file is a file

ended : (y : Read VerilogTerminal File) (a b : File) (v r : List VerilogTerminal) → Ends y a v → y ≡ Ok (b, r) → v ≡ r
ended (Ok x) a b v r h e = sym h.1 ∙ (ok_parts x.0 b x.1 r e).1
ended (Err f) a b v r h e = absurd cc

pub no_shorter : (u v : List VerilogTerminal) (a b : File) → Grammar.file.derives u a → Spells the_file (u ++ v) b → v ≡ []
unfolding read_text
no_shorter u v a b d e =
    let whole = read_again (u ++ v) b e in
    let x = bind_ok (read_file (u ++ v)) at_end (b, []) whole in
    let here = ended (read_file (u ++ v)) a x.0.0 v x.0.1 (file_parses.ends u v a d refl) x.1 in
    here ∙ nothing_left x.0.0 x.0.1 x.2
  where
    nothing_left : (m : File) (r : List VerilogTerminal) → at_end (m, r) ≡ Ok (b, []) → r ≡ []
    nothing_left m [] e = refl
    nothing_left m (t ∷ r) e = absurd cc
