-- The tokens of a written file read as that file, places aside.
use Rattle.safl_verilog.proofs.Common.{Each, Primitive, Sort, append-nil, flat_map}
use Rattle.std.proofs.Common.{◌≡◌, ℕ, ◌+◌, ◌<◌, List, [], ◌∷◌, ◌++◌, length, map, Bool, true, false, cond, Some, None, Option, Ok, refl, sym, ap, ◌∙◌, append_assoc}
use Rattle.safl_grammar.specs.Reading.{Read, Reading, ◌>>=◌, head_of, read_many, read_follows, read_nothing}
use Rattle.safl_grammar.specs.Text.{at_end}
use Rattle.safl_grammar.proofs.Many.{many_step}
use Rattle.safl_grammar.proofs.Small.{eats_parses}
use Rattle.safl_word.specs.declared.primitive.Primitive.TheVariants as prims
use Rattle.safl_verilog.specs.declared.token.Keyword.TheVariants as keywords
use Rattle.safl_verilog.specs.declared.token.Symbol.TheVariants as symbols
use Rattle.safl_verilog.specs.declared.token.Sort.TheVariants as sorts
use Rattle.safl_verilog.specs.Tokens.{VerilogTerminal, VerilogPiece, Blank, Line, Block, Lexeme, piece_text, tokens_from}
use Rattle.safl_verilog.specs.Files.{Spot, RightSide, Literal, Plain, Inverted, Binary, Choice, Joined, Slice, Declaration, Statement, Assign, Always, File}
use Rattle.safl_verilog.specs.Codes.{sort_codes}
use Rattle.safl_verilog.specs.Reader.{comes, read_word, read_symbol, read_constant, read_inverted, read_binary, read_choice, read_joined, read_slice}
use Rattle.safl_verilog.specs.Reader.{read_named, read_cell, read_written_range, read_range, read_decl, read_assign, read_otherwise, read_at_reset}
use Rattle.safl_verilog.specs.Reader.{read_always, read_stmt, read_another_id, read_ids, read_another_decl, read_decls, read_another_stmt, read_stmts}
use Rattle.safl_verilog.specs.Reader.{read_body, read_file, read_text}
use Rattle.safl_verilog.proofs.Grammar.{another_id_parses, another_decl_parses, another_stmt_parses}
use Rattle.safl_verilog.proofs.Printed.{is_operator, declaration_pieces, statement_pieces, port_pieces, last_pieces, body_pieces, header_end, file_pieces, FineStatement}

-- ---- files without places

abbrev pub bare : Spot → Spot
bare x = record { place = 0; bytes = x.bytes }

abbrev pub bare_expression : RightSide → RightSide
bare_expression (Literal l) = Literal (bare l)
bare_expression (Plain a) = Plain (bare a)
bare_expression (Inverted a) = Inverted (bare a)
bare_expression (Binary p a b) = Binary p (bare a) (bare b)
bare_expression (Choice a b c) = Choice (bare a) (bare b) (bare c)
bare_expression (Joined a b) = Joined (bare a) (bare b)
bare_expression (Slice a high low) = Slice (bare a) (bare high) (bare low)

abbrev pub bare_range : Option (Spot × Spot) → Option (Spot × Spot)
bare_range None = None
bare_range (Some r) = Some (bare r.0, bare r.1)

abbrev pub bare_declaration : Declaration → Declaration
bare_declaration d = record { sort = d.sort; range = bare_range d.range; name = bare d.name }

abbrev pub bare_statement : Statement → Statement
bare_statement (Assign x e) = Assign (bare x) (bare_expression e)
bare_statement (Always clock reset target initial second source) = Always (bare clock) (bare reset) (bare target) (bare initial) (bare second) (bare source)

abbrev pub bare_file : File → File
bare_file f = record { header = map bare f.header; declarations = map bare_declaration f.declarations; statements = map bare_statement f.statements }

-- ---- tokens of pieces

-- where the tokens of the pieces after these begin
abbrev pub behind : ℕ → List VerilogPiece → ℕ
behind p [] = p
behind p (Blank c ∷ xs) = behind (p + 1) xs
behind p (Line w ∷ xs) = behind (p + length (piece_text (Line w))) xs
behind p (Block w ∷ xs) = behind (p + length (piece_text (Block w))) xs
behind p (Lexeme k w ∷ xs) = behind (p + length w) xs

pub tokens_append : (xs ys : List VerilogPiece) (p : ℕ) → tokens_from p (xs ++ ys) ≡ tokens_from p xs ++ tokens_from (behind p xs) ys
tokens_append [] ys p = refl
tokens_append (Blank c ∷ xs) ys p = tokens_append xs ys (p + 1)
tokens_append (Line w ∷ xs) ys p = tokens_append xs ys (p + length (piece_text (Line w)))
tokens_append (Block w ∷ xs) ys p = tokens_append xs ys (p + length (piece_text (Block w)))
tokens_append (Lexeme k w ∷ xs) ys p = ap (λ (l : List VerilogTerminal). record { place = p; kind = k; bytes = w } ∷ l) (tokens_append xs ys (p + length w))

-- ---- lists of items

module _ {X : Type 0} (test : Option VerilogTerminal → Bool) (go : List X → Reading VerilogTerminal (List X))
    (eats : (a : List X) (w r : List VerilogTerminal) (x : List X) → go a w ≡ Ok (x, r) → length r < length w) (item : X → List VerilogPiece) (show : X → X)
    (Fine : X → Type 0) (one : (x : X) → Fine x → (a : List X) (p : ℕ) (rest : List VerilogTerminal) → (y : X) ×
    (go a (tokens_from p (item x) ++ rest) ≡ Ok (a ++ y ∷ [], rest)) × (show y ≡ show x))
    (begins : (x : X) (p : ℕ) (rest : List VerilogTerminal) → test (head_of (tokens_from p (item x) ++ rest)) ≡ true) where
  items : (xs : List X) → Each Fine xs → (a : List X) (p : ℕ) (rest : List VerilogTerminal) → test (head_of rest) ≡ false → (ys : List X) ×
      (read_many test go a (tokens_from p (flat_map item xs) ++ rest) ≡ Ok (a ++ ys, rest)) × (map show ys ≡ map show xs)
  items [] h a p rest e = (
    [],
    many_step test go eats a rest ∙ ap (λ (b : Bool). cond b (go a rest >>= λ y. read_many test go y.0 y.1) (Ok (a, rest)))
        e ∙ ap (λ (l : List X). Ok (l, rest)) (sym (append-nil a)),
    refl,
  )
  items (x ∷ xs) h a p rest e =
      let w = tokens_from p (item x) ++ (tokens_from (behind p (item x)) (flat_map item xs) ++ rest) in
      let split : tokens_from p (flat_map item (x ∷ xs)) ++ rest ≡ w = ap (λ (l : List VerilogTerminal). l ++ rest)
      (tokens_append (item x) (flat_map item xs) p) ∙ append_assoc (tokens_from p (item x)) (tokens_from (behind p (item x)) (flat_map item xs)) rest in
      let y = one x h.0 a p (tokens_from (behind p (item x)) (flat_map item xs) ++ rest) in
      let ys = items xs h.1 (a ++ y.0 ∷ []) (behind p (item x)) rest e in
      let turn : read_many test go a w ≡ read_many test go (a ++ y.0 ∷ []) (tokens_from (behind p (item x)) (flat_map item xs) ++ rest) =
      many_step test go eats a w ∙ ap (λ (b : Bool). cond b (go a w >>= λ y. read_many test go y.0 y.1) (Ok (a, w)))
      (begins x p (tokens_from (behind p (item x)) (flat_map item xs) ++ rest)) ∙ ap (λ (z : Read VerilogTerminal (List X)). z >>= λ y. read_many test go y.0 y.1) y.1 in (
        y.0 ∷ ys.0,
        ap (read_many test go a) split ∙ turn ∙ ys.1 ∙ ap (λ (l : List X). Ok (l, rest)) (append_assoc a (y.0 ∷ []) ys.0),
        ap (λ (z : X). z ∷ map show ys.0) y.2 ∙ ap (λ (l : List X). show x ∷ l) ys.2,
      )

-- ---- items

one_port : (x : Spot) → Unit {0} → (a : List Spot) (p : ℕ) (rest : List VerilogTerminal) → (y : Spot) ×
    (read_another_id a (tokens_from p (port_pieces x) ++ rest) ≡ Ok (a ++ y ∷ [], rest)) × (bare y ≡ bare x)
unfolding read_another_id
one_port x h a p rest = (_, refl, refl)

declared : (s : Sort) (o : Option (Spot × Spot)) (x : Spot) (a : List Declaration) (p : ℕ) (rest : List VerilogTerminal) → (d : Declaration) ×
    (read_another_decl a (tokens_from p (declaration_pieces (record { sort = s; range = o; name = x })) ++ rest) ≡ Ok (a ++ d ∷ [], rest)) ×
    (bare_declaration d ≡ bare_declaration (record { sort = s; range = o; name = x }))
unfolding read_another_decl read_decl read_range read_written_range
declared sorts.Input None x a p rest = (_, refl, refl)
declared sorts.Input (Some r) x a p rest = (_, refl, refl)
declared sorts.Output None x a p rest = (_, refl, refl)
declared sorts.Output (Some r) x a p rest = (_, refl, refl)
declared sorts.Reg None x a p rest = (_, refl, refl)
declared sorts.Reg (Some r) x a p rest = (_, refl, refl)
declared sorts.Wire None x a p rest = (_, refl, refl)
declared sorts.Wire (Some r) x a p rest = (_, refl, refl)

declared_begins : (d : Declaration) (p : ℕ) (rest : List VerilogTerminal) → comes sort_codes (head_of (tokens_from p (declaration_pieces d) ++ rest)) ≡ true
declared_begins d p rest = go d.sort d.range d.name
  where
    go : (s : Sort) (o : Option (Spot × Spot)) (x : Spot) → comes sort_codes (head_of (tokens_from p (declaration_pieces (record { sort = s; range = o; name = x })) ++ rest)) ≡ true
    go sorts.Input o x = refl
    go sorts.Output o x = refl
    go sorts.Reg o x = refl
    go sorts.Wire o x = refl

abbrev Stated : Statement → Type 0
Stated s = (a : List Statement) (p : ℕ) (rest : List VerilogTerminal) → (y : Statement) ×
    (read_another_stmt a (tokens_from p (statement_pieces s) ++ rest) ≡ Ok (a ++ y ∷ [], rest)) × (bare_statement y ≡ bare_statement s)

binary : (x : Spot) (o : Primitive) (b c : Spot) → is_operator o ≡ true → Stated (Assign x (Binary o b c))
unfolding read_another_stmt read_stmt read_assign read_cell read_named read_binary
binary x prims.Add b c h a p rest = (_, refl, refl)
binary x prims.Sub b c h a p rest = (_, refl, refl)
binary x prims.Mul b c h a p rest = (_, refl, refl)
binary x prims.And b c h a p rest = (_, refl, refl)
binary x prims.Or b c h a p rest = (_, refl, refl)
binary x prims.Xor b c h a p rest = (_, refl, refl)
binary x prims.Eq b c h a p rest = (_, refl, refl)
binary x prims.Ne b c h a p rest = (_, refl, refl)
binary x prims.Lt b c h a p rest = (_, refl, refl)
binary x prims.Le b c h a p rest = (_, refl, refl)
binary x prims.Gt b c h a p rest = (_, refl, refl)
binary x prims.Ge b c h a p rest = (_, refl, refl)
binary x prims.Shl b c h a p rest = (_, refl, refl)
binary x prims.Shr b c h a p rest = (_, refl, refl)
binary x prims.Not b c h a p rest = absurd cc
binary x prims.Cat b c h a p rest = absurd cc
binary x (prims.Bits high low) b c h a p rest = absurd cc
binary x (prims.Ext width) b c h a p rest = absurd cc

stated : (s : Statement) → FineStatement s → Stated s
unfolding read_another_stmt read_stmt read_assign read_cell read_named read_constant read_inverted read_choice read_joined read_slice read_always read_at_reset read_otherwise
stated (Assign x (Literal l)) h a p rest = (_, refl, refl)
stated (Assign x (Plain b)) h a p rest = (_, refl, refl)
stated (Assign x (Inverted b)) h a p rest = (_, refl, refl)
stated (Assign x (Binary o b c)) h a p rest = binary x o b c h.1.0 a p rest
stated (Assign x (Choice b c d)) h a p rest = (_, refl, refl)
stated (Assign x (Joined b c)) h a p rest = (_, refl, refl)
stated (Assign x (Slice b high low)) h a p rest = (_, refl, refl)
stated (Always clock reset target initial second source) h a p rest = (_, refl, refl)

stated_begins : (s : Statement) (p : ℕ) (rest : List VerilogTerminal) → comes (10 ∷ 11 ∷ []) (head_of (tokens_from p (statement_pieces s) ++ rest)) ≡ true
stated_begins (Assign x e) p rest = refl
stated_begins (Always clock reset target initial second source) p rest = refl

-- ---- whole files

no_declaration : (ss : List Statement) (p : ℕ) → comes sort_codes (head_of (tokens_from p (flat_map statement_pieces ss ++ last_pieces))) ≡ false
no_declaration [] p = refl
no_declaration (Assign x e ∷ ss) p = refl
no_declaration (Always clock reset target initial second source ∷ ss) p = refl

body_reads : (hs : List Spot) (ds : List Declaration) (ss : List Statement) → Each FineStatement ss → (p : ℕ) → (f : File) ×
    (read_body hs (tokens_from p (body_pieces ds ss)) ≡ Ok (f, [])) ×
    (bare_file f ≡ record { header = map bare hs; declarations = map bare_declaration ds; statements = map bare_statement ss })
unfolding read_body read_decls read_stmts
body_reads hs ds ss h p =
    let later = flat_map statement_pieces ss ++ last_pieces in
    let q = behind p (flat_map declaration_pieces ds) in
    let r = behind q (flat_map statement_pieces ss) in
    let every : Each (λ d. Unit {0}) ds = each_plain ds in
    let d = items (comes sort_codes) read_another_decl (λ a. (eats_parses (another_decl_parses a)).left) declaration_pieces bare_declaration
    (λ d. Unit {0}) (λ d u. declared d.sort d.range d.name) declared_begins ds every [] p (tokens_from q later) (no_declaration ss q) in
    let s = items (comes (10 ∷ 11 ∷ [])) read_another_stmt (λ a. (eats_parses (another_stmt_parses a)).left) statement_pieces bare_statement
    FineStatement stated stated_begins ss h [] q (tokens_from r last_pieces) refl in
    let first : read_many (comes sort_codes) read_another_decl [] (tokens_from p (body_pieces ds ss)) ≡ Ok (d.0, tokens_from q later) = ap
    (read_many (comes sort_codes) read_another_decl []) (tokens_append (flat_map declaration_pieces ds) later p) ∙ d.1 in
    let second : read_many (comes (10 ∷ 11 ∷ [])) read_another_stmt [] (tokens_from q later) ≡ Ok (s.0, tokens_from r last_pieces) = ap
    (read_many (comes (10 ∷ 11 ∷ [])) read_another_stmt []) (tokens_append (flat_map statement_pieces ss) last_pieces q) ∙ s.1 in
    let k : List Declaration × List VerilogTerminal → Read VerilogTerminal File = λ (ds : List Declaration × List VerilogTerminal). read_follows
    (read_many (comes (10 ∷ 11 ∷ [])) read_another_stmt []) (λ ss. read_follows (read_word keywords.Endmodule)
    (λ e. read_nothing (record { header = hs; declarations = ds.0; statements = ss }))) ds.1 in
    let l : List Statement × List VerilogTerminal → Read VerilogTerminal File = λ (ss : List Statement × List VerilogTerminal). read_follows (read_word keywords.Endmodule)
    (λ e. read_nothing (record { header = hs; declarations = d.0; statements = ss.0 })) ss.1 in (
      record { header = hs; declarations = d.0; statements = s.0 },
      ap (λ (z : Read VerilogTerminal (List Declaration)). z >>= k) first ∙ ap (λ (z : Read VerilogTerminal (List Statement)). z >>= l) second,
      ap (λ (ds : List Declaration). record { header = map bare hs; declarations = ds; statements = map bare_statement s.0 }) d.2 ∙ ap
          (λ (ss : List Statement). record { header = map bare hs; declarations = map bare_declaration ds; statements = ss }) s.2,
    )
  where
    each_plain : (ds : List Declaration) → Each (λ d. Unit {0}) ds
    each_plain [] = tt
    each_plain (d ∷ ds) = (tt, each_plain ds)

abbrev after_header : List Spot → Reading VerilogTerminal File
after_header hs = read_follows (read_symbol symbols.CloseParen) (λ c. read_follows (read_symbol symbols.Semicolon) (λ s. read_body hs))

header_reads : (x : Spot) (xs : List Spot) (ds : List Declaration) (ss : List Statement) → Each FineStatement ss → (p : ℕ) → (f : File) ×
    (read_follows (read_many (comes (22 ∷ [])) read_another_id (x ∷ [])) after_header
    (tokens_from p (flat_map port_pieces xs ++ header_end (body_pieces ds ss))) ≡ Ok (f, [])) ×
    (bare_file f ≡ record { header = bare x ∷ map bare xs; declarations = map bare_declaration ds; statements = map bare_statement ss })
header_reads x xs ds ss h p =
    let q = behind p (flat_map port_pieces xs) in
    let ys = items (comes (22 ∷ [])) read_another_id (λ a. (eats_parses (another_id_parses a)).left) port_pieces bare (λ x. Unit {0}) one_port
    (λ x p rest. refl) xs (each_plain xs) (x ∷ []) p (tokens_from q (header_end (body_pieces ds ss))) refl in
    let first : read_many (comes (22 ∷ [])) read_another_id (x ∷ []) (tokens_from p (flat_map port_pieces xs ++ header_end (body_pieces ds ss))) ≡ Ok
    (x ∷ ys.0, tokens_from q (header_end (body_pieces ds ss))) = ap (read_many (comes (22 ∷ [])) read_another_id (x ∷ []))
    (tokens_append (flat_map port_pieces xs) (header_end (body_pieces ds ss)) p) ∙ ys.1 in
    let b = body_reads (x ∷ ys.0) ds ss h (q + 1 + 1 + 1) in (
      b.0,
      ap (λ (z : Read VerilogTerminal (List Spot)). z >>= λ y. after_header y.0 y.1) first ∙ b.1,
      b.2 ∙ ap (λ (l : List Spot). record { header = bare x ∷ l; declarations = map bare_declaration ds; statements = map bare_statement ss }) ys.2,
    )
  where
    each_plain : (xs : List Spot) → Each (λ d. Unit {0}) xs
    each_plain [] = tt
    each_plain (d ∷ xs) = (tt, each_plain xs)

-- the file that is read, which is the one that was written but for its places
pub record ReadBack (x : Spot) (xs : List Spot) (ds : List Declaration) (ss : List Statement) : Type 0 where
  pub file : File
  pub read : read_text (tokens_from 0 (file_pieces x xs ds ss)) ≡ Ok (file, [])
  pub same : bare_file file ≡ record { header = bare x ∷ map bare xs; declarations = map bare_declaration ds; statements = map bare_statement ss }

pub reads_back : (x : Spot) (xs : List Spot) (ds : List Declaration) (ss : List Statement) → Each FineStatement ss → ReadBack x xs ds ss
unfolding read_text read_file read_ids
reads_back x xs ds ss h =
    let b = header_reads (record { place = _; bytes = x.bytes }) xs ds ss h _ in
    record { file = b.0; read = ap (λ (z : Read VerilogTerminal File). z >>= at_end) b.1; same = b.2 }
