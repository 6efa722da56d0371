-- In a written file no identifier stands after a `;`, and there is no comment.
use Rattle.safl_verilog.proofs.Common.{Decides-eqb, Primitive, Sort, and_parts, flat_map}
use Rattle.std.proofs.Common.{◌≡◌, ℕ, ◌+◌, Bool, true, false, not, ◌==◌, ◌&&◌, List, [], ◌∷◌, ◌++◌, length, Some, None, Option, refl, ap, subst, ◌∙◌, append_assoc}
use Rattle.safl_word.specs.declared.primitive.Primitive.TheVariants as prims
use Rattle.safl_verilog.specs.declared.token.Sort.TheVariants as sorts
use Rattle.safl_verilog.specs.declared.token.TokenKind.TheVariants as kinds
use Rattle.safl_verilog.specs.Tokens.{VerilogPiece, Blank, Line, Block, Lexeme, VerilogTerminal, tokens_from}
use Rattle.safl_verilog.specs.Files.{Spot, Literal, Plain, Inverted, Binary, Choice, Joined, Slice, Declaration, Statement, Assign, Always}
use Rattle.safl_verilog.specs.Codes.{code_of, symbol_code}
use Rattle.safl_verilog.proofs.Printed.{symbol_of, declaration_pieces, statement_pieces, port_pieces, last_pieces, header_end, body_pieces, file_pieces}

-- the test, where a `;` is the last token before the pieces, or is not
abbrev pub in_place : Bool → List VerilogPiece → Bool
in_place closed [] = true
in_place closed (Blank c ∷ xs) = in_place closed xs
in_place closed (Line w ∷ xs) = false
in_place closed (Block w ∷ xs) = false
in_place closed (Lexeme k w ∷ xs) = not (closed && (code_of k == 1)) && in_place (code_of k == 23) xs

-- ---- written files pass it

no_semicolon : (p : Primitive) → (symbol_code (symbol_of p) == 23) ≡ false
no_semicolon prims.Add = refl
no_semicolon prims.Sub = refl
no_semicolon prims.Mul = refl
no_semicolon prims.And = refl
no_semicolon prims.Or = refl
no_semicolon prims.Xor = refl
no_semicolon prims.Not = refl
no_semicolon prims.Eq = refl
no_semicolon prims.Ne = refl
no_semicolon prims.Lt = refl
no_semicolon prims.Le = refl
no_semicolon prims.Gt = refl
no_semicolon prims.Ge = refl
no_semicolon prims.Shl = refl
no_semicolon prims.Shr = refl
no_semicolon prims.Cat = refl
no_semicolon (prims.Bits high low) = refl
no_semicolon (prims.Ext width) = refl

declared : (s : Sort) (r : Option (Spot × Spot)) (x : Spot) (rest : List VerilogPiece) → in_place true (declaration_pieces (record { sort = s; range = r; name = x }) ++ rest) ≡ in_place true rest
declared sorts.Input None x rest = refl
declared sorts.Input (Some r) x rest = refl
declared sorts.Output None x rest = refl
declared sorts.Output (Some r) x rest = refl
declared sorts.Reg None x rest = refl
declared sorts.Reg (Some r) x rest = refl
declared sorts.Wire None x rest = refl
declared sorts.Wire (Some r) x rest = refl

stated : (s : Statement) (rest : List VerilogPiece) → in_place true (statement_pieces s ++ rest) ≡ in_place true rest
stated (Assign x (Literal l)) rest = refl
stated (Assign x (Plain b)) rest = refl
stated (Assign x (Inverted b)) rest = refl
stated (Assign x (Binary p a b)) rest = rw (no_semicolon p) refl
stated (Assign x (Choice a b c)) rest = refl
stated (Assign x (Joined a b)) rest = refl
stated (Assign x (Slice a high low)) rest = refl
stated (Always clock reset target initial second source) rest = refl

items : {X : Type 0} (closed : Bool) (item : X → List VerilogPiece) → ((x : X) (rest : List VerilogPiece) → in_place closed (item x ++ rest) ≡ in_place closed rest)
    → (xs : List X) (rest : List VerilogPiece) → in_place closed (flat_map item xs ++ rest) ≡ in_place closed rest
items closed item h [] rest = refl
items closed item h (x ∷ xs) rest = ap (in_place closed) (append_assoc (item x) (flat_map item xs) rest) ∙ h x (flat_map item xs ++ rest) ∙ items closed item h xs rest

pub file_in_place : (x : Spot) (xs : List Spot) (ds : List Declaration) (ss : List Statement) → in_place false (file_pieces x xs ds ss) ≡ true
file_in_place x xs ds ss =
    items false port_pieces (λ y rest. refl) xs (header_end (body_pieces ds ss))
    ∙ items true declaration_pieces (λ d rest. declared d.sort d.range d.name rest) ds (flat_map statement_pieces ss ++ last_pieces)
    ∙ items true statement_pieces stated ss last_pieces

-- ---- what it says

abbrev pub is_comment : VerilogPiece → Bool
is_comment (Blank c) = false
is_comment (Line w) = true
is_comment (Block w) = true
is_comment (Lexeme k w) = false

pub no_comment : (xs : List VerilogPiece) (closed : Bool) (x : VerilogPiece) (later : List VerilogPiece) → in_place closed (xs ++ x ∷ later) ≡ true → is_comment x ≡ false
no_comment [] closed (Blank c) later h = refl
no_comment [] closed (Line w) later h = absurd cc
no_comment [] closed (Block w) later h = absurd cc
no_comment [] closed (Lexeme k w) later h = refl
no_comment (Blank c ∷ xs) closed x later h = no_comment xs closed x later h
no_comment (Line w ∷ xs) closed x later h = absurd cc
no_comment (Block w ∷ xs) closed x later h = absurd cc
no_comment (Lexeme k w ∷ xs) closed x later h = no_comment xs (code_of k == 23) x later (and_parts (not (closed && (code_of k == 1))) (in_place (code_of k == 23) (xs ++ x ∷ later)) h).1

-- no token stands between a `;` and an identifier
at_once : (xs : List VerilogPiece) (w : List ℕ) (later : List VerilogPiece) (p : ℕ) → in_place true (xs ++ Lexeme kinds.Identifier w ∷ later) ≡ true → tokens_from p xs ≡ [] → ⊥
at_once [] w later p h e = cc
at_once (Blank c ∷ xs) w later p h e = at_once xs w later (p + 1) h e
at_once (Line v ∷ xs) w later p h e = cc
at_once (Block v ∷ xs) w later p h e = cc
at_once (Lexeme k v ∷ xs) w later p h e = cc

pub no_name_behind : (xs : List VerilogPiece) (closed : Bool) (w : List ℕ) (later : List VerilogPiece) (p : ℕ) (before : List VerilogTerminal) (t : VerilogTerminal) → in_place
    closed (xs ++ Lexeme kinds.Identifier w ∷ later) ≡ true → tokens_from p xs ≡ before ++ t ∷ [] → code_of t.kind ≡ 23 → ⊥
no_name_behind [] closed w later p [] t h e c = cc
no_name_behind [] closed w later p (b ∷ before) t h e c = cc
no_name_behind (Blank d ∷ xs) closed w later p before t h e c = no_name_behind xs closed w later (p + 1) before t h e c
no_name_behind (Line v ∷ xs) closed w later p before t h e c = cc
no_name_behind (Block v ∷ xs) closed w later p before t h e c = cc
no_name_behind (Lexeme k v ∷ xs) closed w later p [] t h e c =
    let a = and_parts (not (closed && (code_of k == 1))) (in_place (code_of k == 23) (xs ++ Lexeme kinds.Identifier w ∷ later)) h in
    let same : record { place = p; kind = k; bytes = v } ≡ t = cc in
    let code : code_of k ≡ 23 = ap (λ (x : VerilogTerminal). code_of x.kind) same ∙ c in
    let is : (code_of k == 23) ≡ true = (Decides-eqb (code_of k) 23).1 code in
    at_once xs w later (p + length v) (subst (λ b. in_place b (xs ++ Lexeme kinds.Identifier w ∷ later) ≡ true) is a.1) (let none : tokens_from (p + length v) xs ≡ [] = cc in none)
no_name_behind (Lexeme k v ∷ xs) closed w later p (b ∷ before) t h e c =
    let a = and_parts (not (closed && (code_of k == 1))) (in_place (code_of k == 23) (xs ++ Lexeme kinds.Identifier w ∷ later)) h in
    let more : tokens_from (p + length v) xs ≡ before ++ t ∷ [] = cc in
    no_name_behind xs (code_of k == 23) w later (p + length v) before t a.1 more c
