-- The grammar of the profile. Each production is written above its symbol.
use Rattle.std.specs.Prelude.{ℕ, List, [], ◌∷◌, ◌++◌, Option, Some, None, if◌then◌else◌}
use Rattle.std.specs.Str.{bytes_eq}
use Rattle.safl_grammar.specs.Syntax.{Syntax, nothing, token, follows, either, any_turns, listed}
use Rattle.safl_word.specs.declared.primitive.Primitive.{Primitive}
use Rattle.safl_word.specs.Operators.{operators, operator_with}
use Rattle.safl_verilog.specs.declared.token.Keyword.{Keyword}
use Rattle.safl_verilog.specs.declared.token.Keyword.TheVariants as keywords
use Rattle.safl_verilog.specs.declared.token.Symbol.{Symbol}
use Rattle.safl_verilog.specs.declared.token.Symbol.TheVariants as symbols
use Rattle.safl_verilog.specs.declared.token.TokenKind.{TokenKind}
use Rattle.safl_verilog.specs.declared.token.TokenKind.TheVariants as kinds
use Rattle.safl_verilog.specs.declared.token.Sort.{Sort}
use Rattle.safl_verilog.specs.declared.token.Sort.TheVariants as sorts
use Rattle.safl_verilog.specs.Tokens.{keyword_text, symbol_text, VerilogTerminal}
use Rattle.safl_verilog.specs.Files.{Spot, RightSide, Literal, Plain, Inverted, Binary, Choice, Joined, Slice, Declaration, Statement, Assign, Always, File}

-- ---- classes of tokens: what a token of the class stands for

abbrev pub spot : VerilogTerminal → Spot
spot t = record { place = t.place; bytes = t.bytes }

-- the text of a keyword or a symbol
abbrev pub verilog_text_in : TokenKind → List ℕ
verilog_text_in (kinds.Keyword k) = keyword_text k
verilog_text_in (kinds.Symbol s) = symbol_text s
verilog_text_in _ = []

-- the keyword or the symbol with this text
abbrev pub spelled_as : List ℕ → VerilogTerminal → Option Spot
spelled_as text t = if bytes_eq text (verilog_text_in t.kind) then Some (spot t) else None

-- an identifier, a number or a sized number stands for itself
abbrev pub spot_of_kind : TokenKind → TokenKind → Spot → Option Spot
spot_of_kind kinds.Identifier kinds.Identifier x = Some x
spot_of_kind kinds.Number kinds.Number x = Some x
spot_of_kind kinds.Sized kinds.Sized x = Some x
spot_of_kind _ _ x = None

-- the keyword of a declaration
abbrev pub declares : TokenKind → Option Sort
declares (kinds.Keyword keywords.Input) = Some sorts.Input
declares (kinds.Keyword keywords.Output) = Some sorts.Output
declares (kinds.Keyword keywords.Reg) = Some sorts.Reg
declares (kinds.Keyword keywords.Wire) = Some sorts.Wire
declares _ = None

-- ---- tokens

abbrev pub verilog_keyword : Keyword → Syntax VerilogTerminal Spot
verilog_keyword k = token (spelled_as (keyword_text k))

abbrev pub verilog_symbol : Symbol → Syntax VerilogTerminal Spot
verilog_symbol s = token (spelled_as (symbol_text s))

abbrev pub id : Syntax VerilogTerminal Spot
id = token (λ (t : VerilogTerminal). spot_of_kind kinds.Identifier t.kind (spot t))

abbrev pub verilog_number : Syntax VerilogTerminal Spot
verilog_number = token (λ (t : VerilogTerminal). spot_of_kind kinds.Number t.kind (spot t))

abbrev pub verilog_literal : Syntax VerilogTerminal Spot
verilog_literal = token (λ (t : VerilogTerminal). spot_of_kind kinds.Sized t.kind (spot t))

-- an operator stands for the primitive on two words that has its symbol
abbrev pub operator : Syntax VerilogTerminal Primitive
operator = token (λ (t : VerilogTerminal). operator_with (verilog_text_in t.kind) operators)

abbrev pub sort : Syntax VerilogTerminal Sort
sort = token (λ (t : VerilogTerminal). declares t.kind)

-- ---- cell := lit | id | "~" id | id OP id | id "?" id ":" id | "{" id "," id "}" | id "[" Num ":" Num "]"

-- "[" Num ":" Num "]"
abbrev pub bracketed : {A : Type 0} → (Spot → Spot → A) → Syntax VerilogTerminal A
bracketed make =
    follows (verilog_symbol symbols.OpenBracket) (λ k. follows verilog_number (λ high. follows (verilog_symbol symbols.Colon) (λ l. follows verilog_number (λ low.
    follows (verilog_symbol symbols.CloseBracket) (λ m. nothing (make high low))))))

abbrev pub cell : Syntax VerilogTerminal RightSide
cell =
    either (follows verilog_literal (λ l. nothing (Literal l)))
    (either
    (either (follows id (λ a. follows operator (λ p. follows id (λ b. nothing (Binary p a b)))))
    (either
    (follows id (λ a. follows (verilog_symbol symbols.Question) (λ k. follows id (λ b. follows (verilog_symbol symbols.Colon) (λ l. follows id (λ c.
    nothing (Choice a b c)))))))
    (either (follows id (λ a. bracketed (λ high low. Slice a high low))) (follows id (λ a. nothing (Plain a))))))
    (either (follows (verilog_symbol symbols.Tilde) (λ k. follows id (λ a. nothing (Inverted a))))
    (follows (verilog_symbol symbols.OpenBrace) (λ k. follows id (λ a. follows (verilog_symbol symbols.Comma) (λ l. follows id (λ b.
    follows (verilog_symbol symbols.CloseBrace) (λ m. nothing (Joined a b)))))))))

-- ---- decl := ( "input" | "output" | "reg" | "wire" ) [ "[" Num ":" Num "]" ] id ";"

abbrev pub range : Syntax VerilogTerminal (Option (Spot × Spot))
range = either (bracketed (λ high low. Some (high, low))) (nothing None)

abbrev pub decl : Syntax VerilogTerminal Declaration
decl =
    follows sort (λ k. follows range (λ r. follows id (λ a. follows (verilog_symbol symbols.Semicolon) (λ s.
    nothing (record { sort = k; range = r; name = a })))))

-- ---- stmt := "assign" id "=" cell ";"
--       | "always" "@" "(" "posedge" id ")" "if" "(" id ")" id "<=" lit ";" "else" id "<=" id ";"

abbrev pub assign : Syntax VerilogTerminal Statement
assign =
    follows (verilog_keyword keywords.Assign) (λ k. follows id (λ a. follows (verilog_symbol symbols.Becomes) (λ e. follows cell (λ c.
    follows (verilog_symbol symbols.Semicolon) (λ s. nothing (Assign a c))))))

abbrev pub always : Syntax VerilogTerminal Statement
always =
    follows (verilog_keyword keywords.Always) (λ k1. follows (verilog_symbol symbols.At) (λ k2. follows (verilog_symbol symbols.OpenParen) (λ k3.
    follows (verilog_keyword keywords.Posedge) (λ k4. follows id (λ clock. follows (verilog_symbol symbols.CloseParen) (λ k5.
    follows (verilog_keyword keywords.If) (λ k6. follows (verilog_symbol symbols.OpenParen) (λ k7. follows id (λ reset. follows (verilog_symbol symbols.CloseParen) (λ k8.
    follows id (λ target. follows (verilog_symbol symbols.LessEqual) (λ k9. follows verilog_literal (λ initial. follows (verilog_symbol symbols.Semicolon) (λ s1.
    follows (verilog_keyword keywords.Else) (λ k10. follows id (λ second. follows (verilog_symbol symbols.LessEqual) (λ k11. follows id (λ source.
    follows (verilog_symbol symbols.Semicolon) (λ s2. nothing (Always clock reset target initial second source))))))))))))))))))))

-- ---- file := "module" id "(" id { "," id } ")" ";" { decl } { stmt } "endmodule"

abbrev pub file : Syntax VerilogTerminal File
file =
    follows (verilog_keyword keywords.Module) (λ k. follows id (λ x. follows (verilog_symbol symbols.OpenParen) (λ o. follows (listed (verilog_symbol symbols.Comma) id) (λ hs.
    follows (verilog_symbol symbols.CloseParen) (λ c. follows (verilog_symbol symbols.Semicolon) (λ s1.
    follows (any_turns (λ (ds : List Declaration). follows decl (λ d. nothing (ds ++ d ∷ []))) []) (λ ds.
    follows (any_turns (λ (ss : List Statement). follows (either assign always) (λ s2. nothing (ss ++ s2 ∷ []))) []) (λ ss.
    follows (verilog_keyword keywords.Endmodule) (λ e. nothing (record { header = hs; declarations = ds; statements = ss }))))))))))

-- ---- parts of productions

abbrev pub identifier_in : TokenKind → Spot → Option Spot
identifier_in k x = spot_of_kind kinds.Identifier k x

abbrev pub number_in : TokenKind → Spot → Option Spot
number_in k x = spot_of_kind kinds.Number k x

abbrev pub literal_in : TokenKind → Spot → Option Spot
literal_in k x = spot_of_kind kinds.Sized k x

abbrev pub constant : Syntax VerilogTerminal RightSide
constant = follows verilog_literal (λ l. nothing (Literal l))

abbrev pub plain_end : Spot → Syntax VerilogTerminal RightSide
plain_end a = nothing (Plain a)

abbrev pub inverted : Syntax VerilogTerminal RightSide
inverted = follows (verilog_symbol symbols.Tilde) (λ k. follows id (λ a. nothing (Inverted a)))

abbrev pub binary_end : Spot → Syntax VerilogTerminal RightSide
binary_end a = follows operator (λ p. follows id (λ b. nothing (Binary p a b)))

abbrev pub choice_end : Spot → Syntax VerilogTerminal RightSide
choice_end a =
    follows (verilog_symbol symbols.Question) (λ k. follows id (λ b. follows (verilog_symbol symbols.Colon) (λ l. follows id (λ c. nothing (Choice a b c)))))

abbrev pub slice_end : Spot → Syntax VerilogTerminal RightSide
slice_end a =
    follows (verilog_symbol symbols.OpenBracket) (λ k. follows verilog_number (λ high. follows (verilog_symbol symbols.Colon) (λ l. follows verilog_number (λ low.
    follows (verilog_symbol symbols.CloseBracket) (λ m. nothing (Slice a high low))))))

abbrev pub joined : Syntax VerilogTerminal RightSide
joined =
    follows (verilog_symbol symbols.OpenBrace) (λ k. follows id (λ a. follows (verilog_symbol symbols.Comma) (λ l. follows id (λ b.
    follows (verilog_symbol symbols.CloseBrace) (λ m. nothing (Joined a b))))))

abbrev pub written_range : Syntax VerilogTerminal (Option (Spot × Spot))
written_range =
    follows (verilog_symbol symbols.OpenBracket) (λ k. follows verilog_number (λ high. follows (verilog_symbol symbols.Colon) (λ l. follows verilog_number (λ low.
    follows (verilog_symbol symbols.CloseBracket) (λ m. nothing (Some (high, low)))))))

-- "else" id "<=" id ";"
abbrev pub otherwise : (clock reset target initial : Spot) → Syntax VerilogTerminal Statement
otherwise clock reset target initial =
    follows (verilog_keyword keywords.Else) (λ k1. follows id (λ second. follows (verilog_symbol symbols.LessEqual) (λ k2. follows id (λ source.
    follows (verilog_symbol symbols.Semicolon) (λ s. nothing (Always clock reset target initial second source))))))

-- "if" "(" id ")" id "<=" lit ";" and what follows
abbrev pub at_reset : (clock : Spot) → Syntax VerilogTerminal Statement
at_reset clock =
    follows (verilog_keyword keywords.If) (λ k1. follows (verilog_symbol symbols.OpenParen) (λ k2. follows id (λ reset. follows (verilog_symbol symbols.CloseParen) (λ k3.
    follows id (λ target. follows (verilog_symbol symbols.LessEqual) (λ k4. follows verilog_literal (λ initial. follows (verilog_symbol symbols.Semicolon) (λ s.
    otherwise clock reset target initial))))))))

abbrev pub stmt : Syntax VerilogTerminal Statement
stmt = either assign always

abbrev pub another_id : List Spot → Syntax VerilogTerminal (List Spot)
another_id xs = follows (verilog_symbol symbols.Comma) (λ c. follows id (λ x. nothing (xs ++ x ∷ [])))

abbrev pub ids : Syntax VerilogTerminal (List Spot)
ids = follows id (λ x. any_turns another_id (x ∷ []))

abbrev pub another_decl : List Declaration → Syntax VerilogTerminal (List Declaration)
another_decl ds = follows decl (λ d. nothing (ds ++ d ∷ []))

abbrev pub another_stmt : List Statement → Syntax VerilogTerminal (List Statement)
another_stmt ss = follows stmt (λ s. nothing (ss ++ s ∷ []))

-- { decl } { stmt } "endmodule"
abbrev pub body : List Spot → Syntax VerilogTerminal File
body hs =
    follows (any_turns (λ (ds : List Declaration). follows decl (λ d. nothing (ds ++ d ∷ []))) []) (λ ds.
    follows (any_turns (λ (ss : List Statement). follows (either assign always) (λ s. nothing (ss ++ s ∷ []))) []) (λ ss.
    follows (verilog_keyword keywords.Endmodule) (λ e. nothing (record { header = hs; declarations = ds; statements = ss }))))
