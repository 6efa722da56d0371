-- Reading a file by recursive descent, with one token of look-ahead.
use Rattle.std.specs.Prelude.{ℕ, List, [], ◌∷◌, ◌++◌, Option, Some, None, Bool}
use Rattle.safl_grammar.specs.Sets.{Only, within}
use Rattle.safl_grammar.specs.Reading.{Reading, read_nothing, read_token, read_follows, read_either, read_many}
use Rattle.safl_grammar.specs.Text.{read_whole}
use Rattle.safl_word.specs.declared.primitive.Primitive.{Primitive}
use Rattle.safl_verilog.specs.declared.token.Keyword.{Keyword}
use Rattle.safl_verilog.specs.declared.token.Keyword.TheVariants as keywords
use Rattle.safl_verilog.specs.declared.token.Symbol.{Symbol}
use Rattle.safl_verilog.specs.declared.token.Symbol.TheVariants as symbols
use Rattle.safl_verilog.specs.declared.token.Sort.{Sort}
use Rattle.safl_verilog.specs.Tokens.{VerilogTerminal}
use Rattle.safl_verilog.specs.Files.{Spot, RightSide, Literal, Plain, Inverted, Binary, Choice, Joined, Slice, Declaration, Statement, Assign, Always, File}
use Rattle.safl_verilog.specs.Grammar.{spot}
use Rattle.safl_verilog.specs.Codes.{code, classed, operators, primitive_in, sort_codes, sort_in, keyword_code, symbol_code}

-- whether a token with one of these codes comes next
abbrev pub comes : List ℕ → Option VerilogTerminal → Bool
comes codes h = within (Only codes) (code h)

abbrev pub read_code : ℕ → Reading VerilogTerminal Spot
read_code k = read_token (classed (k ∷ []) spot)

abbrev pub read_word : Keyword → Reading VerilogTerminal Spot
read_word k = read_code (keyword_code k)

abbrev pub read_symbol : Symbol → Reading VerilogTerminal Spot
read_symbol s = read_code (symbol_code s)

abbrev pub read_operator : Reading VerilogTerminal Primitive
read_operator = read_token (classed operators (λ t. primitive_in t.kind))

abbrev pub read_sort : Reading VerilogTerminal Sort
read_sort = read_token (classed sort_codes (λ t. sort_in t.kind))

unfoldable pub read_constant : Reading VerilogTerminal RightSide
read_constant = read_follows (read_code 3) (λ l. read_nothing (Literal l))

unfoldable pub read_inverted : Reading VerilogTerminal RightSide
read_inverted = read_follows (read_symbol symbols.Tilde) (λ k. read_follows (read_code 1) (λ a. read_nothing (Inverted a)))

unfoldable pub read_binary : Spot → Reading VerilogTerminal RightSide
read_binary a = read_follows read_operator (λ p. read_follows (read_code 1) (λ b. read_nothing (Binary p a b)))

unfoldable pub read_choice : Spot → Reading VerilogTerminal RightSide
read_choice a =
    read_follows (read_symbol symbols.Question) (λ k. read_follows (read_code 1) (λ b. read_follows (read_symbol symbols.Colon) (λ l.
    read_follows (read_code 1) (λ c. read_nothing (Choice a b c)))))

unfoldable pub read_joined : Reading VerilogTerminal RightSide
read_joined =
    read_follows (read_symbol symbols.OpenBrace) (λ k. read_follows (read_code 1) (λ a. read_follows (read_symbol symbols.Comma) (λ l.
    read_follows (read_code 1) (λ b. read_follows (read_symbol symbols.CloseBrace) (λ m. read_nothing (Joined a b))))))

unfoldable pub read_slice : Spot → Reading VerilogTerminal RightSide
read_slice a =
    read_follows (read_symbol symbols.OpenBracket) (λ k. read_follows (read_code 2) (λ high. read_follows (read_symbol symbols.Colon) (λ l.
    read_follows (read_code 2) (λ low. read_follows (read_symbol symbols.CloseBracket) (λ m. read_nothing (Slice a high low))))))

unfoldable pub read_named : Reading VerilogTerminal RightSide
read_named =
    read_follows (read_code 1) (λ a. read_either (comes operators) (read_binary a) (read_either (comes (29 ∷ [])) (read_choice a)
    (read_either (comes (24 ∷ [])) (read_slice a) (read_nothing (Plain a)))))

unfoldable pub read_cell : Reading VerilogTerminal RightSide
read_cell = read_either (comes (3 ∷ [])) read_constant (read_either (comes (1 ∷ [])) read_named (read_either (comes (28 ∷ [])) read_inverted read_joined))

unfoldable pub read_written_range : Reading VerilogTerminal (Option (Spot × Spot))
read_written_range =
    read_follows (read_symbol symbols.OpenBracket) (λ k. read_follows (read_code 2) (λ high. read_follows (read_symbol symbols.Colon) (λ l.
    read_follows (read_code 2) (λ low. read_follows (read_symbol symbols.CloseBracket) (λ m. read_nothing (Some (high, low)))))))

unfoldable pub read_range : Reading VerilogTerminal (Option (Spot × Spot))
read_range = read_either (comes (24 ∷ [])) read_written_range (read_nothing None)

unfoldable pub read_decl : Reading VerilogTerminal Declaration
read_decl =
    read_follows read_sort (λ k. read_follows read_range (λ r. read_follows (read_code 1) (λ a. read_follows (read_symbol symbols.Semicolon) (λ s.
    read_nothing (record { sort = k; range = r; name = a })))))

unfoldable pub read_assign : Reading VerilogTerminal Statement
read_assign =
    read_follows (read_word keywords.Assign) (λ k. read_follows (read_code 1) (λ a. read_follows (read_symbol symbols.Becomes) (λ e.
    read_follows read_cell (λ c. read_follows (read_symbol symbols.Semicolon) (λ s. read_nothing (Assign a c))))))

unfoldable pub read_otherwise : (clock reset target initial : Spot) → Reading VerilogTerminal Statement
read_otherwise clock reset target initial =
    read_follows (read_word keywords.Else) (λ k1. read_follows (read_code 1) (λ second. read_follows (read_symbol symbols.LessEqual) (λ k2.
    read_follows (read_code 1) (λ source. read_follows (read_symbol symbols.Semicolon) (λ s.
    read_nothing (Always clock reset target initial second source))))))

unfoldable pub read_at_reset : (clock : Spot) → Reading VerilogTerminal Statement
read_at_reset clock =
    read_follows (read_word keywords.If) (λ k1. read_follows (read_symbol symbols.OpenParen) (λ k2. read_follows (read_code 1) (λ reset.
    read_follows (read_symbol symbols.CloseParen) (λ k3. read_follows (read_code 1) (λ target. read_follows (read_symbol symbols.LessEqual) (λ k4.
    read_follows (read_code 3) (λ initial. read_follows (read_symbol symbols.Semicolon) (λ s. read_otherwise clock reset target initial))))))))

unfoldable pub read_always : Reading VerilogTerminal Statement
read_always =
    read_follows (read_word keywords.Always) (λ k1. read_follows (read_symbol symbols.At) (λ k2. read_follows (read_symbol symbols.OpenParen) (λ k3.
    read_follows (read_word keywords.Posedge) (λ k4. read_follows (read_code 1) (λ clock. read_follows (read_symbol symbols.CloseParen) (λ k5.
    read_at_reset clock))))))

unfoldable pub read_stmt : Reading VerilogTerminal Statement
read_stmt = read_either (comes (10 ∷ [])) read_assign read_always

unfoldable pub read_another_id : List Spot → Reading VerilogTerminal (List Spot)
read_another_id xs = read_follows (read_symbol symbols.Comma) (λ c. read_follows (read_code 1) (λ x. read_nothing (xs ++ x ∷ [])))

unfoldable pub read_ids : Reading VerilogTerminal (List Spot)
read_ids = read_follows (read_code 1) (λ x. read_many (comes (22 ∷ [])) read_another_id (x ∷ []))

unfoldable pub read_another_decl : List Declaration → Reading VerilogTerminal (List Declaration)
read_another_decl ds = read_follows read_decl (λ d. read_nothing (ds ++ d ∷ []))

unfoldable pub read_decls : Reading VerilogTerminal (List Declaration)
read_decls = read_many (comes sort_codes) read_another_decl []

unfoldable pub read_another_stmt : List Statement → Reading VerilogTerminal (List Statement)
read_another_stmt ss = read_follows read_stmt (λ s. read_nothing (ss ++ s ∷ []))

unfoldable pub read_stmts : Reading VerilogTerminal (List Statement)
read_stmts = read_many (comes (10 ∷ 11 ∷ [])) read_another_stmt []

unfoldable pub read_body : List Spot → Reading VerilogTerminal File
read_body hs =
    read_follows read_decls (λ ds. read_follows read_stmts (λ ss. read_follows (read_word keywords.Endmodule) (λ e.
    read_nothing (record { header = hs; declarations = ds; statements = ss }))))

unfoldable pub read_file : Reading VerilogTerminal File
read_file =
    read_follows (read_word keywords.Module) (λ k. read_follows (read_code 1) (λ x. read_follows (read_symbol symbols.OpenParen) (λ o.
    read_follows read_ids (λ hs. read_follows (read_symbol symbols.CloseParen) (λ c. read_follows (read_symbol symbols.Semicolon) (λ s.
    read_body hs))))))

unfoldable pub read_text : Reading VerilogTerminal File
read_text = read_whole read_file
