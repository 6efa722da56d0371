-- Reading a source by recursive descent, with one token of look-ahead. There is a reader for each symbol of the grammar.
use Rattle.std.specs.Prelude.{ℕ, zero, suc, List, [], ◌∷◌, ◌++◌, Option, Some, None, Bool, true, false}
use Rattle.safl_grammar.specs.Syntax.{Deep, Range}
use Rattle.safl_grammar.specs.Reading.{Reading, read_nothing, read_token, read_limited, read_follows, read_either, read_many, read_below}
use Rattle.safl_grammar.specs.Text.{read_whole}
use Rattle.safl_word.specs.declared.token.Key.{Key}
use Rattle.safl_word.specs.declared.token.Key.TheVariants as keys
use Rattle.safl_word.specs.declared.token.Sym.{Sym}
use Rattle.safl_word.specs.declared.token.Sym.TheVariants as syms
use Rattle.safl_word.specs.declared.primitive.Primitive.TheVariants as prims
use Rattle.safl_tree.specs.Tree.{Tree, Number, Sized, Variable, If, Let, Cases, Op, Call, Bound, Labelled, Parameter, Definition, trees_of, binds_of, arms_of, place_of, with_place}
use Rattle.safl_tree.specs.Terminals.{Terminal, NameAt, NumberAt}
use Rattle.safl_tree.specs.Codes.{word_code, symbol_code, comes, marked, name, number, sized, operators, operator}
use Rattle.safl_tree.specs.Grammar.{shallow, fits_width, fits_sized, fits_index, ArmList}

-- sets of tokens that the reader looks ahead for
abbrev pub open_paren : List ℕ
open_paren = symbol_code syms.OpenParen ∷ []

abbrev pub close_paren : List ℕ
close_paren = symbol_code syms.CloseParen ∷ []

abbrev pub comma : List ℕ
comma = symbol_code syms.Comma ∷ []

-- a keyword and a symbol; they give their place
abbrev pub read_word : Key → Reading Terminal ℕ
read_word k = read_token (marked (word_code k))

abbrev pub read_symbol : Sym → Reading Terminal ℕ
read_symbol s = read_token (marked (symbol_code s))

-- ---- leaves

-- width := Num
abbrev pub read_width : Reading Terminal NumberAt
read_width = read_limited Range fits_width number

-- the number of a bit := Num
abbrev pub read_index : Reading Terminal NumberAt
read_index = read_limited Range fits_index number

-- literal := Num
unfoldable pub read_literal : Reading Terminal Tree
read_literal = read_follows (read_token number) (λ n. read_nothing (Number n.place n.value))

-- sized_literal := Sized
unfoldable pub read_sized_literal : Reading Terminal Tree
read_sized_literal = read_follows (read_limited Range fits_sized sized) (λ s. read_nothing (Sized s.place s.width s.value))

-- ---- primary expressions, where e is an expression

-- exprs := e { "," e }
unfoldable pub read_another : Reading Terminal Tree → List Tree → Reading Terminal (List Tree)
read_another e xs = read_follows (read_symbol syms.Comma) (λ sep. read_follows e (λ x. read_nothing (xs ++ x ∷ [])))

unfoldable pub read_exprs : Reading Terminal Tree → Reading Terminal (List Tree)
read_exprs e = read_follows e (λ x. read_many (comes comma) (read_another e) (x ∷ []))

-- called := name "(" [ exprs ] ")"; no expression begins with the `)` after an empty list
unfoldable pub read_no_arguments : NameAt → Reading Terminal Tree
read_no_arguments f = read_follows (read_symbol syms.CloseParen) (λ closed. read_nothing (Call f.place f.name (trees_of [])))

unfoldable pub read_arguments : Reading Terminal Tree → NameAt → Reading Terminal Tree
read_arguments e f = read_follows (read_exprs e) (λ xs. read_follows (read_symbol syms.CloseParen) (λ closed. read_nothing (Call f.place f.name (trees_of xs))))

unfoldable pub read_call : Reading Terminal Tree → NameAt → Reading Terminal Tree
read_call e f = read_follows (read_symbol syms.OpenParen) (λ opened. read_either (comes close_paren) (read_no_arguments f) (read_arguments e f))

-- a variable or a call: a name, with arguments if a `(` comes next
unfoldable pub read_named : Reading Terminal Tree → Reading Terminal Tree
read_named e = read_follows (read_token name) (λ f. read_either (comes open_paren) (read_call e f) (read_nothing (Variable f.place f.name)))

-- parenthesised := "(" e ")"
unfoldable pub read_parenthesised : Reading Terminal Tree → Reading Terminal Tree
read_parenthesised e = read_follows (read_symbol syms.OpenParen) (λ p. read_follows e (λ x. read_follows (read_symbol syms.CloseParen) (λ closed. read_nothing (with_place p x))))

-- cat := "cat" "(" e "," e ")"
unfoldable pub read_cat : Reading Terminal Tree → Reading Terminal Tree
read_cat e = read_follows (read_word keys.Cat) (λ p. read_follows (read_symbol syms.OpenParen) (λ opened. read_follows e (λ a. read_follows (read_symbol syms.Comma) (λ sep. read_follows e (λ b. read_follows (read_symbol syms.CloseParen) (λ closed. read_nothing (Op p prims.Cat (trees_of (a ∷ b ∷ [])))))))))

-- bits := "bits" "(" e "," index "," index ")"
unfoldable pub read_bits : Reading Terminal Tree → Reading Terminal Tree
read_bits e = read_follows (read_word keys.Bits) (λ p. read_follows (read_symbol syms.OpenParen) (λ opened. read_follows e (λ a. read_follows (read_symbol syms.Comma) (λ sep. read_follows read_index (λ high. read_follows (read_symbol syms.Comma) (λ sep. read_follows read_index (λ low. read_follows (read_symbol syms.CloseParen) (λ closed. read_nothing (Op p (prims.Bits high.value low.value) (trees_of (a ∷ [])))))))))))

-- ext := "ext" "(" e "," width ")"
unfoldable pub read_ext : Reading Terminal Tree → Reading Terminal Tree
read_ext e = read_follows (read_word keys.Ext) (λ p. read_follows (read_symbol syms.OpenParen) (λ opened. read_follows e (λ a. read_follows (read_symbol syms.Comma) (λ sep. read_follows read_width (λ n. read_follows (read_symbol syms.CloseParen) (λ closed. read_nothing (Op p (prims.Ext n.value) (trees_of (a ∷ [])))))))))

-- primary := literal | sized_literal | called | variable | parenthesised | cat | bits | ext
unfoldable pub read_primary : Reading Terminal Tree → Reading Terminal Tree
read_primary e = read_either (comes (2 ∷ [])) read_literal (read_either (comes (3 ∷ [])) read_sized_literal (read_either (comes (1 ∷ [])) (read_named e) (read_either (comes open_paren) (read_parenthesised e) (read_either (comes (word_code keys.Cat ∷ [])) (read_cat e) (read_either (comes (word_code keys.Bits ∷ [])) (read_bits e) (read_ext e))))))

-- ---- operators, where u is the operand of "~"

-- unary := "~" u | primary
unfoldable pub read_inverted : Reading Terminal Tree → Reading Terminal Tree
read_inverted u = read_follows (read_symbol syms.Tilde) (λ p. read_follows u (λ x. read_nothing (Op p prims.Not (trees_of (x ∷ [])))))

unfoldable pub read_unary : Reading Terminal Tree → Reading Terminal Tree → Reading Terminal Tree
read_unary u e = read_either (comes (symbol_code syms.Tilde ∷ [])) (read_inverted u) (read_primary e)

-- layer := sub { operator sub }, grouped to the left; of comparisons, sub [ operator sub ]
unfoldable pub read_joined : ℕ → Reading Terminal Tree → Tree → Reading Terminal Tree
read_joined k sub a = read_follows (read_limited Deep (shallow a) (operator k)) (λ op. read_follows sub (λ b. read_nothing (Op (place_of a) op (trees_of (a ∷ b ∷ [])))))

unfoldable pub read_chained : ℕ → Reading Terminal Tree → Reading Terminal Tree
read_chained k sub = read_follows sub (read_many (comes (operators k)) (read_joined k sub))

unfoldable pub read_compared : ℕ → Reading Terminal Tree → Reading Terminal Tree
read_compared k sub = read_follows sub (λ a. read_either (comes (operators k)) (read_joined k sub a) (read_nothing a))

unfoldable pub read_layer : ℕ → Reading Terminal Tree → Reading Terminal Tree
read_layer zero sub = read_chained zero sub
read_layer (suc zero) sub = read_chained (suc zero) sub
read_layer (suc (suc zero)) sub = read_chained (suc (suc zero)) sub
read_layer (suc (suc (suc zero))) sub = read_compared 3 sub
read_layer (suc (suc (suc (suc k)))) sub = read_chained (suc (suc (suc (suc k)))) sub

-- the layers below k, from those that bind the closest: product, sum, shift, comparison, and, xor, or
unfoldable pub read_chain : ℕ → Reading Terminal Tree → Reading Terminal Tree
read_chain zero u = u
read_chain (suc k) u = read_layer k (read_chain k u)

-- ---- expressions, where e is an expression one level below

-- choice := "if" e "then" e "else" e
unfoldable pub read_choice : Reading Terminal Tree → Reading Terminal Tree
read_choice e = read_follows (read_word keys.If) (λ p. read_follows e (λ c. read_follows (read_word keys.Then) (λ thens. read_follows e (λ a. read_follows (read_word keys.Else) (λ elses. read_follows e (λ b. read_nothing (If p c a b)))))))

-- bind := name [ ":" width ] "=" e
unfoldable pub read_written : Reading Terminal (Option ℕ)
read_written = read_either (comes (symbol_code syms.Colon ∷ [])) (read_follows (read_symbol syms.Colon) (λ colon. read_follows read_width (λ n. read_nothing (Some n.value)))) (read_nothing None)

unfoldable pub read_bind : Reading Terminal Tree → Reading Terminal Bound
read_bind e = read_follows (read_token name) (λ x. read_follows read_written (λ w. read_follows (read_symbol syms.Assign) (λ gives. read_follows e (λ v. read_nothing (record { place = x.place; name = x.name; width = w; value = v })))))

-- binding := "let" bind { "," bind } "in" e
unfoldable pub read_another_bind : Reading Terminal Tree → List Bound → Reading Terminal (List Bound)
read_another_bind e bs = read_follows (read_symbol syms.Comma) (λ sep. read_follows (read_bind e) (λ b. read_nothing (bs ++ b ∷ [])))

unfoldable pub read_binds : Reading Terminal Tree → Reading Terminal (List Bound)
read_binds e = read_follows (read_bind e) (λ b. read_many (comes comma) (read_another_bind e) (b ∷ []))

unfoldable pub read_binding : Reading Terminal Tree → Reading Terminal Tree
read_binding e = read_follows (read_word keys.Let) (λ p. read_follows (read_binds e) (λ bs. read_follows (read_word keys.In) (λ inner. read_follows e (λ x. read_nothing (Let p (binds_of bs) x)))))

-- label := Num | Sized
unfoldable pub read_label : Reading Terminal Tree
read_label = read_either (comes (2 ∷ [])) read_literal read_sized_literal

-- arms := { label "=>" e "," } "default" "=>" e, where each arm is one level below the one before it
unfoldable pub read_arm : Reading Terminal Tree → (List Labelled → Reading Terminal ArmList) → List Labelled → Reading Terminal ArmList
read_arm e rest so_far = read_follows read_label (λ l. read_follows (read_symbol syms.Arrow) (λ gives. read_follows e (λ x. read_follows (read_symbol syms.Comma) (λ sep. rest (so_far ++ record { label = l; value = x } ∷ [])))))

unfoldable pub read_last_arm : Reading Terminal Tree → List Labelled → Reading Terminal ArmList
read_last_arm e so_far = read_follows (read_word keys.Default) (λ other. read_follows (read_symbol syms.Arrow) (λ gives. read_follows e (λ x. read_nothing (record { labelled = so_far; default = x }))))

unfoldable pub read_arms : Reading Terminal Tree → (List Labelled → Reading Terminal ArmList) → List Labelled → Reading Terminal ArmList
read_arms e rest so_far = read_either (comes (2 ∷ 3 ∷ [])) (read_arm e rest so_far) (read_last_arm e so_far)

-- cases := "case" e "{" arms "}"
unfoldable pub read_cases : Reading Terminal Tree → (List Labelled → Reading Terminal ArmList) → Reading Terminal Tree
read_cases e rest = read_follows (read_word keys.Case) (λ p. read_follows e (λ s. read_follows (read_symbol syms.OpenBrace) (λ opened. read_follows (rest []) (λ r. read_follows (read_symbol syms.CloseBrace) (λ closed. read_nothing (Cases p s (arms_of r.labelled r.default)))))))

-- expr := choice | binding | cases | or
unfoldable pub read_expr : Reading Terminal Tree → Reading Terminal Tree → (List Labelled → Reading Terminal ArmList) → Reading Terminal Tree
read_expr u e rest = read_either (comes (word_code keys.If ∷ [])) (read_choice e) (read_either (comes (word_code keys.Let ∷ [])) (read_binding e) (read_either (comes (word_code keys.Case ∷ [])) (read_cases e rest) (read_chain 7 u)))

-- ---- levels: the operand of "~", an expression, the value of an arm, and the arms after it, where m levels are left

unfoldable mutual
  pub operand_at : ℕ → Reading Terminal Tree
  operand_at zero = read_below
  operand_at (suc m) = read_unary (operand_at m) (expr_at m)

  pub expr_at : ℕ → Reading Terminal Tree
  expr_at zero = read_below
  expr_at (suc m) = read_expr (read_unary (operand_at m) (expr_at m)) (expr_at m) (read_arms (arm_value_at m) (more_arms_at m))

  pub arm_value_at : ℕ → Reading Terminal Tree
  arm_value_at zero = read_below
  arm_value_at (suc m) = expr_at m

  pub more_arms_at : ℕ → List Labelled → Reading Terminal ArmList
  more_arms_at zero so_far = read_below
  more_arms_at (suc m) so_far = read_arms (arm_value_at m) (more_arms_at m) so_far

unfoldable pub arms_at : ℕ → List Labelled → Reading Terminal ArmList
arms_at m = read_arms (arm_value_at m) (more_arms_at m)

-- ---- programs

-- param := name ":" width
unfoldable pub read_param : Reading Terminal Parameter
read_param = read_follows (read_token name) (λ x. read_follows (read_symbol syms.Colon) (λ colon. read_follows read_width (λ n. read_nothing (record { place = x.place; name = x.name; width = n.value }))))

-- params := [ param { "," param } ]
unfoldable pub read_another_param : List Parameter → Reading Terminal (List Parameter)
read_another_param ps = read_follows (read_symbol syms.Comma) (λ sep. read_follows read_param (λ p. read_nothing (ps ++ p ∷ [])))

unfoldable pub read_params : Reading Terminal (List Parameter)
read_params = read_either (comes (1 ∷ [])) (read_follows read_param (λ p. read_many (comes comma) read_another_param (p ∷ []))) (read_nothing [])

-- one := name "(" params ")" ":" width "=" e
unfoldable pub read_one : Bool → Reading Terminal Tree → Reading Terminal Definition
read_one joins e = read_follows (read_token name) (λ x. read_follows (read_symbol syms.OpenParen) (λ opened. read_follows read_params (λ ps. read_follows (read_symbol syms.CloseParen) (λ closed. read_follows (read_symbol syms.Colon) (λ colon. read_follows read_width (λ n. read_follows (read_symbol syms.Assign) (λ gives. read_follows e (λ b. read_nothing (record { joined = joins; place = x.place; name = x.name; params = ps; width = n.value; body = b })))))))))

-- group := "fun" one { "and" one }
unfoldable pub read_another_one : Reading Terminal Tree → List Definition → Reading Terminal (List Definition)
read_another_one e ds = read_follows (read_word keys.And) (λ k. read_follows (read_one true e) (λ d. read_nothing (ds ++ d ∷ [])))

unfoldable pub read_group : Reading Terminal Tree → List Definition → Reading Terminal (List Definition)
read_group e ds = read_follows (read_word keys.Fun) (λ f. read_follows (read_one false e) (λ d. read_many (comes (word_code keys.And ∷ [])) (read_another_one e) (ds ++ d ∷ [])))

-- program := { group [ ";" ] }
unfoldable pub read_ended : List Definition → Reading Terminal (List Definition)
read_ended ds = read_either (comes (symbol_code syms.Semicolon ∷ [])) (read_follows (read_symbol syms.Semicolon) (λ s. read_nothing ds)) (read_nothing ds)

unfoldable pub read_another_group : Reading Terminal Tree → List Definition → Reading Terminal (List Definition)
read_another_group e ds = read_follows (read_group e ds) read_ended

unfoldable pub read_program : Reading Terminal Tree → Reading Terminal (List Definition)
read_program e = read_many (comes (word_code keys.Fun ∷ [])) (read_another_group e) []

-- the whole text
unfoldable pub read_source : Reading Terminal (List Definition)
read_source = read_whole (read_program (expr_at 100))
