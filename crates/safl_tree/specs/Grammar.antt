-- The grammar of a source. Each production is written above its symbol.
use Rattle.std.specs.Prelude.{ℕ, zero, suc, List, [], ◌∷◌, ◌++◌, Option, Some, None, Bool, true, false, nat_lt, nat_le, if◌then◌else◌, cond, ◌==◌}
use Rattle.safl_grammar.specs.Syntax.{Deep, Range, Syntax, nothing, token, limited, follows, either, without_begin, any_turns, too_high, below, listed}
use Rattle.safl_word.specs.Limits.{width_max}
use Rattle.safl_word.specs.Tokens.{key_text, sym_text}
use Rattle.safl_word.specs.declared.token.Key.{Key}
use Rattle.safl_word.specs.declared.token.Key.TheVariants as keys
use Rattle.safl_word.specs.declared.token.Sym.{Sym}
use Rattle.safl_word.specs.declared.token.Sym.TheVariants as syms
use Rattle.safl_word.specs.declared.primitive.Primitive.{Primitive}
use Rattle.safl_word.specs.declared.primitive.Primitive.TheVariants as prims
use Rattle.safl_tree.specs.Tree.{Tree, Number, Sized, Variable, If, Let, Cases, Op, Call, Bound, Labelled, Parameter, Definition, trees_of, binds_of, arms_of, place_of, with_place, depth}
use Rattle.safl_tree.specs.Terminals.{Terminal, spelled, comes_spelled, NameAt, name_token, NumberAt, number_at, SizedAt, sized_at, operator_at}

-- a keyword and a symbol; they give their place
abbrev pub word : Key → Syntax Terminal ℕ
word k = token (spelled (key_text k))

abbrev pub symbol : Sym → Syntax Terminal ℕ
symbol s = token (spelled (sym_text s))

-- ---- limits

-- whether a width is from 1 to the greatest
abbrev pub is_written_width : ℕ → Bool
is_written_width n = if nat_le 1 n then nat_le n width_max else false

-- ---- leaves

-- width := Num
abbrev pub width : Syntax Terminal NumberAt
width = limited Range (λ (n : NumberAt). is_written_width n.value) number_at

-- the number of a bit, which is below the greatest width := Num
abbrev pub index : Syntax Terminal NumberAt
index = limited Range (λ (n : NumberAt). nat_lt n.value width_max) number_at

-- literal := Num
abbrev pub number_literal : Syntax Terminal Tree
number_literal = follows (token number_at) (λ n. nothing (Number n.place n.value))

-- sized_literal := Sized
abbrev pub sized_literal : Syntax Terminal Tree
sized_literal = follows (limited Range (λ (s : SizedAt). is_written_width s.width) sized_at) (λ s. nothing (Sized s.place s.width s.value))

-- variable := name
abbrev pub variable : Syntax Terminal Tree
variable = follows (token name_token) (λ x. nothing (Variable x.place x.name))

-- ---- primary expressions, where e is an expression

-- called := name "(" [ e { "," e } ] ")"; no expression begins with the `)` after an empty list
abbrev pub call_syntax : Syntax Terminal Tree → Syntax Terminal Tree
call_syntax e =
    follows (token name_token) (λ f. follows (symbol syms.OpenParen) (λ opened.
    either (follows (symbol syms.CloseParen) (λ closed. nothing (Call f.place f.name (trees_of []))))
    (without_begin (comes_spelled (sym_text syms.CloseParen))
    (follows (listed (symbol syms.Comma) e) (λ xs. follows (symbol syms.CloseParen) (λ closed. nothing (Call f.place f.name (trees_of xs))))))))

-- parenthesised := "(" e ")"
abbrev pub parenthesised : Syntax Terminal Tree → Syntax Terminal Tree
parenthesised e = follows (symbol syms.OpenParen) (λ p. follows e (λ x. follows (symbol syms.CloseParen) (λ closed. nothing (with_place p x))))

-- cat := "cat" "(" e "," e ")"
abbrev pub cat : Syntax Terminal Tree → Syntax Terminal Tree
cat e = follows (word keys.Cat) (λ p. follows (symbol syms.OpenParen) (λ opened. follows e (λ a. follows (symbol syms.Comma) (λ comma. follows e (λ b. follows (symbol syms.CloseParen) (λ closed. nothing (Op p prims.Cat (trees_of (a ∷ b ∷ [])))))))))

-- bits := "bits" "(" e "," index "," index ")"
abbrev pub bits : Syntax Terminal Tree → Syntax Terminal Tree
bits e = follows (word keys.Bits) (λ p. follows (symbol syms.OpenParen) (λ opened. follows e (λ a. follows (symbol syms.Comma) (λ comma. follows index (λ high. follows (symbol syms.Comma) (λ comma. follows index (λ low. follows (symbol syms.CloseParen) (λ closed. nothing (Op p (prims.Bits high.value low.value) (trees_of (a ∷ [])))))))))))

-- ext := "ext" "(" e "," width ")"
abbrev pub ext : Syntax Terminal Tree → Syntax Terminal Tree
ext e = follows (word keys.Ext) (λ p. follows (symbol syms.OpenParen) (λ opened. follows e (λ a. follows (symbol syms.Comma) (λ comma. follows width (λ n. follows (symbol syms.CloseParen) (λ closed. nothing (Op p (prims.Ext n.value) (trees_of (a ∷ [])))))))))

-- primary := literal | sized_literal | called | variable | parenthesised | cat | bits | ext
abbrev pub primary : Syntax Terminal Tree → Syntax Terminal Tree
primary e = either number_literal (either sized_literal (either (either (call_syntax e) variable) (either (parenthesised e) (either (cat e) (either (bits e) (ext e))))))

-- ---- operators, where u is the operand of "~"

-- unary := "~" u | primary
abbrev pub unary : Syntax Terminal Tree → Syntax Terminal Tree → Syntax Terminal Tree
unary u e = either (follows (symbol syms.Tilde) (λ p. follows u (λ x. nothing (Op p prims.Not (trees_of (x ∷ [])))))) (primary e)

-- operator sub, behind a left operand a of a depth of at most 99
abbrev pub joined : ℕ → Syntax Terminal Tree → Tree → Syntax Terminal Tree
joined k sub a =
    follows (limited Deep (λ (op : Primitive). nat_lt (depth a) 100) (operator_at k))
    (λ op. follows sub (λ b. nothing (Op (place_of a) op (trees_of (a ∷ b ∷ [])))))

-- layer := sub { operator sub }, grouped to the left; of comparisons, which are layer 3, sub [ operator sub ]
abbrev pub operator_layer : ℕ → Syntax Terminal Tree → Syntax Terminal Tree
operator_layer k sub = cond (k == 3) (follows sub (λ a. either (joined k sub a) (nothing a))) (follows sub (any_turns (joined k sub)))

-- the layers below k, from those that bind the closest: product, sum, shift, comparison, and, xor, or
abbrev pub chain : ℕ → Syntax Terminal Tree → Syntax Terminal Tree
chain zero u = u
chain (suc k) u = operator_layer k (chain k u)

-- ---- expressions, where e is an expression one level below

-- choice := "if" e "then" e "else" e
abbrev pub choice : Syntax Terminal Tree → Syntax Terminal Tree
choice e = follows (word keys.If) (λ p. follows e (λ c. follows (word keys.Then) (λ thens. follows e (λ a. follows (word keys.Else) (λ elses. follows e (λ b. nothing (If p c a b)))))))

-- bind := name [ ":" width ] "=" e
abbrev pub optional_width : Syntax Terminal (Option ℕ)
optional_width = either (follows (symbol syms.Colon) (λ colon. follows width (λ n. nothing (Some n.value)))) (nothing None)

abbrev pub bind : Syntax Terminal Tree → Syntax Terminal Bound
bind e = follows (token name_token) (λ x. follows optional_width (λ w. follows (symbol syms.Assign) (λ gives. follows e (λ v. nothing (record { place = x.place; name = x.name; width = w; value = v })))))

-- binding := "let" bind { "," bind } "in" e
abbrev pub binding : Syntax Terminal Tree → Syntax Terminal Tree
binding e =
    follows (word keys.Let) (λ p. follows (listed (symbol syms.Comma) (bind e)) (λ bs. follows (word keys.In) (λ inner.
    follows e (λ x. nothing (Let p (binds_of bs) x)))))

-- label := Num | Sized
abbrev pub case_label : Syntax Terminal Tree
case_label = either number_literal sized_literal

-- arms := { label "=>" e "," } "default" "=>" e, where each arm is one level below the one before it
pub record ArmList : Type 0 where
  pub labelled : List Labelled
  pub default : Tree

abbrev pub arm : Syntax Terminal Tree → (List Labelled → Syntax Terminal ArmList) → List Labelled → Syntax Terminal ArmList
arm e rest so_far = follows case_label (λ l. follows (symbol syms.Arrow) (λ gives. follows e (λ x. follows (symbol syms.Comma) (λ comma. rest (so_far ++ record { label = l; value = x } ∷ [])))))

abbrev pub last_arm : Syntax Terminal Tree → List Labelled → Syntax Terminal ArmList
last_arm e so_far = follows (word keys.Default) (λ other. follows (symbol syms.Arrow) (λ gives. follows e (λ x. nothing (record { labelled = so_far; default = x }))))

abbrev pub arms : Syntax Terminal Tree → (List Labelled → Syntax Terminal ArmList) → List Labelled → Syntax Terminal ArmList
arms e rest so_far = either (arm e rest so_far) (last_arm e so_far)

-- cases := "case" e "{" arms "}"
abbrev pub cases : Syntax Terminal Tree → (List Labelled → Syntax Terminal ArmList) → Syntax Terminal Tree
cases e rest = follows (word keys.Case) (λ p. follows e (λ s. follows (symbol syms.OpenBrace) (λ opened. follows (rest []) (λ r. follows (symbol syms.CloseBrace) (λ closed. nothing (Cases p s (arms_of r.labelled r.default)))))))

-- expr := choice | binding | cases | or
abbrev pub expr : Syntax Terminal Tree → Syntax Terminal Tree → (List Labelled → Syntax Terminal ArmList) → Syntax Terminal Tree
expr u e rest = either (choice e) (either (binding e) (either (cases e rest) (chain 7 u)))

-- ---- levels

-- An expression, the operand of "~", and the arms of a case, with at most this many nested in one another.
pub record Level : Type 1 where
  pub operand : Syntax Terminal Tree
  pub whole : Syntax Terminal Tree
  pub rest : List Labelled → Syntax Terminal ArmList

abbrev pub next_level : Level → Level
next_level l = let u = unary l.operand l.whole in record { operand = u; whole = expr u l.whole l.rest; rest = arms l.whole l.rest }

-- what can be at the last level: the label of an arm may still be there
abbrev pub last_level : Level → Level
last_level l = record { operand = below l.operand; whole = below l.whole; rest = l.rest }

abbrev pub last_but_arms : Level → Level → Level
last_but_arms l k = record { operand = below k.operand; whole = below k.whole; rest = arms l.whole l.rest }

abbrev pub no_level : Level
no_level = record { operand = too_high; whole = too_high; rest = λ arms. too_high }

-- a level with at most n nested expressions, where m levels are left
unfoldable pub level : ℕ → ℕ → Level
level zero zero = last_level no_level
level zero (suc m) = no_level
level (suc n) zero = last_but_arms (level n zero) (next_level (level n zero))
level (suc n) (suc m) = next_level (level n m)

-- ---- programs

-- param := name ":" width
abbrev pub param : Syntax Terminal Parameter
param = follows (token name_token) (λ x. follows (symbol syms.Colon) (λ colon. follows width (λ n. nothing (record { place = x.place; name = x.name; width = n.value }))))

-- params := [ param { "," param } ]
abbrev pub params : Syntax Terminal (List Parameter)
params = either (listed (symbol syms.Comma) param) (nothing [])

-- one := name "(" params ")" ":" width "=" e
abbrev pub one_definition : Bool → Syntax Terminal Tree → Syntax Terminal Definition
one_definition joins e = follows (token name_token) (λ x. follows (symbol syms.OpenParen) (λ opened. follows params (λ ps. follows (symbol syms.CloseParen) (λ closed. follows (symbol syms.Colon) (λ colon. follows width (λ n. follows (symbol syms.Assign) (λ gives. follows e (λ b. nothing (record { joined = joins; place = x.place; name = x.name; params = ps; width = n.value; body = b })))))))))

-- group := "fun" one { "and" one }
abbrev pub another_one : Syntax Terminal Tree → List Definition → Syntax Terminal (List Definition)
another_one e ds = follows (word keys.And) (λ k. follows (one_definition true e) (λ d. nothing (ds ++ d ∷ [])))

abbrev pub group : Syntax Terminal Tree → List Definition → Syntax Terminal (List Definition)
group e ds = follows (word keys.Fun) (λ f. follows (one_definition false e) (λ d. any_turns (another_one e) (ds ++ d ∷ [])))

-- program := { group [ ";" ] }
abbrev pub ended_group : List Definition → Syntax Terminal (List Definition)
ended_group ds = either (follows (symbol syms.Semicolon) (λ s. nothing ds)) (nothing ds)

abbrev pub program : Syntax Terminal Tree → Syntax Terminal (List Definition)
program e = any_turns (λ ds. follows (group e ds) ended_group) []

-- a program whose expressions nest at most n times. A body is at the first of 100 levels
abbrev pub source : ℕ → Syntax Terminal (List Definition)
source n = program (level n 100).whole

-- ---- parts of productions

-- the depth of a left operand is at most 99
abbrev pub shallow : Tree → Primitive → Bool
shallow a op = nat_lt (depth a) 100

abbrev pub fits_width : NumberAt → Bool
fits_width n = is_written_width n.value

abbrev pub fits_sized : SizedAt → Bool
fits_sized s = is_written_width s.width

-- whether the number of a bit is below the greatest width
abbrev pub fits_index : NumberAt → Bool
fits_index n = nat_lt n.value width_max

abbrev pub another : Syntax Terminal Tree → List Tree → Syntax Terminal (List Tree)
another e xs = follows (symbol syms.Comma) (λ comma. follows e (λ x. nothing (xs ++ x ∷ [])))

abbrev pub exprs : Syntax Terminal Tree → Syntax Terminal (List Tree)
exprs e = follows e (λ x. any_turns (another e) (x ∷ []))

abbrev pub no_arguments : NameAt → Syntax Terminal Tree
no_arguments f = follows (symbol syms.CloseParen) (λ closed. nothing (Call f.place f.name (trees_of [])))

abbrev pub arguments : Syntax Terminal Tree → NameAt → Syntax Terminal Tree
arguments e f = follows (exprs e) (λ xs. follows (symbol syms.CloseParen) (λ closed. nothing (Call f.place f.name (trees_of xs))))

abbrev pub call : Syntax Terminal Tree → NameAt → Syntax Terminal Tree
call e f = follows (symbol syms.OpenParen) (λ opened. either (no_arguments f) (without_begin (comes_spelled (sym_text syms.CloseParen)) (arguments e f)))

abbrev pub inverted : Syntax Terminal Tree → Syntax Terminal Tree
inverted u = follows (symbol syms.Tilde) (λ p. follows u (λ x. nothing (Op p prims.Not (trees_of (x ∷ [])))))

abbrev pub chained : ℕ → Syntax Terminal Tree → Syntax Terminal Tree
chained k sub = follows sub (any_turns (joined k sub))

abbrev pub compared : ℕ → Syntax Terminal Tree → Syntax Terminal Tree
compared k sub = follows sub (λ a. either (joined k sub a) (nothing a))

abbrev pub another_bind : Syntax Terminal Tree → List Bound → Syntax Terminal (List Bound)
another_bind e bs = follows (symbol syms.Comma) (λ comma. follows (bind e) (λ b. nothing (bs ++ b ∷ [])))

abbrev pub binds : Syntax Terminal Tree → Syntax Terminal (List Bound)
binds e = follows (bind e) (λ b. any_turns (another_bind e) (b ∷ []))

abbrev pub another_param : List Parameter → Syntax Terminal (List Parameter)
another_param ps = follows (symbol syms.Comma) (λ comma. follows param (λ p. nothing (ps ++ p ∷ [])))

abbrev pub another_group : Syntax Terminal Tree → List Definition → Syntax Terminal (List Definition)
another_group e ds = follows (group e ds) ended_group
