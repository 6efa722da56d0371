-- The codes by which the reader of sources tells tokens apart, and the classes of tokens by their codes.
use Rattle.std.specs.Prelude.{ℕ, zero, suc, List, [], ◌∷◌, Option, Some, None, Bool, if◌then◌else◌}
use Rattle.safl_grammar.specs.Sets.{Set, Only, within}
use Rattle.safl_word.specs.declared.token.Key.{Key}
use Rattle.safl_word.specs.declared.token.Key.TheVariants as keys
use Rattle.safl_word.specs.declared.token.Sym.{Sym}
use Rattle.safl_word.specs.declared.token.Sym.TheVariants as syms
use Rattle.safl_word.specs.declared.token.TokenKind.{TokenKind}
use Rattle.safl_word.specs.declared.token.TokenKind.TheVariants as kinds
use Rattle.safl_word.specs.declared.primitive.Primitive.{Primitive}
use Rattle.safl_word.specs.declared.primitive.Primitive.TheVariants as prims
use Rattle.safl_tree.specs.Terminals.{Terminal, NameAt, NumberAt, SizedAt}

-- ---- codes: a number for each kind of token, which tells kinds apart. Code 0 is the end

abbrev pub word_code : Key → ℕ
word_code keys.Fun = 4
word_code keys.If = 5
word_code keys.Then = 6
word_code keys.Else = 7
word_code keys.Let = 8
word_code keys.In = 9
word_code keys.Case = 10
word_code keys.Default = 11
word_code keys.Cat = 12
word_code keys.Bits = 13
word_code keys.Ext = 14
word_code keys.And = 15

abbrev pub symbol_code : Sym → ℕ
symbol_code syms.OpenParen = 16
symbol_code syms.CloseParen = 17
symbol_code syms.OpenBrace = 18
symbol_code syms.CloseBrace = 19
symbol_code syms.Comma = 20
symbol_code syms.Colon = 21
symbol_code syms.Semicolon = 22
symbol_code syms.Assign = 23
symbol_code syms.Arrow = 24
symbol_code syms.Equal = 25
symbol_code syms.NotEqual = 26
symbol_code syms.Less = 27
symbol_code syms.LessEqual = 28
symbol_code syms.Greater = 29
symbol_code syms.GreaterEqual = 30
symbol_code syms.ShiftLeft = 31
symbol_code syms.ShiftRight = 32
symbol_code syms.Plus = 33
symbol_code syms.Minus = 34
symbol_code syms.Star = 35
symbol_code syms.Ampersand = 36
symbol_code syms.Bar = 37
symbol_code syms.Caret = 38
symbol_code syms.Tilde = 39

abbrev pub code_of : TokenKind → ℕ
code_of kinds.Name = 1
code_of (kinds.Num n) = 2
code_of (kinds.Sized w n) = 3
code_of (kinds.Key k) = word_code k
code_of (kinds.Sym s) = symbol_code s

abbrev pub code : Option Terminal → ℕ
code None = 0
code (Some t) = code_of t.kind

-- a token with one of these codes, and the value that it stands for
abbrev pub classed : {A : Type 0} → Set → (Terminal → A) → Terminal → Option A
classed codes value t = if within codes (code_of t.kind) then Some (value t) else None

-- whether a token with one of these codes comes next
abbrev pub comes : List ℕ → Option Terminal → Bool
comes codes h = within (Only codes) (code h)

-- a keyword or a symbol, which stands for its place
abbrev pub marked : ℕ → Terminal → Option ℕ
marked k = classed (Only (k ∷ [])) (λ t. t.place)

abbrev pub name : Terminal → Option NameAt
name = classed (Only (1 ∷ [])) (λ t. record { place = t.place; name = t.bytes })

abbrev pub number_in : TokenKind → ℕ
number_in (kinds.Num n) = n
number_in _ = 0

abbrev pub number : Terminal → Option NumberAt
number = classed (Only (2 ∷ [])) (λ t. record { place = t.place; value = number_in t.kind })

abbrev pub width_in : TokenKind → ℕ
width_in (kinds.Sized w n) = w
width_in _ = 0

abbrev pub value_in : TokenKind → ℕ
value_in (kinds.Sized w n) = n
value_in _ = 0

abbrev pub sized : Terminal → Option SizedAt
sized = classed (Only (3 ∷ [])) (λ t. record { place = t.place; width = width_in t.kind; value = value_in t.kind })

-- ---- operators

-- the codes of the binary operators of a layer. The lower the layer, the closer they bind
abbrev pub operators : ℕ → List ℕ
operators zero = symbol_code syms.Star ∷ []
operators (suc zero) = symbol_code syms.Plus ∷ symbol_code syms.Minus ∷ []
operators (suc (suc zero)) = symbol_code syms.ShiftLeft ∷ symbol_code syms.ShiftRight ∷ []
operators (suc (suc (suc zero))) = symbol_code syms.Equal ∷ symbol_code syms.NotEqual ∷ symbol_code syms.Less ∷ symbol_code syms.LessEqual ∷ symbol_code syms.Greater ∷ symbol_code syms.GreaterEqual ∷ []
operators (suc (suc (suc (suc zero)))) = symbol_code syms.Ampersand ∷ []
operators (suc (suc (suc (suc (suc zero))))) = symbol_code syms.Caret ∷ []
operators (suc (suc (suc (suc (suc (suc k)))))) = symbol_code syms.Bar ∷ []

abbrev pub primitive_of : Sym → Primitive
primitive_of syms.Star = prims.Mul
primitive_of syms.Minus = prims.Sub
primitive_of syms.ShiftLeft = prims.Shl
primitive_of syms.ShiftRight = prims.Shr
primitive_of syms.Equal = prims.Eq
primitive_of syms.NotEqual = prims.Ne
primitive_of syms.Less = prims.Lt
primitive_of syms.LessEqual = prims.Le
primitive_of syms.Greater = prims.Gt
primitive_of syms.GreaterEqual = prims.Ge
primitive_of syms.Ampersand = prims.And
primitive_of syms.Caret = prims.Xor
primitive_of syms.Bar = prims.Or
primitive_of syms.Tilde = prims.Not
primitive_of _ = prims.Add

abbrev pub primitive_in : TokenKind → Primitive
primitive_in (kinds.Sym s) = primitive_of s
primitive_in _ = prims.Add

abbrev pub operator : ℕ → Terminal → Option Primitive
operator k = classed (Only (operators k)) (λ t. primitive_in t.kind)
