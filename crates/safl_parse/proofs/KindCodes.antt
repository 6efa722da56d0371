-- Kinds of tokens that have no number are told apart as their codes are.
use Rattle.std.proofs.Common.{◌≡◌, ◌==◌, ◌<◌, ◌≤◌, [], ◌∷◌, refl, ◌∙◌, arith}
use Rattle.safl_grammar.specs.Sets.{Only, within}
use Rattle.safl_word.specs.declared.token.Key.{Key}
use Rattle.safl_word.specs.declared.token.Key.TheVariants as keys
use Rattle.safl_word.specs.declared.token.Sym.{Sym}
use Rattle.safl_word.specs.declared.token.Sym.TheVariants as syms
use Rattle.safl_word.specs.declared.token.TokenKind.{TokenKind}
use Rattle.safl_word.specs.declared.token.TokenKind.TheVariants as kinds
use Rattle.safl_word.specs.contracts.token.KeyPartialEq.TheImpl as same_keys
use Rattle.safl_word.specs.contracts.token.SymPartialEq.TheImpl as same_syms
use Rattle.safl_word.specs.contracts.token.TokenKindPartialEq.TheImpl as same_kinds
use Rattle.safl_word.proofs.Booleans.{if_same}
use Rattle.safl_tree.specs.Codes.{word_code, symbol_code, code_of}
use Rattle.safl_parse.specs.Numberless.{HasNoNumber}

by_key : (k l : Key) → (same_keys.ghosts).eq k l ≡ (word_code k == word_code l)
by_key keys.Fun keys.Fun = refl
by_key keys.If keys.If = refl
by_key keys.Then keys.Then = refl
by_key keys.Else keys.Else = refl
by_key keys.Let keys.Let = refl
by_key keys.In keys.In = refl
by_key keys.Case keys.Case = refl
by_key keys.Default keys.Default = refl
by_key keys.Cat keys.Cat = refl
by_key keys.Bits keys.Bits = refl
by_key keys.Ext keys.Ext = refl
by_key keys.And keys.And = refl
by_key _ _ = refl

by_symbol : (s t : Sym) → (same_syms.ghosts).eq s t ≡ (symbol_code s == symbol_code t)
by_symbol syms.OpenParen syms.OpenParen = refl
by_symbol syms.CloseParen syms.CloseParen = refl
by_symbol syms.OpenBrace syms.OpenBrace = refl
by_symbol syms.CloseBrace syms.CloseBrace = refl
by_symbol syms.Comma syms.Comma = refl
by_symbol syms.Colon syms.Colon = refl
by_symbol syms.Semicolon syms.Semicolon = refl
by_symbol syms.Assign syms.Assign = refl
by_symbol syms.Arrow syms.Arrow = refl
by_symbol syms.Equal syms.Equal = refl
by_symbol syms.NotEqual syms.NotEqual = refl
by_symbol syms.Less syms.Less = refl
by_symbol syms.LessEqual syms.LessEqual = refl
by_symbol syms.Greater syms.Greater = refl
by_symbol syms.GreaterEqual syms.GreaterEqual = refl
by_symbol syms.ShiftLeft syms.ShiftLeft = refl
by_symbol syms.ShiftRight syms.ShiftRight = refl
by_symbol syms.Plus syms.Plus = refl
by_symbol syms.Minus syms.Minus = refl
by_symbol syms.Star syms.Star = refl
by_symbol syms.Ampersand syms.Ampersand = refl
by_symbol syms.Bar syms.Bar = refl
by_symbol syms.Caret syms.Caret = refl
by_symbol syms.Tilde syms.Tilde = refl
by_symbol _ _ = refl

key_bounds : (k : Key) → (3 < word_code k) × (word_code k < 16)
key_bounds keys.Fun = (omega arith, omega arith)
key_bounds _ = (omega arith, omega arith)

symbol_bound : (s : Sym) → 16 ≤ symbol_code s
symbol_bound syms.OpenParen = omega arith
symbol_bound _ = omega arith

by_code : (k l : TokenKind) → HasNoNumber l → (same_kinds.ghosts).eq k l ≡ (code_of k == code_of l)
by_code k (kinds.Num n) h = absurd h
by_code k (kinds.Sized w n) h = absurd h
by_code (kinds.Key k) (kinds.Key l) h = by_key k l
by_code (kinds.Sym s) (kinds.Key l) h = grind (arith, key_bounds l, symbol_bound s)
by_code _ (kinds.Key l) h = grind (arith, key_bounds l)
by_code (kinds.Sym s) (kinds.Sym t) h = by_symbol s t
by_code (kinds.Key k) (kinds.Sym t) h = grind (arith, key_bounds k, symbol_bound t)
by_code _ (kinds.Sym t) h = grind (arith, symbol_bound t)
by_code (kinds.Key k) kinds.Name h = grind (arith, key_bounds k)
by_code (kinds.Sym s) kinds.Name h = grind (arith, symbol_bound s)
by_code kinds.Name kinds.Name h = refl
by_code _ kinds.Name h = refl

-- a test by kind is one by code
pub class_of : (k l : TokenKind) → HasNoNumber l → (same_kinds.ghosts).eq k l ≡ within (Only (code_of l ∷ [])) (code_of k)
class_of k l h = by_code k l h ∙ if_same (code_of k == code_of l)
