-- Tokens with their bytes, and the classes that the grammar tells apart.
use Rattle.std.specs.Prelude.{ℕ, ◌-◌, List, [], map, take, drop, Option, Some, None, Bool, false, if◌then◌else◌}
use Rattle.std.specs.Str.{bytes_eq}
use Rattle.safl_word.specs.declared.token.TokenKind.{TokenKind}
use Rattle.safl_word.specs.declared.token.TokenKind.TheVariants as kinds
use Rattle.safl_word.specs.declared.token.Token.{Token}
use Rattle.safl_word.specs.declared.primitive.Primitive.{Primitive}
use Rattle.safl_word.specs.Tokens.{key_text, sym_text}
use Rattle.safl_word.specs.Operators.{layer, operator_with}

-- a token as the grammar sees it: its place, its kind, and its bytes
pub record Terminal : Type 0 where
  pub place : ℕ
  pub kind : TokenKind
  pub bytes : List ℕ

-- the bytes of a token are those of the source from its start to its stop
abbrev pub terminals : List ℕ → List Token → List Terminal
terminals source ts = map (λ (t : Token). record { place = t.start; kind = t.kind; bytes = take (t.stop - t.start) (drop t.start source) }) ts

-- ---- classes: what a token of the class stands for

-- the text of a keyword or a symbol
abbrev pub text_in : TokenKind → List ℕ
text_in (kinds.Key k) = key_text k
text_in (kinds.Sym s) = sym_text s
text_in _ = []

-- the keyword or the symbol with this text stands for its place
abbrev pub spelled : List ℕ → Terminal → Option ℕ
spelled text t = if bytes_eq text (text_in t.kind) then Some t.place else None

-- whether it comes next
abbrev pub comes_spelled : List ℕ → Option Terminal → Bool
comes_spelled text None = false
comes_spelled text (Some t) = bytes_eq text (text_in t.kind)

pub record NameAt : Type 0 where
  pub place : ℕ
  pub name : List ℕ

abbrev pub named : TokenKind → NameAt → Option NameAt
named kinds.Name x = Some x
named _ x = None

abbrev pub name_token : Terminal → Option NameAt
name_token t = named t.kind (record { place = t.place; name = t.bytes })

pub record NumberAt : Type 0 where
  pub place : ℕ
  pub value : ℕ

abbrev pub numbered : TokenKind → ℕ → Option NumberAt
numbered (kinds.Num n) p = Some (record { place = p; value = n })
numbered _ p = None

abbrev pub number_at : Terminal → Option NumberAt
number_at t = numbered t.kind t.place

pub record SizedAt : Type 0 where
  pub place : ℕ
  pub width : ℕ
  pub value : ℕ

abbrev pub with_width : TokenKind → ℕ → Option SizedAt
with_width (kinds.Sized w n) p = Some (record { place = p; width = w; value = n })
with_width _ p = None

abbrev pub sized_at : Terminal → Option SizedAt
sized_at t = with_width t.kind t.place

-- a symbol of an operator of layer k stands for the operator
abbrev pub operator_at : ℕ → Terminal → Option Primitive
operator_at k t = operator_with (text_in t.kind) (layer k)
