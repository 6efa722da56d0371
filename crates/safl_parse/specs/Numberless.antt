-- Kinds of tokens without a number.
use Rattle.safl_word.specs.declared.token.TokenKind.{TokenKind}
use Rattle.safl_word.specs.declared.token.TokenKind.TheVariants as kinds

-- the kind is neither that of a number nor that of a sized number
abbrev pub HasNoNumber : TokenKind → Type 0
HasNoNumber (kinds.Num n) = ⊥
HasNoNumber (kinds.Sized w n) = ⊥
HasNoNumber _ = Unit {0}
