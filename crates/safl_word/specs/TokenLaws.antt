-- The laws of tokens.
use Rattle.std.specs.Prelude.{◌≡◌, ◌↔◌, ℕ, List}
use Rattle.safl_word.specs.Tokens.{HasTokens, HasLexicalFault}
use Rattle.safl_word.specs.Breaks.{BreaksAt}
use Rattle.safl_word.specs.declared.token.Token.{Token}
use Rattle.safl_word.specs.declared.fault.Rule.{Rule}

-- a text has at most one list of tokens
abbrev pub TokensOnce : Type 0
TokensOnce = (text : List ℕ) (ts us : List Token) → HasTokens text ts → HasTokens text us → ts ≡ us

-- a text has at most one first lexical fault
abbrev pub LexicalFaultOnce : Type 0
LexicalFaultOnce =
    (text : List ℕ) (e d : Rule) (p q : ℕ) → HasLexicalFault text e p → HasLexicalFault text d q → (e ≡ d) × (p ≡ q)

-- a text has a list of tokens exactly if it has no lexical fault
abbrev pub TokensOrFault : Type 0
TokensOrFault =
    (text : List ℕ)
    → ((ts : List Token) × HasTokens text ts) ↔ (¬ ((e : Rule) × (p : ℕ) × HasLexicalFault text e p))

-- at a lexical fault no token, blank or comment begins, nor the form of a token, or the longest form of a token there is too long
abbrev pub LexicalFaultInFull : Type 0
LexicalFaultInFull = (text : List ℕ) (e : Rule) (place : ℕ) → HasLexicalFault text e place ↔ BreaksAt text e place
