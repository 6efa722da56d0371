-- Which program a source spells, and its first fault.
use Rattle.std.specs.Prelude.{◌≡◌, ℕ, List, length}
use Rattle.std.specs.Option.{option_map_or}
use Rattle.safl_grammar.specs.Syntax.{Deep, Unexpected, Range}
use Rattle.safl_grammar.specs.Syntax
use Rattle.safl_grammar.specs.Reading.{head_of}
use Rattle.safl_grammar.specs.Text.{Spells, Faults}
use Rattle.safl_word.specs.declared.token.Token.{Token}
use Rattle.safl_word.specs.declared.fault.Rule.{Rule}
use Rattle.safl_word.specs.declared.fault.Rule.TheVariants as rules
use Rattle.safl_word.specs.declared.fault.Fault.{Fault}
use Rattle.safl_word.specs.Tokens.{HasTokens, HasLexicalFault}
use Rattle.safl_tree.specs.Tree.{Definition}
use Rattle.safl_tree.specs.Terminals.{Terminal, terminals}
use Rattle.safl_tree.specs.Grammar.{source}

-- too many levels are E04, an unexpected token is E02, a number out of range is E05
abbrev pub rule_of : Syntax.Rule → Rule
rule_of Deep = rules.E04
rule_of Unexpected = rules.E02
rule_of Range = rules.E05

abbrev pub fault_at : Rule → ℕ → Fault
fault_at e place = record { rule = e; place = place; first = 0; second = 0 }

-- the first fault of the tokens of a text: at the first token that breaks a rule, or at the end, and E04 before E02 before E05
pub record TokensFault (text : List ℕ) (ts : List Token) (f : Fault) : Type 0 where
  pub rule : Syntax.Rule
  pub rest : List Terminal
  pub breaks : Faults source (terminals text ts) rule rest
  pub is : f ≡ fault_at (rule_of rule) (option_map_or (λ (t : Terminal). t.place) (head_of rest) (length text))

-- the source spells this program: its tokens derive it, and no limit on levels or ranges is passed
pub record SpellsProgram (text : List ℕ) (p : List Definition) : Type 0 where
  pub tokens : List Token
  pub cut : HasTokens text tokens
  pub spelled : Spells source (terminals text tokens) p

-- the first fault of the source. A place where the text cannot be cut into tokens comes before all other rules
pub data SyntaxFault (text : List ℕ) (f : Fault) : Type 0 where
  lexical : (e : Rule) (place : ℕ) → HasLexicalFault text e place → f ≡ fault_at e place → SyntaxFault text f
  of_tokens : (ts : List Token) → HasTokens text ts → TokensFault text ts f → SyntaxFault text f

-- ---- parts by name

abbrev pub place_in : List ℕ → List Terminal → ℕ
place_in text ts = option_map_or (λ (t : Terminal). t.place) (head_of ts) (length text)

abbrev pub TokensSpell : List ℕ → List Token → List Definition → Type 0
TokensSpell text ts p = Spells source (terminals text ts) p
