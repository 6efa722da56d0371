-- From the tokens of a source to the source.
use Rattle.safl_parse.proofs.Common.{Definition, Fault, Token}
use Rattle.std.proofs.Common.{◌≡◌, ℕ, List, Result, Ok, Err, IfOk, IfErr, subst, sym, ap, ◌∙◌}
use Rattle.safl_word.specs.Tokens.{HasTokens}
use Rattle.safl_word.proofs.Cuts.{fault_of_break}
use Rattle.safl_word.proofs.TokensOnce.{tokens_once, not_both}
use Rattle.safl_text.specs.declared.error.LexErr.{LexErr}
use Rattle.safl_text.specs.declared.error.LexErr.TheVariants as lexing
use Rattle.safl_text.specs.Lexing.{RefusesTokens}
use Rattle.safl_tree.specs.Shown.{shown_program}
use Rattle.safl_tree.specs.declared.tree.Program.{Program}
use Rattle.safl_tree.specs.Source.{TokensSpell, TokensFault, SpellsProgram, SyntaxFault, lexical, of_tokens, fault_at}
use Rattle.safl_tree.proofs.Texts.{one_fault}
use Rattle.safl_parse.specs.declared.syntax.ParseErr.{ParseErr}
use Rattle.safl_parse.specs.declared.syntax.ParseErr.TheVariants as answers
use Rattle.safl_parse.specs.TokenAnswers.{RefusedRightly, OnlyNoMemory, IsFaultUnlessNoMemory}
use Rattle.safl_parse.specs.Errors.{error_of}
use Rattle.safl_parse.specs.Answers.{RefusedFirst, FaultUnlessNoMemory}

-- What has a list of tokens has it as a slice too.
pub cut : (text : List ℕ) (items : List Token) (slice : List Token) → slice ≡ items → HasTokens text items → HasTokens text slice
cut text items slice e h = subst (λ (us : List Token). HasTokens text us) (sym e) h

pub spelled_by : (text : List ℕ) (ts : List Token) (p : List Definition) → HasTokens text ts → SpellsProgram text p → TokensSpell text ts p
spelled_by text ts p h s = subst (λ (us : List Token). TokensSpell text us p) (tokens_once text s.tokens ts s.cut h) s.spelled

pub fault_of : (text : List ℕ) (ts : List Token) (f : Fault) → HasTokens text ts → SyntaxFault text f → TokensFault text ts f
fault_of text ts f h (lexical e q k i) = absurd (not_both text ts e q h k)
fault_of text ts f h (of_tokens us k t) = subst (λ (us : List Token). TokensFault text us f) (tokens_once text us ts k h) t

pub spells : (text : List ℕ) (ts : List Token) (r : Result Program ParseErr) → HasTokens text ts → IfOk r (λ p. TokensSpell text ts (shown_program p))
    → IfOk r (λ p. SpellsProgram text (shown_program p))
spells text ts (Ok p) h s = record { tokens = ts; cut = h; spelled = s }
spells text ts (Err e) h s = tt

refused_first : (text : List ℕ) (ts : List Token) (e : ParseErr) → HasTokens text ts → RefusedRightly text ts e → RefusedFirst text e
refused_first text ts (answers.Refused f) h r = of_tokens ts h r
refused_first text ts answers.NoMemory h r = tt

pub refuses : (text : List ℕ) (ts : List Token) (r : Result Program ParseErr) → HasTokens text ts → IfErr r (λ e. RefusedRightly text ts e) → IfErr r (λ e. RefusedFirst text e)
refuses text ts (Ok p) h s = tt
refuses text ts (Err e) h s = refused_first text ts e h s

pub faulty : (f : Fault) (e : ParseErr) → IsFaultUnlessNoMemory f (Err e) → FaultUnlessNoMemory f (Err e)
faulty f (answers.Refused g) h = h
faulty f answers.NoMemory h = tt

-- ---- lexical faults

at : (f : Fault) → f.first ≡ 0 → f.second ≡ 0 → f ≡ fault_at f.rule f.place
at f a b = ap (λ (x : ℕ). fault_with f x f.second) a ∙ ap (λ (x : ℕ). fault_with f 0 x) b
  where
    fault_with : Fault → ℕ → ℕ → Fault
    fault_with f x y = record { rule = f.rule; place = f.place; first = x; second = y }

lexical_fault : (text : List ℕ) (f : Fault) → RefusesTokens text (lexing.Refused f) → SyntaxFault text f
lexical_fault text f h = lexical f.rule f.place (fault_of_break text f.rule f.place h.0) (at f h.1 h.2)

pub lexical_first : (text : List ℕ) (e : LexErr) → RefusesTokens text e → RefusedFirst text (error_of e)
lexical_first text (lexing.Refused f) h = lexical_fault text f h
lexical_first text lexing.NoMemory h = tt

pub lexical_spelled : (text : List ℕ) (e : LexErr) (p : List Definition) → RefusesTokens text e → SpellsProgram text p → OnlyNoMemory (error_of e)
lexical_spelled text (lexing.Refused f) p h s = not_both text s.tokens f.rule f.place s.cut (fault_of_break text f.rule f.place h.0)
lexical_spelled text lexing.NoMemory p h s = tt

pub lexical_faulty : (text : List ℕ) (e : LexErr) (f : Fault) → RefusesTokens text e → SyntaxFault text f → IsFaultUnlessNoMemory f (Err (error_of e))
lexical_faulty text (lexing.Refused g) f h s = one_fault text g f (lexical_fault text g h) s
lexical_faulty text lexing.NoMemory f h s = tt
