-- From the tokens of a text to the text itself.
use Rattle.safl_tree.proofs.Common.{Definition, Fault, HasTokens, Token, ◌⊎◌}
use Rattle.std.proofs.Common.{◌≡◌, ℕ, List, inl, inr, refl, sym, ap, subst, ◌∙◌}
use Rattle.safl_word.specs.declared.fault.Rule.{Rule}
use Rattle.safl_word.proofs.Cuts.{fault_of_break}
use Rattle.safl_word.proofs.TokensOnce
use Rattle.safl_word.proofs.TokensOnce.{Outcome, tokens_of, fault_of, outcome, tokens_once, fault_once}
use Rattle.safl_tree.specs.Source.{TokensSpell, TokensFault, SpellsProgram, SyntaxFault, lexical, of_tokens, fault_at}
use Rattle.safl_tree.proofs.Sources

pub one_program : (text : List ℕ) (p q : List Definition) → SpellsProgram text p → SpellsProgram text q → p ≡ q
one_program text p q s t = Sources.one_program text t.tokens p q (subst (λ (ts : List Token). TokensSpell text ts p) (tokens_once text s.tokens t.tokens s.cut t.cut) s.spelled) t.spelled

by_tokens : (text : List ℕ) (ts : List Token) → HasTokens text ts → ((p : List Definition) × TokensSpell text ts p) ⊎
    ((f : Fault) × TokensFault text ts f) → ((p : List Definition) × SpellsProgram text p) ⊎ ((f : Fault) × SyntaxFault text f)
by_tokens text ts h (inl (p, s)) = inl (p, record { tokens = ts; cut = h; spelled = s })
by_tokens text ts h (inr (f, s)) = inr (f, of_tokens ts h s)

by_outcome : (text : List ℕ) → Outcome text → ((p : List Definition) × SpellsProgram text p) ⊎ ((f : Fault) × SyntaxFault text f)
by_outcome text (tokens_of ts h) = by_tokens text ts h (Sources.program_or_fault text ts)
by_outcome text (fault_of e p h) = inr (fault_at e p, lexical e p (fault_of_break text e p h) refl)

pub program_or_fault : (text : List ℕ) → ((p : List Definition) × SpellsProgram text p) ⊎ ((f : Fault) × SyntaxFault text f)
program_or_fault text = by_outcome text (outcome text)

pub not_both : (text : List ℕ) (p : List Definition) (f : Fault) → SpellsProgram text p → SyntaxFault text f → ⊥
not_both text p f s (lexical e q h i) = TokensOnce.not_both text s.tokens e q s.cut h
not_both text p f s (of_tokens ts h t) = Sources.not_both text ts p f (subst (λ (ts : List Token). TokensSpell text ts p) (tokens_once text s.tokens ts s.cut h) s.spelled) t

pub one_fault : (text : List ℕ) (f g : Fault) → SyntaxFault text f → SyntaxFault text g → f ≡ g
one_fault text f g (lexical e p h i) (lexical d q k j) = let r = fault_once text e d p q h k in i ∙ ap (λ (e : Rule). fault_at e p) r.0 ∙ ap (λ (p : ℕ). fault_at d p) r.1 ∙ sym j
one_fault text f g (lexical e p h i) (of_tokens us k t) = absurd (TokensOnce.not_both text us e p k h)
one_fault text f g (of_tokens ts h s) (lexical d q k j) = absurd (TokensOnce.not_both text ts d q h k)
one_fault text f g (of_tokens ts h s) (of_tokens us k t) = Sources.one_fault text us f g (subst (λ (ts : List Token). TokensFault text ts f) (tokens_once text ts us h k) s) t
