-- From lists of tokens to the tokens of a text.
use Rattle.safl_tree.proofs.Common.{Definition, Fault, Terminal, Token, terminals, ◌⊎◌}
use Rattle.std.proofs.Common.{◌≡◌, ℕ, List, inl, inr, refl, sym, ap, ◌∙◌}
use Rattle.safl_grammar.specs.Syntax.{Rule}
use Rattle.safl_tree.specs.Source.{TokensSpell, TokensFault, rule_of, place_in, fault_at}
use Rattle.safl_tree.proofs.Programs

pub one_program : (text : List ℕ) (ts : List Token) (p q : List Definition) → TokensSpell text ts p → TokensSpell text ts q → p ≡ q
one_program text ts p q = Programs.one_program (terminals text ts) p q

pub program_or_fault : (text : List ℕ) (ts : List Token) → ((p : List Definition) × TokensSpell text ts p) ⊎ ((f : Fault) × TokensFault text ts f)
program_or_fault text ts = elim (Programs.program_or_fault (terminals text ts)) [
  | inl s ↦ inl s
  | inr f ↦ inr (fault_at (rule_of f.0) (place_in text f.1), record { rule = f.0; rest = f.1; breaks = f.2; is = refl })
]

pub not_both : (text : List ℕ) (ts : List Token) (p : List Definition) (f : Fault) → TokensSpell text ts p → TokensFault text ts f → ⊥
not_both text ts p f s t = Programs.not_both (terminals text ts) p t.rule t.rest s t.breaks

pub one_fault : (text : List ℕ) (ts : List Token) (f g : Fault) → TokensFault text ts f → TokensFault text ts g → f ≡ g
one_fault text ts f g s t =
    let e = Programs.one_fault (terminals text ts) s.rule t.rule s.rest t.rest s.breaks t.breaks in
    s.is ∙ ap (λ (r : Rule). fault_at (rule_of r) (place_in text s.rest)) e.0 ∙ ap (λ (r : List Terminal). fault_at (rule_of t.rule) (place_in text r)) e.1 ∙ sym t.is
