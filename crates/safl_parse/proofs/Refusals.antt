-- From what is read to what parsing answers.
use Rattle.safl_parse.proofs.Common.{Definition, Fault, Token, terminals}
use Rattle.std.proofs.Common.{◌≡◌, ℕ, List, Ok, Err}
use Rattle.safl_tree.specs.Reader.{read_source}
use Rattle.safl_tree.specs.Source.{TokensSpell, TokensFault, rule_of, place_in, fault_at}
use Rattle.safl_tree.proofs.Programs
use Rattle.safl_parse.specs.declared.error.Cause.{Cause}
use Rattle.safl_parse.specs.Gives.{rule_of as grammar_rule}

pub spelled : (text : List ℕ) (ts rest : List Token) (p : List Definition) → read_source (terminals text ts) ≡ Ok (p, terminals text rest) → TokensSpell text ts p
spelled text ts rest p e = Programs.spelled (terminals text ts) p (terminals text rest) e

pub refused : (text : List ℕ) (ts rest : List Token) (cause : Cause) (f : Fault) → read_source (terminals text ts) ≡ Err
    (grammar_rule cause, terminals text rest) → f ≡ fault_at (rule_of (grammar_rule cause)) (place_in text (terminals text rest)) → TokensFault text ts f
refused text ts rest cause f e i = record {
  rule = grammar_rule cause;
  rest = terminals text rest;
  breaks = Programs.first_fault (terminals text ts)
      (terminals text rest) (grammar_rule cause) e;
  is = i;
}
