use Rattle.safl_vparse.proofs.Common.{Token, err_from_is_err_and, shown_all}
use Rattle.std.proofs.Common.{subst, List}
use Rattle.safl_vparse.specs.Parsed.{TokensAnswer}
use Rattle.safl_vparse.proofs.Parsed.{parsed, unparsed, lexical_unparsed, refused_unparsed, if_refused}
use Rattle.safl_vparse.proofs.read.parse.Goals as goal

pub returns-clause-parsed : goal.returns-clause-parsed
returns-clause-parsed c =
    let h = subst (λ (l : List Token). TokensAnswer c.args.text.now (shown_all c.args.text.now l) c.parse_tokens.result) c.deref.ensures.value c.parse_tokens.ensures in
    parsed c.args.text.now (shown_all c.args.text.now c.in_ok-tokens.tokens.items) c.parse_tokens.result c.in_ok-tokens.ensures.tokens h

pub returns-clause-unparsed : goal.returns-clause-unparsed
returns-clause-unparsed c =
    let h = subst (λ (l : List Token). TokensAnswer c.args.text.now (shown_all c.args.text.now l) c.parse_tokens.result) c.deref.ensures.value c.parse_tokens.ensures in
    unparsed c.args.text.now (shown_all c.args.text.now c.in_ok-tokens.tokens.items) c.parse_tokens.result c.in_ok-tokens.ensures.tokens h

pub returns-clause-refused : goal.returns-clause-refused
returns-clause-refused c =
    let h = subst (λ (l : List Token). TokensAnswer c.args.text.now (shown_all c.args.text.now l) c.parse_tokens.result) c.deref.ensures.value c.parse_tokens.ensures in
    if_refused c.args.text.now c.parse_tokens.result (unparsed c.args.text.now (shown_all c.args.text.now c.in_ok-tokens.tokens.items) c.parse_tokens.result c.in_ok-tokens.ensures.tokens h)

pub returns-in_err-tokens-clause-unparsed : goal.returns-in_err-tokens-clause-unparsed
returns-in_err-tokens-clause-unparsed c =
    let p = err_from_is_err_and c.from_residual.result c.from_residual.ensures.1 in
    rw (p.1, p.2) (lexical_unparsed c.args.text.now c.in_err-tokens.field-0.0 c.in_err-tokens.ensures.refused)

pub returns-in_err-tokens-clause-refused : goal.returns-in_err-tokens-clause-refused
returns-in_err-tokens-clause-refused c =
    let p = err_from_is_err_and c.from_residual.result c.from_residual.ensures.1 in
    rw (p.1, p.2) (refused_unparsed c.args.text.now c.in_err-tokens.field-0.0 (lexical_unparsed c.args.text.now c.in_err-tokens.field-0.0 c.in_err-tokens.ensures.refused))
