use Rattle.std.proofs.lemmas.Result.{err_from_is_err_and}
use Rattle.safl_parse.proofs.Sources.{lexical_first, lexical_spelled, lexical_faulty, spelled_by, fault_of, spells, refuses, cut}
use Rattle.safl_parse.proofs.parsed.parse_program.Goals as goal

pub returns-in_err-tokens-clause-refused : goal.returns-in_err-tokens-clause-refused
returns-in_err-tokens-clause-refused c =
    let p = err_from_is_err_and c.from_residual.result c.from_residual.ensures.1 in
    rw (p.1, p.2) (lexical_first c.args.source.now c.in_err-tokens.field-0.0 c.in_err-tokens.ensures.refused)

pub returns-in_err-tokens-clause-spelled : goal.returns-in_err-tokens-clause-spelled
returns-in_err-tokens-clause-spelled c q s =
    let p = err_from_is_err_and c.from_residual.result c.from_residual.ensures.1 in
    rw (p.1, p.2) (lexical_spelled c.args.source.now c.in_err-tokens.field-0.0 q c.in_err-tokens.ensures.refused s)

pub returns-in_err-tokens-clause-faulty : goal.returns-in_err-tokens-clause-faulty
returns-in_err-tokens-clause-faulty c f s =
    let p = err_from_is_err_and c.from_residual.result c.from_residual.ensures.1 in
    rw (p.1, p.2) (lexical_faulty c.args.source.now c.in_err-tokens.field-0.0 f c.in_err-tokens.ensures.refused s)

pub returns-clause-program : goal.returns-clause-program
returns-clause-program c = spells c.args.source.now c.as_slice.result.now c.parse_tokens.result
    (cut c.args.source.now c.in_ok-tokens.tokens.items c.as_slice.result.now c.as_slice.ensures.value c.in_ok-tokens.ensures.tokens) c.parse_tokens.ensures.program

pub returns-clause-refused : goal.returns-clause-refused
returns-clause-refused c = refuses c.args.source.now c.as_slice.result.now c.parse_tokens.result
    (cut c.args.source.now c.in_ok-tokens.tokens.items c.as_slice.result.now c.as_slice.ensures.value c.in_ok-tokens.ensures.tokens) c.parse_tokens.ensures.refused

pub returns-clause-spelled : goal.returns-clause-spelled
returns-clause-spelled c q s = c.parse_tokens.ensures.spelled q
    (spelled_by c.args.source.now c.as_slice.result.now q (cut c.args.source.now c.in_ok-tokens.tokens.items c.as_slice.result.now
    c.as_slice.ensures.value c.in_ok-tokens.ensures.tokens) s)

pub returns-clause-faulty : goal.returns-clause-faulty
returns-clause-faulty c f s = c.parse_tokens.ensures.faulty f
    (fault_of c.args.source.now c.as_slice.result.now f (cut c.args.source.now c.in_ok-tokens.tokens.items c.as_slice.result.now
    c.as_slice.ensures.value c.in_ok-tokens.ensures.tokens) s)
