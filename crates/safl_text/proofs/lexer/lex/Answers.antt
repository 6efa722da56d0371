use Rattle.safl_word.proofs.Lists.{slice_rest}
use Rattle.safl_text.proofs.CutsByPieces.{goes_over, takes}
use Rattle.safl_text.proofs.TokensInText.{cut_lie}
use Rattle.safl_text.proofs.lexer.lex.Goals as goal

pub pieces-preserved-in-Gap : goal.pieces-preserved-in-Gap
pieces-preserved-in-Gap c =
    let r =
    goes_over c.args.source.now _ c.pieces.place c.in-Gap.n c.pieces.tokens.items (slice_rest c.args.source.now c.pieces.place c.pieces.invariant.within) c.pieces-test.true
    c.pieces.invariant.cut c.in-Gap.ensures in
    record { within = r.0; cut = r.1 }

pub pieces-preserved : goal.pieces-preserved
pieces-preserved c =
    let r =
    takes c.args.source.now _ c.pieces.place c.in-Found.n c.pieces.tokens.items c.push.new.self.items c.in-Found.kind
    (slice_rest c.args.source.now c.pieces.place c.pieces.invariant.within) c.pieces-test.true c.pieces.invariant.cut c.in-Found.ensures c.in_ok-push-in-Found.ensures.items in
    record { within = r.0; cut = r.1 }

pub returns-clause-spans : goal.returns-clause-spans
returns-clause-spans c = cut_lie c.args.source.now c.pieces.place c.pieces.tokens.items c.pieces.invariant.cut c.pieces-test.false
