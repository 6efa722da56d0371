use Rattle.std.proofs.Common.{◌+◌, sym, ◌∙◌, arith}
use Rattle.std.proofs.lemmas.Bool.{le-ltb}
use Rattle.safl_unit.proofs.equations.Groups.{peers_below, next_peer, no_peers}
use Rattle.safl_unit.proofs.names.has_peers.Goals as goal

pub returns-then-unit-f : goal.returns-then-unit-f
returns-then-unit-f c = sym (peers_below _ c.functions-functions.ensures.checked c.args.f c.requires (λ e. c.if-unit-f.true (c.unit.ensures.number ∙ e)))

pub returns-then-f-functions : goal.returns-then-f-functions
returns-then-f-functions c =
    let count = c.functions-functions.ensures.count in
    next_peer _ c.functions-functions.ensures.checked c.args.f _ c.requires (sym c.unit.ensures.number ∙ c.if-unit-f.false)
    (let q = c.if-f-functions.true in omega (arith, q, count)) c.unit-then-f-functions.ensures.number

pub returns-else-f-functions : goal.returns-else-f-functions
returns-else-f-functions c =
    let count = c.functions-functions.ensures.count in
    let past = c.if-f-functions.false in
    le-ltb (c.args.f + 1) c.functions-functions.result past
    ∙ sym (no_peers _ c.functions-functions.ensures.checked c.args.f c.requires (sym c.unit.ensures.number ∙ c.if-unit-f.false) (λ l _. omega (arith, past, count, l)))
