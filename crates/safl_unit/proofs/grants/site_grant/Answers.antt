use Rattle.safl_unit.proofs.Common.{IfOk-weaker, Sig, on, on_in}
use Rattle.std.proofs.Common.{Bool, ◌&&◌, cond, Option, slice_get, slice_index_or, sym, ap, ◌∙◌}
use Rattle.safl_word.proofs.Lists.{get_index}
use Rattle.safl_lower.proofs.JoinedRows.{bit_of_row}
use Rattle.safl_unit.proofs.grants.site_grant.Goals as goal

pub bounds-frees-rank : goal.bounds-frees-rank
bounds-frees-rank c = c.requires.rank c.if-not-arbiter.false

pub both-requires-clause-second : goal.both-requires-clause-second
both-requires-clause-second c =
    bit_of_row c.args.net.now c.args.frees.now c.args.rank (slice_index_or c.args.frees.now c.args.rank (record { 0 = 0 })) c.requires.frees
    (get_index c.args.frees.now c.args.rank (record { 0 = 0 }) (c.requires.rank c.if-not-arbiter.false))

pub returns-clause-value : goal.returns-clause-value
returns-clause-value c =
    let want = c.args.want in
    let free = slice_get c.args.frees.now c.args.rank in
    let there = get_index c.args.frees.now c.args.rank (record { 0 = 0 }) (c.requires.rank c.if-not-arbiter.false) in
    IfOk-weaker c.both.result _ _ (λ s h v w.
    h v w
    ∙ ap (λ (o : Option Sig). on v want && on_in v o) (sym there)
    ∙ ap (λ (b : Bool). cond b (on v want && on_in v free) (on v want)) (sym c.if-not-arbiter.false)) c.both.ensures.value
