use Rattle.safl_evaluate.proofs.Common.{nil_from_length, nodes, nodes_in, shown_term, shown_terms, some_nodes}
use Rattle.std.proofs.Common.{rules, ◌≡◌, ◌+◌, ◌*◌, ◌<◌, refl, ap, arith}
use Rattle.safl_evaluate.proofs.LaidByParts as part
use Rattle.safl_evaluate.proofs.places.+lay.Goals as goal

pub lay-bounds-places-at : goal.lay-bounds-places-at
lay-bounds-places-at t c =
    omega (arith, c.requires, some_nodes (shown_term c.args.t.now), c.lay_parts-place.auto.places)

pub lay-returns-clause-laid : goal.lay-returns-clause-laid
lay-returns-clause-laid t c =
    part.laid_own c.lay_parts-place.new.places _ c.args.at (shown_term c.args.t.now) c.lay_parts-place.result c.lay_parts-place.ensures.laid
    c.lay_parts-place.ensures.place (omega (arith, c.requires, some_nodes (shown_term c.args.t.now), c.lay_parts-place.auto.places)) refl

pub lay-returns-clause-outside : goal.lay-returns-clause-outside
lay-returns-clause-outside t c =
    part.outside_own c.args.at (c.args.at + nodes (shown_term c.args.t.now)) c.lay_parts-place.result c.lay_parts-place.ensures.outside (omega (arith, some_nodes (shown_term c.args.t.now))) refl

pub lay_all-returns-in_default-clause-laid : goal.lay_all-returns-in_default-clause-laid
lay_all-returns-in_default-clause-laid t c =
    let shape = ap shown_terms (nil_from_length c.args.ts.now c.in_default.ensures.cases) in
    part.in_is c.args.places.now c.args.at shape (part.in_nil c.args.places.now c.args.at)

pub lay_all-returns-in_default-clause-room : goal.lay_all-returns-in_default-clause-room
lay_all-returns-in_default-clause-room t c =
    let shape = ap shown_terms (nil_from_length c.args.ts.now c.in_default.ensures.cases) in
    part.room_is shape (part.room_nil c.empty.ensures.next c.empty.ensures.plain c.empty.ensures.body)

pub lay_all-lay_all-others-requires : goal.lay_all-lay_all-others-requires
lay_all-lay_all-others-requires t c =
    let shape = ap shown_terms c.in-Some.ensures.cases.0 in
    let size = ap nodes_in shape in
    let smaller : 3 * nodes_in (shown_terms c.in-Some.rest.now) + 2 < 3 * nodes_in (shown_terms c.args.ts.now) + 2 = omega (arith, some_nodes (shown_term c.in-Some.first.now), size) in
    (search rules, omega (arith, size, c.requires, c.lay-one.ensures.place.next, c.lay-one.auto.places))

pub lay_all-returns-clause-laid : goal.lay_all-returns-clause-laid
lay_all-returns-clause-laid t c =
    let shape = ap shown_terms c.in-Some.ensures.cases.0 in
    let next = c.lay-one.ensures.place.next in
    part.in_is c.lay_all-others.new.places c.args.at shape (part.laid_more c.args.at (shown_term c.in-Some.first.now) (shown_terms c.in-Some.rest.now)
    c.lay-one.ensures.laid (part.laid_in_at c.lay_all-others.new.places (shown_terms c.in-Some.rest.now) next c.lay_all-others.ensures.laid)
    (part.outside_at (nodes_in (shown_terms c.in-Some.rest.now)) next c.lay_all-others.ensures.outside))

pub lay_all-returns-clause-room : goal.lay_all-returns-clause-room
lay_all-returns-clause-room t c =
    let shape = ap shown_terms c.in-Some.ensures.cases.0 in
    part.room_is shape (part.room_more c.lay-one.ensures.place (part.room_at c.lay-one.ensures.place.next c.lay_all-others.ensures.room)
    c.followed.ensures.first c.followed.ensures.second c.followed.ensures.next c.followed.ensures.plain c.followed.ensures.body)

pub lay_parts-returns-in-Const-clause-laid : goal.lay_parts-returns-in-Const-clause-laid
lay_parts-returns-in-Const-clause-laid t c =
    part.below_is c.args.places.now c.args.at c.in-Const.ensures (part.below_const c.args.places.now c.args.at _)

pub lay_parts-returns-in-Const-clause-place : goal.lay_parts-returns-in-Const-clause-place
lay_parts-returns-in-Const-clause-place t c =
    part.place_is c.in-Const.ensures (part.place_const c.empty.ensures.next c.empty.ensures.plain c.empty.ensures.body)

pub lay_parts-returns-in-Var-clause-laid : goal.lay_parts-returns-in-Var-clause-laid
lay_parts-returns-in-Var-clause-laid t c =
    part.below_is c.args.places.now c.args.at c.in-Var.ensures (part.below_var c.args.places.now c.args.at _)

pub lay_parts-returns-in-Var-clause-place : goal.lay_parts-returns-in-Var-clause-place
lay_parts-returns-in-Var-clause-place t c =
    part.place_is c.in-Var.ensures (part.place_var c.empty-in-Var.ensures.next c.empty-in-Var.ensures.plain c.empty-in-Var.ensures.body)

pub lay_parts-returns-in-If-clause-laid : goal.lay_parts-returns-in-If-clause-laid
lay_parts-returns-in-If-clause-laid t c =
    let second = c.lay-first.ensures.place.next in
    let third : c.lay-second.result.next ≡ c.args.at + 1 + nodes (shown_term c.in-If.condition.now) + nodes (shown_term c.in-If.a.now) = omega
    (arith, second, c.lay-second.ensures.place.next) in
    let x = shown_term c.in-If.a.now in
    let y = shown_term c.in-If.b.now in
    part.below_is c.lay-third.new.places c.args.at c.in-If.ensures (part.laid_if c.args.at (shown_term c.in-If.condition.now) x y c.lay-first.ensures.laid
    (part.laid_at c.lay-second.new.places x second c.lay-second.ensures.laid)
    (part.laid_at c.lay-third.new.places y third c.lay-third.ensures.laid) (part.outside_at (nodes x) second c.lay-second.ensures.outside)
    (part.outside_at (nodes y) third c.lay-third.ensures.outside))

pub lay_parts-returns-in-If-clause-place : goal.lay_parts-returns-in-If-clause-place
lay_parts-returns-in-If-clause-place t c =
    let second = c.lay-first.ensures.place.next in
    let third : c.lay-second.result.next ≡ c.args.at + 1 + nodes (shown_term c.in-If.condition.now) + nodes (shown_term c.in-If.a.now) = omega
    (arith, second, c.lay-second.ensures.place.next) in
    part.place_is c.in-If.ensures (part.place_if c.lay-first.ensures.place (part.place_at second c.lay-second.ensures.place)
    (part.place_at third c.lay-third.ensures.place) c.either.ensures.first c.either.ensures.second c.followed.ensures.first c.followed.ensures.second
    c.followed.ensures.next c.either.ensures.next c.either.ensures.plain c.followed.ensures.plain c.either.ensures.body c.followed.ensures.body)

pub lay_parts-returns-in-Let-clause-laid : goal.lay_parts-returns-in-Let-clause-laid
lay_parts-returns-in-Let-clause-laid t c =
    let next = c.lay-below.ensures.place.next in
    part.below_is c.lay_all-bindings.new.places c.args.at c.in-Let.ensures
    (part.laid_let c.args.at (shown_terms c.in-Let.bound.now) (shown_term c.in-Let.body.now) c.lay-below.ensures.laid
    (part.laid_in_at c.lay_all-bindings.new.places (shown_terms c.in-Let.bound.now) next c.lay_all-bindings.ensures.laid)
    (part.outside_at (nodes_in (shown_terms c.in-Let.bound.now)) next c.lay_all-bindings.ensures.outside))

pub lay_parts-returns-in-Let-clause-place : goal.lay_parts-returns-in-Let-clause-place
lay_parts-returns-in-Let-clause-place t c =
    let next = c.lay-below.ensures.place.next in
    part.place_is c.in-Let.ensures (part.place_let c.lay-below.ensures.place (part.room_at next c.lay_all-bindings.ensures.room) c.bound_in.ensures.first
    c.bound_in.ensures.second c.bound_in.ensures.next c.bound_in.ensures.plain c.bound_in.ensures.body)

pub lay_parts-returns-in-Let-clause-outside : goal.lay_parts-returns-in-Let-clause-outside
lay_parts-returns-in-Let-clause-outside t c =
    let size = ap nodes c.in-Let.ensures in
    let next = c.lay-below.ensures.place.next in
    part.outside_both (part.outside_more c.lay-below.ensures.outside (omega arith) (omega (arith, size)))
    (part.outside_more c.lay_all-bindings.ensures.outside (omega (arith, next)) (omega (arith, next, size)))

pub lay_parts-returns-in-Op-clause-laid : goal.lay_parts-returns-in-Op-clause-laid
lay_parts-returns-in-Op-clause-laid t c =
    part.below_is c.lay_all.new.places c.args.at c.in-Op.ensures (part.below_op c.lay_all.new.places c.args.at c.in-Op.field-0 (shown_terms c.in-Op.ts.now) c.lay_all.ensures.laid)

pub lay_parts-returns-in-Op-clause-place : goal.lay_parts-returns-in-Op-clause-place
lay_parts-returns-in-Op-clause-place t c =
    part.place_is c.in-Op.ensures (part.place_op c.lay_all.ensures.room)

pub lay_parts-returns-in-Op-clause-outside : goal.lay_parts-returns-in-Op-clause-outside
lay_parts-returns-in-Op-clause-outside t c =
    let size = ap nodes c.in-Op.ensures in
    part.outside_more c.lay_all.ensures.outside (omega arith) (omega (arith, size))

pub lay_parts-returns-in-Call-clause-laid : goal.lay_parts-returns-in-Call-clause-laid
lay_parts-returns-in-Call-clause-laid t c =
    part.below_is c.lay_all-in-Call.new.places c.args.at c.in-Call.ensures
    (part.below_call c.lay_all-in-Call.new.places c.args.at c.in-Call.field-0 c.in-Call.k (shown_terms c.in-Call.ts.now) c.lay_all-in-Call.ensures.laid)

pub lay_parts-returns-in-Call-clause-place : goal.lay_parts-returns-in-Call-clause-place
lay_parts-returns-in-Call-clause-place t c =
    part.place_is c.in-Call.ensures (part.place_call c.lay_all-in-Call.ensures.room c.with_site.ensures.others c.with_site.ensures.next c.with_site.ensures.first
    c.with_site.ensures.last c.with_site.ensures.plain c.with_site.ensures.body)

pub lay_parts-returns-in-Call-clause-outside : goal.lay_parts-returns-in-Call-clause-outside
lay_parts-returns-in-Call-clause-outside t c =
    let size = ap nodes c.in-Call.ensures in
    part.outside_more c.lay_all-in-Call.ensures.outside (omega arith) (omega (arith, size))

pub lay_parts-returns-in-Loop-clause-laid : goal.lay_parts-returns-in-Loop-clause-laid
lay_parts-returns-in-Loop-clause-laid t c =
    part.below_is c.lay_all-in-Loop.new.places c.args.at c.in-Loop.ensures
    (part.below_loop c.lay_all-in-Loop.new.places c.args.at c.in-Loop.field-0 (shown_terms c.in-Loop.ts.now) c.lay_all-in-Loop.ensures.laid)

pub lay_parts-returns-in-Loop-clause-place : goal.lay_parts-returns-in-Loop-clause-place
lay_parts-returns-in-Loop-clause-place t c =
    part.place_is c.in-Loop.ensures (part.place_loop c.lay_all-in-Loop.ensures.room c.with_loop.ensures)

pub lay_parts-returns-in-Loop-clause-outside : goal.lay_parts-returns-in-Loop-clause-outside
lay_parts-returns-in-Loop-clause-outside t c =
    let size = ap nodes c.in-Loop.ensures in
    part.outside_more c.lay_all-in-Loop.ensures.outside (omega arith) (omega (arith, size))
