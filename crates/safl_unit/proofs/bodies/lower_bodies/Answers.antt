use Rattle.safl_unit.proofs.Common.{CheckedProgram, Gathered, IsChecked, IsFirstOf, Load, Outcomes, PushesLoads, entry_in}
use Rattle.std.proofs.Common.{◌≡◌, ℕ, slice_get, ◌<◌, List, Vec, Global, length, refl, subst, sym, ap, ◌∙◌, arith}
use Rattle.safl_lower.specs.Rows.{load_joins, total, row_at, RowsFit}
use Rattle.safl_lower.proofs.Building.{builds_same, builds_on, builds_within}
use Rattle.safl_term.specs.Sizes.{body_nodes}
use Rattle.safl_unit.proofs.equations.Keeping.{pins_kept, returns_kept}
use Rattle.safl_term.proofs.HeldByChecked.{nodes_within}
use Rattle.safl_unit.proofs.equations.Joins.{nodes_next}
use Rattle.safl_unit.proofs.equations.Outcoming.{none_outcomes, next_outcomes, all_outcomes}
use Rattle.safl_unit.proofs.bodies.lower_bodies.Goals as goal

pub loop-f-init : goal.loop-f-init
loop-f-init c =
    let same = c.checked-c.ensures.same in
    let count = c.functions.ensures.count ∙ ap (λ (x : CheckedProgram). x.program.functions) same in
    let e = c.in_ok-all.ensures in
    let w = e.wants in
    record {
      built = builds_same c.args.net.now c.args.net.now c.requires.room.tidy refl _;
      done = none_outcomes c.args.p.now.checked (subst IsChecked same c.functions.ensures.checked) c.args.p.now.choice c.args.net.now
          c.args.pins.now c.in_ok-all.all w.0 c.requires.pins e.ends (e.count ∙ count) e.rows w.1 w.2 w.3;
    }

pub body_of-requires-clause-pins : goal.body_of-requires-clause-pins
body_of-requires-clause-pins c = pins_kept c.loop-f.invariant.built c.requires.pins

pub body_of-requires-clause-returns : goal.body_of-requires-clause-returns
body_of-requires-clause-returns c = returns_kept c.loop-f.invariant.built c.requires.returns

pub body_of-requires-clause-room : goal.body_of-requires-clause-room
body_of-requires-clause-room c =
    let same = c.checked-c.ensures.same in
    let count = c.functions-f-end.ensures.count ∙ ap (λ (x : CheckedProgram). x.program.functions) same in
    let t = c.loop-f-test.true in
    let l : c.loop-f.f < c.args.p.now.program.functions = omega (arith, count, t) in
    let within = nodes_within c.args.p.now.program c.loop-f.f c.args.p.now.program.functions l in
    let built = c.loop-f.invariant.built.count in
    let room = c.requires.room.room in
    record { tidy = c.loop-f.invariant.built.tidy; room = omega (arith, l, within, built, room) }

pub push_loops-requires : goal.push_loops-requires
push_loops-requires c =
    let same = c.checked-c.ensures.same in
    let unit = c.unit.ensures.number ∙ ap (λ (x : CheckedProgram). x.program.unit c.loop-f.f) same in
    let within = c.in_ok-body.ensures.done.group.within in
    let long = c.loop-f.invariant.done.loops_length in
    record { within = omega (arith, unit, within, long) }

pub loop-f-preserved : goal.loop-f-preserved
loop-f-preserved c =
    let same = c.checked-c.ensures.same in
    let count = c.functions-f-end.ensures.count ∙ ap (λ (x : CheckedProgram). x.program.functions) same in
    let t = c.loop-f-test.true in
    let l : c.loop-f.f < c.args.p.now.program.functions = omega (arith, count, t) in
    let unit = c.unit.ensures.number ∙ ap (λ (x : CheckedProgram). x.program.unit c.loop-f.f) same in
    let body = c.in_ok-body.body in
    let done = c.in_ok-body.ensures.done in
    let built = c.in_ok-body.ensures.built in
    let pushed = c.in_ok-push_loops.ensures in
    let next = nodes_next c.args.p.now.program c.loop-f.f in
    let q : Gathered = record { ends = c.push.new.self; wants = c.append.new.self; rows = c.push_loops.new.rows } in
    record {
      built = builds_within _ (builds_on c.loop-f.invariant.built built) (omega (arith, next));
      done = next_outcomes c.args.p.now.checked (subst IsChecked same c.functions.ensures.checked) c.args.p.now.choice c.args.pins.now c.loop-f.f
          l c.loop-f.net c.body_of.new.net _ c.loop-f.all q body
          c.loop-f.invariant.done built done c.in_ok-push.ensures.items c.in_ok-append.ensures.items pushed.count
          (subst (λ u. PushesLoads u (length body.loops.items) body.loops.items c.loop-f.all.rows.items c.push_loops.new.rows.items) unit pushed.pushed) pushed.gates;
    }

pub join_loads-requires-clause-fits : goal.join_loads-requires-clause-fits
join_loads-requires-clause-fits c =
    let ws = c.args.p.now.program.params in
    (ws, subst (λ (rows : List (Vec Load Global)). RowsFit c.loop-f.net rows ws) (sym c.deref.ensures.value) c.loop-f.invariant.done.loops)

pub join_loads-requires-clause-room : goal.join_loads-requires-clause-room
join_loads-requires-clause-room c =
    let same = c.checked-c.ensures.same in
    let count = c.functions-f-end.ensures.count ∙ ap (λ (x : CheckedProgram). x.program.functions) same in
    let t = c.loop-f-test.false in
    let m = c.loop-f.auto.f-end in
    let e : c.loop-f.f ≡ c.args.p.now.program.functions = omega (arith, count, t, m) in
    let nodes = ap (body_nodes c.args.p.now.program) e in
    let d = ap (total load_joins) c.deref.ensures.value in
    let gates = c.loop-f.invariant.done.gates in
    let built = c.loop-f.invariant.built.count in
    let room = c.requires.room.room in
    record { tidy = c.loop-f.invariant.built.tidy; room = omega (arith, e, nodes, d, gates, built, room) }

pub returns-clause-built : goal.returns-clause-built
returns-clause-built c =
    let same = c.checked-c.ensures.same in
    let count = c.functions-f-end.ensures.count ∙ ap (λ (x : CheckedProgram). x.program.functions) same in
    let t = c.loop-f-test.false in
    let m = c.loop-f.auto.f-end in
    let e : c.loop-f.f ≡ c.args.p.now.program.functions = omega (arith, count, t, m) in
    let nodes = ap (body_nodes c.args.p.now.program) e in
    let d = ap (total load_joins) c.deref.ensures.value in
    let gates = c.loop-f.invariant.done.gates in
    builds_within _ (builds_on c.loop-f.invariant.built c.in_ok-loops.ensures.built) (omega (arith, e, nodes, d, gates))

pub returns-clause-done : goal.returns-clause-done
returns-clause-done c =
    let same = c.checked-c.ensures.same in
    let count = c.functions-f-end.ensures.count ∙ ap (λ (x : CheckedProgram). x.program.functions) same in
    let t = c.loop-f-test.false in
    let m = c.loop-f.auto.f-end in
    let e : c.loop-f.f ≡ c.args.p.now.program.functions = omega (arith, count, t, m) in
    let d = c.deref.ensures.value in
    let ws = c.args.p.now.program.params in
    let q : Outcomes = record { ends = c.loop-f.all.ends; loops = c.in_ok-loops.loops; wants = c.loop-f.all.wants } in
    let joined = c.in_ok-loops.ensures in
    all_outcomes c.args.p.now.checked c.args.p.now.choice c.loop-f.net c.join_loads.new.net _ c.args.pins.now c.loop-f.f c.loop-f.all q e c.loop-f.invariant.done joined.built refl refl
    (joined.count ∙ ap (λ (rows : List (Vec Load Global)). length rows) d)
    (joined.fits ws (subst (λ (rows : List (Vec Load Global)). RowsFit c.loop-f.net rows ws) (sym d) c.loop-f.invariant.done.loops))
    (subst (λ (rows : List (Vec Load Global)). (i : ℕ) → IsFirstOf c.join_loads.new.net (row_at rows i) (entry_in (slice_get c.in_ok-loops.loops.items i))) d joined.joined)
