use Rattle.safl_unit.proofs.Common.{Load, PushesLoads, load_joins, loads_cost, maybe_load, row_at, total}
use Rattle.std.proofs.Common.{ℕ, ◌+◌, ◌++◌, ◌∷◌, [], ◌≤◌, ◌==◌, cond, List, Option, length, length-append, map-id, rules, refl, sym, ap, subst, ◌∙◌, arith}
use Rattle.std.proofs.lemmas.Iterator.Consumers.{YieldsList-turn, YieldsList-end}
use Rattle.std.proofs.lemmas.Iterator.Adapters.{YieldsList-from_vec}
use Rattle.safl_unit.proofs.equations.Joins.{cost_end, none_pushed, more_pushed}
use Rattle.safl_unit.proofs.bodies.push_loops.Goals as goal

pub loop-load-init : goal.loop-load-init
loop-load-init c = record {
  count = refl;
  place = omega arith;
  pushed = none_pushed c.args.first_member c.args.rows.now.items;
  gates = omega arith;
}

pub push_maybe-requires : goal.push_maybe-requires
push_maybe-requires c =
    let turn = YieldsList-turn (YieldsList-from_vec {s = c.into_iter-load-iterator.result} c.args.own.items (search rules) (search rules))
    c.loop-load.yielded c.loop-load.load-iterator c.loop-load.yielded_by c.next.result c.next.new.self c.in-Some.load c.in-Some.is c.next.ensures.steps in
    let below = turn.0 in
    let place = c.loop-load.invariant.place in
    let count = c.loop-load.invariant.count in
    let within = c.requires.within in
    record { place = omega (arith, below, place, count, within) }

pub loop-load-preserved : goal.loop-load-preserved
loop-load-preserved c =
    let i = c.loop-load.invariant in
    let e = c.in_ok-push_maybe.ensures in
    let p = i.place in
    let g = i.gates in
    let more = e.gates in
    let cost = cost_end c.loop-load.yielded c.in-Some.load in
    let long = length-append c.loop-load.yielded (c.in-Some.load ∷ []) in
    record {
      count = c.push_maybe.ensures.count ∙ i.count;
      place = omega (arith, p, long);
      pushed = more_pushed c.args.first_member c.loop-load.yielded c.args.rows.now.items c.loop-load.rows.items c.push_maybe.new.rows.items c.in-Some.load i.pushed
          (λ k. e.rows k ∙ ap (λ (m : ℕ). row_at c.loop-load.rows.items k ++ cond (k == m) (maybe_load c.in-Some.load) []) p);
      gates = omega (arith, g, more, cost);
    }

pub returns : goal.returns
returns c =
    let end = YieldsList-end (YieldsList-from_vec {s = c.into_iter-load-iterator.result} c.args.own.items (search rules) (search rules))
    c.loop-load.yielded c.loop-load.load-iterator c.loop-load.yielded_by c.next.result c.next.new.self c.in-None.is c.next.ensures.steps in
    let all = sym (map-id c.loop-load.yielded) ∙ end.0 in
    let i = c.loop-load.invariant in
    record {
      count = i.count;
      pushed = subst (λ (xs : List (Option Load)). PushesLoads c.args.first_member (length xs) xs c.args.rows.now.items c.loop-load.rows.items) all i.pushed;
      gates = subst (λ (xs : List (Option Load)). total load_joins c.loop-load.rows.items ≤ total load_joins c.args.rows.now.items + loads_cost xs) all i.gates;
    }
