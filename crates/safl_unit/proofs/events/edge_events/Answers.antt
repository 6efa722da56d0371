use Rattle.safl_unit.proofs.Common.{BitsFit, Load, Sig, SomeFit, builds_on, builds_within, on_from, some_kept, taken_from}
use Rattle.std.proofs.Common.{ℕ, ◌+◌, ◌*◌, ◌==◌, ◌&&◌, ◌||◌, List, [], ◌∷◌, Option, length, is_some, sym, ap, subst, ◌∙◌, arith}
use Rattle.safl_unit.specs.Edges.{one_below, rival, ShowsBits, ShowsBelow}
use Rattle.safl_unit.proofs.equations.Keeping.{outcomes_kept, goes_fit_kept, goes_kept, ends_kept, all_loads_kept, tests_kept}
use Rattle.safl_circuit.specs.Equations.{starts, clears, starts_it}
use Rattle.safl_unit.proofs.equations.Crossing.{outcomes_fit_kept, has_ends, has_loads, has_starts, has_clears, has_entries, has_rivals}
use Rattle.safl_unit.proofs.events.edge_events.Goals as goal

pub unit_ends-requires-clause-outcomes : goal.unit_ends-requires-clause-outcomes
unit_ends-requires-clause-outcomes c = c.requires.outcomes

pub unit_ends-requires-clause-room : goal.unit_ends-requires-clause-room
unit_ends-requires-clause-room c = let r = c.requires.room.room in record { tidy = c.requires.room.tidy; room = omega (arith, r) }

pub function_loads-requires-clause-outcomes : goal.function_loads-requires-clause-outcomes
function_loads-requires-clause-outcomes c = outcomes_fit_kept c.in_ok-ends.ensures.built c.requires.outcomes

pub function_loads-requires-clause-goes : goal.function_loads-requires-clause-goes
function_loads-requires-clause-goes c = goes_fit_kept c.in_ok-ends.ensures.built c.requires.goes

pub function_loads-requires-clause-room : goal.function_loads-requires-clause-room
function_loads-requires-clause-room c =
    let r = c.requires.room.room in
    let b = c.in_ok-ends.ensures.built.count in
    record { tidy = c.in_ok-ends.ensures.built.tidy; room = omega (arith, r, b) }

pub unit_starts-requires-clause-goes : goal.unit_starts-requires-clause-goes
unit_starts-requires-clause-goes c = goes_fit_kept (builds_on c.in_ok-ends.ensures.built c.in_ok-loads.ensures.built) c.requires.goes

pub unit_starts-requires-clause-room : goal.unit_starts-requires-clause-room
unit_starts-requires-clause-room c =
    let r = c.requires.room.room in
    let b = (builds_on c.in_ok-ends.ensures.built c.in_ok-loads.ensures.built).count in
    record { tidy = c.in_ok-loads.ensures.built.tidy; room = omega (arith, r, b) }

pub unit_clears-requires-clause-outcomes : goal.unit_clears-requires-clause-outcomes
unit_clears-requires-clause-outcomes c = outcomes_fit_kept (builds_on (builds_on c.in_ok-ends.ensures.built c.in_ok-loads.ensures.built) c.in_ok-starts.ensures.built) c.requires.outcomes

pub unit_clears-requires-clause-count : goal.unit_clears-requires-clause-count
unit_clears-requires-clause-count c = ap (λ (xs : List (Option Load)). length xs) c.deref.ensures.value ∙ c.in_ok-ends.ensures.done.entries

pub unit_clears-requires-clause-ends : goal.unit_clears-requires-clause-ends
unit_clears-requires-clause-ends c =
    let C = c.args.p.now.program in
    let ws = λ (u : ℕ). C.result u ∷ [] in (
      ws,
      subst (λ (xs : List (Option Load)). SomeFit c.unit_starts.new.net xs ws) (sym c.deref.ensures.value)
          (some_kept (builds_on c.in_ok-loads.ensures.built c.in_ok-starts.ensures.built) c.in_ok-ends.ends.items ws c.in_ok-ends.ensures.done.fits),
    )

pub unit_clears-requires-clause-room : goal.unit_clears-requires-clause-room
unit_clears-requires-clause-room c =
    let r = c.requires.room.room in
    let b = (builds_on (builds_on c.in_ok-ends.ensures.built c.in_ok-loads.ensures.built) c.in_ok-starts.ensures.built).count in
    record { tidy = c.in_ok-starts.ensures.built.tidy; room = omega (arith, r, b) }

pub function_entries-requires-clause-outcomes : goal.function_entries-requires-clause-outcomes
function_entries-requires-clause-outcomes c =
    outcomes_fit_kept (builds_on (builds_on (builds_on c.in_ok-ends.ensures.built c.in_ok-loads.ensures.built) c.in_ok-starts.ensures.built) c.in_ok-clears.ensures.built) c.requires.outcomes

pub function_entries-requires-clause-count : goal.function_entries-requires-clause-count
function_entries-requires-clause-count c = ap (λ (xs : List (Option Load)). length xs) c.deref-2.ensures.value ∙ c.in_ok-loads.ensures.done.entries

pub function_entries-requires-clause-loads : goal.function_entries-requires-clause-loads
function_entries-requires-clause-loads c =
    let C = c.args.p.now.program in (
      C.params,
      subst (λ (xs : List (Option Load)). SomeFit c.unit_clears.new.net xs C.params) (sym c.deref-2.ensures.value)
          (some_kept (builds_on c.in_ok-starts.ensures.built c.in_ok-clears.ensures.built) c.in_ok-loads.loads.items C.params c.in_ok-loads.ensures.done.fits),
    )

pub function_entries-requires-clause-room : goal.function_entries-requires-clause-room
function_entries-requires-clause-room c =
    let r = c.requires.room.room in
    let b = (builds_on (builds_on (builds_on c.in_ok-ends.ensures.built c.in_ok-loads.ensures.built) c.in_ok-starts.ensures.built) c.in_ok-clears.ensures.built).count in
    record { tidy = c.in_ok-clears.ensures.built.tidy; room = omega (arith, r, b) }

pub function_rivals-requires-clause-entries : goal.function_rivals-requires-clause-entries
function_rivals-requires-clause-entries c = record {
  count = ap (λ (xs : List (Option Sig)). length xs) c.deref-3.ensures.value ∙ c.in_ok-entries.ensures.done.entries;
  each = subst (λ (xs : List (Option Sig)). BitsFit c.function_entries.new.net xs) (sym c.deref-3.ensures.value) c.in_ok-entries.ensures.done.fits;
}

pub function_rivals-requires-clause-room : goal.function_rivals-requires-clause-room
function_rivals-requires-clause-room c =
    let r = c.requires.room.room in
    let b = (builds_on (builds_on (builds_on (builds_on c.in_ok-ends.ensures.built c.in_ok-loads.ensures.built) c.in_ok-starts.ensures.built)
    c.in_ok-clears.ensures.built) c.in_ok-entries.ensures.built).count in
    record { tidy = c.in_ok-entries.ensures.built.tidy; room = omega (arith, r, b) }

pub returns-clause-built : goal.returns-clause-built
returns-clause-built c =
    let C = c.args.p.now.program in
    builds_within (11 * C.functions + 18 * C.sites + 18)
    (builds_on (builds_on (builds_on (builds_on (builds_on c.in_ok-ends.ensures.built c.in_ok-loads.ensures.built) c.in_ok-starts.ensures.built)
    c.in_ok-clears.ensures.built) c.in_ok-entries.ensures.built) c.in_ok-rivals.ensures.built)
    (omega arith)

pub returns-clause-done : goal.returns-clause-done
returns-clause-done c = λ p q g.
    let C = c.args.p.now.program in
    let P = c.args.p.now.choice in
    let o = c.args.outcomes.now in
    let b1 = c.in_ok-ends.ensures.built in
    let b2 = builds_on b1 c.in_ok-loads.ensures.built in
    let b3 = builds_on b2 c.in_ok-starts.ensures.built in
    let b4 = builds_on b3 c.in_ok-clears.ensures.built in
    let b5 = builds_on b4 c.in_ok-entries.ensures.built in
    let l6 = c.in_ok-rivals.ensures.built in
    let l5 = builds_on c.in_ok-entries.ensures.built l6 in
    let l4 = builds_on c.in_ok-clears.ensures.built l5 in
    let l3 = builds_on c.in_ok-starts.ensures.built l4 in
    let l2 = builds_on c.in_ok-loads.ensures.built l3 in
    let ends = has_ends C P c.unit_ends.new.net p o c.in_ok-ends.ends.items (outcomes_kept b1 q) c.in_ok-ends.ensures.done in
    let loads = has_loads C P c.function_loads.new.net p o c.args.goes.now c.in_ok-loads.loads.items (outcomes_kept b2 q) (goes_kept b2 g) c.in_ok-loads.ensures.done in
    let started = has_starts C P c.unit_starts.new.net p c.args.goes.now c.in_ok-starts.starts.items (goes_kept b3 g) c.in_ok-starts.ensures.done in
    let mid = builds_on (builds_on c.in_ok-loads.ensures.built c.in_ok-starts.ensures.built) c.in_ok-clears.ensures.built in
    let cleared = has_clears C P c.unit_clears.new.net p o c.in_ok-ends.ends.items c.in_ok-clears.clears.items (outcomes_kept b4 q) (ends_kept mid ends)
    (subst (λ (xs : List (Option Load)). ShowsBits c.unit_clears.new.net c.in_ok-clears.clears.items C.functions
    (λ v u. is_some (taken_from v xs u) || one_below (λ h. (u == C.unit h) && is_some (taken_from v o.loops.items h)) C.functions))
    c.deref.ensures.value c.in_ok-clears.ensures.done) in
    let front = builds_on (builds_on c.in_ok-starts.ensures.built c.in_ok-clears.ensures.built) c.in_ok-entries.ensures.built in
    let entries = has_entries C P c.function_entries.new.net p o c.in_ok-loads.loads.items c.in_ok-entries.entries.items (outcomes_kept b5 q) (all_loads_kept front loads)
    (subst (λ (xs : List (Option Load)). ShowsBits c.function_entries.new.net c.in_ok-entries.entries.items C.functions
    (λ v f. is_some (taken_from v xs f) || one_below (λ h. (f == h) && is_some (taken_from v o.loops.items h)) C.functions))
    c.deref-2.ensures.value c.in_ok-entries.ensures.done) in
    let kept = tests_kept l6 C P p c.in_ok-entries.entries.items (λ r i f. starts_it C P r i f) entries in
    record {
      ends = ends_kept l2 ends;
      loads = all_loads_kept l3 loads;
      starts = tests_kept l4 C P p c.in_ok-starts.starts.items (λ r i u. is_some (starts C P r i u)) started;
      clears = tests_kept l5 C P p c.in_ok-clears.clears.items (λ r i u. clears C P r u) cleared;
      entries = kept;
      rivals = has_rivals C P c.function_rivals.new.net p c.in_ok-entries.entries.items c.in_ok-rivals.rivals.items kept
          (subst (λ (xs : List (Option Sig)). ShowsBelow c.function_rivals.new.net c.in_ok-rivals.rivals.items C.functions
          (λ v f. one_below (rival C (on_from v xs) f) C.functions)) c.deref-3.ensures.value c.in_ok-rivals.ensures.done);
    }
