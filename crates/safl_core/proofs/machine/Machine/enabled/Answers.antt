use Rattle.safl_core.proofs.Common.{Answer, List, NotYet, Option, Word, ap, arith, delivers_to, event_of, get_or, is_idle, is_ready}
use Rattle.safl_core.proofs.Common.{is_sent, loops_to, runs, stage_at, unit_at, unit_for, wanted_at, ◌&&◌, ◌∙◌}
use Rattle.safl_calls.specs.Machine.{Accept, Finish, Return, LoopInto, is_unsent}
use Rattle.safl_core.specs.declared.mode.Mode.{Mode}
use Rattle.safl_evaluate.specs.declared.stage.Stage.{Stage}
use Rattle.safl_core.proofs.KeptByEvents.{finish_in, return_in, looping}
use Rattle.safl_core.proofs.LawsOfKept.{tested_as, refused_as, accept_test, accept_within, finish_test, return_test, loop_test}
use Rattle.safl_core.proofs.machine.Machine.enabled.Goals as goal

pub returns-then-k-sites : goal.returns-then-k-sites
returns-then-k-sites c =
    let h = c.self.invariant.kept in
    refused_as h c.args.self.now (Accept c.in-Accept.k) (event_of c.args.e) c.self.view_is (ap event_of c.in-Accept.is)
    (λ q. absurd (omega (arith, accept_within h c.in-Accept.k q, c.sites.ensures.count, c.if-k-sites.true)))

pub returns-then-f-functions : goal.returns-then-f-functions
returns-then-f-functions c =
    let h = c.self.invariant.kept in
    refused_as h c.args.self.now (Finish c.in-Finish.f) (event_of c.args.e) c.self.view_is (ap event_of c.in-Finish.is)
    (λ q. absurd (omega (arith, finish_in h c.in-Finish.f q.0 q.1 q.3, c.functions-functions.ensures.count, c.if-f-functions.true)))

pub returns-then-k-sites-2 : goal.returns-then-k-sites-2
returns-then-k-sites-2 c =
    let h = c.self.invariant.kept in
    refused_as h c.args.self.now (Return c.in-Return.k) (event_of c.args.e) c.self.view_is (ap event_of c.in-Return.is)
    (λ q. absurd (omega (arith, return_in h c.in-Return.k q.0 q.1, c.sites-in-Return.ensures.count, c.if-k-sites-2.true)))

pub returns-then-h-functions : goal.returns-then-h-functions
returns-then-h-functions c =
    let h = c.self.invariant.kept in
    refused_as h c.args.self.now (LoopInto c.in-Loop.h) (event_of c.args.e) c.self.view_is (ap event_of c.in-Loop.is)
    (λ q. absurd (omega (arith, (looping h c.in-Loop.h q.0 q.1).within, c.functions-functions.ensures.count, c.if-h-functions.true)))

pub returns-else-k-sites : goal.returns-else-k-sites
returns-else-k-sites c =
    let h = c.self.invariant.kept in
    let m = c.self.inside in
    let C = m.checked.now.program in
    let k = c.in-Accept.k in
    let is = c.accepts.ensures
    ∙ (ap (λ (x : List Mode). (is_unsent (stage_at c.deref-in-Accept.result.now k) && wanted_at c.deref-in-Accept-2.result.now k) && is_idle (unit_at x (unit_for C k))) c.deref.ensures.value
    ∙ (ap (λ (x : List Stage). (is_unsent (stage_at x k) && wanted_at c.deref-in-Accept-2.result.now k) && is_idle (unit_at m.state.modes.items (unit_for C k))) c.deref-in-Accept.ensures.value
    ∙ ap (λ (x : List (Option (List Word))). (is_unsent (stage_at m.state.stages.items k) && wanted_at x k) && is_idle
    (unit_at m.state.modes.items (unit_for C k))) c.deref-in-Accept-2.ensures.value)) in
    tested_as h c.args.self.now (Accept k) (event_of c.args.e) c.accepts.result c.self.view_is (ap event_of c.in-Accept.is)
    (accept_test h k 0 c.accepts.result (omega (arith, c.sites.ensures.count, c.if-k-sites.false)) is)

pub returns-else-f-functions : goal.returns-else-f-functions
returns-else-f-functions c =
    let h = c.self.invariant.kept in
    let m = c.self.inside in
    let f = c.in-Finish.f in
    let is = c.finishes.ensures
    ∙ (ap (λ (x : List Mode). runs (unit_at x c.unit.result) f && is_ready (get_or c.deref-in-Finish-2.result.now c.unit.result NotYet)) c.deref-in-Finish.ensures.value
    ∙ ap (λ (x : List Answer). runs (unit_at m.state.modes.items c.unit.result) f && is_ready (get_or x c.unit.result NotYet)) c.deref-in-Finish-2.ensures.value) in
    tested_as h c.args.self.now (Finish f) (event_of c.args.e) c.finishes.result c.self.view_is (ap event_of c.in-Finish.is)
    (finish_test h f c.unit.result c.finishes.result c.unit.ensures.number is)

pub returns-else-k-sites-2 : goal.returns-else-k-sites-2
returns-else-k-sites-2 c =
    let h = c.self.invariant.kept in
    let m = c.self.inside in
    let C = m.checked.now.program in
    let k = c.in-Return.k in
    let is = c.returns.ensures
    ∙ (ap (λ (x : List Mode). is_sent (stage_at c.deref-in-Return-2.result.now k) && delivers_to (unit_at x (unit_for C k)) k) c.deref-in-Return.ensures.value
    ∙ ap (λ (x : List Stage). is_sent (stage_at x k) && delivers_to (unit_at m.state.modes.items (unit_for C k)) k) c.deref-in-Return-2.ensures.value) in
    tested_as h c.args.self.now (Return k) (event_of c.args.e) c.returns.result c.self.view_is (ap event_of c.in-Return.is)
    (return_test h k c.returns.result is)

pub returns-else-h-functions : goal.returns-else-h-functions
returns-else-h-functions c =
    let h = c.self.invariant.kept in
    let n = c.in-Loop.h in
    let is = c.loops.ensures ∙ ap (λ (x : List Answer). loops_to (get_or x c.unit-in-Loop.result NotYet) n) c.deref-in-Loop.ensures.value in
    tested_as h c.args.self.now (LoopInto n) (event_of c.args.e) c.loops.result c.self.view_is (ap event_of c.in-Loop.is)
    (loop_test h n c.unit-in-Loop.result c.loops.result c.unit-in-Loop.ensures.number is)
