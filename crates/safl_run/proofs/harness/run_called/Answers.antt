use Rattle.std.proofs.Common.{◌+◌, ◌∷◌, [], ◌++◌, slice_index, refl, sym, ap, subst, ◌∙◌, arith}
use Rattle.std.proofs.lemmas.List.{length_push}
use Rattle.safl_net.specs.Netlist.{Netlist}
use Rattle.safl_run.specs.Steps.{IsCalled, Goes}
use Rattle.safl_run.proofs.Going.{going_none}
use Rattle.safl_run.proofs.Stepping.{goes_along, goes_on, replied}
use Rattle.safl_run.proofs.harness.run_called.Goals as goal

pub cycles-init : goal.cycles-init
cycles-init c = record { net = refl; frames = []; count = refl; going = λ args called. going_none _ _ args; given = λ h. absurd (omega (arith, h)) }

pub step-done-requires-clause-called : goal.step-done-requires-clause-called
step-done-requires-clause-called c =
    let k = c.requires in (k.0, subst (λ m. IsCalled m k.0 c.args.harness.now) (sym c.cycles.invariant.net) k.1)

pub cycles-preserved : goal.cycles-preserved
cycles-preserved c =
    let i = c.cycles.invariant in
    let n : Netlist = c.args.sim.now.net in
    record {
      net = c.step-done.ensures.net ∙ i.net;
      frames = i.frames ++ c.step-done.new.sim.values ∷ [];
      count = length_push i.frames c.step-done.new.sim.values ∙ ap (λ x. x + 1) i.count;
      going = λ args called.
          goes_on n (slice_index c.args.sim.now.state) args i.frames c.step-done.new.sim c.step-done.result (sym c.is_some.ensures ∙ c.if-is_some.false)
          (goes_along n (slice_index c.args.sim.now.state) args i.frames c.args.harness.now c.cycles.cycle c.cycles.sim c.step-done.new.sim
          c.step-done.result i.net c.step-done.ensures.goes called i.count (i.going args called));
      given = λ h. c.step-done.ensures.given (omega (arith, h));
    }

pub returns-then-is_some-clause-answers : goal.returns-then-is_some-clause-answers
returns-then-is_some-clause-answers c args called =
    let i = c.cycles.invariant in
    let n : Netlist = c.args.sim.now.net in
    let goes : Goes n (slice_index c.args.sim.now.state) args i.frames c.step-done.new.sim c.step-done.result =
    goes_along n (slice_index c.args.sim.now.state) args i.frames c.args.harness.now c.cycles.cycle c.cycles.sim c.step-done.new.sim
    c.step-done.result i.net c.step-done.ensures.goes called i.count (i.going args called) in
    (replied n (slice_index c.args.sim.now.state) args i.frames c.step-done.new.sim c.args.limit (slice_index c.cycles.sim.state)
    c.step-done.result (sym c.is_some.ensures ∙ c.if-is_some.true) (i.going args called)
    (let a = i.count in let b = c.cycles-test.true in omega (arith, a, b)) goes).0

pub returns-clause-answers : goal.returns-clause-answers
returns-clause-answers c args called =
    let going = c.cycles.invariant.going args called in
    let end = c.cycles-test.false in
    let most = c.cycles.auto.cycle-end in
    let count = c.cycles.invariant.count in
    record { cycles = c.cycles.invariant.frames; call = going.call; long = omega (arith, end, most, count); not_done = λ x v h e. going.not_done x v e }
