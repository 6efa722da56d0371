use Rattle.std.proofs.Common.{◌+◌, List, ℕ, get_or, sym, subst, false}
use Rattle.std.proofs.lemmas.Option.{slice_get-get_or}
use Rattle.safl_sim.specs.declared.step.Register.{Register}
use Rattle.safl_sim.specs.States.{AreReset}
use Rattle.safl_sim.proofs.Builds.{reset_more}
use Rattle.safl_sim.proofs.parts.states_of.Goals as goal

abbrev none : Register
none = record { signal = record { 0 = 0 }; next = record { 0 = 0 }; narrow = false }

pub reset-requires : goal.reset-requires
reset-requires c = c.requires c.registers.i (get_or c.args.registers.now c.registers.i none) (slice_get-get_or c.args.registers.now c.registers.i none c.registers-test.true)

pub registers-preserved : goal.registers-preserved
registers-preserved c =
    subst (λ (l : List ℕ). AreReset c.args.net.now c.args.registers.now (c.registers.i + 1) l) (sym c.in_ok-push.ensures.items)
    (reset_more c.args.net.now c.args.registers.now c.registers.numbers.items c.registers.i c.reset.result
    (get_or c.args.registers.now c.registers.i none) c.registers.invariant (slice_get-get_or c.args.registers.now c.registers.i none c.registers-test.true) c.reset.ensures)
