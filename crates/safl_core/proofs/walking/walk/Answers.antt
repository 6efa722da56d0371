use Rattle.safl_core.proofs.Common.{IsSome, back_word, event_of, state}
use Rattle.std.proofs.Common.{◌≡◌, ◌⊎◌, inl, inr, refl, ◌∙◌, arith}
use Rattle.safl_core.proofs.WalksByTurns.{first_turn, one_turn, short_is, short_end}
use Rattle.safl_core.proofs.walking.walk.Goals as goal
use Rattle.safl_core.proofs.walking.walk.Goals.{else-loop-turn-test, then-loop-turn-test+in_default}

pub loop-turn-init : goal.loop-turn-init
loop-turn-init c = (refl, refl, first_turn c.args.machine.now c.args.seed c.busy-units.result c.busy-units.ensures, omega arith)

pub loop-turn-preserved : goal.loop-turn-preserved
loop-turn-preserved c =
    let h = c.loop-turn.invariant in
    let f = c.fire.ensures in (
      f.program ∙ h.0,
      f.args ∙ h.1,
      one_turn c.args.machine.now c.loop-turn.machine c.fire.new.self c.args.seed c.loop-turn._turn c.loop-turn.number c.loop-turn.units
          c.following-number.result c.max-units.result c.busy.result (event_of c.in-Some.event)
          h.0 h.1 h.2 f c.following-number.ensures c.in-Some.ensures.picked c.busy.ensures c.max-units.ensures,
      omega (arith, f.events, h.3),
    )

pub fire-requires-clause-few : goal.fire-requires-clause-few
fire-requires-clause-few c = omega (arith, c.requires, c.loop-turn.invariant.3, c.loop-turn-test.true)

pub returns-clause-walk : goal.returns-clause-walk
returns-clause-walk c =
    let h = c.loop-turn.invariant in
    let ends : (c.loop-turn._turn ≡ c.args.steps) ⊎ IsSome (back_word ((state c.loop-turn.machine).site 0)) = elim c.loop-turn-test.branch [
      | else-loop-turn-test w ↦ inl (omega (arith, w.loop-turn-test.false, c.loop-turn.auto._turn-end))
      | then-loop-turn-test+in_default w ↦ inr (w.in_default.ensures.none.0 refl)
    ] in
    record {
      program = h.0;
      args = h.1;
      turns = c.loop-turn._turn;
      number = c.loop-turn.number;
      walked = h.2;
      events = h.3;
      within = c.loop-turn.auto._turn-end;
      ends = ends;
    }

pub returns-clause-short : goal.returns-clause-short
returns-clause-short c =
    let h = c.loop-turn.invariant in
    let ends : (c.loop-turn._turn ≡ c.args.steps) ⊎ IsSome (back_word ((state c.loop-turn.machine).site 0)) = elim c.loop-turn-test.branch [
      | else-loop-turn-test w ↦ inl (omega (arith, w.loop-turn-test.false, c.loop-turn.auto._turn-end))
      | then-loop-turn-test+in_default w ↦ inr (w.in_default.ensures.none.0 refl)
    ] in
    short_end c.result.result (back_word ((state c.loop-turn.machine).site 0)) c.result.ensures.returned ends
    (λ all short. short_is c.args.machine.now c.loop-turn.machine _ _ h.0 h.1 (omega (arith, h.3, all)) short)
    c.result.ensures.short
