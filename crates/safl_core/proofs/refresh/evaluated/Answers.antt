use Rattle.safl_core.proofs.Common.{HasRoom, Word, back_at, body_at, get_or_read, nodes, numbered, unit_at, widths_len}
use Rattle.std.proofs.Common.{◌≡◌, ℕ, ◌+◌, ◌≤◌, length, take, arith, rules, List, slice_set, refl, sym, ap, ◌∙◌, subst}
use Rattle.std.specs.Vec.{with_items}
use Rattle.safl_term.specs.Readiness.{answer}
use Rattle.safl_term.specs.Tree.{shown_term}
use Rattle.safl_calls.specs.Machine as core
use Rattle.safl_core.specs.declared.mode.Mode.{Mode}
use Rattle.safl_evaluate.specs.declared.stage.Stage.{Stage}
use Rattle.safl_evaluate.proofs.AnswersByParts.{answer_is}
use Rattle.safl_evaluate.proofs.AsksAlong.{asks_none}
use Rattle.safl_core.proofs.KeptByRefresh.{body_can}
use Rattle.safl_evaluate.proofs.Refilled.{refilled, refilled_long}
use Rattle.safl_core.proofs.RemembersByUnits as unit
use Rattle.safl_core.proofs.refresh.evaluated.Goals as goal

pub body-requires : goal.body-requires
body-requires c = (c.requires.can.member _ _ _ (sym (ap (λ (x : List Mode). unit_at x c.args.u) c.deref.ensures.value) ∙ c.in-Some.ensures.runs.1)).1

pub fill-slots-requires : goal.fill-slots-requires
fill-slots-requires c =
    let member = c.requires.can.member _ _ _ (sym (ap (λ (x : List Mode). unit_at x c.args.u) c.deref.ensures.value) ∙ c.in-Some.ensures.runs.1) in
    let given = ap (λ (l : List ℕ). length l) member.2 in
    let env = ap (λ (l : List Word). length l) c.deref_mut.ensures.value in
    omega (arith, c.requires.can.sized.room c.in-Some.f member.1, given, widths_len c.in-Some.args.now, ap (λ (l : List Word). length l) c.words.ensures.words, env)

pub index-at-requires : goal.index-at-requires
index-at-requires c =
    let member = c.requires.can.member _ _ _ (sym (ap (λ (x : List Mode). unit_at x c.args.u) c.deref.ensures.value) ∙ c.in-Some.ensures.runs.1) in
    omega (arith, c.requires.plan.bodies, member.1)

pub evaluate-requires : goal.evaluate-requires
evaluate-requires c =
    let C = c.args.c.now.program in
    let s = c.args.state.now in
    let f = c.in-Some.f in
    let args = c.in-Some.args.now in
    let B = back_at s.stages.items in
    let lies = c.requires.plan in
    let runs = sym (ap (λ (x : List Mode). unit_at x c.args.u) c.deref.ensures.value) ∙ c.in-Some.ensures.runs.1 in
    let member = c.requires.can.member _ _ _ runs in
    let words = c.words.ensures.words in
    let env = c.deref_mut-in-Some.ensures.value ∙ refilled s.env c.fill-slots.new.env c.deref_mut.result.now c.fill-slots.auto.env c.deref_mut.ensures.value in
    let filled : take c.fill-slots.result c.fill-slots.new.env ≡ args = ap (λ (i : ℕ). take i c.fill-slots.new.env) c.fill-slots.ensures.count ∙ (c.fill-slots.ensures.filled ∙ words) in
    let at : c.index-at.result.now ≡ body_at c.args.plan.now f = get_or_read c.args.plan.now.bodies.items f _ (omega (arith, lies.bodies, member.1)) c.index-at.ensures 0 in
    let given = ap (λ (l : List ℕ). length l) member.2 in
    let room : c.fill-slots.result + nodes (C.body f) ≤ length c.fill-slots.new.env =
    omega (
      arith,
      c.requires.can.sized.room f member.1,
      given,
      widths_len args,
      c.fill-slots.ensures.count,
      ap (λ (l : List Word). length l) words,
      c.fill-slots.auto.env,
      ap (λ (l : List Word). length l) c.deref_mut.ensures.value,
    ) in
    let can = body_can c.args.c.now s.stages.items (length s.wants.each.items) args f c.requires.can.checked member.1 member.2 c.requires.can.back
    c.requires.can.sized.sites c.requires.can.sized.wants in
    unit.look_as c.deref-in-Some.ensures.value c.deref-in-Some-2.ensures.value refl env c.deref_mut-in-Some-2.ensures.value refl at c.body.ensures.term
    (unit.may_look s.stages.items s.modes.items s.wants.each.items c.fill-slots.new.env s.kept.items c.args.u f c.in-Some.ensures.runs.0
    c.fill-slots.result args lies member.1 filled can room runs c.requires.stood)

pub returns-in-Some : goal.returns-in-Some
returns-in-Some c =
    let C = c.args.c.now.program in
    let s = c.args.state.now in
    let f = c.in-Some.f in
    let args = c.in-Some.args.now in
    let B = back_at s.stages.items in
    let lies = c.requires.plan in
    let runs = sym (ap (λ (x : List Mode). unit_at x c.args.u) c.deref.ensures.value) ∙ c.in-Some.ensures.runs.1 in
    let member = c.requires.can.member _ _ _ runs in
    let words = c.words.ensures.words in
    let env = c.deref_mut-in-Some.ensures.value ∙ refilled s.env c.fill-slots.new.env c.deref_mut.result.now c.fill-slots.auto.env c.deref_mut.ensures.value in
    let filled : take c.fill-slots.result c.fill-slots.new.env ≡ args = ap (λ (i : ℕ). take i c.fill-slots.new.env) c.fill-slots.ensures.count ∙ (c.fill-slots.ensures.filled ∙ words) in
    let at : c.index-at.result.now ≡ body_at c.args.plan.now f = get_or_read c.args.plan.now.bodies.items f _ (omega (arith, lies.bodies, member.1)) c.index-at.ensures 0 in
    let body = shown_term c.body.result.now in
    let good = numbered C c.requires.can.checked.formed in
    let cells = refilled s.kept c.evaluate.new.kept c.deref_mut-in-Some-2.result.now c.evaluate.auto.kept c.deref_mut-in-Some-2.ensures.value in
    let finds = unit.finds_as c.deref-in-Some.ensures.value refl env c.deref_mut-in-Some-2.ensures.value at c.body.ensures.term c.evaluate.ensures.finds in
    let holds = unit.held_body s.stages.items s.modes.items s.wants.each.items c.fill-slots.new.env s.kept.items c.args.u f c.in-Some.ensures.runs.0
    c.fill-slots.result args lies member.1 filled finds in
    let slots = ap (λ (l : List Word). take c.fill-slots.result l) env ∙ filled in
    record {
      modes = refl;
      stages = refl;
      answers = ap (slice_set s.answers.items c.args.u) (c.evaluate.ensures.answer ∙
          (ap (λ (x : List Stage). answer (back_at x) (take c.fill-slots.result c.deref_mut-in-Some.result.now) body) c.deref-in-Some.ensures.value
          ∙ (answer_is B slots c.body.ensures.term ∙ ap (core.says_as C B) (sym runs))));
      asks = c.evaluate.ensures.asks;
      wants = λ k pos le own. unit.wants_found good lies B s.modes.items s.wants.each.items c.evaluate.new.asks.each.items s.kept.items
          c.evaluate.new.kept c.args.u f c.in-Some.ensures.runs.0 args runs member.0 member.1 finds.only holds c.requires.stood k pos le own;
      others = λ k pos le apart. unit.others_found good lies B s.modes.items s.wants.each.items c.evaluate.new.asks.each.items s.kept.items
          c.evaluate.new.kept c.args.u f c.in-Some.ensures.runs.0 args runs member.0 member.1 finds.only k pos le apart;
      recalls = λ v before. unit.remembers_as refl cells (unit.recalls_found good lies B s.modes.items s.wants.each.items
          c.evaluate.new.asks.each.items s.kept.items c.evaluate.new.kept c.args.u f c.in-Some.ensures.runs.0 args runs member.0 member.1 finds.only holds v before);
      cells = refilled_long s.kept c.evaluate.new.kept;
      sized = record {
        units = c.requires.can.sized.units;
        sites = c.requires.can.sized.sites;
        answers = search rules;
        wants = c.evaluate.ensures.asks.long ∙ c.requires.can.sized.wants;
        room = subst (λ n. HasRoom C n) (sym (refilled_long (with_items s.env c.fill-slots.new.env) c.evaluate.new.env ∙ refilled_long s.env c.fill-slots.new.env)) c.requires.can.sized.room;
      };
    }

pub returns-in-None : goal.returns-in-None
returns-in-None c =
    let C = c.args.c.now.program in
    let s = c.args.state.now in
    let B = back_at s.stages.items in
    let idle : (f k : ℕ) (ws : List Word) → unit_at s.modes.items c.args.u ≡ core.Runs f k ws → ⊥ = λ f k ws r. c.in-None.ensures.none f k ws
    (ap (λ (x : List Mode). unit_at x c.args.u) c.deref.ensures.value ∙ r) in
    record {
      modes = refl;
      stages = refl;
      answers = ap (slice_set s.answers.items c.args.u) (c.settle.ensures ∙ sym (unit.idle_says C B (unit_at s.modes.items c.args.u) idle));
      asks = asks_none s.wants;
      wants = λ k pos le own. c.requires.stood.quiet k pos le own (λ f i ws r st. idle f i ws r) ∙ sym (unit.idle_asks C B (unit_at s.modes.items c.args.u) (C.caller k) k idle);
      others = λ k pos le apart. refl;
      recalls = λ v before. unit.recalls_idle B s.modes.items s.wants.each.items s.kept.items c.args.u idle v before;
      cells = refl;
      sized = record {
        units = c.requires.can.sized.units;
        sites = c.requires.can.sized.sites;
        answers = search rules;
        wants = c.requires.can.sized.wants;
        room = c.requires.can.sized.room;
      };
    }
