use Rattle.safl_core.proofs.Common.{Word, back_at, calls_of, numbered, refilled}
use Rattle.std.proofs.Common.{ℕ, ◌≡◌, ◌<◌, ◌≤◌, length, List, Option, None, get_or, refl, sym, ap, ◌∙◌, arith}
use Rattle.safl_calls.specs.Machine as core
use Rattle.safl_core.proofs.KeptByRefresh.{refreshed, others_stay, cleared_unasked, cleared_here, cleared_off}
use Rattle.safl_core.proofs.RemembersByUnits.{remembers_still}
use Rattle.safl_core.proofs.StatesByEvents.{known_as}
use Rattle.safl_core.proofs.refresh.refresh.Goals as goal

pub clear-requires : goal.clear-requires
clear-requires c = omega (arith, c.requires.own.most, c.requires.can.sized.wants, ap (λ (l : List (Option (List Word))). length l) c.deref_mut.ensures.value)

pub evaluated-requires-clause-stood : goal.evaluated-requires-clause-stood
evaluated-requires-clause-stood c =
    let C = c.args.c.now.program in
    let asks = refilled c.args.state.now.wants.each c.clear.new.asks c.deref_mut.result.now c.clear.auto.asks c.deref_mut.ensures.value in
    let here : (k : ℕ) → 0 < k → k ≤ C.sites → C.unit (C.caller k) ≡ c.args.u → get_or _ k None ≡ None = λ k pos le on.
    ap (λ (l : List (Option (List Word))). get_or l k None) asks ∙ cleared_here C c.args.u c.deref_mut.result.now c.clear.new.asks (c.clear.ensures C c.args.u c.requires.own) k pos le on in
    record {
      stood = λ f k ws r.
          let m = c.requires.can.member f k ws r in
          cleared_unasked C c.args.u f _ (numbered C c.requires.can.checked.formed) m.1 m.0 here;
      quiet = λ j pos le own apart. here j pos le own;
    }

pub returns-clause-refreshes : goal.returns-clause-refreshes
returns-clause-refreshes c =
    let C = c.args.c.now.program in
    let s = c.args.state.now in
    let r = c.evaluated.new.state in
    let u = c.args.u in
    let e = c.evaluated.ensures in
    let asks = refilled s.wants.each c.clear.new.asks c.deref_mut.result.now c.clear.auto.asks c.deref_mut.ensures.value in
    let off : (k : ℕ) → 0 < k → k ≤ C.sites → (C.unit (C.caller k) ≡ u → ⊥) → get_or r.wants.each.items k None ≡ get_or s.wants.each.items k None = λ k pos le apart.
    e.others k pos le apart
    ∙ (ap (λ (l : List (Option (List Word))). get_or l k None) asks
    ∙ (cleared_off C u c.deref_mut.result.now c.clear.new.asks (c.clear.ensures C c.args.u c.requires.own) k pos le apart
    ∙ ap (λ (l : List (Option (List Word))). get_or l k None) c.deref_mut.ensures.value)) in
    let within : u < length s.answers.items = omega (arith, c.requires.can.unit, c.requires.can.sized.answers) in
    record {
      modes = e.modes;
      stages = e.stages;
      known = λ v before. known_as C s r u (core.says C (calls_of s) u) v e.modes e.stages e.answers
          (refreshed C (calls_of s) u s.answers.items s.wants.each.items r.wants.each.items (core.says C (calls_of s) u) e.wants off refl within v before);
      wants = others_stay C u c.args.own s.wants.each.items r.wants.each.items c.requires.own off;
      sized = e.sized;
    }

pub returns-clause-recalls : goal.returns-clause-recalls
returns-clause-recalls c =
    let C = c.args.c.now.program in
    let s = c.args.state.now in
    let u = c.args.u in
    let B = back_at s.stages.items in
    let asks = refilled s.wants.each c.clear.new.asks c.deref_mut.result.now c.clear.auto.asks c.deref_mut.ensures.value in
    λ v before. c.evaluated.ensures.recalls v (λ ne.
    remembers_still (numbered C c.requires.can.checked.formed) c.requires.plan B B s.modes.items s.modes.items s.wants.each.items _ s.kept.items s.kept.items v refl
    (λ j pos le own. (
      refl,
      ap (λ (l : List (Option (List Word))). get_or l j None) asks
          ∙ (cleared_off C u c.deref_mut.result.now c.clear.new.asks (c.clear.ensures C c.args.u c.requires.own) j pos le (λ q. ne (sym own ∙ q))
          ∙ ap (λ (l : List (Option (List Word))). get_or l j None) c.deref_mut.ensures.value),
    ))
    (λ f q lf is x y. refl)
    (before ne))

pub returns-clause-cells : goal.returns-clause-cells
returns-clause-cells c = c.evaluated.ensures.cells
