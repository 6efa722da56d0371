use Rattle.safl_core.proofs.Common.{Word, back_at, calls_of}
use Rattle.std.proofs.Common.{ℕ, ◌≡◌, ◌<◌, ◌≤◌, List, Option, None, Some, length, get_or, refl, sym, ap, ◌∙◌, subst, arith}
use Rattle.safl_calls.specs.Machine as core
use Rattle.safl_core.specs.Remembering.{MayRenew}
use Rattle.safl_core.proofs.KeptByRefresh.{refreshed}
use Rattle.safl_core.proofs.RemembersByUnits.{remembers_as}
use Rattle.safl_core.proofs.StatesByEvents.{known_as}
use Rattle.safl_core.proofs.refresh.renew.Goals as goal

pub evaluated-requires-clause-can : goal.evaluated-requires-clause-can
evaluated-requires-clause-can c =
    let h = c.requires.can in
    record {
      checked = h.checked;
      unit = h.unit;
      sized = record {
        units = h.sized.units;
        sites = h.sized.sites;
        answers = h.sized.answers;
        wants = ap (λ (l : List (Option (List Word))). length l) c.begin.ensures ∙ h.sized.wants;
        room = h.sized.room;
      };
      member = h.member;
      back = h.back;
    }

pub evaluated-requires-clause-stood : goal.evaluated-requires-clause-stood
evaluated-requires-clause-stood c =
    let s = c.args.state.now in
    subst (λ (l : List (Option (List Word))). MayRenew c.args.c.now.program c.args.plan.now (back_at s.stages.items) (Some c.args.k)
    s.modes.items l s.kept.items c.args.u) (sym c.begin.ensures) c.requires.stood

pub returns-clause-refreshes : goal.returns-clause-refreshes
returns-clause-refreshes c =
    let C = c.args.c.now.program in
    let s = c.args.state.now in
    let r = c.evaluated.new.state in
    let u = c.args.u in
    let e = c.evaluated.ensures in
    let begun : (k : ℕ) → get_or c.begin.new.self.each.items k None ≡ get_or s.wants.each.items k None = λ k. ap (λ (l : List (Option (List Word))). get_or l k None) c.begin.ensures in
    let off : (k : ℕ) → 0 < k → k ≤ C.sites → (C.unit (C.caller k) ≡ u → ⊥) → get_or r.wants.each.items k None ≡ get_or s.wants.each.items k None = λ k pos le apart.
    e.others k pos le apart ∙ begun k in
    let within : u < length s.answers.items = omega (arith, c.requires.can.unit, c.requires.can.sized.answers) in
    record {
      modes = e.modes;
      stages = e.stages;
      known = λ v before. known_as C s r u (core.says C (calls_of s) u) v e.modes e.stages e.answers
          (refreshed C (calls_of s) u s.answers.items s.wants.each.items r.wants.each.items (core.says C (calls_of s) u) e.wants off refl within v before);
      wants = record {
        most = c.between.ensures.most;
        others = λ k pos le out. e.asks.others k (λ is. let m = c.between.ensures.all k le is in out m.0 m.1) ∙ begun k;
      };
      sized = e.sized;
    }

pub returns-clause-recalls : goal.returns-clause-recalls
returns-clause-recalls c = λ v before. c.evaluated.ensures.recalls v (λ ne. remembers_as c.begin.ensures refl (before ne))

pub returns-clause-cells : goal.returns-clause-cells
returns-clause-cells c = c.evaluated.ensures.cells
