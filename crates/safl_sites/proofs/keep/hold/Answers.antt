use Rattle.safl_sites.proofs.Common.{Adds, Has, IsHeldHere, IsTouched, Meets, SiteSet, no_set, shown_term, unit_for}
use Rattle.std.proofs.Common.{◌≡◌, ℕ, ◌+◌, ◌⊎◌, get_or, refl, sym, ◌∙◌, subst, inl, inr, arith}
use Rattle.std.proofs.lemmas.Bool.{both_ways}
use Rattle.safl_sites.specs.Kept.{InBody}
use Rattle.safl_sites.proofs.LetsReach.{looked_more, held_here, held_meets}
use Rattle.safl_sites.proofs.FoundByParts.{full}
use Rattle.safl_sites.proofs.keep.hold.Goals as goal
use Rattle.safl_sites.proofs.keep.hold.Goals.{then-contains+then-meets, else-contains, else-contains-via-then-contains+else-meets, else-contains-via-else-contains}

pub reach_body-requires : goal.reach_body-requires
reach_body-requires c = (c.requires.0, c.requires.1.reach)

pub loop-done-init : goal.loop-done-init
loop-done-init c = record { looked = λ k least most. absurd (omega arith); rest = λ k above. refl }

pub loop-done-preserved : goal.loop-done-preserved
loop-done-preserved c =
    let p = c.args.c.now in
    let C = p.program in
    let h = c.sites-sites.ensures.checked in
    let U = c.args.units.now in
    let S = c.args.slots.now in
    let P = c.args.peers.now in
    let n = c.requires.0 in
    let low = c.args.low in
    let body = shown_term c.args.body.now in
    let m = c.requires.1.reach in
    let sites = c.requires.1.sites in
    let k = c.loop-done.done + 1 in
    let used = c.touch.new.set in
    let within = c.reach_body.new.set in
    let fed : Has used k → IsTouched S low k body = full c.new-used.result used k (c.new-used.ensures k) (c.touch.ensures k) in
    let inside : (j : ℕ) → Has within j → InBody C j body = λ j. full c.new-within.result within j (c.new-within.ensures j) (c.reach_body.ensures j) in
    let back : (j : ℕ) → InBody C j body → Has within j = λ j x. (c.reach_body.ensures j).joins x in
    let alternatives : (((j : ℕ) → Adds (Has c.loop-done.held j) (Has c.if-contains.held j) (j ≡ k)) × IsHeldHere C S low k body) ⊎
    ((c.if-contains.held ≡ c.loop-done.held) × (IsHeldHere C S low k body → ⊥)) = elim c.if-contains.branch [
      | then-contains+then-meets w ↦
          let to = w.unit_for.ensures.number in
          let x : Has used k = sym c.contains.ensures ∙ w.if-contains.true in
          let y : Meets within (get_or P (unit_for C k) no_set) k = subst (λ (u : ℕ). Meets within (get_or P u no_set) k) to (w.meets.ensures.0 w.if-meets.true) in
          inl (λ j. subst (λ (r : SiteSet). Adds (Has c.loop-done.held j) (Has r j) (j ≡ k)) (sym w.held-is) (w.insert.ensures j), held_here p h U S P n low body m sites used within k fed inside x y)
      | else-contains w ↦ inr (
        w.held-is,
        λ x. elim w.else-contains.branch [
          | else-contains-via-then-contains+else-meets v ↦
              let to = v.unit_for.ensures.number in
              let y : Meets within (get_or P (unit_for C k) no_set) k = held_meets p h U S P n low body m sites within k back x in
              both_ways v.meets.result v.if-meets.false (v.meets.ensures.1 (subst (λ (u : ℕ). Meets within (get_or P u no_set) k) (sym to) y))
          | else-contains-via-else-contains v ↦ both_ways c.contains.result v.if-contains.false (c.contains.ensures ∙ (c.touch.ensures k).joins x.touched)
        ],
      )
    ] in
    looked_more C S low body c.args.held.now c.loop-done.held c.if-contains.held c.loop-done.done k refl c.loop-done.invariant alternatives

pub returns : goal.returns
returns c = λ k least most. c.loop-done.invariant.looked k least (omega arith)
