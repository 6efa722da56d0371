use Rattle.safl_unit.proofs.Common.{CheckedProgram, SiteShown, builds_on, builds_same, builds_within}
use Rattle.std.proofs.Common.{◌≡◌, ℕ, suc, Bool, ◌+◌, ◌*◌, refl, sym, ap, subst, ◌∙◌, add-one, arith}
use Rattle.safl_unit.proofs.equations.Keeping.{pins_kept}
use Rattle.safl_unit.proofs.equations.Indexing.{unit_at, site_at}
use Rattle.safl_unit.proofs.equations.Sites.{SoFar, none_so_far, more_so_far, all_returns}
use Rattle.safl_unit.proofs.returns.returns.Goals as goal

pub loop-done-init : goal.loop-done-init
loop-done-init c = record {
  built = builds_same c.args.net.now c.args.net.now c.requires.room.tidy refl 0;
  so_far = none_so_far c.args.p.now.program c.args.p.now.choice c.args.net.now c.args.pins.now c.in_ok-all.all c.in_ok-all.ensures.ret c.in_ok-all.ensures.ports;
}

pub site_return-requires-clause-fits : goal.site_return-requires-clause-fits
site_return-requires-clause-fits c =
    let C = c.args.p.now.program in
    let f = pins_kept c.loop-done.invariant.built c.requires.pins in (
      C.result (C.callee (suc c.loop-done.done)),
      f.bank.units (C.callee (suc c.loop-done.done)) c.index-unit.result.now
          (unit_at c.args.p.now.checked c.program-c.result.now c.args.pins.now.bank.units.items c.loop-done.done c.callee.result
          c.index-unit.result.now c.sites-sites.ensures.checked c.program-c.ensures.same
          (let l = c.loop-done-test.true in let e = c.sites-sites.ensures.count in omega (arith, l, e)) c.callee.ensures.number c.requires.pins.bank.units_length c.index-unit.ensures),
      f.bank.sites (suc c.loop-done.done) c.index-site.result.now
          (site_at c.args.pins.now.bank.sites.items c.loop-done.done C.sites c.index-site.result.now
          (let l = c.loop-done-test.true in let e = c.sites-sites.ensures.count ∙ ap (λ (x : CheckedProgram). x.program.sites)
          c.program-c.ensures.same in omega (arith, l, e)) c.requires.pins.bank.sites_length c.index-site.ensures) (omega arith),
    )

pub site_return-requires-clause-room : goal.site_return-requires-clause-room
site_return-requires-clause-room c =
    let b = c.loop-done.invariant.built.count in
    let r = c.requires.room.room in
    let l = c.loop-done-test.true in
    let e = c.sites-sites.ensures.count ∙ ap (λ (x : CheckedProgram). x.program.sites) c.program-c.ensures.same in
    record { tidy = c.loop-done.invariant.built.tidy; room = omega (arith, b, r, l, e) }

pub loop-done-preserved : goal.loop-done-preserved
loop-done-preserved c =
    let C = c.args.p.now.program in
    let P = c.args.p.now.choice in
    let m = c.loop-done.done in
    let f = pins_kept c.loop-done.invariant.built c.requires.pins in
    let l = c.loop-done-test.true in
    let e = c.sites-sites.ensures.count in
    let k = c.sites-sites.ensures.count ∙ ap (λ (x : CheckedProgram). x.program.sites) c.program-c.ensures.same in
    let at = unit_at c.args.p.now.checked c.program-c.result.now c.args.pins.now.bank.units.items m c.callee.result c.index-unit.result.now
    c.sites-sites.ensures.checked c.program-c.ensures.same (omega (arith, l, e)) c.callee.ensures.number
    c.requires.pins.bank.units_length c.index-unit.ensures in
    let own = site_at c.args.pins.now.bank.sites.items m C.sites c.index-site.result.now (omega (arith, l, k)) c.requires.pins.bank.sites_length c.index-site.ensures in
    let x = c.in_ok-next.ensures.fits (C.result (C.callee (suc m))) (f.bank.units (C.callee (suc m)) c.index-unit.result.now at) (f.bank.sites (suc m) c.index-site.result.now own (omega arith)) in
    let kept : c.kept.result ≡ P.kept (suc m) = c.kept.ensures.entry ∙ ap P.kept (add-one m) in
    record {
      built = builds_within (5 * (m + 1)) (builds_on c.loop-done.invariant.built c.in_ok-next.ensures.built) (omega arith);
      so_far = subst (λ (i : ℕ). SoFar C P c.site_return.new.net c.args.pins.now (record { ret = c.push.new.self; ports = c.push-in-loop-done.new.self }) i) (sym (add-one m))
          (more_so_far C P c.loop-done.net c.site_return.new.net c.args.pins.now c.loop-done.all
          (record { ret = c.push.new.self; ports = c.push-in-loop-done.new.self }) m c.index-unit.result.now c.index-site.result.now c.in_ok-next.next
          c.loop-done.invariant.so_far c.in_ok-next.ensures.built at own x.0 x.1
          (λ v w. subst (λ (b : Bool). SiteShown v b c.index-unit.result.now c.index-site.result.now c.in_ok-next.next) kept (c.in_ok-next.ensures.shows v w))
          c.in_ok-push.ensures.items c.in_ok-push-2.ensures.items);
    }

pub returns-clause-tidy : goal.returns-clause-tidy
returns-clause-tidy c = c.loop-done.invariant.built.tidy

pub returns-clause-built : goal.returns-clause-built
returns-clause-built c =
    let l = c.loop-done-test.false in
    let b = c.loop-done.auto.done-end in
    let e = c.sites-sites.ensures.count ∙ ap (λ (x : CheckedProgram). x.program.sites) c.program-c.ensures.same in
    builds_within (5 * c.args.p.now.program.sites) c.loop-done.invariant.built (omega (arith, l, b, e))

pub returns-clause-done : goal.returns-clause-done
returns-clause-done c =
    let l = c.loop-done-test.false in
    let b = c.loop-done.auto.done-end in
    let e = c.sites-sites.ensures.count ∙ ap (λ (x : CheckedProgram). x.program.sites) c.program-c.ensures.same in
    let k : c.loop-done.done ≡ c.args.p.now.program.sites = omega (arith, l, b, e) in
    all_returns c.args.p.now.program c.args.p.now.choice c.loop-done.net c.args.pins.now c.loop-done.all
    (subst (λ (m : ℕ). SoFar c.args.p.now.program c.args.p.now.choice c.loop-done.net c.args.pins.now c.loop-done.all m) k c.loop-done.invariant.so_far)
