use Rattle.safl_unit.proofs.Common.{IsBitIn, IsSource, Sig, SiteFits, entry_in, maybe_bit_kept, on, on_in, pin, slice_get_read}
use Rattle.std.proofs.Common.{◌≡◌, ℕ, ◌+◌, ◌*◌, ◌<◌, ◌≤◌, length, Option, Bool, Some, None, slice_get, slice_index_or, refl, sym, ap, subst, ◌∙◌, add-one, arith}
use Rattle.safl_lower.proofs.Building.{builds_same, builds_on, builds_within, source_kept}
use Rattle.safl_unit.specs.Steps.{SiteStep, SitesNext}
use Rattle.safl_unit.proofs.equations.Keeping.{site_kept}
use Rattle.safl_unit.proofs.equations.Tables.{pin_is, read_again}
use Rattle.safl_unit.proofs.equations.Stepping.{no_sites, more_sites}
use Rattle.safl_unit.proofs.edge.next_sites.Goals.{After-index-ret}
use Rattle.safl_unit.proofs.edge.next_sites.Goals as goal

-- the number of the site, the number of its callee, and what clears its caller's unit
abbrev site : After-index-ret → ℕ
site c = c.loop-done.done + 1

abbrev callee : After-index-ret → ℕ
callee c = c.args.p.now.program.callee (site c)

abbrev clear : After-index-ret → Option Sig
clear c = slice_index_or c.args.clears.now c.unit_of-owner.result None

-- the entries of a site
record Site (c : After-index-ret) : Type 0 where
  at_unit : slice_get c.args.pins.now.bank.units.items (callee c) ≡ Some c.index-unit.result.now
  at_clear : slice_get c.args.clears.now (c.args.p.now.program.unit (c.args.p.now.program.caller (site c))) ≡ Some (clear c)
  at : slice_get c.args.pins.now.bank.sites.items (site c) ≡ Some c.index-now.result.now
  ret_is : pin c.args.returns.now.ret.items (site c) ≡ c.index-ret.result.now
  ret_fits : IsSource c.loop-done.net c.index-ret.result.now 1
  go_fits : IsSource c.loop-done.net (pin c.args.goes.now (site c)) 1
  clear_fits : IsBitIn c.loop-done.net (clear c)
  res_fits : IsSource c.loop-done.net c.index-unit.result.now.res (c.args.p.now.program.result (callee c))
  fits : SiteFits c.loop-done.net c.index-now.result.now (c.args.p.now.program.result (callee c))

site_now : (c : After-index-ret) → Site c
site_now c =
    let C = c.args.p.now.program in
    let a = c.args.net.now in
    let p = c.args.pins.now.bank in
    let rets = c.args.returns.now.ret.items in
    let clears = c.args.clears.now in
    let owner = c.unit_of-owner.result in
    let number = c.callee_of-callee.result in
    let unit = c.index-unit.result.now in
    let x = c.index-now.result.now in
    let ret = c.index-ret.result.now in
    let pf = c.requires.pins.bank in
    let built = c.loop-done.invariant.built in
    let above : 0 < site c = omega arith in
    let most : site c ≤ C.sites = (let l = c.loop-done-test.true in let s = c.site_count-sites.ensures.count in omega (arith, l, s)) in
    let known : owner < length clears =
    (let w = c.caller_of-caller.ensures.within in let u = c.unit_of-owner.ensures.within in let m = c.requires.clears.count in omega (arith, w, u, m)) in
    let there : number < length p.units.items = (let w = c.callee_of-callee.ensures.within in let m = pf.units_length in omega (arith, w, m)) in
    let inside : site c < length p.sites.items = (let m = pf.sites_length in omega (arith, most, m)) in
    let given : site c < length rets = (let m = c.requires.returns.ret_length in omega (arith, most, m)) in
    let g1 = slice_get_read clears (length clears) owner (clear c) refl known (read_again clears owner None known) in
    let g2 = slice_get_read p.units.items (length p.units.items) number unit refl there c.index-unit.ensures in
    let g3 = slice_get_read p.sites.items (length p.sites.items) (site c) x refl inside c.index-now.ensures in
    let g4 = slice_get_read rets (length rets) (site c) ret refl given c.index-ret.ensures in
    let at_unit = ap (slice_get p.units.items) (sym c.callee_of-callee.ensures.number) ∙ g2 in
    let r = pin_is rets (site c) ret g4 in
    record {
      at_unit = at_unit;
      at_clear = ap (slice_get clears) (sym (c.unit_of-owner.ensures.number ∙ ap C.unit c.caller_of-caller.ensures.number)) ∙ g1;
      at = g3;
      ret_is = r;
      ret_fits = source_kept built (subst (λ (t : Sig). IsSource a t 1) r (c.requires.returns.ret (site c) above most));
      go_fits = source_kept built (c.requires.goes.each (site c) most);
      clear_fits = maybe_bit_kept built (clear c) (subst (λ (t : Option (Option Sig)). IsBitIn a (entry_in t)) g1 (c.requires.clears.each owner));
      res_fits = source_kept built (pf.units (callee c) unit at_unit).res;
      fits = site_kept built (pf.sites (site c) x g3 above);
    }

pub loop-done-init : goal.loop-done-init
loop-done-init c =
    let n = c.args.net.now in
    let p = c.args.pins.now in
    record {
      built = builds_same n n c.requires.room.tidy refl 0;
      table = no_sites c.args.p.now.program c.args.p.now.choice n p.bank.units.items p.bank.sites.items c.args.returns.now.ret.items
          c.args.goes.now c.args.clears.now c.in_ok-all.all.items c.in_ok-all.ensures.count;
    }

pub next_site-requires-clause-ret : goal.next_site-requires-clause-ret
next_site-requires-clause-ret c = (site_now (goal.at.next_site-requires-clause-ret c).After-index-ret).ret_fits

pub next_site-requires-clause-go : goal.next_site-requires-clause-go
next_site-requires-clause-go c = (site_now (goal.at.next_site-requires-clause-go c).After-index-ret).go_fits

pub next_site-requires-clause-clear : goal.next_site-requires-clause-clear
next_site-requires-clause-clear c = (site_now (goal.at.next_site-requires-clause-clear c).After-index-ret).clear_fits

pub next_site-requires-clause-fits : goal.next_site-requires-clause-fits
next_site-requires-clause-fits c =
    let d = (goal.at.next_site-requires-clause-fits c).After-index-ret in
    let h = site_now d in
    (c.args.p.now.program.result (callee d), h.res_fits, h.fits)

pub next_site-requires-clause-room : goal.next_site-requires-clause-room
next_site-requires-clause-room c =
    let l = c.loop-done-test.true in
    let s = c.site_count-sites.ensures.count in
    let b = c.loop-done.invariant.built.count in
    let r = c.requires.room.room in
    record { tidy = c.loop-done.invariant.built.tidy; room = omega (arith, l, s, b, r) }

pub loop-done-preserved : goal.loop-done-preserved
loop-done-preserved c =
    let C = c.args.p.now.program in
    let d = (goal.at.loop-done-preserved c).After-index-ret in
    let h = site_now d in
    let P = c.args.p.now.choice in
    let p = c.args.pins.now in
    let rets = c.args.returns.now.ret.items in
    let goes = c.args.goes.now in
    let clears = c.args.clears.now in
    let k = c.loop-done.done + 1 in
    let x = c.index-now.result.now in
    let y = c.in_ok-next.next in
    let unit = c.index-unit.result.now in
    let owner_clear = clear d in
    let built = c.in_ok-next.ensures.built in
    record {
      built = builds_within (7 * (c.loop-done.done + 1)) (builds_on c.loop-done.invariant.built built) (omega arith);
      table = more_sites C P c.loop-done.net c.next_site.new.net p.bank.units.items p.bank.sites.items rets goes clears c.loop-done.all.items
          c.push.new.self.items c.loop-done.done k (add-one c.loop-done.done) unit owner_clear x y
          c.loop-done.invariant.table built h.at_unit h.at_clear h.at (c.in_ok-next.ensures.fits (C.result (C.callee k)) h.res_fits h.fits)
          (λ v w.
          subst (λ (t : Sig). SiteStep v (P.kept k) (on v t) (on v (pin goes k)) (on_in v owner_clear) (v unit.res.0) x y) (sym h.ret_is)
          (subst (λ (b : Bool). SiteStep v b (on v c.index-ret.result.now) (on v (pin goes k)) (on_in v owner_clear) (v unit.res.0) x y) c.kept.ensures.entry
          (c.in_ok-next.ensures.shows v w)))
          c.in_ok-push.ensures.items;
    }

pub returns-clause-tidy : goal.returns-clause-tidy
returns-clause-tidy c = c.loop-done.invariant.built.tidy

pub returns-clause-built : goal.returns-clause-built
returns-clause-built c =
    let b = c.loop-done.auto.done-end in
    let s = c.site_count-sites.ensures.count in
    builds_within (7 * c.args.p.now.program.sites) c.loop-done.invariant.built (omega (arith, b, s))

pub returns-clause-done : goal.returns-clause-done
returns-clause-done c =
    let C = c.args.p.now.program in
    let p = c.args.pins.now in
    let l = c.loop-done-test.false in
    let b = c.loop-done.auto.done-end in
    let s = c.site_count-sites.ensures.count in
    let e : c.loop-done.done ≡ C.sites = omega (arith, l, b, s) in
    subst (λ (m : ℕ). SitesNext C c.args.p.now.choice c.loop-done.net p.bank.units.items p.bank.sites.items c.args.returns.now.ret.items
    c.args.goes.now c.args.clears.now c.loop-done.all.items m) e c.loop-done.invariant.table
