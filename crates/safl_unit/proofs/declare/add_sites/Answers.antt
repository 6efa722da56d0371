use Rattle.safl_unit.proofs.Common.{CheckedProgram, open_register}
use Rattle.std.proofs.Common.{suc, ◌++◌, ◌∷◌, [], ◌∙◌, refl, ap, arith}
use Rattle.safl_circuit.specs.Layout.{lines, site_lines}
use Rattle.safl_unit.proofs.layout.Declaring.{lines_count}
use Rattle.safl_unit.proofs.layout.Pinning.{lines_from_one, lines_next, few_sites, none_sited_at, more_sited_at}
use Rattle.safl_unit.proofs.layout.Adding.{lines_at}
use Rattle.safl_unit.proofs.declare.add_sites.Goals as goal

pub loop-k-init : goal.loop-k-init
loop-k-init c = record {
  net = lines_from_one c.args.net.now open_register (site_lines c.args.p.now.program c.args.p.now.choice) refl;
  pinned = none_sited_at c.args.p.now.program c.args.p.now.choice _ c.args.units.now _ _
      (c.in_ok-push.ensures.items ∙ ap (λ l. l ++ record { sent = record { 0 = 0 }; got = record { 0 = 0 }; keep = record { 0 = 0 } } ∷ []) c.new-sites.ensures.items);
}

pub add_site-requires-clause-room : goal.add_site-requires-clause-room
add_site-requires-clause-room c =
    let a = lines_count c.args.net.now c.loop-k.net open_register (lines (site_lines c.args.p.now.program c.args.p.now.choice) c.loop-k.k) c.loop-k.invariant.net in
    let b = few_sites c.args.p.now.program c.args.p.now.choice c.loop-k.k in
    let l = c.loop-k-test.true in
    let e = c.sites-k-end.ensures.count ∙ ap (λ (x : CheckedProgram). x.program.sites) c.program-c.ensures.same in
    let r = c.requires.room in
    omega (arith, a, b, l, e, r)

pub add_site-requires-clause-free : goal.add_site-requires-clause-free
add_site-requires-clause-free c =
    let l = c.loop-k-test.true in
    let e = c.sites-k-end.ensures.count ∙ ap (λ (x : CheckedProgram). x.program.sites) c.program-c.ensures.same in
    lines_at open_register c.args.net.now c.loop-k.net (site_lines c.args.p.now.program c.args.p.now.choice) c.loop-k.k
    (suc c.args.p.now.program.sites) (omega (arith, l, e)) c.requires.free c.loop-k.invariant.net

pub loop-k-preserved : goal.loop-k-preserved
loop-k-preserved c = record {
  net = lines_next c.args.net.now c.loop-k.net c.add_site.new.net open_register
      (site_lines c.args.p.now.program c.args.p.now.choice) c.loop-k.k c.loop-k.invariant.net c.in_ok-pins.ensures.added;
  pinned = more_sited_at c.args.p.now.program c.args.p.now.choice _ c.loop-k.k _ c.args.units.now c.args.units.now
      c.loop-k.sites.items _ c.in_ok-pins.pins c.loop-k.invariant.pinned c.in_ok-pins.ensures.pinned refl c.in_ok-push-2.ensures.items
      (lines_count c.args.net.now c.loop-k.net open_register (lines (site_lines c.args.p.now.program c.args.p.now.choice) c.loop-k.k) c.loop-k.invariant.net);
}
