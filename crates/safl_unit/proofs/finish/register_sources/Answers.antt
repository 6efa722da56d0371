use Rattle.safl_unit.proofs.Common.{CheckedProgram, ap, arith, map, own_ties, ◌++◌, ◌∙◌}
use Rattle.safl_unit.specs.Ties.{sig_of, site_ties}
use Rattle.safl_unit.proofs.assembly.Listing.{listed_from_one, more_listed, no_site_zero, registers_listed}
use Rattle.safl_unit.proofs.finish.register_sources.Goals as goal

pub loop-k-init : goal.loop-k-init
loop-k-init c =
    let C = c.args.p.now.program in
    let D = c.args.p.now.names in
    let ss = c.args.next.now.sites.items in
    listed_from_one (map sig_of (own_ties C D c.args.next.now)) c.add_functions.new.all.items (site_ties C c.args.p.now.choice ss)
    (c.in_ok-add_functions.ensures ∙ ap (λ (x : CheckedProgram). c.new-all.result.items ++ map sig_of (own_ties x.program x.names c.args.next.now)) c.program-c.ensures.same
    ∙ ap (λ l. l ++ map sig_of (own_ties C D c.args.next.now)) c.new-all.ensures.items)
    (no_site_zero C c.args.p.now.choice ss)

pub loop-k-preserved : goal.loop-k-preserved
loop-k-preserved c =
    let C = c.args.p.now.program in
    more_listed (map sig_of (own_ties C c.args.p.now.names c.args.next.now)) c.loop-k.all.items c.add_site.new.all.items
    (site_ties C c.args.p.now.choice c.args.next.now.sites.items) c.loop-k.k c.loop-k.invariant c.in_ok-add_site.ensures

pub returns : goal.returns
returns c =
    let l = c.loop-k-test.false in
    let b = c.loop-k.auto.k-end in
    let e = c.sites-k-end.ensures.count ∙ ap (λ (x : CheckedProgram). x.program.sites) c.program-c.ensures.same in
    registers_listed c.args.p.now.program c.args.p.now.names c.args.p.now.choice c.args.next.now c.loop-k.k
    c.loop-k.all.items (omega (arith, l, b, e)) c.loop-k.invariant
