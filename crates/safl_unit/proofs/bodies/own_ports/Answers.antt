use Rattle.std.proofs.Common.{suc, ◌+◌, ◌≤◌, length, slice_get, ap, ◌∙◌, arith}
use Rattle.safl_unit.proofs.equations.Lowered.{first_site_most}
use Rattle.safl_unit.proofs.equations.Slices.{part_length, part_get}
use Rattle.safl_unit.proofs.bodies.own_ports.Goals as goal

pub slice_bounds-from_slice-end : goal.slice_bounds-from_slice-end
slice_bounds-from_slice-end c =
    let l = c.requires.function in
    let a = first_site_most c.args.c.now c.requires.checked (suc c.args.f) (omega (arith, l)) in
    let e = c.first_site-first.ensures in
    let g = c.own_sites.ensures in
    let n = c.requires.ports in
    omega (arith, a, e, g, n)

pub returns : goal.returns
returns c =
    let l = c.requires.function in
    let a = first_site_most c.args.c.now c.requires.checked (suc c.args.f) (omega (arith, l)) in
    let e = c.first_site-first.ensures in
    let g = c.own_sites.ensures in
    let n = c.requires.ports in
    let within : c.first_site-first.result + c.own_sites.result ≤ length c.args.ports.now = omega (arith, a, e, g, n) in
    let long = part_length c.args.ports.now c.in_ok-own.own.items c.first_site-first.result c.own_sites.result c.in_ok-own.ensures.items within in
    record {
      count = omega (arith, long, e, g);
      same = λ i m. part_get c.args.ports.now c.in_ok-own.own.items c.first_site-first.result c.own_sites.result i c.in_ok-own.ensures.items
          (omega (arith, long, m)) ∙ ap (λ k. slice_get c.args.ports.now (k + i)) e;
    }
