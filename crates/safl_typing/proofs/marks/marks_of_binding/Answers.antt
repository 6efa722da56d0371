use Rattle.safl_typing.proofs.Common.{arith, shown_bindings, shown_expression, sites, sites_bound, ◌+◌, ◌≡◌}
use Rattle.std.specs.Prelude.{min}
use Rattle.safl_typing.proofs.marks.marks_of_binding.Goals as goal

pub returns : goal.returns
returns c = λ k p hs h.
    let a = c.add_bound_sites.ensures k hs in
    let b = c.add_sites-sites.ensures k h in
    let n : c.add_sites-sites.result ≡ min 4001 (sites_bound k (shown_bindings c.args.bound.now) + sites k (shown_expression c.args.body.now)) = omega (arith, a, b) in
    record { width = c.is_flexible-flexible.ensures k h; counted = n }
