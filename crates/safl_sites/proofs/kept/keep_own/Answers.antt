use Rattle.std.proofs.Common.{◌+◌, arith}
use Rattle.safl_sites.proofs.NumbersFollow.{own_site}
use Rattle.safl_sites.proofs.kept.keep_own.Goals as goal

pub overflow_add-k : goal.overflow_add-k
overflow_add-k c =
    let p = c.args.c.now in
    let h = c.requires.checked in
    let s = (own_site p h c.args.g (c.first_site-first.result + c.loop-i.i) c.requires.within (omega (arith, c.first_site-first.ensures))
    (omega (arith, c.first_site-first.ensures, c.own_sites-count.ensures))).0 in
    omega (arith, s.most, h.limits.sites)

pub must_keep-requires-clause-least : goal.must_keep-requires-clause-least
must_keep-requires-clause-least c =
    let p = c.args.c.now in
    let h = c.requires.checked in
    (own_site p h c.args.g (c.first_site-first.result + c.loop-i.i) c.requires.within (omega (arith, c.first_site-first.ensures))
    (omega (arith, c.first_site-first.ensures, c.own_sites-count.ensures))).0.least

pub must_keep-requires-clause-most : goal.must_keep-requires-clause-most
must_keep-requires-clause-most c =
    let p = c.args.c.now in
    let h = c.requires.checked in
    (own_site p h c.args.g (c.first_site-first.result + c.loop-i.i) c.requires.within (omega (arith, c.first_site-first.ensures))
    (omega (arith, c.first_site-first.ensures, c.own_sites-count.ensures))).0.most

pub insert-requires : goal.insert-requires
insert-requires c =
    let p = c.args.c.now in
    let h = c.requires.checked in
    let s = (own_site p h c.args.g (c.first_site-first.result + c.loop-i.i) c.requires.within (omega (arith, c.first_site-first.ensures))
    (omega (arith, c.first_site-first.ensures, c.own_sites-count.ensures))).0 in
    omega (arith, s.most, h.limits.sites)
