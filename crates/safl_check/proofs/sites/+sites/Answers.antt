use Rattle.safl_check.proofs.Common.{on_ok_weaker, slice_get_read}
use Rattle.std.proofs.Common.{ap, length, refl, rules}
use Rattle.safl_typing.specs.Forms.{sites_of}
use Rattle.safl_term.proofs.Smaller.{smaller_at}
use Rattle.safl_check.proofs.SitesAdded.{added}
use Rattle.safl_check.proofs.sites.+sites.Goals as goal

pub push_sites-returns-in_ok-push_all-in-Let : goal.push_sites-returns-in_ok-push_all-in-Let
push_sites-returns-in_ok-push_all-in-Let t c = on_ok_weaker c.push_sites-in-Let.result
    (λ h. added _ _ _ _ _ _ c.in_ok-push_all-in-Let.ensures h (ap (sites_of c.args.caller) c.in-Let.ensures)) c.push_sites-in-Let.ensures

pub push_sites-returns-in-Op : goal.push_sites-returns-in-Op
push_sites-returns-in-Op t c = rw c.in-Op.ensures c.push_all-in-Op.ensures

pub push_sites-returns-in-Loop : goal.push_sites-returns-in-Loop
push_sites-returns-in-Loop t c = rw c.in-Loop.ensures c.push_all-in-Loop.ensures

pub push_sites-returns-in_ok-push-in-Call : goal.push_sites-returns-in_ok-push-in-Call
push_sites-returns-in_ok-push-in-Call t c = on_ok_weaker c.push_all-in-Call.result
    (λ h. added _ _ _ _ _ _ c.in_ok-push-in-Call.ensures.items h (ap (sites_of c.args.caller) c.in-Call.ensures)) c.push_all-in-Call.ensures

pub push_all-push_sites-requires : goal.push_all-push_sites-requires
push_all-push_sites-requires t c =
    let at = slice_get_read c.args.terms.now (length c.args.terms.now) c.loop-term.term-index c.term-item.result refl c.loop-term-test.true c.term-item.is in
    let smaller = smaller_at c.args.terms.now c.loop-term.term-index c.term-item.result at in
    search rules
