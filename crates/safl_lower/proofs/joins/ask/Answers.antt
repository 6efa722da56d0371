use Rattle.safl_lower.proofs.Common.{IsSource, SitePorts, Want, asked, grows_on, is_ready, on, or_else, wired_before, words}
use Rattle.std.proofs.Common.{◌≡◌, ap, ◌∙◌, ◌-◌, ◌==◌, ◌&&◌, not, Bool, Option, Some, length, refl, sym, subst, arith}
use Rattle.std.proofs.lemmas.Option.{slice_get_read, slice_get_within}
use Rattle.safl_lower.specs.Lowering.{was_sent, open_at}
use Rattle.safl_lower.proofs.Kept.{asked_end, three_gates, ready_kept}
use Rattle.safl_lower.proofs.joins.ask.Goals as goal
use Rattle.safl_lower.proofs.Building.{source_grown, builds_on, builds_within}

pub index-port-requires : goal.index-port-requires
index-port-requires c =
    let s = c.requires.site in
    let h = slice_get_within c.args.sites.now.ports.items (c.args.site - c.args.sites.now.first) s.port s.at in
    omega (arith, h, c.args.sites.now.ports.ok.0)

pub inverse-requires-clause-bit : goal.inverse-requires-clause-bit
inverse-requires-clause-bit c =
    let s = c.requires.site in
    let h = slice_get_within c.args.sites.now.ports.items (c.args.site - c.args.sites.now.first) s.port s.at in
    let at = slice_get_read c.args.sites.now.ports.items (length c.args.sites.now.ports.items) (c.args.site - c.args.sites.now.first) c.index-port.result.now refl h c.index-port.ensures in
    let same : s.port ≡ c.index-port.result.now = cc in
    subst (λ (p : SitePorts). IsSource c.args.net.now p.sent 1) same s.sent

pub both-requires-clause-first : goal.both-requires-clause-first
both-requires-clause-first c = source_grown c.inverse.ensures.built.grows c.args.path 1 c.requires.path

pub and_ready-requires-clause-second : goal.and_ready-requires-clause-second
and_ready-requires-clause-second c = ready_kept (grows_on c.inverse.ensures.built.grows c.both.ensures.built.grows) c.args.all.ready c.requires.all

pub returns-clause-given : goal.returns-clause-given
returns-clause-given c =
    let s = c.requires.site in
    let h = slice_get_within c.args.sites.now.ports.items (c.args.site - c.args.sites.now.first) s.port s.at in
    record {
      port = c.index-port.result.now;
      at = slice_get_read c.args.sites.now.ports.items (length c.args.sites.now.ports.items)
          (c.args.site - c.args.sites.now.first) c.index-port.result.now refl h c.index-port.ensures;
      is = refl;
    }

pub returns-clause-wants : goal.returns-clause-wants
returns-clause-wants c = λ v w j.
    let s = c.requires.site in
    let h = slice_get_within c.args.sites.now.ports.items (c.args.site - c.args.sites.now.first) s.port s.at in
    let at = slice_get_read c.args.sites.now.ports.items (length c.args.sites.now.ports.items) (c.args.site - c.args.sites.now.first) c.index-port.result.now refl h c.index-port.ensures in
    let e : Want = record { site = c.args.site; want = c.in_ok-want.want; args = c.args.all.values } in
    let u = wired_before c.and_ready.ensures.built.grows w in
    let t = wired_before c.both.ensures.built.grows u in
    ap (λ l. asked v l j) c.in_ok-push.ensures.items
    ∙ asked_end v c.args.out.now.wants.items e j
    ∙ ap (or_else (asked v c.args.out.now.wants.items j)) (three_gates (c.args.site == j) (on v c.in_ok-want.want)
    (open_at v c.args.sites.now c.args.path c.args.site) (is_ready v c.args.all.ready) (Some (words v c.args.all.values.items))
    (c.in_ok-want.ensures.value v w
    ∙ ap (λ (b : Bool). b && is_ready v c.args.all.ready) (c.in_ok-free.ensures.value v u
    ∙ ap (λ (b : Bool). on v c.args.path && b) (c.in_ok-unsent.ensures.value v t ∙ sym (ap (λ (o : Option SitePorts). not (was_sent v o)) at)))))

pub returns-clause-entry : goal.returns-clause-entry
returns-clause-entry c = record { want = c.in_ok-want.want; is = c.in_ok-push.ensures.items; bit = c.in_ok-want.ensures.fits }

pub returns-in_err-free-clause-built : goal.returns-in_err-free-clause-built
returns-in_err-free-clause-built c = builds_within 3 (builds_on c.inverse.ensures.built c.both.ensures.built) (omega arith)

pub returns-in_err-want-clause-built : goal.returns-in_err-want-clause-built
returns-in_err-want-clause-built c = builds_within 3 (builds_on c.inverse.ensures.built (builds_on c.both.ensures.built c.and_ready.ensures.built)) (omega arith)

pub returns-in_err-push-clause-built : goal.returns-in_err-push-clause-built
returns-in_err-push-clause-built c = builds_within 3 (builds_on c.inverse.ensures.built (builds_on c.both.ensures.built c.and_ready.ensures.built)) (omega arith)

pub returns-clause-built : goal.returns-clause-built
returns-clause-built c = builds_within 3 (builds_on c.inverse.ensures.built (builds_on c.both.ensures.built c.and_ready.ensures.built)) (omega arith)
