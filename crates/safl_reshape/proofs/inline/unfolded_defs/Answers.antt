use Rattle.safl_reshape.proofs.Common.{Def, Head, calls, heads, heads_length, is_member, rewritten, shown_definitions, shown_tree}
use Rattle.std.proofs.Common.{◌≡◌, ◌<◌, List, ap, sym, ◌∙◌, arith, length}
use Rattle.safl_typing.specs.PlainHeads.{shown_heads, known}
use Rattle.safl_typing.proofs.HeadsByName.{heads_count}
use Rattle.safl_reshape.specs.Reshaped.{is_recursive}
use Rattle.safl_reshape.specs.Refusals.{HasSite}
use Rattle.safl_reshape.proofs.Putting.{shown_length}
use Rattle.safl_reshape.proofs.Callees.{callee_within, recursive_shown}
use Rattle.safl_reshape.proofs.inline.unfolded_defs.Goals as goal

pub get-requires : goal.get-requires
get-requires c =
    let s : HasSite c.args.checked.now.program c.args.site = record { from = omega arith; to = omega (arith, c.sites-sites.ensures) } in
    let w : (c.args.checked.now.program.callee c.args.site) < length (shown_definitions c.args.defs.now) = callee_within
    (shown_definitions c.args.defs.now) c.args.checked.now c.args.site c.requires.form c.sites-sites.ensures.checked s in
    let lt : c.callee-callee.result < length c.args.defs.now = omega (arith, w, shown_length c.args.defs.now, c.callee-callee.ensures.number) in
    let h : length (shown_heads c.in_ok-heads.heads) ≡ length (heads (shown_definitions c.args.defs.now)) = ap (λ (l : List Head). length l) c.in_ok-heads.ensures in
    omega (arith, h, heads_count c.in_ok-heads.heads, heads_length 0 0 (shown_definitions c.args.defs.now), w, c.callee-callee.ensures.number)

pub bounds-defs-callee : goal.bounds-defs-callee
bounds-defs-callee c =
    let s : HasSite c.args.checked.now.program c.args.site = record { from = omega arith; to = omega (arith, c.sites-sites.ensures) } in
    let w : (c.args.checked.now.program.callee c.args.site) < length (shown_definitions c.args.defs.now) = callee_within
    (shown_definitions c.args.defs.now) c.args.checked.now c.args.site c.requires.form c.sites-sites.ensures.checked s in
    let lt : c.callee-callee.result < length c.args.defs.now = omega (arith, w, shown_length c.args.defs.now, c.callee-callee.ensures.number) in
    lt

pub returns-then-calls_own-clause-refused : goal.returns-then-calls_own-clause-refused
returns-then-calls_own-clause-refused c =
    let s : HasSite c.args.checked.now.program c.args.site = record { from = omega arith; to = omega (arith, c.sites-sites.ensures) } in
    let w : (c.args.checked.now.program.callee c.args.site) < length (shown_definitions c.args.defs.now) = callee_within
    (shown_definitions c.args.defs.now) c.args.checked.now c.args.site c.requires.form c.sites-sites.ensures.checked s in
    let lt : c.callee-callee.result < length c.args.defs.now = omega (arith, w, shown_length c.args.defs.now, c.callee-callee.ensures.number) in
    let q : c.calls_own.result ≡ calls is_member (known c.in_ok-heads.heads c.get.result.now.unit)
    (rewritten (shown_tree c.index-defs-callee.result.body)) = c.calls_own.ensures ∙ ap
    (λ (z : Def). calls is_member (known c.in_ok-heads.heads c.get.result.now.unit) (rewritten (shown_tree z.body))) (sym c.index-defs-callee.is) in
    let r : c.calls_own.result ≡ is_recursive (shown_definitions c.args.defs.now) (c.args.checked.now.program.callee c.args.site) =
    recursive_shown c.args.defs.now c.in_ok-heads.heads c.callee-callee.result (c.args.checked.now.program.callee c.args.site)
    c.get.result.now c.index-defs-callee.result c.calls_own.result c.in_ok-heads.ensures c.get.ensures lt c.index-defs-callee.is c.callee-callee.ensures.number q in
    (s, sym r ∙ c.if-calls_own.true)

pub returns-clause-may : goal.returns-clause-may
returns-clause-may c =
    let s : HasSite c.args.checked.now.program c.args.site = record { from = omega arith; to = omega (arith, c.sites-sites.ensures) } in
    let w : (c.args.checked.now.program.callee c.args.site) < length (shown_definitions c.args.defs.now) = callee_within
    (shown_definitions c.args.defs.now) c.args.checked.now c.args.site c.requires.form c.sites-sites.ensures.checked s in
    let lt : c.callee-callee.result < length c.args.defs.now = omega (arith, w, shown_length c.args.defs.now, c.callee-callee.ensures.number) in
    let q : c.calls_own.result ≡ calls is_member (known c.in_ok-heads.heads c.get.result.now.unit)
    (rewritten (shown_tree c.index-defs-callee.result.body)) = c.calls_own.ensures ∙ ap
    (λ (z : Def). calls is_member (known c.in_ok-heads.heads c.get.result.now.unit) (rewritten (shown_tree z.body))) (sym c.index-defs-callee.is) in
    let r : c.calls_own.result ≡ is_recursive (shown_definitions c.args.defs.now) (c.args.checked.now.program.callee c.args.site) =
    recursive_shown c.args.defs.now c.in_ok-heads.heads c.callee-callee.result (c.args.checked.now.program.callee c.args.site)
    c.get.result.now c.index-defs-callee.result c.calls_own.result c.in_ok-heads.ensures c.get.ensures lt c.index-defs-callee.is c.callee-callee.ensures.number q in
    record { site = s; alone = sym r ∙ c.if-calls_own.false }
