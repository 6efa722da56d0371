use Rattle.safl_unit.proofs.Common.{IfOk-weaker, many, on, slice_get_read}
use Rattle.std.proofs.Common.{◌≡◌, length, Bool, true, false, not, ◌&&◌, ◌||◌, refl, sym, ap, ◌∙◌, arith}
use Rattle.safl_unit.proofs.equations.Keeping.{cycle_before}
use Rattle.safl_unit.proofs.bodies.body_path.Goals as goal

alone : (a b m : Bool) → m ≡ false → a ≡ (a && (not m || b))
alone true b m e = ap (λ x. not x || b) (sym e)
alone false b m e = refl

shared : (a b m : Bool) → m ≡ true → (a && b) ≡ (a && (not m || b))
shared a b m e = ap (λ x. a && (not x || b)) (sym e)

pub returns-then-not-has_peers-clause-fits : goal.returns-then-not-has_peers-clause-fits
returns-then-not-has_peers-clause-fits c =
    let b = c.requires.pins.bank in
    let l = c.requires.function in
    let n = b.units_length in
    let e = slice_get_read c.args.pins.now.bank.units.items (length c.args.pins.now.bank.units.items) c.args.f c.index.result.now refl (omega (arith, n, l)) c.index.ensures in
    (b.units c.args.f c.index.result.now e).run

pub returns-then-not-has_peers-clause-shows : goal.returns-then-not-has_peers-clause-shows
returns-then-not-has_peers-clause-shows c = λ P v r i y.
    let b = c.requires.pins.bank in
    let l = c.requires.function in
    let n = b.units_length in
    let e = slice_get_read c.args.pins.now.bank.units.items (length c.args.pins.now.bank.units.items) c.args.f c.index.result.now refl (omega (arith, n, l)) c.index.ensures in
    (y.bank.units c.args.f c.index.result.now e).run ∙ alone _ (r.at c.args.f) _ (sym c.has_peers.ensures ∙ c.if-not-has_peers.true)

pub both-requires-clause-first : goal.both-requires-clause-first
both-requires-clause-first c =
    let b = c.requires.pins.bank in
    let l = c.requires.function in
    let n = b.units_length in
    let e = slice_get_read c.args.pins.now.bank.units.items (length c.args.pins.now.bank.units.items) c.args.f c.index.result.now refl (omega (arith, n, l)) c.index.ensures in
    (b.units c.args.f c.index.result.now e).run

pub both-requires-clause-second : goal.both-requires-clause-second
both-requires-clause-second c =
    let b = c.requires.pins.bank in
    let l = c.requires.function in
    let n = b.members_length in
    let e = slice_get_read c.args.pins.now.bank.members.items (length c.args.pins.now.bank.members.items) c.args.f c.index-2.result.now refl (omega (arith, n, l)) c.index-2.ensures in
    (b.members c.args.f c.index-2.result.now e).at

pub returns-clause-shows : goal.returns-clause-shows
returns-clause-shows c = λ P.
    let b = c.requires.pins.bank in
    let l = c.requires.function in
    let n = b.units_length in
    let m = b.members_length in
    let e = slice_get_read c.args.pins.now.bank.units.items (length c.args.pins.now.bank.units.items) c.args.f c.index.result.now refl (omega (arith, n, l)) c.index.ensures in
    let g = slice_get_read c.args.pins.now.bank.members.items (length c.args.pins.now.bank.members.items) c.args.f c.index-2.result.now refl (omega (arith, m, l)) c.index-2.ensures in
    let peers = sym c.has_peers.ensures ∙ c.if-not-has_peers.false in
    let C = c.args.c.now.program in
    let f = c.args.f in
    let second = c.index-2.result.now.at in
    IfOk-weaker c.both.result _ _ (λ s h v r i now.
    let before = cycle_before c.both.ensures.built now in
    h v now.wired
    ∙ ap (λ (t : Bool). t && on v second) (before.bank.units f c.index.result.now e).run
    ∙ ap (λ (t : Bool). r.run (C.unit f) && t) ((before.bank.members f c.index-2.result.now g).at peers)
    ∙ shared (r.run (C.unit f)) (r.at f) (many C f) peers) c.both.ensures.value
