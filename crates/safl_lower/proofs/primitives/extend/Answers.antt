use Rattle.safl_lower.proofs.Common.{IsSource, Word, width_is}
use Rattle.std.proofs.Common.{◌≡◌, ℕ, ◌+◌, ◌-◌, [], ◌∷◌, IfOk, sym, ap, subst, ◌∙◌, arith}
use Rattle.safl_lower.proofs.Extending.{joined_width, stays_wide, extended}
use Rattle.safl_lower.proofs.primitives.extend.Goals as goal
use Rattle.safl_lower.proofs.Building.{source_grown, builds_on}
use Rattle.safl_lower.proofs.Cells.{two_sources}

pub returns-then-narrow-width-clause-value : goal.returns-then-narrow-width-clause-value
returns-then-narrow-width-clause-value c = λ v h.
    let r = c.requires.narrow in
    stays_wide c.args.net.now v c.args.a r.0 c.args.width h r.1 (sym (width_is c.args.net.now c.args.a.0 r.0 r.1.width) ∙ sym c.width-narrow.ensures ∙ c.if-narrow-width.true)

pub operate-requires-clause-operands : goal.operate-requires-clause-operands
operate-requires-clause-operands c =
    let r = c.requires.narrow in
    let w = width_is c.args.net.now c.args.a.0 r.0 r.1.width in
    let e = c.width-narrow.ensures in
    let z = ap (λ (x : Word). x.width) c.in-Some.ensures.value in
    let le = r.3 in
    let top = c.requires.bounded in (
      c.in-Some.zeros.width ∷ r.0 ∷ [],
      c.in-Some.zeros.width + r.0,
      (two_sources c.in_ok-before-in-Some.ensures.fits (source_grown c.constant.ensures.built.grows c.args.a r.0 r.1)),
      joined_width
          c.in-Some.zeros.width r.0 (omega (arith, w, e, z, le)) r.2 (omega (arith, w, e, z, le, top)),
    )

pub returns-clause-built : goal.returns-clause-built
returns-clause-built c = builds_on c.constant.ensures.built c.operate.ensures.built

pub returns-clause-fits : goal.returns-clause-fits
returns-clause-fits c =
    let r = c.requires.narrow in
    let w = width_is c.args.net.now c.args.a.0 r.0 r.1.width in
    let e = c.width-narrow.ensures in
    let z = ap (λ (x : Word). x.width) c.in-Some.ensures.value in
    let le = r.3 in
    let top = c.requires.bounded in
    let all : c.in-Some.zeros.width + r.0 ≡ c.args.width = omega (arith, w, e, z, le) in
    subst (λ (k : ℕ). IfOk c.operate.result (λ s. IsSource c.operate.new.net s k)) all
    (c.operate.ensures.word.fits (c.in-Some.zeros.width ∷ r.0 ∷ []) (c.in-Some.zeros.width + r.0)
    (two_sources c.in_ok-before-in-Some.ensures.fits (source_grown c.constant.ensures.built.grows c.args.a r.0 r.1))
    (joined_width c.in-Some.zeros.width r.0 (omega (arith, w, e, z, le)) r.2 (omega (arith, w, e, z, le, top))))

pub returns-clause-value : goal.returns-clause-value
returns-clause-value c =
    let r = c.requires.narrow in
    let w = width_is c.args.net.now c.args.a.0 r.0 r.1.width in
    let e = c.width-narrow.ensures in
    let le = r.3 in
    extended c.args.net.now c.constant.new.net c.operate.new.net c.operate.result c.in_ok-before-in-Some.before c.args.a c.in-Some.zeros
    (c.args.width - c.width-narrow.result) r.0 c.args.width c.operate.ensures.built.grows c.constant.ensures.built.grows r.1
    c.in-Some.ensures.value (omega (arith, w, e, le)) c.in_ok-before-in-Some.ensures.value c.operate.ensures.word.value
