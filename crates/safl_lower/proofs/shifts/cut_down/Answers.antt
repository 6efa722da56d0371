use Rattle.safl_lower.proofs.Common.{IsSource, Word, grows_on, width_is}
use Rattle.std.proofs.Common.{ℕ, ◌<◌, ◌%◌, ◌^◌, [], ◌∷◌, refl, subst, ap, ◌∙◌, arith}
use Rattle.safl_lower.proofs.Shifting.{compared_width, low_width, cut_value, cut_narrow}
use Rattle.safl_lower.proofs.shifts.cut_down.Goals as goal
use Rattle.safl_lower.proofs.Building.{source_grown, builds_on, builds_within}
use Rattle.safl_lower.proofs.Cells.{one_source, two_sources}

pub operate-requires-clause-operands : goal.operate-requires-clause-operands
operate-requires-clause-operands c =
    let q = c.requires.sized in
    let e = c.width-width.ensures ∙ width_is c.args.net.now c.args.b.0 q.0 q.1.width in
    let limit = subst (λ (k : ℕ). IsSource c.constant.new.net c.in_ok-limit.limit k) (ap (λ (x : Word). x.width) c.from_low_bits.ensures ∙ e) c.in_ok-limit.ensures.fits in
    let compared = two_sources (source_grown c.constant.ensures.built.grows c.args.b q.0 q.1) limit in
    (q.0 ∷ q.0 ∷ [], 1, compared, compared_width q.0 q.2 q.3)

pub returns-in_err-over-clause-built : goal.returns-in_err-over-clause-built
returns-in_err-over-clause-built c = builds_within 4 (builds_on c.constant.ensures.built c.operate.ensures.built) (omega arith)

pub operate-requires-2-clause-operands : goal.operate-requires-2-clause-operands
operate-requires-2-clause-operands c =
    let q = c.requires.sized in
    let e = c.width-width.ensures ∙ width_is c.args.net.now c.args.b.0 q.0 q.1.width in
    let not_narrow = c.if-width-le-WIDEST_AMOUNT.false in
    let wide : 32 < q.0 = omega (arith, e, not_narrow) in
    let read = one_source (source_grown (grows_on c.constant.ensures.built.grows c.operate.ensures.built.grows) c.args.b q.0 q.1) in
    (q.0 ∷ [], 8, read, low_width q.0 wide q.3)

pub returns-in_err-low-clause-built : goal.returns-in_err-low-clause-built
returns-in_err-low-clause-built c = builds_within 4 (builds_on (builds_on c.constant.ensures.built c.operate.ensures.built) c.operate-2.ensures.built) (omega arith)

pub operate-requires-3-clause-operands : goal.operate-requires-3-clause-operands
operate-requires-3-clause-operands c =
    let q = c.requires.sized in
    let e = c.width-width.ensures ∙ width_is c.args.net.now c.args.b.0 q.0 q.1.width in
    let not_narrow = c.if-width-le-WIDEST_AMOUNT.false in
    let wide : 32 < q.0 = omega (arith, e, not_narrow) in
    let limit = subst (λ (k : ℕ). IsSource c.constant.new.net c.in_ok-limit.limit k) (ap (λ (x : Word). x.width) c.from_low_bits.ensures ∙ e) c.in_ok-limit.ensures.fits in
    let compared = two_sources (source_grown c.constant.ensures.built.grows c.args.b q.0 q.1) limit in
    let read = one_source (source_grown (grows_on c.constant.ensures.built.grows c.operate.ensures.built.grows) c.args.b q.0 q.1) in
    let over = c.in_ok-over.ensures.word.fits (q.0 ∷ q.0 ∷ []) 1 compared (compared_width q.0 q.2 q.3) in
    let both = two_sources (source_grown c.operate-2.ensures.built.grows c.in_ok-over.over 1 over) (c.in_ok-low.ensures.word.fits (q.0 ∷ []) 8 read (low_width q.0 wide q.3)) in
    (1 ∷ 8 ∷ [], 9, both, refl)

pub returns-clause-built : goal.returns-clause-built
returns-clause-built c = builds_on (builds_on (builds_on c.constant.ensures.built c.operate.ensures.built) c.operate-2.ensures.built) c.operate-3.ensures.built

pub returns-clause-narrow : goal.returns-clause-narrow
returns-clause-narrow c =
    let q = c.requires.sized in
    let e = c.width-width.ensures ∙ width_is c.args.net.now c.args.b.0 q.0 q.1.width in
    let not_narrow = c.if-width-le-WIDEST_AMOUNT.false in
    let wide : 32 < q.0 = omega (arith, e, not_narrow) in
    let limit = subst (λ (k : ℕ). IsSource c.constant.new.net c.in_ok-limit.limit k) (ap (λ (x : Word). x.width) c.from_low_bits.ensures ∙ e) c.in_ok-limit.ensures.fits in
    let compared = two_sources (source_grown c.constant.ensures.built.grows c.args.b q.0 q.1) limit in
    let read = one_source (source_grown (grows_on c.constant.ensures.built.grows c.operate.ensures.built.grows) c.args.b q.0 q.1) in
    let over = c.in_ok-over.ensures.word.fits (q.0 ∷ q.0 ∷ []) 1 compared (compared_width q.0 q.2 q.3) in
    let both = two_sources (source_grown c.operate-2.ensures.built.grows c.in_ok-over.over 1 over) (c.in_ok-low.ensures.word.fits (q.0 ∷ []) 8 read (low_width q.0 wide q.3)) in
    cut_narrow c.operate-3.new.net c.operate-3.result (c.operate-3.ensures.word.fits (1 ∷ 8 ∷ []) 9 both refl)

pub returns-clause-value : goal.returns-clause-value
returns-clause-value c =
    let q = c.requires.sized in
    let e = c.width-width.ensures ∙ width_is c.args.net.now c.args.b.0 q.0 q.1.width in
    let not_narrow = c.if-width-le-WIDEST_AMOUNT.false in
    let wide : 32 < q.0 = omega (arith, e, not_narrow) in
    cut_value c.constant.new.net c.operate.new.net c.operate-2.new.net c.operate-3.new.net c.operate-3.result c.args.b c.in_ok-limit.limit
    c.in_ok-over.over c.in_ok-low.low q.0 wide c.operate.ensures.built.grows c.operate-2.ensures.built.grows c.operate-3.ensures.built.grows
    (λ v x. c.in_ok-limit.ensures.value v x ∙ c.from_low_bits.ensures ∙ ap (λ (k : ℕ). record { width = k; bits = 255 % 2 ^ k }) e)
    c.in_ok-over.ensures.word.value c.in_ok-low.ensures.word.value c.operate-3.ensures.word.value
