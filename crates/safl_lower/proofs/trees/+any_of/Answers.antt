use Rattle.safl_lower.proofs.Common.{Within, on, wired_before}
use Rattle.std.proofs.Common.{ℕ, ◌-◌, length, Bool, ◌||◌, ◌/◌, sym, ap, subst, ◌∙◌, arith}
use Rattle.safl_lower.specs.Rows.{on_any}
use Rattle.safl_lower.proofs.Building.{builds_on, builds_within, source_kept}
use Rattle.safl_lower.proofs.JoinedRows.{whole, low_bits, high_bits, row_kept, any_append}
use Rattle.safl_lower.proofs.Heights.{within_kept, alone_within, halved, within_both}
use Rattle.safl_lower.proofs.trees.+any_of.Goals as goal

pub any_of-requires : goal.any_of-requires
any_of-requires t c =
    let cut = c.split_at.ensures in
    let low = c.split_at.result.0.now in
    let high = c.split_at.result.1.now in
    let e = whole c.args.bits.now low high (length c.args.bits.now / 2) cut.front cut.back in
    let fl = cut.front_len in
    let some = c.requires.some in
    let many = c.if-bits-eq1.false in
    let r = c.requires.room.room in
    let d = c.decreases in (
      omega (arith, fl, some, many, d),
      (
        omega (arith, fl, some, many),
        (low_bits c.args.net.now c.args.bits.now low high e c.requires.bits, record { tidy = c.requires.room.tidy; room = omega (arith, fl, r) }),
      ),
    )

pub any_of-requires-2 : goal.any_of-requires-2
any_of-requires-2 t c =
    let cut = c.split_at.ensures in
    let low = c.split_at.result.0.now in
    let high = c.split_at.result.1.now in
    let e = whole c.args.bits.now low high (length c.args.bits.now / 2) cut.front cut.back in
    let fl = cut.front_len in
    let bl = cut.back_len in
    let some = c.requires.some in
    let many = c.if-bits-eq1.false in
    let r = c.requires.room.room in
    let d = c.decreases in
    let b = c.in_ok-a.ensures.built in
    let k = b.count in (
      omega (arith, fl, bl, some, many, d),
      (
        omega (arith, fl, bl, some, many),
        (
          row_kept b high (high_bits c.args.net.now c.args.bits.now low high e c.requires.bits),
          record { tidy = b.tidy; room = omega (arith, fl, bl, r, k, some, many) },
        ),
      ),
    )

pub either-requires-clause-first : goal.either-requires-clause-first
either-requires-clause-first t c = source_kept c.in_ok-b.ensures.built c.in_ok-a.ensures.fits

pub returns-clause-built : goal.returns-clause-built
returns-clause-built t c =
    let cut = c.split_at.ensures in
    let fl = cut.front_len in
    let bl = cut.back_len in
    let some = c.requires.some in
    let many = c.if-bits-eq1.false in
    builds_within (length c.args.bits.now - 1) (builds_on (builds_on c.in_ok-a.ensures.built c.in_ok-b.ensures.built) c.in_ok-any.ensures.built) (omega (arith, fl, bl, some, many))

pub returns-clause-value : goal.returns-clause-value
returns-clause-value t c = λ v w.
    let cut = c.split_at.ensures in
    let low = c.split_at.result.0.now in
    let high = c.split_at.result.1.now in
    let e = whole c.args.bits.now low high (length c.args.bits.now / 2) cut.front cut.back in
    let w2 = wired_before c.in_ok-any.ensures.built.grows w in
    let w1 = wired_before c.in_ok-b.ensures.built.grows w2 in
    c.in_ok-any.ensures.value v w ∙ ap (λ (x : Bool). x || on v c.in_ok-b.b) (c.in_ok-a.ensures.value v w1) ∙ ap (λ (x : Bool). on_any v low || x) (c.in_ok-b.ensures.value v w2)
    ∙ sym (any_append v low high) ∙ sym (ap (on_any v) e)

pub returns-then-bits-eq1-clause-height : goal.returns-then-bits-eq1-clause-height
returns-then-bits-eq1-clause-height t c = λ h few. alone_within c.args.net.now c.args.bits.now (record { 0 = 0 }) h c.if-bits-eq1.true

pub returns-clause-height : goal.returns-clause-height
returns-clause-height t c = λ h few.
    let cut = c.split_at.ensures in
    let xs = c.args.bits.now in
    let low = c.split_at.result.0.now in
    let high = c.split_at.result.1.now in
    let e = whole xs low high (length xs / 2) cut.front cut.back in
    let k = halved xs low high h c.if-bits-eq1.false c.requires.some cut.front_len cut.back_len few in
    let n = c.either.new.net in
    let p = within_kept (builds_on c.in_ok-b.ensures.built c.in_ok-any.ensures.built) low k.0 c.in_ok-a.a.0 (c.in_ok-a.ensures.height k.0 k.2) in
    let q = within_kept c.in_ok-any.ensures.built high k.0 c.in_ok-b.b.0 (c.in_ok-b.ensures.height k.0 k.3) in
    subst (λ (j : ℕ). Within n xs j c.in_ok-any.any.0) (sym k.1) (within_both n xs low high e k.0 c.in_ok-a.a c.in_ok-b.b c.in_ok-any.any p q c.in_ok-any.ensures.gate)
