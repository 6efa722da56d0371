use Rattle.safl_lower.proofs.Common.{Within, on, wired_before}
use Rattle.std.proofs.Common.{ℕ, ◌*◌, ◌/◌, ◌++◌, [], ◌∷◌, length, Bool, ◌&&◌, ◌||◌, sym, ap, subst, ◌∙◌, arith}
use Rattle.safl_lower.specs.Tables.{on_in}
use Rattle.safl_lower.specs.Rows.{on_any, on_two, maybe_one, bit_joins}
use Rattle.safl_lower.proofs.Building.{builds_on, builds_within, source_kept}
use Rattle.safl_lower.proofs.KnownLoads.{maybe_bit_kept}
use Rattle.safl_lower.proofs.JoinedRows.{whole, low_bits, high_bits, row_kept, any_append, two_append}
use Rattle.safl_lower.proofs.Heights.{gate_kept, within_kept, all_kept, halved, within_both, within_low, within_high, all_low, all_high, two_within}
use Rattle.safl_lower.proofs.Joints.{alone_several}
use Rattle.safl_lower.proofs.trees.+several_of.Goals as goal

pub returns-then-bits-eq1-clause-joined : goal.returns-then-bits-eq1-clause-joined
returns-then-bits-eq1-clause-joined t c = alone_several c.args.net.now c.args.bits.now c.requires.bits c.if-bits-eq1.true

pub several_of-requires : goal.several_of-requires
several_of-requires t c =
    let cut = c.split_at.ensures in
    let low = c.split_at.result.0.now in
    let high = c.split_at.result.1.now in
    let e = whole c.args.bits.now low high (length c.args.bits.now / 2) cut.front cut.back in
    let fl = cut.front_len in
    let some = c.requires.some in
    let many = c.if-bits-eq1.false in
    let r = c.requires.room.room in
    let d = c.decreases in (
      omega (arith, fl, some, many, d),
      (
        omega (arith, fl, some, many),
        (low_bits c.args.net.now c.args.bits.now low high e c.requires.bits, record { tidy = c.requires.room.tidy; room = omega (arith, fl, r) }),
      ),
    )

pub several_of-requires-2 : goal.several_of-requires-2
several_of-requires-2 t c =
    let cut = c.split_at.ensures in
    let low = c.split_at.result.0.now in
    let high = c.split_at.result.1.now in
    let e = whole c.args.bits.now low high (length c.args.bits.now / 2) cut.front cut.back in
    let fl = cut.front_len in
    let bl = cut.back_len in
    let some = c.requires.some in
    let many = c.if-bits-eq1.false in
    let r = c.requires.room.room in
    let d = c.decreases in
    let b = c.in_ok-a.ensures.built in
    let k = b.count in (
      omega (arith, fl, bl, some, many, d),
      (
        omega (arith, fl, bl, some, many),
        (
          row_kept b high (high_bits c.args.net.now c.args.bits.now low high e c.requires.bits),
          record { tidy = b.tidy; room = omega (arith, fl, bl, r, k, some, many) },
        ),
      ),
    )

pub either-requires-clause-first : goal.either-requires-clause-first
either-requires-clause-first t c = source_kept c.in_ok-b.ensures.built c.in_ok-a.ensures.joined.any_fits

pub either-requires-clause-second : goal.either-requires-clause-second
either-requires-clause-second t c = c.in_ok-b.ensures.joined.any_fits

pub either-requires-clause-room : goal.either-requires-clause-room
either-requires-clause-room t c =
    let cut = c.split_at.ensures in
    let fl = cut.front_len in
    let bl = cut.back_len in
    let some = c.requires.some in
    let many = c.if-bits-eq1.false in
    let r = c.requires.room.room in
    let k = (builds_on c.in_ok-a.ensures.built c.in_ok-b.ensures.built).count in
    record { tidy = c.in_ok-b.ensures.built.tidy; room = omega (arith, fl, bl, some, many, r, k) }

pub both-requires-clause-first : goal.both-requires-clause-first
both-requires-clause-first t c = source_kept (builds_on c.in_ok-b.ensures.built c.in_ok-any.ensures.built) c.in_ok-a.ensures.joined.any_fits

pub both-requires-clause-second : goal.both-requires-clause-second
both-requires-clause-second t c = source_kept c.in_ok-any.ensures.built c.in_ok-b.ensures.joined.any_fits

pub both-requires-clause-room : goal.both-requires-clause-room
both-requires-clause-room t c =
    let cut = c.split_at.ensures in
    let fl = cut.front_len in
    let bl = cut.back_len in
    let some = c.requires.some in
    let many = c.if-bits-eq1.false in
    let r = c.requires.room.room in
    let k = (builds_on (builds_on c.in_ok-a.ensures.built c.in_ok-b.ensures.built) c.in_ok-any.ensures.built).count in
    record { tidy = c.in_ok-any.ensures.built.tidy; room = omega (arith, fl, bl, some, many, r, k) }

pub or_some-requires-clause-first : goal.or_some-requires-clause-first
or_some-requires-clause-first t c = maybe_bit_kept (builds_on (builds_on c.in_ok-b.ensures.built c.in_ok-any.ensures.built)
    c.in_ok-pair.ensures.built) c.in_ok-a.a.two c.in_ok-a.ensures.joined.two_fits

pub or_some-requires-clause-room : goal.or_some-requires-clause-room
or_some-requires-clause-room t c =
    let cut = c.split_at.ensures in
    let fl = cut.front_len in
    let bl = cut.back_len in
    let some = c.requires.some in
    let many = c.if-bits-eq1.false in
    let r = c.requires.room.room in
    let k = (builds_on (builds_on (builds_on c.in_ok-a.ensures.built c.in_ok-b.ensures.built) c.in_ok-any.ensures.built) c.in_ok-pair.ensures.built).count in
    record { tidy = c.in_ok-pair.ensures.built.tidy; room = omega (arith, fl, bl, some, many, r, k) }

pub or_some-requires-2-clause-first : goal.or_some-requires-2-clause-first
or_some-requires-2-clause-first t c = maybe_bit_kept (builds_on (builds_on c.in_ok-any.ensures.built c.in_ok-pair.ensures.built)
    c.in_ok-first.ensures.built) c.in_ok-b.b.two c.in_ok-b.ensures.joined.two_fits

pub or_some-requires-2-clause-room : goal.or_some-requires-2-clause-room
or_some-requires-2-clause-room t c =
    let cut = c.split_at.ensures in
    let fl = cut.front_len in
    let bl = cut.back_len in
    let some = c.requires.some in
    let many = c.if-bits-eq1.false in
    let r = c.requires.room.room in
    let k = (builds_on (builds_on (builds_on (builds_on c.in_ok-a.ensures.built c.in_ok-b.ensures.built) c.in_ok-any.ensures.built) c.in_ok-pair.ensures.built) c.in_ok-first.ensures.built).count in
    record { tidy = c.in_ok-first.ensures.built.tidy; room = omega (arith, fl, bl, some, many, r, k) }

pub returns-clause-built : goal.returns-clause-built
returns-clause-built t c =
    let cut = c.split_at.ensures in
    let fl = cut.front_len in
    let bl = cut.back_len in
    let some = c.requires.some in
    let many = c.if-bits-eq1.false in
    builds_within (4 * bit_joins c.args.bits.now)
    (builds_on (builds_on (builds_on (builds_on (builds_on c.in_ok-a.ensures.built c.in_ok-b.ensures.built) c.in_ok-any.ensures.built)
    c.in_ok-pair.ensures.built) c.in_ok-first.ensures.built) c.in_ok-two.ensures.built)
    (omega (arith, fl, bl, some, many))

pub returns-clause-joined : goal.returns-clause-joined
returns-clause-joined t c =
    let cut = c.split_at.ensures in
    let xs = c.args.bits.now in
    let low = c.split_at.result.0.now in
    let high = c.split_at.result.1.now in
    let e = whole xs low high (length xs / 2) cut.front cut.back in
    let a = c.in_ok-a.ensures.joined in
    let b = c.in_ok-b.ensures.joined in
    let g4 = c.in_ok-two.ensures.built in
    let g3 = builds_on c.in_ok-first.ensures.built g4 in
    let g2 = builds_on c.in_ok-pair.ensures.built g3 in
    let g1 = builds_on c.in_ok-any.ensures.built g2 in
    let g0 = builds_on c.in_ok-b.ensures.built g1 in
    let n = c.or_some-2.new.net in
    record {
      any_fits = source_kept g2 c.in_ok-any.ensures.fits;
      two_fits = c.in_ok-two.ensures.fits;
      any_shows = λ v w.
          c.in_ok-any.ensures.value v (wired_before g2.grows w) ∙ ap (λ (x : Bool). x || on v c.in_ok-b.b.any)
          (a.any_shows v (wired_before g0.grows w)) ∙ ap (λ (x : Bool). on_any v low || x) (b.any_shows v (wired_before g1.grows w))
          ∙ sym (any_append v low high) ∙ sym (ap (on_any v) e);
      two_shows = λ v w.
          c.in_ok-two.ensures.value v w
          ∙ ap (λ (x : Bool). on_in v c.in_ok-b.b.two || x) (c.in_ok-first.ensures.value v (wired_before g4.grows w) ∙ ap
          (λ (x : Bool). on_in v c.in_ok-a.a.two || x) (c.in_ok-pair.ensures.value v (wired_before g3.grows w)))
          ∙ ap (λ (x : Bool). x || (on_in v c.in_ok-a.a.two || (on v c.in_ok-a.a.any && on v c.in_ok-b.b.any))) (b.two_shows v (wired_before g1.grows w))
          ∙ ap (λ (x : Bool). on_two v high || (x || (on v c.in_ok-a.a.any && on v c.in_ok-b.b.any))) (a.two_shows v (wired_before g0.grows w))
          ∙ ap (λ (x : Bool). on_two v high || (on_two v low || (x && on v c.in_ok-b.b.any))) (a.any_shows v (wired_before g0.grows w))
          ∙ ap (λ (x : Bool). on_two v high || (on_two v low || (on_any v low && x))) (b.any_shows v (wired_before g1.grows w))
          ∙ sym (two_append v low high) ∙ sym (ap (on_two v) e);
      height = λ h few.
          let k = halved xs low high h c.if-bits-eq1.false c.requires.some cut.front_len cut.back_len few in
          let p = within_kept g0 low k.0 c.in_ok-a.a.any.0 (a.height k.0 k.2) in
          let q = within_kept g1 high k.0 c.in_ok-b.b.any.0 (b.height k.0 k.3) in
          let gate = gate_kept g2 c.in_ok-any.any (c.in_ok-a.a.any ∷ c.in_ok-b.b.any ∷ []) c.in_ok-any.ensures.gate in
          subst (λ (j : ℕ). Within n xs j c.in_ok-any.any.0) (sym k.1) (within_both n xs low high e k.0 c.in_ok-a.a.any c.in_ok-b.b.any c.in_ok-any.any p q gate);
      two_height = λ h few.
          let k = halved xs low high h c.if-bits-eq1.false c.requires.some cut.front_len cut.back_len few in
          let p = within_low n xs low high e k.0 c.in_ok-a.a.any.0 (within_kept g0 low k.0 c.in_ok-a.a.any.0 (a.height k.0 k.2)) in
          let q = within_high n xs low high e k.0 c.in_ok-b.b.any.0 (within_kept g1 high k.0 c.in_ok-b.b.any.0 (b.height k.0 k.3)) in
          let pair = gate_kept g3 c.in_ok-pair.pair (c.in_ok-a.a.any ∷ c.in_ok-b.b.any ∷ []) c.in_ok-pair.ensures.gate in
          let l2 = all_low n xs low high e (3 * k.0) (maybe_one c.in_ok-a.a.two) (all_kept g0 low (3 * k.0) (maybe_one c.in_ok-a.a.two) (a.two_height k.0 k.2)) in
          let h2 = all_high n xs low high e (3 * k.0) (maybe_one c.in_ok-b.b.two) (all_kept g1 high (3 * k.0) (maybe_one c.in_ok-b.b.two) (b.two_height k.0 k.3)) in
          let first = within_kept g4 (maybe_one c.in_ok-a.a.two ++ c.in_ok-pair.pair ∷ []) 1 c.in_ok-first.first.0 c.in_ok-first.ensures.height in
          let two = two_within n xs k.0 c.in_ok-a.a.any c.in_ok-b.b.any c.in_ok-pair.pair c.in_ok-first.first c.in_ok-two.two c.in_ok-a.a.two
          c.in_ok-b.b.two (p, (q, tt)) pair l2 h2 first c.in_ok-two.ensures.height in
          (subst (λ (j : ℕ). Within n xs (3 * j) c.in_ok-two.two.0) (sym k.1) two, tt);
    }
