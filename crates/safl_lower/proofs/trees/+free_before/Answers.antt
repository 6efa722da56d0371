use Rattle.safl_lower.proofs.Common.{IsSource, Sig, Within, on, wired_before}
use Rattle.std.proofs.Common.{◌≡◌, ℕ, suc, ◌-◌, ◌*◌, ◌++◌, List, [], ◌∷◌, map, length, Bool, ◌&&◌, ◌||◌, not, ◌/◌, sym, ap, subst, ◌∙◌, arith}
use Rattle.std.proofs.Common.{append_assoc}
use Rattle.std.proofs.lemmas.List.{length_push, map-append}
use Rattle.safl_lower.specs.Rows.{AreBits, on_any, frees}
use Rattle.safl_lower.proofs.Building.{builds_on, builds_within, source_kept}
use Rattle.safl_lower.proofs.JoinedRows.{whole, low_bits, high_bits, row_kept, bits_push, any_append, frees_append, frees_one}
use Rattle.safl_lower.proofs.Joints.{alone_any}
use Rattle.safl_lower.proofs.Heights.{gate_kept, within_kept, all_kept, halved, within_both, stands_low, stands_high, pushed_within}
use Rattle.safl_lower.proofs.trees.+free_before.Goals as goal

pub free_before-requires : goal.free_before-requires
free_before-requires t c =
    let cut = c.split_at.ensures in
    let low = c.split_at.result.0.now in
    let high = c.split_at.result.1.now in
    let e = whole c.args.bits.now low high (length c.args.bits.now / 2) cut.front cut.back in
    let fl = cut.front_len in
    let some = c.requires.some in
    let many = c.if-bits-eq1.false in
    let r = c.requires.room.room in
    let d = c.decreases in (
      omega (arith, fl, some, many, d),
      (
        omega (arith, fl, some, many),
        (
          low_bits c.args.net.now c.args.bits.now low high e c.requires.bits,
          (c.requires.free, (c.requires.out, record { tidy = c.requires.room.tidy; room = omega (arith, fl, r) })),
        ),
      ),
    )

pub inverse-requires-clause-bit : goal.inverse-requires-clause-bit
inverse-requires-clause-bit t c = c.in_ok-a.ensures.any.fits

pub both-requires-clause-first : goal.both-requires-clause-first
both-requires-clause-first t c = source_kept (builds_on c.in_ok-a.ensures.built c.in_ok-rest.ensures.built) c.requires.free

pub free_before-requires-2 : goal.free_before-requires-2
free_before-requires-2 t c =
    let cut = c.split_at.ensures in
    let low = c.split_at.result.0.now in
    let high = c.split_at.result.1.now in
    let e = whole c.args.bits.now low high (length c.args.bits.now / 2) cut.front cut.back in
    let fl = cut.front_len in
    let bl = cut.back_len in
    let some = c.requires.some in
    let many = c.if-bits-eq1.false in
    let r = c.requires.room.room in
    let d = c.decreases in
    let b = builds_on (builds_on c.in_ok-a.ensures.built c.in_ok-rest.ensures.built) c.in_ok-still.ensures.built in
    let k = b.count in (
      omega (arith, fl, bl, some, many, d),
      (
        omega (arith, fl, bl, some, many),
        (
          row_kept b high (high_bits c.args.net.now c.args.bits.now low high e c.requires.bits),
          (
            c.in_ok-still.ensures.fits,
            (
              row_kept (builds_on c.in_ok-rest.ensures.built c.in_ok-still.ensures.built) c.free_before.new.out.items
                  c.in_ok-a.ensures.frees.fits,
              record { tidy = b.tidy; room = omega (arith, fl, bl, r, k, some, many) },
            ),
          ),
        ),
      ),
    )

pub either-requires-clause-first : goal.either-requires-clause-first
either-requires-clause-first t c =
    let bit : IsSource c.free_before.new.net c.in_ok-a.a 1 = c.in_ok-a.ensures.any.fits in
    source_kept (builds_on (builds_on c.in_ok-rest.ensures.built c.in_ok-still.ensures.built) c.in_ok-b.ensures.built) bit

pub either-requires-clause-second : goal.either-requires-clause-second
either-requires-clause-second t c = c.in_ok-b.ensures.any.fits

pub returns-clause-built : goal.returns-clause-built
returns-clause-built t c =
    let cut = c.split_at.ensures in
    let fl = cut.front_len in
    let bl = cut.back_len in
    let some = c.requires.some in
    let many = c.if-bits-eq1.false in
    builds_within (3 * (length c.args.bits.now - 1)) (builds_on
    (builds_on (builds_on (builds_on c.in_ok-a.ensures.built c.in_ok-rest.ensures.built) c.in_ok-still.ensures.built) c.in_ok-b.ensures.built)
    c.in_ok-any.ensures.built) (omega (arith, fl, bl, some, many))

pub returns-then-bits-eq1-clause-any : goal.returns-then-bits-eq1-clause-any
returns-then-bits-eq1-clause-any t c = alone_any c.args.net.now c.args.bits.now c.requires.bits c.if-bits-eq1.true

pub returns-then-bits-eq1-clause-frees : goal.returns-then-bits-eq1-clause-frees
returns-then-bits-eq1-clause-frees t c = record {
  fits = subst (AreBits c.args.net.now) (sym c.in_ok-push.ensures.items) (bits_push c.args.net.now c.args.out.now.items c.args.free c.requires.out c.requires.free);
  long =
      let p = ap (λ (l : List Sig). length l) c.in_ok-push.ensures.items in
      let q = length_push c.args.out.now.items c.args.free in
      let one = c.if-bits-eq1.true in
      omega (arith, p, q, one);
  shows = λ v w.
      ap (map (on v)) c.in_ok-push.ensures.items ∙ map-append (on v) c.args.out.now.items (c.args.free ∷ [])
      ∙ ap (λ (xs : List Bool). map (on v) c.args.out.now.items ++ xs) (sym (frees_one v (on v c.args.free) c.args.bits.now c.if-bits-eq1.true));
  height = λ xs f h m s q. pushed_within c.args.net.now xs c.args.bits.now c.args.out.now.items c.push.new.self.items c.args.free f h m s q c.in_ok-push.ensures.items;
}

pub returns-clause-any : goal.returns-clause-any
returns-clause-any t c = record {
  fits = c.in_ok-any.ensures.fits;
  shows = λ v w.
      let cut = c.split_at.ensures in
      let low = c.split_at.result.0.now in
      let high = c.split_at.result.1.now in
      let e = whole c.args.bits.now low high (length c.args.bits.now / 2) cut.front cut.back in
      let w4 = wired_before c.in_ok-any.ensures.built.grows w in
      let w3 = wired_before c.in_ok-b.ensures.built.grows w4 in
      let w1 = wired_before c.in_ok-rest.ensures.built.grows (wired_before c.in_ok-still.ensures.built.grows w3) in
      c.in_ok-any.ensures.value v w ∙ ap (λ (x : Bool). x || on v c.in_ok-b.b) (c.in_ok-a.ensures.any.shows v w1) ∙ ap (λ (x : Bool). on_any v low || x) (c.in_ok-b.ensures.any.shows v w4)
      ∙ sym (any_append v low high) ∙ sym (ap (on_any v) e);
  height = λ h few.
      let cut = c.split_at.ensures in
      let xs = c.args.bits.now in
      let low = c.split_at.result.0.now in
      let high = c.split_at.result.1.now in
      let e = whole xs low high (length xs / 2) cut.front cut.back in
      let k = halved xs low high h c.if-bits-eq1.false c.requires.some cut.front_len cut.back_len few in
      let n = c.either.new.net in
      let g = builds_on (builds_on (builds_on c.in_ok-rest.ensures.built c.in_ok-still.ensures.built) c.in_ok-b.ensures.built) c.in_ok-any.ensures.built in
      let p = within_kept g low k.0 c.in_ok-a.a.0 (c.in_ok-a.ensures.any.height k.0 k.2).0 in
      let q = within_kept c.in_ok-any.ensures.built high k.0 c.in_ok-b.b.0 (c.in_ok-b.ensures.any.height k.0 k.3).0 in
      (subst (λ (j : ℕ). Within n xs j c.in_ok-any.any.0) (sym k.1) (within_both n xs low high e k.0 c.in_ok-a.a c.in_ok-b.b c.in_ok-any.any p q c.in_ok-any.ensures.gate), tt);
}

pub returns-clause-frees : goal.returns-clause-frees
returns-clause-frees t c = record {
  fits = row_kept c.in_ok-any.ensures.built c.free_before-2.new.out.items c.in_ok-b.ensures.frees.fits;
  long =
      let cut = c.split_at.ensures in
      let fl = cut.front_len in
      let bl = cut.back_len in
      let a = c.in_ok-a.ensures.frees.long in
      let b = c.in_ok-b.ensures.frees.long in
      omega (arith, fl, bl, a, b);
  shows = λ v w.
      let cut = c.split_at.ensures in
      let low = c.split_at.result.0.now in
      let high = c.split_at.result.1.now in
      let e = whole c.args.bits.now low high (length c.args.bits.now / 2) cut.front cut.back in
      let w4 = wired_before c.in_ok-any.ensures.built.grows w in
      let w3 = wired_before c.in_ok-b.ensures.built.grows w4 in
      let w2 = wired_before c.in_ok-still.ensures.built.grows w3 in
      let w1 = wired_before c.in_ok-rest.ensures.built.grows w2 in
      let still : on v c.in_ok-still.still ≡ (on v c.args.free && not (on_any v low)) =
      c.in_ok-still.ensures.value v w3 ∙ ap (λ (x : Bool). on v c.args.free && x) (c.in_ok-rest.ensures.value v w2 ∙ ap not (c.in_ok-a.ensures.any.shows v w1)) in
      c.in_ok-b.ensures.frees.shows v w4
      ∙ ap (λ (xs : List Bool). xs ++ frees v (on v c.in_ok-still.still) high) (c.in_ok-a.ensures.frees.shows v w1)
      ∙ ap (λ (x : Bool). (map (on v) c.args.out.now.items ++ frees v (on v c.args.free) low) ++ frees v x high) still
      ∙ append_assoc (map (on v) c.args.out.now.items) (frees v (on v c.args.free) low) (frees v (on v c.args.free && not (on_any v low)) high)
      ∙ ap (λ (xs : List Bool). map (on v) c.args.out.now.items ++ xs) (sym (frees_append v (on v c.args.free) low high) ∙ sym (ap (frees v (on v c.args.free)) e));
  height = λ xs f h m s q.
      let cut = c.split_at.ensures in
      let row = c.args.bits.now in
      let low = c.split_at.result.0.now in
      let high = c.split_at.result.1.now in
      let e = whole row low high (length row / 2) cut.front cut.back in
      let k = halved row low high h c.if-bits-eq1.false c.requires.some cut.front_len cut.back_len s.few in
      let n0 = c.args.net.now in
      let n3 = c.both.new.net in
      let g2 = builds_on c.in_ok-rest.ensures.built c.in_ok-still.ensures.built in
      let g3 = builds_on c.in_ok-a.ensures.built g2 in
      let first = c.in_ok-a.ensures.frees.height xs f k.0 m (stands_low n0 xs row low high c.args.free f h k.0 m e k.1 k.2 s) q in
      let any = within_kept g2 low k.0 c.in_ok-a.a.0 (c.in_ok-a.ensures.any.height k.0 k.2).0 in
      let rest = gate_kept c.in_ok-still.ensures.built c.in_ok-rest.rest (c.in_ok-a.a ∷ []) c.in_ok-rest.ensures.gate in
      let later = stands_high n0 n3 _ xs row low high c.args.free c.in_ok-a.a c.in_ok-rest.rest c.in_ok-still.still f h k.0 m g3 e k.1 k.3 s any rest c.in_ok-still.ensures.gate in
      let second = c.in_ok-b.ensures.frees.height xs (suc f) k.0 m later (all_kept g2 xs m c.free_before.new.out.items first) in
      all_kept c.in_ok-any.ensures.built xs m c.free_before-2.new.out.items second;
}
