use Rattle.safl_lower.proofs.Common.{AreSources, Load, Sig, Word, gate, on, option_or, taken, wired_before, words}
use Rattle.std.proofs.Common.{◌≡◌, ℕ, ◌++◌, List, ◌∷◌, drop, length, slice_index_or, Option, Some}
use Rattle.std.proofs.Common.{◌/◌, sym, ap, subst, ◌∙◌, arith}
use Rattle.safl_lower.specs.Rows.{first_taken, row_gates}
use Rattle.safl_lower.proofs.Building.{builds_on, builds_within}
use Rattle.safl_lower.proofs.Cells.{sources_length}
use Rattle.safl_lower.proofs.KnownLoads.{load_kept}
use Rattle.safl_lower.proofs.JoinedRows.{whole, low_fit, high_fit, gates_of, fit_kept, taken_append}
use Rattle.safl_lower.proofs.JoinedRows.{alone}
use Rattle.safl_lower.specs.Heights.{AllWithin, own_parts, parts}
use Rattle.safl_lower.proofs.Heights.{all_kept, halved, all_join, all_over, parts_low, parts_high, alone_parts}
use Rattle.safl_lower.proofs.trees.+first_of.Goals as goal

pub first_of-requires : goal.first_of-requires
first_of-requires t c =
    let cut = c.split_at.ensures in
    let low = c.split_at.result.0.now in
    let high = c.split_at.result.1.now in
    let e = whole c.args.loads.now low high (length c.args.loads.now / 2) cut.front cut.back in
    let fl = cut.front_len in
    let bl = cut.back_len in
    let some = c.requires.some in
    let many = c.if-loads-eq1.false in
    let r = c.requires.room.room in
    let d = c.decreases in
    let f = c.requires.fits in
    let g = gates_of c.args.net.now c.args.loads.now low high e f.0 f.1 (omega (arith, fl, some, many)) (omega (arith, fl, bl, some, many)) in (
      omega (arith, fl, some, many, d),
      (
        omega (arith, fl, some, many),
        ((f.0, low_fit c.args.net.now c.args.loads.now low high e f.0 f.1), record { tidy = c.requires.room.tidy; room = omega (arith, g, r) }),
      ),
    )

pub first_of-requires-2 : goal.first_of-requires-2
first_of-requires-2 t c =
    let cut = c.split_at.ensures in
    let low = c.split_at.result.0.now in
    let high = c.split_at.result.1.now in
    let e = whole c.args.loads.now low high (length c.args.loads.now / 2) cut.front cut.back in
    let fl = cut.front_len in
    let bl = cut.back_len in
    let some = c.requires.some in
    let many = c.if-loads-eq1.false in
    let r = c.requires.room.room in
    let d = c.decreases in
    let f = c.requires.fits in
    let b = c.in_ok-a.ensures.built in
    let k = b.count in
    let g = gates_of c.args.net.now c.args.loads.now low high e f.0 f.1 (omega (arith, fl, some, many)) (omega (arith, fl, bl, some, many)) in (
      omega (arith, fl, bl, some, many, d),
      (
        omega (arith, fl, bl, some, many),
        ((f.0, fit_kept b high f.0 (high_fit c.args.net.now c.args.loads.now low high e f.0 f.1)), record { tidy = b.tidy; room = omega (arith, g, r, k) }),
      ),
    )

pub joined-requires-clause-fits : goal.joined-requires-clause-fits
joined-requires-clause-fits t c =
    let cut = c.split_at.ensures in
    let low = c.split_at.result.0.now in
    let high = c.split_at.result.1.now in
    let e = whole c.args.loads.now low high (length c.args.loads.now / 2) cut.front cut.back in
    let f = c.requires.fits in
    let a = c.in_ok-a.ensures.fits f.0 (low_fit c.args.net.now c.args.loads.now low high e f.0 f.1) in
    let b = c.in_ok-b.ensures.fits f.0 (fit_kept c.in_ok-a.ensures.built high f.0 (high_fit c.args.net.now c.args.loads.now low high e f.0 f.1)) in
    (f.0, load_kept c.in_ok-b.ensures.built a, subst (λ (xs : List Sig). AreSources c.first_of-2.new.net xs f.0) (sym c.deref-2.ensures.value) b.words)

pub joined-requires-clause-bit : goal.joined-requires-clause-bit
joined-requires-clause-bit t c =
    let cut = c.split_at.ensures in
    let low = c.split_at.result.0.now in
    let high = c.split_at.result.1.now in
    let e = whole c.args.loads.now low high (length c.args.loads.now / 2) cut.front cut.back in
    let f = c.requires.fits in
    (c.in_ok-b.ensures.fits f.0 (fit_kept c.in_ok-a.ensures.built high f.0 (high_fit c.args.net.now c.args.loads.now low high e f.0 f.1))).bit

pub joined-requires-clause-room : goal.joined-requires-clause-room
joined-requires-clause-room t c =
    let cut = c.split_at.ensures in
    let low = c.split_at.result.0.now in
    let high = c.split_at.result.1.now in
    let e = whole c.args.loads.now low high (length c.args.loads.now / 2) cut.front cut.back in
    let fl = cut.front_len in
    let bl = cut.back_len in
    let some = c.requires.some in
    let many = c.if-loads-eq1.false in
    let r = c.requires.room.room in
    let f = c.requires.fits in
    let g = gates_of c.args.net.now c.args.loads.now low high e f.0 f.1 (omega (arith, fl, some, many)) (omega (arith, fl, bl, some, many)) in
    let b = c.in_ok-b.ensures.fits f.0 (fit_kept c.in_ok-a.ensures.built high f.0 (high_fit c.args.net.now c.args.loads.now low high e f.0 f.1)) in
    let s = sources_length c.first_of-2.new.net c.in_ok-b.b.words.items f.0 b.words in
    let v = ap (λ (xs : List Sig). length xs) c.deref-2.ensures.value in
    let j = c.in_ok-a.ensures.built.count in
    let k = c.in_ok-b.ensures.built.count in
    record { tidy = c.in_ok-b.ensures.built.tidy; room = omega (arith, g, r, s, v, j, k) }

pub returns-clause-built : goal.returns-clause-built
returns-clause-built t c =
    let cut = c.split_at.ensures in
    let low = c.split_at.result.0.now in
    let high = c.split_at.result.1.now in
    let e = whole c.args.loads.now low high (length c.args.loads.now / 2) cut.front cut.back in
    let fl = cut.front_len in
    let bl = cut.back_len in
    let some = c.requires.some in
    let many = c.if-loads-eq1.false in
    let f = c.requires.fits in
    let g = gates_of c.args.net.now c.args.loads.now low high e f.0 f.1 (omega (arith, fl, some, many)) (omega (arith, fl, bl, some, many)) in
    let b = c.in_ok-b.ensures.fits f.0 (fit_kept c.in_ok-a.ensures.built high f.0 (high_fit c.args.net.now c.args.loads.now low high e f.0 f.1)) in
    let s = sources_length c.first_of-2.new.net c.in_ok-b.b.words.items f.0 b.words in
    let v = ap (λ (xs : List Sig). length xs) c.deref-2.ensures.value in
    builds_within (row_gates (drop 1 c.args.loads.now)) (builds_on (builds_on c.in_ok-a.ensures.built c.in_ok-b.ensures.built) c.in_ok-all.ensures.built) (omega (arith, g, s, v))

pub returns-clause-fits : goal.returns-clause-fits
returns-clause-fits t c = λ ws h.
    let cut = c.split_at.ensures in
    let low = c.split_at.result.0.now in
    let high = c.split_at.result.1.now in
    let e = whole c.args.loads.now low high (length c.args.loads.now / 2) cut.front cut.back in
    let a = c.in_ok-a.ensures.fits ws (low_fit c.args.net.now c.args.loads.now low high e ws h) in
    let b = c.in_ok-b.ensures.fits ws (fit_kept c.in_ok-a.ensures.built high ws (high_fit c.args.net.now c.args.loads.now low high e ws h)) in
    c.in_ok-all.ensures.fits ws (load_kept c.in_ok-b.ensures.built a) (subst (λ (xs : List Sig). AreSources c.first_of-2.new.net xs ws) (sym c.deref-2.ensures.value) b.words)

pub returns-clause-shows : goal.returns-clause-shows
returns-clause-shows t c = λ v w.
    let cut = c.split_at.ensures in
    let low = c.split_at.result.0.now in
    let high = c.split_at.result.1.now in
    let e = whole c.args.loads.now low high (length c.args.loads.now / 2) cut.front cut.back in
    let w2 = wired_before c.in_ok-all.ensures.built.grows w in
    let w1 = wired_before c.in_ok-b.ensures.built.grows w2 in
    c.in_ok-all.ensures.shows v w ∙ ap (λ (xs : List Sig). option_or (taken v c.in_ok-a.a) (gate (on v c.in_ok-b.b.bit) (Some (words v xs)))) c.deref-2.ensures.value
    ∙ ap (λ (x : Option (List Word)). option_or x (taken v c.in_ok-b.b)) (c.in_ok-a.ensures.shows v w1) ∙ ap (option_or (first_taken v low)) (c.in_ok-b.ensures.shows v w2)
    ∙ sym (taken_append v low high) ∙ sym (ap (first_taken v) e)

pub returns-then-loads-eq1-clause-height : goal.returns-then-loads-eq1-clause-height
returns-then-loads-eq1-clause-height t c = λ h few.
    let n = c.args.net.now in
    let ls = c.args.loads.now in
    let l = c.index-loads-0.result in
    let e = alone ls l l c.if-loads-eq1.true c.index-loads-0.is in
    let words = c.in_ok-words.ensures.items ∙ c.deref.ensures.value ∙ sym (ap (λ (x : Load). x.words.items) c.index-loads-0.is) in
    let other = c.index-loads-0-then-loads-eq1.result in
    let bit : (slice_index_or ls 0 other).bit ≡ l.bit = ap (λ (k : List Load). (slice_index_or k 0 other).bit) e in
    subst (λ (s : Sig). AllWithin n (parts ls) h (s ∷ c.in_ok-words.words.items)) (sym bit) (subst (λ (ws : List Sig). AllWithin n (parts ls) h (l.bit ∷ ws)) (sym words) (alone_parts n ls l h e))

pub returns-clause-height : goal.returns-clause-height
returns-clause-height t c = λ h few.
    let cut = c.split_at.ensures in
    let xs = c.args.loads.now in
    let low = c.split_at.result.0.now in
    let high = c.split_at.result.1.now in
    let e = whole xs low high (length xs / 2) cut.front cut.back in
    let k = halved xs low high h c.if-loads-eq1.false c.requires.some cut.front_len cut.back_len few in
    let a = c.in_ok-a.a in
    let b = c.in_ok-b.b in
    let n2 = c.first_of-2.new.net in
    let n3 = c.joined.new.net in
    let pa = parts_low n2 xs low high e k.0 (own_parts a) (all_kept c.in_ok-b.ensures.built (parts low) k.0 (own_parts a) (c.in_ok-a.ensures.height k.0 k.2)) in
    let pb = parts_high n2 xs low high e k.0 (own_parts b) (c.in_ok-b.ensures.height k.0 k.3) in
    let ops = subst (λ (ws : List Sig). AllWithin n2 (parts xs) k.0 (b.bit ∷ ws)) (sym c.deref-2.ensures.value) pb in
    let base = all_kept c.in_ok-all.ensures.built (parts xs) k.0 (own_parts a ++ (b.bit ∷ c.deref-2.result.now)) (all_join n2 (parts xs) k.0 (own_parts a) (b.bit ∷ c.deref-2.result.now) pa ops) in
    subst (λ (j : ℕ). AllWithin n3 (parts xs) j (own_parts c.in_ok-all.all)) (sym k.1)
    (all_over n3 (parts xs) k.0 (own_parts a ++ (b.bit ∷ c.deref-2.result.now)) (own_parts c.in_ok-all.all) base c.in_ok-all.ensures.height)
