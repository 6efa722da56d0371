use Rattle.std.proofs.Common.{inl, inr, ℕ, ◌+◌, ◌*◌, ◌/◌, ◌%◌, ◌^◌, ◌<◌, List, length, slice_index, sym, ap, ◌∙◌, arith, rules}
use Rattle.std.specs.Int.{w64, bit_at, trailing_zeros}
use Rattle.std.proofs.lemmas.List.{get_or_read}
use Rattle.std.proofs.lemmas.Nat.Bits.{bit_at-zero, bit_at-trailing_zeros}
use Rattle.std.proofs.Math.Nat.{min-le_right}
use Rattle.std.proofs.lemmas.Bool.{cases_lt}
use Rattle.safl_sim.proofs.Covering.{bit_none, begun_none, begun_within}
use Rattle.safl_sim.proofs.MarksByOne.{none_in}
use Rattle.safl_sim.proofs.marks.Marks.next.Goals as goal

pub returns-then-left-ne0-clause-none : goal.returns-then-left-ne0-clause-none
returns-then-left-ne0-clause-none c = λ w f l.
    let filled = c.self.inside.filled.items in
    let words = c.self.inside.words.items in
    let from = c.args.from in
    let n = c.index.result.now in
    let x = n / 2 ^ (from % 64) in
    let some : 0 < x = (let a = c.if-left-ne0.true in omega (arith, a)) in
    let fits : n < 2 ^ 64 = search rules in
    let small : x < 2 ^ 64 = omega (arith, fits) in
    let is = get_or_read filled (from / 64) _ (let a = c.self.invariant.0 in let b = ap length c.self.view_is in let d = c.requires.within in let e =
    c.requires.ordered in let z = c.if-from-end.false in omega (arith, a, b, d, e, z)) c.index.ensures 0 in
    let low = bit_at-trailing_zeros w64 x some small in
    let within = begun_within n (from % 64) fits some small in
    let last : w < from + trailing_zeros w64 x = (let a = min-le_right c.args.end (from + trailing_zeros w64 x) in let b = c.min.ensures in omega (arith, a, b, l)) in
    none_in c.args.self.now w (ap (λ (s : List ℕ). slice_index s w) (sym c.self.view_is) ∙ begun_none filled words from n (trailing_zeros w64 x) w
    c.self.invariant (sym is) low.2 f last (omega (arith, f, last, within)))

pub groups-init : goal.groups-init
groups-init c = λ v f l.
    let filled = c.self.inside.filled.items in
    let words = c.self.inside.words.items in
    let from = c.args.from in
    let n = c.index.result.now in
    let is = get_or_read filled (from / 64) _ (let a = c.self.invariant.0 in let b = ap length c.self.view_is in let d = c.requires.within in let e =
    c.requires.ordered in let z = c.if-from-end.false in omega (arith, a, b, d, e, z)) c.index.ensures 0 in
    ap (λ (s : List ℕ). slice_index s v) (sym c.self.view_is)
    ∙ begun_none filled words from n 64 v c.self.invariant (sym is) (λ i h. ap (λ y. bit_at y i) c.if-left-ne0.false ∙ bit_at-zero i) f (omega (arith, l)) (omega (arith, f, l))

pub groups-preserved : goal.groups-preserved
groups-preserved c = λ v f l.
    let filled = c.self.inside.filled.items in
    let words = c.self.inside.words.items in
    let b = c.groups.b in
    let is = get_or_read filled b _ (let a = c.self.invariant.0 in let d = ap length c.self.view_is in let e = c.requires.within in let g =
    c.groups-test.true in let h = c.word_count-b-end.ensures in omega (arith, a, d, e, g, h)) c.index-block.ensures 0 in
    elim (cases_lt v (b * 64)) [
      | inl h ↦ c.groups.invariant v f h
      | inr h ↦ ap (λ (s : List ℕ). slice_index s v) (sym c.self.view_is) ∙ bit_none filled words b v c.self.invariant (omega (arith, h, l))
          (ap (λ y. bit_at y (v % 64)) (sym is ∙ c.if-block-ne0.false) ∙ bit_at-zero (v % 64))
    ]

pub returns-then-block-ne0-clause-none : goal.returns-then-block-ne0-clause-none
returns-then-block-ne0-clause-none c = λ w f l.
    let filled = c.self.inside.filled.items in
    let words = c.self.inside.words.items in
    let b = c.groups.b in
    let n = c.index-block.result.now in
    let fits : n < 2 ^ 64 = search rules in
    let is = get_or_read filled b _ (let a = c.self.invariant.0 in let d = ap length c.self.view_is in let e = c.requires.within in let g =
    c.groups-test.true in let h = c.word_count-b-end.ensures in omega (arith, a, d, e, g, h)) c.index-block.ensures 0 in
    let low = bit_at-trailing_zeros w64 n (let a = c.if-block-ne0.true in omega (arith, a)) fits in
    let under : trailing_zeros w64 n < 64 = low.0 in
    let last : w < b * 64 + trailing_zeros w64 n = (let a = min-le_right c.args.end (b * 64 + trailing_zeros w64 n) in let d = c.min-then-block-ne0.ensures in omega (arith, a, d, l)) in
    none_in c.args.self.now w (elim (cases_lt w (b * 64)) [
      | inl h ↦ c.groups.invariant w f h
      | inr h ↦
          ap (λ (s : List ℕ). slice_index s w) (sym c.self.view_is)
          ∙ bit_none filled words b w c.self.invariant (omega (arith, h, last, under)) (ap (λ y. bit_at y (w % 64)) (sym is) ∙ low.2 (w % 64) (omega (arith, h, last, under)))
    ])

pub returns-clause-none : goal.returns-clause-none
returns-clause-none c = λ w f l. none_in c.args.self.now w
    (c.groups.invariant w f (let a = c.groups-test.false in let b = c.groups.auto.b-end in let d = c.word_count-b-end.ensures in let e =
    c.requires.ordered in let z = c.if-from-end.false in omega (arith, a, b, d, e, l, f, z)))
