use Rattle.safl_probe.proofs.Common.{asked, false≢true, get_or-map, length-map, lower_or_last}
use Rattle.std.proofs.Common.{◌≡◌, ℕ, ◌+◌, ◌<◌, List, get_or, length, false, Option, Some, None, is_some, String, string_bytes, option_map, Global, refl, sym, ap, ◌∙◌, inl, inr, arith}
use Rattle.safl_probe.proofs.Growing.{is_within}
use Rattle.safl_probe.proofs.watch.is_any_asked.Goals as goal

nothing : (o : Option (String Global)) → is_some o ≡ false → option_map string_bytes o ≡ None
nothing None e = refl
nothing (Some x) e = absurd (false≢true (sym e))

none_more : (files : List (Option (String Global))) (i : ℕ) (o : Option (String Global)) → i < length files → o ≡ get_or files i o → is_some o ≡ false
    → ((k : ℕ) → k < i → get_or (asked files) k None ≡ None) → (k : ℕ) → k < i + 1 → get_or (asked files) k None ≡ None
none_more files i o lt is none all k below =
    elim (lower_or_last k i below) [
      | inl lower ↦ all k lower
      | inr e ↦ ap (λ j. get_or (asked files) j None) e ∙ get_or-map (option_map string_bytes) files i o None lt ∙ ap (option_map string_bytes) (sym is) ∙ nothing o none
    ]

pub loop-file-preserved : goal.loop-file-preserved
loop-file-preserved c =
    none_more c.args.files.now c.loop-file.file-index c.file-item.result
    (let a = c.loop-file-test.true in let b = c.loop-file.auto.file-index-end in omega (arith, a, b)) c.file-item.is (sym c.if-is_some.ensures) c.loop-file.invariant

pub returns : goal.returns
returns c = λ e name i k.
    let w = is_within (asked c.args.files.now) i name k in
    let none = c.loop-file.invariant i (let a = c.loop-file-test.false in let b = c.loop-file.auto.file-index-end in let l = length-map
    c.args.files.now (option_map string_bytes) in omega (arith, a, b, l, w)) in
    let f = sym none ∙ k in
    cc
