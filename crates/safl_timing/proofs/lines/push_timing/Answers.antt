use Rattle.std.proofs.Common.{List, ℕ, ◌++◌, codes, ap, ◌∙◌}
use Rattle.safl_timing.specs.Lines.{figure, yes_or_no}
use Rattle.safl_timing.proofs.Joined.{more}
use Rattle.safl_timing.proofs.lines.push_timing.Goals as goal

pub returns : goal.returns
returns c =
    let old = c.args.text.now.items in
    let f = c.args.f in
    let a : List ℕ = figure (codes "result ") f.word.bits in
    let b : List ℕ = figure (codes "calls ") f.calls in
    let d : List ℕ = figure (codes "tail calls ") f.loops in
    let e : List ℕ = figure (codes "span ") f.span in
    let g : List ℕ = figure (codes "latest ") f.latest in
    let h : List ℕ = codes "exact " in
    let i : List ℕ = yes_or_no f.exact in
    let one = c.in_ok-push_figure.ensures ∙ ap (λ k. old ++ figure (codes "result ") k) c.bits.ensures.value in
    let two = more old a b _ _ one (c.in_ok-push_figure-2.ensures ∙ ap (λ k. c.push_figure.new.text.items ++ figure (codes "calls ") k) c.from.ensures) in
    let three = more old (a ++ b) d _ _ two (c.in_ok-push_figure-3.ensures ∙ ap (λ k. c.push_figure-2.new.text.items ++ figure (codes "tail calls ") k) c.from-2.ensures) in
    let four = more old (a ++ b ++ d) e _ _ three (c.in_ok-push_figure-4.ensures ∙ ap (λ k. c.push_figure-3.new.text.items ++ figure (codes "span ") k) c.from-3.ensures) in
    let five = more old (a ++ b ++ d ++ e) g _ _ four (c.in_ok-push_figure-5.ensures ∙ ap (λ k. c.push_figure-4.new.text.items ++ figure (codes "latest ") k) c.from-4.ensures) in
    let six = more old (a ++ b ++ d ++ e ++ g) h _ _ five c.in_ok-extend_from_slice.ensures.items in
    let seven = more old (a ++ b ++ d ++ e ++ g ++ h) i _ _ six (c.in_ok-extend_from_slice-2.ensures.items ∙ ap (λ l. c.extend_from_slice.new.self.items ++ l) c.yes_or_no.ensures) in
    more old (a ++ b ++ d ++ e ++ g ++ h ++ i) (codes "\n") _ _ seven c.in_ok-extend_from_slice-3.ensures.items
