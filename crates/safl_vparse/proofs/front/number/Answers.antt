use Rattle.safl_vparse.proofs.Common.{IsRun, is_digit, slice_rest}
use Rattle.std.proofs.Common.{◌≡◌, ◌∙◌, ◌≤◌, ◌-◌, ap, sym, subst, take, drop, length, List, ℕ, Some, None}
use Rattle.safl_verilog.specs.Tokens.{next_base}
use Rattle.safl_vparse.proofs.Fronts.{sized_found, number_found, base_long}
use Rattle.safl_vparse.proofs.front.number.Goals as goal

pub returns-in-Some : goal.returns-in-Some
returns-in-Some c =
    let text = c.args.text.now in
    let n = c.digits_length-n.result in
    let behind = slice_rest text n c.digits_length-n.ensures.within in
    let e : next_base (drop n text) ≡ Some c.in-Some.base = ap next_base (sym behind) ∙ sym c.next_base.ensures ∙ c.in-Some.is in
    let long : 2 ≤ length (drop n text) = base_long (drop n text) c.in-Some.base e in
    let r = subst (λ (l : List ℕ). IsRun (is_digit c.in-Some.base) (take (length l - 2) (drop 2 l)) c.digits_length-count.result) behind c.digits_length-count.ensures in
    let k = subst (λ (l : List ℕ). IsRun (is_digit c.in-Some.base) l c.digits_length-count.result) (slice_rest (drop n text) 2 long) r in
    sym (sized_found text n c.in-Some.base c.digits_length-count.result c.digits_length-n.ensures e k)

pub returns-in-None : goal.returns-in-None
returns-in-None c =
    let text = c.args.text.now in
    let n = c.digits_length-n.result in
    let behind = slice_rest text n c.digits_length-n.ensures.within in
    let e : next_base (drop n text) ≡ None = ap next_base (sym behind) ∙ sym c.next_base.ensures ∙ c.in-None.is in
    sym (number_found text n c.digits_length-n.ensures e)
