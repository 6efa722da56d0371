use Rattle.std.proofs.Common.{◌-◌, length, take, drop, refl, arith}
use Rattle.std.proofs.lemmas.List.{take_rest}
use Rattle.safl_aiger.proofs.Parsing.{symbol_is, no_name, no_place}
use Rattle.safl_aiger.proofs.symbols.read_symbol.Goals as goal

pub returns-then-end-rest-clause-none : goal.returns-then-end-rest-clause-none
returns-then-end-rest-clause-none c = λ _.
    let line = c.args.line.now in
    let rest = take (length line - 1) (drop 1 line) in
    let e = c.space-end.ensures in
    no_name line rest c.space-end.result (take_rest line 1) e.within e.some e.none c.if-end-rest.true

pub returns-in_err-place-clause-none : goal.returns-in_err-place-clause-none
returns-in_err-place-clause-none c = λ _.
    let line = c.args.line.now in
    let rest = take (length line - 1) (drop 1 line) in
    let e = c.space-end.ensures in
    let none = c.in_err-place.ensures.none in
    no_place line rest c.space-end.result (take_rest line 1) e.within e.some e.none (none refl)

pub returns-clause-some : goal.returns-clause-some
returns-clause-some c =
    let line = c.args.line.now in
    let rest = take (length line - 1) (drop 1 line) in
    let end = c.space-end.result in
    let e = c.space-end.ensures in
    let long = c.if-end-rest.false in
    let f = e.some (omega (arith, long)) in
    let p = c.in_ok-place.ensures.some in
    symbol_is line rest end c.in_ok-place.place c.in_ok-sort.sort (take_rest line 1) c.in_ok-sort.ensures.some long f p.0 p.1
