use Rattle.std.proofs.Common.{◌+◌, ◌-◌, ◌∷◌, List, ℕ, take, drop, refl, subst}
use lib.Pointwise.{pointwise}
use lib.Dec.{eqb}
use Rattle.safl_aiger.specs.Lines.{text_lines}
use Rattle.safl_aiger.specs.Symbols.{named, IsRefused}
use Rattle.safl_aiger.proofs.Naming.{Underway, underway_start, underway_step, underway_fails}
use Rattle.safl_aiger.proofs.Parsing.{not_end}
use Rattle.safl_aiger.proofs.symbols.read_symbols.Goals as goal

pub loop-place-init : goal.loop-place-init
loop-place-init c = underway_start (text_lines (drop c.args.at c.args.text.now)) c.args.before (named c.args.names.now) c.requires.small

pub returns-in-Err-Refused-clause-err : goal.returns-in-Err-Refused-clause-err
returns-in-Err-Refused-clause-err c =
    let text = c.args.text.now in
    let ls = text_lines (drop c.args.at text) in
    let old = named c.args.names.now in
    let mid = named c.loop-place.names in
    let place = c.loop-place.place in
    let end = c.line_end-end.result in
    let line = take (end - place) (drop place text) in
    let left = text_lines (drop (end + 1) text) in
    let u : Underway ls c.args.before old mid (line ∷ left) c.loop-place.count = subst
    (λ (x : List (List ℕ)). Underway ls c.args.before old mid x c.loop-place.count) c.line_end-end.ensures.line c.loop-place.invariant in
    let r = subst (λ e. IsRefused line mid e) c.in-Err-Refused.field-0-is c.in-Err-Refused.ensures.err in
    underway_fails ls c.args.before old mid line left c.loop-place.count u (not_end (pointwise eqb) line c.as_slice.result.now refl c.if-eq.ensures c.as_slice.ensures) r

pub loop-place-preserved : goal.loop-place-preserved
loop-place-preserved c =
    let text = c.args.text.now in
    let ls = text_lines (drop c.args.at text) in
    let old = named c.args.names.now in
    let mid = named c.loop-place.names in
    let place = c.loop-place.place in
    let end = c.line_end-end.result in
    let line = take (end - place) (drop place text) in
    let left = text_lines (drop (end + 1) text) in
    let u : Underway ls c.args.before old mid (line ∷ left) c.loop-place.count = subst
    (λ (x : List (List ℕ)). Underway ls c.args.before old mid x c.loop-place.count) c.line_end-end.ensures.line c.loop-place.invariant in
    underway_step ls c.args.before old mid (named c.name_place.new.names) line left c.loop-place.count u c.in-Ok.ensures.ok
