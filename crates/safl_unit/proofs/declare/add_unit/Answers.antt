use Rattle.safl_unit.proofs.Common.{codes, of_function, open_register}
use Rattle.std.proofs.Common.{◌≡◌, ◌++◌, List, ℕ, true, ap, ◌∙◌, arith}
use Rattle.safl_unit.proofs.layout.Adding.{named_so, may_now, may_step, may_unit}
use Rattle.safl_unit.proofs.layout.Declaring.{name_text}
use Rattle.safl_unit.proofs.declare.add_unit.Goals as goal

pub headed-requires : goal.headed-requires
headed-requires c = name_text c.args.c.now c.args.f _ c.name-name.ensures

pub headed-requires-2 : goal.headed-requires-2
headed-requires-2 c = name_text c.args.c.now c.args.f _ c.name-name.ensures

pub headed-requires-3 : goal.headed-requires-3
headed-requires-3 c = name_text c.args.c.now c.args.f _ c.name-name.ensures

pub add_register-requires-clause-free : goal.add_register-requires-clause-free
add_register-requires-clause-free c =
    let C = c.args.c.now.program in
    let D = c.args.c.now.names in
    let f = c.args.f in
    let first : C.unit f ≡ f = omega (arith, c.unit-unit.ensures.number, c.if-unit-f.false) in
    let all = may_unit C D (record { arbiter = λ u. true; kept = λ k. true }) c.args.net.now f first c.requires.free in
    let run : c.as_str.result.now ≡ of_function D (codes "run$") f = c.as_str.ensures.value ∙ c.in_ok-headed.ensures ∙ ap (λ (z : List ℕ). codes "run$" ++ z) c.name-name.ensures in
    named_so c.args.net.now c.as_str.result.now (of_function D (codes "run$") f) run (may_now c.args.net.now (open_register (of_function D (codes "run$") f, 1)) _ all)

pub add_register-requires-2-clause-free : goal.add_register-requires-2-clause-free
add_register-requires-2-clause-free c =
    let C = c.args.c.now.program in
    let D = c.args.c.now.names in
    let f = c.args.f in
    let first : C.unit f ≡ f = omega (arith, c.unit-unit.ensures.number, c.if-unit-f.false) in
    let all = may_unit C D (record { arbiter = λ u. true; kept = λ k. true }) c.args.net.now f first c.requires.free in
    let run : c.as_str.result.now ≡ of_function D (codes "run$") f = c.as_str.ensures.value ∙ c.in_ok-headed.ensures ∙ ap (λ (z : List ℕ). codes "run$" ++ z) c.name-name.ensures in
    let fin : c.as_str-2.result.now ≡ of_function D (codes "fin$") f = c.as_str-2.ensures.value ∙ c.in_ok-headed-2.ensures ∙ ap (λ (z : List ℕ). codes "fin$" ++ z) c.name-name.ensures in
    let two = may_step c.args.net.now c.add_register.new.net open_register c.as_str.result.now (of_function D (codes "run$") f) 1 _ run all c.in_ok-run.ensures.added in
    named_so c.add_register.new.net c.as_str-2.result.now (of_function D (codes "fin$") f) fin (may_now c.add_register.new.net (open_register (of_function D (codes "fin$") f, 1)) _ two)

pub add_register-requires-3-clause-free : goal.add_register-requires-3-clause-free
add_register-requires-3-clause-free c =
    let C = c.args.c.now.program in
    let D = c.args.c.now.names in
    let f = c.args.f in
    let first : C.unit f ≡ f = omega (arith, c.unit-unit.ensures.number, c.if-unit-f.false) in
    let all = may_unit C D (record { arbiter = λ u. true; kept = λ k. true }) c.args.net.now f first c.requires.free in
    let run : c.as_str.result.now ≡ of_function D (codes "run$") f = c.as_str.ensures.value ∙ c.in_ok-headed.ensures ∙ ap (λ (z : List ℕ). codes "run$" ++ z) c.name-name.ensures in
    let fin : c.as_str-2.result.now ≡ of_function D (codes "fin$") f = c.as_str-2.ensures.value ∙ c.in_ok-headed-2.ensures ∙ ap (λ (z : List ℕ). codes "fin$" ++ z) c.name-name.ensures in
    let two = may_step c.args.net.now c.add_register.new.net open_register c.as_str.result.now (of_function D (codes "run$") f) 1 _ run all c.in_ok-run.ensures.added in
    let res : c.as_str-3.result.now ≡ of_function D (codes "res$") f = c.as_str-3.ensures.value ∙ c.in_ok-headed-3.ensures ∙ ap (λ (z : List ℕ). codes "res$" ++ z) c.name-name.ensures in
    let three = may_step c.add_register.new.net c.add_register-2.new.net open_register c.as_str-2.result.now (of_function D (codes "fin$") f) 1 _ fin two c.in_ok-fin.ensures.added in
    named_so c.add_register-2.new.net c.as_str-3.result.now (of_function D (codes "res$") f) res (may_now c.add_register-2.new.net (open_register (of_function D (codes "res$") f, C.result f)) _ three)
