use Rattle.safl_unit.proofs.Common.{codes, of_site, open_register}
use Rattle.std.proofs.Common.{◌≡◌, [], ◌∷◌, true, ◌∙◌}
use Rattle.safl_unit.proofs.layout.Adding.{named_so, may_now, may_step, may_site, lines_if}
use Rattle.safl_unit.proofs.declare.add_site.Goals as goal

pub add_register-requires-clause-free : goal.add_register-requires-clause-free
add_register-requires-clause-free c =
    let C = c.args.p.now.program in
    let D = c.args.p.now.names in
    let P = c.args.p.now.choice in
    let k = c.args.k in
    let all = may_site C D P c.args.net.now k c.requires.least c.requires.free in
    let sent : c.as_str.result.now ≡ of_site (codes "sent$") k = c.as_str.ensures.value ∙ c.in_ok-numbered.ensures in
    named_so c.args.net.now c.as_str.result.now (of_site (codes "sent$") k) sent (may_now c.args.net.now (open_register (of_site (codes "sent$") k, 1)) _ all)

pub add_register-requires-2-clause-free : goal.add_register-requires-2-clause-free
add_register-requires-2-clause-free c =
    let C = c.args.p.now.program in
    let D = c.args.p.now.names in
    let P = c.args.p.now.choice in
    let k = c.args.k in
    let all = may_site C D P c.args.net.now k c.requires.least c.requires.free in
    let sent : c.as_str.result.now ≡ of_site (codes "sent$") k = c.as_str.ensures.value ∙ c.in_ok-numbered.ensures in
    let got : c.as_str-2.result.now ≡ of_site (codes "got$") k = c.as_str-2.ensures.value ∙ c.in_ok-numbered-2.ensures in
    let two = may_step c.args.net.now c.add_register.new.net open_register c.as_str.result.now (of_site (codes "sent$") k) 1 _ sent all c.in_ok-sent.ensures.added in
    named_so c.add_register.new.net c.as_str-2.result.now (of_site (codes "got$") k) got (may_now c.add_register.new.net (open_register (of_site (codes "got$") k, 1)) _ two)

pub add_register-requires-3-clause-free : goal.add_register-requires-3-clause-free
add_register-requires-3-clause-free c =
    let C = c.args.p.now.program in
    let D = c.args.p.now.names in
    let P = c.args.p.now.choice in
    let k = c.args.k in
    let all = may_site C D P c.args.net.now k c.requires.least c.requires.free in
    let sent : c.as_str.result.now ≡ of_site (codes "sent$") k = c.as_str.ensures.value ∙ c.in_ok-numbered.ensures in
    let got : c.as_str-2.result.now ≡ of_site (codes "got$") k = c.as_str-2.ensures.value ∙ c.in_ok-numbered-2.ensures in
    let two = may_step c.args.net.now c.add_register.new.net open_register c.as_str.result.now (of_site (codes "sent$") k) 1 _ sent all c.in_ok-sent.ensures.added in
    let keep : c.as_str-3.result.now ≡ of_site (codes "keep$") k = c.as_str-3.ensures.value ∙ c.in_ok-numbered-3.ensures in
    let three = may_step c.add_register.new.net c.add_register-2.new.net open_register c.as_str-2.result.now (of_site (codes "got$") k) 1 _ got two c.in_ok-got.ensures.added in
    let kept : P.kept k ≡ true = cc in
    named_so c.add_register-2.new.net c.as_str-3.result.now (of_site (codes "keep$") k) keep
    (may_now c.add_register-2.new.net (open_register (of_site (codes "keep$") k, C.result (C.callee k))) []
    (lines_if open_register c.add_register-2.new.net (P.kept k) ((of_site (codes "keep$") k, C.result (C.callee k)) ∷ []) kept three))
