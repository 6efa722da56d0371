use Rattle.safl_aiger.proofs.Common.{Name, nat_tests}
use Rattle.std.proofs.Common.{◌≡◌, length, vec_len, ap, sym, ◌∙◌, arith}
use Rattle.std.proofs.lemmas.List.{nil_from_length}
use Rattle.safl_aiger.proofs.Naming.{sets_name}
use Rattle.safl_aiger.proofs.symbols.set_name.Goals as goal

pub returns-clause-ok : goal.returns-clause-ok
returns-clause-ok c =
    let x : Name = record { bytes = c.in-Ok.bytes } in
    let old = c.index.result.now in
    let d = c.if-not-is_empty.ensures in
    let none : vec_len old.bytes ≡ 0 = grind (arith, nat_tests) in
    let empty : length old.bytes.items ≡ 0 = omega (arith, none, old.bytes.ok.0) in
    let free = ap (λ (n : Name). n.bytes.items) (sym c.index.ensures) ∙ nil_from_length old.bytes.items empty in
    sets_name c.args.list.now.items c.args.place x old c.args.name.now (omega (arith, c.if-place-len.false, c.len.ensures)) free c.requires c.in-Ok.ensures.items
