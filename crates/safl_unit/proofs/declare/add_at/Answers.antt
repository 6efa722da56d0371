use Rattle.safl_unit.proofs.Common.{Line, codes, many, of_function, open_register}
use Rattle.std.proofs.Common.{◌≡◌, ◌++◌, [], ◌∷◌, List, ℕ, true, ap, ◌∙◌}
use Rattle.safl_unit.proofs.layout.Declaring.{name_text}
use Rattle.safl_unit.proofs.layout.Adding.{named_so, may_now, lines_if}
use Rattle.safl_unit.proofs.declare.add_at.Goals as goal

pub headed-requires : goal.headed-requires
headed-requires c = name_text c.args.c.now c.args.f _ c.name.ensures

pub add_register-requires-clause-free : goal.add_register-requires-clause-free
add_register-requires-clause-free c =
    let peers : many c.args.c.now.program c.args.f ≡ true = cc in
    let line : Line = (of_function c.args.c.now.names (codes "at$") c.args.f, 1) in
    named_so c.args.net.now c.as_str.result.now (of_function c.args.c.now.names (codes "at$") c.args.f)
    (c.as_str.ensures.value ∙ c.in_ok-name.ensures ∙ ap (λ (z : List ℕ). codes "at$" ++ z) c.name.ensures)
    (may_now c.args.net.now (open_register line) [] (lines_if open_register c.args.net.now (many c.args.c.now.program c.args.f) (line ∷ []) peers c.requires.free))
