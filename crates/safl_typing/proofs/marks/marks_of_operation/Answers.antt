use Rattle.std.proofs.Common.{◌≡◌, ◌∙◌, Bool, sym, arith}
use Rattle.std.specs.Prelude.{◌&&◌}
use Rattle.std.proofs.lemmas.Bool.{and_left}
use Rattle.safl_typing.specs.Rewriting.{shape, takes_width, all_flexible}
use Rattle.safl_typing.specs.Plain.{shown_expressions}
use Rattle.safl_typing.proofs.ListsByOne.{and_true}
use Rattle.safl_typing.proofs.marks.marks_of_operation.Goals as goal
use Rattle.safl_typing.proofs.marks.marks_of_operation.Goals.{then-has_operands_width, else-has_operands_width}

pub returns : goal.returns
returns c = λ k p h. record {
  width =
      let same = sym c.has_operands_width.ensures in
      let a : Bool = takes_width (shape c.args.operator) in
      let b : Bool = all_flexible (shown_expressions c.args.operands.now) in
      elim c.if-has_operands_width.branch as (λ z. c.if-has_operands_width.flexible ≡ (takes_width (shape c.args.operator) && all_flexible (shown_expressions c.args.operands.now))) [
        | then-has_operands_width w ↦ w.flexible-is ∙ w.are_flexible-flexible.ensures k h ∙ sym (and_true a b (same ∙ w.if-has_operands_width.true))
        | else-has_operands_width w ↦ w.flexible-is ∙ w.if-has_operands_width.false ∙ sym (and_left a b (same ∙ w.if-has_operands_width.false))
      ];
  counted = let n = c.add_all_sites-sites.ensures k h in omega (arith, n);
}
