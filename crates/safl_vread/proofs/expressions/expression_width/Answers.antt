use Rattle.safl_vread.proofs.Common.{Op, length-map, op_width, slice_index}
use Rattle.std.proofs.Common.{ap, sym, ◌∙◌, List, ℕ, map, unwrap_or, Option, arith}
use Rattle.safl_verilog.specs.Files.{Spot, Declaration}
use Rattle.safl_verilog.specs.Faults.{operation, operands}
use Rattle.safl_vparse.specs.Shown.{shown_declaration, shown_declarations, shown_expression}
use Rattle.safl_vread.specs.Drivers.{places_of}
use Rattle.safl_vread.proofs.StatementsDrive.{at_within, same_widths, widths_small}
use Rattle.safl_vread.proofs.expressions.expression_width.Goals as goal

pub width_of-requires : goal.width_of-requires
width_of-requires c = λ k d l. omega (
  arith,
  at_within (shown_declarations c.args.scope.now.text.now c.args.scope.now.declarations.now)
      (places_of c.args.places) (operands (shown_expression c.args.scope.now.text.now c.args.e.now)) c.requires.places k d l,
  length-map
      c.args.scope.now.declarations.now (shown_declaration c.args.scope.now.text.now),
)

pub returns-in-Some-clause-width : goal.returns-in-Some-clause-width
returns-in-Some-clause-width c =
    let ds : List Declaration = shown_declarations c.args.scope.now.text.now c.args.scope.now.declarations.now in
    let xs : List Spot = operands (shown_expression c.args.scope.now.text.now c.args.e.now) in
    let h = rw c.in-Some.is at c.requires.some in
    let w = ap (λ (l : List ℕ). map (λ (p : ℕ). slice_index l p) (places_of c.args.places)) c.args.scope.now.measured ∙ same_widths ds (places_of c.args.places) xs c.requires.places in
    c.width_of.ensures ∙ ap (λ (o : Op). unwrap_or (op_width o (map (λ (p : ℕ). slice_index c.args.scope.now.widths.items p) (places_of c.args.places))) 0) h
    ∙ ap (λ (l : List ℕ). unwrap_or (op_width (operation (shown_expression c.args.scope.now.text.now c.args.e.now)) l) 0) w

pub returns-in-None-clause-width : goal.returns-in-None-clause-width
returns-in-None-clause-width c =
    let ds : List Declaration = shown_declarations c.args.scope.now.text.now c.args.scope.now.declarations.now in
    let xs : List Spot = operands (shown_expression c.args.scope.now.text.now c.args.e.now) in
    let h = rw c.in-None.is at c.requires.none in
    let w = ap (λ (l : List ℕ). map (λ (p : ℕ). slice_index l p) (places_of c.args.places)) c.args.scope.now.measured ∙ same_widths ds (places_of c.args.places) xs c.requires.places in
    let n = h (map (λ (p : ℕ). slice_index c.args.scope.now.widths.items p) (places_of c.args.places)) (widths_small c.args.scope.now.widths.items (places_of c.args.places) c.args.scope.now.small) in
    sym (ap (λ (l : List ℕ). unwrap_or (op_width (operation (shown_expression c.args.scope.now.text.now c.args.e.now)) l) 0) (sym w) ∙ ap (λ (o : Option ℕ). unwrap_or o 0) n)
