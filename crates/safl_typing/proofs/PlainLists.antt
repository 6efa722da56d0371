-- The plain expression of a value, by its lists.
use Rattle.safl_typing.proofs.Common.{Bound, Count, Marks, Primitive}
use Rattle.std.proofs.Common.{◌≡◌, ℕ, List, [], Vec, Box, Global, refl, ap, ◌∙◌}
use Rattle.std.specs.Prelude.{Result, Ok, Err, IfOk}
use Rattle.safl_typing.specs.declared.expression.Expression as code
use Rattle.safl_typing.specs.declared.expression.Expression.{Row_of-Expression, end_of-Expression, more_of-Expression, items-the_row-Expression}
use Rattle.safl_typing.specs.declared.expression.Expression.{items_hidden-the_row-Expression-1, Row_of-Bound, end_of-Bound, more_of-Bound}
use Rattle.safl_typing.specs.declared.expression.Expression.{items-the_row-Bound, items_hidden-the_row-Bound-0}
use Rattle.safl_typing.specs.declared.expression.Expression.TheVariants as codes
use Rattle.safl_typing.specs.Rewriting.{Expression, Let, Op, Call, an_expression, Bindings, a_binding}
use Rattle.safl_typing.specs.Plain.{shown_expression, shown_row, shown_bound, shown_expressions, shown_bindings}

pub ok_plain : {E : Type 0} (r : Result code.Expression E) (y z : Expression) → IfOk r (λ x. shown_expression x ≡ y) → y ≡ z → IfOk r (λ x. shown_expression x ≡ z)
ok_plain (Ok x) y z h e = h ∙ e
ok_plain (Err f) y z h e = h

row_plain : (n : Count) (row : Row_of-Expression n) → shown_row row ≡ shown_expressions (items-the_row-Expression n row)
row_plain n end_of-Expression = refl
row_plain n (more_of-Expression e row) = ap (an_expression (shown_expression e)) (row_plain _ row)

bound_plain : (n : Count) (row : Row_of-Bound n) → shown_bound row ≡ shown_bindings (items-the_row-Bound n row)
bound_plain n end_of-Bound = refl
bound_plain n (more_of-Bound p x w e row) = ap (a_binding p x w (shown_expression e)) (bound_plain _ row)

abbrev pub row_of : code.Expression → (n : Count) × Row_of-Expression n
row_of (codes.Call' p m f s row) = (_, row)
row_of (codes.Op' p m o s row) = (_, row)
row_of _ = (_, end_of-Expression)

listed : (p : ℕ) (m : Marks) (f : List ℕ) (es : Vec code.Expression Global) → shown_row (row_of (codes.Call p m f es)).1 ≡ shown_expressions es.items
listed p m f es = let row = row_of (codes.Call p m f es) in row_plain row.0 row.1 ∙ ap shown_expressions (items_hidden-the_row-Expression-1 es)

abbrev pub bound_of : code.Expression → (n : Count) × Row_of-Bound n
bound_of (codes.Let' p m s row q b) = (_, row)
bound_of _ = (_, end_of-Bound)

pub shown_expression-Op : (p : ℕ) (m : Marks) (o : Primitive) (es : Vec code.Expression Global) → shown_expression (codes.Op p m o es) ≡ Op p o (shown_expressions es.items)
shown_expression-Op p m o es = ap (Op p o) (listed p m [] es)

pub shown_expression-Call : (p : ℕ) (m : Marks) (f : List ℕ) (es : Vec code.Expression Global) → shown_expression (codes.Call p m f es) ≡ Call p f (shown_expressions es.items)
shown_expression-Call p m f es = ap (Call p f) (listed p m f es)

pub shown_expression-Let : (p : ℕ) (m : Marks) (bs : Vec Bound Global) (b : Box code.Expression Global) → shown_expression (codes.Let p m bs b) ≡ Let
    p (shown_bindings bs.items) (shown_expression b.value)
shown_expression-Let p m bs b =
    let row = bound_of (codes.Let p m bs b) in
    ap (λ (l : Bindings). Let p l (shown_expression b.value)) (bound_plain row.0 row.1 ∙ ap shown_bindings (items_hidden-the_row-Bound-0 bs))
