-- Marks of several expressions, and of an expression whose parts stand in a list.
use Rattle.safl_typing.proofs.Common.{Bound, Count, Known, Marks, Primitive, shown_bindings, shown_expression, shown_expressions}
use Rattle.std.proofs.Common.{◌≡◌, ℕ, zero, suc, ◌<◌, arith, get_or, List, [], ◌∷◌, ◌++◌, length, Vec, Box, Global, sym, subst}
use Rattle.safl_typing.specs.declared.expression.Expression as code
use Rattle.safl_typing.specs.declared.expression.Expression.{Row_of-Expression, end_of-Expression, more_of-Expression, items-the_row-Expression}
use Rattle.safl_typing.specs.declared.expression.Expression.{items_hidden-the_row-Expression-1, Row_of-Bound, end_of-Bound, more_of-Bound}
use Rattle.safl_typing.specs.declared.expression.Expression.{items-the_row-Bound, items_hidden-the_row-Bound-0}
use Rattle.safl_typing.specs.declared.expression.Expression.TheVariants as codes
use Rattle.safl_typing.specs.Rewriting.{Expression, Let, Op, Call}
use Rattle.safl_typing.specs.Marks.{IsMarkOf, IsMarked, RowMarked, RowBound, AreMarked, BoundMarked}
use Rattle.safl_typing.proofs.PlainLists.{row_of, bound_of, shown_expression-Op, shown_expression-Call, shown_expression-Let}

-- ---- lists

pub marked_at : (k : Known) (es : List code.Expression) (i : ℕ) (e : code.Expression) → AreMarked k es → i < length es → e ≡ get_or es i e → IsMarked k e
marked_at k [] i e h lt is = absurd (omega (arith, lt))
marked_at k (y ∷ ys) zero e h lt is = subst (IsMarked k) (sym is) h.0
marked_at k (y ∷ ys) (suc i) e h lt is = marked_at k ys i e h.1 (omega (arith, lt)) is

pub bound_marked_at : (k : Known) (bs : List Bound) (i : ℕ) (b : Bound) → BoundMarked k bs → i < length bs → b ≡ get_or bs i b → IsMarked k b.value
bound_marked_at k [] i b h lt is = absurd (omega (arith, lt))
bound_marked_at k (y ∷ ys) zero b h lt is = subst (λ (z : Bound). IsMarked k z.value) (sym is) h.0
bound_marked_at k (y ∷ ys) (suc i) b h lt is = bound_marked_at k ys i b h.1 (omega (arith, lt)) is

marked_end : (k : Known) (xs : List code.Expression) (x : code.Expression) → AreMarked k xs → IsMarked k x → AreMarked k (xs ++ x ∷ [])
marked_end k [] x h g = (g, tt)
marked_end k (y ∷ ys) x h g = (h.0, marked_end k ys x h.1 g)

pub marked_push : (k : Known) (xs ys : List code.Expression) (x : code.Expression) → ys ≡ xs ++ x ∷ [] → AreMarked k xs → IsMarked k x → AreMarked k ys
marked_push k xs ys x e h g = subst (AreMarked k) (sym e) (marked_end k xs x h g)

bound_end : (k : Known) (bs : List Bound) (b : Bound) → BoundMarked k bs → IsMarked k b.value → BoundMarked k (bs ++ b ∷ [])
bound_end k [] b h g = (g, tt)
bound_end k (y ∷ ys) b h g = (h.0, bound_end k ys b h.1 g)

pub bound_push : (k : Known) (bs cs : List Bound) (b : Bound) → cs ≡ bs ++ b ∷ [] → BoundMarked k bs → IsMarked k b.value → BoundMarked k cs
bound_push k bs cs b e h g = subst (BoundMarked k) (sym e) (bound_end k bs b h g)

-- ---- rows

from_row : (k : Known) (n : Count) (row : Row_of-Expression n) → RowMarked k row → AreMarked k (items-the_row-Expression n row)
from_row k n end_of-Expression h = tt
from_row k n (more_of-Expression e row) h = (h.0, from_row k _ row h.1)

to_row : (k : Known) (n : Count) (row : Row_of-Expression n) → AreMarked k (items-the_row-Expression n row) → RowMarked k row
to_row k n end_of-Expression h = tt
to_row k n (more_of-Expression e row) h = (h.0, to_row k _ row h.1)

from_bound : (k : Known) (n : Count) (row : Row_of-Bound n) → RowBound k row → BoundMarked k (items-the_row-Bound n row)
from_bound k n end_of-Bound h = tt
from_bound k n (more_of-Bound p x w e row) h = (h.0, from_bound k _ row h.1)

to_bound : (k : Known) (n : Count) (row : Row_of-Bound n) → BoundMarked k (items-the_row-Bound n row) → RowBound k row
to_bound k n end_of-Bound h = tt
to_bound k n (more_of-Bound p x w e row) h = (h.0, to_bound k _ row h.1)

module _ (k : Known) (p : ℕ) (m : Marks) where
  pub applied_parts : (o : Primitive) (es : Vec code.Expression Global) → IsMarked k (codes.Op p m o es) → IsMarkOf k (Op p o (shown_expressions es.items)) m × AreMarked k es.items
  applied_parts o es h =
      let row = row_of (codes.Op p m o es) in
      (subst (λ (e : Expression). IsMarkOf k e m) (shown_expression-Op p m o es) h.0, subst (AreMarked k) (items_hidden-the_row-Expression-1 es) (from_row k row.0 row.1 h.1))

  pub applied_marked : (o : Primitive) (es : Vec code.Expression Global) → IsMarkOf k (Op p o (shown_expressions es.items)) m → AreMarked k es.items → IsMarked k (codes.Op p m o es)
  applied_marked o es h hs =
      let row = row_of (codes.Op p m o es) in
      (subst (λ (e : Expression). IsMarkOf k e m) (sym (shown_expression-Op p m o es)) h, to_row k row.0 row.1 (subst (AreMarked k) (sym (items_hidden-the_row-Expression-1 es)) hs))

  pub called_parts : (f : List ℕ) (es : Vec code.Expression Global) → IsMarked k (codes.Call p m f es) → IsMarkOf k (Call p f (shown_expressions es.items)) m × AreMarked k es.items
  called_parts f es h =
      let row = row_of (codes.Call p m f es) in
      (subst (λ (e : Expression). IsMarkOf k e m) (shown_expression-Call p m f es) h.0, subst (AreMarked k) (items_hidden-the_row-Expression-1 es) (from_row k row.0 row.1 h.1))

  pub called_marked : (f : List ℕ) (es : Vec code.Expression Global) → IsMarkOf k (Call p f (shown_expressions es.items)) m → AreMarked k es.items → IsMarked k (codes.Call p m f es)
  called_marked f es h hs =
      let row = row_of (codes.Call p m f es) in
      (subst (λ (e : Expression). IsMarkOf k e m) (sym (shown_expression-Call p m f es)) h, to_row k row.0 row.1 (subst (AreMarked k) (sym (items_hidden-the_row-Expression-1 es)) hs))

  pub binding_parts : (bs : Vec Bound Global) (b : Box code.Expression Global) → IsMarked k (codes.Let p m bs b) → IsMarkOf k
      (Let p (shown_bindings bs.items) (shown_expression b.value)) m × (BoundMarked k bs.items × IsMarked k b.value)
  binding_parts bs b h =
      let row = bound_of (codes.Let p m bs b) in (
        subst (λ (e : Expression). IsMarkOf k e m) (shown_expression-Let p m bs b) h.0,
        (subst (BoundMarked k) (items_hidden-the_row-Bound-0 bs) (from_bound k row.0 row.1 h.1), h.2),
      )

  pub binding_marked : (bs : Vec Bound Global) (b : Box code.Expression Global) → IsMarkOf k
      (Let p (shown_bindings bs.items) (shown_expression b.value)) m → BoundMarked k bs.items → IsMarked k b.value → IsMarked k (codes.Let p m bs b)
  binding_marked bs b h hs hb =
      let row = bound_of (codes.Let p m bs b) in
      (subst (λ (e : Expression). IsMarkOf k e m) (sym (shown_expression-Let p m bs b)) h, to_bound k row.0 row.1 (subst (BoundMarked k) (sym (items_hidden-the_row-Bound-0 bs)) hs), hb)

-- ---- the parts of a marked expression

pub first_marked : (k : Known) (es : List code.Expression) (y : code.Expression) (ys : List code.Expression) → es ≡ y ∷ ys → AreMarked k es → IsMarked k y
first_marked k es y ys e h = let g : AreMarked k (y ∷ ys) = subst (AreMarked k) e h in g.0

pub rest_marked : (k : Known) (es : List code.Expression) (y : code.Expression) (ys : List code.Expression) → es ≡ y ∷ ys → AreMarked k es → AreMarked k ys
rest_marked k es y ys e h = let g : AreMarked k (y ∷ ys) = subst (AreMarked k) e h in g.1

pub value_marked : (k : Known) (bs : List Bound) (y : Bound) (ys : List Bound) → bs ≡ y ∷ ys → BoundMarked k bs → IsMarked k y.value
value_marked k bs y ys e h = let g : BoundMarked k (y ∷ ys) = subst (BoundMarked k) e h in g.0

pub others_marked : (k : Known) (bs : List Bound) (y : Bound) (ys : List Bound) → bs ≡ y ∷ ys → BoundMarked k bs → BoundMarked k ys
others_marked k bs y ys e h = let g : BoundMarked k (y ∷ ys) = subst (BoundMarked k) e h in g.1
