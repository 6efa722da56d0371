-- A term's plain tree, by its lists.
use Rattle.safl_term.proofs.Common.{Count, Primitive}
use Rattle.std.proofs.Common.{◌≡◌, ℕ, Vec, Global, refl, ap, ◌∙◌}
use Rattle.std.specs.declared.boxed.Box.{Box}
use Rattle.safl_term.specs.Terms as plain
use Rattle.safl_term.specs.declared.term.Term.{Term, Let, Op, Call, Loop, Loop', Row_of-Term, end_of-Term, more_of-Term, items-the_row-Term, items_hidden-the_row-Term-0}
use Rattle.safl_term.specs.Tree.{shown_term, shown_row, shown_terms}

trees_row : (n : Count) (row : Row_of-Term n) → shown_row row ≡ shown_terms (items-the_row-Term n row)
trees_row n end_of-Term = refl
trees_row n (more_of-Term t rest) = ap (plain.Cons (shown_term t)) (trees_row _ rest)

abbrev pub row_of : Term → (n : Count) × Row_of-Term n
row_of (Loop' o shape row) = (_, row)
row_of _ = (_, end_of-Term)

-- the plain list of a term's list
pub listed : (o : ℕ) (ts : Vec Term Global) → shown_row (row_of (Loop o ts)).1 ≡ shown_terms ts.items
listed o ts = let row = row_of (Loop o ts) in trees_row row.0 row.1 ∙ ap shown_terms (items_hidden-the_row-Term-0 ts)

pub shown_term-Op : (o : Primitive) (ts : Vec Term Global) → shown_term (Op o ts) ≡ plain.Op o (shown_terms ts.items)
shown_term-Op o ts = ap (plain.Op o) (listed 0 ts)

pub shown_term-Loop : (h : ℕ) (ts : Vec Term Global) → shown_term (Loop h ts) ≡ plain.Loop h (shown_terms ts.items)
shown_term-Loop h ts = ap (plain.Loop h) (listed h ts)

pub shown_term-Call : (f k : ℕ) (ts : Vec Term Global) → shown_term (Call f k ts) ≡ plain.Call f k (shown_terms ts.items)
shown_term-Call f k ts = ap (plain.Call f k) (listed f ts)

pub shown_term-Let : (n : ℕ) (ts : Vec Term Global) (b : Box Term Global) → shown_term (Let n ts b) ≡ plain.Let (shown_terms ts.items) (shown_term b.value)
shown_term-Let n ts b = ap (λ l. plain.Let l (shown_term b.value)) (listed n ts)
