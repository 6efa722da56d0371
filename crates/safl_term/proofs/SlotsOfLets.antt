-- The slots of a term's lets, by its lists.
use Rattle.safl_term.proofs.Common.{Count, Primitive, Word, shown_terms}
use Rattle.std.proofs.Common.{◌≡◌, ℕ, suc, ◌+◌, Vec, Global, List, [], ◌∷◌, length, refl, sym, ap, subst, ◌∙◌}
use Rattle.std.specs.List.{AllByRecursion}
use Rattle.std.specs.declared.boxed.Box.{Box}
use Rattle.safl_term.specs.declared.term.Term.{Term, Const, Var, If, Let, Op, Call, Loop, Row_of-Term, end_of-Term, more_of-Term, items-the_row-Term, items_hidden-the_row-Term-0}
use Rattle.safl_term.specs.Slots.{count, HasSlots, HaveSlots}
use Rattle.safl_term.proofs.PlainTrees.{row_of, listed}

slots_row : (n : ℕ) (m : Count) (row : Row_of-Term m) → AllByRecursion (HasSlots n) (items-the_row-Term m row) → HaveSlots n row
unfolding HasSlots HaveSlots
slots_row n m end_of-Term h = tt
slots_row n m (more_of-Term t rest) h = (h.0, slots_row n _ rest h.1)

-- the slots of a term's list
slots_listed : (n o : ℕ) (ts : Vec Term Global) → AllByRecursion (HasSlots n) ts.items → HaveSlots n (row_of (Loop o ts)).1
slots_listed n o ts h = let row = row_of (Loop o ts) in slots_row n row.0 row.1 (subst (AllByRecursion (HasSlots n)) (sym (items_hidden-the_row-Term-0 ts)) h)

pub count_forest : (ts : List Term) → count (shown_terms ts) ≡ length ts
count_forest [] = refl
count_forest (t ∷ ts) = ap suc (count_forest ts)

pub slots-Op : (n : ℕ) (o : Primitive) (ts : Vec Term Global) → AllByRecursion (HasSlots n) ts.items → HasSlots n (Op o ts)
unfolding HasSlots HaveSlots
slots-Op n o ts h = slots_listed n 0 ts h

pub slots-Loop : (n h : ℕ) (ts : Vec Term Global) → AllByRecursion (HasSlots n) ts.items → HasSlots n (Loop h ts)
unfolding HasSlots HaveSlots
slots-Loop n h ts k = slots_listed n h ts k

pub slots-Call : (n f k : ℕ) (ts : Vec Term Global) → AllByRecursion (HasSlots n) ts.items → HasSlots n (Call f k ts)
unfolding HasSlots HaveSlots
slots-Call n f k ts h = slots_listed n f ts h

-- a let in the first free slot
pub slots-Let : (n : ℕ) (ts : Vec Term Global) (b : Box Term Global) → AllByRecursion (HasSlots n) ts.items → HasSlots (n + length ts.items) b.value → HasSlots n (Let n ts b)
unfolding HasSlots HaveSlots
slots-Let n ts b h i = (refl, slots_listed n n ts h, subst (λ m. HasSlots (n + m) b.value) (sym (ap count (listed n ts) ∙ count_forest ts.items)) i)

pub slots-If : (n : ℕ) (c a b : Box Term Global) → HasSlots n c.value → HasSlots n a.value → HasSlots n b.value → HasSlots n (If c a b)
unfolding HasSlots
slots-If n c a b h i j = (h, i, j)

pub slots-Const : (n : ℕ) (w : Word) → HasSlots n (Const w)
unfolding HasSlots
slots-Const n w = tt

pub slots-Var : (n i : ℕ) → HasSlots n (Var i)
unfolding HasSlots
slots-Var n i = tt
