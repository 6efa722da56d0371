-- How much is left to do while a term is taken apart.
use Rattle.safl_term.proofs.Common.{Primitive, Word, shown_term, shown_terms, sum_by-cons}
use Rattle.std.proofs.Common.{◌≡◌, ℕ, ◌+◌, ◌<◌, ◌≤◌, refl, arith, List, [], ◌∷◌, Option, Vec, Box, Global, ap, subst}
use Rattle.std.specs.List.{sum_by}
use Rattle.std.specs.Prelude.{IfSome}
use Rattle.safl_word.specs.Naturals.{work}
use Rattle.safl_term.specs.Terms as plain
use Rattle.safl_term.specs.Weights.{weight, weight_in, code_weight, work_at}
use Rattle.safl_term.specs.declared.dismantle.At.{At}
use Rattle.safl_term.specs.declared.term.Term.{Term, Const, Var, If', Let, Let', Op, Op', Call, Call', Loop, Loop'}
use Rattle.safl_term.proofs.PlainTrees.{shown_term-Op, shown_term-Loop, shown_term-Call, shown_term-Let}

some_weight : (t : plain.Term) → 1 ≤ weight t
some_weight (plain.Op o ts) = omega arith
some_weight (plain.Call f k ts) = omega arith
some_weight (plain.Loop h ts) = omega arith
some_weight _ = omega arith

-- what is no constant and no variable counts for two at least
pub two : (t : Term) → ((w : Word) → t ≡ Const w → ⊥) → ((i : ℕ) → t ≡ Var i → ⊥) → 2 ≤ code_weight t
two (Const w) const var = absurd (const w refl)
two (Var i) const var = absurd (var i refl)
two (If' p c q a r b) const var = omega (arith, some_weight (shown_term c))
two (Let' n shape ts q b) const var = omega (arith, some_weight (shown_term b))
two (Op' o shape ts) const var = omega arith
two (Call' f k shape ts) const var = omega arith
two (Loop' h shape ts) const var = omega arith

-- ---- weights by lists

terms_weight : (ts : List Term) → weight_in (shown_terms ts) ≡ sum_by code_weight ts
terms_weight [] = omega arith
terms_weight (t ∷ ts) = omega (arith, terms_weight ts, sum_by-cons code_weight t ts)

pub let_weight : (n : ℕ) (v : Vec Term Global) (b : Box Term Global) → code_weight (Let n v b) ≡ 1 + (sum_by code_weight v.items + code_weight b.value)
let_weight n v b = omega (arith, ap weight (shown_term-Let n v b), terms_weight v.items)

pub op_weight : (o : Primitive) (v : Vec Term Global) → code_weight (Op o v) ≡ 2 + sum_by code_weight v.items
op_weight o v = omega (arith, ap weight (shown_term-Op o v), terms_weight v.items)

pub call_weight : (f k : ℕ) (v : Vec Term Global) → code_weight (Call f k v) ≡ 2 + sum_by code_weight v.items
call_weight f k v = omega (arith, ap weight (shown_term-Call f k v), terms_weight v.items)

pub loop_weight : (h : ℕ) (v : Vec Term Global) → code_weight (Loop h v) ≡ 2 + sum_by code_weight v.items
loop_weight h v = omega (arith, ap weight (shown_term-Loop h v), terms_weight v.items)

-- ---- less work

pub less_in : (o : Option At) (u : ℕ) {m n : ℕ} → m ≡ n → IfSome o (λ next. work_at next < work m u) → IfSome o (λ next. work_at next < work n u)
less_in o u e h = let P : ℕ → Type 0 = λ k. IfSome o (λ next. work_at next < work k u) in subst P e h

pub at_most_of : (o : Option At) {m n : ℕ} → m ≡ n → IfSome o (λ next. code_weight next.here + code_weight next.above ≤ m) → IfSome o (λ next. code_weight next.here + code_weight next.above ≤ n)
at_most_of o e h = let P : ℕ → Type 0 = λ k. IfSome o (λ next. code_weight next.here + code_weight next.above ≤ k) in subst P e h
