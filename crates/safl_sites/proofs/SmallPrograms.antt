-- Small programs whose plans and runs are worked out.
use Rattle.safl_sites.proofs.Common.{Call, Cons, Const, If, Let, Nil, Op, Program, Term, Terms, Var, Word}
use Rattle.std.proofs.Common.{ℕ, [], ◌∷◌, cond, ◌==◌}
use Rattle.safl_word.specs.declared.primitive.Primitive.TheVariants.{Add, Eq}

abbrev pub byte : ℕ → Word
byte n = record { width = 8; bits = n }

abbrev pub just : Term → Terms
just t = Cons t Nil

-- the number after the first parameter
abbrev pub next : Term
next = Op Add (Cons (Var 0) (just (Const (byte 1))))

-- fun f(x:8):8 = x + 1, and main of one parameter with this body and so many sites, which all call f
abbrev pub main_over : Term → ℕ → Program
main_over t n = record {
  functions = 2;
  sites = n;
  main = 1;
  unit = λ f. cond (f == 1) 1 0;
  body = λ f. cond (f == 0) next (cond (f == 1) t (Const (byte 0)));
  params = λ f. 8 ∷ [];
  result = λ f. 8;
  caller = λ k. 1;
  callee = λ k. cond (k == 0) 1 0;
}

-- f(a) + f(a + 1)
abbrev pub sum : Program
sum = main_over (Op Add (Cons (Call 0 1 (just (Var 0))) (just (Call 0 2 (just next))))) 2

-- f(f(a)), where the outer call is site 1
abbrev pub nested : Program
nested = main_over (Call 0 1 (just (Call 0 2 (just (Var 0))))) 2

-- let x = f(a) in f(x) + x
abbrev pub bound : Program
bound = main_over (Let (just (Call 0 1 (just (Var 0)))) (Op Add (Cons (Call 0 2 (just (Var 1))) (just (Var 1))))) 2

-- let x = f(a), y = f(a + 1) in x + y
abbrev pub paired : Program
paired = main_over (Let (Cons (Call 0 1 (just (Var 0))) (just (Call 0 2 (just next)))) (Op Add (Cons (Var 1) (just (Var 2))))) 2

-- fun g(x:8):8 = x and main of one parameter: let x = (if f(a) == 0 then 1 else g(2)) in f(3)
abbrev pub decided : Program
decided = record {
  functions = 3;
  sites = 3;
  main = 2;
  unit = λ f. cond (f == 1) 1 (cond (f == 2) 2 0);
  body = λ f.
      cond (f == 0) next (cond (f == 1) (Var 0) (cond (f == 2)
      (Let (just (If (Op Eq (Cons (Call 0 1 (just (Var 0))) (just (Const (byte 0))))) (Const (byte 1)) (Call 1 2 (just (Const (byte 2)))))) (Call 0 3 (just (Const (byte 3)))))
      (Const (byte 0))));
  params = λ f. 8 ∷ [];
  result = λ f. 8;
  caller = λ k. 2;
  callee = λ k. cond (k == 0) 2 (cond (k == 2) 1 0);
}
