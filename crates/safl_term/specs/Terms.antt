-- Terms of bodies, as plain trees.
use Rattle.std.specs.Prelude.{ℕ}
use Rattle.safl_word.specs.Words.{Word}
use Rattle.safl_word.specs.declared.primitive.Primitive.{Primitive}

mutual
  -- Slots are numbered from the parameters on; then come the bindings of the lets around the term, the outer ones first.
  -- A call has the called function and its site. A loop is a tail call of a function of the caller's own group, and has no site.
  pub data Term : Type 0 where
    Const : (word : Word) → Term
    Var : (slot : ℕ) → Term
    Op : (primitive : Primitive) (parts : Terms) → Term
    If : (c a b : Term) → Term
    Let : (bound : Terms) (body : Term) → Term
    Call : (callee site : ℕ) (args : Terms) → Term
    Loop : (member : ℕ) (args : Terms) → Term

  pub data Terms : Type 0 where
    Nil : Terms
    Cons : (first : Term) (rest : Terms) → Terms
