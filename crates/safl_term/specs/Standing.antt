-- Which sites are in a term.
use Rattle.std.specs.Prelude.{◌≡◌, ℕ, ◌⊎◌}
use Rattle.safl_term.specs.Terms.{Term, Op, If, Let, Call, Loop, Terms, Nil, Cons}

unfoldable mutual
  -- site k is in the term: it is the site of a call there
  pub Stands : ℕ → Term → Type 0
  Stands k (Op p ts) = StandsIn k ts
  Stands k (If c a b) = Stands k c ⊎ (Stands k a ⊎ Stands k b)
  Stands k (Let bs b) = StandsIn k bs ⊎ Stands k b
  Stands k (Call f j ts) = (j ≡ k) ⊎ StandsIn k ts
  Stands k (Loop h ts) = StandsIn k ts
  Stands k _ = ⊥

  pub StandsIn : ℕ → Terms → Type 0
  StandsIn k Nil = ⊥
  StandsIn k (Cons t ts) = Stands k t ⊎ StandsIn k ts
