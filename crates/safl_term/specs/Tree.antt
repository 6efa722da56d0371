-- The plain tree of a term of the code.
use Rattle.std.specs.Prelude.{List, [], ◌∷◌}
use Rattle.safl_term.specs.Terms as plain
use Rattle.safl_term.specs.declared.term.Term.{Term, Const, Var, If', Let', Op', Call', Loop', Row_of-Term, end_of-Term, more_of-Term}

abbrev mutual
  -- the tree of a term. The slot of the first binding of a `Let` is not part of it
  pub shown_term : Term → plain.Term
  shown_term (Const w) = plain.Const w
  shown_term (Var i) = plain.Var i
  shown_term (If' p c q a r b) = plain.If (shown_term c) (shown_term a) (shown_term b)
  shown_term (Let' n shape ts q b) = plain.Let (shown_row ts) (shown_term b)
  shown_term (Op' o shape ts) = plain.Op o (shown_row ts)
  shown_term (Call' f k shape ts) = plain.Call f k (shown_row ts)
  shown_term (Loop' h shape ts) = plain.Loop h (shown_row ts)

  -- the trees of the terms in a term's list
  pub shown_row : {m : _} → Row_of-Term m → plain.Terms
  shown_row end_of-Term = plain.Nil
  shown_row (more_of-Term t rest) = plain.Cons (shown_term t) (shown_row rest)

-- the trees of a list of terms
abbrev pub shown_terms : List Term → plain.Terms
shown_terms [] = plain.Nil
shown_terms (t ∷ ts) = plain.Cons (shown_term t) (shown_terms ts)
