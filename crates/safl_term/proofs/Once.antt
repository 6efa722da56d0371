-- How often sites stand in a term, to which members it loops, and how many arguments its calls have.
use Rattle.std.specs.Prelude.{◌≡◌, ℕ, suc, ◌⊎◌}
use Rattle.safl_term.specs.Terms.{Term, Const, Var, Op, If, Let, Call, Loop, Terms, Nil, Cons}
use Rattle.safl_term.specs.Program.{Program, arity}
use Rattle.safl_term.specs.Standing.{Stands, StandsIn}

unfoldable mutual
  -- each site stands once
  pub Once : Term → Type 0
  Once (Const n) = Unit {0}
  Once (Var i) = Unit {0}
  Once (Op p ts) = OnceIn ts
  Once (If c a b) = Once c × Once a × Once b × ((k : ℕ) → Stands k c → Stands k a ⊎ Stands k b → ⊥) × ((k : ℕ) → Stands k a → Stands k b → ⊥)
  Once (Let bs b) = OnceIn bs × Once b × ((k : ℕ) → StandsIn k bs → Stands k b → ⊥)
  Once (Call f j ts) = OnceIn ts × (StandsIn j ts → ⊥)
  Once (Loop h ts) = OnceIn ts

  pub OnceIn : Terms → Type 0
  OnceIn Nil = Unit {0}
  OnceIn (Cons t ts) = Once t × OnceIn ts × ((k : ℕ) → Stands k t → StandsIn k ts → ⊥)

-- a tail call to the member stands in the term
unfoldable pub LoopsTo : ℕ → Term → Type 0
LoopsTo h (Const n) = ⊥
LoopsTo h (Var i) = ⊥
LoopsTo h (Op p ts) = ⊥
LoopsTo h (If c a b) = LoopsTo h a ⊎ LoopsTo h b
LoopsTo h (Let bs b) = LoopsTo h b
LoopsTo h (Call f k ts) = ⊥
LoopsTo h (Loop g ts) = g ≡ h

abbrev pub count : Terms → ℕ
count Nil = 0
count (Cons t ts) = suc (count ts)

unfoldable mutual
  -- each call has as many arguments as its callee has parameters
  pub Counted : Program → Term → Type 0
  Counted C (Const n) = Unit {0}
  Counted C (Var i) = Unit {0}
  Counted C (Op p ts) = CountedIn C ts
  Counted C (If c a b) = Counted C c × Counted C a × Counted C b
  Counted C (Let bs b) = CountedIn C bs × Counted C b
  Counted C (Call f k ts) = (count ts ≡ arity C (C.callee k)) × CountedIn C ts
  Counted C (Loop h ts) = (count ts ≡ arity C h) × CountedIn C ts

  pub CountedIn : Program → Terms → Type 0
  CountedIn C Nil = Unit {0}
  CountedIn C (Cons t ts) = Counted C t × CountedIn C ts
