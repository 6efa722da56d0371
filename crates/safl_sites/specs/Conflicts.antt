-- Which sites are in reach of a term, and which sites conflict.
use Rattle.std.specs.Prelude.{◌≡◌, ◌≢◌, ℕ, ◌<◌, ◌⊎◌}
use Rattle.safl_term.specs.Program.{Program, unit_for}
use Rattle.safl_term.specs.Terms.{Term, Terms, Op, If, Let, Call, Loop, Nil, Cons}
use Rattle.safl_term.specs.Standing.{Stands}

-- Site k is in reach of a term: in it, or in reach of the body of a function in a group that it calls. A loop adds what its arguments add.
pub data Reaches (C : Program) (k : ℕ) : Term → Type 0 where
  Here : {t : Term} → Stands k t → Reaches C k t
  Through : {t : Term} (a g : ℕ) → Stands a t → g < C.functions → C.unit g ≡ C.unit (C.callee a) → Reaches C k (C.body g) → Reaches C k t

-- site k is in reach of one of the terms
unfoldable pub ReachesIn : Program → ℕ → Terms → Type 0
ReachesIn C k Nil = ⊥
ReachesIn C k (Cons t ts) = Reaches C k t ⊎ ReachesIn C k ts

unfoldable mutual
  unfolding ReachesIn

  -- Two parallel terms within the term have j in reach of the one and k in reach of the other. Parallel terms are different
  -- operands of an operator, arguments of a call or loop, or bindings of a let.
  pub Apart : Program → ℕ → ℕ → Term → Type 0
  Apart C j k (Op p ts) = ApartIn C j k ts
  Apart C j k (If c a b) = Apart C j k c ⊎ (Apart C j k a ⊎ Apart C j k b)
  Apart C j k (Let bs b) = ApartIn C j k bs ⊎ Apart C j k b
  Apart C j k (Call f i ts) = ApartIn C j k ts
  Apart C j k (Loop h ts) = ApartIn C j k ts
  Apart C j k _ = ⊥

  pub ApartIn : Program → ℕ → ℕ → Terms → Type 0
  ApartIn C j k Nil = ⊥
  ApartIn C j k (Cons t ts) = (Apart C j k t ⊎ ApartIn C j k ts) ⊎ ((Reaches C j t × ReachesIn C k ts) ⊎ (Reaches C k t × ReachesIn C j ts))

-- j and k are different sites of one unit, and two parallel terms of some body have them in reach
pub record Conflict (C : Program) (j k : ℕ) : Type 0 where
  pub other : j ≢ k
  pub same : unit_for C j ≡ unit_for C k
  pub body : ℕ
  pub is_body : body < C.functions
  pub apart : Apart C j k (C.body body)

-- In no body do two parallel terms both have a site in reach, so no two of the program's calls can overlap.
abbrev pub IsSequential : Program → Type 0
IsSequential C = (f j k : ℕ) → f < C.functions → Apart C j k (C.body f) → ⊥
