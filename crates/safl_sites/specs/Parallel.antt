-- The order of parallel terms.
use Rattle.std.specs.Prelude.{ℕ, ◌<◌, ◌⊎◌}
use Rattle.safl_term.specs.Program.{Program}
use Rattle.safl_term.specs.Standing.{Stands, StandsIn}
use Rattle.safl_term.specs.Terms.{Term, Terms, Const, Var, Op, If, Let, Call, Loop, Nil, Cons}
use Rattle.safl_sites.specs.Conflicts.{Reaches, ReachesIn}

unfoldable mutual
  -- two parallel terms within t have k in reach of the earlier one, and site b in the later one
  pub After : Program → ℕ → ℕ → Term → Type 0
  After C k b (Const n) = ⊥
  After C k b (Var i) = ⊥
  After C k b (Op p ts) = AfterIn C k b ts
  After C k b (If c x y) = After C k b c ⊎ (After C k b x ⊎ After C k b y)
  After C k b (Let ts x) = AfterIn C k b ts ⊎ After C k b x
  After C k b (Call f i ts) = AfterIn C k b ts
  After C k b (Loop h ts) = AfterIn C k b ts

  pub AfterIn : Program → ℕ → ℕ → Terms → Type 0
  AfterIn C k b Nil = ⊥
  AfterIn C k b (Cons t ts) = (After C k b t ⊎ AfterIn C k b ts) ⊎ (Reaches C k t × StandsIn b ts)

-- what joins the set of a site in the term: what the terms before it have, if they are parallel, and what earlier parallel terms
-- within the term have
abbrev pub Marked : Program → Type 0 → ℕ → ℕ → Term → Type 0
Marked C before k b t = (Stands b t × before) ⊎ After C k b t

abbrev pub MarkedIn : Program → Type 0 → ℕ → ℕ → Terms → Type 0
MarkedIn C before k b ts = (StandsIn b ts × before) ⊎ AfterIn C k b ts

unfoldable mutual
  -- two parallel terms within t have j in reach of the earlier one and k in reach of the later one
  pub Before : Program → ℕ → ℕ → Term → Type 0
  Before C j k (Const n) = ⊥
  Before C j k (Var i) = ⊥
  Before C j k (Op p ts) = BeforeIn C j k ts
  Before C j k (If c x y) = Before C j k c ⊎ (Before C j k x ⊎ Before C j k y)
  Before C j k (Let ts x) = BeforeIn C j k ts ⊎ Before C j k x
  Before C j k (Call f i ts) = BeforeIn C j k ts
  Before C j k (Loop h ts) = BeforeIn C j k ts

  pub BeforeIn : Program → ℕ → ℕ → Terms → Type 0
  BeforeIn C j k Nil = ⊥
  BeforeIn C j k (Cons t ts) = (Before C j k t ⊎ BeforeIn C j k ts) ⊎ (Reaches C j t × ReachesIn C k ts)

-- in some body, j is in reach of a term, and k is in reach of a later term that is parallel to it
pub record ComesBefore (C : Program) (j k : ℕ) : Type 0 where
  pub body : ℕ
  pub is_body : body < C.functions
  pub before : Before C j k (C.body body)
