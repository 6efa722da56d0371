-- Well-formed programs: sites are numbered in order, calls are to earlier groups, tail calls stay in their group, and widths fit.
use Rattle.std.specs.Prelude.{◌≡◌, ℕ, suc, ◌<◌, ◌≤◌, List, [], ◌∷◌, ◌++◌, Some, Bool, true, false, slice_get}
use Rattle.safl_word.specs.Words.{Word, IsWord}
use Rattle.safl_word.specs.Primitives.{result_width}
use Rattle.safl_term.specs.Program.{Program}
use Rattle.safl_term.specs.Terms.{Term, Const, Var, If, Let, Op, Call, Loop, Terms, Nil, Cons}

-- In the body of g, the sites of the term are those from lo up to, but not including, hi, in the order of the text: a call comes
-- before its arguments. A call is of a function of an earlier group, and its site is noted with caller and callee. A loop is in
-- tail position, and is of a function of g's own group. The branches of an if and the body of a let are in tail position if the
-- term is; no other part is.
abbrev mutual
  pub Spans : Program → ℕ → Bool → ℕ → ℕ → Term → Type 0
  Spans C g tail lo hi (Const w) = lo ≡ hi
  Spans C g tail lo hi (Var i) = lo ≡ hi
  Spans C g tail lo hi (If c a b) = (m : ℕ) × (n : ℕ) × Spans C g false lo m c × Spans C g tail m n a × Spans C g tail n hi b
  Spans C g tail lo hi (Let ts b) = (m : ℕ) × SpansAll C g lo m ts × Spans C g tail m hi b
  Spans C g tail lo hi (Op o ts) = SpansAll C g lo hi ts
  Spans C g tail lo hi (Call f k ts) = (k ≡ lo) × (C.callee k ≡ f) × (C.caller k ≡ g) × (C.unit f < C.unit g) × SpansAll C g (suc lo) hi ts
  Spans C g tail lo hi (Loop h ts) = (tail ≡ true) × (C.unit h ≡ C.unit g) × SpansAll C g lo hi ts

  pub SpansAll : Program → ℕ → ℕ → ℕ → Terms → Type 0
  SpansAll C g lo hi Nil = lo ≡ hi
  SpansAll C g lo hi (Cons t ts) = (m : ℕ) × Spans C g false lo m t × SpansAll C g m hi ts

-- If the slots have these widths, the term has width n: a constant is a word of n bits, an operator has the width of the table, a
-- condition has width 1 and both branches n, and the arguments of a call have the widths of the parameters.
abbrev mutual
  pub HasWidth : Program → List ℕ → Term → ℕ → Type 0
  HasWidth C slots (Const w) n = IsWord w × (w.width ≡ n)
  HasWidth C slots (Var i) n = slice_get slots i ≡ Some n
  HasWidth C slots (Op o ts) n = (ws : List ℕ) × HaveWidths C slots ts ws × (result_width o ws ≡ Some n)
  HasWidth C slots (If c a b) n = HasWidth C slots c 1 × HasWidth C slots a n × HasWidth C slots b n
  HasWidth C slots (Let ts b) n = (ws : List ℕ) × HaveWidths C slots ts ws × HasWidth C (slots ++ ws) b n
  HasWidth C slots (Call f k ts) n = HaveWidths C slots ts (C.params f) × (C.result f ≡ n) × (f < C.functions)
  HasWidth C slots (Loop h ts) n = HaveWidths C slots ts (C.params h) × (C.result h ≡ n) × (h < C.functions)

  pub HaveWidths : Program → List ℕ → Terms → List ℕ → Type 0
  HaveWidths C slots Nil [] = Unit {0}
  HaveWidths C slots Nil (w ∷ ws) = ⊥
  HaveWidths C slots (Cons t ts) [] = ⊥
  HaveWidths C slots (Cons t ts) (w ∷ ws) = HasWidth C slots t w × HaveWidths C slots ts ws

-- the words have these widths
abbrev pub AreWordsOf : List Word → List ℕ → Type 0
AreWordsOf [] [] = Unit {0}
AreWordsOf (v ∷ vs) (w ∷ ws) = IsWord v × (v.width ≡ w) × AreWordsOf vs ws
AreWordsOf _ _ = ⊥

-- Each body has an interval of sites, which begin at 1. Units are below a bound, and no unit is above main's. A function that
-- does not exist has a constant as its body, and unit 0.
pub record IsNumbered (C : Program) (units : ℕ) : Type 0 where
  pub bodies : (f : ℕ) → (lo : ℕ) × (hi : ℕ) × (1 ≤ lo) × Spans C f true lo hi (C.body f)
  pub below : (f : ℕ) → C.unit f < units
  -- main is in the last unit
  pub top : (f : ℕ) → C.unit f ≤ C.unit (C.callee 0)

-- every function of the program keeps the rules on sites, groups and widths
pub record IsWellFormed (C : Program) : Type 0 where
  pub numbered : IsNumbered C C.functions
  -- site 0 is the call of main, which exists
  pub main : C.callee 0 ≡ C.main
  pub main_in : C.main < C.functions
  -- a unit has the number of its first function, and its functions have one result width
  pub first : (f : ℕ) → f < C.functions → (C.unit f ≤ f) × (C.unit (C.unit f) ≡ C.unit f) × (C.result (C.unit f) ≡ C.result f)
  -- the sites of a body are among those of the program
  pub sites : (f : ℕ) → f < C.functions → (numbered.bodies f).1 ≤ suc C.sites
  -- each site has a caller, and a callee in an earlier group
  pub calls : (k : ℕ) → 0 < k → k ≤ C.sites → (C.caller k < C.functions) × (C.callee k < C.functions) × (C.unit (C.callee k) < C.unit (C.caller k))
  -- each body has its function's width
  pub widths : (f : ℕ) → f < C.functions → HasWidth C (C.params f) (C.body f) (C.result f)
