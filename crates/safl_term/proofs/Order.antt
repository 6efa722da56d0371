-- A well-formed term's sites stand once, in its interval, and are its function's.
use Rattle.std.proofs.Common.{◌≡◌, ℕ, suc, ◌<◌, ◌≤◌, List, [], ◌∷◌, ◌++◌, length, Bool, false, refl, sym, ap, ◌∙◌, subst, arith, inl, inr, ⊎_elim}
use Rattle.safl_term.specs.Terms.{Term, Const, Var, Op, If, Let, Call, Loop, Terms, Nil, Cons}
use Rattle.safl_term.specs.Program.{Program, arity}
use Rattle.safl_term.specs.WellFormed.{Spans, SpansAll, HasWidth, HaveWidths}
use Rattle.safl_term.specs.Standing.{Stands, StandsIn}
use Rattle.safl_term.proofs.Once.{Once, OnceIn, LoopsTo, Counted, CountedIn, count}
use Rattle.safl_term.proofs.Places.{fits_le, fits_all_le}

pub record Within (p : Program) (g lo hi k : ℕ) : Type 0 where
  pub above : lo ≤ k
  pub below : k < hi
  pub caller : p.caller k ≡ g

wider : (p : Program) (g lo hi lo' hi' k : ℕ) → lo ≤ lo' → hi' ≤ hi → Within p g lo' hi' k → Within p g lo hi k
wider p g lo hi lo' hi' k x y h = record { above = omega (arith, h.above); below = omega (arith, h.below); caller = h.caller }

mutual
  unfolding Stands

  pub stands_within : (p : Program) (g : ℕ) (tail : Bool) (lo hi : ℕ) (t : Term) (k : ℕ) → Spans p g tail lo hi t → Stands k t → Within p g lo hi k
  stands_within p g tail lo hi (Const w) k h st = absurd st
  stands_within p g tail lo hi (Var i) k h st = absurd st
  stands_within p g tail lo hi (Op o ts) k h st = all_within p g lo hi ts k h st
  stands_within p g tail lo hi (If c a b) k (m, n, x, y, z) (inl st) = wider p g lo hi lo m k (omega arith)
      (omega (arith, fits_le p g tail m n a y, fits_le p g tail n hi b z)) (stands_within p g false lo m c k x st)
  stands_within p g tail lo hi (If c a b) k (m, n, x, y, z) (inr (inl st)) = wider p g lo hi m n k (fits_le p g false lo m c x) (fits_le p g tail n hi b z) (stands_within p g tail m n a k y st)
  stands_within p g tail lo hi (If c a b) k (m, n, x, y, z) (inr (inr st)) = wider p g lo hi n hi k
      (omega (arith, fits_le p g false lo m c x, fits_le p g tail m n a y)) (omega arith) (stands_within p g tail n hi b k z st)
  stands_within p g tail lo hi (Let ts b) k (m, x, y) (inl st) = wider p g lo hi lo m k (omega arith) (fits_le p g tail m hi b y) (all_within p g lo m ts k x st)
  stands_within p g tail lo hi (Let ts b) k (m, x, y) (inr st) = wider p g lo hi m hi k (fits_all_le p g lo m ts x) (omega arith) (stands_within p g tail m hi b k y st)
  stands_within p g tail lo hi (Call f j ts) k (e, e1, e2, lt, h) (inl st) =
      let le = fits_all_le p g (suc lo) hi ts h in
      record { above = omega (arith, e, st); below = omega (arith, e, st, le); caller = ap p.caller (sym st) ∙ e2 }
  stands_within p g tail lo hi (Call f j ts) k (e, e1, e2, lt, h) (inr st) = wider p g lo hi (suc lo) hi k (omega arith) (omega arith) (all_within p g (suc lo) hi ts k h st)
  stands_within p g tail lo hi (Loop m ts) k (e, e1, h) st = all_within p g lo hi ts k h st

  pub all_within : (p : Program) (g lo hi : ℕ) (ts : Terms) (k : ℕ) → SpansAll p g lo hi ts → StandsIn k ts → Within p g lo hi k
  all_within p g lo hi Nil k h st = absurd st
  all_within p g lo hi (Cons t ts) k (m, x, y) (inl st) = wider p g lo hi lo m k (omega arith) (fits_all_le p g m hi ts y) (stands_within p g false lo m t k x st)
  all_within p g lo hi (Cons t ts) k (m, x, y) (inr st) = wider p g lo hi m hi k (fits_le p g false lo m t x) (omega arith) (all_within p g m hi ts k y st)

mutual
  unfolding Once Stands

  pub once_of : (p : Program) (g : ℕ) (tail : Bool) (lo hi : ℕ) (t : Term) → Spans p g tail lo hi t → Once t
  once_of p g tail lo hi (Const w) h = tt
  once_of p g tail lo hi (Var i) h = tt
  once_of p g tail lo hi (Op o ts) h = once_all p g lo hi ts h
  once_of p g tail lo hi (If c a b) (m, n, x, y, z) = (
    once_of p g false lo m c x,
    once_of p g tail m n a y,
    once_of p g tail n hi b z,
    λ k i j. let q = stands_within p g false lo m c k x i in ⊎_elim
        (λ l. let r = stands_within p g tail m n a k y l in absurd (omega (arith, q.below, r.above)))
        (λ l. let r = stands_within p g tail n hi b k z l in absurd (omega (arith, q.below, r.above, fits_le p g tail m n a y))) j,
    λ k i j. let q = stands_within p g tail m n a k y i in let r = stands_within p g tail n hi b k z j in absurd (omega (arith, q.below, r.above)),
  )
  once_of p g tail lo hi (Let ts b) (m, x, y) =
      (once_all p g lo m ts x, once_of p g tail m hi b y, λ k i j. let q = all_within p g lo m ts k x i in let r = stands_within p g tail m hi b k y j in absurd (omega (arith, q.below, r.above)))
  once_of p g tail lo hi (Call f k ts) (e, e1, e2, lt, h) =
      (once_all p g (suc lo) hi ts h, λ i. let q = all_within p g (suc lo) hi ts k h i in absurd (omega (arith, q.above)))
  once_of p g tail lo hi (Loop m ts) (e, e1, h) = once_all p g lo hi ts h

  pub once_all : (p : Program) (g lo hi : ℕ) (ts : Terms) → SpansAll p g lo hi ts → OnceIn ts
  once_all p g lo hi Nil h = tt
  once_all p g lo hi (Cons t ts) (m, x, y) =
      (once_of p g false lo m t x, once_all p g m hi ts y, λ k i j. let q = stands_within p g false lo m t k x i in let r = all_within p g m hi ts k y j in absurd (omega (arith, q.below, r.above)))

pub loops_of : (p : Program) (g : ℕ) (tail : Bool) (lo hi : ℕ) (slots : List ℕ) (n : ℕ) (t : Term) (h : ℕ) → Spans p g tail lo hi t → HasWidth p slots
    t n → LoopsTo h t → (h < p.functions) × (p.unit h ≡ p.unit g)
unfolding LoopsTo
loops_of p g tail lo hi slots n (Const w) h x w' l = absurd l
loops_of p g tail lo hi slots n (Var i) h x w l = absurd l
loops_of p g tail lo hi slots n (Op o ts) h x w l = absurd l
loops_of p g tail lo hi slots n (If c a b) h (m, k, x, y, z) (u, v, w) (inl l) = loops_of p g tail m k slots n a h y v l
loops_of p g tail lo hi slots n (If c a b) h (m, k, x, y, z) (u, v, w) (inr l) = loops_of p g tail k hi slots n b h z w l
loops_of p g tail lo hi slots n (Let ts b) h (m, x, y) (ws, u, v) l = loops_of p g tail m hi (slots ++ ws) n b h y v l
loops_of p g tail lo hi slots n (Call f k ts) h x w l = absurd l
loops_of p g tail lo hi slots n (Loop i ts) h (e, e1, x) (u, v, w) l = (subst (λ j. j < p.functions) l w, ap p.unit (sym l) ∙ e1)

pub counts_as : (p : Program) (slots : List ℕ) (ts : Terms) (ws : List ℕ) → HaveWidths p slots ts ws → count ts ≡ length ws
counts_as p slots Nil [] h = refl
counts_as p slots Nil (w ∷ ws) h = absurd h
counts_as p slots (Cons t ts) [] h = absurd h
counts_as p slots (Cons t ts) (w ∷ ws) h = ap suc (counts_as p slots ts ws h.1)

mutual
  unfolding Counted

  pub counted_of : (p : Program) (g : ℕ) (tail : Bool) (lo hi : ℕ) (slots : List ℕ) (n : ℕ) (t : Term) → Spans p g tail lo hi t → HasWidth p slots t n → Counted p t
  counted_of p g tail lo hi slots n (Const w) h w' = tt
  counted_of p g tail lo hi slots n (Var i) h w = tt
  counted_of p g tail lo hi slots n (Op o ts) h (ws, u, e) = counted_all p g lo hi slots ws ts h u
  counted_of p g tail lo hi slots n (If c a b) (m, k, x, y, z) (u, v, w) =
      (counted_of p g false lo m slots 1 c x u, counted_of p g tail m k slots n a y v, counted_of p g tail k hi slots n b z w)
  counted_of p g tail lo hi slots n (Let ts b) (m, x, y) (ws, u, v) = (counted_all p g lo m slots ws ts x u, counted_of p g tail m hi (slots ++ ws) n b y v)
  counted_of p g tail lo hi slots n (Call f k ts) (e, e1, e2, lt, h) (u, v, w) =
      (counts_as p slots ts (p.params f) u ∙ ap (arity p) (sym e1), counted_all p g (suc lo) hi slots (p.params f) ts h u)
  counted_of p g tail lo hi slots n (Loop m ts) (e, e1, h) (u, v, w) = (counts_as p slots ts (p.params m) u, counted_all p g lo hi slots (p.params m) ts h u)

  pub counted_all : (p : Program) (g lo hi : ℕ) (slots ws : List ℕ) (ts : Terms) → SpansAll p g lo hi ts → HaveWidths p slots ts ws → CountedIn p ts
  counted_all p g lo hi slots ws Nil h w = tt
  counted_all p g lo hi slots [] (Cons t ts) h w = absurd w
  counted_all p g lo hi slots (n ∷ ws) (Cons t ts) (m, x, y) w = (counted_of p g false lo m slots n t x w.0, counted_all p g m hi slots ws ts y w.1)
