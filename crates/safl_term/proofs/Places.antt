-- The sites of a well-formed term lie in its interval, and each stands once.
use Rattle.safl_term.proofs.Common.{Program, Spans, SpansAll, Word, choose, pick}
use Rattle.std.proofs.Common.{◌≡◌, ℕ, zero, suc, ◌<◌, ◌≤◌, List, Bool, false, arith}
use Rattle.safl_term.proofs.Shows.{Asks, a_here, a_arg, a_loop, a_op, a_cond, a_branch, a_bind, a_body, AsksIn, a_head, a_tail}
use Rattle.safl_term.specs.Readiness.{Stage}
use Rattle.safl_term.specs.Terms.{Term, Const, Var, If, Let, Op, Call, Loop, Terms, Nil, Cons}

mutual
  pub fits_le : (p : Program) (g : ℕ) (tail : Bool) (lo hi : ℕ) (t : Term) → Spans p g tail lo hi t → lo ≤ hi
  fits_le p g tail lo hi (Const w) h = omega arith
  fits_le p g tail lo hi (Var i) h = omega arith
  fits_le p g tail lo hi (If c a b) (m, n, x, y, z) = omega (arith, fits_le p g false lo m c x, fits_le p g tail m n a y, fits_le p g tail n hi b z)
  fits_le p g tail lo hi (Let ts b) (m, x, y) = omega (arith, fits_all_le p g lo m ts x, fits_le p g tail m hi b y)
  fits_le p g tail lo hi (Op o ts) h = fits_all_le p g lo hi ts h
  fits_le p g tail lo hi (Call f k ts) (e, e1, e2, lt, h) = omega (arith, fits_all_le p g (suc lo) hi ts h)
  fits_le p g tail lo hi (Loop f ts) (e, e1, h) = fits_all_le p g lo hi ts h

  pub fits_all_le : (p : Program) (g lo hi : ℕ) (ts : Terms) → SpansAll p g lo hi ts → lo ≤ hi
  fits_all_le p g lo hi Nil h = omega arith
  fits_all_le p g lo hi (Cons t ts) (m, x, y) = omega (arith, fits_le p g false lo m t x, fits_all_le p g m hi ts y)

-- the branch that a word selects, and its interval within that of both
pub record Chosen (p : Program) (g : ℕ) (tail : Bool) (m hi : ℕ) (t : Term) : Type 0 where
  pub low : ℕ
  pub high : ℕ
  pub above : m ≤ low
  pub below : high ≤ hi
  pub fits : Spans p g tail low high t

fits_choose_pick : (p : Program) (g : ℕ) (tail : Bool) (m n hi : ℕ) (a b : Term) (u : ℕ) → Spans p g tail m n a → Spans p g tail n hi b → Chosen p g tail m hi (pick u a b)
fits_choose_pick p g tail m n hi a b zero x y = record { low = n; high = hi; above = fits_le p g tail m n a x; below = omega arith; fits = y }
fits_choose_pick p g tail m n hi a b (suc zero) x y = record { low = m; high = n; above = omega arith; below = fits_le p g tail n hi b y; fits = x }
fits_choose_pick p g tail m n hi a b (suc (suc u)) x y = record { low = n; high = hi; above = fits_le p g tail m n a x; below = omega arith; fits = y }

pub fits_choose : (p : Program) (g : ℕ) (tail : Bool) (m n hi : ℕ) (a b : Term) (u : Word) → Spans p g tail m n a → Spans p g tail n hi b → Chosen p g tail m hi (choose u a b)
fits_choose p g tail m n hi a b u x y = fits_choose_pick p g tail m n hi a b u.bits x y

pub record Placed (p : Program) (g lo hi k : ℕ) : Type 0 where
  pub above : lo ≤ k
  pub below : k < hi
  pub caller : p.caller k ≡ g
  pub lower : p.unit (p.callee k) < p.unit g

placed_in : (p : Program) (g lo hi lo' hi' k : ℕ) → lo ≤ lo' → hi' ≤ hi → Placed p g lo' hi' k → Placed p g lo hi k
placed_in p g lo hi lo' hi' k x y h = record { above = omega (arith, h.above); below = omega (arith, h.below); caller = h.caller; lower = h.lower }

mutual
  pub place : (p : Program) (s : ℕ → Stage) (g : ℕ) (tail : Bool) (lo hi : ℕ) {env : List Word} {t : Term} {k : ℕ} {ws : List Word} → Spans p g tail lo hi t → Asks p s env t k ws → Placed p g lo hi k
  place p s g tail lo hi (e, e1, e2, lt, h) (a_here {ts = ts} ds) =
      record { above = omega arith; below = omega (arith, fits_all_le p g (suc lo) hi ts h); caller = e2; lower = rw e1 lt }
  place p s g tail lo hi (e, e1, e2, lt, h) (a_arg {k = k} a) = placed_in p g lo hi (suc lo) hi k (omega arith) (omega arith) (place_in p s g (suc lo) hi h a)
  place p s g tail lo hi (e, e1, h) (a_loop a) = place_in p s g lo hi h a
  place p s g tail lo hi h (a_op a) = place_in p s g lo hi h a
  place p s g tail lo hi (m, n, x, y, z) (a_cond {c = c} {a = a} {b = b} {k = k} q) =
      placed_in p g lo hi lo m k (omega arith) (omega (arith, fits_le p g tail m n a y, fits_le p g tail n hi b z)) (place p s g false lo m x q)
  place p s g tail lo hi (m, n, x, y, z) (a_branch {c = c} {a = a} {b = b} {u = u} {k = k} d q) =
      let ch = fits_choose p g tail m n hi a b u y z in
      placed_in p g lo hi ch.low ch.high k (omega (arith, fits_le p g false lo m c x, ch.above)) ch.below (place p s g tail ch.low ch.high ch.fits q)
  place p s g tail lo hi (m, x, y) (a_bind {b = b} {k = k} q) =
      placed_in p g lo hi lo m k (omega arith) (fits_le p g tail m hi b y) (place_in p s g lo m x q)
  place p s g tail lo hi (m, x, y) (a_body {ts = ts} {k = k} ds q) =
      placed_in p g lo hi m hi k (fits_all_le p g lo m ts x) (omega arith) (place p s g tail m hi y q)

  pub place_in : (p : Program) (s : ℕ → Stage) (g lo hi : ℕ) {env : List Word} {ts : Terms} {k : ℕ} {ws : List Word} → SpansAll p g lo hi ts → AsksIn p s env ts k ws → Placed p g lo hi k
  place_in p s g lo hi (m, x, y) (a_head {ts = ts} {k = k} q) = placed_in p g lo hi lo m k (omega arith) (fits_all_le p g m hi ts y) (place p s g false lo m x q)
  place_in p s g lo hi (m, x, y) (a_tail {t = t} {k = k} q) = placed_in p g lo hi m hi k (fits_le p g false lo m t x) (omega arith) (place_in p s g m hi y q)
