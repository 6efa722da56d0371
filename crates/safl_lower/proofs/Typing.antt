-- What the parts of a term are in its owner's body, and where its sites stand.
use Rattle.safl_lower.proofs.Common.{Primitive, Program, Spans, SpansAll, fits_all_le, fits_le}
use Rattle.std.proofs.Common.{◌≡◌, ℕ, suc, ◌<◌, ◌≤◌, List, [], ◌∷◌, ◌++◌, Bool, false, inl, inr, ⊎_elim, arith}
use Rattle.std.proofs.lemmas.Bool.{cases_lt}
use Rattle.safl_term.specs.Terms.{Term, Const, Var, Op, If, Let, Call, Loop, Terms, Nil, Cons}
use Rattle.safl_lower.specs.Typing.{Owner, Typed, TypedAll, sites_of, sites_in}
use Rattle.safl_lower.specs.Entries.{Between}
use Rattle.safl_lower.specs.Loads.{Differs, Apart, Listed}

module _ {F : Owner} {tail : Bool} {env : List ℕ} {w : ℕ} where
  pub test_typed : {c a b : Term} → Typed F tail env (If c a b) w → Typed F false env c 1
  test_typed {c} {a} {b} t =
      let s = t.spans in
      let x = fits_le F.program F.function tail s.0 s.1 a s.3 in
      let y = fits_le F.program F.function tail s.1 t.high b s.4 in
      record { low = t.low; high = s.0; from = t.from; upto = omega (arith, x, y, t.upto); spans = s.2; width = t.width.0 }

  pub yes_typed : {c a b : Term} → Typed F tail env (If c a b) w → Typed F tail env a w
  yes_typed {c} {a} {b} t =
      let s = t.spans in
      let x = fits_le F.program F.function false t.low s.0 c s.2 in
      let y = fits_le F.program F.function tail s.1 t.high b s.4 in
      record { low = s.0; high = s.1; from = omega (arith, x, t.from); upto = omega (arith, y, t.upto); spans = s.3; width = t.width.1 }

  pub no_typed : {c a b : Term} → Typed F tail env (If c a b) w → Typed F tail env b w
  no_typed {c} {a} {b} t =
      let s = t.spans in
      let x = fits_le F.program F.function false t.low s.0 c s.2 in
      let y = fits_le F.program F.function tail s.0 s.1 a s.3 in
      record { low = s.1; high = t.high; from = omega (arith, x, y, t.from); upto = t.upto; spans = s.4; width = t.width.2 }

  pub bound_typed : {bs : Terms} {b : Term} (t : Typed F tail env (Let bs b) w) → TypedAll F env bs t.width.0
  bound_typed {bs} {b} t =
      let s = t.spans in
      let y = fits_le F.program F.function tail s.0 t.high b s.2 in
      record { low = t.low; high = s.0; from = t.from; upto = omega (arith, y, t.upto); spans = s.1; widths = t.width.1 }

  pub body_typed : {bs : Terms} {b : Term} (t : Typed F tail env (Let bs b) w) → Typed F tail (env ++ t.width.0) b w
  body_typed {bs} {b} t =
      let s = t.spans in
      let x = fits_all_le F.program F.function t.low s.0 bs s.1 in
      record { low = s.0; high = t.high; from = omega (arith, x, t.from); upto = t.upto; spans = s.2; width = t.width.2 }

  pub parts_typed : {p : Primitive} {ts : Terms} (t : Typed F tail env (Op p ts) w) → TypedAll F env ts t.width.0
  parts_typed t = record { low = t.low; high = t.high; from = t.from; upto = t.upto; spans = t.spans; widths = t.width.1 }

  pub args_typed : {f k : ℕ} {ts : Terms} → Typed F tail env (Call f k ts) w → TypedAll F env ts (F.program.params f)
  args_typed t = record { low = suc t.low; high = t.high; from = let x = t.from in omega (arith, x); upto = t.upto; spans = t.spans.4; widths = t.width.0 }

  pub next_typed : {h : ℕ} {ts : Terms} → Typed F tail env (Loop h ts) w → TypedAll F env ts (F.program.params h)
  next_typed t = record { low = t.low; high = t.high; from = t.from; upto = t.upto; spans = t.spans.2; widths = t.width.0 }

-- ---- the first and the other terms of a list

-- ---- the sites of a term

between_more : (a b : ℕ) (ks js : List ℕ) → Between a b ks → Between a b js → Between a b (ks ++ js)
between_more a b [] js h i = i
between_more a b (k ∷ ks) js h i = (h.0, h.1, between_more a b ks js h.2 i)

between_wider : (a b c d : ℕ) (ks : List ℕ) → c ≤ a → b ≤ d → Between a b ks → Between c d ks
between_wider a b c d [] x y h = tt
between_wider a b c d (k ∷ ks) x y h = (omega (arith, h.0, x), omega (arith, h.1, y), between_wider a b c d ks x y h.2)

differs_below : (k lo hi : ℕ) (js : List ℕ) → k < lo → Between lo hi js → Differs k js
differs_below k lo hi [] l h = tt
differs_below k lo hi (j ∷ js) l h = (λ e. absurd (omega (arith, l, h.0, e)), differs_below k lo hi js l h.2)

differs_more : (k : ℕ) (ks js : List ℕ) → Differs k ks → Differs k js → Differs k (ks ++ js)
differs_more k [] js h i = i
differs_more k (x ∷ ks) js h i = (h.0, differs_more k ks js h.1 i)

apart_more : (lo m hi : ℕ) (ks js : List ℕ) → Apart ks → Apart js → Between lo m ks → Between m hi js → Apart (ks ++ js)
apart_more lo m hi [] js a b x y = b
apart_more lo m hi (k ∷ ks) js a b x y = (differs_more k ks js a.0 (differs_below k m hi js x.1 y), apart_more lo m hi ks js a.1 b x.2 y)

apart_last : (k lo hi : ℕ) (js : List ℕ) → k < lo → Apart js → Between lo hi js → Apart (js ++ k ∷ [])
apart_last k lo hi [] l a h = (tt, tt)
apart_last k lo hi (j ∷ js) l a h = (differs_more j js (k ∷ []) a.0 (λ e. absurd (omega (arith, l, h.0, e)), tt), apart_last k lo hi js l a.1 h.2)

pub record Places (lo hi : ℕ) (ks : List ℕ) : Type 0 where
  pub between : Between lo hi ks
  pub apart : Apart ks
  pub listed : (k : ℕ) → lo ≤ k → k < hi → Listed k ks

places_none : (lo hi : ℕ) → lo ≡ hi → Places lo hi []
places_none lo hi e = record { between = tt; apart = tt; listed = λ k a b. absurd (omega (arith, a, b, e)) }

listed_left : (k : ℕ) (ks js : List ℕ) → Listed k ks → Listed k (ks ++ js)
listed_left k [] js h = absurd h
listed_left k (x ∷ ks) js (inl e) = inl e
listed_left k (x ∷ ks) js (inr h) = inr (listed_left k ks js h)

listed_right : (k : ℕ) (ks js : List ℕ) → Listed k js → Listed k (ks ++ js)
listed_right k [] js h = h
listed_right k (x ∷ ks) js h = inr (listed_right k ks js h)

places_more : (lo m hi : ℕ) (ks js : List ℕ) → lo ≤ m → m ≤ hi → Places lo m ks → Places m hi js → Places lo hi (ks ++ js)
places_more lo m hi ks js x y p q = record {
  between = between_more lo hi ks js (between_wider lo m lo hi ks (omega arith) y p.between) (between_wider m hi lo hi js x (omega arith) q.between);
  apart = apart_more lo m hi ks js p.apart q.apart p.between q.between;
  listed = λ k a b. ⊎_elim (λ l. listed_left k ks js (p.listed k a l)) (λ g. listed_right k ks js (q.listed k g b)) (cases_lt k m);
}

places_call : (k lo hi : ℕ) (ks : List ℕ) → k ≡ lo → suc lo ≤ hi → Places (suc lo) hi ks → Places lo hi (ks ++ k ∷ [])
places_call k lo hi ks e l p = record {
  between = between_more lo hi ks (k ∷ []) (between_wider (suc lo) hi lo hi ks (omega arith) (omega arith) p.between) (omega (arith, e), omega (arith, e, l), tt);
  apart = apart_last k (suc lo) hi ks (omega (arith, e)) p.apart p.between;
  listed = λ j a b. ⊎_elim (λ x. listed_right j ks (k ∷ []) (inl (omega (arith, x, a, e)))) (λ g. listed_left j ks (k ∷ []) (p.listed j g b)) (cases_lt j (suc lo));
}

mutual
  -- the sites of a term are those of its interval, and each stands once
  pub places : (p : Program) (g : ℕ) (tail : Bool) (lo hi : ℕ) (t : Term) → Spans p g tail lo hi t → Places lo hi (sites_of t)
  places p g tail lo hi (Const w) h = places_none lo hi h
  places p g tail lo hi (Var i) h = places_none lo hi h
  places p g tail lo hi (Op o ts) h = places_in p g lo hi ts h
  places p g tail lo hi (If c a b) (m, n, x, y, z) =
      let i = fits_le p g tail m n a y in
      let j = fits_le p g tail n hi b z in
      places_more lo m hi (sites_of c) (sites_of a ++ sites_of b) (fits_le p g false lo m c x) (omega (arith, i, j)) (places p g false lo m c x)
      (places_more m n hi (sites_of a) (sites_of b) i j (places p g tail m n a y) (places p g tail n hi b z))
  places p g tail lo hi (Let ts b) (m, x, y) = places_more lo m hi (sites_in ts) (sites_of b) (fits_all_le p g lo m ts x) (fits_le p g tail m hi b y)
      (places_in p g lo m ts x) (places p g tail m hi b y)
  places p g tail lo hi (Call f k ts) (e, e1, e2, lt, h) = places_call k lo hi (sites_in ts) e (fits_all_le p g (suc lo) hi ts h) (places_in p g (suc lo) hi ts h)
  places p g tail lo hi (Loop f ts) (e, e1, h) = places_in p g lo hi ts h

  pub places_in : (p : Program) (g lo hi : ℕ) (ts : Terms) → SpansAll p g lo hi ts → Places lo hi (sites_in ts)
  places_in p g lo hi Nil h = places_none lo hi h
  places_in p g lo hi (Cons t ts) (m, x, y) = places_more lo m hi (sites_of t) (sites_in ts) (fits_le p g false lo m t x) (fits_all_le p g m hi ts y)
      (places p g false lo m t x) (places_in p g m hi ts y)
