-- Units, functions and sites of a checked program follow each other.
use Rattle.safl_sites.proofs.Common.{CheckedProgram, IsChecked, Program, cases_eq, cases_lt, stands_within}
use Rattle.std.proofs.Common.{◌≡◌, ℕ, zero, suc, ◌<◌, ◌≤◌, Bool, true, sym, subst, inl, inr, arith}
use Rattle.safl_term.specs.Standing.{Stands, StandsIn}
use Rattle.safl_term.specs.Terms.{Term, Terms, Const, Var, Op, If, Let, Call, Loop, Nil, Cons}
use Rattle.safl_term.specs.WellFormed.{Spans, SpansAll}
use Rattle.safl_term.proofs.HeldByChecked.{first_site_rises, first_site_past}

mutual
  unfolding Stands

  -- each site of a term's interval stands there
  spans_stand : (C : Program) (g : ℕ) (tail : Bool) (lo hi : ℕ) (t : Term) (k : ℕ) → Spans C g tail lo hi t → lo ≤ k → k < hi → Stands k t
  spans_stand C g tail lo hi (Const w) k h p q = absurd (omega arith)
  spans_stand C g tail lo hi (Var i) k h p q = absurd (omega arith)
  spans_stand C g tail lo hi (Op o ts) k h p q = spans_all_stand C g lo hi ts k h p q
  spans_stand C g tail lo hi (If c a b) k (m, n, x, y, z) p q = elim (cases_lt k m) [
    | inl l ↦ inl (spans_stand C g _ lo m c k x p l)
    | inr l ↦ elim (cases_lt k n) [ inl r ↦ inr (inl (spans_stand C g tail m n a k y l r)) | inr r ↦ inr (inr (spans_stand C g tail n hi b k z r q)) ]
  ]
  spans_stand C g tail lo hi (Let ts b) k (m, x, y) p q = elim (cases_lt k m) [ inl l ↦ inl (spans_all_stand C g lo m ts k x p l) | inr l ↦ inr (spans_stand C g tail m hi b k y l q) ]
  spans_stand C g tail lo hi (Call f j ts) k (e, e1, e2, lt, h) p q = elim (cases_eq j k) [ inl f ↦ inl f | inr f ↦ inr (spans_all_stand C g (suc lo) hi ts k h (omega arith) q) ]
  spans_stand C g tail lo hi (Loop m ts) k (e, e1, h) p q = spans_all_stand C g lo hi ts k h p q

  spans_all_stand : (C : Program) (g lo hi : ℕ) (ts : Terms) (k : ℕ) → SpansAll C g lo hi ts → lo ≤ k → k < hi → StandsIn k ts
  spans_all_stand C g lo hi Nil k h p q = absurd (omega arith)
  spans_all_stand C g lo hi (Cons t ts) k (m, x, y) p q = elim (cases_lt k m) [ inl l ↦ inl (spans_stand C g _ lo m t k x p l) | inr l ↦ inr (spans_all_stand C g m hi ts k y l q) ]

-- a site, where it stands
pub record IsSited (p : CheckedProgram) (k : ℕ) : Type 0 where
  pub least : 1 ≤ k
  pub most : k ≤ p.program.sites
  pub within : p.program.caller k < p.program.functions
  pub from : p.first_site (p.program.caller k) ≤ k
  pub below : k < p.first_site (suc (p.program.caller k))
  pub stands : Stands k (p.program.body (p.program.caller k))

module _ (p : CheckedProgram) (h : IsChecked p) where
  abbrev C : Program
  C = p.program

  -- a function of a lower unit stands before
  pub lower_before : (f g : ℕ) → f < C.functions → g < C.functions → C.unit f < C.unit g → f < g
  lower_before f g x y less = elim (cases_lt f g) [
    | inl l ↦ l
    | inr l ↦ let e = h.groups g f x (omega (arith, (h.formed.first g y).0)) l in absurd (omega arith)
  ]

  sited_at : (f k : ℕ) → f < C.functions → Stands k (C.body f) → (C.caller k ≡ f) × (p.first_site f ≤ k) × (k < p.first_site (suc f))
  sited_at f k within s = let w = stands_within C f true _ _ (C.body f) k (h.own_sites f within) s in (w.caller, w.above, w.below)

  rises : (f g : ℕ) → f ≤ g → g ≤ C.functions → p.first_site f ≤ p.first_site g
  rises f zero le within = let e : f ≡ 0 = omega arith in subst (λ n. p.first_site n ≤ p.first_site 0) (sym e) (omega arith)
  rises f (suc g) le within = elim (cases_eq f (suc g)) [
    | inl e ↦ subst (λ n. p.first_site n ≤ p.first_site (suc g)) (sym e) (omega arith)
    | inr n ↦ let a = rises f g (omega arith) (omega arith) in let b = first_site_rises p g h (omega arith) in omega arith
  ]

  -- the function in whose interval the site is
  find : (f k : ℕ) → f ≤ C.functions → 1 ≤ k → k < p.first_site f → (g : ℕ) × (g < f) × (p.first_site g ≤ k) × (k < p.first_site (suc g))
  find zero k within least below = absurd (omega (arith, h.first_site))
  find (suc f) k within least below = elim (cases_lt k (p.first_site f)) [
    | inl l ↦ let (g, less, a, b) = find f k (omega arith) least l in (g, omega arith, a, b)
    | inr l ↦ (f, omega arith, l, below)
  ]

  pub sited : (k : ℕ) → 1 ≤ k → k ≤ C.sites → IsSited p k
  sited k least most =
      let (g, within, a, b) = find C.functions k (omega arith) least (omega (arith, first_site_past p)) in
      let s = spans_stand C g true _ _ (C.body g) k (h.own_sites g within) a b in
      let (e, x, y) = sited_at g k within s in
      record {
        least = least;
        most = most;
        within = subst (λ n. n < C.functions) (sym e) within;
        from = subst (λ n. p.first_site n ≤ k) (sym e) a;
        below = subst (λ n. k < p.first_site (suc n)) (sym e) b;
        stands = subst (λ n. Stands k (C.body n)) (sym e) s;
      }

  -- what stands in a body is a site of the program
  pub site_of_body : (f k : ℕ) → f < C.functions → Stands k (C.body f) → IsSited p k × (C.caller k ≡ f)
  site_of_body f k within s =
      let (e, x, y) = sited_at f k within s in
      let a = rises 0 f (omega arith) (omega arith) in
      let b = rises (suc f) C.functions (omega arith) (omega arith) in
      (sited k (omega (arith, h.first_site)) (omega (arith, first_site_past p)), e)

  -- the site of a later function stands later
  pub later_site : (j k : ℕ) → IsSited p j → IsSited p k → C.caller j < C.caller k → j < k
  later_site j k a b less = let r = rises (suc (C.caller j)) (C.caller k) (omega arith) (omega (arith, b.within)) in omega (arith, a.below, b.from)

  -- a site in a function's interval is one of its own
  pub own_site : (g k : ℕ) → g < C.functions → p.first_site g ≤ k → k < p.first_site (suc g) → IsSited p k × (C.caller k ≡ g)
  own_site g k within a b = site_of_body g k within (spans_stand C g true _ _ (C.body g) k (h.own_sites g within) a b)
