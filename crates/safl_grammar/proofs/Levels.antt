-- Levels: what would begin too deep, and what is too high to be counted.
use Rattle.std.proofs.Common.{inl, ◌≡◌, ℕ, ◌<◌, Bool, false, List, [], ◌∷◌, ◌++◌, length, Option, Err, refl, sym, ap, subst, inr, length-append, arith}
use Rattle.safl_grammar.specs.Sets.{Set, Every}
use Rattle.safl_grammar.specs.Syntax.{Rule, Deep, Unexpected, Syntax, below, too_high}
use Rattle.safl_grammar.specs.Reading.{Reading, read_below}
use Rattle.safl_grammar.proofs.Parses.{Parses, At, Past, Stops, fault, err_parts, past_none, nil_front}

at_begin : {T A : Type 0} (s : Syntax T A) (e : Rule) (r : List T) → Deep ≡ e → At (below s) e [] r
at_begin s e r i = subst (λ (e : Rule). At (below s) e [] r) i (refl, refl)

module _ {T A : Type 0} (code : Option T → ℕ) (s : Syntax T A) (empty : s.begins []) (covered : (u : List T) (x : A) → s.derives u x → s.begins u)
    (shorter : (u v : List T) → s.begins (u ++ v) → s.begins u) (firm : (x : A) → s.derives [] x → ⊥) where
  is_bad : (w r : List T) (e : Rule) → fault {T = T} {A = A} Deep w ≡ Err (e, r) → (u : List T) × (w ≡ u ++ r) × s.begins u × At (below s) e u r
  is_bad w r e h = let p = err_parts {T = T} {A = A} Deep e w r h in ([], p.1, empty, at_begin s e r p.0)

  -- nothing is read at this level
  pub parses_below : (p : Reading T A) (t c : Syntax T A) (G L F : Set) → Parses code p t c false G L F → Parses code read_below (below s) (below c) false G Every F
  parses_below p t c G L F inner = record {
    done = λ w r x e. absurd cc;
    bad = is_bad;
    empty = empty;
    covered = covered;
    shorter = shorter;
    firm = λ n. firm;
    solid = inner.solid;
    whole = inner.whole;
    starts = inner.starts;
    limits = λ e t u h l. let i : t ∷ u ≡ [] = l.1 in absurd cc;
    opens = λ e h l. refl;
    ends = λ u r x d f. (tt, longer u r x d);
    past = λ u r b. tt;
    limit = λ e u r l. inr (ap (λ (l : List T). length (l ++ r)) (sym l.1), omega arith);
  }
    where
      longer : (u r : List T) (x : A) → c.derives u x → length r < length (u ++ r)
      longer [] r x d = absurd (inner.solid refl x d)
      longer (t ∷ u) r x d = omega (arith, length-append u r)

pub parses_lowest : {T A : Type 0} (code : Option T → ℕ) (G F : Set) → Parses code read_below (below (too_high {T = T} {A = A})) (below (too_high {T = T} {A = A})) false G Every F
parses_lowest {T} {A} code G F = record {
  done = λ w r x e. absurd cc;
  bad = is_bad code (too_high {T = T} {A = A}) refl (λ u x d. absurd d) nil_front (λ x d. d);
  empty = refl;
  covered = λ u x d. absurd d;
  shorter = nil_front;
  firm = λ n x d. d;
  solid = λ n x d. d;
  whole = λ u x d. absurd d;
  starts = λ t v b. absurd cc;
  limits = λ e t u h l. let i : t ∷ u ≡ [] = l.1 in absurd cc;
  opens = λ e h l. refl;
  ends = λ u r x d f. absurd d;
  past = λ u r b. tt;
  limit = λ e u r l. inr (ap (λ (l : List T). length (l ++ r)) (sym l.1), omega arith);
}

pub parses_high : {T A : Type 0} (code : Option T → ℕ) (p : Reading T A) (s c : Syntax T A) (N : Bool) (G L F : Set) → Parses code p s c N G L F → Parses code p s too_high N G L F
parses_high {T} {A} code p s c N G L F h = record {
  done = h.done;
  bad = h.bad;
  empty = h.empty;
  covered = h.covered;
  shorter = h.shorter;
  firm = h.firm;
  solid = λ n x d. d;
  whole = λ u x d. absurd d;
  starts = λ t v b. absurd cc;
  limits = λ e t u o l. absurd l;
  opens = λ e o l. absurd l;
  ends = λ u r x d f. absurd d;
  past = λ u r b. subst (λ (l : List T). Past (p (l ++ r)) r) (sym b) (past_none code p s c N G L F h r);
  limit = λ e u r l. absurd l;
}

-- sound for one syntax and complete for another
pub parses_mix : {T A : Type 0} {code : Option T → ℕ} {p : Reading T A} {s t c d : Syntax T A} {N : Bool} {G L F : Set} → Parses code p s d N G L F →
    Parses code p t c N G L F → Parses code p s c N G L F
parses_mix h k = record {
  done = h.done;
  bad = h.bad;
  empty = h.empty;
  covered = h.covered;
  shorter = h.shorter;
  firm = h.firm;
  solid = k.solid;
  whole = k.whole;
  starts = k.starts;
  limits = k.limits;
  opens = k.opens;
  ends = k.ends;
  past = k.past;
  limit = k.limit;
}

deep_stops : {T : Type 0} (A : Type 0) (e : Rule) (u r : List T) → Stops {A = A} e (read_below (u ++ r)) r
deep_stops A e [] r = inr (refl, omega arith)
deep_stops A e (t ∷ u) r = inl (omega (arith, length-append u r))

-- at the last level nothing is read, of whatever syntax
pub parses_deep : {T A : Type 0} {code : Option T → ℕ} {p : Reading T A} {s c : Syntax T A} {G L F : Set} → Parses code p s c false G L F → Parses code read_below (below too_high) c false G Every F
parses_deep {T} {A} {code} {p} {s} {c} {G} {L} {F} inner = record {
  done = λ w r x e. absurd cc;
  bad = is_bad code (too_high {T = T} {A = A}) refl (λ u x d. absurd d) nil_front (λ x d. d);
  empty = refl;
  covered = λ u x d. absurd d;
  shorter = nil_front;
  firm = λ n x d. d;
  solid = inner.solid;
  whole = inner.whole;
  starts = inner.starts;
  limits = inner.limits;
  opens = λ e h l. refl;
  ends = λ u r x d f. (tt, longer u r x d);
  past = λ u r b. tt;
  limit = λ e u r l. deep_stops A e u r;
}
  where
    longer : (u r : List T) (x : A) → c.derives u x → length r < length (u ++ r)
    longer [] r x d = absurd (inner.solid refl x d)
    longer (t ∷ u) r x d = omega (arith, length-append u r)

-- a reading that always fails is sound where nothing is derived
pub read_never : {T A : Type 0} → Reading T A
read_never w = Err (Unexpected, w)

pub parses_never : {T A : Type 0} (code : Option T → ℕ) (G L F : Set) → Parses code (read_never {T = T} {A = A}) too_high too_high false G L F
unfolding read_never
parses_never {T} {A} code G L F = record {
  done = λ w r x e. absurd cc;
  bad = λ w r e h. let q = err_parts {T = T} {A = A} Unexpected e w r h in ([], q.1, refl, subst (λ (e : Rule). At (too_high {T = T} {A = A}) e [] r) q.0 tt);
  empty = refl;
  covered = λ u x d. absurd d;
  shorter = nil_front;
  firm = λ n x d. d;
  solid = λ n x d. d;
  whole = λ u x d. absurd d;
  starts = λ t v b. absurd cc;
  limits = λ e t u h l. absurd l;
  opens = λ e h l. absurd l;
  ends = λ u r x d f. absurd d;
  past = λ u r b. omega (arith, length-append u r, ap length b);
  limit = λ e u r l. absurd l;
}
