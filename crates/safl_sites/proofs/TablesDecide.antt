-- The tables decide the plan.
use Rattle.safl_sites.proofs.Common.{CheckedProgram, Collides, IsChecked, IsCollected, Program, SiteSet, arity, unit_for}
use Rattle.std.proofs.Common.{◌≡◌, ℕ, suc, ◌<◌, ◌⊎◌, false, replicate, get_or, refl, sym, ap, subst, ◌∙◌, inl, inr, arith}
use Rattle.safl_term.specs.Standing.{Stands, StandsIn}
use Rattle.safl_term.specs.Terms.{Term, Terms, Const, Var, Op, If, Let, Call, Loop, Nil, Cons}
use Rattle.safl_sites.specs.Bodies.{IsBodyKept, IsKeptBelow}
use Rattle.safl_sites.specs.Conflicts.{Reaches, Conflict}
use Rattle.safl_sites.specs.Kept.{Kept, Decides, Held}
use Rattle.safl_sites.specs.Parallel.{After, AfterIn, ComesBefore}
use Rattle.safl_sites.specs.Plan.{IsPlan}
use Rattle.safl_sites.specs.Planned.{Flags, choice_of}
use Rattle.safl_sites.specs.SiteSets.{has, Has, Adds}
use Rattle.safl_sites.proofs.EarlierConflicts.{conflict_of, conflict_by}
use Rattle.safl_sites.proofs.LetsReach.{body_reached}
use Rattle.safl_sites.proofs.NumbersFollow.{IsSited}
use Rattle.safl_sites.proofs.ReachBySites.{Hits, reaches_by, reaches_of}
use Rattle.safl_sites.proofs.BeforeByCalls.{before_by, after_stands}

module _ (C : Program) (x b : ℕ) where
  abbrev lift : (t u : Term) → ((a : ℕ) → Stands a t → Stands a u) → Reaches C x t → Reaches C x u
  lift t u up r = let (a, s, q) = reaches_by r in reaches_of a (up a s) q

  mutual
    unfolding After Stands

    -- what the earlier term has in reach is in reach of the whole
    after_reaches : (t : Term) → After C x b t → Reaches C x t
    after_reaches (Const w) h = absurd h
    after_reaches (Var i) h = absurd h
    after_reaches (Op o ts) h = let (a, s, q) = after_reaches_in ts h in reaches_of a s q
    after_reaches (If c y z) (inl h) = lift c (If c y z) (λ a s. inl s) (after_reaches c h)
    after_reaches (If c y z) (inr (inl h)) = lift y (If c y z) (λ a s. inr (inl s)) (after_reaches y h)
    after_reaches (If c y z) (inr (inr h)) = lift z (If c y z) (λ a s. inr (inr s)) (after_reaches z h)
    after_reaches (Let ts z) (inl h) = let (a, s, q) = after_reaches_in ts h in reaches_of a (inl s) q
    after_reaches (Let ts z) (inr h) = lift z (Let ts z) (λ a s. inr s) (after_reaches z h)
    after_reaches (Call f i ts) h = let (a, s, q) = after_reaches_in ts h in reaches_of a (inr s) q
    after_reaches (Loop f ts) h = let (a, s, q) = after_reaches_in ts h in reaches_of a s q

    after_reaches_in : (ts : Terms) → AfterIn C x b ts → (a : ℕ) × StandsIn a ts × Hits C x a
    after_reaches_in Nil h = absurd h
    after_reaches_in (Cons t ts) (inl (inl h)) = let (a, s, q) = reaches_by (after_reaches t h) in (a, inl s, q)
    after_reaches_in (Cons t ts) (inl (inr h)) = let (a, s, q) = after_reaches_in ts h in (a, inr s, q)
    after_reaches_in (Cons t ts) (inr (r, s)) = let (a, y, q) = reaches_by r in (a, inl y, q)

module _ (p : CheckedProgram) (h : IsChecked p) where
  abbrev C : Program
  C = p.program

  -- both are sites of the program
  comes_sited : (j k : ℕ) → ComesBefore C j k → IsSited p j × IsSited p k
  comes_sited j k c =
      let (b, a, q) = before_by C j k (C.body c.body) c.before in
      let s = after_stands C j b (C.body c.body) a in (
        body_reached p h c.body j c.is_body (after_reaches C j b (C.body c.body) a),
        body_reached p h c.body k c.is_body (reaches_of b s q),
      )

  collides : (j k : ℕ) → (k ≡ j → ⊥) → unit_for C j ≡ unit_for C k → ComesBefore C j k → Collides C C.sites k j
  collides j k differs same c =
      let s = comes_sited j k c in
      record { least = s.1.least; most = s.1.most; differs = differs; peer = record { least = s.0.least; most = s.0.most; unit = same }; before = c }

  of_collision : (i j : ℕ) → Collides C C.sites i j → Conflict C i j
  of_collision i j x = conflict_of C i j x.differs (sym x.peer.unit) (inr x.before)

  of_collision_back : (i j : ℕ) → Collides C C.sites i j → Conflict C j i
  of_collision_back i j x = conflict_of C j i (λ f. x.differs (sym f)) x.peer.unit (inl x.before)

  body_at : (g k : ℕ) → IsBodyKept C g k → Kept C k
  body_at g k b = record {
    because = b.because;
    other = b.other;
    same = b.same;
    why = inr
        (subst (λ n. (Decides k (replicate (arity C n) false) (C.body n) × Reaches C b.because (C.body n)) ⊎ Held C k b.because
        (replicate (arity C n) false) (C.body n)) (sym b.caller) b.why);
  }

  body_of : (k : ℕ) → IsKeptBelow C C.functions k → Kept C k
  body_of k y = body_at y.body k y.kept

  pub plan_is : (flags : Flags) (kept all : SiteSet) → IsCollected C C.sites flags.arbiters kept →
      ((k : ℕ) → Adds (Has kept k) (Has all k) (IsKeptBelow C C.functions k))
      → ((k : ℕ) → k < suc C.sites → get_or flags.keeps k false ≡ has all k) → IsPlan C (choice_of flags).arbiter (choice_of flags).kept
  unfolding choice_of
  plan_is flags kept all t more listed = record {
    arbiters = λ u. (
      λ x. let c = (t.units u).0 x in (c.later, c.earlier, of_collision c.later c.earlier c.collides, c.unit),
      λ x. (t.units u).1 (elim (conflict_by C x.0 x.1 x.2) [
        | inl c ↦ record { later = x.1; earlier = x.0; collides = collides x.0 x.1 (λ f. x.2.other (sym f)) x.2.same c; unit = sym x.2.same ∙ x.3 }
        | inr c ↦ record { later = x.0; earlier = x.1; collides = collides x.1 x.0 x.2.other (sym x.2.same) c; unit = x.3 }
      ]),
    );
    keeps = λ k least most. (
      λ x. elim ((more k).splits (sym (listed k (omega arith)) ∙ x)) [
        | inl y ↦
            let c = (t.sites k).0 y in
            elim c.one [
              | inl f ↦ record {
                because = c.earlier;
                other = λ g. c.collides.differs (sym f ∙ g);
                same = ap (λ n. unit_for C n) f ∙ sym
                    c.collides.peer.unit;
                why = inl (subst (λ n. Conflict C n c.earlier) (sym f) (of_collision c.later c.earlier c.collides));
              }
              | inr f ↦ record {
                because = c.later;
                other = λ g. c.collides.differs (sym g ∙ f);
                same = ap (λ n. unit_for C n) f ∙
                    c.collides.peer.unit;
                why = inl (subst (λ n. Conflict C n c.later) (sym f) (of_collision_back c.later c.earlier c.collides));
              }
            ]
        | inr y ↦ body_of k y
      ],
      λ x. listed k (omega arith) ∙ elim x.why [
        | inl c ↦ (more k).stays ((t.sites k).1 (elim (conflict_by C k x.because c) [
          | inl d ↦ record { later = x.because; earlier = k; collides = collides k x.because (λ f. x.other (sym f)) x.same d; one = inr refl }
          | inr d ↦ record { later = k; earlier = x.because; collides = collides x.because k x.other (sym x.same) d; one = inl refl }
        ]))
        | inr c ↦ (more k).joins (record {
          body = C.caller k;
          is_body = (h.formed.calls k least most).0;
          kept = record
              { least = omega (arith, least); most = most; caller = refl; because = x.because; other = x.other; same = x.same; why = c };
        })
      ],
    );
  }
