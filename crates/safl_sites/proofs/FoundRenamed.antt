-- What a walk finds, under other names of the slots and the term.
use Rattle.safl_sites.proofs.Common.{Adds, Keeping, Program, SiteSet, Term, Terms}
use Rattle.std.proofs.Common.{◌≡◌, ℕ, List, [], ◌∷◌, ◌++◌, length, subst, refl, sym, ap, ◌∙◌}
use Rattle.std.specs.List.{insert}
use Rattle.safl_sites.specs.Keeping.{IsHeldHere, Walks, WalksIn, Binds}

module _ {C : Program} where
  -- by the node of a term
  pub walks_by : {R : List SiteSet} {f g : SiteSet} {a b : Keeping} {t u : Term} → t ≡ u → Walks C R f g a b u → Walks C R f g a b t
  walks_by {R} {f} {g} {a} {b} e h = subst (λ (x : Term). Walks C R f g a b x) (sym e) h

  pub walks_of : {R S : List SiteSet} {f g : SiteSet} {a b : Keeping} {t : Term} → S ≡ R → Walks C S f g a b t → Walks C R f g a b t
  walks_of {R} {S} {f} {g} {a} {b} {t} e h = subst (λ (l : List SiteSet). Walks C l f g a b t) e h

  pub walks_same : {R S : List SiteSet} {f g : SiteSet} {a b : Keeping} {ts : Terms} → S ≡ R → WalksIn C S f g a b ts → WalksIn C R f g a b ts
  walks_same {R} {S} {f} {g} {a} {b} {ts} e h = subst (λ (l : List SiteSet). WalksIn C l f g a b ts) e h

  pub binds_same : {R S M : List SiteSet} {a b : Keeping} {ts : Terms} → S ≡ R → Binds C S M a b ts → Binds C R M a b ts
  binds_same {R} {S} {M} {a} {b} {ts} e h = subst (λ (l : List SiteSet). Binds C l M a b ts) e h

  pub held_from : {X Y : Type 0} {M N : List SiteSet} {low high k : ℕ} {t : Term} → M ≡ N → low ≡ high → Adds X Y (IsHeldHere C M low k t) → Adds X Y (IsHeldHere C N high k t)
  held_from {X} {Y} {M} {N} {low} {high} {k} {t} e f h =
      subst (λ (l : List SiteSet). Adds X Y (IsHeldHere C l high k t)) e (subst (λ (n : ℕ). Adds X Y (IsHeldHere C M n k t)) f h)

insert_at : (R bound : List SiteSet) (x : SiteSet) → insert (R ++ bound) (length R) x ≡ R ++ (x ∷ bound)
insert_at [] bound x = refl
insert_at (r ∷ R) bound x = ap (λ l. r ∷ l) (insert_at R bound x)

pub inserted : (R bound M : List SiteSet) (at : ℕ) (x : SiteSet) → M ≡ R ++ bound → at ≡ length R → insert M at x ≡ R ++ (x ∷ bound)
inserted R bound M at x e f = ap (λ (l : List SiteSet). insert l at x) e ∙ (ap (λ n. insert (R ++ bound) n x) f ∙ insert_at R bound x)
