-- Which sites of small programs are kept, and which conflict.
use Rattle.safl_sites.proofs.Common.{Call, Const, HasArbiter, Program, Term, Var, bool_at}
use Rattle.std.proofs.Common.{◌≡◌, ℕ, zero, suc, ◌<◌, [], ◌∷◌, true, false, refl, inl, inr, ◌⊎◌, ⊎_elim, arith}
use Rattle.std.proofs.lemmas.Bool.{false≢true}
use Rattle.safl_term.specs.Standing.{Stands}
use Rattle.safl_sites.specs.Conflicts.{Reaches, Here, Through, ReachesIn, Apart, ApartIn, Conflict}
use Rattle.safl_sites.specs.Kept.{feeds, Uses, Decides, InBody, Held, Kept}
use Rattle.safl_sites.proofs.SmallPrograms.{byte, just, next, sum, nested, bound, paired, decided}

one_two : (x y : ℕ) → x ≡ 1 → y ≡ 2 → x ≡ y → ⊥
one_two x y p q e = absurd (omega (arith, e, p, q))

-- the two calls of f are parallel
sum_conflict : Conflict sum 1 2
unfolding Apart ReachesIn Stands
sum_conflict = record { other = one_two 1 2 refl refl; same = refl; body = 1; is_body = omega arith; apart = inr (inl (Here (inl refl), inl (Here (inl refl)))) }

-- so are the bindings of a let
paired_conflict : Conflict paired 1 2
unfolding Apart ReachesIn Stands
paired_conflict = record { other = one_two 1 2 refl refl; same = refl; body = 1; is_body = omega arith; apart = inl (inr (inl (Here (inl refl), inl (Here (inl refl))))) }

sum_arbiter : HasArbiter sum 0
sum_arbiter = (1, 2, sum_conflict, refl)

-- x is used after the call in the let's body
bound_kept : Kept bound 1
unfolding feeds Uses InBody Held Stands
bound_kept = record { because = 2; other = one_two 1 2 refl refl; same = refl; why = inr (inr (inl (0, refl, inl (inl refl), Here (inl (inl refl))))) }

-- f(a) decides whether g is called, and f is called after it
decided_kept : Kept decided 1
unfolding feeds Decides Stands
decided_kept = record { because = 3; other = λ e. absurd (omega (arith, e)); same = refl; why = inr (inl (inl (inl (inl refl)), Here (inr (inl refl)))) }

-- where no site stands, none is in reach
none_reached : (C : Program) (k : ℕ) (t : Term) → ((j : ℕ) → Stands j t → ⊥) → Reaches C k t → ⊥
none_reached C k t none (Here s) = none k s
none_reached C k t none (Through a g s lt e r) = none a s

-- of one term alone, no two are parallel
alone_apart : (C : Program) (j k : ℕ) (t : Term) → ApartIn C j k (just t) → Apart C j k t
unfolding Apart ReachesIn
alone_apart C j k t (inl (inl a)) = a
alone_apart C j k t (inl (inr x)) = absurd x
alone_apart C j k t (inr (inl (r, x))) = absurd x
alone_apart C j k t (inr (inr (r, x))) = absurd x

leaf_reached : (C : Program) (k i : ℕ) → Reaches C k (Var i) → ⊥
unfolding Stands
leaf_reached C k i = none_reached C k (Var i) (λ j s. s)

next_apart : (C : Program) (j k : ℕ) → Apart C j k next → ⊥
unfolding Apart
next_apart C j k (inl (inl x)) = x
next_apart C j k (inl (inr x)) = alone_apart C j k (Const (byte 1)) x
next_apart C j k (inr (inl (r, x))) = leaf_reached C j 0 r
next_apart C j k (inr (inr (r, x))) = leaf_reached C k 0 r

-- f(f(a)) has no two parallel terms with sites, no condition and no let
nested_apart : (j k f : ℕ) → f < 2 → Apart nested j k (nested.body f) → ⊥
unfolding Apart
nested_apart j k zero lt a = next_apart nested j k a
nested_apart j k (suc zero) lt a =
    let inner : Apart nested j k (Call 0 2 (just (Var 0))) = alone_apart nested j k (Call 0 2 (just (Var 0))) a in
    alone_apart nested j k (Var 0) inner
nested_apart j k (suc (suc f)) lt a = absurd (omega (arith, lt))

neither : (⊥ ⊎ ⊥) ⊎ ⊥ → ⊥
neither (inl (inl x)) = x
neither (inl (inr x)) = x
neither (inr x) = x

nested_kept : (k : ℕ) → Kept nested k → ⊥
unfolding Decides Held
nested_kept k q = ⊎_elim (λ c. nested_apart _ _ c.body c.is_body c.apart) (⊎_elim (λ d. neither d.0) (λ h. neither h)) q.why

none_in : (C : Program) (k i : ℕ) → ReachesIn C k (just (Var i)) → ⊥
unfolding ReachesIn
none_in C k i (inl r) = leaf_reached C k i r
none_in C k i (inr x) = x

-- in f(x) + x the second operand has no site
bound_apart : (j k f : ℕ) → f < 2 → Apart bound j k (bound.body f) → ⊥
unfolding Apart
bound_apart j k zero lt a = next_apart bound j k a
bound_apart j k (suc zero) lt (inl a) = alone_apart bound j k (Var 0) (alone_apart bound j k (Call 0 1 (just (Var 0))) a)
bound_apart j k (suc zero) lt (inr (inl (inl a))) = alone_apart bound j k (Var 1) a
bound_apart j k (suc zero) lt (inr (inl (inr a))) = alone_apart bound j k (Var 1) a
bound_apart j k (suc zero) lt (inr (inr (inl (r, s)))) = none_in bound k 1 s
bound_apart j k (suc zero) lt (inr (inr (inr (r, s)))) = none_in bound j 1 s
bound_apart j k (suc (suc f)) lt a = absurd (omega (arith, lt))

not_fed : (i : ℕ) → bool_at (false ∷ []) i ≡ true → ⊥
not_fed zero e = false≢true e
not_fed (suc i) e = false≢true e

none_of_four : (⊥ ⊎ ⊥) ⊎ (⊥ ⊎ ⊥) → ⊥
none_of_four (inl (inl x)) = x
none_of_four (inl (inr x)) = x
none_of_four (inr (inl x)) = x
none_of_four (inr (inr x)) = x

none_of_all : ((⊥ ⊎ ⊥) ⊎ ⊥) ⊎ ((⊥ ⊎ ⊥) ⊎ (⊥ ⊎ ⊥)) → ⊥
none_of_all (inl x) = neither x
none_of_all (inr x) = none_of_four x

-- f(x) is read as soon as it is there
bound_spared : Kept bound 2 → ⊥
unfolding feeds Decides Held
bound_spared q = ⊎_elim (λ c. bound_apart _ _ c.body c.is_body c.apart) (⊎_elim (λ d. none_of_all d.0) (λ h. ⊎_elim (λ x. not_fed x.0 x.1) (λ x. none_of_all x) h)) q.why
