-- What stands at which number where a function is copied, and that no site is spared.
use Rattle.safl_reshape.proofs.Common.{Form, FunctionForm, Program, Term, Terms, Word}
use Rattle.std.proofs.Common.{◌≡◌, ℕ, zero, suc, ◌<◌, ◌≤◌, List, [], ◌∷◌, length, refl, sym, ap, subst, arith, inl, inr}
use Rattle.safl_term.specs.Meaning.{Gives, gives_const, gives_var, gives_op, gives_if, gives_let, gives_call, gives_loop, GivesAll, gives_nil, gives_cons}
use Rattle.safl_check.specs.Numbered.{program_in}
use Rattle.safl_reshape.specs.Executions.{executions, executions_all}
use Rattle.safl_reshape.proofs.Meanings.{BothAt, both_there, both_past, both_at, kept_length}
use Rattle.safl_reshape.proofs.Copying.{IsCopied, no_site}
use Rattle.safl_reshape.proofs.CopiedFunctions.{AllCopied}

pub copied_at : (C : Program) (j t : ℕ) (fs gs : List FunctionForm) (i y : ℕ) → AllCopied C j t fs gs → IsCopied t i y → BothAt C (IsCopied j) no_site fs gs i y
copied_at C j t [] gs i y h c = absurd h
copied_at C j t (f ∷ fs) [] i y h c = absurd h
copied_at C j zero (f ∷ fs) (g ∷ []) i y h c = absurd h
copied_at C j zero (f ∷ fs) (g ∷ (e ∷ gs)) zero y h (inl (le, q)) = subst (λ (x : ℕ). BothAt C (IsCopied j) no_site (f ∷ fs) (g ∷ (e ∷ gs)) zero x) (sym q) (both_there f g refl refl h.0)
copied_at C j zero (f ∷ fs) (g ∷ (e ∷ gs)) zero y h (inr (le, q)) = subst (λ (x : ℕ). BothAt C (IsCopied j) no_site (f ∷ fs) (g ∷ (e ∷ gs)) zero x) (sym q) (both_there f e refl refl h.1)
copied_at C j zero (f ∷ fs) (g ∷ (e ∷ gs)) (suc i) y h (inl (le, q)) = absurd (omega (arith, le))
copied_at C j zero (f ∷ fs) (g ∷ (e ∷ gs)) (suc i) y h (inr (le, q)) = subst
    (λ (x : ℕ). BothAt C (IsCopied j) no_site (f ∷ fs) (g ∷ (e ∷ gs)) (suc i) x) (sym q) (more (both_at C (IsCopied j) no_site fs gs i h.2))
  where
    more : BothAt C (IsCopied j) no_site fs gs i i → BothAt C (IsCopied j) no_site (f ∷ fs) (g ∷ (e ∷ gs)) (suc i) (suc (suc i))
    more (both_there a b p q k) = both_there a b p q k
    more (both_past p q) = both_past p q
copied_at C j (suc t) (f ∷ fs) (g ∷ gs) zero y h (inl (le, q)) = subst (λ (x : ℕ). BothAt C (IsCopied j) no_site (f ∷ fs) (g ∷ gs) zero x) (sym q) (both_there f g refl refl h.0)
copied_at C j (suc t) (f ∷ fs) (g ∷ gs) zero y h (inr (le, q)) = absurd (omega (arith, le))
copied_at C j (suc t) (f ∷ fs) (g ∷ gs) (suc i) zero h (inl (le, q)) = absurd (omega (arith, q))
copied_at C j (suc t) (f ∷ fs) (g ∷ gs) (suc i) zero h (inr (le, q)) = absurd (omega (arith, q))
copied_at C j (suc t) (f ∷ fs) (g ∷ gs) (suc i) (suc y) h c = more (copied_at C j t fs gs i y h.1 (less c))
  where
    less : IsCopied (suc t) (suc i) (suc y) → IsCopied t i y
    less (inl (le, q)) = inl (omega (arith, le), omega (arith, q))
    less (inr (le, q)) = inr (omega (arith, le), omega (arith, q))

    more : BothAt C (IsCopied j) no_site fs gs i y → BothAt C (IsCopied j) no_site (f ∷ fs) (g ∷ gs) (suc i) (suc y)
    more (both_there a b p q k) = both_there a b p q k
    more (both_past p q) = both_past p q

pub copied_length : (C : Program) (j t : ℕ) (fs gs : List FunctionForm) → AllCopied C j t fs gs → length gs ≡ suc (length fs)
copied_length C j t [] gs h = absurd h
copied_length C j t (f ∷ fs) [] h = absurd h
copied_length C j zero (f ∷ fs) (g ∷ []) h = absurd h
copied_length C j zero (f ∷ fs) (g ∷ (e ∷ gs)) h = ap (λ (n : ℕ). suc (suc n)) (kept_length C (IsCopied j) no_site fs gs h.2)
copied_length C j (suc t) (f ∷ fs) (g ∷ gs) h = ap (λ (n : ℕ). suc n) (copied_length C j t fs gs h.1)

pub copied_some : (C : Program) (j t : ℕ) (fs gs : List FunctionForm) → AllCopied C j t fs gs → t < length fs
copied_some C j t [] gs h = absurd h
copied_some C j t (f ∷ fs) [] h = absurd h
copied_some C j zero (f ∷ fs) (g ∷ []) h = absurd h
copied_some C j zero (f ∷ fs) (g ∷ (e ∷ gs)) h = omega arith
copied_some C j (suc t) (f ∷ fs) (g ∷ gs) h = omega (arith, copied_some C j t fs gs h.1)

pub main_behind : (c e : Form) (j : ℕ) → length e.functions ≡ suc (length c.functions) → j < length c.functions → (j ≤ (program_in c).main) × ((program_in e).main ≡ suc ((program_in c).main))
unfolding program_in
main_behind c e j l lt = (omega arith, omega (arith, l))

-- ---- no site is spared

mutual
  pub none_spared : (C : Program) {env : List Word} {t : Term} {v : Word} (d : Gives C env t v) → executions C no_site d ≡ 0
  none_spared C gives_const = refl
  none_spared C gives_var = refl
  none_spared C (gives_op ds) = none_spared_all C ds
  none_spared C (gives_if c d) = omega (arith, none_spared C c, none_spared C d)
  none_spared C (gives_let ds d) = omega (arith, none_spared_all C ds, none_spared C d)
  none_spared C (gives_call ds d) = omega (arith, none_spared_all C ds, none_spared C d)
  none_spared C (gives_loop ds d) = omega (arith, none_spared_all C ds, none_spared C d)

  none_spared_all : (C : Program) {env : List Word} {ts : Terms} {vs : List Word} (d : GivesAll C env ts vs) → executions_all C no_site d ≡ 0
  none_spared_all C gives_nil = refl
  none_spared_all C (gives_cons d ds) = omega (arith, none_spared C d, none_spared_all C ds)
