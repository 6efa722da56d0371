-- At most one valuation fits.
use Rattle.std.proofs.Common.{◌≡◌, ℕ, zero, suc, ◌<◌, List, [], ◌∷◌, length, Option, Some, None, refl, sym, ap, ◌∙◌, subst, arith}
use Rattle.std.specs.Prelude.{slice_get, slice_index}
use Rattle.safl_word.specs.Words.{Word}
use Rattle.safl_word.proofs.Lists.{map_at}
use Rattle.safl_net.specs.Netlist.{Netlist, Signal, Kind, Input, Reg, Wire, Cell, IsSet, AllSet, width_in}
use Rattle.safl_net.specs.Valuations.{Valuation, Holds, Fits, IsAcyclic, signal_word, cell_word}
use Rattle.safl_net.specs.Laws.{AtMostOneValuation}

beyond : (gs : List Signal) (v : Valuation) (s : ℕ) → length v ≡ length gs → slice_get gs s ≡ None → slice_index v s ≡ 0
beyond [] [] s len e = refl
beyond [] (x ∷ xs) s len e = absurd (omega (arith, len))
beyond (g ∷ gs) [] s len e = absurd (omega (arith, len))
beyond (g ∷ gs) (x ∷ xs) zero len e = absurd (cc)
beyond (g ∷ gs) (x ∷ xs) (suc s) len e = beyond gs xs s (omega (arith, len)) e

pub same_lists : (v w : Valuation) → length v ≡ length w → ((s : ℕ) → slice_index v s ≡ slice_index w s) → v ≡ w
same_lists [] [] len h = refl
same_lists [] (y ∷ ys) len h = absurd (omega (arith, len))
same_lists (x ∷ xs) [] len h = absurd (omega (arith, len))
same_lists (x ∷ xs) (y ∷ ys) len h = ap (λ a. a ∷ xs) (h 0) ∙ ap (λ l. y ∷ l) (same_lists xs ys (omega (arith, len)) (λ s. h (suc s)))

module _ (n : Netlist) (whole : AllSet n) (acyclic : IsAcyclic n) (state : ℕ → ℕ) (v w : Valuation) (fv : Fits n state v) (fw : Fits n state w)
    (inputs : (s : ℕ) (g : Signal) → slice_get n.signals s ≡ Some g → g.kind ≡ Input → slice_index v s ≡ slice_index w s) where
  -- a wire's number is below m
  abbrev Below : ℕ → ℕ → Type 0
  Below m s = (g : Signal) (d : Option Cell) → slice_get n.signals s ≡ Some g → g.kind ≡ Wire d → acyclic.rank s < m

  holds : (u : Valuation) → Fits n state u → (s : ℕ) (g : Signal) (k : Kind) → slice_get n.signals s ≡ Some g → g.kind ≡ k → Holds n u (state s) (slice_index u s) k
  holds u f s g k e is = subst (λ k. Holds n u (state s) (slice_index u s) k) is (f.each s g e).1

  cell_same : (s : ℕ) (g : Signal) (c : Cell) → slice_get n.signals s ≡ Some g → g.kind ≡ Wire (Some c) →
      ((i t : ℕ) → slice_get c.operands i ≡ Some t → slice_index v t ≡ slice_index w t) → slice_index v s ≡ slice_index w s
  cell_same s g c e is h =
      holds v fv s g (Wire (Some c)) e is
      ∙ ap (λ l. (cell_word c.op l).bits) (map_at (signal_word n v) (signal_word n w) c.operands
      (λ i t o. ap (λ b. (let x : Word = record { width = width_in (slice_get n.signals t); bits = b } in x)) (h i t o)))
      ∙ sym (holds w fw s g (Wire (Some c)) e is)

  low : (s : ℕ) → Below 0 s → slice_index v s ≡ slice_index w s
  low s below = by (slice_get n.signals s) refl
    where
      by_kind : (g : Signal) (k : Kind) → slice_get n.signals s ≡ Some g → g.kind ≡ k → slice_index v s ≡ slice_index w s
      by_kind g Input e is = inputs s g e is
      by_kind g (Reg init next) e is = holds v fv s g (Reg init next) e is ∙ sym (holds w fw s g (Reg init next) e is)
      by_kind g (Wire d) e is = let lt = below g d e is in absurd (omega (arith, lt))

      by : (o : Option Signal) → slice_get n.signals s ≡ o → slice_index v s ≡ slice_index w s
      by None e = beyond n.signals v s fv.full e ∙ sym (beyond n.signals w s fw.full e)
      by (Some g) e = by_kind g g.kind e refl

  same : (m s : ℕ) → Below m s → slice_index v s ≡ slice_index w s
  same zero s below = low s below
  same (suc m) s below = by (slice_get n.signals s) refl (λ t b. same m t b)
    where
      by_kind : (g : Signal) (k : Kind) → slice_get n.signals s ≡ Some g → g.kind ≡ k → ((t : ℕ) → Below m t → slice_index v t ≡ slice_index w t) → slice_index v s ≡ slice_index w s
      by_kind g Input e is ih = inputs s g e is
      by_kind g (Reg init next) e is ih = holds v fv s g (Reg init next) e is ∙ sym (holds w fw s g (Reg init next) e is)
      by_kind g (Wire None) e is ih = absurd (subst IsSet is (whole s g e))
      by_kind g (Wire (Some c)) e is ih =
          cell_same s g c e is (λ i t o. ih t (λ h d f k. let up = acyclic.rises s t i g h c d e is o f k in let lt = below g (Some c) e is in omega (arith, up, lt)))

      by : (o : Option Signal) → slice_get n.signals s ≡ o → ((t : ℕ) → Below m t → slice_index v t ≡ slice_index w t) → slice_index v s ≡ slice_index w s
      by None e ih = beyond n.signals v s fv.full e ∙ sym (beyond n.signals w s fw.full e)
      by (Some g) e ih = by_kind g g.kind e refl ih

  all_same : v ≡ w
  all_same = same_lists v w (fv.full ∙ sym fw.full) (λ s. same (suc (acyclic.rank s)) s (λ g d e k. omega arith))

pub one_valuation : AtMostOneValuation
one_valuation = all_same
