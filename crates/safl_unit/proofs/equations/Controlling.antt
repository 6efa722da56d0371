-- The bits that the named wires copy.
use Rattle.safl_unit.proofs.Common.{Builds, Choice, Controls, Cycle, HasControls, IsSource, Load, Netlist, Outcomes, Pins, Program, Returns}
use Rattle.safl_unit.proofs.Common.{Sig, Val, Wired, get_map, get_some, length-map, maybe_load_kept, on, one_some, source_kept}
use Rattle.std.proofs.Common.{◌≡◌, ℕ, zero, suc, ◌<◌, ◌≤◌, List, length, map, slice_get, Option, Some, None, false, is_some, sym, ap, subst, ◌∙◌, arith}
use Rattle.safl_circuit.specs.Equations.{Registers, Inputs, want}
use Rattle.safl_lower.specs.Tables.{pin, load_bit, bit_or, entry_in, taken_in, FitsIn}
use Rattle.safl_unit.specs.Stages.{HasReturns, HasOutcomes, HasGoes}
use Rattle.safl_unit.proofs.equations.Keeping.{cycle_before}
use Rattle.safl_unit.proofs.equations.Tables.{pin_is}
use Rattle.safl_unit.proofs.equations.Granting.{gated, want_shown}

-- the pin of a mapped table
pin_map : {A : Type 0} (f : A → Sig) (xs : List A) (ys : List Sig) (i : ℕ) (x : A) → ys ≡ map f xs → slice_get xs i ≡ Some x → pin ys i ≡ f x
pin_map f xs ys i x e g = ap (λ (zs : List Sig). pin zs i) e ∙ pin_is (map f xs) i (f x) (get_map f xs i x g)

-- a bit that is never on stands for a load that isn't there
bit_shown : (v : Val) (s : Sig) (o : Option Load) → on v s ≡ false → on v (bit_or s o) ≡ is_some (taken_in v o)
bit_shown v s None e = e
bit_shown v s (Some l) e = sym (gated (on v l.bit) _)

bit_fits : (n : Netlist) (s : Sig) (o : Option Load) (ws : List ℕ) → IsSource n s 1 → FitsIn n o ws → IsSource n (bit_or s o) 1
bit_fits n s None ws h f = h
bit_fits n s (Some l) ws h f = f.bit

module _ (C : Program) (P : Choice) (a b : Netlist) (p : Pins) (R : Returns) (O : Outcomes) (goes : List Sig) (T : Controls) (never : Sig)
    (built : Builds a b 1) (rs : HasReturns C P a p R) (os : HasOutcomes C P a p O) (gs : HasGoes C P a p goes)
    (source : IsSource b never 1) (off : (v : Val) → Wired b v → on v never ≡ false) (ends : T.ends.items ≡ map load_bit O.ends.items)
    (loops : T.loops.items ≡ map (bit_or never) O.loops.items) (wants : T.wants.items ≡ map load_bit O.wants.items)
    (rets : T.rets.items ≡ R.ret.items) (starts : T.goes.items ≡ goes) where
  end_at : (f : ℕ) → f < C.functions → (l : Load) × (slice_get O.ends.items f ≡ Some l)
  end_at f l = let e = os.fits.ends_length in get_some O.ends.items f (omega (arith, e, l))

  loop_at : (f : ℕ) → f < C.functions → (o : Option Load) × (slice_get O.loops.items f ≡ Some o)
  loop_at f l = let e = os.fits.loops_length in get_some O.loops.items f (omega (arith, e, l))

  want_at : (k : ℕ) → k ≤ C.sites → (l : Load) × (slice_get O.wants.items k ≡ Some l)
  want_at k l = let e = os.fits.wants_length in get_some O.wants.items k (omega (arith, e, l))

  pub has_controls : HasControls C P b p T
  has_controls = record {
    fits = record {
      ends_length = ap (λ (xs : List Sig). length xs) ends ∙ length-map O.ends.items load_bit ∙ os.fits.ends_length;
      loops_length = ap (λ (xs : List Sig). length xs) loops ∙ length-map O.loops.items (bit_or never) ∙ os.fits.loops_length;
      wants_length = ap (λ (xs : List Sig). length xs) wants ∙ length-map O.wants.items load_bit ∙ os.fits.wants_length;
      rets_length = ap (λ (xs : List Sig). length xs) rets ∙ rs.fits.ret_length;
      goes_length = ap (λ (xs : List Sig). length xs) starts ∙ gs.count;
      ends = λ f l. let at = end_at f l in subst (λ (s : Sig). IsSource b s 1) (sym (pin_map load_bit O.ends.items T.ends.items f at.0 ends at.1)) (source_kept built (os.fits.ends f at.0 at.1).bit);
      loops = λ f l. let at = loop_at f l in subst (λ (s : Sig). IsSource b s 1) (sym (pin_map (bit_or never) O.loops.items T.loops.items f at.0 loops at.1))
          (bit_fits b never at.0 (C.params f) source (fits_kept f at.0 at.1));
      wants = λ k o l. let at = want_at k l in subst (λ (s : Sig). IsSource b s 1)
          (sym (pin_map load_bit O.wants.items T.wants.items k at.0 wants at.1)) (source_kept built (os.fits.wants k at.0 at.1).bit);
      rets = λ k o l. subst (λ (xs : List Sig). IsSource b (pin xs k) 1) (sym rets) (source_kept built (rs.fits.ret k o l));
      goes = λ k l. subst (λ (xs : List Sig). IsSource b (pin xs k) 1) (sym starts) (source_kept built (gs.fits k l));
    };
    ends = λ v r i c f l. let at = end_at f l in ap (on v) (pin_map load_bit O.ends.items T.ends.items f at.0 ends at.1) ∙ sym
        (gated (on v at.0.bit) _) ∙ ap (λ (o : Option Load). is_some (taken_in v o)) (sym at.1)
        ∙ ap is_some ((os.shows v r i (cycle_before built c)).ends f l) ∙ one_some _;
    loops = λ v r i c f l. let at = loop_at f l in ap (on v) (pin_map (bit_or never) O.loops.items T.loops.items f at.0 loops at.1) ∙ bit_shown v
        never at.0 (off v c.wired) ∙ ap (λ (o : Option (Option Load)). is_some (taken_in v (entry_in o))) (sym at.1)
        ∙ ap is_some ((os.shows v r i (cycle_before built c)).loops f l);
    wants = λ v r i c k o l. want_is v r i c k o l;
    rets = λ v r i c k o l. ap (λ (xs : List Sig). on v (pin xs k)) rets ∙ (rs.shows v r i (cycle_before built c)).ret k o l;
    goes = λ v r i c k l. ap (λ (xs : List Sig). on v (pin xs k)) starts ∙ gs.shows v r i (cycle_before built c) k l;
  }
    where
      fits_kept : (f : ℕ) (o : Option Load) → slice_get O.loops.items f ≡ Some o → FitsIn b o (C.params f)
      fits_kept f o e = subst (λ (x : Option (Option Load)). FitsIn b (entry_in x) (C.params f)) e (maybe_load_kept built (entry_in (slice_get O.loops.items f)) (C.params f) (os.fits.loops f))

      want_is : (v : Val) (r : Registers) (i : Inputs) → Cycle C P b p v r i → (k : ℕ) → 0 < k → k ≤ C.sites → on v (pin T.wants.items k) ≡ want C P r k
      want_is v r i c zero o l = absurd (omega (arith, o))
      want_is v r i c (suc m) o l = let at = want_at (suc m) l in ap (on v) (pin_map load_bit O.wants.items T.wants.items (suc m) at.0 wants at.1)
          ∙ want_shown C P r i v O.wants.items m at.0 at.1 ((os.shows v r i (cycle_before built c)).wants (suc m) l)
