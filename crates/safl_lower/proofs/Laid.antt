-- Calls laid out by own site, one after another from the last.
use Rattle.safl_lower.proofs.Common.{Load, Netlist, Owner, Val, Want, Word, eqb_yes, gate, map_push, on, or_else, or_else_none, words}
use Rattle.std.proofs.Common.{◌≡◌, ℕ, zero, suc, ◌+◌, ◌-◌, ◌<◌, ◌≤◌, List, [], ◌∷◌, ◌++◌, map, length, Option, Some, None, Bool, true, false, ◌&&◌}
use Rattle.std.proofs.Common.{◌⊎◌, inl, inr, ◌==◌, T, slice_get, slice_set, refl, sym, ap, subst, ◌∙◌, arith}
use Rattle.safl_word.proofs.Lists.{slice_set_here, slice_set_length}
use Rattle.safl_lower.specs.Tables.{taken_in, taken_from, entry_in, FitsIn, LoadFits, SomeFit}
use Rattle.safl_lower.proofs.BitWords.{same}
use Rattle.safl_lower.specs.Entries.{asked, asks, site_of, Between, WantFits, WantsFit}
use Rattle.safl_lower.specs.Loads.{Differs, Apart, Listed, site_widths, Spreads, Placed}
use Rattle.safl_lower.proofs.Kept.{asked_end}

-- a call as a load
abbrev pub want_load : Want → Load
want_load e = record { bit = e.want; words = e.args }

-- there is no load
abbrev pub Lacks : List (Option Load) → ℕ → Type 0
Lacks xs i = entry_in (slice_get xs i) ≡ None

-- none of these sites has a load yet
abbrev pub Fresh : ℕ → List (Option Load) → List ℕ → Type 0
Fresh first xs [] = Unit {0}
Fresh first xs (k ∷ ks) = Lacks xs (k - first) × Fresh first xs ks

-- the calls of `rest` are still to be laid out
pub record SoFar (first count : ℕ) (all rest : List Want) (xs : List (Option Load)) : Type 0 where
  pub apart : Apart (map site_of rest)
  pub within : Between first (first + count) (map site_of rest)
  pub size : length xs ≡ count
  pub fresh : Fresh first xs (map site_of rest)
  pub left : (F : Owner) (n : Netlist) → WantsFit F n all → WantsFit F n rest
  pub fits : (F : Owner) (n : Netlist) → WantsFit F n all → SomeFit n xs (site_widths F first)
  pub called : (i : ℕ) → Listed (first + i) (map site_of all) → Listed (first + i) (map site_of rest) ⊎ (Lacks xs i → ⊥)
  pub told : (v : Val) (i : ℕ) → or_else (asked v rest (first + i)) (taken_from v xs i) ≡ asked v all (first + i)

all_fresh : (first : ℕ) (xs : List (Option Load)) (ks : List ℕ) → ((i : ℕ) → Lacks xs i) → Fresh first xs ks
all_fresh first xs [] h = tt
all_fresh first xs (k ∷ ks) h = (h (k - first), all_fresh first xs ks h)

pub none_fits : (n : Netlist) (xs : List (Option Load)) (i : ℕ) (ws : List ℕ) → Lacks xs i → FitsIn n (entry_in (slice_get xs i)) ws
none_fits n xs i ws e = subst (λ (o : Option Load). FitsIn n o ws) (sym e) tt

pub so_far_start : (first count : ℕ) (all : List Want) (xs : List (Option Load)) → Apart (map site_of all) → Between first (first + count)
    (map site_of all) → length xs ≡ count → ((i : ℕ) → Lacks xs i) → SoFar first count all all xs
so_far_start first count all xs a b e h = record {
  apart = a;
  within = b;
  size = e;
  fresh = all_fresh first xs (map site_of all) h;
  left = λ F n x. x;
  fits = λ F n x i. none_fits n xs i (site_widths F first i) (h i);
  called = λ i g. inl g;
  told = λ v i. ap (λ (o : Option Load). or_else (asked v all (first + i)) (taken_in v o)) (h i) ∙ or_else_none (asked v all (first + i));
}

differs_front : (k : ℕ) (js : List ℕ) (j : ℕ) → Differs k (js ++ j ∷ []) → Differs k js × (k ≡ j → ⊥)
differs_front k [] j h = (tt, h.0)
differs_front k (i ∷ js) j h = let r = differs_front k js j h.1 in ((h.0, r.0), r.1)

-- no number of the list is this
abbrev Others : List ℕ → ℕ → Type 0
Others [] j = Unit {0}
Others (k ∷ ks) j = (k ≡ j → ⊥) × Others ks j

apart_front : (ks : List ℕ) (j : ℕ) → Apart (ks ++ j ∷ []) → Apart ks × Others ks j
apart_front [] j h = (tt, tt)
apart_front (k ∷ ks) j h =
    let d = differs_front k ks j h.0 in
    let r = apart_front ks j h.1 in
    ((d.0, r.0), (d.1, r.1))

pub between_front : (a b : ℕ) (ks : List ℕ) (j : ℕ) → Between a b (ks ++ j ∷ []) → Between a b ks × (a ≤ j) × (j < b)
between_front a b [] j h = (tt, h.0, h.1)
between_front a b (k ∷ ks) j h = let r = between_front a b ks j h.2 in ((h.0, h.1, r.0), r.1, r.2)

fresh_front : (first : ℕ) (xs : List (Option Load)) (ks : List ℕ) (j : ℕ) → Fresh first xs (ks ++ j ∷ []) → Fresh first xs ks × Lacks xs (j - first)
fresh_front first xs [] j h = (tt, h.0)
fresh_front first xs (k ∷ ks) j h = let r = fresh_front first xs ks j h.1 in ((h.0, r.0), r.1)

listed_front : (x : ℕ) (ks : List ℕ) (k : ℕ) → Listed x (ks ++ k ∷ []) → Listed x ks ⊎ (k ≡ x)
listed_front x [] k (inl e) = inr e
listed_front x [] k (inr h) = absurd h
listed_front x (j ∷ ks) k (inl e) = inl (inl e)
listed_front x (j ∷ ks) k (inr h) = by (listed_front x ks k h)
  where
    by : Listed x ks ⊎ (k ≡ x) → Listed x (j ∷ ks) ⊎ (k ≡ x)
    by (inl g) = inl (inr g)
    by (inr e) = inr e

wants_front : (F : Owner) (n : Netlist) (es : List Want) (e : Want) → WantsFit F n (es ++ e ∷ []) → WantsFit F n es × WantFits F n e
wants_front F n [] e h = (tt, h.0)
wants_front F n (d ∷ es) e h = let r = wants_front F n es e h.1 in ((h.0, r.0), r.1)

pub set_other : {A : Type 0} (xs : List A) (j k : ℕ) (x : A) → (k ≡ j → ⊥) → slice_get (slice_set xs j x) k ≡ slice_get xs k
set_other [] j k x h = refl
set_other (y ∷ xs) zero zero x h = absurd (h refl)
set_other (y ∷ xs) zero (suc k) x h = refl
set_other (y ∷ xs) (suc j) zero x h = refl
set_other (y ∷ xs) (suc j) (suc k) x h = set_other xs j k x (λ e. h (ap suc e))

fresh_set : (first count : ℕ) (xs : List (Option Load)) (ks : List ℕ) (j : ℕ) (x : Option Load) → first ≤ j → Between first count ks → Others ks j →
    Fresh first xs ks → Fresh first (slice_set xs (j - first) x) ks
fresh_set first count xs [] j x l w o h = tt
fresh_set first count xs (k ∷ ks) j x l w o h =
    let low = w.0 in
    (ap entry_in (set_other xs (j - first) (k - first) x (λ e. o.0 (omega (arith, e, l, low)))) ∙ h.0, fresh_set first count xs ks j x l w.2 o.1 h.1)

pub no_equal : (j k : ℕ) → (j == k) ≡ false → k ≡ j → ⊥
no_equal j k e f = let g : (j == k) ≡ true = ap (λ (i : ℕ). j == i) f ∙ same j in absurd (cc)

-- one call is laid down
module _ {first count : ℕ} {all all_rest : List Want} (rest : List Want) (e : Want) {xs : List (Option Load)} (q : all_rest ≡ rest ++ e ∷ []) (h : SoFar first count all all_rest xs) where
  split : map site_of all_rest ≡ map site_of rest ++ e.site ∷ []
  split = ap (map site_of) q ∙ map_push site_of rest e

  pub last_within : (first ≤ e.site) × (e.site < first + count)
  last_within = let b = between_front first (first + count) (map site_of rest) e.site (subst (Between first (first + count)) split h.within) in (b.1, b.2)

  place_is : first + (e.site - first) ≡ e.site
  place_is = let b = last_within.0 in omega (arith, b)

  in_table : e.site - first < length xs
  in_table = let a = last_within.0 in let b = last_within.1 in let c = h.size in omega (arith, a, b, c)

  -- it is at its own site, and all else is as it was
  here : (i : ℕ) → (e.site == first + i) ≡ true → slice_get (slice_set xs (e.site - first) (Some (want_load e))) i ≡ Some (Some (want_load e))
  here i t =
      let s : e.site ≡ first + i = eqb_yes (subst T (sym t) tt) in
      let p : e.site - first ≡ i = omega (arith, s) in
      subst (λ (j : ℕ). slice_get (slice_set xs (e.site - first) (Some (want_load e))) j ≡ Some (Some (want_load e))) p (slice_set_here xs (e.site - first) (Some (want_load e)) in_table)

  other : (i : ℕ) → (e.site == first + i) ≡ false → slice_get (slice_set xs (e.site - first) (Some (want_load e))) i ≡ slice_get xs i
  other i t =
      let no = no_equal e.site (first + i) t in
      let at = place_is in
      set_other xs (e.site - first) i (Some (want_load e)) (λ s. no (omega (arith, s, at)))

  fits_at : (F : Owner) (n : Netlist) → WantsFit F n all → (i : ℕ) (t : Bool) → (e.site == first + i) ≡ t → FitsIn n
      (entry_in (slice_get (slice_set xs (e.site - first) (Some (want_load e))) i)) (site_widths F first i)
  fits_at F n w i true t =
      let s : e.site ≡ first + i = eqb_yes (subst T (sym t) tt) in
      let f = (wants_front F n rest e (subst (WantsFit F n) q (h.left F n w))).1 in
      subst (λ (o : Option (Option Load)). FitsIn n (entry_in o) (site_widths F first i)) (sym (here i t))
      (subst (λ (k : ℕ). LoadFits n (want_load e) (F.program.params (F.program.callee k))) s (record { bit = f.bit; words = f.sized }))
  fits_at F n w i false t = subst (λ (o : Option (Option Load)). FitsIn n (entry_in o) (site_widths F first i)) (sym (other i t)) (h.fits F n w i)

  called_at : (i : ℕ) (t : Bool) → (e.site == first + i) ≡ t → Listed (first + i) (map site_of all) → Listed (first + i) (map site_of rest) ⊎
      (Lacks (slice_set xs (e.site - first) (Some (want_load e))) i → ⊥)
  called_at i true t g = inr (λ (lacks : Lacks (slice_set xs (e.site - first) (Some (want_load e))) i). let is = ap entry_in (here i t) in absurd (cc))
  called_at i false t g = by (h.called i g)
    where
      among : Listed (first + i) (map site_of rest) ⊎ (e.site ≡ first + i) → Listed (first + i) (map site_of rest)
      among (inl x) = x
      among (inr s) = absurd (no_equal e.site (first + i) t (sym s))

      by : Listed (first + i) (map site_of all_rest) ⊎ (Lacks xs i → ⊥) → Listed (first + i) (map site_of rest) ⊎ (Lacks (slice_set xs (e.site - first) (Some (want_load e))) i → ⊥)
      by (inl k) = inl (among (listed_front (first + i) (map site_of rest) e.site (subst (Listed (first + i)) split k)))
      by (inr k) = inr (λ lacks. k (sym (ap entry_in (other i t)) ∙ lacks))

  told_at : (v : Val) (i : ℕ) (t : Bool) → (e.site == first + i) ≡ t → Lacks xs (e.site - first)
      → or_else (or_else (asked v rest (first + i)) (asks v e (first + i))) (taken_from v xs i) ≡ asked v all (first + i)
      → or_else (asked v rest (first + i)) (taken_from v (slice_set xs (e.site - first) (Some (want_load e))) i) ≡ asked v all (first + i)
  told_at v i true t lacks old =
      let s : e.site ≡ first + i = eqb_yes (subst T (sym t) tt) in
      let p : e.site - first ≡ i = omega (arith, s) in
      let mine = gate (on v e.want) (Some (words v e.args.items)) in
      let asks_is : asks v e (first + i) ≡ mine = ap (λ (b : Bool). gate (b && on v e.want) (Some (words v e.args.items))) t in
      let was : taken_from v xs i ≡ None = subst (λ (j : ℕ). taken_from v xs j ≡ None) p (ap (taken_in v) lacks) in
      ap (or_else (asked v rest (first + i))) (ap (λ (o : Option (Option Load)). taken_in v (entry_in o)) (here i t) ∙ sym asks_is)
      ∙ sym (or_else_none (or_else (asked v rest (first + i)) (asks v e (first + i))))
      ∙ ap (or_else (or_else (asked v rest (first + i)) (asks v e (first + i)))) (sym was) ∙ old
  told_at v i false t lacks old =
      let asks_is : asks v e (first + i) ≡ None = ap (λ (b : Bool). gate (b && on v e.want) (Some (words v e.args.items))) t in
      ap (λ (o : Option (Option Load)). or_else (asked v rest (first + i)) (taken_in v (entry_in o))) (other i t)
      ∙ ap (λ (y : Option (List Word)). or_else y (taken_from v xs i)) (sym (or_else_none (asked v rest (first + i))) ∙ ap (or_else (asked v rest (first + i))) (sym asks_is))
      ∙ old

  pub so_far_step : SoFar first count all rest (slice_set xs (e.site - first) (Some (want_load e)))
  so_far_step =
      let a = apart_front (map site_of rest) e.site (subst Apart split h.apart) in
      let b = between_front first (first + count) (map site_of rest) e.site (subst (Between first (first + count)) split h.within) in
      let f = fresh_front first xs (map site_of rest) e.site (subst (Fresh first xs) split h.fresh) in
      record {
        apart = a.0;
        within = b.0;
        size = slice_set_length xs (e.site - first) (Some (want_load e)) ∙ h.size;
        fresh = fresh_set first (first + count) xs (map site_of rest) e.site (Some (want_load e)) b.1 b.0 a.1 f.0;
        left = λ F n x. (wants_front F n rest e (subst (WantsFit F n) q (h.left F n x))).0;
        fits = λ F n x i. fits_at F n x i (e.site == first + i) refl;
        called = λ i g. called_at i (e.site == first + i) refl g;
        told = λ v i. told_at v i (e.site == first + i) refl f.1
            (ap (λ (y : Option (List Word)). or_else y (taken_from v xs i)) (sym (asked_end v rest e (first + i)))
            ∙ ap (λ (l : List Want). or_else (asked v l (first + i)) (taken_from v xs i)) (sym q) ∙ h.told v i);
      }

pub so_far_end : (first count : ℕ) (all rest : List Want) (xs : List (Option Load)) → rest ≡ [] → SoFar first count all rest xs → Placed first count all xs
so_far_end first count all rest xs q h = record {
  size = h.size;
  fits = h.fits;
  called = λ i g. by i (h.called i g);
  told = λ v i. ap (λ (l : List Want). or_else (asked v l (first + i)) (taken_from v xs i)) (sym q) ∙ h.told v i;
}
  where
    by : (i : ℕ) → Listed (first + i) (map site_of rest) ⊎ (Lacks xs i → ⊥) → Lacks xs i → ⊥
    by i (inl k) = absurd (subst (λ (es : List Want). Listed (first + i) (map site_of es)) q k)
    by i (inr k) = k

-- ---- where each site has a load

get_some : (xs : List Load) (i : ℕ) → entry_in (slice_get (map (λ (l : Load). Some l) xs) i) ≡ slice_get xs i
get_some [] i = refl
get_some (x ∷ xs) zero = refl
get_some (x ∷ xs) (suc i) = get_some xs i

as_long : (xs : List Load) → length (map (λ (l : Load). Some l) xs) ≡ length xs
as_long [] = refl
as_long (x ∷ xs) = ap suc (as_long xs)

pub all_placed : (first count : ℕ) (all : List Want) (table : List (Option Load)) (xs : List Load) → map (λ (l : Load). Some l) xs ≡ table → Placed first count all table → Spreads first count all xs
all_placed first count all table xs e h =
    let at : (i : ℕ) → entry_in (slice_get table i) ≡ slice_get xs i = λ i. ap (λ (l : List (Option Load)). entry_in (slice_get l i)) (sym e) ∙ get_some xs i in
    record {
      size = sym (as_long xs) ∙ ap length e ∙ h.size;
      fits = λ F n w i l p. subst (λ (o : Option Load). FitsIn n o (site_widths F first i)) (at i ∙ p) (h.fits F n w i);
      told = λ v i. sym (ap (taken_in v) (at i)) ∙ h.told v i;
    }

-- each site that is called has one
pub each_there : (first count : ℕ) (all : List Want) (table : List (Option Load)) → Placed first count all table →
    ((i : ℕ) → i < count → Listed (first + i) (map site_of all)) → (i : ℕ) → i < length table → entry_in (slice_get table i) ≡ None → ⊥
each_there first count all table h g i l = let s = h.size in h.called i (g i (omega (arith, l, s)))
