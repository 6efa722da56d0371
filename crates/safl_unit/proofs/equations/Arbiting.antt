-- The sites of a unit in a row, one by one.
use Rattle.safl_unit.proofs.Common.{Builds, CheckedProgram, Choice, IsChecked, IsSource, Load, Netlist, Program, Sig, UnitPins, Val, Wired}
use Rattle.safl_unit.proofs.Common.{called, eq_flip, length-map, on, or-false, slice_get_read, summed, unit_for, wired_before}
use Rattle.std.proofs.Common.{◌≡◌, ℕ, zero, suc, ◌+◌, ◌-◌, ◌<◌, ◌≤◌, ◌==◌, ◌||◌, ◌&&◌, List, [], ◌∷◌, ◌++◌, length, length-append, map, take, cond, append_assoc}
use Rattle.std.proofs.Common.{not, ◌⊎◌, Bool, true, false, Option, Some, Vec, Global, is_some, slice_get, slice_index_or, inl, inr, refl, sym, ap}
use Rattle.std.proofs.Common.{subst, ◌∙◌, add-one, arith}
use Rattle.std.proofs.lemmas.Bool.{eq-eqb, ne_eqb, cases_eq}
use Rattle.std.proofs.Math.Seq.{take-append_seam}
use Rattle.safl_word.proofs.Lists.{get_end, get_in_front, get_pushed, get_some, nil_at_end}
use Rattle.safl_calls.specs.Picks.{first}
use Rattle.safl_circuit.specs.Equations.{Registers, Inputs, want, wants_at, go}
use Rattle.safl_lower.specs.Tables.{bit_or, on_in, taken_at, LoadsFit}
use Rattle.safl_lower.specs.Rows.{AreBits, on_any, frees, row_in, row_at}
use Rattle.safl_lower.proofs.JoinedRows.{any_append, row_kept, row_free, frees_long, bits_push}
use Rattle.safl_unit.specs.Arbiters.{want_at, site_row, RowsFree}
use Rattle.safl_unit.proofs.equations.Granting.{first_of, next_of, site_go, want_shown}

pub row_zero : (C : Program) (ls : List Load) (u : ℕ) → site_row C ls u 0 ≡ []
unfolding site_row
row_zero C ls u = refl

pub row_suc : (C : Program) (ls : List Load) (u m : ℕ) → site_row C ls u (suc m) ≡ site_row C ls u m ++ cond (u == unit_for C (suc m)) (want_at ls (suc m) ∷ []) []
unfolding site_row
row_suc C ls u m = refl

pub row_next : (C : Program) (ls : List Load) (u m : ℕ) → site_row C ls u (m + 1) ≡ site_row C ls u m ++ cond (u == unit_for C (suc m)) (want_at ls (suc m) ∷ []) []
row_next C ls u m = ap (site_row C ls u) (add-one m) ∙ row_suc C ls u m

pub no_rank : (xs : List ℕ) (x m q : ℕ) → xs ≡ x ∷ [] → slice_get xs (suc m) ≡ Some q → ⊥
no_rank xs x m q e f = let g = ap (λ (l : List ℕ). slice_get l (suc m)) e in absurd (cc)

-- a rank more
pub more_ranks : (R : ℕ → ℕ) (xs ys : List ℕ) (m r : ℕ) → ys ≡ xs ++ r ∷ [] → length xs ≡ suc m → r ≡ R m →
    ((j q : ℕ) → slice_get xs (suc j) ≡ Some q → q ≡ R j) → (j q : ℕ) → slice_get ys (suc j) ≡ Some q → q ≡ R j
more_ranks R xs ys m r e l f h j q g = elim (get_pushed xs r q (suc j) (subst (λ (k : List ℕ). slice_get k (suc j) ≡ Some q) e g)) [
  | inl k ↦ h j q k
  | inr k ↦ let at : j ≡ m = let a = k.0 in omega (arith, a, l) in k.1 ∙ f ∙ ap R (sym at)
]

pub row_there : (rows : List (Vec Sig Global)) (u : ℕ) (row : Vec Sig Global) (xs : List Sig) → u < length rows → row ≡ slice_index_or rows u row → xs ≡ row.items → xs ≡ row_at rows u
row_there rows u row xs l e f = f ∙ sym (ap row_in (slice_get_read rows (length rows) u row refl l e))

-- ---- a row shows which of its sites want

one_more : (v : Val) (t : Bool) (s : Sig) (w : Bool) → on v s ≡ w → on_any v (cond t (s ∷ []) []) ≡ (t && w)
one_more v true s w e = or-false (on v s) ∙ e
one_more v false s w e = refl

module _ (C : Program) (P : Choice) (r : Registers) (v : Val) (ls : List Load) (u : ℕ) (wants : (k : ℕ) → k < C.sites → on v (want_at ls (suc k)) ≡ want C P r (suc k)) where
  pub row_wants : (m : ℕ) → m ≤ C.sites → on_any v (site_row C ls u m) ≡ is_some (first (wants_at C P r u) (suc m))
  row_wants zero l = ap (on_any v) (row_zero C ls u) ∙ sym (first_of C P r u)
  row_wants (suc m) l =
      ap (on_any v) (row_suc C ls u m) ∙ any_append v (site_row C ls u m) (cond (u == unit_for C (suc m)) (want_at ls (suc m) ∷ []) [])
      ∙ ap (λ (b : Bool). b || on_any v (cond (u == unit_for C (suc m)) (want_at ls (suc m) ∷ []) [])) (row_wants m (omega (arith, l)))
      ∙ ap (λ (b : Bool). is_some (first (wants_at C P r u) (suc m)) || b) (one_more v (u == unit_for C (suc m)) (want_at ls (suc m)) (want C P r (suc m)) (wants m (omega (arith, l))))
      ∙ ap (λ (b : Bool). is_some (first (wants_at C P r u) (suc m)) || (b && want C P r (suc m))) (eq_flip u (unit_for C (suc m)))
      ∙ sym (next_of C P r u m)

pub row_front : (C : Program) (ls : List Load) (u m n : ℕ) → (more : List Sig) × (site_row C ls u (m + n) ≡ site_row C ls u m ++ more)
row_front C ls u m zero = ([], ap (site_row C ls u) (omega arith) ∙ nil_at_end (site_row C ls u m))
row_front C ls u m (suc n) =
    let h = row_front C ls u m n in
    let t = cond (u == unit_for C (suc (m + n))) (want_at ls (suc (m + n)) ∷ []) [] in
    (h.0 ++ t, ap (site_row C ls u) (omega arith) ∙ row_suc C ls u (m + n) ∙ ap (λ (l : List Sig). l ++ t) h.1 ∙ append_assoc (site_row C ls u m) h.0 t)

pub row_take : (C : Program) (ls : List Load) (u m n : ℕ) → m ≤ n → take (length (site_row C ls u m)) (site_row C ls u n) ≡ site_row C ls u m
row_take C ls u m n l =
    let d = n - m in
    let e : n ≡ m + d = omega (arith, l) in
    let h = row_front C ls u m d in
    ap (λ (k : ℕ). take (length (site_row C ls u m)) (site_row C ls u k)) e ∙ ap (take (length (site_row C ls u m))) h.1 ∙ take-append_seam (site_row C ls u m) h.0

-- ---- sums

tally_none : (g : ℕ → ℕ) → summed g 0 ≡ 0
tally_none g = refl

tally_suc : (g : ℕ → ℕ) (n : ℕ) → summed g (suc n) ≡ summed g n + g n
tally_suc g n = refl

room_by : (g : ℕ → ℕ) (m n : ℕ) → (m < n → summed g m + g m ≤ summed g n) → m < suc n → (m ≡ n) ⊎ (m ≡ n → ⊥) → summed g m + g m ≤ summed g (suc n)
room_by g m n h l (inl e) = let a = tally_suc g n in let b = ap (summed g) e in let d = ap g e in omega (arith, a, b, d)
room_by g m n h l (inr e) = let k = h (omega (arith, l, e)) in let a = tally_suc g n in omega (arith, k, a)

pub tally_room : (g : ℕ → ℕ) (m n : ℕ) → m < n → summed g m + g m ≤ summed g n
tally_room g m zero l = absurd (omega (arith, l))
tally_room g m (suc n) l = room_by g m n (tally_room g m n) l (cases_eq m n)

pub tally_cong : (g h : ℕ → ℕ) (n : ℕ) → ((u : ℕ) → g u ≡ h u) → summed g n ≡ summed h n
tally_cong g h zero e = tally_none g ∙ sym (tally_none h)
tally_cong g h (suc n) e = let a = tally_suc g n in let b = tally_suc h n in let d = tally_cong g h n e in let f = e n in omega (arith, a, b, d, f)

tally_sum : (g h : ℕ → ℕ) (n : ℕ) → summed (λ u. g u + h u) n ≡ summed g n + summed h n
tally_sum g h zero = let a = tally_none (λ u. g u + h u) in let b = tally_none g in let d = tally_none h in omega (arith, a, b, d)
tally_sum g h (suc n) = let a = tally_suc (λ u. g u + h u) n in let b = tally_suc g n in let d = tally_suc h n in let e = tally_sum g h n in omega (arith, a, b, d, e)

tally_one_none : (k n : ℕ) → n ≤ k → summed (λ u. cond (u == k) 1 0) n ≡ 0
tally_one_none k zero l = tally_none (λ u. cond (u == k) 1 0)
tally_one_none k (suc n) l =
    let a = tally_suc (λ u. cond (u == k) 1 0) n in
    let b = tally_one_none k n (omega (arith, l)) in
    let d = ap {B = ℕ} (λ (t : Bool). cond t 1 0) (ne_eqb n k (λ e. omega (arith, l, e))) in
    omega (arith, a, b, d)

one_at_most : (t : Bool) → cond t 1 0 ≤ 1
one_at_most true = omega arith
one_at_most false = omega arith

one_by : (k n : ℕ) → summed (λ u. cond (u == k) 1 0) n ≤ 1 → (n ≡ k) ⊎ (n ≡ k → ⊥) → summed (λ u. cond (u == k) 1 0) (suc n) ≤ 1
one_by k n h (inl e) = let a = tally_suc (λ u. cond (u == k) 1 0) n in let b = tally_one_none k n (omega (arith, e)) in let d = one_at_most (n == k) in omega (arith, a, b, d)
one_by k n h (inr e) = let a = tally_suc (λ u. cond (u == k) 1 0) n in let d = ap {B = ℕ} (λ (t : Bool). cond t 1 0) (ne_eqb n k e) in omega (arith, a, h, d)

tally_one : (k n : ℕ) → summed (λ u. cond (u == k) 1 0) n ≤ 1
tally_one k zero = let a = tally_none (λ u. cond (u == k) 1 0) in omega (arith, a)
tally_one k (suc n) = one_by k n (tally_one k n) (cases_eq n k)

one_long : (t : Bool) (s : Sig) → length (cond t (s ∷ []) []) ≡ cond t 1 0
one_long true s = refl
one_long false s = refl

pub rows_tally : (C : Program) (ls : List Load) (m n : ℕ) → summed (λ u. length (site_row C ls u m)) n ≤ m
rows_tally C ls zero n =
    let a = tally_cong (λ u. length (site_row C ls u 0)) (λ u. 0) n (λ u. ap (λ (l : List Sig). length l) (row_zero C ls u)) in
    let b = nothing n in
    omega (arith, a, b)
  where
    nothing : (n : ℕ) → summed (λ u. 0) n ≡ 0
    nothing zero = tally_none (λ u. 0)
    nothing (suc n) = let a = tally_suc (λ u. 0) n in let b = nothing n in omega (arith, a, b)
rows_tally C ls (suc m) n =
    let k = unit_for C (suc m) in
    let s = want_at ls (suc m) in
    let a = tally_cong (λ u. length (site_row C ls u (suc m))) (λ u. length (site_row C ls u m) + cond (u == k) 1 0) n
    (λ u. ap (λ (l : List Sig). length l) (row_suc C ls u m) ∙ length-append (site_row C ls u m) (cond (u == k) (s ∷ []) []) ∙ ap (λ (x : ℕ). length (site_row C ls u m) + x) (one_long (u == k) s)) in
    let b = tally_sum (λ u. length (site_row C ls u m)) (λ u. cond (u == k) 1 0) n in
    let d = tally_one k n in
    let e = rows_tally C ls m n in
    omega (arith, a, b, d, e)

-- ---- rows one by one

fits_push : (n : Netlist) (xs : List (Vec Sig Global)) (r : Vec Sig Global) → ((u : ℕ) → AreBits n (row_at xs u)) → AreBits n r.items → (u : ℕ) → AreBits n (row_at (xs ++ r ∷ []) u)
fits_push n [] r h q zero = q
fits_push n [] r h q (suc u) = tt
fits_push n (x ∷ xs) r h q zero = h 0
fits_push n (x ∷ xs) r h q (suc u) = fits_push n xs r (λ i. h (suc i)) q u

pub rows_more : (C : Program) (P : Choice) (a b : Netlist) (k : ℕ) (us : List UnitPins) (rows out after : List (Vec Sig Global)) (m : ℕ)
    (r : Vec Sig Global) (y : UnitPins) → Builds a b k → RowsFree C P a us rows out m → after ≡ out ++ r ∷ [] → AreBits b r.items → slice_get us m ≡ Some y
    → (P.arbiter (C.unit m) ≡ true → length r.items ≡ length (row_at rows m)) →
    ((v : Val) → Wired b v → P.arbiter (C.unit m) ≡ true → map (on v) r.items ≡ frees v (not (on v y.run)) (row_at rows m)) → RowsFree C P b us rows after (m + 1)
rows_more C P a b k us rows out after m r y built h e q g o f = subst (λ (l : List (Vec Sig Global)). RowsFree C P b us rows l (m + 1)) (sym e) record {
  count = let i = length-append out (r ∷ []) in let j = h.count in omega (arith, i, j);
  fits = fits_push b out r (λ u. row_kept built (row_at out u) (h.fits u)) q;
  long = λ u l t. own u l t (cases_eq u m);
  shows = λ v w u x l s t. by v w u x l s t (cases_eq u m);
}
  where
    own : (u : ℕ) → u < m + 1 → P.arbiter (C.unit u) ≡ true → (u ≡ m) ⊎ (u ≡ m → ⊥) → length (row_at (out ++ r ∷ []) u) ≡ length (row_at rows u)
    own u l t (inl z) =
        let there : slice_get (out ++ r ∷ []) u ≡ Some r = ap (slice_get (out ++ r ∷ [])) (z ∙ sym h.count) ∙ get_end out r in
        ap (λ (x : Option (Vec Sig Global)). length (row_in x)) there ∙ o (ap (λ (i : ℕ). P.arbiter (C.unit i)) (sym z) ∙ t) ∙ ap (λ (i : ℕ). length (row_at rows i)) (sym z)
    own u l t (inr z) =
        let i = h.count in
        ap (λ (x : Option (Vec Sig Global)). length (row_in x)) (get_in_front out (r ∷ []) u (omega (arith, l, z, i))) ∙ h.long u (omega (arith, l, z)) t

    by : (v : Val) → Wired b v → (u : ℕ) (x : UnitPins) → u < m + 1 → slice_get us u ≡ Some x → P.arbiter (C.unit u) ≡ true → (u ≡ m) ⊎ (u ≡ m → ⊥) →
        map (on v) (row_at (out ++ r ∷ []) u) ≡ frees v (not (on v x.run)) (row_at rows u)
    by v w u x l s t (inl z) =
        let there : slice_get (out ++ r ∷ []) u ≡ Some r = ap (slice_get (out ++ r ∷ [])) (z ∙ sym h.count) ∙ get_end out r in
        let same : y ≡ x = let i = ap (slice_get us) z in cc in
        ap (λ (o : Option (Vec Sig Global)). map (on v) (row_in o)) there ∙ f v w (ap (λ (i : ℕ). P.arbiter (C.unit i)) (sym z) ∙ t)
        ∙ ap (λ (i : UnitPins). frees v (not (on v i.run)) (row_at rows m)) same ∙ ap (λ (i : ℕ). frees v (not (on v x.run)) (row_at rows i)) (sym z)
    by v w u x l s t (inr z) =
        let i = h.count in
        ap (λ (o : Option (Vec Sig Global)). map (on v) (row_in o)) (get_in_front out (r ∷ []) u (omega (arith, l, z, i))) ∙ h.shows v (wired_before built.grows w) u x (omega (arith, l, z)) s t

-- ---- what is free for a site

pub row_long : (C : Program) (ls : List Load) (u m : ℕ) → m < C.sites → u ≡ unit_for C (suc m) → length (site_row C ls u m) < length (site_row C ls u C.sites)
row_long C ls u m l e =
    let d = C.sites - suc m in
    let k : C.sites ≡ suc m + d = omega (arith, l) in
    let h = row_front C ls u (suc m) d in
    let a = ap (λ (j : ℕ). length (site_row C ls u j)) k in
    let b = ap (λ (x : List Sig). length x) h.1 in
    let f = length-append (site_row C ls u (suc m)) h.0 in
    let g = ap (λ (x : List Sig). length x) (row_suc C ls u m) in
    let i = length-append (site_row C ls u m) (cond (u == unit_for C (suc m)) (want_at ls (suc m) ∷ []) []) in
    let j = ap (λ (t : Bool). length (cond t (want_at ls (suc m) ∷ []) [])) (eq-eqb u (unit_for C (suc m)) e) in
    omega (arith, a, b, f, g, i, j)

module _ (C : Program) (P : Choice) (r : Registers) (i : Inputs) (v : Val) (n : Netlist) (us : List UnitPins) (rows out : List (Vec Sig Global))
    (ls : List Load) (m rank : ℕ) (x : UnitPins) (h : RowsFree C P n us rows out C.functions) (w : Wired n v) (l : m < C.sites)
    (is : (u : ℕ) → row_at rows u ≡ site_row C ls u C.sites) (ranked : rank ≡ length (site_row C ls (unit_for C (suc m)) m))
    (within : unit_for C (suc m) < C.functions) (first_is : C.unit (unit_for C (suc m)) ≡ unit_for C (suc m))
    (at : slice_get us (unit_for C (suc m)) ≡ Some x) (runs : on v x.run ≡ r.run (unit_for C (suc m))) (wants : (k : ℕ) → k < C.sites → on v (want_at ls (suc k)) ≡ want C P r (suc k)) where
  pub free_in : P.arbiter (unit_for C (suc m)) ≡ true → on_in v (slice_get (row_at out (unit_for C (suc m))) rank) ≡
      (not (r.run (unit_for C (suc m))) && not (is_some (first (wants_at C P r (unit_for C (suc m))) (suc m))))
  free_in t =
      let u = unit_for C (suc m) in
      let e = h.shows v w u x within at (ap P.arbiter first_is ∙ t) in
      let a = ap (λ (k : List Bool). length k) e in
      let b = length-map (row_at out u) (on v) in
      let d = frees_long v (not (on v x.run)) (row_at rows u) in
      let f = ap (λ (k : List Sig). length k) (is u) in
      let g = row_long C ls u m l refl in
      let s = get_some (row_at out u) rank (omega (arith, a, b, d, f, g, ranked)) in
      ap (on_in v) s.1 ∙ row_free v (not (on v x.run)) (row_at rows u) (row_at out u) rank s.0 e (omega (arith, f, g, ranked)) s.1
      ∙ ap (λ (k : Bool). not k && not (on_any v (take rank (row_at rows u)))) runs
      ∙ ap (λ (k : List Sig). not (r.run u) && not (on_any v k)) (ap (take rank) (is u) ∙ ap (λ (k : ℕ). take k (site_row C ls u C.sites)) ranked ∙ row_take C ls u m C.sites (omega (arith, l)))
      ∙ ap (λ (k : Bool). not (r.run u) && not k) (row_wants C P r v ls u wants m (omega (arith, l)))

  pub go_is : on v (want_at ls (suc m)) ≡ want C P r (suc m) → cond (P.arbiter (unit_for C (suc m)))
      (on v (want_at ls (suc m)) && on_in v (slice_get (row_at out (unit_for C (suc m))) rank)) (on v (want_at ls (suc m))) ≡ go C P r i (suc m)
  go_is q =
      ap (λ (k : Bool). cond (P.arbiter (unit_for C (suc m))) (k && on_in v (slice_get (row_at out (unit_for C (suc m))) rank)) k) q
      ∙ by (P.arbiter (unit_for C (suc m))) refl ∙ site_go C P r i m
    where
      by : (t : Bool) → P.arbiter (unit_for C (suc m)) ≡ t → cond t (want C P r (suc m) && on_in v (slice_get (row_at out (unit_for C (suc m))) rank)) (want C P r (suc m))
          ≡ cond t (want C P r (suc m) && (not (r.run (unit_for C (suc m))) && not (is_some (first (wants_at C P r (unit_for C (suc m))) (suc m))))) (want C P r (suc m))
      by true e = ap (λ (k : Bool). want C P r (suc m) && k) (free_in e)
      by false e = refl

-- ---- the wants of sites

pub want_fits : (n : Netlist) (ls : List Load) (ws : ℕ → List ℕ) (sites k : ℕ) → LoadsFit n ls ws → length ls ≡ suc sites → k < sites → IsSource n (want_at ls (suc k)) 1
want_fits n ls ws sites k h e l = let t = get_some ls (suc k) (omega (arith, e, l)) in subst (λ (s : Sig). IsSource n s 1) (sym (ap (bit_or (record { 0 = 0 })) t.1)) (h (suc k) t.0 t.1).bit

pub row_fits : (C : Program) (n : Netlist) (ls : List Load) (u : ℕ) → ((k : ℕ) → k < C.sites → IsSource n (want_at ls (suc k)) 1) → (m : ℕ) → m ≤ C.sites → AreBits n (site_row C ls u m)
row_fits C n ls u h zero l = subst (AreBits n) (sym (row_zero C ls u)) tt
row_fits C n ls u h (suc m) l = subst (AreBits n) (sym (row_suc C ls u m)) (by (u == unit_for C (suc m)) (row_fits C n ls u h m (omega (arith, l))) (h m (omega (arith, l))))
  where
    by : (t : Bool) → AreBits n (site_row C ls u m) → IsSource n (want_at ls (suc m)) 1 → AreBits n (site_row C ls u m ++ cond t (want_at ls (suc m) ∷ []) [])
    by true q s = bits_push n (site_row C ls u m) (want_at ls (suc m)) q s
    by false q s = subst (AreBits n) (nil_at_end (site_row C ls u m)) q

pub want_on : (C : Program) (P : Choice) (r : Registers) (i : Inputs) (v : Val) (ls : List Load) (k : ℕ) → length ls ≡ suc C.sites → k < C.sites →
    taken_at v ls (suc k) ≡ called C P r i (suc k) → on v (want_at ls (suc k)) ≡ want C P r (suc k)
want_on C P r i v ls k e l h = let t = get_some ls (suc k) (omega (arith, e, l)) in ap (λ (s : Sig). on v s) (ap (bit_or (record { 0 = 0 })) t.1) ∙ want_shown C P r i v ls k t.0 t.1 h

-- a unit's first member is of the unit
pub unit_first : (a b : CheckedProgram) (m : ℕ) → IsChecked b → b ≡ a → m < b.program.sites → a.program.unit (unit_for a.program (suc m)) ≡ unit_for a.program (suc m)
unit_first a b m checked same l =
    let n = (checked.formed.calls (suc m) (omega arith) (omega (arith, l))).1 in
    let u = (checked.formed.first (b.program.callee (suc m)) n).1 in
    subst (λ (x : CheckedProgram). x.program.unit (unit_for x.program (suc m)) ≡ unit_for x.program (suc m)) same u
