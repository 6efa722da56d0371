-- Counts, one site or function more.
use Rattle.std.proofs.Common.{◌≡◌, ◌≢◌, ℕ, ◌+◌, ◌<◌, ◌≤◌, ◌==◌, Bool, true, false, cond, List, length, map, get_or, slice_set, length-set, refl, sym}
use Rattle.std.proofs.Common.{ap, subst, ◌∙◌, arith, get_or-set_same, get_or-set_other}
use Rattle.std.specs.Prelude.{count_by}
use Rattle.std.specs.Int.{from_bool}
use Rattle.std.specs.List.{range_with_len}
use Rattle.std.proofs.lemmas.Bool.Decides.{Decides-eqb}
use Rattle.std.proofs.lemmas.List.FromFn.{length-map-range_with_len, sum_by-map-range_with_len_more}
use Rattle.std.proofs.lemmas.List.Sums.{count_by-le-length}
use Rattle.safl_term.specs.Program.{Program}
use Rattle.safl_report.specs.Counting.{calls_among, AreCalls}

-- a further number in a count
pub count_more : (p : ℕ → Bool) (f : ℕ → ℕ) (a n j : ℕ) → a + n ≡ j → count_by p (map f (range_with_len a (n + 1))) ≡ count_by p (map f (range_with_len a n)) + cond (p (f j)) 1 0
count_more p f a n j at = sum_by-map-range_with_len_more (λ (x : ℕ). cond (p x) 1 0) f a n j at

-- a count is no more than what is counted
pub count_most : (p : ℕ → Bool) (f : ℕ → ℕ) (a n : ℕ) → count_by p (map f (range_with_len a n)) ≤ n
count_most p f a n = subst (λ (m : ℕ). count_by p (map f (range_with_len a n)) ≤ m) (length-map-range_with_len f a n) (count_by-le-length p (map f (range_with_len a n)))

pub bool_few : (b : Bool) → from_bool b ≤ 1
bool_few true = omega arith
bool_few false = omega arith

module _ (C : Program) (n k : ℕ) (calls : List ℕ) (are : AreCalls C n calls) (at : 1 + n ≡ k) (low : C.callee k < C.functions) where
  entry : (f : ℕ) → f < C.functions → (b : Bool) → (C.callee k == f) ≡ b → get_or (slice_set calls (C.callee k) (get_or calls (C.callee k) 0 + 1)) f 0 ≡ calls_among C n f + cond b 1 0
  entry f lt true e =
      let u = C.callee k in
      let same : u ≡ f = (Decides-eqb u f).0 e in
      let within : u < length calls = omega (arith, are.count, low) in
      let here : get_or (slice_set calls u (get_or calls u 0 + 1)) u 0 ≡ calls_among C n u + 1 =
      get_or-set_same calls u (get_or calls u 0 + 1) 0 within ∙ ap (λ (m : ℕ). m + 1) (are.each u low) in
      subst (λ (g : ℕ). get_or (slice_set calls u (get_or calls u 0 + 1)) g 0 ≡ calls_among C n g + 1) same here
  entry f lt false e =
      let u = C.callee k in
      let other : f ≢ u = λ q. (let hit : (u == f) ≡ true = (Decides-eqb u f).1 (sym q) in cc) in
      let plain : calls_among C n f ≡ calls_among C n f + 0 = omega arith in
      get_or-set_other calls u f (get_or calls u 0 + 1) 0 other ∙ are.each f lt ∙ plain

  -- the call of a further site is counted
  pub calls_more : AreCalls C (n + 1) (slice_set calls (C.callee k) (get_or calls (C.callee k) 0 + 1))
  calls_more = record {
    count = length-set calls (C.callee k) (get_or calls (C.callee k) 0 + 1) ∙ are.count;
    each = λ f lt. entry f lt (C.callee k == f) refl ∙ sym (count_more (λ (g : ℕ). g == f) C.callee 1 n k at);
  }

-- no function is called more often than there are sites
pub calls_few : (C : Program) (n : ℕ) (calls : List ℕ) → AreCalls C n calls → (f : ℕ) → f < C.functions → get_or calls f 0 ≤ n
calls_few C n calls are f lt = subst (λ (m : ℕ). m ≤ n) (sym (are.each f lt)) (count_most (λ (g : ℕ). g == f) C.callee 1 n)
