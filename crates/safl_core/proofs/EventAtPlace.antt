-- The event at a place among the enabled ones.
use Rattle.safl_core.proofs.Common.{Program, Word, can, cases_lt, from_bool, is_idle, unit_for}
use Rattle.std.proofs.Common.{◌≡◌, ℕ, zero, suc, ◌+◌, ◌*◌, ◌<◌, ◌≤◌, ⊎_elim, List, [], ◌∷◌, ◌++◌, length, take, cond, get_or, is_some, ◌&&◌, Some, Bool, true, false, refl, sym, ap, ◌∙◌, arith}
use Rattle.std.specs.Prelude.{sum, slice_get, not}
use Rattle.std.proofs.lemmas.List.{take_all, get_or_past, length-append}
use Rattle.std.proofs.lemmas.List.Sums.{sum_by_more}
use Rattle.safl_word.proofs.Lists.{get_front}
use Rattle.safl_word.proofs.Booleans.{bool_number}
use Rattle.safl_number_set.specs.Groups.{counted}
use Rattle.safl_number_set.proofs.WeighedLists.{weighed_long, weighed_at}
use Rattle.safl_calls.specs.Machine.{State, Event, Accept, Finish, Return, LoopInto, asked}
use Rattle.safl_calls.specs.Picks.{picks}
use Rattle.safl_core.specs.declared.enabled.Enabled.{Enabled}
use Rattle.safl_core.specs.Listing.{listed, busy, count_below}
use Rattle.safl_core.specs.Marking.{Marks, AreMarked, IsNth, marked}
use Rattle.safl_core.proofs.EnabledByPlace.{picks_zero, count_more, picked_at, count_none, count_suc}

bit_true : (b : Bool) → from_bool b ≡ 1 → b ≡ true
bit_true true e = refl
bit_true false e = absurd (omega arith)

abbrev same : ℕ → ℕ
same x = x

-- as many are picked below a number as there are bits
picked : (p : ℕ → Bool) (e : ℕ → Event) (n : ℕ) (s : List ℕ) → Marks p n s → (m : ℕ) → m ≤ n → length (picks p e m) ≡ sum (take m s)
picked p e n s h zero le = ap (λ (l : List Event). length l) (picks_zero p e)
picked p e n s h (suc m) le =
    let one : suc m ≡ m + 1 = omega arith in
    let before = picked p e n s h m (omega (arith, le)) in
    let more = count_more p e m in
    let step = sum_by_more same s m 0 (omega (arith, le, h.long)) in
    let at : get_or s m 0 ≡ cond (p m) 1 0 = h.each m (omega (arith, le)) ∙ bool_number (p m) in
    let right : sum (take (suc m) s) ≡ sum (take (m + 1) s) = ap (λ k. sum (take k s)) one in
    omega (arith, before, more, step, at, right)

all_picked : (p : ℕ → Bool) (e : ℕ → Event) (n : ℕ) (s : List ℕ) → Marks p n s → length (picks p e n) ≡ sum s
all_picked p e n s h = picked p e n s h n (omega arith) ∙ ap (λ (l : List ℕ). sum l) (take_all n s (omega (arith, h.long)))

counted_to : (p : ℕ → Bool) (n : ℕ) (s : List ℕ) → Marks p n s → (m : ℕ) → m ≤ n → count_below p m ≡ sum (take m s)
counted_to p n s h zero le = sym (count_none p)
counted_to p n s h (suc m) le =
    let one : suc m ≡ m + 1 = omega arith in
    let before = counted_to p n s h m (omega (arith, le)) in
    let more = count_suc p m in
    let step = sum_by_more same s m 0 (omega (arith, le, h.long)) in
    let at : get_or s m 0 ≡ cond (p m) 1 0 = h.each m (omega (arith, le)) ∙ bool_number (p m) in
    let right : sum (take (suc m) s) ≡ sum (take (m + 1) s) = ap (λ k. sum (take k s)) one in
    omega (arith, before, more, step, at, right)

pub busy_marked : {C : Program} {args : List Word} {s : State} {e : Enabled} → AreMarked C args s e → busy C s ≡ sum e.busy
busy_marked {C} {args} {s} {e} h =
    counted_to (λ u. not (is_idle (s.unit u))) C.functions e.busy h.busy C.functions (omega arith)
    ∙ ap (λ (l : List ℕ). sum l) (take_all C.functions e.busy (omega (arith, h.busy.long)))

-- a number with its bit is picked after those below it
picked_nth : (p : ℕ → Bool) (e : ℕ → Event) (n k i : ℕ) (s : List ℕ) → Marks p n s → k < n → get_or s k 0 ≡ 1 → i ≡ sum (take k s) → (slice_get (picks p e n) i ≡ Some (e k)) × (p k ≡ true)
picked_nth p e n k i s h lt one is =
    let yes : p k ≡ true = bit_true (p k) (sym (h.each k lt) ∙ one) in
    (ap (slice_get (picks p e n)) (is ∙ sym (picked p e n s h k (omega (arith, lt)))) ∙ picked_at p e k n lt yes, yes)

one_in : (s : List ℕ) (k : ℕ) → get_or s k 0 ≡ 1 → k < length s
one_in s k one = ⊎_elim (λ lt. lt) (λ ge. let past = get_or_past s k 0 ge in absurd (omega (arith, one, past))) (cases_lt k (length s))

within : (s : List ℕ) (k n : ℕ) → get_or s k 0 ≡ 1 → length s ≡ n → k < n
within s k n one long = let lt = one_in s k one in omega (arith, lt, long)

behind : (xs ys : List Event) (i : ℕ) (x : Event) → slice_get ys i ≡ Some x → slice_get (xs ++ ys) (length xs + i) ≡ Some x
behind [] ys i x e = let z : 0 + i ≡ i = omega arith in ap (slice_get ys) z ∙ e
behind (y ∷ xs) ys i x e = let z : suc (length xs) + i ≡ suc (length xs + i) = omega arith in ap (slice_get (y ∷ (xs ++ ys))) z ∙ behind xs ys i x e

behind_at : (xs ys : List Event) (i j n : ℕ) (x : Event) → length xs ≡ n → i ≡ n + j → slice_get ys j ≡ Some x → slice_get (xs ++ ys) i ≡ Some x
behind_at xs ys i j n x long is e = ap (slice_get (xs ++ ys)) (is ∙ ap (λ k. k + j) (sym long)) ∙ behind xs ys j x e

both_bits : (a b : Bool) → from_bool a * from_bool b ≡ from_bool (a && b)
both_bits true true = omega arith
both_bits true false = omega arith
both_bits false true = omega arith
both_bits false false = omega arith

module _ {C : Program} {args : List Word} {s : State} {e : Enabled} (h : AreMarked C args s e) where
  same_long : length e.accepts.within ≡ length e.accepts.group
  same_long = omega (arith, h.waits.long, h.called.long)

  -- what is counted are the sites whose calls can be accepted
  pub accepting : Marks (λ k. can C args s (Accept k)) (suc C.sites) (counted e.accepts)
  accepting = record {
    long = weighed_long (λ g. get_or e.accepts.opened g 0) e.accepts.group e.accepts.within same_long ∙ h.called.long;
    each = λ k lt.
        let le : k ≤ C.sites = omega (arith, lt) in
        weighed_at (λ g. get_or e.accepts.opened g 0) e.accepts.group e.accepts.within same_long k
        ∙ (ap (λ x. x * get_or e.accepts.opened (get_or e.accepts.group k 0) 0) (h.waits.each k lt)
        ∙ (ap (λ g. from_bool (is_some (asked C args s k)) * get_or e.accepts.opened g 0) (h.called.each k le)
        ∙ (ap (λ x. from_bool (is_some (asked C args s k)) * x) (h.idle.each (unit_for C k) (h.called.within k le))
        ∙ both_bits (is_some (asked C args s k)) (is_idle (s.unit (unit_for C k))))));
  }

  pub listed_long : length (listed C args s) ≡ marked e
  listed_long =
      let a = all_picked (λ k. can C args s (Accept k)) Accept (suc C.sites) (counted e.accepts) accepting in
      let f = all_picked (λ k. can C args s (Finish k)) Finish C.functions e.finishes h.finishes in
      let r = all_picked (λ k. can C args s (Return k)) Return (suc C.sites) e.returns h.returns in
      let l = all_picked (λ k. can C args s (LoopInto k)) LoopInto C.functions e.loops h.loops in
      let RL = picks (λ k. can C args s (Return k)) Return (suc C.sites) ++ picks (λ k. can C args s (LoopInto k)) LoopInto C.functions in
      let FRL = picks (λ k. can C args s (Finish k)) Finish C.functions ++ RL in
      let x = length-append (picks (λ k. can C args s (Accept k)) Accept (suc C.sites)) FRL in
      let y = length-append (picks (λ k. can C args s (Finish k)) Finish C.functions) RL in
      let z = length-append (picks (λ k. can C args s (Return k)) Return (suc C.sites)) (picks (λ k. can C args s (LoopInto k)) LoopInto C.functions) in
      omega (arith, a, f, r, l, x, y, z)

  pub nth_listed : (i : ℕ) (x : Event) → IsNth e i x → (slice_get (listed C args s) i ≡ Some x) × (can C args s x ≡ true)
  nth_listed i (Accept k) q =
      let p = picked_nth (λ k. can C args s (Accept k)) Accept (suc C.sites) k i (counted e.accepts) accepting
      (within (counted e.accepts) k (suc C.sites) q.0 accepting.long) q.0 q.1 in
      (get_front _ _ i (Accept k) p.0, p.1)
  nth_listed i (Finish k) q =
      let a = all_picked (λ k. can C args s (Accept k)) Accept (suc C.sites) (counted e.accepts) accepting in
      let p = picked_nth (λ k. can C args s (Finish k)) Finish C.functions k (sum (take k e.finishes)) e.finishes h.finishes (within e.finishes k C.functions q.0 h.finishes.long) q.0 refl in
      (behind_at _ _ i (sum (take k e.finishes)) (sum (counted e.accepts)) (Finish k) a q.1 (get_front _ _ (sum (take k e.finishes)) (Finish k) p.0), p.1)
  nth_listed i (Return k) q =
      let a = all_picked (λ k. can C args s (Accept k)) Accept (suc C.sites) (counted e.accepts) accepting in
      let f = all_picked (λ k. can C args s (Finish k)) Finish C.functions e.finishes h.finishes in
      let p = picked_nth (λ k. can C args s (Return k)) Return (suc C.sites) k (sum (take k e.returns)) e.returns h.returns (within e.returns k (suc C.sites) q.0 h.returns.long) q.0 refl in (
        behind_at _ _ i (sum e.finishes + sum (take k e.returns)) (sum (counted e.accepts)) (Return k) a q.1
            (behind_at _ _ (sum e.finishes + sum (take k e.returns)) (sum (take k e.returns)) (sum e.finishes) (Return k) f refl (get_front _ _ (sum (take k e.returns)) (Return k) p.0)),
        p.1,
      )
  nth_listed i (LoopInto k) q =
      let a = all_picked (λ k. can C args s (Accept k)) Accept (suc C.sites) (counted e.accepts) accepting in
      let f = all_picked (λ k. can C args s (Finish k)) Finish C.functions e.finishes h.finishes in
      let r = all_picked (λ k. can C args s (Return k)) Return (suc C.sites) e.returns h.returns in
      let p = picked_nth (λ k. can C args s (LoopInto k)) LoopInto C.functions k (sum (take k e.loops)) e.loops h.loops (within e.loops k C.functions q.0 h.loops.long) q.0 refl in (
        behind_at _ _ i (sum e.finishes + (sum e.returns + sum (take k e.loops))) (sum (counted e.accepts)) (LoopInto k) a q.1
            (behind_at _ _ (sum e.finishes + (sum e.returns + sum (take k e.loops))) (sum e.returns + sum (take k e.loops)) (sum e.finishes) (LoopInto k) f refl
            (behind_at _ _ (sum e.returns + sum (take k e.loops)) (sum (take k e.loops)) (sum e.returns) (LoopInto k) r refl p.0)),
        p.1,
      )
