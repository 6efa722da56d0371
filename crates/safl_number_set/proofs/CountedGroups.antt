-- Numbers that are put in and taken out, and groups that are opened and closed.
use Rattle.safl_number_set.proofs.Common.{AreSummed, AreSums, Follows, Groups, IsBeside, Shifts, Tally, part, shift_of}
use Rattle.std.proofs.Common.{◌≡◌, ◌≢◌, ℕ, zero, suc, ◌+◌, ◌*◌, ◌/◌, ◌<◌, ◌≤◌, Bool, true, false, List, length, set, get_or, cond, refl, sym, ap, ◌∙◌, subst, ⊎_elim, arith, length-set}
use Rattle.std.specs.Int.{from_bool}
use Rattle.std.specs.Prelude.{sum, not}
use Rattle.std.proofs.lemmas.Bool.{cases_eq, eq-eqb, ne_eqb, cases_lt}
use Rattle.std.proofs.lemmas.List.{get_or-set_same, get_or-set_other, set_past, set-get_or}
use Rattle.std.specs.declared.alloc.Global.{Global}
use Rattle.std.specs.declared.vec.Vec.{Vec}
use Rattle.safl_number_set.specs.Groups.{AreGrouped, Tallies, weighed, counted, shown_groups, put_in, turned, only}
use Rattle.safl_number_set.proofs.SumsOfParts.{part_beside, part_sum, part_least, sums_set}
use Rattle.safl_number_set.proofs.WeighedLists.{weighed_long, weighed_at, weighed_set, weighed_bits, part_few, part_add, part_none, sum_most, only_bits}

pub bit_of : (x : ℕ) (b : Bool) → x ≤ 1 → (x ≡ from_bool b → ⊥) → x ≡ from_bool (not b)
bit_of x true le ne = omega (arith, le, ne)
bit_of x false le ne = omega (arith, le, ne)

pub bit_few : (b : Bool) → from_bool b ≤ 1
bit_few true = omega arith
bit_few false = omega arith

pub set_bits : (l : List ℕ) (i x : ℕ) → ((k : ℕ) → get_or l k 0 ≤ 1) → x ≤ 1 → (k : ℕ) → get_or (set l i x) k 0 ≤ 1
set_bits l i x bits le k = ⊎_elim
    (λ e. ⊎_elim
    (λ lt. let a : get_or (set l i x) k 0 ≡ x = ap (λ n. get_or (set l i x) n 0) e ∙ get_or-set_same l i x 0 lt in omega (arith, a, le))
    (λ past. let a : get_or (set l i x) k 0 ≡ get_or l k 0 = ap (λ (l : List ℕ). get_or l k 0) (set_past l i x past) in let b = bits k in omega (arith, a, b))
    (cases_lt i (length l)))
    (λ ne. let a = get_or-set_other l i k x 0 ne in let b = bits k in omega (arith, a, b))
    (cases_eq k i)

-- what goes into or out of a sum goes into or out of one part of it
pub shift_balance : (more : Bool) (x y b t by : ℕ) → x ≡ shift_of b by more → y ≡ shift_of t by more → cond more 0 by ≤ b → b ≤ t → y + b ≡ t + x
shift_balance true x y b t by e f g h = omega (arith, e, f, g, h)
shift_balance false x y b t by e f g h = omega (arith, e, f, g, h)

times_zero : (x y : ℕ) → y ≡ 0 → x * y ≡ 0
times_zero x zero q = omega arith
times_zero x (suc y) q = absurd (omega (arith, q))

times_one : (x y : ℕ) → y ≡ 1 → x * y ≡ x
times_one x zero q = absurd (omega (arith, q))
times_one x (suc zero) q = omega arith
times_one x (suc (suc y)) q = absurd (omega (arith, q))

-- ---- the sums of a set

module _ (s : Groups) (h : AreGrouped s) where
  pub counted_long : length (counted (shown_groups s)) ≡ length s.group.items
  counted_long = weighed_long (λ g. get_or s.opened.items g 0) s.group.items s.within.items h.long

  pub counted_at : (k : ℕ) → get_or (counted (shown_groups s)) k 0 ≡ get_or s.within.items k 0 * get_or s.opened.items (get_or s.group.items k 0) 0
  counted_at k = weighed_at (λ g. get_or s.opened.items g 0) s.group.items s.within.items h.long k

  pub counted_bits : (k : ℕ) → get_or (counted (shown_groups s)) k 0 ≤ 1
  counted_bits k = weighed_bits (λ g. get_or s.opened.items g 0) s.group.items s.within.items h.long h.bits h.opens k

  pub turned_bits : (g : ℕ) (more : Bool) (k : ℕ) → get_or (counted (turned (shown_groups s) g more)) k 0 ≤ 1
  turned_bits g more k = weighed_bits (λ i. get_or (set s.opened.items g (from_bool more)) i 0) s.group.items s.within.items h.long h.bits
      (λ i. set_bits s.opened.items g (from_bool more) h.opens (bit_few more) i) k

  -- a group may be open or not
  pub turned_grouped : (g : ℕ) (more : Bool) (opened : Vec ℕ Global) → opened.items ≡ set s.opened.items g (from_bool more)
      → AreGrouped (record s { opened = opened })
  turned_grouped g more opened is = record {
    few = h.few;
    below = λ k lt. let a = h.below k lt in omega (arith, a, opened_all);
    long = h.long;
    bits = h.bits;
    opens = λ i. let a : get_or opened.items i 0 ≡ get_or (set s.opened.items g (from_bool more)) i 0 = ap (λ (l : List ℕ). get_or l i 0) is in
        let b = set_bits s.opened.items g (from_bool more) h.opens (bit_few more) i in omega (arith, a, b);
    heads = omega (arith, h.heads, opened_all);
    linked = h.linked;
    parts_all = h.parts_all;
    parts = h.parts;
  }
    where
      opened_all : length opened.items ≡ length s.opened.items
      opened_all = ap (λ (l : List ℕ). length l) is ∙ length-set s.opened.items g (from_bool more)

  -- how many of a group's numbers in a block are in
  share_few : (g b : ℕ) → sum (part b (weighed (only g) s.group.items s.within.items)) ≤ 32
  share_few g b = part_few (weighed (only g) s.group.items s.within.items) (weighed_bits (only g) s.group.items s.within.items h.long h.bits (only_bits g)) b

  only_more : (g : ℕ) → (u w : ℕ → ℕ) → u g ≡ 0 → w g ≡ 1 → ((i : ℕ) → i ≢ g → w i ≡ u i) → (i : ℕ) → w i ≡ u i + only g i
  only_more g u w none one off i = ⊎_elim
      (λ e. let a : only g i ≡ 1 = ap (λ b. cond b 1 0) (eq-eqb i g e) in let x : w i ≡ 1 = ap w e ∙ one in let y : u i ≡ 0 = ap u e ∙ none in
      omega (arith, a, x, y))
      (λ ne. let a : only g i ≡ 0 = ap (λ b. cond b 1 0) (ne_eqb i g ne) in let x = off i ne in omega (arith, a, x))
      (cases_eq i g)

  -- where a group turns, the sum of each block has the group's share more, or less
  pub turned_part : (g : ℕ) (more : Bool) → g < length s.opened.items → get_or s.opened.items g 0 ≡ from_bool (not more) → (b : ℕ)
      → (sum (part b (counted (turned (shown_groups s) g more))) ≡ shift_of (sum (part b (counted (shown_groups s))))
      (sum (part b (weighed (only g) s.group.items s.within.items))) more)
      × (cond more 0 (sum (part b (weighed (only g) s.group.items s.within.items))) ≤ sum (part b (counted (shown_groups s))))
  turned_part g true lt was b =
      let add = part_add (λ i. get_or s.opened.items i 0) (only g) (λ i. get_or (set s.opened.items g 1) i 0)
      (only_more g (λ i. get_or s.opened.items i 0) (λ i. get_or (set s.opened.items g 1) i 0) was (get_or-set_same s.opened.items g 1 0 lt)
      (λ i ne. get_or-set_other s.opened.items g i 1 0 ne))
      b s.group.items s.within.items h.bits in
      (add, omega arith)
  turned_part g false lt was b =
      let add = part_add (λ i. get_or (set s.opened.items g 0) i 0) (only g) (λ i. get_or s.opened.items i 0)
      (only_more g (λ i. get_or (set s.opened.items g 0) i 0) (λ i. get_or s.opened.items i 0) (get_or-set_same s.opened.items g 0 0 lt) was
      (λ i ne. sym (get_or-set_other s.opened.items g i 0 0 ne)))
      b s.group.items s.within.items h.bits in
      (omega (arith, add), omega (arith, add))

-- ---- a group is counted, block by block

-- the blocks before an edge have their new sums, and the others the old ones
pub record Halfway (s : Groups) (g : ℕ) (more : Bool) (k : ℕ) (t : Tally) : Type 0 where
  pub edge : ℕ
  pub follows : Follows 0 s.group.items s.links.ends.items g edge k
  pub done : (b : ℕ) → b < edge → get_or t.blocks.items b 0 ≡ sum (part b (counted (turned (shown_groups s) g more)))
  pub left : (b : ℕ) → edge ≤ b → get_or t.blocks.items b 0 ≡ sum (part b (counted (shown_groups s)))
  pub enough : length s.group.items ≤ 32 * length t.blocks.items
  pub summed : AreSummed t

module _ (s : Groups) (h : AreGrouped s) (g : ℕ) (more : Bool) (lt : g < length s.opened.items) (was : get_or s.opened.items g 0 ≡ from_bool (not more)) where
  pub half_first : (t : Tally) → Tallies (counted (shown_groups s)) t → Halfway s g more (get_or s.links.heads.items g 0) t
  half_first t q = record {
    edge = 0;
    follows = h.linked.heads g (omega (arith, lt, h.heads));
    done = λ b l. absurd (omega (arith, l));
    left = λ b l. q.blocks.each b;
    enough = let a = counted_long s h in omega (arith, a, q.blocks.enough);
    summed = q.summed;
  }

  module _ (k : ℕ) (t : Tally) (q : Halfway s g more k t) where
    few : (b : ℕ) → get_or t.blocks.items b 0 ≤ 32
    few b = ⊎_elim
        (λ l. let a = q.done b l in let e = part_few (counted (turned (shown_groups s) g more)) (turned_bits s h g more) b in omega (arith, a, e))
        (λ l. let a = q.left b l in let e = part_few (counted (shown_groups s)) (counted_bits s h) b in omega (arith, a, e))
        (cases_lt b q.edge)

    -- a block without numbers of the group
    gap : (b : ℕ) → ((j : ℕ) → j < length s.group.items → j / 32 ≡ b → get_or s.group.items j 0 ≡ g → ⊥)
        → sum (part b (counted (turned (shown_groups s) g more))) ≡ sum (part b (counted (shown_groups s)))
    gap b never =
        let none = part_none s.group.items s.within.items h.long b g never in
        by more (turned_part s h g more lt was b).0 none
      where
        by : (m : Bool) {x y z : ℕ} → x ≡ shift_of y z m → z ≡ 0 → x ≡ y
        by true e n = omega (arith, e, n)
        by false e n = omega (arith, e, n)

    pub half_last : length s.group.items ≤ k → Tallies (counted (turned (shown_groups s) g more)) t
    half_last past = record {
      blocks = record {
        each = λ b. ⊎_elim
            (λ l. q.done b l)
            (λ l. q.left b l ∙ sym (gap b (λ j to on is. let f = q.follows.least j (omega arith) to is (omega (arith, l, on)) in omega (arith, f.0, past))))
            (cases_lt b q.edge);
        enough =
            let a = weighed_long (λ i. get_or (set s.opened.items g (from_bool more)) i 0) s.group.items s.within.items h.long in
            omega (arith, a, q.enough);
      };
      summed = q.summed;
    }

    module _ (in_set : k < length s.group.items) where
      pub share_is : get_or s.parts.items k 0 ≡ sum (part (k / 32) (weighed (only g) s.group.items s.within.items))
      share_is =
          ap (λ i. get_or s.parts.items i 0) (sym (q.follows.ends in_set))
          ∙ (h.parts k in_set ∙ ap (λ i. sum (part (k / 32) (weighed (only i) s.group.items s.within.items))) (q.follows.group in_set))

      pub block_in : k / 32 < length t.blocks.items
      block_in = omega (arith, in_set, q.enough)

      pub sums_fit : sum t.blocks.items + get_or s.parts.items k 0 ≤ 6000
      sums_fit = let a = sum_most t.blocks.items few in let b = share_few s h g (k / 32) in omega (arith, a, b, share_is, q.summed.few)

      pub share_least : cond more 0 (get_or s.parts.items k 0) ≤ get_or t.blocks.items (k / 32) 0
      share_least =
          let left = q.left (k / 32) (q.follows.from in_set) in
          subst (λ x. cond more 0 x ≤ get_or t.blocks.items (k / 32) 0) (sym share_is)
          (subst (λ x. cond more 0 (sum (part (k / 32) (weighed (only g) s.group.items s.within.items))) ≤ x) (sym left)
          (turned_part s h g more lt was (k / 32)).1)

      pub half_next : (t' : Tally) → Shifts t (k / 32) (get_or s.parts.items k 0) more t' → Halfway s g more (get_or s.links.nexts.items k 0) t'
      half_next t' r = record {
        edge = suc (k / 32);
        follows = subst (λ i. Follows 0 s.group.items s.links.ends.items i (suc (k / 32)) (get_or s.links.nexts.items k 0)) (q.follows.group in_set)
            (h.linked.nexts k (omega arith) in_set (q.follows.ends in_set));
        done = λ b l. ⊎_elim (λ e. at b e) (λ ne. off b ne ∙ before b (omega (arith, l, ne))) (cases_eq b (k / 32));
        left = λ b l. off b (λ e. omega (arith, l, e)) ∙ q.left b (let from = q.follows.from in_set in omega (arith, l, from));
        enough = let a : length t'.blocks.items ≡ length t.blocks.items = ap (λ (l : List ℕ). length l) r.blocks
            ∙ length-set t.blocks.items (k / 32) (shift_of (get_or t.blocks.items (k / 32) 0) (get_or s.parts.items k 0) more) in omega (arith, a, q.enough);
        summed = r.summed;
      }
        where
          off : (b : ℕ) → b ≢ k / 32 → get_or t'.blocks.items b 0 ≡ get_or t.blocks.items b 0
          off b ne = ap (λ (l : List ℕ). get_or l b 0) r.blocks ∙ get_or-set_other t.blocks.items (k / 32) b
              (shift_of (get_or t.blocks.items (k / 32) 0) (get_or s.parts.items k 0) more) 0 ne

          at : (b : ℕ) → b ≡ k / 32 → get_or t'.blocks.items b 0 ≡ sum (part b (counted (turned (shown_groups s) g more)))
          at b e =
              let left = q.left (k / 32) (q.follows.from in_set) in
              let new : get_or t'.blocks.items (k / 32) 0 ≡ shift_of (get_or t.blocks.items (k / 32) 0) (get_or s.parts.items k 0) more =
              ap (λ (l : List ℕ). get_or l (k / 32) 0) r.blocks ∙ get_or-set_same t.blocks.items (k / 32)
              (shift_of (get_or t.blocks.items (k / 32) 0) (get_or s.parts.items k 0) more) 0 block_in in
              let here : get_or t'.blocks.items (k / 32) 0 ≡ sum (part (k / 32) (counted (turned (shown_groups s) g more))) =
              new ∙ (ap (λ x. shift_of x (get_or s.parts.items k 0) more) left
              ∙ (ap (λ x. shift_of (sum (part (k / 32) (counted (shown_groups s)))) x more) share_is ∙ sym (turned_part s h g more lt was (k / 32)).0)) in
              subst (λ n. get_or t'.blocks.items n 0 ≡ sum (part n (counted (turned (shown_groups s) g more)))) (sym e) here

          before : (b : ℕ) → b < k / 32 → get_or t.blocks.items b 0 ≡ sum (part b (counted (turned (shown_groups s) g more)))
          before b l = ⊎_elim
              (λ done. q.done b done)
              (λ left. q.left b left ∙ sym (gap b (λ j to on is. let f = q.follows.least j (omega arith) to is (omega (arith, left, on)) in
              omega (arith, f.1, on, l))))
              (cases_lt b q.edge)

      pub half_rises : (t' : Tally) → Halfway s g more (get_or s.links.nexts.items k 0) t' → get_or s.links.nexts.items k 0 < length s.group.items
          → k < get_or s.links.nexts.items k 0
      half_rises t' r to =
          let n = h.linked.nexts k (omega arith) in_set (q.follows.ends in_set) in
          let a = n.from to in
          omega (arith, a)

-- ---- a number is put in or taken out

module _ (s : Groups) (h : AreGrouped s) (k : ℕ) (b : Bool) (lt : k < length s.group.items) (was : get_or s.within.items k 0 ≡ from_bool (not b)) where
  pub end_in : get_or s.links.ends.items k 0 < length s.parts.items
  end_in = let a = (h.linked.beside k (omega arith) lt).number in omega (arith, a, h.parts_all)

  part_at : get_or s.parts.items (get_or s.links.ends.items k 0) 0 ≡ sum (part (k / 32)
      (weighed (only (get_or s.group.items k 0)) s.group.items s.within.items))
  part_at = h.parts k lt

  pub part_fits : get_or s.parts.items (get_or s.links.ends.items k 0) 0 ≤ 32
  part_fits = let a = share_few s h (get_or s.group.items k 0) (k / 32) in omega (arith, part_at, a)

  module _ (g : ℕ) where
    moved : get_or s.group.items k 0 ≡ g
        → sum (part (k / 32) (weighed (only g) s.group.items (set s.within.items k (from_bool b)))) + get_or s.within.items k 0
        ≡ sum (part (k / 32) (weighed (only g) s.group.items s.within.items)) + from_bool b
    moved on =
        let one : only g (get_or s.group.items k 0) ≡ 1 = ap (λ t. cond t 1 0) (eq-eqb (get_or s.group.items k 0) g on) in
        let set_is : sum (part (k / 32) (weighed (only g) s.group.items (set s.within.items k (from_bool b))))
        ≡ sum (part (k / 32) (set (weighed (only g) s.group.items s.within.items) k (from_bool b * only g (get_or s.group.items k 0)))) =
        ap (λ (l : List ℕ). sum (part (k / 32) l)) (weighed_set (only g) s.group.items s.within.items h.long k (from_bool b)) in
        let x = part_sum (weighed (only g) s.group.items s.within.items) k (from_bool b * only g (get_or s.group.items k 0))
        (let a = weighed_long (only g) s.group.items s.within.items h.long in omega (arith, a, lt)) in
        let y = times_one (from_bool b) (only g (get_or s.group.items k 0)) one in
        let z = times_one (get_or s.within.items k 0) (only g (get_or s.group.items k 0)) one in
        let at = weighed_at (only g) s.group.items s.within.items h.long k in
        omega (arith, set_is, x, y, z, at)

    kept : (c : ℕ) → (c ≡ k / 32 → get_or s.group.items k 0 ≡ g → ⊥) → sum (part c (weighed (only g) s.group.items (set s.within.items k (from_bool b))))
        ≡ sum (part c (weighed (only g) s.group.items s.within.items))
    kept c apart =
        let set_is : sum (part c (weighed (only g) s.group.items (set s.within.items k (from_bool b))))
        ≡ sum (part c (set (weighed (only g) s.group.items s.within.items) k (from_bool b * only g (get_or s.group.items k 0)))) =
        ap (λ (l : List ℕ). sum (part c l)) (weighed_set (only g) s.group.items s.within.items h.long k (from_bool b)) in
        set_is ∙ ⊎_elim
        (λ e.
        let none : only g (get_or s.group.items k 0) ≡ 0 = ap (λ t. cond t 1 0) (ne_eqb (get_or s.group.items k 0) g (apart e)) in
        let y = times_zero (from_bool b) (only g (get_or s.group.items k 0)) none in
        let z = times_zero (get_or s.within.items k 0) (only g (get_or s.group.items k 0)) none in
        let at = weighed_at (only g) s.group.items s.within.items h.long k in
        let zero : from_bool b * only g (get_or s.group.items k 0) ≡ get_or (weighed (only g) s.group.items s.within.items) k 0 = omega (arith, y, z, at) in
        ap (λ (l : List ℕ). sum (part c l)) (ap (λ x. set (weighed (only g) s.group.items s.within.items) k x) zero
        ∙ set-get_or (weighed (only g) s.group.items s.within.items) k 0))
        (λ ne. ap (λ (l : List ℕ). sum l) (part_beside (weighed (only g) s.group.items s.within.items) k
        (from_bool b * only g (get_or s.group.items k 0)) c ne))
        (cases_eq c (k / 32))

  pub part_least_of : cond b 0 1 ≤ get_or s.parts.items (get_or s.links.ends.items k 0) 0
  part_least_of = by b (get_or s.within.items k 0)
      (sum (part (k / 32) (weighed (only (get_or s.group.items k 0)) s.group.items (set s.within.items k (from_bool b)))))
      was (moved (get_or s.group.items k 0) refl)
    where
      by : (b : Bool) (w x : ℕ) → w ≡ from_bool (not b) → x + w ≡ sum (part (k / 32)
          (weighed (only (get_or s.group.items k 0)) s.group.items s.within.items)) + from_bool b
          → cond b 0 1 ≤ get_or s.parts.items (get_or s.links.ends.items k 0) 0
      by true w x e f = omega arith
      by false w x e f = omega (arith, e, f, part_at)

  -- what stands with the last number of the group in the block
  pub put_parts : (v : ℕ) → v ≡ shift_of (get_or s.parts.items (get_or s.links.ends.items k 0) 0) 1 b → (j : ℕ) → j < length s.group.items
      → get_or (set s.parts.items (get_or s.links.ends.items k 0) v) (get_or s.links.ends.items j 0) 0
      ≡ sum (part (j / 32) (weighed (only (get_or s.group.items j 0)) s.group.items (set s.within.items k (from_bool b))))
  put_parts v is j to = ⊎_elim
      (λ block. ⊎_elim (λ group. beside block group) (λ ne. apart (λ e g. ne (sym g)) (λ q. ne (same_end q).1)) (cases_eq (get_or s.group.items j 0)
      (get_or s.group.items k 0)))
      (λ ne. apart (λ e g. ne e) (λ q. ne (same_end q).0))
      (cases_eq (j / 32) (k / 32))
    where
      here : IsBeside s.group.items j (get_or s.links.ends.items j 0)
      here = h.linked.beside j (omega arith) to

      there : IsBeside s.group.items k (get_or s.links.ends.items k 0)
      there = h.linked.beside k (omega arith) lt

      same_end : get_or s.links.ends.items j 0 ≡ get_or s.links.ends.items k 0 → (j / 32 ≡ k / 32) × (get_or s.group.items j 0 ≡ get_or s.group.items k 0)
      same_end q = (sym here.block ∙ (ap (λ i. i / 32) q ∙ there.block), sym here.group ∙ (ap (λ i. get_or s.group.items i 0) q ∙ there.group))

      beside : j / 32 ≡ k / 32 → get_or s.group.items j 0 ≡ get_or s.group.items k 0
          → get_or (set s.parts.items (get_or s.links.ends.items k 0) v) (get_or s.links.ends.items j 0) 0
          ≡ sum (part (j / 32) (weighed (only (get_or s.group.items j 0)) s.group.items (set s.within.items k (from_bool b))))
      beside block group =
          let ends = h.linked.one j k (omega arith) (omega arith) lt (record { number = to; block = block; group = group }) in
          let at : get_or (set s.parts.items (get_or s.links.ends.items k 0) v) (get_or s.links.ends.items j 0) 0 ≡ v =
          ap (λ i. get_or (set s.parts.items (get_or s.links.ends.items k 0) v) i 0) ends
          ∙ get_or-set_same s.parts.items (get_or s.links.ends.items k 0) v 0 end_in in
          let new = moved (get_or s.group.items k 0) refl in
          let same_part : sum (part (k / 32) (weighed (only (get_or s.group.items k 0)) s.group.items (set s.within.items k (from_bool b))))
          ≡ sum (part (j / 32) (weighed (only (get_or s.group.items j 0)) s.group.items (set s.within.items k (from_bool b)))) =
          ap (λ i. sum (part i (weighed (only (get_or s.group.items k 0)) s.group.items (set s.within.items k (from_bool b))))) (sym block)
          ∙ ap (λ g. sum (part (j / 32) (weighed (only g) s.group.items (set s.within.items k (from_bool b))))) (sym group) in
          at ∙ (by b is was part_at new ∙ same_part)
        where
          by : (b : Bool) {v p x y w : ℕ} → v ≡ shift_of p 1 b → w ≡ from_bool (not b) → p ≡ x → y + w ≡ x + from_bool b → v ≡ y
          by true e f g m = omega (arith, e, f, g, m)
          by false e f g m = omega (arith, e, f, g, m)

      apart : (j / 32 ≡ k / 32 → get_or s.group.items k 0 ≡ get_or s.group.items j 0 → ⊥) → (get_or s.links.ends.items j 0 ≡ get_or s.links.ends.items k 0 → ⊥)
          → get_or (set s.parts.items (get_or s.links.ends.items k 0) v) (get_or s.links.ends.items j 0) 0
          ≡ sum (part (j / 32) (weighed (only (get_or s.group.items j 0)) s.group.items (set s.within.items k (from_bool b))))
      apart far ne =
          get_or-set_other s.parts.items (get_or s.links.ends.items k 0) (get_or s.links.ends.items j 0) v 0 ne
          ∙ (h.parts j to ∙ sym (kept (get_or s.group.items j 0) (j / 32) far))

  -- the sums of the set, where the group is open and where it is closed
  pub put_open : get_or s.opened.items (get_or s.group.items k 0) 0 ≡ 1 → (t t' : Tally) → Tallies (counted (shown_groups s)) t → Shifts t (k / 32) 1 b t'
      → Tallies (counted (put_in (shown_groups s) k b)) t'
  put_open is t t' q r =
      let one = times_one (from_bool b) (get_or s.opened.items (get_or s.group.items k 0) 0) is in
      let now = times_one (get_or s.within.items k 0) (get_or s.opened.items (get_or s.group.items k 0) 0) is in
      let at = counted_at s h k in
      let set_is : counted (put_in (shown_groups s) k b) ≡ set (counted (shown_groups s)) k (from_bool b) =
      weighed_set (λ g. get_or s.opened.items g 0) s.group.items s.within.items h.long k (from_bool b) ∙ ap (λ x. set (counted (shown_groups s)) k x) one in
      let within : k < length (counted (shown_groups s)) = let a = counted_long s h in omega (arith, a, lt) in
      let balance : shift_of (get_or t.blocks.items (k / 32) 0) 1 b + get_or (counted (shown_groups s)) k 0 ≡ get_or t.blocks.items (k / 32) 0 + from_bool b =
      by b was (at ∙ now) (bit_part t q) in
      record {
        blocks = subst (λ (l : List ℕ). AreSums l t'.blocks.items) (sym set_is)
            (subst (λ (l : List ℕ). AreSums (set (counted (shown_groups s)) k (from_bool b)) l)
            (sym r.blocks) (sums_set (counted (shown_groups s)) t.blocks.items k (from_bool b)
            (shift_of (get_or t.blocks.items (k / 32) 0) 1 b) q.blocks within balance));
        summed = r.summed;
      }
    where
      bit_part : (t : Tally) → Tallies (counted (shown_groups s)) t → get_or (counted (shown_groups s)) k 0 ≤ get_or t.blocks.items (k / 32) 0
      bit_part t q = part_least (counted (shown_groups s)) t.blocks.items k q.blocks (let a = counted_long s h in omega (arith, a, lt))

      by : (b : Bool) {w x y : ℕ} → w ≡ from_bool (not b) → x ≡ w → x ≤ y → shift_of y 1 b + x ≡ y + from_bool b
      by true e f g = omega (arith, e, f, g)
      by false e f g = omega (arith, e, f, g)

  pub put_closed : get_or s.opened.items (get_or s.group.items k 0) 0 ≡ 0 → (t : Tally) → Tallies (counted (shown_groups s)) t
      → Tallies (counted (put_in (shown_groups s) k b)) t
  put_closed is t q =
      let none = times_zero (from_bool b) (get_or s.opened.items (get_or s.group.items k 0) 0) is in
      let now = times_zero (get_or s.within.items k 0) (get_or s.opened.items (get_or s.group.items k 0) 0) is in
      let at = counted_at s h k in
      let zero : from_bool b * get_or s.opened.items (get_or s.group.items k 0) 0 ≡ get_or (counted (shown_groups s)) k 0 = omega (arith, none, now, at) in
      let set_is : counted (put_in (shown_groups s) k b) ≡ counted (shown_groups s) =
      weighed_set (λ g. get_or s.opened.items g 0) s.group.items s.within.items h.long k (from_bool b)
      ∙ (ap (λ x. set (counted (shown_groups s)) k x) zero ∙ set-get_or (counted (shown_groups s)) k 0) in
      record {
        blocks = subst (λ (l : List ℕ). AreSums l t.blocks.items) (sym set_is) q.blocks;
        summed = q.summed;
      }

  pub open_least : get_or s.opened.items (get_or s.group.items k 0) 0 ≡ 1 → (t : Tally) → Tallies (counted (shown_groups s)) t
      → (cond b 0 1 ≤ get_or t.blocks.items (k / 32) 0) × (sum t.blocks.items ≤ 5024) × (k / 32 < length t.blocks.items)
  open_least is t q =
      let now = times_one (get_or s.within.items k 0) (get_or s.opened.items (get_or s.group.items k 0) 0) is in
      let at = counted_at s h k in
      let long = counted_long s h in
      let least = part_least (counted (shown_groups s)) t.blocks.items k q.blocks (omega (arith, long, lt)) in
      let most = sum_most t.blocks.items (λ c. let a = q.blocks.each c in let e = part_few (counted (shown_groups s)) (counted_bits s h) c in omega (arith, a, e)) in
      (by b was (at ∙ now) least, omega (arith, most, q.summed.few), omega (arith, long, lt, q.blocks.enough))
    where
      by : (b : Bool) {w x y : ℕ} → w ≡ from_bool (not b) → x ≡ w → x ≤ y → cond b 0 1 ≤ y
      by true e f g = omega arith
      by false e f g = omega (arith, e, f, g)
