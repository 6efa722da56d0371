-- Numbers that are linked from the last one on.
use Rattle.safl_number_set.proofs.Common.{AreBelow, AreLinkedFrom, Follows, IsBeside, cases_eq}
use Rattle.std.proofs.Common.{◌≡◌, ◌≢◌, ℕ, suc, ◌/◌, ◌<◌, ◌≤◌, List, length, set, get_or, replicate, refl, sym, ap, ◌∙◌, subst, ⊎_elim, arith, length-set}
use Rattle.std.proofs.lemmas.List.{get_or-set_same, get_or-set_other, get_or-replicate}
use Rattle.safl_number_set.specs.declared.links.Links.{Links}

-- no number is linked
pub linked_none : (G : List ℕ) (l : Links) (count : ℕ) → l.heads.items ≡ replicate count (length G) → length l.heads.items ≡ count
    → length l.ends.items ≡ length G → length l.nexts.items ≡ length G → AreLinkedFrom (length G) G l
linked_none G l count heads long ends nexts = record {
  ends_all = ends;
  nexts_all = nexts;
  beside = λ k from lt. absurd (omega (arith, from, lt));
  one = λ j k low from lt. absurd (omega (arith, from, lt));
  heads = λ g lt. subst (λ x. Follows (length G) G l.ends.items g 0 x) (sym (ap (λ (x : List ℕ). get_or x g 0) heads
      ∙ get_or-replicate count g (length G) 0 (omega (arith, lt, long)))) (record {
        above = λ x. absurd (omega (arith, x));
        group = λ x. absurd (omega (arith, x));
        ends = λ x. absurd (omega (arith, x));
        from = λ x. absurd (omega (arith, x));
        least = λ j from below is at. absurd (omega (arith, from, below));
      });
  nexts = λ k from lt. absurd (omega (arith, from, lt));
}

-- one number more
module _ (G : List ℕ) (l m : Links) (k x : ℕ) (lt : k < length G) (below : AreBelow (length l.heads.items) G) (h : AreLinkedFrom (suc k) G l)
    (ends : m.ends.items ≡ set l.ends.items k x) where
  first : Follows (suc k) G l.ends.items (get_or G k 0) 0 (get_or l.heads.items (get_or G k 0) 0)
  first = h.heads (get_or G k 0) (below k lt)

  end_at : get_or m.ends.items k 0 ≡ x
  end_at = ap (λ (l : List ℕ). get_or l k 0) ends ∙ get_or-set_same l.ends.items k x 0 (omega (arith, lt, h.ends_all))

  end_off : (j : ℕ) → j ≢ k → get_or m.ends.items j 0 ≡ get_or l.ends.items j 0
  end_off j ne = ap (λ (l : List ℕ). get_or l j 0) ends ∙ get_or-set_other l.ends.items k j x 0 ne

  ends_all : length m.ends.items ≡ length G
  ends_all = ap (λ (l : List ℕ). length l) ends ∙ (length-set l.ends.items k x ∙ h.ends_all)

  more : (g b r : ℕ) → (get_or G k 0 ≡ g → b ≤ k / 32 → (r < length G) × (r / 32 ≤ k / 32)) → Follows (suc k) G l.ends.items g b r
      → Follows k G m.ends.items g b r
  more g b r here f = record {
    above = λ q. let a = f.above q in omega (arith, a);
    group = f.group;
    ends = λ q. let a = f.above q in end_off r (λ e. omega (arith, a, e)) ∙ f.ends q;
    from = f.from;
    least = λ j from to is at. ⊎_elim
        (λ e. subst (λ i. (r < length G) × (r / 32 ≤ i / 32)) (sym e) (here (sym (ap (λ i. get_or G i 0) e) ∙ is) (omega (arith, at, e))))
        (λ ne. f.least j (omega (arith, from, ne)) to is at)
        (cases_eq j k);
  }

  -- the links of a later number
  later : (j : ℕ) → k ≤ j → j ≢ k → j < length G → get_or m.ends.items j 0 ≡ j
      → Follows k G m.ends.items (get_or G j 0) (suc (j / 32)) (get_or l.nexts.items j 0)
  later j from ne to is = more (get_or G j 0) (suc (j / 32)) (get_or l.nexts.items j 0)
      (λ q b. absurd (omega (arith, b, from, ne))) (h.nexts j (omega (arith, from, ne)) to (sym (end_off j ne) ∙ is))

  beside_later : (j : ℕ) → k ≤ j → j ≢ k → j < length G → IsBeside G j (get_or m.ends.items j 0)
  beside_later j from ne to = subst (λ r. IsBeside G j r) (sym (end_off j ne)) (h.beside j (omega (arith, from, ne)) to)

  one_later : (i j : ℕ) → k ≤ i → i ≢ k → k ≤ j → j ≢ k → j < length G → IsBeside G j i → get_or m.ends.items i 0 ≡ get_or m.ends.items j 0
  one_later i j a na b nb to q = end_off i na ∙ (h.one i j (omega (arith, a, na)) (omega (arith, b, nb)) to q ∙ sym (end_off j nb))

  -- its block has a number of its group after it
  module _ (number : get_or l.heads.items (get_or G k 0) 0 < length G) (block : get_or l.heads.items (get_or G k 0) 0 / 32 ≡ k / 32)
      (is : x ≡ get_or l.heads.items (get_or G k 0) 0)
      (heads : m.heads.items ≡ l.heads.items) (nexts : m.nexts.items ≡ l.nexts.items) where
    end_is : get_or m.ends.items k 0 ≡ get_or l.heads.items (get_or G k 0) 0
    end_is = end_at ∙ is

    next_is : (j : ℕ) → get_or m.nexts.items j 0 ≡ get_or l.nexts.items j 0
    next_is j = ap (λ (l : List ℕ). get_or l j 0) nexts

    head_is : (g : ℕ) → get_or m.heads.items g 0 ≡ get_or l.heads.items g 0
    head_is g = ap (λ (l : List ℕ). get_or l g 0) heads

    head_end : get_or l.ends.items (get_or l.heads.items (get_or G k 0) 0) 0 ≡ get_or l.heads.items (get_or G k 0) 0
    head_end = first.ends number

    beside_head : (j : ℕ) → IsBeside G j k → IsBeside G j (get_or l.heads.items (get_or G k 0) 0)
    beside_head j q = record { number = number; block = block ∙ q.block; group = first.group number ∙ q.group }

    one : (i j : ℕ) → k ≤ i → k ≤ j → j < length G → IsBeside G j i → get_or m.ends.items i 0 ≡ get_or m.ends.items j 0
    one i j a b to q = ⊎_elim
        (λ ei. ⊎_elim
        (λ ej. ap (λ n. get_or m.ends.items n 0) (ei ∙ sym ej))
        (λ nj.
        let here : IsBeside G j k = subst (λ n. IsBeside G j n) ei q in
        let old = h.one (get_or l.heads.items (get_or G k 0) 0) j (first.above number) (omega (arith, b, nj)) to (beside_head j here) in
        ap (λ n. get_or m.ends.items n 0) ei ∙ (end_is ∙ (sym head_end ∙ (old ∙ sym (end_off j nj)))))
        (cases_eq j k))
        (λ ni. ⊎_elim
        (λ ej.
        let here : IsBeside G k i = subst (λ n. IsBeside G n i) ej q in
        let by : IsBeside G (get_or l.heads.items (get_or G k 0) 0) i =
        record { number = here.number; block = here.block ∙ sym block; group = here.group ∙ sym (first.group number) } in
        let old = h.one i (get_or l.heads.items (get_or G k 0) 0) (omega (arith, a, ni)) (first.above number) number by in
        end_off i ni ∙ (old ∙ (head_end ∙ (sym end_is ∙ ap (λ n. get_or m.ends.items n 0) (sym ej)))))
        (λ nj. one_later i j a ni b nj to q)
        (cases_eq j k))
        (cases_eq i k)

  -- it has none
  module _ (apart : get_or l.heads.items (get_or G k 0) 0 < length G → get_or l.heads.items (get_or G k 0) 0 / 32 ≡ k / 32 → ⊥) (is : x ≡ k)
      (heads : m.heads.items ≡ set l.heads.items (get_or G k 0) k) (nexts : m.nexts.items ≡ set l.nexts.items k (get_or l.heads.items (get_or G k 0) 0)) where
    end_self : get_or m.ends.items k 0 ≡ k
    end_self = end_at ∙ is

    next_at : get_or m.nexts.items k 0 ≡ get_or l.heads.items (get_or G k 0) 0
    next_at = ap (λ (l : List ℕ). get_or l k 0) nexts ∙ get_or-set_same l.nexts.items k (get_or l.heads.items (get_or G k 0) 0) 0
        (omega (arith, lt, h.nexts_all))

    next_off : (j : ℕ) → j ≢ k → get_or m.nexts.items j 0 ≡ get_or l.nexts.items j 0
    next_off j ne = ap (λ (l : List ℕ). get_or l j 0) nexts ∙ get_or-set_other l.nexts.items k j (get_or l.heads.items (get_or G k 0) 0) 0 ne

    head_at : get_or m.heads.items (get_or G k 0) 0 ≡ k
    head_at = ap (λ (l : List ℕ). get_or l (get_or G k 0) 0) heads ∙ get_or-set_same l.heads.items (get_or G k 0) k 0 (below k lt)

    head_off : (g : ℕ) → g ≢ get_or G k 0 → get_or m.heads.items g 0 ≡ get_or l.heads.items g 0
    head_off g ne = ap (λ (l : List ℕ). get_or l g 0) heads ∙ get_or-set_other l.heads.items (get_or G k 0) g k 0 ne

    -- no later number stands beside it
    alone : (j : ℕ) → k ≤ j → j ≢ k → j < length G → j / 32 ≡ k / 32 → get_or G j 0 ≡ get_or G k 0 → ⊥
    alone j from ne to block group =
        let f = first.least j (omega (arith, from, ne)) to group (omega arith) in
        let above = first.above f.0 in
        apart f.0 (omega (arith, above, f.1, block))

    one_alone : (i j : ℕ) → k ≤ i → k ≤ j → j < length G → IsBeside G j i → get_or m.ends.items i 0 ≡ get_or m.ends.items j 0
    one_alone i j a b to q = ⊎_elim
        (λ ei. ⊎_elim
        (λ ej. ap (λ n. get_or m.ends.items n 0) (ei ∙ sym ej))
        (λ nj. let here : IsBeside G j k = subst (λ n. IsBeside G j n) ei q in absurd (alone j b nj to (sym here.block) (sym here.group)))
        (cases_eq j k))
        (λ ni. ⊎_elim
        (λ ej. let here : IsBeside G k i = subst (λ n. IsBeside G n i) ej q in absurd (alone i a ni here.number here.block here.group))
        (λ nj. one_later i j a ni b nj to q)
        (cases_eq j k))
        (cases_eq i k)

    at_head : Follows k G m.ends.items (get_or G k 0) 0 k
    at_head = record {
      above = λ q. omega arith;
      group = λ q. refl;
      ends = λ q. end_self;
      from = λ q. omega arith;
      least = λ j from to q b. (lt, omega (arith, from));
    }

    at_next : Follows k G m.ends.items (get_or G k 0) (suc (k / 32)) (get_or l.heads.items (get_or G k 0) 0)
    at_next = record {
      above = λ q. let a = first.above q in omega (arith, a);
      group = first.group;
      ends = λ q. let a = first.above q in end_off (get_or l.heads.items (get_or G k 0) 0) (λ e. omega (arith, a, e)) ∙ first.ends q;
      from = λ q. let a = first.above q in ⊎_elim (λ e. absurd (apart q e))
          (λ ne. omega (arith, a, ne)) (cases_eq (get_or l.heads.items (get_or G k 0) 0 / 32) (k / 32));
      least = λ j from to q b. first.least j (omega (arith, from, b)) to q (omega arith);
    }

    pub linked_alone : AreLinkedFrom k G m
    linked_alone = record {
      ends_all = ends_all;
      nexts_all = ap (λ (l : List ℕ). length l) nexts ∙ (length-set l.nexts.items k (get_or l.heads.items (get_or G k 0) 0) ∙ h.nexts_all);
      beside = λ j from to. ⊎_elim
          (λ e. subst (λ n. IsBeside G n (get_or m.ends.items n 0)) (sym e)
          (subst (λ r. IsBeside G k r) (sym end_self) (record { number = lt; block = refl; group = refl })))
          (λ ne. beside_later j from ne to)
          (cases_eq j k);
      one = one_alone;
      heads = λ g q. ⊎_elim
          (λ e. subst (λ n. Follows k G m.ends.items n 0 (get_or m.heads.items n 0)) (sym e)
          (subst (λ r. Follows k G m.ends.items (get_or G k 0) 0 r) (sym head_at) at_head))
          (λ ne. subst (λ r. Follows k G m.ends.items g 0 r) (sym (head_off g ne))
          (more g 0 (get_or l.heads.items g 0) (λ e b. absurd (ne (sym e)))
          (h.heads g (omega (arith, q, ap (λ (l : List ℕ). length l) heads, length-set l.heads.items (get_or G k 0) k)))))
          (cases_eq g (get_or G k 0));
      nexts = λ j from to e. ⊎_elim
          (λ q. subst (λ n. Follows k G m.ends.items (get_or G n 0) (suc (n / 32)) (get_or m.nexts.items n 0)) (sym q)
          (subst (λ r. Follows k G m.ends.items (get_or G k 0) (suc (k / 32)) r) (sym next_at) at_next))
          (λ ne. subst (λ r. Follows k G m.ends.items (get_or G j 0) (suc (j / 32)) r) (sym (next_off j ne)) (later j from ne to e))
          (cases_eq j k);
    }
