-- The lists of the readers of places.
use Rattle.std.proofs.Common.{◌≡◌, ◌⊎◌, inl, inr, ℕ, zero, suc, ◌+◌, ◌/◌, ◌<◌, ◌≤◌, List, [], ◌∷◌, ◌++◌, length, set, Some, slice_get, slice_index, refl, sym, ap, subst, ◌∙◌, arith}
use Rattle.std.proofs.lemmas.Option.{slice_get_within}
use Rattle.std.proofs.lemmas.Bool.{cases_eq, cases_lt}
use Rattle.std.proofs.lemmas.List.{length-append}
use Rattle.safl_net.specs.Netlist.{Netlist}
use Rattle.safl_order.specs.Order.{operands_of}
use Rattle.safl_sim.specs.Readers.{Lists, Reader, AreReaders, ReadsPlace, On, AreLists, AreFlat}
use Rattle.safl_sim.specs.declared.step.Register.{Register}
use Rattle.safl_sim.specs.Marks.{first_register}
use Rattle.safl_word.proofs.Joining.{index_past}
use Rattle.safl_word.proofs.Naturals.{lower_or_last}
use Rattle.safl_word.proofs.Lists.{get_back, get_front, get_split, index_end}

pub get_set_same : {A : Type 0} (xs : List A) (p : ℕ) (y : A) → p < length xs → slice_get (set xs p y) p ≡ Some y
get_set_same [] p y h = absurd (omega (arith, h))
get_set_same (x ∷ xs) zero y h = refl
get_set_same (x ∷ xs) (suc p) y h = get_set_same xs p y (omega (arith, h))

pub get_set_other : {A : Type 0} (xs : List A) (p q : ℕ) (y : A) → ¬ (q ≡ p) → slice_get (set xs p y) q ≡ slice_get xs q
get_set_other [] p q y n = refl
get_set_other (x ∷ xs) zero zero y n = absurd (n refl)
get_set_other (x ∷ xs) zero (suc q) y n = refl
get_set_other (x ∷ xs) (suc p) zero y n = refl
get_set_other (x ∷ xs) (suc p) (suc q) y n = get_set_other xs p q y (λ e. n (ap suc e))

index_front : (xs ys : List ℕ) (i : ℕ) → i < length xs → slice_index (xs ++ ys) i ≡ slice_index xs i
index_front [] ys i h = absurd (omega (arith, h))
index_front (x ∷ xs) ys zero h = refl
index_front (x ∷ xs) ys (suc i) h = index_front xs ys i (omega (arith, h))

-- ---- a list for each place

module _ (lists : List (List ℕ)) (p k : ℕ) (v : List ℕ) (here : slice_get lists p ≡ Some v) where
  -- what was put in front is on the list
  on_new : On (set lists p (k ∷ v)) p k
  on_new = (k ∷ v, 0, get_set_same lists p (k ∷ v) (slice_get_within lists p v here), refl)

  -- what was on a list still is
  on_old : (q j : ℕ) → On lists q j → On (set lists p (k ∷ v)) q j
  on_old q j c = elim (cases_eq q p) [
    | inl same ↦
        let vs : Some c.0 ≡ Some v = sym c.2 ∙ ap (slice_get lists) same ∙ here in
        let one : c.0 ≡ v = cc in
        (k ∷ v, suc c.1, ap (slice_get (set lists p (k ∷ v))) same ∙ get_set_same lists p (k ∷ v) (slice_get_within lists p v here), ap (λ l. slice_get l c.1) (sym one) ∙ c.3)
    | inr other ↦ (c.0, c.1, get_set_other lists p q (k ∷ v) other ∙ c.2, c.3)
  ]

  in_front : (q j e : ℕ) → q ≡ p → slice_get (k ∷ v) e ≡ Some j → On lists q j ⊎ ((q ≡ p) × (j ≡ k))
  in_front q j zero same f = inr (same, (let z : j ≡ k = cc in z))
  in_front q j (suc e) same f = inl (v, e, ap (slice_get lists) same ∙ here, f)

  -- and nothing else is
  on_was : (q j : ℕ) → On (set lists p (k ∷ v)) q j → On lists q j ⊎ ((q ≡ p) × (j ≡ k))
  on_was q j c = elim (cases_eq q p) [
    | inl same ↦
        let vs : Some c.0 ≡ Some (k ∷ v) = sym c.2 ∙ ap (slice_get (set lists p (k ∷ v))) same ∙ get_set_same lists p (k ∷ v) (slice_get_within lists p v here) in
        let one : c.0 ≡ k ∷ v = cc in
        in_front q j c.1 same (ap (λ l. slice_get l c.1) (sym one) ∙ c.3)
    | inr other ↦ inl (c.0, c.1, sym (get_set_other lists p q (k ∷ v) other) ∙ c.2, c.3)
  ]

module _ (n : Netlist) (ws : List ℕ) (regs : List Register) where
  -- what reads a place is a step or a register
  pub reader_below : (p k : ℕ) → ReadsPlace n ws regs p k → k < first_register (length ws) + length regs
  reader_below p k r = elim r [
    | inl s ↦ (let a = slice_get_within ws k s.0 s.2 in omega (arith, a))
    | inr s ↦ (let a = s.2 in let b = slice_get_within regs s.0 s.1 s.3 in omega (arith, a, b))
  ]

  pub lists_none : (k : ℕ) (lists : List (List ℕ)) → first_register (length ws) + length regs ≤ k → ((p : ℕ) (v : List ℕ) → slice_get lists p ≡ Some v → v ≡ []) → AreLists n ws regs k 0 lists
  lists_none k lists le none = record {
    all = λ p j h r. absurd (let a = reader_below p j r in omega (arith, a, h, le));
    own = λ p j m s e l f g. absurd (omega (arith, l));
    only = λ p j c. absurd (let z : slice_get [] c.1 ≡ Some j = ap (λ l. slice_get l c.1) (sym (none p c.0 c.2)) ∙ c.3 in cc);
  }

  -- between the steps and the registers there is nothing
  pub lists_gap : (lists : List (List ℕ)) → AreLists n ws regs (first_register (length ws)) 0 lists → AreLists n ws regs (length ws) 0 lists
  lists_gap lists w = record {
    all = λ p j h r. elim r [
      | inl s ↦ absurd (let a = slice_get_within ws j s.0 s.2 in omega (arith, a, h))
      | inr s ↦ w.all p j (let a = s.2 in omega (arith, a)) (inr s)
    ];
    own = λ p j m s e l f g. absurd (omega (arith, l));
    only = w.only;
  }

  pub lists_register : (i : ℕ) (r : Register) (lists : List (List ℕ)) (v : List ℕ) → AreLists n ws regs (first_register (length ws) + i + 1) 0 lists →
      slice_get regs i ≡ Some r → slice_get lists r.next.0 ≡ Some v
      → AreLists n ws regs (first_register (length ws) + i) 0 (set lists r.next.0 ((first_register (length ws) + i) ∷ v))
  lists_register i r lists v w at here =
      let k = first_register (length ws) + i in
      record {
        all = λ q j h reads. elim (lower_or_last k j (omega (arith, h))) [
          | inl l ↦ on_old lists r.next.0 k v here q j (w.all q j (omega (arith, l)) reads)
          | inr z ↦ elim reads [
            | inl s ↦ absurd (let a = slice_get_within ws j s.0 s.2 in omega (arith, a, z))
            | inr s ↦
                let same : s.0 ≡ i = (let a = s.2 in omega (arith, a, z)) in
                let rs : Some s.1 ≡ Some r = sym s.3 ∙ ap (slice_get regs) same ∙ at in
                let one : s.1 ≡ r = cc in
                subst (λ y. On (set lists r.next.0 (k ∷ v)) y j) (ap (λ (y : Register). y.next.0) (sym one) ∙ s.4)
                (subst (λ y. On (set lists r.next.0 (k ∷ v)) r.next.0 y) z (on_new lists r.next.0 k v here))
          ]
        ];
        own = λ p j m s e l f g. absurd (omega (arith, l));
        only = λ q j c. elim (on_was lists r.next.0 k v here q j c) [
          | inl o ↦ w.only q j o
          | inr z ↦ inr (i, r, z.1, at, sym z.0)
        ];
      }

  pub lists_operand : (k i s p : ℕ) (lists : List (List ℕ)) (v : List ℕ) → AreLists n ws regs (k + 1) i lists → slice_get ws k ≡ Some s → slice_get
      (operands_of n s) i ≡ Some p → slice_get lists p ≡ Some v
      → AreLists n ws regs (k + 1) (i + 1) (set lists p (k ∷ v))
  lists_operand k i s p lists v w at read here = record {
    all = λ q j h r. on_old lists p k v here q j (w.all q j h r);
    own = λ q j m t e l f g. elim (lower_or_last m i l) [
      | inl h ↦ on_old lists p k v here q j (w.own q j m t e h f g)
      | inr z ↦
          let same : j ≡ k = omega (arith, e) in
          let ss : Some t ≡ Some s = sym f ∙ ap (slice_get ws) same ∙ at in
          let one : t ≡ s = cc in
          let ps : Some q ≡ Some p = sym g ∙ ap (λ y. slice_get (operands_of n y) m) one ∙ ap (slice_get (operands_of n s)) z ∙ read in
          let place : q ≡ p = cc in
          subst (λ y. On (set lists p (k ∷ v)) y j) (sym place) (subst (λ y. On (set lists p (k ∷ v)) p y) (sym same) (on_new lists p k v here))
    ];
    only = λ q j c. elim (on_was lists p k v here q j c) [
      | inl o ↦ w.only q j o
      | inr z ↦ inl (s, i, ap (slice_get ws) z.1 ∙ at, read ∙ ap Some (sym z.0))
    ];
  }

  pub lists_step : (k i s : ℕ) (lists : List (List ℕ)) → AreLists n ws regs (k + 1) i lists → slice_get ws k ≡ Some s → length (operands_of n s) ≤ i → AreLists n ws regs k 0 lists
  lists_step k i s lists w at le = record {
    all = λ p j h r. elim (lower_or_last k j (omega (arith, h))) [
      | inl l ↦ w.all p j (omega (arith, l)) r
      | inr z ↦ elim r [
        | inl t ↦
            let ss : Some t.0 ≡ Some s = sym t.2 ∙ ap (slice_get ws) (sym z) ∙ at in
            let one : t.0 ≡ s = cc in
            w.own p j t.1 t.0 (omega (arith, z)) (let a = slice_get_within (operands_of n s) t.1 p (ap (λ y. slice_get (operands_of n y) t.1) (sym one) ∙ t.3) in omega (arith, a, le)) t.2 t.3
        | inr t ↦ absurd (let a = slice_get_within ws k s at in let b = t.2 in omega (arith, a, b, z))
      ]
    ];
    own = λ p j m t e l f g. absurd (omega (arith, l));
    only = w.only;
  }

-- ---- the lists one after another

pub flat_step : (lists : List (List ℕ)) (starts readers : List ℕ) (p : ℕ) (v : List ℕ) → AreFlat lists starts readers p → slice_get lists p ≡ Some v
    → AreFlat lists (starts ++ length (readers ++ v) ∷ []) (readers ++ v) (p + 1)
flat_step lists starts readers p v w here =
    let new = readers ++ v in
    let long = length-append readers v in
    let begun = starts ++ length new ∷ [] in
    let before : (q : ℕ) → q ≤ p → slice_index begun q ≡ slice_index starts q = λ q l. index_front starts (length new ∷ []) q (let a = w.long in omega (arith, a, l)) in
    let end : slice_index begun (p + 1) ≡ length new = ap (slice_index begun) (sym w.long) ∙ index_end starts (length new) in
    record {
      long = (let a = length-append starts (length new ∷ []) in let b = w.long in omega (arith, a, b));
      last = end;
      ordered = λ q h. elim (lower_or_last q p h) [
        | inl l ↦ (let a = before q (omega (arith, l)) in let b = before (q + 1) (omega (arith, l)) in let c = w.ordered q l in omega (arith, a, b, c))
        | inr z ↦ subst (λ x. slice_index begun x ≤ slice_index begun (x + 1)) (sym z) (let a = before p (omega arith) in let b = w.last in omega (arith, a, b, end, long))
      ];
      within = λ q h. elim (lower_or_last q (p + 1) (omega (arith, h))) [
        | inl l ↦ (let a = before q (omega (arith, l)) in let b = w.within q (omega (arith, l)) in omega (arith, a, b, long))
        | inr z ↦ subst (λ x. slice_index begun x ≤ length new) (sym z) (omega (arith, end))
      ];
      all = λ q j h c. elim (lower_or_last q p h) [
        | inl l ↦
            let r = w.all q j l c in (
              r.0,
              (let a = before q (omega (arith, l)) in let b = r.1 in omega (arith, a, b)),
              (let a = before (q + 1) (omega (arith, l)) in let b = r.2 in omega (arith, a, b)),
              get_front readers v r.0 j r.3,
            )
        | inr z ↦
            let e = c.1 in
            let vs : Some c.0 ≡ Some v = sym c.2 ∙ ap (slice_get lists) z ∙ here in
            let one : c.0 ≡ v = cc in
            let g : slice_get v e ≡ Some j = ap (λ l. slice_get l e) (sym one) ∙ c.3 in
            let b = w.last in
            let in_v = slice_get_within v e j g in (
              length readers + e,
              subst (λ y. slice_index begun y ≤ length readers + e) (sym z) (let a = before p (omega arith) in omega (arith, a, b)),
              subst (λ y. length readers + e < slice_index begun (y + 1)) (sym z) (omega (arith, end, long, in_v)),
              get_back readers v e ∙ g,
            )
      ];
      only = λ q j h r. elim (lower_or_last q p h) [
        | inl l ↦
            let a = before q (omega (arith, l)) in
            let b = before (q + 1) (omega (arith, l)) in
            let c = w.within (q + 1) (omega (arith, l)) in
            let low = r.1 in
            let high = r.2 in
            elim (get_split readers v r.0 j r.3) [
              | inl d ↦ w.only q j l (r.0, omega (arith, a, low), omega (arith, b, high), d)
              | inr d ↦ absurd (let z = d.1 in omega (arith, z, b, c, high))
            ]
        | inr z ↦
            let low : slice_index begun p ≤ r.0 = subst (λ y. slice_index begun y ≤ r.0) z r.1 in
            let a = before p (omega arith) in
            let b = w.last in
            elim (get_split readers v r.0 j r.3) [
              | inl d ↦ absurd (let c = slice_get_within readers r.0 j d in omega (arith, a, b, c, low))
              | inr d ↦ (v, d.0, ap (slice_get lists) z ∙ here, d.2)
            ]
      ];
      from = λ j k e. elim (get_split readers v j k e) [
        | inl d ↦ w.from j k d
        | inr d ↦ (p, (v, d.0, here, d.2))
      ];
    }

-- ---- the table

module _ (n : Netlist) (ws : List ℕ) (regs : List Register) (starts readers : List ℕ) (lists : List (List ℕ)) (a : AreLists n ws regs 0 0 lists) (b : AreFlat lists starts readers (length lists)) where
  pub table_lists : (places : ℕ) → places ≡ length lists → Lists starts readers places ((first_register (length ws) + length regs + 63) / 64)
  table_lists places f = record {
    long = (let c = b.long in omega (arith, c, f));
    ordered = λ p h. b.ordered p (omega (arith, h, f));
    within = λ p h. b.within (p + 1) (omega (arith, h, f));
    known = λ j k h. let c = b.from j k h in let d = reader_below n ws regs c.0 k (a.only c.0 k c.1) in omega (arith, d);
  }

  listed : (p k : ℕ) → Reader starts readers p k → On lists p k
  listed p k r = elim (cases_lt p (length lists)) [
    | inl l ↦ b.only p k l r
    | inr l ↦ absurd (let z = index_past starts (p + 1) (let y = b.long in omega (arith, y, l)) in let u = r.2 in omega (arith, z, u))
  ]

  pub table_readers : AreReaders n ws regs starts readers
  table_readers = record {
    all = λ p k i s f g. let c = a.all p k (omega arith) (inl (s, i, f, g)) in b.all p k (slice_get_within lists p c.0 c.2) c;
    nexts = λ k r e. let c = a.all r.next.0 (first_register (length ws) + k) (omega arith) (inr (k, r, refl, e, refl)) in b.all r.next.0
        (first_register (length ws) + k) (slice_get_within lists r.next.0 c.0 c.2) c;
    only = λ p k r l. elim (a.only p k (listed p k r)) [ inl s ↦ s | inr s ↦ absurd (let c = s.2 in omega (arith, c, l)) ];
    within = λ p k r. reader_below n ws regs p k (a.only p k (listed p k r));
  }
