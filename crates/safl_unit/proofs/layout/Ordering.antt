-- The registers of the layout, which stand by unit, in the order of the functions.
use Rattle.safl_unit.proofs.Common.{CheckedProgram, IsChecked, Names, Program, and-false, append-nil, argument_lines, at_line, codes}
use Rattle.safl_unit.proofs.Common.{eq-eqb, eqb-false, eqb-true, function_lines, lt-ltb, ne_eqb}
use Rattle.std.proofs.Common.{◌≡◌, ℕ, zero, suc, ◌<◌, ◌≤◌, List, [], ◌∷◌, ◌++◌, Bool, true, false, cond, ◌==◌, ◌&&◌, nat_lt, refl, sym, ap, ◌∙◌, arith, append_assoc}
use Rattle.safl_circuit.specs.Names.{of_function, is_unit}
use Rattle.safl_circuit.specs.Layout.{Line, lines, member_lines, unit_lines}

pub lines_cong : (g h : ℕ → List Line) (n : ℕ) → ((i : ℕ) → i < n → g i ≡ h i) → lines g n ≡ lines h n
unfolding lines
lines_cong g h zero e = refl
lines_cong g h (suc n) e = ap (λ l. l ++ g n) (lines_cong g h n (λ i l. e i (omega (arith, l)))) ∙ ap (λ l. lines h n ++ l) (e n (omega arith))

no_lines : (g : ℕ → List Line) (n : ℕ) → ((i : ℕ) → i < n → g i ≡ []) → lines g n ≡ []
unfolding lines
no_lines g zero e = refl
no_lines g (suc n) e = ap (λ l. l ++ g n) (no_lines g n (λ i l. e i (omega (arith, l)))) ∙ e n (omega arith)

module _ (c : CheckedProgram) (h : IsChecked c) where
  abbrev C : Program
  C = c.program

  abbrev D : Names
  D = c.names

  -- the registers of unit u and of its members below n
  abbrev upto : ℕ → ℕ → List Line
  upto n u =
      cond (is_unit C u)
      ((of_function D (codes "run$") u, 1)
      ∷ (of_function D (codes "fin$") u, 1)
      ∷ (of_function D (codes "res$") u, C.result u)
      ∷ lines (member_lines C D u) n)
      []

  own : ℕ → List Line
  own f = at_line C D f ++ argument_lines C D f

  unit_false : (u : ℕ) → (C.unit u ≡ u → ⊥) → is_unit C u ≡ false
  unit_false u other = ap (λ b. nat_lt u C.functions && b) (ne_eqb (C.unit u) u other) ∙ and-false (nat_lt u C.functions)

  unit_true : (u : ℕ) → u < C.functions → C.unit u ≡ u → is_unit C u ≡ true
  unit_true u l e = ap (λ b. b && (C.unit u == u)) (lt-ltb u C.functions l) ∙ eq-eqb (C.unit u) u e

  none_at : (n u : ℕ) → (C.unit u ≡ u → ⊥) → upto n u ≡ []
  none_at n u other =
      ap (λ b. cond b ((of_function D (codes "run$") u, 1) ∷ (of_function D (codes "fin$") u, 1) ∷ (of_function D (codes "res$") u, C.result u) ∷ lines (member_lines C D u) n) []) (unit_false u other)

  -- a function of another unit adds nothing
  same_at : (n u : ℕ) → (C.unit n ≡ u → ⊥) → upto (suc n) u ≡ upto n u
  unfolding lines
  same_at n u other =
      ap (λ l. cond (is_unit C u) ((of_function D (codes "run$") u, 1) ∷ (of_function D (codes "fin$") u, 1) ∷ (of_function D (codes "res$") u, C.result u) ∷ l) [])
      (ap (λ b. lines (member_lines C D u) n ++ cond b (at_line C D n ++ argument_lines C D n) []) (ne_eqb (C.unit n) u other) ∙ append-nil (lines (member_lines C D u) n))

  -- one of the unit adds its own
  more_at : (n u : ℕ) → u < C.functions → C.unit u ≡ u → C.unit n ≡ u → upto (suc n) u ≡ upto n u ++ (at_line C D n ++ argument_lines C D n)
  unfolding lines
  more_at n u l e m =
      ap (λ b. cond b ((of_function D (codes "run$") u, 1) ∷ (of_function D (codes "fin$") u, 1) ∷ (of_function D (codes "res$") u, C.result u) ∷
      (lines (member_lines C D u) n ++ cond (C.unit n == u) (at_line C D n ++ argument_lines C D n) [])) []) (unit_true u l e)
      ∙ ap (λ b. (of_function D (codes "run$") u, 1) ∷ (of_function D (codes "fin$") u, 1) ∷ (of_function D (codes "res$") u, C.result u) ∷
      (lines (member_lines C D u) n ++ cond b (at_line C D n ++ argument_lines C D n) [])) (eq-eqb (C.unit n) u m)
      ∙ sym (ap (λ b. cond b ((of_function D (codes "run$") u, 1) ∷ (of_function D (codes "fin$") u, 1) ∷ (of_function D (codes "res$") u, C.result u)
      ∷ lines (member_lines C D u) n) [] ++ (at_line C D n ++ argument_lines C D n)) (unit_true u l e))

  first_at : (n : ℕ) → n < C.functions → C.unit n ≡ n → upto (suc n) n ≡ function_lines C D n
  first_at n l e =
      more_at n n l e e
      ∙ ap (λ b. cond b ((of_function D (codes "run$") n, 1) ∷ (of_function D (codes "fin$") n, 1) ∷ (of_function D (codes "res$") n, C.result n) ∷
      lines (member_lines C D n) n) [] ++ (at_line C D n ++ argument_lines C D n)) (unit_true n l e)
      ∙ ap (λ ls. ((of_function D (codes "run$") n, 1) ∷ (of_function D (codes "fin$") n, 1) ∷ (of_function D (codes "res$") n, C.result n) ∷ ls) ++ (at_line C D n ++ argument_lines C D n))
      (no_lines (member_lines C D n) n (λ g k. let le = (h.formed.first g (omega (arith, k, l))).0 in ap
      (λ b. cond b (at_line C D g ++ argument_lines C D g) []) (ne_eqb (C.unit g) n (λ q. absurd (omega (arith, q, le, k))))))
      ∙ sym (ap (λ b. cond b ((of_function D (codes "run$") n, 1) ∷ (of_function D (codes "fin$") n, 1) ∷ (of_function D (codes "res$") n, C.result n)
      ∷ []) [] ++ (at_line C D n ++ argument_lines C D n)) (eq-eqb (C.unit n) n e))

  -- a function of an earlier unit: that unit is the last one before it
  later : (n m : ℕ) → n < C.functions → C.unit n < m → m ≤ n → lines (upto (suc n)) m ≡ lines (upto n) m ++ (at_line C D n ++ argument_lines C D n)
  unfolding lines
  later n zero l a b = absurd (omega (arith, a))
  later n (suc m) l a b = by (C.unit n == m) refl (λ w. later n m l w (omega (arith, b)))
    where
      by : (t : Bool) → (C.unit n == m) ≡ t → (C.unit n < m → lines (upto (suc n)) m ≡ lines (upto n) m ++ (at_line C D n ++ argument_lines C D n))
          → lines (upto (suc n)) m ++ upto (suc n) m ≡ (lines (upto n) m ++ upto n m) ++ (at_line C D n ++ argument_lines C D n)
      by true q again =
          let e = eqb-true (C.unit n) m q in
          ap (λ ls. ls ++ upto (suc n) m) (lines_cong (upto (suc n)) (upto n) m (λ u k. same_at n u (λ w. absurd (omega (arith, w, e, k)))))
          ∙ ap (λ ls. lines (upto n) m ++ ls) (more_at n m (omega (arith, l, b)) (ap C.unit (sym e) ∙ (h.formed.first n l).1 ∙ e) e)
          ∙ sym (append_assoc (lines (upto n) m) (upto n m) (at_line C D n ++ argument_lines C D n))
      by false q again =
          let o = eqb-false (C.unit n) m q in
          let other : C.unit m ≡ m → ⊥ = λ w. o (sym (h.groups m n l (omega (arith, a)) (omega (arith, b))) ∙ w) in
          ap (λ ls. lines (upto (suc n)) m ++ ls) (none_at (suc n) m other) ∙ append-nil (lines (upto (suc n)) m)
          ∙ again (omega (arith, a, o))
          ∙ ap (λ ls. ls ++ (at_line C D n ++ argument_lines C D n)) (sym (append-nil (lines (upto n) m)) ∙ ap (λ ls. lines (upto n) m ++ ls) (sym (none_at n m other)))

  in_order : (n : ℕ) → n ≤ C.functions → lines (upto n) n ≡ lines (function_lines C D) n
  unfolding lines
  in_order zero l = refl
  in_order (suc n) l = by (C.unit n == n) refl (in_order n (omega (arith, l)))
    where
      by : (t : Bool) → (C.unit n == n) ≡ t → lines (upto n) n ≡ lines (function_lines C D) n → lines (upto (suc n)) n ++ upto (suc n) n ≡ lines (function_lines C D) n ++ function_lines C D n
      by true q again =
          let e = eqb-true (C.unit n) n q in
          ap (λ ls. ls ++ upto (suc n) n) (lines_cong (upto (suc n)) (upto n) n (λ u k. same_at n u (λ w. absurd (omega (arith, w, e, k)))) ∙ again)
          ∙ ap (λ ls. lines (function_lines C D) n ++ ls) (first_at n (omega (arith, l)) e)
      by false q again =
          let o = eqb-false (C.unit n) n q in
          let le = (h.formed.first n (omega (arith, l))).0 in
          ap (λ ls. lines (upto (suc n)) n ++ ls) (none_at (suc n) n o) ∙ append-nil (lines (upto (suc n)) n)
          ∙ later n n (omega (arith, l)) (omega (arith, le, o)) (omega arith)
          ∙ ap (λ ls. ls ++ (at_line C D n ++ argument_lines C D n)) again
          ∙ ap (λ b. lines (function_lines C D) n ++ (cond b ((of_function D (codes "run$") n, 1) ∷ (of_function D (codes "fin$") n, 1) ∷
          (of_function D (codes "res$") n, C.result n) ∷ []) [] ++ (at_line C D n ++ argument_lines C D n))) (sym q)

  -- the registers of the units in order are those of the functions in order
  pub units_in_order : lines (unit_lines C D) C.functions ≡ lines (function_lines C D) C.functions
  units_in_order = in_order C.functions (omega arith)
