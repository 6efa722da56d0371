-- The names of the layout are found as registers.
use Rattle.safl_circuit.proofs.Common.{All, Choice, Names, Numbered, Program, Scheme, bytes_eq-Decides, many, same_Some, some_none}
use Rattle.std.proofs.Common.{◌≡◌, ℕ, zero, suc, ◌+◌, ◌<◌, ◌≤◌, List, [], ◌∷◌, ◌++◌, map, length, Option, Some, true, false, cond, refl, sym, ap, ◌∙◌, subst, inl, inr, ⊎_elim, ◌⊎◌, arith, bytes_eq}
use Rattle.std.specs.Prelude.{slice_get, codes}
use Rattle.std.proofs.lemmas.List.Elements.{All-nil, All-cons}
use Rattle.std.proofs.lemmas.Bool.{and_parts, and_from, ltb-true, leb-true, eq-eqb, lt-ltb, false_from_ne_true}
use Rattle.safl_net.specs.Netlist.{Netlist, Signal, Kind, Input, Reg, Wire, place}
use Rattle.safl_circuit.specs.Names.{of_function, of_site, of_param, is_unit, is_site}
use Rattle.safl_circuit.specs.Layout.{Line, lines, named, member_lines, unit_lines, site_lines, layout_registers, register_kind, each_line, IsLineOf}

-- the signal of the name is a register
pub record IsRegister (n : Netlist) (name : List ℕ) : Type 0 where
  pub at : ℕ
  pub signal : Signal
  pub init : ℕ
  pub then : Option ℕ
  pub found : place n.signals name 0 ≡ Some at
  pub there : slice_get n.signals at ≡ Some signal
  pub kind : signal.kind ≡ Reg init then

-- the layout's names are registers
pub record Laid (C : Program) (D : Names) (P : Choice) (n : Netlist) : Type 0 where
  pub run : (u : ℕ) → is_unit C u ≡ true → IsRegister n (of_function D (codes "run$") u)
  pub fin : (u : ℕ) → is_unit C u ≡ true → IsRegister n (of_function D (codes "fin$") u)
  pub res : (u : ℕ) → is_unit C u ≡ true → IsRegister n (of_function D (codes "res$") u)
  pub at : (f : ℕ) → f < C.functions → many C f ≡ true → IsRegister n (of_function D (codes "at$") f)
  pub arg : (f : ℕ) → f < C.functions → All (λ p. IsRegister n (of_param D f p)) (D.params f)
  pub sent : (k : ℕ) → is_site C k ≡ true → IsRegister n (of_site (codes "sent$") k)
  pub got : (k : ℕ) → is_site C k ≡ true → IsRegister n (of_site (codes "got$") k)
  pub keep : (k : ℕ) → 0 < k → k ≤ C.sites → P.kept k ≡ true → IsRegister n (of_site (codes "keep$") k)

pub has_left : (x : Line) (xs ys : List Line) → IsLineOf x xs → IsLineOf x (xs ++ ys)
has_left x [] ys h = absurd h
has_left x (y ∷ xs) ys (inl e) = inl e
has_left x (y ∷ xs) ys (inr h) = inr (has_left x xs ys h)

pub has_right : (x : Line) (xs ys : List Line) → IsLineOf x ys → IsLineOf x (xs ++ ys)
has_right x [] ys h = h
has_right x (y ∷ xs) ys h = inr (has_right x xs ys h)

pub has_side : (x : Line) (xs ys : List Line) → IsLineOf x (xs ++ ys) → IsLineOf x xs ⊎ IsLineOf x ys
has_side x [] ys h = inr h
has_side x (y ∷ xs) ys (inl e) = inl (inl e)
has_side x (y ∷ xs) ys (inr h) = ⊎_elim (λ a. inl (inr a)) (λ b. inr b) (has_side x xs ys h)

pub lines_has : (g : ℕ → List Line) (n i : ℕ) (x : Line) → i < n → IsLineOf x (g i) → IsLineOf x (lines g n)
unfolding lines
lines_has g zero i x lt h = absurd (omega arith)
lines_has g (suc n) i x lt h = ⊎_elim
    (λ same. has_right x (lines g n) (g n) (subst (λ k. IsLineOf x (g k)) same h))
    (λ lower. has_left x (lines g n) (g n) (lines_has g n i x lower h))
    (split i n lt)
  where
    split : (i n : ℕ) → i < suc n → (i ≡ n) ⊎ (i < n)
    split i n lt = grind arith

-- where a register's line stands, there is the register
record Found (gs : List Signal) (name : List ℕ) : Type 0 where
  pub at : ℕ
  pub signal : Signal
  pub init : ℕ
  pub then : Option ℕ
  pub there : slice_get gs at ≡ Some signal
  pub is_named : signal.name ≡ name
  pub kind : signal.kind ≡ Reg init then

here : (g : Signal) (gs : List Signal) (name : List ℕ) (w : ℕ) (k : Kind) → g.kind ≡ k → IsLineOf (name, w) (register_kind (g.name, g.width) k) → Found (g ∷ gs) name
here g gs name w Input e h = absurd h
here g gs name w (Wire cell) e h = absurd h
here g gs name w (Reg init next) e (inr h) = absurd h
here g gs name w (Reg init next) e (inl is) = record { at = 0; signal = g; init = init; then = next; there = refl; is_named = ap (λ p. p.0) is; kind = e }

found : (gs : List Signal) (name : List ℕ) (w : ℕ) → IsLineOf (name, w) (each_line register_kind gs) → Found gs name
unfolding each_line
found [] name w h = absurd h
found (g ∷ gs) name w h = ⊎_elim
    (λ a. here g gs name w g.kind refl a)
    (λ b. let f = found gs name w b in record { at = suc f.at; signal = f.signal; init = f.init; then = f.then; there = f.there; is_named = f.is_named; kind = f.kind })
    (has_side (name, w) (register_kind (g.name, g.width) g.kind) (each_line register_kind gs) h)

pub placed : (gs : List Signal) (name : List ℕ) (i j : ℕ) (g : Signal) →
    ((a b : ℕ) (x y : Signal) → slice_get gs a ≡ Some x → slice_get gs b ≡ Some y → x.name ≡ y.name → a ≡ b) → slice_get gs j ≡ Some g → g.name ≡ name
    → place gs name i ≡ Some (i + j)
unfolding place
placed [] name i j g own e is = absurd (some_none g (sym e))
placed (x ∷ gs) name i zero g own e is =
    let same : bytes_eq x.name name ≡ true = (bytes_eq-Decides x.name name).1 (ap (λ s. s.name) (same_Some x g e) ∙ is) in
    ap (λ b. cond b (Some i) (place gs name (suc i))) same ∙ ap Some plus
  where
    plus : i ≡ i + 0
    plus = omega arith
placed (x ∷ gs) name i (suc j) g own e is =
    let other : bytes_eq x.name name ≡ false = false_from_ne_true _ (λ t. zero_suc j (own 0 (suc j) x g refl e ((bytes_eq-Decides x.name name).0 t ∙ sym is))) in
    ap (λ b. cond b (Some i) (place gs name (suc i))) other ∙ placed gs name (suc i) j g (λ a b p q pa qb s. down a b (own (suc a) (suc b) p q pa qb s)) e is ∙ ap Some plus
  where
    plus : suc i + j ≡ i + suc j
    plus = omega arith

    zero_suc : (j : ℕ) → 0 ≡ suc j → ⊥
    zero_suc j e = omega (arith, e)

    down : (a b : ℕ) → suc a ≡ suc b → a ≡ b
    down a b e = omega (arith, e)

module _ (C : Program) (D : Names) (P : Choice) (n : Netlist) (good : Numbered C) (scheme : Scheme C D P n) where
  register : (name : List ℕ) (w : ℕ) → IsLineOf (name, w) (layout_registers C D P) → IsRegister n name
  register name w h =
      let f = found n.signals name w (subst (IsLineOf (name, w)) (sym scheme.registers) h) in
      let at : place n.signals name 0 ≡ Some f.at = placed n.signals name 0 f.at f.signal scheme.distinct f.there f.is_named ∙ ap Some (plus f.at) in
      record { at = f.at; signal = f.signal; init = f.init; then = f.then; found = at; there = f.there; kind = f.kind }
    where
      plus : (j : ℕ) → 0 + j ≡ j
      plus j = omega arith

  pub in_unit : (u : ℕ) (x : Line) → u < C.functions → IsLineOf x (unit_lines C D u) → IsLineOf x (layout_registers C D P)
  in_unit u x lt h = has_left x (lines (unit_lines C D) C.functions) (lines (site_lines C P) (suc C.sites)) (lines_has (unit_lines C D) C.functions u x lt h)

  in_site : (k : ℕ) (x : Line) → k ≤ C.sites → IsLineOf x (site_lines C P k) → IsLineOf x (layout_registers C D P)
  in_site k x le h = has_right x (lines (unit_lines C D) C.functions) (lines (site_lines C P) (suc C.sites)) (lines_has (site_lines C P) (suc C.sites) k x (omega arith) h)

  pub unit_lt : (u : ℕ) → is_unit C u ≡ true → u < C.functions
  unit_lt u is = ltb-true u C.functions (and_parts _ _ is).0

  pub unit_is : (u : ℕ) → is_unit C u ≡ true → unit_lines C D u ≡ (of_function D (codes "run$") u, 1) ∷ (of_function D (codes "fin$") u, 1) ∷
      (of_function D (codes "res$") u, C.result u) ∷ lines (member_lines C D u) C.functions
  unit_is u is = ap (λ b. cond b ((of_function D (codes "run$") u, 1) ∷ (of_function D (codes "fin$") u, 1) ∷
      (of_function D (codes "res$") u, C.result u) ∷ lines (member_lines C D u) C.functions) []) is

  site_parts : (k : ℕ) → is_site C k ≡ true → (0 < k) × (k ≤ C.sites)
  site_parts k is = let a = and_parts _ _ is in (ltb-true 0 k a.0, leb-true k C.sites a.1)

  site_is : (k : ℕ) → 0 < k → site_lines C P k ≡ (of_site (codes "sent$") k, 1) ∷ (of_site (codes "got$") k, 1) ∷ cond (P.kept k) ((of_site (codes "keep$") k, C.result (C.callee k)) ∷ []) []
  site_is k pos = ap (λ b. cond b ((of_site (codes "sent$") k, 1) ∷ (of_site (codes "got$") k, 1) ∷ cond (P.kept k) ((of_site (codes "keep$") k, C.result (C.callee k)) ∷ []) []) []) (lt-ltb 0 k pos)

  abbrev own_lines : ℕ → List Line
  own_lines f = cond (many C f) ((of_function D (codes "at$") f, 1) ∷ []) [] ++ named (map (of_param D f) (D.params f)) (C.params f)

  in_member : (f : ℕ) (x : Line) → is_unit C (C.unit f) ≡ true → f < C.functions → IsLineOf x (own_lines f) → IsLineOf x (layout_registers C D P)
  in_member f x is lt h =
      in_unit (C.unit f) x (unit_lt (C.unit f) is)
      (subst (IsLineOf x) (sym (unit_is (C.unit f) is)) (inr (inr (inr (lines_has (member_lines C D (C.unit f)) C.functions f x lt
      (subst (IsLineOf x) (sym (ap (λ b. cond b (own_lines f) []) (eq-eqb (C.unit f) (C.unit f) refl))) h))))))

  -- each parameter's register
  params_all : (f : ℕ) (ps : List (List ℕ)) (ws : List ℕ) → length ps ≡ length ws →
      ((x : Line) → IsLineOf x (named (map (of_param D f) ps) ws) → IsLineOf x (layout_registers C D P)) → All (λ p. IsRegister n (of_param D f p)) ps
  params_all f [] ws len up = All-nil (λ p. IsRegister n (of_param D f p))
  params_all f (p ∷ ps) [] len up = absurd (omega (arith, len))
  params_all f (p ∷ ps) (w ∷ ws) len up = All-cons (λ p. IsRegister n (of_param D f p)) p ps
      (register (of_param D f p) w (up (of_param D f p, w) (inl refl))) (params_all f ps ws (omega (arith, len)) (λ x h. up x (inr h)))

  pub units : (f : ℕ) → f < C.functions → is_unit C (C.unit f) ≡ true
  units f lt = let first = good.first f lt in and_from _ _ (lt-ltb (C.unit f) C.functions (omega (arith, first, lt))) (eq-eqb (C.unit (C.unit f)) (C.unit f) (good.again f lt))

  pub laid : Laid C D P n
  laid = record {
    run = λ u is. register _ 1 (in_unit u _ (unit_lt u is) (subst (IsLineOf (of_function D (codes "run$") u, 1)) (sym (unit_is u is)) (inl refl)));
    fin = λ u is. register _ 1 (in_unit u _ (unit_lt u is) (subst (IsLineOf (of_function D (codes "fin$") u, 1)) (sym (unit_is u is)) (inr (inl refl))));
    res = λ u is. register _ (C.result u) (in_unit u _ (unit_lt u is) (subst (IsLineOf (of_function D (codes "res$") u, C.result u)) (sym (unit_is u is)) (inr (inr (inl refl)))));
    at = λ f lt is. register _ 1 (in_member f _ (units f lt) lt
        (has_left (of_function D (codes "at$") f, 1) (cond (many C f) ((of_function D (codes "at$") f, 1) ∷ []) [])
        (named (map (of_param D f) (D.params f)) (C.params f)) (subst (IsLineOf (of_function D (codes "at$") f, 1))
        (sym (ap (λ b. cond b ((of_function D (codes "at$") f, 1) ∷ []) []) is)) (inl refl))));
    arg = λ f lt. params_all f (D.params f) (C.params f) (scheme.params f lt)
        (λ x h. in_member f x (units f lt) lt (has_right x (cond (many C f) ((of_function D (codes "at$") f, 1) ∷ []) [])
        (named (map (of_param D f) (D.params f)) (C.params f)) h));
    sent = λ k is. let a = site_parts k is in register _ 1 (in_site k _ a.1 (subst (IsLineOf (of_site (codes "sent$") k, 1)) (sym (site_is k a.0)) (inl refl)));
    got = λ k is. let a = site_parts k is in register _ 1 (in_site k _ a.1 (subst (IsLineOf (of_site (codes "got$") k, 1)) (sym (site_is k a.0)) (inr (inl refl))));
    keep = λ k pos le kept. register _ (C.result (C.callee k))
        (in_site k _ le (subst (IsLineOf (of_site (codes "keep$") k, C.result (C.callee k)))
        (sym (site_is k pos ∙ ap (λ b. (of_site (codes "sent$") k, 1) ∷ (of_site (codes "got$") k, 1) ∷ cond b
        ((of_site (codes "keep$") k, C.result (C.callee k)) ∷ []) []) kept)) (inr (inr (inl refl)))));
  }
