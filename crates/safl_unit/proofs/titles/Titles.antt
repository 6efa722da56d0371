-- The names of a circuit's layout are good, and all different.
use Rattle.safl_unit.proofs.Common.{CheckedProgram, Choice, IsChecked, Names, Program, argument_lines, at_line, between, codes}
use Rattle.safl_unit.proofs.Common.{function_lines, list_all, many, of_param, of_site, unit_for, unit_head}
use Rattle.std.proofs.Common.{◌≡◌, ℕ, suc, ◌<◌, ◌≤◌, List, [], ◌∷◌, ◌++◌, length-append, Some, true, false, cond, ◌==◌, nat_lt, slice_get, decimal, refl, sym, ap, ◌∙◌, arith}
use Rattle.std.proofs.lemmas.Fmt.{decimal_injective}
use Rattle.safl_net.specs.Names.{is_good, is_reserved}
use Rattle.safl_circuit.specs.Layout.{Line, lines, site_lines, function_wires, site_wires, layout_inputs, layout_wires}
use Rattle.safl_unit.proofs.titles.Legal.{IsPiece, name_piece, decimal_piece, decimal_digits, good_headed, pair_parts, after_mark, piece_before, piece_after}
use Rattle.safl_unit.proofs.titles.Apart.{Each, Other, Differ, each_more, each_weaker, each_cond, each_lines, each_named, differ_more, differ_cond}
use Rattle.safl_unit.proofs.titles.Apart.{differ_named, differ_lines, head_of, key_of, Belongs, Between, between_of, heads_apart, headed}

-- the names of functions and parameters are names of the language, and differ, and sites have few digits
pub record AreTitled (C : Program) (D : Names) : Type 0 where
  pub name : (f : ℕ) → f < C.functions → IsPiece (D.name f)
  pub names_differ : (f g : ℕ) → f < C.functions → g < C.functions → D.name f ≡ D.name g → f ≡ g
  pub param : (f i : ℕ) (x : List ℕ) → slice_get (D.params f) i ≡ Some x → IsPiece x
  pub params_differ : (f i j : ℕ) (x : List ℕ) → slice_get (D.params f) i ≡ Some x → slice_get (D.params f) j ≡ Some x → i ≡ j
  pub sites : C.sites < 4294967295

pub titled : (c : CheckedProgram) → IsChecked c → AreTitled c.program c.names
titled c h =
    let few = h.limits.sites in
    record {
      name = λ f l. name_piece (c.name f) (h.names.of_functions f l);
      names_differ = h.names.of_functions_differ;
      param = λ f i x e. name_piece x (h.names.of_params f i x e);
      params_differ = h.names.of_params_differ;
      sites = omega (arith, few);
    }

unlike : (m n : ℕ) (x y : List ℕ) → head_of x ≡ m → head_of y ≡ n → m < n → x ≡ y → ⊥
unlike m n x y p q l e = let s = ap head_of e in absurd (omega (arith, p, q, l, s))

wider : (a b c d : ℕ) (key x : List ℕ) → c ≤ a → b ≤ d → Belongs a b key x → Belongs c d key x
wider a b c d key x l m h =
    let p = h.least in
    let q = h.most in
    record { good = h.good; least = omega (arith, l, p); most = omega (arith, m, q); key_is = h.key_is }

broader : (a b c d : ℕ) (x : List ℕ) → c ≤ a → b ≤ d → Between a b x → Between c d x
broader a b c d x l m h =
    let p = h.least in
    let q = h.most in
    record { good = h.good; least = omega (arith, l, p); most = omega (arith, m, q) }

each_broader : (a b c d : ℕ) (ls : List Line) → c ≤ a → b ≤ d → Each (λ l. Between a b l.0) ls → Each (λ l. Between c d l.0) ls
each_broader a b c d ls l m h = each_weaker (λ x. Between a b x.0) (λ x. Between c d x.0) ls (λ x q. broader a b c d x.0 l m q) h

each_between : (a b : ℕ) (key : List ℕ) (ls : List Line) → Each (λ l. Belongs a b key l.0) ls → Each (λ l. Between a b l.0) ls
each_between a b key ls h = each_weaker (λ l. Belongs a b key l.0) (λ l. Between a b l.0) ls (λ l q. between_of a b key l.0 q) h

module _ (C : Program) (D : Names) (P : Choice) (t : AreTitled C D) where
  -- ---- the registers of functions

  module _ (f : ℕ) (l : f < C.functions) where
    unit_names : Each (λ l. Belongs 2 5 (D.name f) l.0) (unit_head C D f)
    unfolding is_reserved
    unit_names = each_cond (λ l. Belongs 2 5 (D.name f) l.0) (C.unit f == f) _ (λ w. (
      headed 2 5 2 (codes "run$") (D.name f) (t.name f l) refl (omega arith) refl refl (omega arith) (omega arith) refl,
      (
        headed 2 5 3 (codes "fin$") (D.name f) (t.name f l) refl (omega arith) refl refl (omega arith) (omega arith) refl,
        (headed 2 5 4 (codes "res$") (D.name f) (t.name f l) refl (omega arith) refl refl (omega arith) (omega arith) refl, tt),
      ),
    ))

    at_names : Each (λ l. Belongs 5 6 (D.name f) l.0) (at_line C D f)
    unfolding is_reserved
    at_names = each_cond (λ l. Belongs 5 6 (D.name f) l.0) (many C f) _ (λ w.
        (headed 5 6 5 (codes "at$") (D.name f) (t.name f l) refl (omega arith) refl refl (omega arith) (omega arith) refl, tt))

    argument : (x : List ℕ) → IsPiece x → Belongs 6 7 (D.name f) (of_param D f x)
    unfolding is_reserved
    argument x p =
        let short = p.short in
        let here = (t.name f l).short in
        let long = length-append (D.name f) (36 ∷ x) in
        record {
          good = good_headed (codes "arg$") (D.name f ++ (36 ∷ x)) refl (omega arith) refl (pair_parts (D.name f) x (t.name f l) p) (omega (arith, short, here, long));
          least = let e : head_of (of_param D f x) ≡ 6 = refl in omega (arith, e);
          most = let e : head_of (of_param D f x) ≡ 6 = refl in omega (arith, e);
          key_is = piece_before (D.name f) x (t.name f l).all;
        }

    argument_names : Each (λ l. Belongs 6 7 (D.name f) l.0) (argument_lines C D f)
    argument_names = each_named (λ l. Belongs 6 7 (D.name f) l.0) (of_param D f) (D.params f) (C.params f) (λ i w x e. argument x (t.param f i x e))

    own_names : Each (λ l. Belongs 5 7 (D.name f) l.0) (at_line C D f ++ argument_lines C D f)
    own_names = each_more (λ l. Belongs 5 7 (D.name f) l.0) (at_line C D f) (argument_lines C D f)
        (each_weaker (λ l. Belongs 5 6 (D.name f) l.0) (λ l. Belongs 5 7 (D.name f) l.0) (at_line C D f) (λ l h. wider 5 6 5 7 (D.name f) l.0 (omega arith) (omega arith) h) at_names)
        (each_weaker (λ l. Belongs 6 7 (D.name f) l.0) (λ l. Belongs 5 7 (D.name f) l.0) (argument_lines C D f) (λ l h. wider 6 7 5 7 (D.name f) l.0 (omega arith) (omega arith) h) argument_names)

    function_names : Each (λ l. Belongs 2 7 (D.name f) l.0) (function_lines C D f)
    function_names = each_more (λ l. Belongs 2 7 (D.name f) l.0) (unit_head C D f) (at_line C D f ++ argument_lines C D f)
        (each_weaker (λ l. Belongs 2 5 (D.name f) l.0) (λ l. Belongs 2 7 (D.name f) l.0) (unit_head C D f) (λ l h. wider 2 5 2 7 (D.name f) l.0 (omega arith) (omega arith) h) unit_names)
        (each_weaker (λ l. Belongs 5 7 (D.name f) l.0) (λ l. Belongs 2 7 (D.name f) l.0) (at_line C D f ++ argument_lines C D f)
        (λ l h. wider 5 7 2 7 (D.name f) l.0 (omega arith) (omega arith) h) own_names)

    function_differ : Differ (function_lines C D f)
    function_differ =
        differ_more (unit_head C D f) (at_line C D f ++ argument_lines C D f)
        (differ_cond (C.unit f == f) _ ((unlike 2 3 _ _ refl refl (omega arith), (unlike 2 4 _ _ refl refl (omega arith), tt)), ((unlike 3 4 _ _ refl refl (omega arith), tt), (tt, tt))))
        (differ_more (at_line C D f) (argument_lines C D f)
        (differ_cond (many C f) _ (tt, tt))
        (differ_named (of_param D f) (λ x. after_mark (after_mark x)) (D.params f) (C.params f) (λ x. piece_after (D.name f) x (t.name f l).all) (t.params_differ f))
        (heads_apart 5 6 6 7 (at_line C D f) (argument_lines C D f) (omega arith) (each_between 5 6 (D.name f) (at_line C D f) at_names)
        (each_between 6 7 (D.name f) (argument_lines C D f) argument_names)))
        (heads_apart 2 5 5 7 (unit_head C D f) (at_line C D f ++ argument_lines C D f) (omega arith)
        (each_between 2 5 (D.name f) (unit_head C D f) unit_names) (each_between 5 7 (D.name f) (at_line C D f ++ argument_lines C D f) own_names))

    wire_names : Each (λ l. Belongs 10 12 (D.name f) l.0) (function_wires D f)
    unfolding is_reserved
    wire_names = (
      headed 10 12 10 (codes "end$") (D.name f) (t.name f l) refl (omega arith) refl refl (omega arith) (omega arith) refl,
      (headed 10 12 11 (codes "loop$") (D.name f) (t.name f l) refl (omega arith) refl refl (omega arith) (omega arith) refl, tt),
    )

    wires_differ : Differ (function_wires D f)
    wires_differ = ((unlike 10 11 _ _ refl refl (omega arith), tt), (tt, tt))

  -- ---- the registers and wires of sites

  module _ (k : ℕ) (l : k < suc C.sites) where
    piece : IsPiece (decimal k)
    piece = let few = t.sites in decimal_piece k (omega (arith, l, few))

    site_names : Each (λ l. Belongs 7 10 (decimal k) l.0) (site_lines C P k)
    unfolding is_reserved
    site_names = each_cond (λ l. Belongs 7 10 (decimal k) l.0) (nat_lt 0 k) _ (λ w. (
      headed 7 10 7 (codes "sent$") (decimal k) piece refl (omega arith) refl refl (omega arith) (omega arith) refl,
      (
        headed 7 10 8 (codes "got$") (decimal k) piece refl (omega arith) refl refl (omega arith) (omega arith) refl,
        each_cond (λ l. Belongs 7 10 (decimal k) l.0) (P.kept k) _ (λ v.
            (headed 7 10 9 (codes "keep$") (decimal k) piece refl (omega arith) refl refl (omega arith) (omega arith) refl, tt)),
      ),
    ))

    site_differ : Differ (site_lines C P k)
    site_differ = differ_cond (nat_lt 0 k) _ (
      (unlike 7 8 _ _ refl refl (omega arith), each_cond (Other (of_site (codes "sent$") k, 1)) (P.kept k) _ (λ v. (unlike 7 9 _ _ refl refl (omega arith), tt))),
      (
        each_cond (Other (of_site (codes "got$") k, 1)) (P.kept k) _ (λ v. (unlike 8 9 _ _ refl refl (omega arith), tt)),
        differ_cond (P.kept k) _ (tt, tt),
      ),
    )

    call_names : Each (λ l. Belongs 12 16 (decimal k) l.0) (site_wires C P k)
    unfolding is_reserved
    call_names = each_cond (λ l. Belongs 12 16 (decimal k) l.0) (nat_lt 0 k) _ (λ w. (
      headed 12 16 12 (codes "want$") (decimal k) piece refl (omega arith) refl refl (omega arith) (omega arith) refl,
      (
        headed 12 16 13 (codes "ret$") (decimal k) piece refl (omega arith) refl refl (omega arith) (omega arith) refl,
        each_more (λ l. Belongs 12 16 (decimal k) l.0) (cond (P.arbiter (unit_for C k)) ((of_site (codes "arb$") k, 1) ∷ []) []) ((of_site (codes "go$") k, 1) ∷ [])
            (each_cond (λ l. Belongs 12 16 (decimal k) l.0) (P.arbiter (unit_for C k)) _
            (λ v. (headed 12 16 14 (codes "arb$") (decimal k) piece refl (omega arith) refl refl (omega arith) (omega arith) refl, tt)))
            (headed 12 16 15 (codes "go$") (decimal k) piece refl (omega arith) refl refl (omega arith) (omega arith) refl, tt),
      ),
    ))

    last_wires : (a b c : Line) (m : ℕ) → head_of a.0 ≡ m → m < 14 → head_of b.0 ≡ 14 → head_of c.0 ≡ 15 → Each (Other a) (cond (P.arbiter (unit_for C k)) (b ∷ []) [] ++ c ∷ [])
    last_wires a b c m e n p q =
        each_more (Other a) (cond (P.arbiter (unit_for C k)) (b ∷ []) []) (c ∷ [])
        (each_cond (Other a) (P.arbiter (unit_for C k)) _ (λ v. (unlike m 14 a.0 b.0 e p (omega (arith, n)), tt))) (unlike m 15 a.0 c.0 e q (omega (arith, n)), tt)

    call_differ : Differ (site_wires C P k)
    call_differ = differ_cond (nat_lt 0 k) _ (
      (unlike 12 13 _ _ refl refl (omega arith), last_wires (of_site (codes "want$") k, 1) _ _ 12 refl (omega arith) refl refl),
      (
        last_wires (of_site (codes "ret$") k, 1) _ _ 13 refl (omega arith) refl refl,
        differ_more (cond (P.arbiter (unit_for C k)) ((of_site (codes "arb$") k, 1) ∷ []) []) ((of_site (codes "go$") k, 1) ∷ [])
            (differ_cond (P.arbiter (unit_for C k)) _ (tt, tt)) (tt, tt)
            (each_cond (λ x. Each (Other x) ((of_site (codes "go$") k, 1) ∷ [])) (P.arbiter (unit_for C k)) _ (λ v. ((unlike 14 15 _ _ refl refl (omega arith), tt), tt))),
      ),
    )

  -- ---- the layout

  sites_differ : (i j : ℕ) → i < suc C.sites → j < suc C.sites → decimal i ≡ decimal j → i ≡ j
  sites_differ i j l m e = let few = t.sites in decimal_injective i j (omega (arith, l, few)) (omega (arith, m, few)) e

  some_digits : (k : ℕ) → k < suc C.sites → decimal k ≡ codes "main" → ⊥
  some_digits k l e =
      let few = t.sites in
      let h : false ≡ true = ap (list_all (between 48 57)) (sym e) ∙ decimal_digits k (omega (arith, l, few)) in
      absurd (cc)

  input_names : Each (λ l. Between 0 2 l.0) (layout_inputs C D)
  unfolding is_good is_reserved
  input_names = (
    record { good = refl; least = omega arith; most = let e : head_of (codes "start") ≡ 0 = refl in omega (arith, e) },
    each_named (λ l. Between 0 2 l.0) (λ x. codes "in$" ++ x) (D.params C.main) (C.params C.main)
        (λ i w x e. let h = headed 0 2 1 (codes "in$") x (t.param C.main i x e) refl (omega arith) refl refl (omega arith) (omega arith) refl in between_of 0 2 x (codes "in$" ++ x) h),
  )

  inputs_differ : Differ (layout_inputs C D)
  inputs_differ = (
    each_named (Other (codes "start", 1)) (λ x. codes "in$" ++ x) (D.params C.main) (C.params C.main) (λ i w x e. unlike 0 1 _ _ refl refl (omega arith)),
    differ_named (λ x. codes "in$" ++ x) after_mark (D.params C.main) (C.params C.main) (λ x. refl) (t.params_differ C.main),
  )

  -- the lines of each part, by the numbers of their heads
  module _ (low high : ℕ) (g : ℕ → List Line) (key : ℕ → List ℕ) where
    lines_between : (n : ℕ) → ((i : ℕ) → i < n → Each (λ l. Belongs low high (key i) l.0) (g i)) → Each (λ l. Between low high l.0) (lines g n)
    lines_between n h = each_lines (λ l. Between low high l.0) g n (λ i l. each_between low high (key i) (g i) (h i l))

  function_heads : Each (λ l. Between 2 7 l.0) (lines (function_lines C D) C.functions)
  function_heads = lines_between 2 7 (function_lines C D) D.name C.functions function_names

  site_heads : Each (λ l. Between 7 10 l.0) (lines (site_lines C P) (suc C.sites))
  site_heads = lines_between 7 10 (site_lines C P) decimal (suc C.sites) site_names

  body_heads : Each (λ l. Between 10 12 l.0) (lines (function_wires D) C.functions)
  body_heads = lines_between 10 12 (function_wires D) D.name C.functions wire_names

  call_heads : Each (λ l. Between 12 16 l.0) (lines (site_wires C P) (suc C.sites))
  call_heads = lines_between 12 16 (site_wires C P) decimal (suc C.sites) call_names

  main_head : Between 15 16 (codes "go$main")
  unfolding is_good is_reserved
  main_head = let e : head_of (codes "go$main") ≡ 15 = refl in record { good = refl; least = omega (arith, e); most = omega (arith, e) }

  not_main : Each (λ l. key_of l.0 ≡ codes "main" → ⊥) (lines (site_wires C P) (suc C.sites))
  not_main = each_lines (λ l. key_of l.0 ≡ codes "main" → ⊥) (site_wires C P) (suc C.sites)
      (λ k l. each_weaker (λ x. Belongs 12 16 (decimal k) x.0) (λ x. key_of x.0 ≡ codes "main" → ⊥) (site_wires C P k) (λ x h e. some_digits k l (sym h.key_is ∙ e)) (call_names k l))

  call_wires_heads : Each (λ l. Between 12 16 l.0) (lines (site_wires C P) (suc C.sites) ++ (codes "go$main", 1) ∷ [])
  call_wires_heads = each_more (λ l. Between 12 16 l.0) (lines (site_wires C P) (suc C.sites)) ((codes "go$main", 1) ∷ []) call_heads
      (broader 15 16 12 16 (codes "go$main") (omega arith) (omega arith) main_head, tt)

  wire_heads : Each (λ l. Between 10 16 l.0) (layout_wires C D P)
  wire_heads = each_more (λ l. Between 10 16 l.0) (lines (function_wires D) C.functions) (lines (site_wires C P) (suc C.sites) ++ (codes "go$main", 1) ∷ [])
      (each_broader 10 12 10 16 (lines (function_wires D) C.functions) (omega arith) (omega arith) body_heads)
      (each_broader 12 16 10 16 (lines (site_wires C P) (suc C.sites) ++ (codes "go$main", 1) ∷ []) (omega arith) (omega arith) call_wires_heads)

  all_wires_differ : Differ (layout_wires C D P)
  all_wires_differ =
      differ_more (lines (function_wires D) C.functions) (lines (site_wires C P) (suc C.sites) ++ (codes "go$main", 1) ∷ [])
      (differ_lines 10 12 (function_wires D) D.name C.functions wires_differ wire_names t.names_differ)
      (differ_more (lines (site_wires C P) (suc C.sites)) ((codes "go$main", 1) ∷ [])
      (differ_lines 12 16 (site_wires C P) decimal (suc C.sites) call_differ call_names sites_differ)
      (tt, tt)
      (each_weaker (λ l. key_of l.0 ≡ codes "main" → ⊥) (λ l. Each (Other l) ((codes "go$main", 1) ∷ [])) (lines (site_wires C P) (suc C.sites)) (λ x h. (λ e. h (ap key_of e), tt)) not_main))
      (heads_apart 10 12 12 16 (lines (function_wires D) C.functions) (lines (site_wires C P) (suc C.sites) ++ (codes "go$main", 1) ∷ []) (omega arith) body_heads call_wires_heads)

  registers_differ : Differ (lines (function_lines C D) C.functions ++ lines (site_lines C P) (suc C.sites))
  registers_differ =
      differ_more (lines (function_lines C D) C.functions) (lines (site_lines C P) (suc C.sites))
      (differ_lines 2 7 (function_lines C D) D.name C.functions function_differ function_names t.names_differ)
      (differ_lines 7 10 (site_lines C P) decimal (suc C.sites) site_differ site_names sites_differ)
      (heads_apart 2 7 7 10 (lines (function_lines C D) C.functions) (lines (site_lines C P) (suc C.sites)) (omega arith) function_heads site_heads)

  register_heads : Each (λ l. Between 2 10 l.0) (lines (function_lines C D) C.functions ++ lines (site_lines C P) (suc C.sites))
  register_heads = each_more (λ l. Between 2 10 l.0) (lines (function_lines C D) C.functions) (lines (site_lines C P) (suc C.sites))
      (each_broader 2 7 2 10 (lines (function_lines C D) C.functions) (omega arith) (omega arith) function_heads)
      (each_broader 7 10 2 10 (lines (site_lines C P) (suc C.sites)) (omega arith) (omega arith) site_heads)

  -- all lines, in the order in which they are declared
  abbrev pub all_lines : List Line
  all_lines = layout_inputs C D ++ ((lines (function_lines C D) C.functions ++ lines (site_lines C P) (suc C.sites)) ++ layout_wires C D P)

  set_heads : Each (λ l. Between 2 16 l.0) ((lines (function_lines C D) C.functions ++ lines (site_lines C P) (suc C.sites)) ++ layout_wires C D P)
  set_heads = each_more (λ l. Between 2 16 l.0) (lines (function_lines C D) C.functions ++ lines (site_lines C P) (suc C.sites)) (layout_wires C D P)
      (each_broader 2 10 2 16 (lines (function_lines C D) C.functions ++ lines (site_lines C P) (suc C.sites)) (omega arith) (omega arith) register_heads)
      (each_broader 10 16 2 16 (layout_wires C D P) (omega arith) (omega arith) wire_heads)

  pub all_heads : Each (λ l. Between 0 16 l.0) all_lines
  all_heads = each_more (λ l. Between 0 16 l.0) (layout_inputs C D) ((lines (function_lines C D) C.functions ++ lines (site_lines C P) (suc C.sites)) ++ layout_wires C D P)
      (each_broader 0 2 0 16 (layout_inputs C D) (omega arith) (omega arith) input_names)
      (each_broader 2 16 0 16 ((lines (function_lines C D) C.functions ++ lines (site_lines C P) (suc C.sites)) ++ layout_wires C D P) (omega arith) (omega arith) set_heads)

  pub all_differ : Differ all_lines
  all_differ =
      differ_more (layout_inputs C D) ((lines (function_lines C D) C.functions ++ lines (site_lines C P) (suc C.sites)) ++ layout_wires C D P)
      inputs_differ
      (differ_more (lines (function_lines C D) C.functions ++ lines (site_lines C P) (suc C.sites)) (layout_wires C D P)
      registers_differ all_wires_differ
      (heads_apart 2 10 10 16 (lines (function_lines C D) C.functions ++ lines (site_lines C P) (suc C.sites)) (layout_wires C D P) (omega arith) register_heads wire_heads))
      (heads_apart 0 2 2 16 (layout_inputs C D) ((lines (function_lines C D) C.functions ++ lines (site_lines C P) (suc C.sites)) ++ layout_wires C D P) (omega arith) input_names set_heads)
