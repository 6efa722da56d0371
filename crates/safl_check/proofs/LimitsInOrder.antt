-- Limits, definition by definition, and the last definition.
use Rattle.safl_check.proofs.Common.{Def, Definition, Fault, Param, bytes_eq, drop_more, known, option_map, or_else, shown_heads}
use Rattle.std.proofs.Common.{◌≡◌, ℕ, zero, suc, ◌+◌, ◌-◌, ◌<◌, ◌≤◌, arith, List, [], ◌∷◌, length, map, drop, get_or, Bool, true, false, Option, Some, None, refl, sym, ap, ◌∙◌}
use Rattle.std.specs.Prelude.{min, nat_lt, nat_le, slice_get, codes}
use Rattle.std.proofs.lemmas.Bool.{ltb-true, ltb-false, leb-true, le-leb}
use Rattle.std.proofs.lemmas.Bool.Decides.{same_from_decides}
use Rattle.std.proofs.lemmas.Option.{slice_get_read, slice_get_past, slice_get-map}
use Rattle.safl_word.specs.declared.fault.Rule.TheVariants as rules
use Rattle.safl_tree.specs.Shown.{shown_definition, shown_definitions, shown_parameters}
use Rattle.safl_word.specs.Limits.{bindings_max, params_max, sites_max, nodes_max}
use Rattle.safl_typing.specs.Heads.{Head, sites, unit_of}
use Rattle.safl_typing.specs.declared.heads.Head as code_head
use Rattle.safl_typing.specs.Rewriting.{Expression, rewritten, nodes, excess, long_let}
use Rattle.safl_term.proofs.OrElse.{or_else_assoc}
use Rattle.safl_typing.specs.Walk.{fault, fault_with, needs, limit, limits_from, main_fault}
use Rattle.safl_check.proofs.FirstOfTwo.{first_of, second_of, none_both, needs_none}

-- the element that is one too many
pub excess_some : {A B : Type 0} (s : A → B) (place : B → ℕ) (xs : List A) (n : ℕ) (x : A) → true ≡ nat_lt n (length xs) → x ≡ get_or xs n x → excess n (map place (map s xs)) ≡ Some (place (s x))
excess_some {A = A} {B = B} s place xs n x t is =
    let g : slice_get xs n ≡ Some x = slice_get_read xs (length xs) n x refl (ltb-true n (length xs) (sym t)) is in
    slice_get-map place (map s xs) n ∙ ap (option_map place) (slice_get-map s xs n ∙ ap (option_map s) g)

pub excess_none : {A B : Type 0} (s : A → B) (place : B → ℕ) (xs : List A) (n : ℕ) → false ≡ nat_lt n (length xs) → excess n (map place (map s xs)) ≡ None
excess_none {A = A} {B = B} s place xs n f =
    let g : slice_get xs n ≡ None = slice_get_past xs n (ltb-false n (length xs) (sym f)) in
    slice_get-map place (map s xs) n ∙ ap (option_map place) (slice_get-map s xs n ∙ ap (option_map s) g)

-- ---- one definition

abbrev pub list_fault : Definition → Expression → Option Fault
list_fault d e = or_else (limit 2 params_max (excess params_max (map (λ p. p.place) d.params))) (limit 3 bindings_max (long_let e))

abbrev pub sum_fault : ℕ → ℕ → ℕ → Option Fault
sum_fault p s n = or_else (needs (nat_le s sites_max) (fault_with rules.E16 p 4 sites_max)) (needs (nat_le n nodes_max) (fault_with rules.E16 p 5 nodes_max))

-- counting stops above the limit
capped : (c x y : ℕ) → y ≡ min (c + 1) x → nat_le y c ≡ nat_le x c
capped c x y e =
    same_from_decides {P = x ≤ c} (nat_le y c) (nat_le x c) (λ t. let l : y ≤ c = leb-true y c t in omega (arith, e, l), λ h. le-leb y c (omega (arith, e, h))) (leb-true x c, le-leb x c)

sums_capped : (p s n x y : ℕ) → s ≡ min 4001 x → n ≡ min 50001 y → sum_fault p x y ≡ sum_fault p s n
sums_capped p s n x y es en =
    ap (λ (b : Bool). or_else (needs b (fault_with rules.E16 p 4 sites_max)) (needs (nat_le y nodes_max) (fault_with rules.E16 p 5 nodes_max))) (sym (capped 4000 x s es))
    ∙ ap (λ (b : Bool). or_else (needs (nat_le s sites_max) (fault_with rules.E16 p 4 sites_max)) (needs b (fault_with rules.E16 p 5 nodes_max))) (sym (capped 50000 y n en))

-- without a fault the counts are exact
pub record AreWithin (s n x y : ℕ) : Type 0 where
  pub sites : s ≤ 4000
  pub nodes : n ≤ 50000
  pub all_sites : x ≡ s
  pub all_nodes : y ≡ n

sums_within : (p s n x y : ℕ) → s ≡ min 4001 x → n ≡ min 50001 y → None ≡ sum_fault p s n → AreWithin s n x y
sums_within p s n x y es en h =
    let both = none_both (needs (nat_le s sites_max) (fault_with rules.E16 p 4 sites_max)) (needs (nat_le n nodes_max) (fault_with rules.E16 p 5 nodes_max)) h in
    let ls : s ≤ 4000 = leb-true s sites_max (needs_none (nat_le s sites_max) (fault_with rules.E16 p 4 sites_max) both.0) in
    let ln : n ≤ 50000 = leb-true n nodes_max (needs_none (nat_le n nodes_max) (fault_with rules.E16 p 5 nodes_max) both.1) in
    record { sites = ls; nodes = ln; all_sites = omega (arith, es, ls); all_nodes = omega (arith, en, ln) }

grouped : (a b c e r : Option Fault) → or_else a (or_else b (or_else c (or_else e r))) ≡ or_else (or_else a b) (or_else (or_else c e) r)
grouped (Some f) b c e r = refl
grouped None (Some f) c e r = refl
grouped None None c e r = sym (or_else_assoc c e r)

abbrev pub sites_with : List Head → ℕ → ℕ → Expression → ℕ
sites_with all v s b = s + sites (record { heads = all; unit = v }) b

here : (all : List Head) (i u s n : ℕ) (d : Definition) (ds : List Definition) (b : Expression) (v : ℕ) → b ≡ rewritten d.body → v ≡ unit_of i u d
    → limits_from all i u s n (d ∷ ds) ≡ or_else (list_fault d b) (or_else (sum_fault d.place (sites_with all v s b) (n + nodes b)) (limits_from all (suc i) v (sites_with all v s b) (n + nodes b) ds))
here all i u s n d ds b v eb ev =
    let whole : Expression → ℕ → Option Fault = λ (z : Expression) (w : ℕ). or_else (list_fault d z)
    (or_else (sum_fault d.place (sites_with all w s z) (n + nodes z)) (limits_from all (suc i) w (sites_with all w s z) (n + nodes z) ds)) in
    let z : Expression = rewritten d.body in
    let w : ℕ = unit_of i u d in
    let plainly : limits_from all i u s n (d ∷ ds) ≡ whole z w =
    grouped (limit 2 params_max (excess params_max (map (λ p. p.place) d.params))) (limit 3 bindings_max (long_let z))
    (needs (nat_le (sites_with all w s z) sites_max) (fault_with rules.E16 d.place 4 sites_max)) (needs (nat_le (n + nodes z) nodes_max) (fault_with rules.E16 d.place 5 nodes_max))
    (limits_from all (suc i) w (sites_with all w s z) (n + nodes z) ds) in
    plainly ∙ sym (ap (λ (j : ℕ). whole z j) ev) ∙ sym (ap (λ (y : Expression). whole y v) eb)

-- ---- the loop over definitions

-- definition i with its body
pub record IsAt (ds : List Def) (i : ℕ) (d : Def) (b : Expression) : Type 0 where
  pub within : i < length ds
  pub read : d ≡ get_or ds i d
  pub body : b ≡ rewritten (shown_definition d).body

pub body_at : (ds : List Def) (i : ℕ) (d : Def) → i < length ds → d ≡ get_or ds i d → IsAt ds i d (rewritten (shown_definition d).body)
body_at ds i d lt is = record { within = lt; read = is; body = refl }

abbrev pub rest_from : List Head → List Def → ℕ → ℕ → ℕ → ℕ → Option Fault
rest_from all ds i u s n = limits_from all i u s n (shown_definitions (drop i ds))

-- none of those before i passes a limit
pub record IsSearched (all : List Head) (ds : List Def) (i u s n : ℕ) : Type 0 where
  pub rest : limits_from all 0 0 0 0 (shown_definitions ds) ≡ rest_from all ds i u s n
  pub sites : s ≤ 4000
  pub nodes : n ≤ 50000

step : (all : List Head) (ds : List Def) (i u s n : ℕ) (d : Def) (b : Expression) (v : ℕ) → IsAt ds i d b → v ≡ unit_of i u (shown_definition d)
    → rest_from all ds i u s n ≡ or_else (list_fault (shown_definition d) b)
    (or_else (sum_fault d.place (sites_with all v s b) (n + nodes b)) (rest_from all ds (i + 1) v (sites_with all v s b) (n + nodes b)))
step all ds i u s n d b v at ev =
    let lt : i < length ds = at.within in
    let e : suc i ≡ i + 1 = omega arith in
    let t : drop i ds ≡ d ∷ drop (i + 1) ds = drop_more ds i d lt ∙ ap (λ (z : Def). z ∷ drop (i + 1) ds) (sym at.read) in
    ap (λ (l : List Def). limits_from all i u s n (shown_definitions l)) t ∙ here all i u s n (shown_definition d) (shown_definitions (drop (i + 1) ds)) b v at.body ev
    ∙ ap (λ (j : ℕ). or_else (list_fault (shown_definition d) b)
    (or_else (sum_fault d.place (sites_with all v s b) (n + nodes b))
    (limits_from all j v (sites_with all v s b) (n + nodes b) (shown_definitions (drop (i + 1) ds))))) e

pub list_stops : (all : List Head) (ds : List Def) (i u s n : ℕ) (d : Def) (b : Expression) (f : Fault) → IsSearched all ds i u s n → IsAt ds i d b
    → Some f ≡ list_fault (shown_definition d) b → Some f ≡ limits_from all 0 0 0 0 (shown_definitions ds)
list_stops all ds i u s n d b f h at e =
    let v : ℕ = unit_of i u (shown_definition d) in
    sym (h.rest ∙ first_of _ _ _ f (step all ds i u s n d b v at refl) e)

-- without a fault of its lists: its sums, and then the rest
sums_next : (all : List Head) (ds : List Def) (i u s n : ℕ) (d : Def) (b : Expression) (v t m : ℕ) → IsSearched all ds i u s n → IsAt ds i d b → v ≡ unit_of i u (shown_definition d)
    → t ≡ min 4001 (sites_with all v s b) → m ≡ min 50001 (n + nodes b) → None ≡ list_fault (shown_definition d) b
    → limits_from all 0 0 0 0 (shown_definitions ds) ≡ or_else (sum_fault d.place t m) (rest_from all ds (i + 1) v (sites_with all v s b) (n + nodes b))
sums_next all ds i u s n d b v t m h at ev et em e =
    h.rest ∙ second_of _ _ _ (step all ds i u s n d b v at ev) e
    ∙ ap (λ (o : Option Fault). or_else o (rest_from all ds (i + 1) v (sites_with all v s b) (n + nodes b))) (sums_capped d.place t m (sites_with all v s b) (n + nodes b) et em)

pub sum_stops : (all : List Head) (ds : List Def) (i u s n : ℕ) (d : Def) (b : Expression) (v t m : ℕ) (f : Fault) → IsSearched all ds i u s n → IsAt ds i d b → v ≡ unit_of i u (shown_definition d)
    → t ≡ min 4001 (sites_with all v s b) → m ≡ min 50001 (n + nodes b) → None ≡ list_fault (shown_definition d) b → Some f ≡ sum_fault d.place t m →
    Some f ≡ limits_from all 0 0 0 0 (shown_definitions ds)
sum_stops all ds i u s n d b v t m f h at ev et em e q = sym (first_of _ _ _ f (sums_next all ds i u s n d b v t m h at ev et em e) q)

pub searched_next : (all : List Head) (ds : List Def) (i u s n : ℕ) (d : Def) (b : Expression) (v t m : ℕ) → IsSearched all ds i u s n → IsAt ds i d b → v ≡ unit_of i u (shown_definition d)
    → t ≡ min 4001 (sites_with all v s b) → m ≡ min 50001 (n + nodes b) → None ≡ list_fault (shown_definition d) b → None ≡ sum_fault d.place t m → IsSearched all ds (i + 1) v t m
searched_next all ds i u s n d b v t m h at ev et em e q =
    let x : ℕ = sites_with all v s b in
    let y : ℕ = n + nodes b in
    let w : AreWithin t m x y = sums_within d.place t m x y et em q in
    record {
      rest = second_of _ _ _ (sums_next all ds i u s n d b v t m h at ev et em e) q ∙ ap (λ (j : ℕ). rest_from all ds (i + 1) v j y) w.all_sites ∙ ap
          (λ (j : ℕ). rest_from all ds (i + 1) v t j) w.all_nodes;
      sites = w.sites;
      nodes = w.nodes;
    }

-- what the code calls with parts of a definition, and with all heads
pub lists_of : (r : Option Fault) (d : Def) (ps : List Param) (long : Option ℕ) (b : Expression) → ps ≡ d.params.items → long ≡ long_let b
    → r ≡ or_else (limit 2 params_max (excess params_max (map (λ p. p.place) (shown_parameters ps)))) (limit 3 bindings_max long) → r ≡ list_fault (shown_definition d) b
lists_of r d ps long b e l h =
    h ∙ ap (λ (l : List Param). or_else (limit 2 params_max (excess params_max (map (λ p. p.place) (shown_parameters l)))) (limit 3 bindings_max long)) e
    ∙ ap (λ (o : Option ℕ). or_else (limit 2 params_max (excess params_max (map (λ p. p.place) (shown_definition d).params))) (limit 3 bindings_max o)) l

pub sites_of : (hs : List code_head.Head) (all : List Head) (v s t : ℕ) (b : Expression) → shown_heads hs ≡ all → t ≡ min 4001 (s + sites (known hs v) b) → t ≡ min 4001 (sites_with all v s b)
sites_of hs all v s t b p h = h ∙ ap (λ (l : List Head). min 4001 (sites_with l v s b)) p

-- ---- the last definition

last_at : (ds : List Def) (i : ℕ) (d : Def) → length ds ≡ suc i → Some d ≡ slice_get ds i → main_fault (shown_definitions ds) ≡ needs (bytes_eq d.name (codes "main")) (fault rules.E15 d.place)
last_at [] i d e h = absurd cc
last_at (x ∷ []) zero d e h = let g : x ≡ d = cc in ap (λ (z : Def). needs (bytes_eq z.name (codes "main")) (fault rules.E15 z.place)) g
last_at (x ∷ []) (suc i) d e h = absurd cc
last_at (x ∷ (y ∷ ys)) zero d e h = absurd (omega (arith, e))
last_at (x ∷ (y ∷ ys)) (suc i) d e h = last_at (y ∷ ys) i d (omega (arith, e)) h

pub main_at : (ds : List Def) (d : Def) (b : Bool) → Some d ≡ slice_get ds (length ds - 1) → bytes_eq d.name (codes "main") ≡ b → main_fault (shown_definitions ds) ≡ needs b (fault rules.E15 d.place)
main_at [] d b h q = absurd cc
main_at (x ∷ xs) d b h q = last_at (x ∷ xs) (suc (length xs) - 1) d (omega arith) h ∙ ap (λ (z : Bool). needs z (fault rules.E15 d.place)) q
