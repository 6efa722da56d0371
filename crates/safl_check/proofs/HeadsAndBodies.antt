-- Heads and bodies, one by one.
use Rattle.safl_check.proofs.Common.{Def, shown_definition, shown_definitions, shown_head, shown_heads}
use Rattle.std.proofs.Common.{◌≡◌, ℕ, suc, ◌+◌, ◌<◌, ◌≤◌, arith, List, [], ◌∷◌, ◌++◌, length, map, take, drop, get_or, refl, sym, ap, ◌∙◌, append_assoc}
use Rattle.std.proofs.lemmas.List.{map-append, take_more, drop_more, take_all}
use Rattle.safl_typing.specs.declared.heads.Head as code
use Rattle.safl_typing.specs.Heads.{Head, unit_of, head_of, heads_from, heads}

-- one more element at the end of two lists that show the same
pub shown_next : {A B C D : Type 0} (s : A → B) (f : B → C) (g : D → C) (xs : List A) (i : ℕ) (x : A) (old new : List D) (y : D)
    → i < length xs → x ≡ get_or xs i x → new ≡ old ++ y ∷ [] → map g old ≡ map f (map s (take i xs)) → g y ≡ f (s x) → map g new ≡ map f (map s (take (i + 1) xs))
shown_next {A = A} {B = B} {C = C} {D = D} s f g xs i x old new y lt is q h e =
    let t : take (i + 1) xs ≡ take i xs ++ x ∷ [] = take_more xs i x lt ∙ ap (λ (z : A). take i xs ++ z ∷ []) (sym is) in
    let m : map f (map s (take (i + 1) xs)) ≡ map f (map s (take i xs)) ++ f (s x) ∷ [] =
    ap (λ (l : List A). map f (map s l)) t ∙ ap (λ (l : List B). map f l) (map-append s (take i xs) (x ∷ [])) ∙ map-append f (map s (take i xs)) (s x ∷ []) in
    ap (λ (l : List D). map g l) q ∙ map-append g old (y ∷ []) ∙ ap (λ (l : List C). l ++ g y ∷ []) h ∙ ap (λ (z : C). map f (map s (take i xs)) ++ z ∷ []) e ∙ sym m

pub shown_all : {A B C : Type 0} (s : A → B) (f : B → C) (xs : List A) (i : ℕ) → length xs ≤ i → map f (map s (take i xs)) ≡ map f (map s xs)
shown_all {A = A} s f xs i le = ap (λ (l : List A). map f (map s l)) (take_all i xs le)

heads_append : (xs ys : List code.Head) → shown_heads (xs ++ ys) ≡ shown_heads xs ++ shown_heads ys
heads_append [] ys = refl
heads_append (x ∷ xs) ys = ap (λ (l : List Head). shown_head x ∷ l) (heads_append xs ys)

-- one more head at the end, and one definition fewer before it
pub heads_next : (ds : List Def) (i u v : ℕ) (d : Def) (old new : List code.Head) (h : code.Head) → i < length ds → d ≡ get_or ds i d → new ≡ old ++ h ∷ []
    → v ≡ unit_of i u (shown_definition d) → shown_head h ≡ head_of v (shown_definition d) → shown_heads old ++ heads_from i u (shown_definitions (drop i ds)) ≡ heads (shown_definitions ds)
    → shown_heads new ++ heads_from (i + 1) v (shown_definitions (drop (i + 1) ds)) ≡ heads (shown_definitions ds)
heads_next ds i u v d old new h lt is q eu e p =
    let s : i + 1 ≡ suc i = omega arith in
    let t : drop i ds ≡ d ∷ drop (i + 1) ds = drop_more ds i d lt ∙ ap (λ (z : Def). z ∷ drop (i + 1) ds) (sym is) in
    let rest : List Head = heads_from (i + 1) v (shown_definitions (drop (i + 1) ds)) in
    let f : heads_from i u (shown_definitions (drop i ds)) ≡ head_of v (shown_definition d) ∷ rest =
    ap (λ (l : List Def). heads_from i u (shown_definitions l)) t ∙ ap (λ (w : ℕ). head_of w (shown_definition d) ∷ heads_from (suc i) w (shown_definitions (drop (i + 1) ds))) (sym eu)
    ∙ ap (λ (n : ℕ). head_of v (shown_definition d) ∷ heads_from n v (shown_definitions (drop (i + 1) ds))) (sym s) in
    ap (λ (l : List code.Head). shown_heads l ++ rest) q ∙ ap (λ (l : List Head). l ++ rest) (heads_append old (h ∷ [])) ∙ append_assoc (shown_heads old) (shown_head h ∷ []) rest
    ∙ ap (λ (z : Head). shown_heads old ++ z ∷ rest) e ∙ sym (ap (λ (l : List Head). shown_heads old ++ l) f) ∙ p
