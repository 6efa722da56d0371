-- Ties in a list, and the signals that stand for them.
use Rattle.safl_unit.proofs.Common.{Sig, Signal, eqb-false, eqb-true}
use Rattle.std.proofs.Common.{◌≡◌, ℕ, zero, suc, ◌<◌, List, [], ◌∷◌, ◌++◌, map, length, length-append, Some, Bool, true, false, cond, ◌==◌, slice_get}
use Rattle.std.proofs.Common.{◌⊎◌, inl, inr, refl, sym, ap, subst, ◌∙◌, arith, append_assoc}
use Rattle.safl_unit.specs.Ties.{Tie, sig_of, ties, numbered}

-- it stands in the list
abbrev pub Among : {A : Type 0} → A → List A → Type 0
Among x [] = ⊥
Among x (y ∷ ys) = (y ≡ x) ⊎ Among x ys

pub among_left : {A : Type 0} (x : A) (xs ys : List A) → Among x xs → Among x (xs ++ ys)
among_left x [] ys h = absurd h
among_left x (y ∷ xs) ys (inl e) = inl e
among_left x (y ∷ xs) ys (inr h) = inr (among_left x xs ys h)

pub among_right : {A : Type 0} (x : A) (xs ys : List A) → Among x ys → Among x (xs ++ ys)
among_right x [] ys h = h
among_right x (y ∷ xs) ys h = inr (among_right x xs ys h)

-- of a number below n
pub among_ties : (x : Tie) (g : ℕ → List Tie) (i n : ℕ) → i < n → Among x (g i) → Among x (ties g n)
unfolding ties
among_ties x g i zero l h = absurd (omega (arith, l))
among_ties x g i (suc n) l h = by (i == n) refl (λ k. among_left x (ties g n) (g n) (among_ties x g i n k h))
  where
    by : (b : Bool) → (i == n) ≡ b → (i < n → Among x (ties g n ++ g n)) → Among x (ties g n ++ g n)
    by true e f = among_right x (ties g n) (g n) (subst (λ j. Among x (g j)) (eqb-true i n e) h)
    by false e f = let o = eqb-false i n e in f (omega (arith, l, o))

pub among_cond : {A : Type 0} (x : A) (b : Bool) (xs : List A) → b ≡ true → Among x xs → Among x (cond b xs [])
among_cond x b xs e h = subst (λ t. Among x (cond t xs [])) (sym e) h

-- where it stands, some signal made of it stands
pub made_at : (front back : List Signal) (make : Tie → Signal) (ts : List Tie) (t : Tie) → Among t ts → (s : ℕ) × (slice_get (front ++ (map make ts ++ back)) s ≡ Some (make t))
made_at front back make [] t h = absurd h
made_at front back make (u ∷ ts) t (inl e) = (length front, here front)
  where
    here : (xs : List Signal) → slice_get (xs ++ (make u ∷ (map make ts ++ back))) (length xs) ≡ Some (make t)
    here [] = ap (λ x. Some (make x)) e
    here (x ∷ xs) = here xs
made_at front back make (u ∷ ts) t (inr h) =
    let q = made_at (front ++ make u ∷ []) back make ts t h in
    (q.0, ap (λ l. slice_get l q.0) (sym (append_assoc front (make u ∷ []) (map make ts ++ back))) ∙ q.1)

pub get_at : (xs ys : List Signal) (g : Signal) → slice_get (xs ++ (g ∷ ys)) (length xs) ≡ Some g
get_at [] ys g = refl
get_at (x ∷ xs) ys g = get_at xs ys g

-- signals that are numbered in a row stand at their numbers
pub made_there : (front back : List Signal) (make : Tie → Signal) (ts : List Tie) (first : ℕ) → first ≡ length front → map sig_of ts ≡ numbered first (length ts) → (t : Tie) → Among t ts
    → slice_get (front ++ (map make ts ++ back)) t.1.0 ≡ Some (make t)
made_there front back make [] first e q t h = absurd h
made_there front back make (u ∷ ts) first e q t (inl w) =
    let s : u.1 ≡ record { 0 = first } = cc in
    ap (λ (x : Tie). slice_get (front ++ (make u ∷ (map make ts ++ back))) x.1.0) (sym w)
    ∙ ap (λ (x : Sig). slice_get (front ++ (make u ∷ (map make ts ++ back))) x.0) s
    ∙ ap (λ x. slice_get (front ++ (make u ∷ (map make ts ++ back))) x) e
    ∙ get_at front (map make ts ++ back) (make u) ∙ ap (λ x. Some (make x)) w
made_there front back make (u ∷ ts) first e q t (inr h) =
    let long = length-append front (make u ∷ []) in
    let rest : map sig_of ts ≡ numbered (suc first) (length ts) = cc in
    ap (λ l. slice_get l t.1.0) (sym (append_assoc front (make u ∷ []) (map make ts ++ back)))
    ∙ made_there (front ++ make u ∷ []) back make ts (suc first) (omega (arith, e, long)) rest t h
