-- Lists of names that are all different, and what is looked up by them.
use Rattle.safl_verilog.proofs.Common.{Each, bytes_eq-Decides, filter, flat_map, slice_get, ◌⊎◌}
use Rattle.std.proofs.Common.{◌≡◌, ℕ, zero, suc, List, [], ◌∷◌, ◌++◌, map, Bool, true, false, cond, Some, refl, sym, ap, subst, ◌∙◌, inl, inr, bytes_eq}

abbrev pub Name : Type 0
Name = List ℕ

abbrev pub Has : Name → List Name → Type 0
Has w [] = ⊥
Has w (x ∷ xs) = (x ≡ w) ⊎ Has w xs

abbrev pub Distinct : List Name → Type 0
Distinct [] = Unit {0}
Distinct (x ∷ xs) = (Has x xs → ⊥) × Distinct xs

-- no name stands in both
abbrev pub Apart : List Name → List Name → Type 0
Apart xs ys = (w : Name) → Has w xs → Has w ys → ⊥

-- ---- parts of lists

pub has_left : (w : Name) (xs ys : List Name) → Has w xs → Has w (xs ++ ys)
has_left w [] ys h = absurd h
has_left w (x ∷ xs) ys (inl e) = inl e
has_left w (x ∷ xs) ys (inr h) = inr (has_left w xs ys h)

pub has_right : (w : Name) (xs ys : List Name) → Has w ys → Has w (xs ++ ys)
has_right w [] ys h = h
has_right w (x ∷ xs) ys h = inr (has_right w xs ys h)

pub has_either : (w : Name) (xs ys : List Name) → Has w (xs ++ ys) → Has w xs ⊎ Has w ys
has_either w [] ys h = inr h
has_either w (x ∷ xs) ys (inl e) = inl (inl e)
has_either w (x ∷ xs) ys (inr h) = elim (has_either w xs ys h) [ inl a ↦ inl (inr a) | inr b ↦ inr b ]

pub distinct_left : (xs ys : List Name) → Distinct (xs ++ ys) → Distinct xs
distinct_left [] ys h = tt
distinct_left (x ∷ xs) ys h = (λ k. h.0 (has_left x xs ys k), distinct_left xs ys h.1)

pub distinct_right : (xs ys : List Name) → Distinct (xs ++ ys) → Distinct ys
distinct_right [] ys h = h
distinct_right (x ∷ xs) ys h = distinct_right xs ys h.1

pub distinct_apart : (xs ys : List Name) → Distinct (xs ++ ys) → Apart xs ys
distinct_apart [] ys h w a b = a
distinct_apart (x ∷ xs) ys h w (inl e) b = h.0 (has_right x xs ys (subst (λ (v : Name). Has v ys) (sym e) b))
distinct_apart (x ∷ xs) ys h w (inr a) b = distinct_apart xs ys h.1 w a b

pub distinct_join : (xs ys : List Name) → Distinct xs → Distinct ys → Apart xs ys → Distinct (xs ++ ys)
distinct_join [] ys h k a = k
distinct_join (x ∷ xs) ys h k a =
    (λ m. elim (has_either x xs ys m) [ inl p ↦ h.0 p | inr p ↦ a x (inl refl) p ], distinct_join xs ys h.1 k (λ w p q. a w (inr p) q))

pub distinct_swap : (xs ys : List Name) → Distinct (xs ++ ys) → Distinct (ys ++ xs)
distinct_swap xs ys h = distinct_join ys xs (distinct_right xs ys h) (distinct_left xs ys h) (λ w p q. distinct_apart xs ys h w q p)

-- another list stands in between
pub distinct_between : (xs zs ys : List Name) → Distinct (xs ++ ys) → Distinct zs → Apart (xs ++ ys) zs → Distinct (xs ++ (zs ++ ys))
distinct_between xs zs ys h k a =
    distinct_join xs (zs ++ ys) (distinct_left xs ys h) (distinct_join zs ys k (distinct_right xs ys h) (λ w p q. a w (has_right w xs ys q) p))
    (λ w p q. elim (has_either w zs ys q) [ inl m ↦ a w (has_left w xs ys p) m | inr m ↦ distinct_apart xs ys h w p m ])

-- ---- each of a list

pub each_left : {X : Type 0} (P : X → Type 0) (xs ys : List X) → Each P (xs ++ ys) → Each P xs
each_left P [] ys h = tt
each_left P (x ∷ xs) ys h = (h.0, each_left P xs ys h.1)

pub each_right : {X : Type 0} (P : X → Type 0) (xs ys : List X) → Each P (xs ++ ys) → Each P ys
each_right P [] ys h = h
each_right P (x ∷ xs) ys h = each_right P xs ys h.1

pub each_map : {X Y : Type 0} (P : Y → Type 0) (b : X → Y) (xs : List X) → Each P (map b xs) → Each (λ x. P (b x)) xs
each_map P b [] h = tt
each_map P b (x ∷ xs) h = (h.0, each_map P b xs h.1)

pub each_mapped : {X Y : Type 0} (P : Y → Type 0) (b : X → Y) (xs : List X) → Each (λ x. P (b x)) xs → Each P (map b xs)
each_mapped P b [] h = tt
each_mapped P b (x ∷ xs) h = (h.0, each_mapped P b xs h.1)

pub each_both : {X : Type 0} (P Q R : X → Type 0) → ((x : X) → P x → Q x → R x) → (xs : List X) → Each P xs → Each Q xs → Each R xs
each_both P Q R f [] h k = tt
each_both P Q R f (x ∷ xs) h k = (f x h.0 k.0, each_both P Q R f xs h.1 k.1)

pub each_at : {X : Type 0} (P : X → Type 0) (xs : List X) (i : ℕ) (x : X) → Each P xs → slice_get xs i ≡ Some x → P x
each_at P [] i x h e = absurd cc
each_at P (y ∷ xs) zero x h e = let same : y ≡ x = cc in subst P same h.0
each_at P (y ∷ xs) (suc i) x h e = each_at P xs i x h.1 e

-- those that pass a test
pub each_where : {X : Type 0} (P : X → Type 0) (p : X → Bool) (xs : List X) → Each P xs → Each (λ x. P x × (p x ≡ true)) (filter p xs)
each_where P p [] h = tt
each_where P p (x ∷ xs) h = go (p x) refl (filter p xs) (each_where P p xs h.1)
  where
    go : (c : Bool) → p x ≡ c → (ys : List _) → Each (λ x. P x × (p x ≡ true)) ys → Each (λ x. P x × (p x ≡ true)) (cond c (x ∷ ys) ys)
    go true e ys more = ((h.0, e), more)
    go false e ys more = more

pub no_items : {X Y : Type 0} (f : X → List Y) (xs : List X) → Each (λ x. f x ≡ []) xs → flat_map f xs ≡ []
no_items f [] h = refl
no_items f (x ∷ xs) h = ap (λ (l : List _). l ++ flat_map f xs) h.0 ∙ no_items f xs h.1

pub filter_all : {X : Type 0} (p : X → Bool) (xs : List X) → Each (λ x. p x ≡ true) xs → filter p xs ≡ xs
filter_all p [] h = refl
filter_all p (x ∷ xs) h = ap (λ b. cond b (x ∷ filter p xs) (filter p xs)) h.0 ∙ ap (λ (l : List _). x ∷ l) (filter_all p xs h.1)

pub filter_none : {X : Type 0} (p : X → Bool) (xs : List X) → Each (λ x. p x ≡ false) xs → filter p xs ≡ []
filter_none p [] h = refl
filter_none p (x ∷ xs) h = ap (λ b. cond b (x ∷ filter p xs) (filter p xs)) h.0 ∙ filter_none p xs h.1

-- ---- from places

-- names that are the same only at the same place are all different
pub has_at : {X : Type 0} (name : X → Name) (xs : List X) (w : Name) → Has w (map name xs) → (i : ℕ) × (x : X) × (slice_get xs i ≡ Some x) × (name x ≡ w)
has_at name [] w h = absurd h
has_at name (x ∷ xs) w (inl e) = (0, x, refl, e)
has_at name (x ∷ xs) w (inr h) = let k = has_at name xs w h in (suc k.0, k.1, k.2, k.3)

pub distinct_at : {X : Type 0} (name : X → Name) (xs : List X) → ((i j : ℕ) (x y : X) → slice_get xs i ≡ Some x → slice_get xs j ≡ Some y → name x ≡ name y → i ≡ j) → Distinct (map name xs)
distinct_at name [] h = tt
distinct_at name (x ∷ xs) h = (
  λ k. let a = has_at name xs (name x) k in let e : 0 ≡ suc a.0 = h 0 (suc a.0) x a.1 refl a.2 (sym a.3) in cc,
  distinct_at name xs (λ i j y z a b e. let s : suc i ≡ suc j = h (suc i) (suc j) y z a b e in cc),
)

-- ---- tests on names

pub same_name : (w : Name) → bytes_eq w w ≡ true
same_name w = (bytes_eq-Decides w w).1 refl

pub other_name : (v w : Name) → (v ≡ w → ⊥) → bytes_eq v w ≡ false
other_name v w h = go (bytes_eq v w) refl
  where
    go : (b : Bool) → bytes_eq v w ≡ b → b ≡ false
    go true e = absurd (h ((bytes_eq-Decides v w).0 e))
    go false e = refl
